use Rattle.std.proofs.Common.{false, true, eq-eqb, arith}
use Rattle.std.specs.Prelude.{option_map}
use Rattle.std.proofs.lemmas.Bool.{ne_eqb}
use Rattle.runner_calls.specs.Frames.{frames_of}
use Rattle.runner_state.specs.Shown.{bytes_behind}
use Rattle.runner_steps.proofs.Went.{goes_way}
use Rattle.runner_steps.proofs.library.this_way.Goals as goal

pub returns-then-way-eq0 : goal.returns-then-way-eq0
returns-then-way-eq0 c = goes_way c.args.app.now (frames_of c.args.frames.now) c.args.next.now c.args.way c.args.script.left.now true (option_map bytes_behind c.goes_on.result) (eq-eqb c.args.way 0 (omega arith)) c.goes_on.ensures

pub returns-else-way-eq0 : goal.returns-else-way-eq0
returns-else-way-eq0 c = goes_way c.args.app.now (frames_of c.args.frames.now) c.args.next.now c.args.way c.args.script.left.now false (option_map bytes_behind c.raises.result) (ne_eqb c.args.way 0 (λ e. absurd (omega (arith, e)))) c.raises.ensures

-- An instruction that stays in its method: what it is given first, and what it does then.
use Rattle.std.specs.Prelude.{ℕ, List, [], ◌∷◌}
use Rattle.app_machine.specs.declared.app.App.{App}
use Rattle.app_machine.specs.declared.lists.Lists.{Lists}
use Rattle.app_machine.specs.declared.method.Act.{Act}
use Rattle.app_machine.specs.declared.method.Step.{Step}
use Rattle.app_machine.specs.Heap.{Value, Object}
use Rattle.app_machine.specs.State.{World, Frame}
use Rattle.played_machine.specs.Drawing.{Drawing, give, one_of, ◌>>=◌}
use Rattle.played_machine.specs.Local.{Playing, playing, moved}
use Rattle.runner_local.specs.Changed.{changed, read_by}
use Rattle.runner_state.specs.declared.script.Script.{Script}
use Rattle.runner_state.specs.Shown.{value_of}
use Rattle.runner_steps.specs.declared.acting.Given.{Given}

-- where control goes next, beside what was read
abbrev pub next_given : List ℕ → Value → Drawing (Value × ℕ)
next_given next v = one_of next >>= λ pc. give (v, pc)

-- what the script gives it, and where control goes next
abbrev pub given_to : List Object → Frame → Step → Drawing (Value × ℕ)
given_to heap f step = read_by heap f.registers step.act >>= next_given step.next

abbrev pub given_behind : Given × Script → (Value × ℕ) × List ℕ
given_behind drawn = ((value_of drawn.0.read, drawn.0.pc), drawn.1.left.now)

-- the state after the act, where it was given this
abbrev pub acted : App → Lists → World → Act → Value × ℕ → List Frame → Playing
acted app lists w act given [] = playing w []
acted app lists w act given (f ∷ fs) = playing (changed app lists w f.registers act given.0).0 (moved f given.1 (changed app lists w f.registers act given.0).1 ∷ fs)

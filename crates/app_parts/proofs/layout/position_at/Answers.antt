use Rattle.std.proofs.Common.{◌≡◌, Some, slice_get, sym, subst, arith}
use Rattle.app_machine.specs.Events.{layout}
use Rattle.app_parts.proofs.Layouts.{at_receiver, begins}
use Rattle.app_parts.proofs.layout.position_at.Goals as goal

pub returns-then-index-eq0 : goal.returns-then-index-eq0
returns-then-index-eq0 c = subst (λ i. Some 0 ≡ slice_get (layout c.args.params.now) i) (sym c.if-index-eq0.true) (at_receiver c.args.params.now)

pub loop-kind-init : goal.loop-kind-init
loop-kind-init c = begins c.args.params.now c.args.index (omega arith)

use Rattle.std.proofs.Common.{◌++◌, Option, sym, ap, ◌∙◌}
use Rattle.played_machine.specs.Ordered.{ascending}
use Rattle.played_machine.specs.Standing.{if_native_then}
use Rattle.runner_stands.specs.declared.causes.Cause.{Cause}
use Rattle.runner_stands.specs.Stands.{cause_in}
use Rattle.runner_stands.proofs.Reasons.{of_none}
use Rattle.runner_stands.proofs.standing.all_causes.Goals as goal

pub returns-in-None : goal.returns-in-None
returns-in-None c = of_none c.args.natively ∙ ap (λ (o : Option Cause). ascending (cause_in o ++ if_native_then c.args.natively)) (sym c.in-None.is)

pub returns-in-Some : goal.returns-in-Some
returns-in-Some c = c.with_cause.ensures ∙ ap (λ (o : Option Cause). ascending (cause_in o ++ if_native_then c.args.natively)) (sym c.in-Some.is)

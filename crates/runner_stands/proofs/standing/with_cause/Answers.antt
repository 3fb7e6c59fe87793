use Rattle.std.proofs.Common.{◌++◌, ◌∷◌, [], sym, ap, ◌∙◌}
use Rattle.played_machine.specs.Ordered.{ascending}
use Rattle.played_machine.specs.Standing.{if_native_then}
use Rattle.runner_stands.specs.declared.causes.Cause.{Cause}
use Rattle.runner_stands.specs.Stands.{number_of}
use Rattle.runner_stands.proofs.Reasons.{of_native, of_no_summary, of_reflective}
use Rattle.runner_stands.proofs.standing.with_cause.Goals as goal

pub returns-in-NoSummary : goal.returns-in-NoSummary
returns-in-NoSummary c = of_no_summary c.args.natively ∙ ap (λ (cause : Cause). ascending (number_of cause ∷ [] ++ if_native_then c.args.natively)) (sym c.in-NoSummary.is)

pub returns-in-Native : goal.returns-in-Native
returns-in-Native c = of_native c.args.natively ∙ ap (λ (cause : Cause). ascending (number_of cause ∷ [] ++ if_native_then c.args.natively)) (sym c.in-Native.is)

pub returns-in-Reflective : goal.returns-in-Reflective
returns-in-Reflective c = of_reflective c.args.natively ∙ ap (λ (cause : Cause). ascending (number_of cause ∷ [] ++ if_native_then c.args.natively)) (sym c.in-Reflective.is)

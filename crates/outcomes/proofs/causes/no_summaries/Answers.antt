use Rattle.std.proofs.Common.{◌≡◌, List, subst}
use Rattle.std.specs.Prelude.{IfOk}
use Rattle.outcomes.specs.declared.outcome.Cause.{Cause}
use Rattle.outcomes.proofs.Called.{no_summaries_in_order}
use Rattle.outcomes.proofs.causes.no_summaries.Goals as goal

pub returns : goal.returns
returns c =
    let P : List Cause → Type 0 = λ causes. IfOk c.causes_by.result (λ v. v.items ≡ causes) in
    subst P (no_summaries_in_order c.args.app.now c.requires.sound c.args.rows.now c.requires.within) c.causes_by.ensures

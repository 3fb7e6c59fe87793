use Rattle.std.proofs.Common.{◌≡◌, ◌∙◌, ℕ, List, refl, subst}
use Rattle.case_rules.specs.Rules.{session_of}
use Rattle.case_rules.specs.Desk.{plan_over}
use Rattle.desk_serving.specs.Obeying.{handed_plan}
use Rattle.desk_serving.proofs.Handed.{handed_over}
use Rattle.desk_serving.proofs.obeying.planned.Goals as goal

pub returns-clause-over : goal.returns-clause-over
returns-clause-over g c = λ cases is.
    let days = c.args.desk.now.office.appeal_days in
    let command = c.args.command.now in
    let session = session_of c.args.party.now days c.args.day c.edition.result.now in
    subst (λ (edition : List ℕ). c.in_ok-plan.field-0
    ≡ handed_plan (plan_over (session_of c.args.party.now days c.args.day edition) command cases)) c.edition.ensures
    (c.in_ok-plan.ensures.rules
    ∙ handed_over session command c.in_ok-view.view cases (c.in_ok-view.ensures.shows session cases refl is))

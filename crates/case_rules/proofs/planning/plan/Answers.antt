use Rattle.std.proofs.Common.{◌≡◌, refl, sym, ap, subst, ◌∙◌}
use Rattle.case_rules.specs.declared.reply.Plan.{Plan}
use Rattle.case_rules.specs.Rules.{session_of, answered, planned, told}
use Rattle.case_rules.specs.Plans.{IsPlanFor, JudgesTaking}
use Rattle.case_rules.proofs.Planned.{shown_alike, planned_for}
use Rattle.case_rules.proofs.Taken.{takes}
use Rattle.case_rules.proofs.planning.plan.Goals as goal

pub returns-in-Ok-clause-desk : goal.returns-in-Ok-clause-desk
returns-in-Ok-clause-desk c = λ judgement cases docket shows.
    let session = session_of c.args.party.now c.args.appeal_days c.args.day c.args.edition.now in
    let P : Plan → Type 0 = IsPlanFor session judgement c.args.command.now cases in
    let is : planned session c.args.command.now c.args.view.now ≡ c.in-Ok.plan = ap told c.in-Ok.ensures in
    subst P is (planned_for session judgement c.args.command.now c.args.view.now cases docket shows)

pub returns-in-Ok-clause-over : goal.returns-in-Ok-clause-over
returns-in-Ok-clause-over c = λ cases shows.
    let session = session_of c.args.party.now c.args.appeal_days c.args.day c.args.edition.now in
    sym (ap told c.in-Ok.ensures) ∙ ap told (shown_alike session c.args.command.now c.args.view.now cases shows)

pub returns-in-Ok-clause-takes : goal.returns-in-Ok-clause-takes
returns-in-Ok-clause-takes c = λ queued.
    let session = session_of c.args.party.now c.args.appeal_days c.args.day c.args.edition.now in
    let P : Plan → Type 0 = JudgesTaking session in
    let is : planned session c.args.command.now c.args.view.now ≡ c.in-Ok.plan = ap told c.in-Ok.ensures in
    subst P is (takes session c.args.command.now c.args.view.now
    (answered session c.args.command.now c.args.view.now) queued refl)

-- A case that is to be judged takes the decision.
use Rattle.std.proofs.Common.{◌≡◌, true, Option, IfSome, Result, Ok, Err, sym, ap, subst, ◌∙◌, inl, inr}
use Rattle.case_rules.specs.declared.case.Case.{Case}
use Rattle.case_rules.specs.declared.command.Command.{Command}
use Rattle.case_rules.specs.declared.command.Command.TheVariants as commands
use Rattle.case_rules.specs.declared.command.View.{View}
use Rattle.case_rules.specs.declared.reply.Refusal.{Refusal}
use Rattle.case_rules.specs.declared.reply.Reply.TheVariants as replies
use Rattle.case_rules.specs.declared.reply.Plan.{Plan}
use Rattle.case_rules.specs.declared.reply.Plan.TheVariants.{Say}
use Rattle.case_rules.specs.Cases.{is_queued, is_open_by}
use Rattle.case_rules.specs.Rules.{Session, answered, told}
use Rattle.case_rules.specs.Docket.{ShowsQueued}
use Rattle.case_rules.specs.Plans.{JudgesTaking}
use Rattle.case_rules.proofs.Effects.{none_yet}
use Rattle.case_rules.proofs.Inverted.{submit_plans, decide_plans, show_plans, report_plans, appeal_plans, review_plans, rule_plans}

by_plan : (session : Session) (command : Command) (view : View) (plan : Plan) → ShowsQueued view
    → answered session command view ≡ Ok plan → JudgesTaking session plan
by_plan session (commands.Submit reference content) view plan queued e =
    let P : Plan → Type 0 = JudgesTaking session in
    elim (submit_plans _ _ _ _ _ plan e).1 [
      | inl kept ↦ subst P (sym kept.says) tt
      | inr adds ↦ subst P (sym adds.does) tt
    ]
by_plan session commands.Decide view plan queued e =
    let P : Plan → Type 0 = JudgesTaking session in
    let h = decide_plans _ _ plan e in
    let first : is_queued h.case ≡ true =
    subst (λ (o : Option Case). IfSome o (λ case. is_queued case ≡ true)) h.is queued in
    subst P (sym h.judges) (λ judgement. none_yet session.edition h.case.entries first)
by_plan session (commands.Show reference) view plan queued e =
    let P : Plan → Type 0 = JudgesTaking session in
    subst P (sym (show_plans _ _ plan e).says) tt
by_plan session (commands.Report reference) view plan queued e =
    let P : Plan → Type 0 = JudgesTaking session in
    subst P (sym (report_plans _ _ plan e).says) tt
by_plan session (commands.Appeal reference text) view plan queued e =
    let P : Plan → Type 0 = JudgesTaking session in
    subst P (sym (appeal_plans _ _ _ _ _ _ plan e).does) tt
by_plan session (commands.Review developer reference) view plan queued e =
    let P : Plan → Type 0 = JudgesTaking session in
    let h = review_plans _ _ _ plan e in
    subst P (sym h.judges) (λ judgement. (h.fresh, ap is_open_by h.ends ∙ h.closed))
by_plan session (commands.Rule developer reference word) view plan queued e =
    let P : Plan → Type 0 = JudgesTaking session in
    subst P (sym (rule_plans _ _ _ _ _ _ plan e).does) tt
by_plan session commands.List view plan queued e =
    let P : Plan → Type 0 = JudgesTaking session in
    let says : plan ≡ Say (replies.Lines view.lines) = cc in
    subst P (sym says) tt

pub takes : (session : Session) (command : Command) (view : View) (answer : Result Plan Refusal) → ShowsQueued view
    → answered session command view ≡ answer → JudgesTaking session (told answer)
takes session command view (Err refusal) queued is = tt
takes session command view (Ok plan) queued is = by_plan session command view plan queued is

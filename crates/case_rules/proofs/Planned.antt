-- A plan does what the desk does.
use Rattle.std.proofs.Common.{◌≡◌, ℕ, List, Option, Result, Ok, Err, IsSomeAnd, refl, sym, ap, subst, ◌∙◌}
use Rattle.case_rules.specs.declared.case.Case.{Case}
use Rattle.case_rules.specs.declared.case.Line.{Line}
use Rattle.case_rules.specs.declared.command.Command.{Command}
use Rattle.case_rules.specs.declared.command.Command.TheVariants as commands
use Rattle.case_rules.specs.declared.command.View.{View}
use Rattle.case_rules.specs.declared.reply.Refusal.{Refusal}
use Rattle.case_rules.specs.declared.reply.Reply.TheVariants as replies
use Rattle.case_rules.specs.declared.reply.Plan.{Plan}
use Rattle.case_rules.specs.declared.reply.Plan.TheVariants.{Say, Do, Judge}
use Rattle.case_rules.specs.Cases.{with_entry}
use Rattle.case_rules.specs.Rules.{Session, submit, decide, show, report, appeal, review, rule, answered, told, planned}
use Rattle.case_rules.specs.Desk.{Judgement, speaks_of, view_of, decision_by, carried}
use Rattle.case_rules.specs.Docket.{IsDocket, Shows, TakesDecision}
use Rattle.case_rules.specs.Plans.{IsPlanFor}
use Rattle.case_rules.proofs.Dockets.{found_by_name, changed_by_name}
use Rattle.case_rules.proofs.Effects.{effect}

-- the rules look at nothing else
pub shown_alike : (session : Session) (command : Command) (view : View) (cases : List Case)
    → Shows session command view cases
    → answered session command view ≡ answered session command (view_of session command cases)
shown_alike session (commands.Submit reference content) view cases shows =
    ap (λ (found : Option Case). submit session.party reference content found view.queued) shows.0
    ∙ ap (λ (queued : ℕ). submit session.party reference content
    (view_of session (commands.Submit reference content) cases).found queued) shows.1
shown_alike session commands.Decide view cases shows = ap (λ (first : Option Case). decide session.party first) shows
shown_alike session (commands.Show reference) view cases shows =
    ap (λ (found : Option Case). show session.party found) shows
shown_alike session (commands.Report reference) view cases shows =
    ap (λ (found : Option Case). report session.party found) shows
shown_alike session (commands.Appeal reference text) view cases shows =
    ap (λ (found : Option Case). appeal session.party session.appeal_days session.day reference text found) shows
shown_alike session (commands.Review developer reference) view cases shows =
    ap (λ (found : Option Case). review session.party session.edition found) shows
shown_alike session (commands.Rule developer reference word) view cases shows =
    ap (λ (found : Option Case). rule session.party session.day developer reference word found) shows
shown_alike session commands.List view cases shows = ap (λ (lines : List Line). Ok (Say (replies.Lines lines))) shows

pub plan_for : (session : Session) (judgement : Judgement) (command : Command) (cases : List Case)
    (answer : Result Plan Refusal) → IsDocket cases
    → answered session command (view_of session command cases) ≡ answer
    → IsPlanFor session judgement command cases (told answer)
plan_for session judgement command cases (Err refusal) docket is =
    ap (λ (a : Result Plan Refusal). carried (speaks_of session command) (decision_by session judgement)
    (told a) cases) is
plan_for session judgement command cases (Ok (Say reply)) docket is =
    ap (λ (a : Result Plan Refusal). carried (speaks_of session command) (decision_by session judgement)
    (told a) cases) is
plan_for session judgement command cases (Ok (Do change reply)) docket is =
    let done = effect session command cases (Do change reply) is in (
      record {
        fits = done.fits;
        desk = ap (λ (a : Result Plan Refusal).
            carried (speaks_of session command) (decision_by session judgement) (told a) cases) is;
      },
      done.adds_no_decision,
    )
plan_for session judgement command cases (Ok (Judge case)) docket is =
    let judged = effect session command cases (Judge case) is in
    let decision = decision_by session judgement in
    let found = found_by_name (speaks_of session command) cases case docket judged.found in
    record {
      found = found;
      takes = (judged.fresh, judged.closed);
      does = record {
        fits = subst (λ (o : Option Case). IsSomeAnd o (TakesDecision decision)) (sym found)
            (judged.fresh, judged.closed);
        desk = ap (λ (a : Result Plan Refusal). carried (speaks_of session command) decision (told a) cases) is
            ∙ ap (λ (zs : List Case). (replies.Decided case.party case.reference decision.outcome, zs))
            (changed_by_name (speaks_of session command) (with_entry decision) cases case docket judged.found);
      };
    }

pub planned_for : (session : Session) (judgement : Judgement) (command : Command) (view : View) (cases : List Case)
    → IsDocket cases → Shows session command view cases
    → IsPlanFor session judgement command cases (planned session command view)
planned_for session judgement command view cases docket shows =
    subst (λ (a : Result Plan Refusal). IsPlanFor session judgement command cases (told a))
    (sym (shown_alike session command view cases shows))
    (plan_for session judgement command cases (answered session command (view_of session command cases)) docket refl)

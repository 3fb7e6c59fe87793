-- A submission that comes again, and lists of cases that stay dockets.
use Rattle.std.proofs.Common.{◌≡◌, ℕ, Bool, true, false, List, [], ◌∷◌, Option, Some, find, Result, Ok, Err, refl, sym, ap, subst, ◌∙◌}
use Rattle.std.specs.Cmp.Lexicographic.{pointwise_decides, bytes_decides}
use Rattle.std.proofs.lemmas.Bool.{and_from}
use Rattle.std.specs.Prelude.{IsTrue}
use Rattle.vet_base.proofs.Texts.{same_itself}
use Rattle.case_rules.specs.declared.case.Case.{Case}
use Rattle.case_rules.specs.declared.case.Content.{Content}
use Rattle.store_office.specs.declared.party.Party.{Party}
use Rattle.case_rules.specs.declared.command.Command.TheVariants as commands
use Rattle.case_rules.specs.declared.reply.Refusal.{Refusal}
use Rattle.case_rules.specs.declared.reply.Refusal.TheVariants.{WrongRole, OtherContent}
use Rattle.case_rules.specs.declared.reply.Reply.{Reply}
use Rattle.case_rules.specs.declared.reply.Reply.TheVariants as replies
use Rattle.case_rules.specs.declared.reply.Plan.{Plan}
use Rattle.case_rules.specs.declared.reply.Plan.TheVariants.{Say, Do, Judge}
use Rattle.case_rules.specs.Cases.{same_content, is_named, state_of, queued_of}
use Rattle.case_rules.specs.Rules.{Session, ◌>>=◌, allow, is_developer, submit, submit_anew, answered, told}
use Rattle.case_rules.specs.Desk.{Judgement, Turn, speaks_of, view_of, decision_by, carried, desk, cases_then, cases_after}
use Rattle.case_rules.specs.Docket.{IsDocket}
use Rattle.case_rules.specs.Plans.{settled}
use Rattle.case_rules.proofs.Dockets.{docket_after}
use Rattle.case_rules.proofs.Planned.{plan_for}

same_content_itself : (content : Content) → same_content content content ≡ true
same_content_itself c =
    and_from _ _ (and_from _ _ (and_from _ _ (same_itself c.manifest) (same_itself c.layouts))
    (same_itself c.declaration)) ((pointwise_decides bytes_decides c.dex c.dex).1 refl)

allowed : {B : Type 0} (b : Bool) (refusal : Refusal) (f : Unit {0} → Result B Refusal) → b ≡ true
    → (allow b refusal >>= f) ≡ f tt
allowed true refusal f is = refl
allowed false refusal f is = absurd cc

submitted_again : (party : Party) (reference : List ℕ) (content : Content) (found : Option Case) (case : Case)
    (queued : ℕ)
    → is_developer party.role ≡ true → found ≡ Some case → case.content ≡ content
    → submit party reference content found queued ≡ Ok (Say (replies.Kept reference (state_of case)))
unfolding submit
submitted_again party reference content found case queued role is bytes =
    allowed (is_developer party.role) WrongRole _ role
    ∙ ap (λ (o : Option Case). submit_anew party reference content o queued) is
    ∙ allowed (same_content case.content content) OtherContent _
    (subst (λ (c : Content). same_content case.content c ≡ true) bytes (same_content_itself case.content))

holds : (b : Bool) → IsTrue b → b ≡ true
holds b is = is

pub same_again : (session : Session) (judgement : Judgement) (reference : List ℕ) (content : Content)
    (cases : List Case) (case : Case)
    → IsTrue (is_developer session.party.role) → find (is_named session.party.name reference) cases ≡ Some case
    → case.content ≡ content
    → desk session judgement (commands.Submit reference content) cases ≡ (replies.Kept reference (state_of case), cases)
same_again session judgement reference content cases case role is bytes =
    ap (λ (a : Result Plan Refusal). carried (speaks_of session (commands.Submit reference content))
    (decision_by session judgement) (told a) cases)
    (submitted_again session.party reference content (find (is_named session.party.name reference) cases) case
    (queued_of session.party.name cases)
    (holds (is_developer session.party.role) role) is bytes)

docket_by : (turn : Turn) (cases : List Case) (answer : Result Plan Refusal) → IsDocket cases
    → answered turn.session turn.command (view_of turn.session turn.command cases) ≡ answer
    → IsDocket (cases_then turn cases)
docket_by turn cases (Err refusal) docket is =
    subst IsDocket
    (sym (ap (λ (s : Reply × List Case). s.1)
    (plan_for turn.session turn.judgement turn.command cases (Err refusal) docket is))) docket
docket_by turn cases (Ok (Say reply)) docket is =
    subst IsDocket
    (sym (ap (λ (s : Reply × List Case). s.1)
    (plan_for turn.session turn.judgement turn.command cases (Ok (Say reply)) docket is))) docket
docket_by turn cases (Ok (Do change reply)) docket is =
    let does = (plan_for turn.session turn.judgement turn.command cases (Ok (Do change reply)) docket is).0 in
    subst IsDocket (sym (ap (λ (s : Reply × List Case). s.1) does.desk))
    (docket_after change cases docket does.fits)
docket_by turn cases (Ok (Judge case)) docket is =
    let does = (plan_for turn.session turn.judgement turn.command cases (Ok (Judge case)) docket is).does in
    subst IsDocket (sym (ap (λ (s : Reply × List Case). s.1) does.desk))
    (docket_after (settled case (decision_by turn.session turn.judgement)).0 cases docket does.fits)

pub dockets : (turns : List Turn) (cases : List Case) → IsDocket cases → IsDocket (cases_after turns cases)
dockets [] cases docket = docket
dockets (turn ∷ turns) cases docket =
    dockets turns (cases_then turn cases)
    (docket_by turn cases (answered turn.session turn.command
    (view_of turn.session turn.command cases)) docket refl)

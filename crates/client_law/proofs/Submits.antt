-- What a command makes of what the desk has of a developer.
use Rattle.std.proofs.Common.{◌≡◌, ◌≢◌, ℕ, ◌&&◌, true, List, [], ◌∷◌, ◌++◌, None, find, Result, Ok, Err, refl, ap, sym, subst, ◌∙◌, inl, inr}
use Rattle.std.proofs.lemmas.Bool.{and_parts}
use Rattle.vet_base.proofs.Texts.{same_equal, all_equal}
use Rattle.store_office.specs.declared.party.Party.{Party}
use Rattle.case_rules.specs.declared.case.Case.{Case}
use Rattle.case_rules.specs.declared.case.Content.{Content}
use Rattle.case_rules.specs.declared.command.Command.{Command}
use Rattle.case_rules.specs.declared.command.Command.TheVariants as commands
use Rattle.case_rules.specs.declared.command.View.{View}
use Rattle.case_rules.specs.declared.reply.Refusal.{Refusal}
use Rattle.case_rules.specs.declared.reply.Reply.{Reply}
use Rattle.case_rules.specs.declared.reply.Reply.TheVariants as replies
use Rattle.case_rules.specs.declared.reply.Change.{Change}
use Rattle.case_rules.specs.declared.reply.Change.TheVariants as changes
use Rattle.case_rules.specs.declared.reply.Plan.{Plan}
use Rattle.case_rules.specs.declared.reply.Plan.TheVariants.{Say, Do, Judge}
use Rattle.case_rules.specs.Cases.{same, same_content, is_named, with_entry, with_appeal, with_ruling, after, new_case}
use Rattle.case_rules.specs.Rules.{Session, is_developer, answered}
use Rattle.case_rules.specs.Desk.{Turn, view_of, decision_by, speaks_of, carried, reply_to, cases_then}
use Rattle.case_rules.proofs.Inverted.{submit_plans, decide_plans, show_plans, report_plans, appeal_plans, review_plans, rule_plans}
use Rattle.case_rules.proofs.Refused.{step_by}
use Rattle.client_law.specs.Tried.{held_of, IsAmong}
use Rattle.client_law.proofs.Held.{Keeps, held_amended, held_without, found_among}

-- what is added is a case of the developer who submits
abbrev AddsOwn : Party → Plan → Type 0
AddsOwn party (Say reply) = Unit {0}
AddsOwn party (Do (changes.Add case) reply) = (is_developer party.role ≡ true) × (case.party ≡ party.name)
AddsOwn party (Do (changes.Decide developer reference decision) reply) = Unit {0}
AddsOwn party (Do (changes.Appeal developer reference appeal) reply) = Unit {0}
AddsOwn party (Do (changes.Rule developer reference ruling) reply) = Unit {0}
AddsOwn party (Judge case) = Unit {0}

adds_own : (session : Session) (command : Command) (view : View) (plan : Plan) → answered session command view ≡ Ok plan → AddsOwn session.party plan
adds_own session (commands.Submit reference content) view plan e =
    let P : Plan → Type 0 = AddsOwn session.party in
    let h = submit_plans _ _ _ _ _ plan e in
    elim h.1 [ inl keeps ↦ subst P (sym keeps.says) tt | inr adds ↦ subst P (sym adds.does) (h.0, refl) ]
adds_own session commands.Decide view plan e = subst (AddsOwn session.party) (sym (decide_plans _ _ plan e).judges) tt
adds_own session (commands.Show reference) view plan e = subst (AddsOwn session.party) (sym (show_plans _ _ plan e).says) tt
adds_own session (commands.Report reference) view plan e = subst (AddsOwn session.party) (sym (report_plans _ _ plan e).says) tt
adds_own session (commands.Appeal reference text) view plan e = subst (AddsOwn session.party) (sym (appeal_plans _ _ _ _ _ _ plan e).does) tt
adds_own session (commands.Review developer reference) view plan e = subst (AddsOwn session.party) (sym (review_plans _ _ _ plan e).judges) tt
adds_own session (commands.Rule developer reference word) view plan e = subst (AddsOwn session.party) (sym (rule_plans _ _ _ _ _ _ plan e).does) tt
adds_own session commands.List view plan e =
    let says : plan ≡ Say (replies.Lines view.lines) = cc in
    subst (AddsOwn session.party) (sym says) tt

entry_keeps : (f : Case → Case) → ((case : Case) → (f case).party ≡ case.party) → ((case : Case) → (f case).reference ≡ case.reference) → ((case : Case) → (f case).content ≡ case.content) → Keeps f
entry_keeps f p r c = record { party = p; reference = r; content = c }

change_leaves : (party : List ℕ) (session : Session) (change : Change) (reply : Reply) (cases : List Case)
    → AddsOwn session.party (Do change reply) → (is_developer session.party.role ≡ true → session.party.name ≢ party)
    → held_of party (after change cases) ≡ held_of party cases
change_leaves party session (changes.Add case) reply cases own apart = held_without party case cases (λ is. apart own.0 (sym own.1 ∙ is))
change_leaves party session (changes.Decide developer reference decision) reply cases own apart =
    held_amended party (is_named developer reference) (with_entry decision) cases (entry_keeps (with_entry decision) (λ _. refl) (λ _. refl) (λ _. refl))
change_leaves party session (changes.Appeal developer reference appeal) reply cases own apart =
    held_amended party (is_named developer reference) (with_appeal appeal) cases (entry_keeps (with_appeal appeal) (λ _. refl) (λ _. refl) (λ _. refl))
change_leaves party session (changes.Rule developer reference ruling) reply cases own apart =
    held_amended party (is_named developer reference) (with_ruling ruling) cases (entry_keeps (with_ruling ruling) (λ _. refl) (λ _. refl) (λ _. refl))

leaves_by : (party : List ℕ) (turn : Turn) (cases : List Case) (answer : Result Plan Refusal)
    → answered turn.session turn.command (view_of turn.session turn.command cases) ≡ answer
    → (is_developer turn.session.party.role ≡ true → turn.session.party.name ≢ party)
    → held_of party (cases_then turn cases) ≡ held_of party cases
leaves_by party turn cases (Err refusal) is apart = ap (λ (s : Reply × List Case). held_of party s.1) (step_by turn cases (Err refusal) is)
leaves_by party turn cases (Ok (Say reply)) is apart = ap (λ (s : Reply × List Case). held_of party s.1) (step_by turn cases (Ok (Say reply)) is)
leaves_by party turn cases (Ok (Do change reply)) is apart =
    ap (λ (s : Reply × List Case). held_of party s.1) (step_by turn cases (Ok (Do change reply)) is)
    ∙ change_leaves party turn.session change reply cases (adds_own turn.session turn.command (view_of turn.session turn.command cases) (Do change reply) is) apart
leaves_by party turn cases (Ok (Judge case)) is apart =
    ap (λ (s : Reply × List Case). held_of party s.1) (step_by turn cases (Ok (Judge case)) is)
    ∙ held_amended party (speaks_of turn.session turn.command) (with_entry (decision_by turn.session turn.judgement)) cases
    (entry_keeps (with_entry (decision_by turn.session turn.judgement)) (λ _. refl) (λ _. refl) (λ _. refl))

-- a command of another party leaves what the desk has of this developer
pub another_leaves : (party : List ℕ) (turn : Turn) (cases : List Case) → (is_developer turn.session.party.role ≡ true → turn.session.party.name ≢ party)
    → held_of party (cases_then turn cases) ≡ held_of party cases
another_leaves party turn cases apart = leaves_by party turn cases (answered turn.session turn.command (view_of turn.session turn.command cases)) refl apart

-- what a submission makes: it is refused; or the case is there; or it is added, and was not there by that name
pub data Submits (party reference : List ℕ) (content : Content) (cases after : List Case) (reply : Reply) : Type 0 where
  refused : (refusal : Refusal) → reply ≡ replies.No refusal → after ≡ cases → Submits party reference content cases after reply
  kept : after ≡ cases → IsAmong (reference, content) (held_of party cases) → Submits party reference content cases after reply
  added : find (is_named party reference) cases ≡ None → after ≡ cases ++ new_case party reference content ∷ [] → Submits party reference content cases after reply

abbrev content_of : List ℕ → List ℕ → List ℕ → List (List ℕ) → Content
content_of m l d x = record { manifest = m; layouts = l; declaration = d; dex = x }

content_equal : (a b : Content) → same_content a b ≡ true → a ≡ b
content_equal a b is =
    let last = and_parts (same a.manifest b.manifest && same a.layouts b.layouts && same a.declaration b.declaration) _ is in
    let third = and_parts (same a.manifest b.manifest && same a.layouts b.layouts) (same a.declaration b.declaration) last.0 in
    let second = and_parts (same a.manifest b.manifest) (same a.layouts b.layouts) third.0 in
    ap (λ (z : List ℕ). content_of z a.layouts a.declaration a.dex) (same_equal a.manifest b.manifest second.0)
    ∙ ap (λ (z : List ℕ). content_of b.manifest z a.declaration a.dex) (same_equal a.layouts b.layouts second.1)
    ∙ ap (λ (z : List ℕ). content_of b.manifest b.layouts z a.dex) (same_equal a.declaration b.declaration third.1)
    ∙ ap (λ (z : List (List ℕ)). content_of b.manifest b.layouts b.declaration z) (all_equal a.dex b.dex last.1)

submits_by : (turn : Turn) (reference : List ℕ) (content : Content) (cases : List Case) (answer : Result Plan Refusal)
    → turn.command ≡ commands.Submit reference content
    → answered turn.session turn.command (view_of turn.session turn.command cases) ≡ answer
    → Submits turn.session.party.name reference content cases (cases_then turn cases) (reply_to turn cases)
submits_by turn reference content cases (Err refusal) command is =
    let does = step_by turn cases (Err refusal) is in
    refused refusal (ap (λ (s : Reply × List Case). s.0) does) (ap (λ (s : Reply × List Case). s.1) does)
submits_by turn reference content cases (Ok plan) command is =
    let party = turn.session.party.name in
    let does = step_by turn cases (Ok plan) is in
    let asked : answered turn.session (commands.Submit reference content) (view_of turn.session (commands.Submit reference content) cases) ≡ Ok plan =
    subst (λ (c : Command). answered turn.session c (view_of turn.session c cases) ≡ Ok plan) command is in
    elim (submit_plans _ _ _ _ _ plan asked).1 [
      | inl same_case ↦
          let then : cases_then turn cases ≡ cases = ap (λ (s : Reply × List Case). s.1) (does ∙ ap (λ (p : Plan). carried (speaks_of turn.session turn.command) (decision_by turn.session turn.judgement) p cases) same_case.says) in
          kept then (subst (λ (c : Content). IsAmong (reference, c) (held_of party cases)) (content_equal same_case.case.content content same_case.bytes) (found_among party reference cases same_case.case same_case.is))
      | inr adds ↦
          added adds.is (ap (λ (s : Reply × List Case). s.1) (does ∙ ap (λ (p : Plan). carried (speaks_of turn.session turn.command) (decision_by turn.session turn.judgement) p cases) adds.does))
    ]

pub submits : (turn : Turn) (reference : List ℕ) (content : Content) (cases : List Case) → turn.command ≡ commands.Submit reference content
    → Submits turn.session.party.name reference content cases (cases_then turn cases) (reply_to turn cases)
submits turn reference content cases command = submits_by turn reference content cases (answered turn.session turn.command (view_of turn.session turn.command cases)) command refl

-- What is so where the rules give a plan, for the cases that they looked at.
use Rattle.std.proofs.Common.{◌≡◌, ℕ, true, false, is_some, is_none, ◌==◌, List, [], ◌∷◌, Option, Some, find, length, IsSomeAnd, Ok, refl, sym, ap, subst, ◌∙◌, inl, inr, arith}
use Rattle.std.specs.List.{list_any}
use Rattle.std.proofs.lemmas.Bool.{and_from, eqb-true}
use Rattle.case_rules.specs.declared.case.Case.{Case}
use Rattle.case_rules.specs.declared.case.Entry.{Entry}
use Rattle.case_rules.specs.declared.command.Command.{Command}
use Rattle.case_rules.specs.declared.command.Command.TheVariants as commands
use Rattle.case_rules.specs.declared.reply.Refusal.{Refusal}
use Rattle.case_rules.specs.declared.reply.Reply.{Reply}
use Rattle.case_rules.specs.declared.reply.Reply.TheVariants as replies
use Rattle.case_rules.specs.declared.reply.Change.{Change}
use Rattle.case_rules.specs.declared.reply.Plan.{Plan}
use Rattle.case_rules.specs.declared.reply.Plan.TheVariants.{Say, Do, Judge}
use Rattle.case_rules.specs.Cases.{is_queued, is_open_by, is_under, has_edition, has_open_appeal, last}
use Rattle.case_rules.specs.Rules.{Session, answered}
use Rattle.case_rules.specs.Desk.{speaks_of, view_of}
use Rattle.case_rules.specs.Docket.{Fits, IsFormed}
use Rattle.case_rules.specs.Plans.{AddsNoDecision}
use Rattle.vet_base.proofs.Members.{found_passes}
use Rattle.case_rules.proofs.Dockets.{IsFormedChange}
use Rattle.case_rules.proofs.Inverted.{submit_plans, decide_plans, show_plans, report_plans, appeal_plans, review_plans, rule_plans}

pub record Done (command : Command) (cases : List Case) (change : Change) (reply : Reply) : Type 0 where
  pub fits : Fits change cases
  pub adds_no_decision : AddsNoDecision change
  pub formed : IsFormed command → IsFormedChange change
  pub not_refused : (refusal : Refusal) → reply ≡ replies.No refusal → ⊥

pub record Judged (session : Session) (command : Command) (cases : List Case) (case : Case) : Type 0 where
  pub found : find (speaks_of session command) cases ≡ Some case
  pub fresh : has_edition session.edition case ≡ false
  pub closed : has_open_appeal case ≡ false

abbrev pub Effect : Session → Command → List Case → Plan → Type 0
Effect session command cases (Say reply) = Unit {0}
Effect session command cases (Do change reply) = Done command cases change reply
Effect session command cases (Judge case) = Judged session command cases case

some_and_from : {A : Type 0} (o : Option A) (x : A) (P : A → Type 0) → o ≡ Some x → P x → IsSomeAnd o P
some_and_from {A = A} o x P is holds = subst (λ (z : Option A). IsSomeAnd z P) (sym is) holds

-- a case without entries has no edition and no open appeal
pub none_yet : (lists : List ℕ) (entries : List Entry) → (length entries == 0) ≡ true
    → (list_any (is_under lists) entries ≡ false) × (is_open_by (last entries) ≡ false)
none_yet lists [] none = (refl, refl)
none_yet lists (entry ∷ entries) none = absurd (omega (arith, eqb-true (length (entry ∷ entries)) 0 none))

pub effect : (session : Session) (command : Command) (cases : List Case) (plan : Plan)
    → answered session command (view_of session command cases) ≡ Ok plan → Effect session command cases plan
effect session (commands.Submit reference content) cases plan e =
    let P : Plan → Type 0 = Effect session (commands.Submit reference content) cases in
    let h = submit_plans _ _ _ _ _ plan e in
    elim h.1 [
      | inl kept ↦ subst P (sym kept.says) tt
      | inr adds ↦
          subst P (sym adds.does)
          (record {
            fits = (adds.is, refl);
            adds_no_decision = tt;
            formed = λ f. f;
            not_refused = λ refusal says. cc;
          })
    ]
effect session commands.Decide cases plan e =
    let P : Plan → Type 0 = Effect session commands.Decide cases in
    let h = decide_plans _ _ plan e in
    let none = none_yet session.edition h.case.entries (found_passes is_queued cases h.case h.is) in
    subst P (sym h.judges) (record { found = h.is; fresh = none.0; closed = none.1 })
effect session (commands.Show reference) cases plan e =
    let P : Plan → Type 0 = Effect session (commands.Show reference) cases in
    subst P (sym (show_plans _ _ plan e).says) tt
effect session (commands.Report reference) cases plan e =
    let P : Plan → Type 0 = Effect session (commands.Report reference) cases in
    subst P (sym (report_plans _ _ plan e).says) tt
effect session (commands.Appeal reference text) cases plan e =
    let P : Plan → Type 0 = Effect session (commands.Appeal reference text) cases in
    let h = appeal_plans _ _ _ _ _ _ plan e in
    subst P (sym h.does) (record {
      fits = some_and_from _ h.case _ h.is (some_and_from _ h.entry _ h.ends h.first);
      adds_no_decision = tt;
      formed = λ f. f;
      not_refused = λ refusal says. cc;
    })
effect session (commands.Review developer reference) cases plan e =
    let P : Plan → Type 0 = Effect session (commands.Review developer reference) cases in
    let h = review_plans _ _ _ plan e in
    subst P (sym h.judges) (record { found = h.is; fresh = h.fresh; closed = ap is_open_by h.ends ∙ h.closed })
effect session (commands.Rule developer reference word) cases plan e =
    let P : Plan → Type 0 = Effect session (commands.Rule developer reference word) cases in
    let h = rule_plans _ _ _ _ _ _ plan e in
    subst P (sym h.does) (record {
      fits = some_and_from _ h.case _ h.is
          (some_and_from _ h.entry _ h.ends
          (and_from (is_some h.entry.appeal) (is_none h.entry.ruling) h.appealed h.first));
      adds_no_decision = tt;
      formed = λ f. tt;
      not_refused = λ refusal says. cc;
    })
effect session commands.List cases plan e =
    let P : Plan → Type 0 = Effect session commands.List cases in
    let says : plan ≡ Say (replies.Lines (view_of session commands.List cases).lines) = cc in
    subst P (sym says) tt

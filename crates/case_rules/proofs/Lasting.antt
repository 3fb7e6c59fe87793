-- What was written stays.
use Rattle.std.proofs.Common.{◌≡◌, Bool, true, false, cond, is_some, is_none, List, [], ◌∷◌, ◌++◌, Option, Some, None, find, IsSomeAnd, Result, Ok, Err, refl, sym, ap, subst, ◌∙◌}
use Rattle.std.proofs.lemmas.Bool.{and_parts, cond-true, cond-false}
use Rattle.vet_base.proofs.Options.{none_from_is_none}
use Rattle.case_rules.specs.declared.case.Case.{Case}
use Rattle.case_rules.specs.declared.case.Entry.{Entry}
use Rattle.case_rules.specs.declared.case.Appeal.{Appeal}
use Rattle.case_rules.specs.declared.case.Ruling.{Ruling}
use Rattle.case_rules.specs.declared.case.Decision.{Decision}
use Rattle.case_rules.specs.declared.reply.Refusal.{Refusal}
use Rattle.case_rules.specs.declared.reply.Reply.{Reply}
use Rattle.case_rules.specs.declared.reply.Change.{Change}
use Rattle.case_rules.specs.declared.reply.Change.TheVariants as changes
use Rattle.case_rules.specs.declared.reply.Plan.{Plan}
use Rattle.case_rules.specs.declared.reply.Plan.TheVariants.{Say, Do, Judge}
use Rattle.case_rules.specs.Cases.{is_named, is_open, amended, after, last, change_last, with_entry, with_appeal, with_ruling, appeal_entry, rule_entry, entry_of}
use Rattle.case_rules.specs.Docket.{Fits}
use Rattle.case_rules.specs.Rules.{answered}
use Rattle.case_rules.specs.Desk.{Turn, speaks_of, view_of, decision_by, cases_then, cases_after}
use Rattle.case_rules.specs.Laws.{KeepsSome, KeepsEntry, KeepsEntries, KeepsCase, KeepsCases}
use Rattle.case_rules.proofs.Dockets.{some_and}
use Rattle.case_rules.proofs.Effects.{effect}
use Rattle.case_rules.proofs.Refused.{step_by}

some_itself : {A : Type 0} (o : Option A) → KeepsSome o o
some_itself None = tt
some_itself (Some x) = refl

some_on : {A : Type 0} (a b c : Option A) → KeepsSome a b → KeepsSome b c → KeepsSome a c
some_on None b c ab bc = tt
some_on {A = A} (Some x) b c ab bc = subst (λ (o : Option A). KeepsSome o c) ab bc

entry_itself : (entry : Entry) → KeepsEntry entry entry
entry_itself entry = record { decision = refl; appeal = some_itself entry.appeal; ruling = some_itself entry.ruling }

entries_themselves : (entries : List Entry) → KeepsEntries entries entries
entries_themselves [] = tt
entries_themselves (entry ∷ entries) = (entry_itself entry, entries_themselves entries)

entries_on : (a b c : List Entry) → KeepsEntries a b → KeepsEntries b c → KeepsEntries a c
entries_on [] b c ab bc = tt
entries_on (x ∷ a) [] c ab bc = absurd ab
entries_on (x ∷ a) (y ∷ b) [] ab bc = absurd bc
entries_on (x ∷ a) (y ∷ b) (z ∷ c) ab bc = (
  record {
    decision = bc.0.decision ∙ ab.0.decision;
    appeal =
        some_on x.appeal y.appeal z.appeal ab.0.appeal bc.0.appeal;
    ruling = some_on x.ruling y.ruling z.ruling ab.0.ruling bc.0.ruling;
  },
  entries_on a b c ab.1 bc.1,
)

entries_more : (entries more : List Entry) → KeepsEntries entries (entries ++ more)
entries_more [] more = tt
entries_more (entry ∷ entries) more = (entry_itself entry, entries_more entries more)

last_kept : (f : Entry → Entry) (entries : List Entry)
    → ((entry : Entry) → last entries ≡ Some entry → KeepsEntry entry (f entry))
    → KeepsEntries entries (change_last f entries)
last_kept f [] each = tt
last_kept f (entry ∷ []) each = (each entry refl, tt)
last_kept f (entry ∷ next ∷ entries) each = (entry_itself entry, last_kept f (next ∷ entries) each)

case_itself : (case : Case) → KeepsCase case case
case_itself case = record { party = refl; reference = refl; content = refl; entries = entries_themselves case.entries }

cases_themselves : (cases : List Case) → KeepsCases cases cases
cases_themselves [] = tt
cases_themselves (case ∷ cases) = (case_itself case, cases_themselves cases)

cases_on : (a b c : List Case) → KeepsCases a b → KeepsCases b c → KeepsCases a c
cases_on [] b c ab bc = tt
cases_on (x ∷ a) [] c ab bc = absurd ab
cases_on (x ∷ a) (y ∷ b) [] ab bc = absurd bc
cases_on (x ∷ a) (y ∷ b) (z ∷ c) ab bc = (
  record {
    party = bc.0.party ∙ ab.0.party;
    reference = bc.0.reference ∙ ab.0.reference;
    content = bc.0.content ∙ ab.0.content;
    entries = entries_on x.entries y.entries z.entries ab.0.entries bc.0.entries;
  },
  cases_on a b c ab.1 bc.1,
)

cases_more : (cases more : List Case) → KeepsCases cases (cases ++ more)
cases_more [] more = tt
cases_more (case ∷ cases) more = (case_itself case, cases_more cases more)

amended_kept : (test : Case → Bool) (f : Case → Case) (cases : List Case)
    → ((case : Case) → find test cases ≡ Some case → KeepsCase case (f case))
    → KeepsCases cases (amended test f cases)
amended_kept test f [] each = tt
amended_kept test f (c ∷ cases) each = by_test (test c) refl (amended_kept test f cases)
  where
    by_test : (b : Bool) → b ≡ test c → (((case : Case) → find test cases ≡ Some case → KeepsCase case (f case))
        → KeepsCases cases (amended test f cases))
        → KeepsCases (c ∷ cases) (cond b (f c ∷ cases) (c ∷ amended test f cases))
    by_test true holds later = (
      each c (cond-true (test c) (Some c) (find test cases) (sym holds)),
      cases_themselves cases,
    )
    by_test false fails later =
        (case_itself c, later (λ d is. each d (cond-false (test c) (Some c) (find test cases) (sym fails) ∙ is)))

with_entry_kept : (decision : Decision) (case : Case) → KeepsCase case (with_entry decision case)
with_entry_kept decision case = record {
  party = refl;
  reference = refl;
  content = refl;
  entries = entries_more case.entries (entry_of decision ∷ []);
}

after_kept : (change : Change) (cases : List Case) → Fits change cases → KeepsCases cases (after change cases)
after_kept (changes.Add case) cases fits = cases_more cases (case ∷ [])
after_kept (changes.Decide party reference decision) cases fits =
    amended_kept (is_named party reference) (with_entry decision) cases (λ case is. with_entry_kept decision case)
after_kept (changes.Appeal party reference appeal) cases fits =
    amended_kept (is_named party reference) (with_appeal appeal) cases (λ case is. record {
      party = refl;
      reference = refl;
      content = refl;
      entries = last_kept (appeal_entry appeal) case.entries (λ entry ends.
          let none = some_and _ entry (λ e. e.appeal ≡ None)
          (some_and _ case (λ c. IsSomeAnd (last c.entries) (λ e. e.appeal ≡ None)) fits is) ends in
          record {
            decision = refl;
            appeal = subst (λ (o : Option Appeal). KeepsSome o (Some appeal)) (sym none) tt;
            ruling = some_itself entry.ruling;
          });
    })
after_kept (changes.Rule party reference ruling) cases fits =
    amended_kept (is_named party reference) (with_ruling ruling) cases (λ case is. record {
      party = refl;
      reference = refl;
      content = refl;
      entries = last_kept (rule_entry ruling) case.entries (λ entry ends.
          let open_last = some_and _ entry (λ e. is_open e ≡ true)
          (some_and _ case (λ c. IsSomeAnd (last c.entries) (λ e. is_open e ≡ true)) fits is) ends in
          let none = none_from_is_none entry.ruling (and_parts (is_some entry.appeal)
          (is_none entry.ruling) open_last).1 in
          record {
            decision = refl;
            appeal = some_itself entry.appeal;
            ruling = subst (λ (o : Option Ruling). KeepsSome o (Some ruling)) (sym none) tt;
          });
    })

step_kept : (turn : Turn) (cases : List Case) (answer : Result Plan Refusal)
    → answered turn.session turn.command (view_of turn.session turn.command cases) ≡ answer
    → KeepsCases cases (cases_then turn cases)
step_kept turn cases (Err refusal) is =
    subst (KeepsCases cases) (sym (ap (λ (s : Reply × List Case). s.1) (step_by turn cases (Err refusal) is)))
    (cases_themselves cases)
step_kept turn cases (Ok (Say reply)) is =
    subst (KeepsCases cases) (sym (ap (λ (s : Reply × List Case). s.1) (step_by turn cases (Ok (Say reply)) is)))
    (cases_themselves cases)
step_kept turn cases (Ok (Do change reply)) is =
    subst (KeepsCases cases) (sym (ap (λ (s : Reply × List Case). s.1) (step_by turn cases (Ok (Do change reply)) is)))
    (after_kept change cases (effect turn.session turn.command cases (Do change reply) is).fits)
step_kept turn cases (Ok (Judge case)) is =
    subst (KeepsCases cases) (sym (ap (λ (s : Reply × List Case). s.1) (step_by turn cases (Ok (Judge case)) is)))
    (amended_kept (speaks_of turn.session turn.command)
    (with_entry (decision_by turn.session turn.judgement)) cases
    (λ c found. with_entry_kept (decision_by turn.session turn.judgement) c))

pub all_kept : (turns : List Turn) (cases : List Case) → KeepsCases cases (cases_after turns cases)
all_kept [] cases = cases_themselves cases
all_kept (turn ∷ turns) cases =
    cases_on cases (cases_then turn cases) (cases_after turns (cases_then turn cases))
    (step_kept turn cases (answered turn.session turn.command (view_of turn.session turn.command cases)) refl)
    (all_kept turns (cases_then turn cases))

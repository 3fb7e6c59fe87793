-- Lists of cases in which no two have one name.
use Rattle.std.proofs.Common.{◌≡◌, Bool, true, false, cond, is_some, is_none, List, [], ◌∷◌, ◌++◌, Option, Some, None, find, IsSomeAnd, refl, sym, ap, subst, ◌∙◌}
use Rattle.std.proofs.lemmas.Option.{none-some, same_Some}
use Rattle.std.proofs.lemmas.Bool.{cond-true, cond-false, and_parts, false≢true}
use Rattle.vet_base.proofs.Options.{cond_none}
use Rattle.case_rules.specs.declared.case.Case.{Case}
use Rattle.case_rules.specs.declared.case.Entry.{Entry}
use Rattle.case_rules.specs.declared.case.Appeal.{Appeal}
use Rattle.case_rules.specs.declared.case.Ruling.{Ruling}
use Rattle.case_rules.specs.declared.reply.Change.{Change}
use Rattle.case_rules.specs.declared.reply.Change.TheVariants as changes
use Rattle.case_rules.specs.Cases.{is_named, is_open, amended, after, last, with_entry, with_appeal, with_ruling, appeal_entry, rule_entry}
use Rattle.case_rules.specs.Docket.{IsDocket, IsEntry, IsHistory, Fits, TakesDecision, is_appeal_text}
use Rattle.store_office.specs.Reference.{is_reference}
use Rattle.std.specs.Prelude.{IsTrue}
use Rattle.case_rules.proofs.Finds.{found_fails, missed_behind, missed_amended}
use Rattle.case_rules.proofs.Named.{named_itself, named_back, name_kept}
use Rattle.case_rules.proofs.Histories.{history_grows, history_changes}

-- what a test finds first is found by its name
pub found_by_name : (test : Case → Bool) (cases : List Case) (case : Case) → IsDocket cases
    → find test cases ≡ Some case → find (is_named case.party case.reference) cases ≡ Some case
found_by_name test [] case docket is = absurd (none-some case is)
found_by_name test (c ∷ cases) case docket is =
    by_test (test c) (found_by_name test cases case docket.2)
    (λ later. found_fails test (is_named c.party c.reference) cases case later docket.1) is
  where
    by_test : (b : Bool) → (find test cases ≡ Some case → find (is_named case.party case.reference) cases ≡ Some case)
        → (find test cases ≡ Some case → is_named c.party c.reference case ≡ false)
        → cond b (Some c) (find test cases) ≡ Some case
        → find (is_named case.party case.reference) (c ∷ cases) ≡ Some case
    by_test true later apart e =
        subst (λ (z : Case). find (is_named z.party z.reference) (c ∷ cases) ≡ Some z) (same_Some c case e)
        (cond-true (is_named c.party c.reference c) (Some c) (find (is_named c.party c.reference) cases)
        (named_itself c))
    by_test false later apart e =
        cond-false (is_named case.party case.reference c) (Some c) (find (is_named case.party case.reference) cases)
        (named_back case c ∙ apart e) ∙ later e

-- and a change there is a change by name
pub changed_by_name : (test : Case → Bool) (f : Case → Case) (cases : List Case) (case : Case) → IsDocket cases
    → find test cases ≡ Some case
    → amended test f cases ≡ amended (is_named case.party case.reference) f cases
changed_by_name test f [] case docket is = absurd (none-some case is)
changed_by_name test f (c ∷ cases) case docket is =
    by_test (test c) (changed_by_name test f cases case docket.2)
    (λ later. found_fails test (is_named c.party c.reference) cases case later docket.1) is
  where
    by_test : (b : Bool) → (find test cases ≡ Some case
        → amended test f cases ≡ amended (is_named case.party case.reference) f cases)
        → (find test cases ≡ Some case → is_named c.party c.reference case ≡ false)
        → cond b (Some c) (find test cases) ≡ Some case
        → cond b (f c ∷ cases) (c ∷ amended test f cases) ≡ amended (is_named case.party case.reference) f (c ∷ cases)
    by_test true later apart e =
        subst (λ (z : Case). f c ∷ cases ≡ amended (is_named z.party z.reference) f (c ∷ cases)) (same_Some c case e)
        (sym (cond-true (is_named c.party c.reference c) (f c ∷ cases)
        (c ∷ amended (is_named c.party c.reference) f cases) (named_itself c)))
    by_test false later apart e =
        ap (λ (zs : List Case). c ∷ zs) (later e)
        ∙ sym (cond-false (is_named case.party case.reference c) (f c ∷ cases)
        (c ∷ amended (is_named case.party case.reference) f cases) (named_back case c ∙ apart e))

-- a change that leaves names and is right for the case that it changes
pub record Amends (test : Case → Bool) (f : Case → Case) (cases : List Case) : Type 0 where
  pub party : (case : Case) → (f case).party ≡ case.party
  pub reference : (case : Case) → (f case).reference ≡ case.reference
  pub right : (case : Case) → find test cases ≡ Some case → IsHistory case.entries → IsHistory (f case).entries

docket_amended : (test : Case → Bool) (f : Case → Case) (cases : List Case) → IsDocket cases → Amends test f cases
    → IsDocket (amended test f cases)
docket_amended test f [] docket amends = tt
docket_amended test f (c ∷ cases) docket amends =
    by_test (test c) refl (docket_amended test f cases docket.2)
  where
    by_test : (b : Bool) → b ≡ test c → (Amends test f cases → IsDocket (amended test f cases))
        → IsDocket (cond b (f c ∷ cases) (c ∷ amended test f cases))
    by_test true holds later = (
      amends.right c (cond-true (test c) (Some c) (find test cases) (sym holds)) docket.0,
      (rw (amends.party c, amends.reference c) docket.1),
      docket.2,
    )
    by_test false fails later = (
      docket.0,
      missed_amended test (is_named c.party c.reference) f cases
          (λ x. name_kept c.party c.reference x (f x) (amends.party x) (amends.reference x)) docket.1,
      later (record {
        party = amends.party;
        reference = amends.reference;
        right = λ d is. amends.right d (cond-false (test c) (Some c) (find test cases) (sym fails) ∙ is);
      }),
    )

docket_added : (cases : List Case) (case : Case) → IsDocket cases → IsHistory case.entries
    → find (is_named case.party case.reference) cases ≡ None → IsDocket (cases ++ case ∷ [])
docket_added [] case docket is none = (is, refl, tt)
docket_added (c ∷ cases) case docket is none =
    let parts = cond_none (is_named case.party case.reference c) c
    (find (is_named case.party case.reference) cases) none in (
      docket.0,
      missed_behind (is_named c.party c.reference) cases case docket.1 (named_back c case ∙ parts.0),
      docket_added cases case docket.2 is parts.1,
    )

-- References and texts of a change have their form.
abbrev pub IsFormedChange : Change → Type 0
IsFormedChange (changes.Add case) = IsTrue (is_reference case.reference)
IsFormedChange (changes.Decide party reference decision) = Unit {0}
IsFormedChange (changes.Appeal party reference appeal) = IsTrue (is_appeal_text appeal.text)
IsFormedChange (changes.Rule party reference ruling) = Unit {0}

pub some_and : {A : Type 0} (o : Option A) (x : A) (P : A → Type 0) → IsSomeAnd o P → o ≡ Some x → P x
some_and None x P h is = absurd h
some_and (Some y) x P h is = subst P (same_Some y x is) h

appealed_entry : (appeal : Appeal) (entry : Entry) → IsEntry (appeal_entry appeal entry)
appealed_entry appeal entry = λ none. absurd (false≢true none)

-- an entry with an appeal may have a ruling
ruled_entry : (ruling : Ruling) (entry : Entry) → is_some entry.appeal ≡ true → IsEntry (rule_entry ruling entry)
ruled_entry ruling entry appealed = λ none. absurd (both entry.appeal appealed none)
  where
    both : (o : Option Appeal) → is_some o ≡ true → is_none o ≡ true → ⊥
    both None some none = false≢true some
    both (Some appeal) some none = false≢true none

pub docket_after : (change : Change) (cases : List Case) → IsDocket cases → Fits change cases
    → IsDocket (after change cases)
docket_after (changes.Add case) cases docket fits =
    docket_added cases case docket (subst IsHistory (sym fits.1) tt) fits.0
docket_after (changes.Decide party reference decision) cases docket fits =
    docket_amended (is_named party reference) (with_entry decision) cases docket (record {
      party = λ _. refl;
      reference = λ _. refl;
      right = λ case is right. let takes = some_and _ case (TakesDecision decision) fits is in
          history_grows case.entries decision right takes.0 takes.1;
    })
docket_after (changes.Appeal party reference appeal) cases docket fits =
    docket_amended (is_named party reference) (with_appeal appeal) cases docket (record {
      party = λ _. refl;
      reference = λ _. refl;
      right = λ case is right. history_changes (appeal_entry appeal) (λ _. refl) case.entries right
          (λ entry ends old. appealed_entry appeal entry);
    })
docket_after (changes.Rule party reference ruling) cases docket fits =
    docket_amended (is_named party reference) (with_ruling ruling) cases docket (record {
      party = λ _. refl;
      reference = λ _. refl;
      right = λ case is right. history_changes (rule_entry ruling) (λ _. refl) case.entries right (λ entry ends old.
          let open_last = some_and _ entry (λ e. is_open e ≡ true)
          (some_and _ case (λ c. IsSomeAnd (last c.entries) (λ e. is_open e ≡ true)) fits is) ends in
          ruled_entry ruling entry (and_parts (is_some entry.appeal) (is_none entry.ruling) open_last).0);
    })

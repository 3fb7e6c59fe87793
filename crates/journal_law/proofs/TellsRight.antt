-- What is told of bytes is the cases that they hold.
use Rattle.std.proofs.Common.{◌≡◌, ◌≢◌, ◌<◌, ◌≤◌, ◌+◌, inl, inr, ℕ, zero, suc, Bool, true, false, List, [], ◌∷◌, ◌++◌, length, take, drop, refl, sym, ◌∙◌, ap, subst, arith, Option, Some, None, Result, Ok, Err}
use Rattle.std.specs.Prelude.{◌==◌, ◌&&◌, not, find, is_none, is_some, IsSomeAnd, unwrap_or, nat_le, if◌then◌else◌}
use Rattle.std.specs.Option.{option_and_then}
use Rattle.std.proofs.lemmas.Bool.{and_from, and_parts, false_from_ne_true, le-leb}
use Rattle.std.proofs.lemmas.Bool.Decides.{nat_tests}
use Rattle.std.proofs.lemmas.List.{length-drop}
use Rattle.vet_base.specs.Script.{run}
use Rattle.vet_base.proofs.Texts.{same_equal, same_itself}
use Rattle.gated_log.specs.Format.{magic, first_record, NoRecord}
use Rattle.case_rules.specs.declared.case.Case.{Case}
use Rattle.case_rules.specs.declared.case.Entry.{Entry}
use Rattle.case_rules.specs.declared.reply.Change.{Change}
use Rattle.case_rules.specs.declared.reply.Change.TheVariants as changes
use Rattle.case_rules.specs.Cases.{after, same, is_named, is_open, is_open_by, is_queued, last, has_edition, has_open_appeal}
use Rattle.case_rules.specs.Docket.{Fits, TakesDecision, TakesAppeal, TakesRuling}
use Rattle.case_records.specs.declared.fault.NoPayload.{NoPayload}
use Rattle.case_records.specs.Reading.{change_of}
use Rattle.journal_law.specs.Journal.{Leads, IsTaken, Makes, IsJournal, Holds, IsForeign, IsBad}
use Rattle.journal_law.specs.Reading.{is_meant, is_unappealed, fits_none, fits_case, fits_found, fits, made_by, made, with_more, payloads_of, cases_in, TellsTheCases}
use Rattle.journal_law.proofs.Fronts.{record_long}

none_some : {X : Type 0} (x : X) → None ≡ Some x → ⊥
none_some x e = cc

-- The test says whether a change fits.
unappealed : (o : Option Entry) → IsSomeAnd o (λ entry. entry.appeal ≡ None) → is_unappealed o ≡ true
unappealed None some = absurd some
unappealed (Some entry) none = ap is_none none

appealed_not : (o : Option Entry) → is_unappealed o ≡ true → IsSomeAnd o (λ entry. entry.appeal ≡ None)
appealed_not None fails = absurd cc
appealed_not (Some entry) holds = by_appeal entry.appeal holds
  where
    by_appeal : {X : Type 0} (o : Option X) → is_none o ≡ true → o ≡ None
    by_appeal None none = refl
    by_appeal (Some x) none = absurd cc

open_so : (o : Option Entry) → IsSomeAnd o (λ entry. is_open entry ≡ true) → is_open_by o ≡ true
open_so None some = absurd some
open_so (Some entry) holds = holds

open_of : (o : Option Entry) → is_open_by o ≡ true → IsSomeAnd o (λ entry. is_open entry ≡ true)
open_of None fails = absurd cc
open_of (Some entry) holds = holds

not_true : (b : Bool) → b ≡ false → not b ≡ true
not_true true fails = absurd cc
not_true false fails = refl

true_not : (b : Bool) → not b ≡ true → b ≡ false
true_not true fails = absurd cc
true_not false fails = refl

-- a change to a case that is there
module _ (change : Change) (P : Case → Type 0) (to : (case : Case) → P case → fits_case change case ≡ true)
    (from : (case : Case) → fits_case change case ≡ true → P case) (needs : fits_none change ≡ false) where
  found_fits : (o : Option Case) → IsSomeAnd o P → fits_found change o ≡ true
  found_fits None some = absurd some
  found_fits (Some case) is = to case is

  fits_is_found : (o : Option Case) → fits_found change o ≡ true → IsSomeAnd o P
  fits_is_found None holds = let none : false ≡ true = sym needs ∙ holds in absurd cc
  fits_is_found (Some case) holds = from case holds

module _ (party reference : List ℕ) where
  decides : (decision : _) (case : Case) → TakesDecision decision case → fits_case (changes.Decide party reference decision) case ≡ true
  decides decision case takes =
      and_from (not (has_edition decision.lists case)) (not (has_open_appeal case)) (not_true _ takes.0) (not_true _ takes.1)

  decided : (decision : _) (case : Case) → fits_case (changes.Decide party reference decision) case ≡ true → TakesDecision decision case
  decided decision case holds =
      let parts = and_parts (not (has_edition decision.lists case)) (not (has_open_appeal case)) holds in
      (true_not _ parts.0, true_not _ parts.1)

bare : (case : Case) → case.entries ≡ [] → is_queued case ≡ true
bare case none = rw none refl

bare_of : (case : Case) → is_queued case ≡ true → case.entries ≡ []
bare_of case holds = by_entries case.entries holds
  where
    by_entries : (es : List Entry) → (length es == 0) ≡ true → es ≡ []
    by_entries [] none = refl
    by_entries (e ∷ es) none = let k : length (e ∷ es) ≡ 0 = grind (arith, nat_tests) in let fails : ⊥ = omega (arith, k) in absurd fails

added_fits : (case : Case) (o : Option Case) → o ≡ None → case.entries ≡ [] → fits_found (changes.Add case) o ≡ true
added_fits case None none empty = bare case empty
added_fits case (Some other) none empty = absurd cc

fits_is_added : (case : Case) (o : Option Case) → fits_found (changes.Add case) o ≡ true → (o ≡ None) × (case.entries ≡ [])
fits_is_added case None holds = (refl, bare_of case holds)
fits_is_added case (Some other) holds = absurd cc

pub fits_true : (change : Change) (cases : List Case) → Fits change cases → fits change cases ≡ true
fits_true (changes.Add case) cases fit = added_fits case (find (is_named case.party case.reference) cases) fit.0 fit.1
fits_true (changes.Decide party reference decision) cases fit =
    found_fits (changes.Decide party reference decision) (TakesDecision decision) (decides party reference decision) (decided party reference decision) refl
    (find (is_named party reference) cases) fit
fits_true (changes.Appeal party reference appeal) cases fit =
    found_fits (changes.Appeal party reference appeal) TakesAppeal (λ case. unappealed (last case.entries)) (λ case. appealed_not (last case.entries)) refl
    (find (is_named party reference) cases) fit
fits_true (changes.Rule party reference ruling) cases fit =
    found_fits (changes.Rule party reference ruling) TakesRuling (λ case. open_so (last case.entries)) (λ case. open_of (last case.entries)) refl
    (find (is_named party reference) cases) fit

pub true_fits : (change : Change) (cases : List Case) → fits change cases ≡ true → Fits change cases
true_fits (changes.Add case) cases holds = fits_is_added case (find (is_named case.party case.reference) cases) holds
true_fits (changes.Decide party reference decision) cases holds =
    fits_is_found (changes.Decide party reference decision) (TakesDecision decision) (decides party reference decision) (decided party reference decision) refl
    (find (is_named party reference) cases) holds
true_fits (changes.Appeal party reference appeal) cases holds =
    fits_is_found (changes.Appeal party reference appeal) TakesAppeal (λ case. unappealed (last case.entries)) (λ case. appealed_not (last case.entries)) refl
    (find (is_named party reference) cases) holds
true_fits (changes.Rule party reference ruling) cases holds =
    fits_is_found (changes.Rule party reference ruling) TakesRuling (λ case. open_so (last case.entries)) (λ case. open_of (last case.entries)) refl
    (find (is_named party reference) cases) holds

-- What the changes make.
chosen : {X : Type 0} (b : Bool) (x : X) → b ≡ true → (if b then Some x else None) ≡ Some x
chosen true x holds = refl
chosen false x holds = absurd cc

taken : (payload : List ℕ) (cases : List Case) (change : Change) → IsTaken payload cases change
    → made_by (run (change_of payload)) cases ≡ Some (after change cases)
taken payload cases change is =
    ap (λ (r : Result Change NoPayload). made_by r cases) is.is ∙ chosen (fits change cases) (after change cases) (fits_true change cases is.fits)

made_so : (payloads : List (List ℕ)) (before cases : List Case) → Makes payloads before cases → made payloads before ≡ Some cases
made_so [] before cases makes = ap (λ (cs : List Case). Some cs) (sym makes)
made_so (p ∷ ps) before cases makes =
    ap (option_and_then (made ps)) (taken p before makes.0 makes.1.0) ∙ made_so ps (after makes.0 before) cases makes.1.1

-- Where a payload is refused, nothing is made.
not_taken : (payload : List ℕ) (cases : List Case) → ((change : Change) → IsTaken payload cases change → ⊥)
    → (r : Result Change NoPayload) → run (change_of payload) ≡ r → made_by r cases ≡ None
not_taken payload cases refused (Err fault) is = refl
not_taken payload cases refused (Ok change) is = by_test (fits change cases) refl
  where
    by_test : (b : Bool) → fits change cases ≡ b → (if fits change cases then Some (after change cases) else None) ≡ None
    by_test true holds = absurd (refused change (record { is = is; fits = true_fits change cases holds }))
    by_test false fails = rw fails refl

made_none : (payloads : List (List ℕ)) (payload : List ℕ) (others : List (List ℕ)) (before cases : List Case) → Makes payloads before cases
    → ((change : Change) → IsTaken payload cases change → ⊥) → made (payloads ++ payload ∷ others) before ≡ None
made_none [] payload others before cases makes refused =
    ap (option_and_then (made others)) (not_taken payload before (subst (λ (cs : List Case). (change : Change) → IsTaken payload cs change → ⊥) makes refused) (run (change_of payload)) refl)
made_none (p ∷ ps) payload others before cases makes refused =
    ap (option_and_then (made (ps ++ payload ∷ others))) (taken p before makes.0 makes.1.0)
    ∙ made_none ps payload others (after makes.0 before) cases makes.1.1 refused

-- What the records are.
shorter : (n size : ℕ) (bytes : List ℕ) → length bytes ≤ suc n → length (drop (9 + size) bytes) ≤ n
shorter n size bytes le = omega (arith, le, length-drop (9 + size) bytes)

none_there : (n : ℕ) (bytes : List ℕ) → NoRecord bytes → payloads_of n bytes ≡ []
none_there zero bytes none = refl
none_there (suc n) bytes none = ap (λ (o : Option (List ℕ)). with_more o (λ size. payloads_of n (drop size bytes))) none

one_there : (n : ℕ) (bytes p : List ℕ) → first_record bytes ≡ Some p → payloads_of (suc n) bytes ≡ p ∷ payloads_of n (drop (9 + length p) bytes)
one_there n bytes p stands = ap (λ (o : Option (List ℕ)). with_more o (λ size. payloads_of n (drop size bytes))) stands

no_bytes : (bytes p : List ℕ) → length bytes ≤ 0 → first_record bytes ≡ Some p → ⊥
no_bytes bytes p none stands = let long = record_long bytes p stands in omega (arith, none, long)

records_so : (payloads : List (List ℕ)) (n : ℕ) (bytes rest : List ℕ) → length bytes ≤ n → Leads payloads bytes rest → NoRecord rest
    → payloads_of n bytes ≡ payloads
records_so [] n bytes rest le leads none = none_there n bytes (ap first_record leads ∙ none)
records_so (p ∷ ps) zero bytes rest le leads none = absurd (no_bytes bytes p le leads.0)
records_so (p ∷ ps) (suc n) bytes rest le leads none =
    one_there n bytes p leads.0
    ∙ ap (λ (qs : List (List ℕ)). p ∷ qs) (records_so ps n (drop (9 + length p) bytes) rest (shorter n (length p) bytes le) leads.1 none)

-- Behind the records that lead there, one stands, and whatever is behind it.
records_up_to : (payloads : List (List ℕ)) (n : ℕ) (bytes rest p : List ℕ) → length bytes ≤ n → Leads payloads bytes rest → first_record rest ≡ Some p
    → (others : List (List ℕ)) × (payloads_of n bytes ≡ payloads ++ p ∷ others)
records_up_to [] zero bytes rest p le leads stands = absurd (no_bytes bytes p le (ap first_record leads ∙ stands))
records_up_to [] (suc n) bytes rest p le leads stands =
    (payloads_of n (drop (9 + length p) bytes), one_there n bytes p (ap first_record leads ∙ stands))
records_up_to (x ∷ ps) zero bytes rest p le leads stands = absurd (no_bytes bytes x le leads.0)
records_up_to (x ∷ ps) (suc n) bytes rest p le leads stands =
    let more = records_up_to ps n (drop (9 + length x) bytes) rest p (shorter n (length x) bytes le) leads.1 stands in
    (more.0, one_there n bytes x leads.0 ∙ ap (λ (qs : List (List ℕ)). x ∷ qs) more.1)

-- What is told.
module _ (bytes : List ℕ) where
  abbrev read : List Case
  read = unwrap_or (made (payloads_of (length bytes) (drop 8 bytes)) []) []

  abbrev known : List Case
  known = if same (take 8 bytes) magic then read else []

  told_few : length bytes ≤ 9 → cases_in bytes ≡ []
  unfolding cases_in
  told_few few = ap (λ (b : Bool). if b then [] else known) (le-leb (length bytes) 9 few)

  told_long : 9 < length bytes → cases_in bytes ≡ known
  unfolding cases_in
  told_long long =
      let fails : nat_le (length bytes) 9 ≡ false = grind (arith, nat_tests) in
      ap (λ (b : Bool). if b then [] else known) fails

  known_read : take 8 bytes ≡ magic → known ≡ read
  known_read is = ap (λ (b : Bool). if b then read else []) (ap (λ (l : List ℕ). same l magic) is ∙ same_itself magic)

  foreign_none : (take 8 bytes ≡ magic → ⊥) → known ≡ []
  foreign_none other =
      ap (λ (b : Bool). if b then read else []) (false_from_ne_true (same (take 8 bytes) magic) (λ holds. other (same_equal (take 8 bytes) magic holds)))

  behind_short : length (drop 8 bytes) ≤ length bytes
  behind_short = omega (arith, length-drop 8 bytes)

  held : (cases : List Case) → Holds bytes cases → cases_in bytes ≡ cases
  held cases (inl few) = told_few few.0 ∙ sym few.1
  held cases (inr journal) =
      told_long journal.long ∙ known_read journal.known
      ∙ ap (λ (ps : List (List ℕ)). unwrap_or (made ps []) []) (records_so journal.payloads (length bytes) (drop 8 bytes) journal.rest behind_short journal.leads journal.none)
      ∙ ap (λ (o : Option (List Case)). unwrap_or o []) (made_so journal.payloads [] cases journal.made)

  bad : (at : ℕ) → IsBad bytes at → cases_in bytes ≡ []
  bad at is =
      let there = records_up_to is.payloads (length bytes) (drop 8 bytes) is.rest is.payload behind_short is.leads is.stands in
      told_long is.long ∙ known_read is.known
      ∙ ap (λ (ps : List (List ℕ)). unwrap_or (made ps []) []) there.1
      ∙ ap (λ (o : Option (List Case)). unwrap_or o []) (made_none is.payloads is.payload there.0 [] is.cases is.made is.refused)

pub tells_the_cases : TellsTheCases
tells_the_cases = record {
  held = held;
  foreign = λ bytes is. told_long bytes is.long ∙ foreign_none bytes is.other;
  bad = bad;
}

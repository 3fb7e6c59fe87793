-- A change of a case leaves its name, and does not queue it again.
use Rattle.std.proofs.Common.{◌≡◌, ℕ, suc, ◌==◌, false, List, [], ◌∷◌, ◌++◌, length, refl, ap, ◌∙◌, arith}
use Rattle.std.proofs.lemmas.Bool.{ne_eqb}
use Rattle.std.proofs.lemmas.List.{length_push}
use Rattle.case_rules.specs.declared.case.Case.{Case}
use Rattle.case_rules.specs.declared.case.Entry.{Entry}
use Rattle.case_rules.specs.declared.reply.Change.{Change}
use Rattle.case_rules.specs.declared.reply.Change.TheVariants as changes
use Rattle.case_rules.specs.Cases.{is_named, is_of, change_last, appeal_entry, rule_entry}
use Rattle.case_keeper.specs.MemoryKeeper.{IsPast, amended_by}

pub record Leaves (f : Case → Case) : Type 0 where
  pub named : (party reference : List ℕ) (case : Case)
      → is_named party reference (f case) ≡ is_named party reference case
  pub own : (party : List ℕ) (case : Case) → is_of party (f case) ≡ is_of party case
  pub past : (case : Case) → IsPast case → IsPast (f case)

length-change_last : (f : Entry → Entry) (entries : List Entry) → length (change_last f entries) ≡ length entries
length-change_last f [] = refl
length-change_last f (entry ∷ []) = refl
length-change_last f (entry ∷ next ∷ entries) = ap suc (length-change_last f (next ∷ entries))

not_empty : (entries : List Entry) (entry : Entry) → (length (entries ++ entry ∷ []) == 0) ≡ false
not_empty entries entry = ne_eqb (length (entries ++ entry ∷ [])) 0 (λ none. omega (arith, length_push entries entry))

as_long : (new old : List Entry) → length new ≡ length old → (length old == 0) ≡ false → (length new == 0) ≡ false
as_long new old same past = ap (λ (n : ℕ). n == 0) same ∙ past

pub leaves_by : (change : Change) → Leaves (amended_by change)
leaves_by (changes.Add added) = record { named = λ _ _ _. refl; own = λ _ _. refl; past = λ case past. past }
leaves_by (changes.Decide party reference decision) =
    record { named = λ _ _ _. refl; own = λ _ _. refl; past = λ case past. not_empty case.entries _ }
leaves_by (changes.Appeal party reference appeal) = record {
  named = λ _ _ _. refl;
  own = λ _ _. refl;
  past = λ case past. as_long (change_last (appeal_entry appeal) case.entries) case.entries
      (length-change_last (appeal_entry appeal) case.entries) past;
}
leaves_by (changes.Rule party reference ruling) = record {
  named = λ _ _ _. refl;
  own = λ _ _. refl;
  past = λ case past. as_long (change_last (rule_entry ruling) case.entries) case.entries
      (length-change_last (rule_entry ruling) case.entries) past;
}

pub party_kept : (change : Change) (case : Case) → (amended_by change case).party ≡ case.party
party_kept (changes.Add added) case = refl
party_kept (changes.Decide party reference decision) case = refl
party_kept (changes.Appeal party reference appeal) case = refl
party_kept (changes.Rule party reference ruling) case = refl

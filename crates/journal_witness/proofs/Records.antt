-- Bytes compute.
use Rattle.std.proofs.Common.{◌≡◌, ℕ, true, List, [], ◌∷◌, length, Ok, Option, Some, ap, arith, take, drop}
use Rattle.std.specs.Prelude.{◌==◌, nat_le}
use Rattle.std.specs.List.{slice_get}
use Rattle.std.proofs.lemmas.Bool.{eqb-true, leb-true}
use Rattle.vet_base.specs.Script.{Value, run}
use Rattle.vet_base.proofs.Runs.{test_ok}
use Rattle.case_rules.specs.declared.case.Appeal.{Appeal}
use Rattle.case_rules.specs.declared.case.OutcomeWord.TheVariants.{Refused}
use Rattle.case_rules.specs.declared.case.RulingWord.TheVariants.{Overturn}
use Rattle.case_rules.specs.declared.reply.Change.TheVariants as changes
use Rattle.case_records.specs.declared.fault.NoPayload.TheVariants.{Cut, Rest}
use Rattle.case_records.specs.Reading.{bytes_from, end_from, outcome_of, word_of}
use Rattle.case_records.specs.Spelling.{text_bytes, u4_bytes, change_bytes}
use Rattle.journal_witness.specs.RecordFacts.{RecordsTell}

kind : (party reference rest : List ℕ) (appeal : Appeal) → change_bytes (changes.Appeal party reference appeal) ≡ 3 ∷ rest → ⊥
unfolding change_bytes
kind party reference rest appeal same =
    let kinds : ◌≡◌ {A = Option ℕ} (Some 2) (Some 3) = ap (λ (bytes : List ℕ). slice_get bytes 0) same in
    cc

size : (rest : List ℕ) → text_bytes [] ≡ 1 ∷ rest → ⊥
unfolding text_bytes
size rest same =
    let sizes : ◌≡◌ {A = Option ℕ} (Some 0) (Some 1) = ap (λ (bytes : List ℕ). slice_get bytes 0) same in
    cc

low_first : u4_bytes 1 ≡ 0 ∷ 0 ∷ 0 ∷ 1 ∷ [] → ⊥
low_first same =
    let first : ◌≡◌ {A = Option ℕ} (Some 1) (Some 0) = ap (λ (bytes : List ℕ). slice_get bytes 0) same in
    cc

undecided : run (outcome_of 2) ≡ Ok Refused → ⊥
unfolding outcome_of
undecided same = absurd cc

no_outcome : run (outcome_of 4) ≡ Ok Refused → ⊥
unfolding outcome_of
no_outcome same = absurd cc

no_word : run (word_of 2) ≡ Ok Overturn → ⊥
unfolding word_of
no_word same = absurd cc

short : (bytes : List ℕ) (found : List ℕ × List ℕ) → length bytes ≡ 31 → run (bytes_from 32 bytes) ≡ Ok found → ⊥
unfolding bytes_from
short bytes found few same =
    let held = test_ok (nat_le 32 (length bytes)) Cut (Value (take 32 bytes, drop 32 bytes)) found same in
    let long = leb-true 32 (length bytes) held.0 in
    omega (arith, few, long)

rest : (byte : ℕ) → run (end_from (byte ∷ [])) ≡ Ok tt → ⊥
unfolding end_from
rest byte same =
    let held = test_ok (length (byte ∷ []) == 0) Rest (Value tt) tt same in
    let none : length (byte ∷ []) ≡ 0 = eqb-true (length (byte ∷ [])) 0 held.0 in
    omega (arith, none)

pub records_tell : RecordsTell
records_tell = record {
  kind = kind;
  size = size;
  low_first = low_first;
  undecided = undecided;
  no_outcome = no_outcome;
  no_word = no_word;
  short = short;
  rest = rest;
}

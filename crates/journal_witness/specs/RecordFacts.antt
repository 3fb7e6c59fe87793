-- What the bytes of a change are not, and which bytes are none. Behind each fact stands what a slip would write or read.
use Rattle.std.specs.Prelude.{◌≡◌, ℕ, List, [], ◌∷◌, length, Ok}
use Rattle.vet_base.specs.Script.{run}
use Rattle.case_rules.specs.declared.case.Appeal.{Appeal}
use Rattle.case_rules.specs.declared.case.OutcomeWord.TheVariants.{Refused}
use Rattle.case_rules.specs.declared.case.RulingWord.TheVariants.{Overturn}
use Rattle.case_rules.specs.declared.reply.Change.TheVariants as changes
use Rattle.case_records.specs.Reading.{bytes_from, end_from, outcome_of, word_of}
use Rattle.case_records.specs.Spelling.{text_bytes, u4_bytes, change_bytes}

pub record RecordsTell : Type 0 where
  -- an appeal is of kind 2 (else of 3, as a ruling)
  pub kind : (party reference rest : List ℕ) (appeal : Appeal)
      → change_bytes (changes.Appeal party reference appeal) ≡ 3 ∷ rest → ⊥
  -- the length of a text is its own (else one more)
  pub size : (rest : List ℕ) → text_bytes [] ≡ 1 ∷ rest → ⊥
  -- of a number the low byte stands first (else the high one)
  pub low_first : u4_bytes 1 ≡ 0 ∷ 0 ∷ 0 ∷ 1 ∷ [] → ⊥
  -- the outcome 2 is undecided (else refused), and there is none of 4 (else the last)
  pub undecided : run (outcome_of 2) ≡ Ok Refused → ⊥
  pub no_outcome : run (outcome_of 4) ≡ Ok Refused → ⊥
  -- there is no ruling of 2 (else one that overturns)
  pub no_word : run (word_of 2) ≡ Ok Overturn → ⊥
  -- an edition of 31 bytes is none (else it is taken)
  pub short : (bytes : List ℕ) (found : List ℕ × List ℕ) → length bytes ≡ 31 → run (bytes_from 32 bytes) ≡ Ok found → ⊥
  -- a byte behind the last field is refused (else passed over)
  pub rest : (byte : ℕ) → run (end_from (byte ∷ [])) ≡ Ok tt → ⊥

-- Which changes do not fit, and what bytes do not hold. Behind each fact stands what a slip would answer.
use Rattle.std.specs.Prelude.{◌≡◌, true, ℕ, List, [], ◌∷◌, ◌++◌, Some, None}
use Rattle.gated_log.specs.Format.{magic}
use Rattle.case_rules.specs.declared.case.Appeal.{Appeal}
use Rattle.case_rules.specs.declared.case.Case.{Case}
use Rattle.case_rules.specs.declared.case.Decision.{Decision}
use Rattle.case_rules.specs.declared.case.Ruling.{Ruling}
use Rattle.case_rules.specs.declared.reply.Change.TheVariants as changes
use Rattle.case_rules.specs.Cases.{entry_of}
use Rattle.journal_law.specs.Journal.{Holds}
use Rattle.journal_law.specs.Reading.{fits_found}

-- ten bytes of no journal
abbrev pub ten : List ℕ
ten = 88 ∷ 88 ∷ 88 ∷ 88 ∷ 88 ∷ 88 ∷ 88 ∷ 88 ∷ 88 ∷ 88 ∷ []

pub record JournalsTell : Type 0 where
  -- a case is added once (else twice)
  pub added : (case found : Case) → fits_found (changes.Add case) (Some found) ≡ true → ⊥
  -- a case that is not there is not decided (else it is)
  pub unknown : (party reference : List ℕ) (decision : Decision) → fits_found (changes.Decide party reference decision) None ≡ true → ⊥
  -- a case without a decision is not appealed (else it is)
  pub queued : (party reference : List ℕ) (appeal : Appeal) (case : Case) → case.entries ≡ []
      → fits_found (changes.Appeal party reference appeal) (Some case) ≡ true → ⊥
  -- a decision without an appeal is not ruled on (else it is)
  pub unappealed : (party reference : List ℕ) (ruling : Ruling) (decision : Decision) (case : Case)
      → case.entries ≡ entry_of decision ∷ [] → fits_found (changes.Rule party reference ruling) (Some case) ≡ true → ⊥
  -- ten other bytes hold no list of cases (else the empty one)
  pub foreign : (cases : List Case) → Holds ten cases → ⊥
  -- a journal without records holds no case (else one)
  pub empty : (case : Case) → Holds (magic ++ 0 ∷ []) (case ∷ []) → ⊥

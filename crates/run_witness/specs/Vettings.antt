-- How a run that vets does not end where this is due to its words and files, whatever the words. Behind each fact stands what a slip would do.
use Rattle.std.specs.Prelude.{◌≡◌, ℕ, List, [], ◌∷◌, ◌++◌, ◌≤◌, Option, Some, None, codes}
use Rattle.verdict.specs.declared.outcome.Outcome.{Outcome}
use Rattle.app_folder.specs.Due.{Due}
use Rattle.app_folder.specs.Outside.{Outside}
use Rattle.desk_words.specs.Words.{Words}
use Rattle.vetting_desk.specs.Made.{summary_text}
use Rattle.vetting_desk.specs.Top.{Ends}

-- nothing was printed before, and this after
pub record Prints (old new : Outside) (text : List ℕ) : Type 0 where
  pub before : old.tells.printed ≡ Some []
  pub after : new.tells.printed ≡ Some text

-- no call had failed, nor has one
pub record NoneFails (before after : ℕ) : Type 0 where
  pub none : before ≡ 0
  pub still : after ≡ 0

-- where this is due to the words, and nothing else
pub record NoVetting (words : Option Words) (old new : Outside) (due : Due) : Type 0 where
  -- what is flagged is not clear (else status 0)
  pub flagged : due.status ≡ 1 → Ends (λ d. d ≡ due) words old new 0 → ⊥
  -- nor is what has a certificate that is refused, for its table or its digest (else status 0)
  pub uncertified : due.status ≡ 9 → Ends (λ d. d ≡ due) words old new 0 → ⊥
  -- what is clear is no certificate that is refused (else status 9)
  pub no_refusal : due.status ≡ 0 → Ends (λ d. d ≡ due) words old new 9 → ⊥
  -- nor words of no form (else status 4, as with no words)
  pub no_usage : due.status ≡ 0 → Ends (λ d. d ≡ due) words old new 4 → ⊥
  -- nor a read that failed, where none has (else status 5)
  pub no_read_fault : due.status ≡ 0 → NoneFails old.faults.files new.faults.files → Ends (λ d. d ≡ due) words old new 5 → ⊥
  -- what was printed is no write that failed, where no put has (else status 6, or the text before the file that is due)
  pub no_write_fault : due.status ≡ 0 → (c : ℕ) (text : List ℕ) → Prints old new (c ∷ text) → NoneFails old.faults.sink new.faults.sink → Ends (λ d. d ≡ due) words old new 6 → ⊥
  -- nor want of memory (else status 7)
  pub no_want : due.status ≡ 0 → (c : ℕ) (text : List ℕ) → Prints old new (c ∷ text) → Ends (λ d. d ≡ due) words old new 7 → ⊥
  -- the text is the one that is due (else that of another app, or with one method fewer)
  pub own_text : (n : ℕ) → n ≤ 3 → (text : List ℕ) → Prints old new text → Ends (λ d. d ≡ due) words old new n → text ≡ due.text
  -- where no file is due none is written (else a certificate without a byte)
  pub unwritten : due.status ≡ 3 → due.written ≡ None → Ends (λ d. d ≡ due) words old new 3 → new.tells.files ≡ old.tells.files

pub record VettingsEnd : Type 0 where
  pub no_vetting : (words : Option Words) (old new : Outside) (due : Due) → NoVetting words old new due
  -- an app of one drawn method has two (else one)
  pub two_methods : (rows : Option ℕ) (outcome : Outcome) (rest : List ℕ) → codes "methods 1" ++ rest ≡ summary_text 1 rows outcome → ⊥

-- What is due to a folder: to the parts that it gives, by what is asked of them.
use Rattle.std.specs.Prelude.{Result, Ok, Err}
use Rattle.verdict.specs.declared.outcome.Outcome.{Outcome}
use Rattle.verdict.specs.declared.outcome.Outcome.TheVariants as outcomes
use Rattle.verdict.specs.declared.parts.Parts.{Parts}
use Rattle.verdict.specs.Verdict.{Verdict}
use Rattle.app_folder.specs.Due.{Due, reported}
use Rattle.app_folder.specs.Folder.{Refusal}

-- What is due to the parts that a folder gives; a folder that is refused is reported so. What it gives may be told by its
-- files, or be what reads of them gave.
pub data FolderDue (PartsDue : Parts → Due → Type 0) (Gives : Result Parts Refusal → Type 0) : Due → Type 0 where
  refused : (refusal : Refusal) →
      Gives (Err refusal) →
      FolderDue PartsDue Gives (reported (outcomes.Refused refusal.0 refusal.1))
  given : (parts : Parts) (due : Due) →
      Gives (Ok parts) →
      PartsDue parts due →
      FolderDue PartsDue Gives due

-- Parts that are checked: the report of what they come to.
pub data Checks (parts : Parts) : Due → Type 0 where
  report : (outcome : Outcome) → Verdict parts outcome → Checks parts (reported outcome)

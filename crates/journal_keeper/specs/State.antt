-- A journal as contracts see it, and what a crash may leave of it.
use Rattle.std.specs.Prelude.{ℕ, List, Option}
use Rattle.disks.specs.Disks.{Told}
use Rattle.case_rules.specs.declared.case.Case.{Case}
use Rattle.case_rules.specs.declared.reply.Change.{Change}
use Rattle.journal_reading.specs.declared.opening.Opened.{Opened}
use Rattle.journal_reading.specs.Keeping.{LeavesCases, StaysSafe, told_by}
use Rattle.journal_keeper.specs.Causes.{total}

-- what the disk tells, how often it failed, how often the journal did, and the journal where it is open
pub record JournalState : Type 0 where
  pub told : Option Told
  pub faults : ℕ
  pub own : ℕ
  pub opened : Option Opened

-- the cases of the journal, where the disk tells what it holds
abbrev pub told_cases : JournalState → Option (List Case)
told_cases k = told_by k.opened k.told

abbrev pub all_faults : JournalState → ℕ
all_faults k = total k.faults k.own

-- Of a safe journal a crash at any moment of a call leaves bytes that hold the cases before it, or these and the change that was
-- written last or that the call adds; and it is safe afterwards.
pub record Outlasts (Added : Change → Type 0) (old new : JournalState) : Type 0 where
  pub any_moment : LeavesCases Added old.opened old.told new.told
  pub safe : StaysSafe old.opened new.opened old.told new.told

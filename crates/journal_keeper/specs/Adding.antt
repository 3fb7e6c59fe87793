-- What adding a change to an open journal leaves.
use Rattle.std.specs.Prelude.{◌≡◌, ◌<◌, [], Option, Some, None, Result, Ok, Err, IfSome}
use Rattle.disks.specs.Disks.{Told}
use Rattle.gated_log.specs.declared.log.Gate.TheVariants.{Closed}
use Rattle.case_rules.specs.declared.reply.Change.{Change}
use Rattle.case_rules.specs.Cases.{after}
use Rattle.case_rules.specs.Docket.{Fits}
use Rattle.case_keeper.specs.declared.keeper.KeepFault.{KeepFault}
use Rattle.journal_reading.specs.declared.opening.Opened.{Opened}
use Rattle.journal_reading.specs.Keeping.{Keeps, IsOpen}

-- The records make the cases with the change, which the keeper in memory does not have yet.
pub record IsAhead (change : Change) (told : Option Told) (o : Opened) : Type 0 where
  pub unfailing : o.held.failing ≡ []
  pub fits : Fits change o.held.cases
  pub shut : o.log.gate ≡ Closed
  pub room : o.log.end < 18446744073709551615
  pub kept : IfSome told (Keeps o.log (after change o.held.cases))

-- The record of the change was written, or the journal is open as before; the keeper in memory has the cases that it had.
abbrev pub WritesChange : Change → Opened → Opened → Option Told → Result (Unit {0}) KeepFault → Type 0
WritesChange change old new told (Ok x) = IsAhead change told new × (new.held.cases ≡ old.held.cases)
WritesChange change old new told (Err fault) = IsOpen told new × (new.held.cases ≡ old.held.cases)

-- Look-ups of the keeper in memory leave its cases.
abbrev pub HasTheSame : Opened → Opened → Type 0
HasTheSame o p = (p.log ≡ o.log) × (p.held.cases ≡ o.held.cases) × (p.held.failing ≡ [])

abbrev pub HoldsTheSame : Option Opened → Option Opened → Type 0
HoldsTheSame None new = new ≡ None
HoldsTheSame (Some o) None = ⊥
HoldsTheSame (Some o) (Some p) = HasTheSame o p

-- The keeper in memory has the change too.
abbrev pub HasMade : Change → Opened → Opened → Type 0
HasMade change o p = (p.log ≡ o.log) × (p.held.cases ≡ after change o.held.cases) × (p.held.failing ≡ [])

-- It has, or the journal was closed.
abbrev pub Follows : Change → Option Opened → Option Opened → Type 0
Follows change None new = new ≡ None
Follows change (Some o) None = Unit {0}
Follows change (Some o) (Some p) = HasMade change o p

-- That findings and causes leave out nothing that rows tell.
use Rattle.std.specs.Prelude.{◌⊎◌, ◌<◌, ℕ, List}
use Rattle.app_machine.specs.declared.app.App.{App}
use Rattle.app_machine.specs.declared.lists.Lists.{Lists}
use Rattle.app_machine.specs.declared.papers.Declaration.{Declaration}
use Rattle.app_machine.specs.Safe.{Declared}
use Rattle.app_machine.specs.Sound.{SoundApp}
use Rattle.app_machine.specs.State.{Arrival}
use Rattle.fact_rows.specs.declared.row.Row.{Row}
use Rattle.vet_base.specs.Members.{In}
use Rattle.outcomes.specs.declared.outcome.Place.{Place}
use Rattle.outcomes.specs.Causes.{causes_of, named_cause, unknown_places}
use Rattle.outcomes.specs.Findings.{arrivals_in, finding_of, findings_of}
use Rattle.outcomes.specs.Within.{AreWithin}

-- the pair of each arrival that rows tell of is declared, or the arrival is among the findings
abbrev pub EachIsFound : Type 0
EachIsFound =
    (app : App) (lists : Lists) (declaration : Declaration) (rows : List Row) → SoundApp app → AreWithin app rows →
    (a : Arrival) → In a (arrivals_in rows) →
    Declared lists declaration a.label a.sink ⊎ In (finding_of app lists a) (findings_of app lists declaration rows)

-- each place where rows say that a run may stand for one of the three is among the causes
abbrev pub EachIsNamed : Type 0
EachIsNamed =
    (app : App) (rows : List Row) → SoundApp app → AreWithin app rows →
    (cause : ℕ) → 0 < cause → cause < 4 → (p : Place) → In p (unknown_places app cause rows) →
    In (named_cause cause p) (causes_of app rows)

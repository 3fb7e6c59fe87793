-- What rows tell of an app.
use Rattle.std.specs.Prelude.{◌≡◌, List, [], ◌++◌}
use Rattle.app_machine.specs.declared.app.App.{App}
use Rattle.app_machine.specs.declared.lists.Lists.{Lists}
use Rattle.app_machine.specs.declared.papers.Declaration.{Declaration}
use Rattle.fact_rows.specs.declared.row.Row.{Row}
use Rattle.outcomes.specs.declared.outcome.Cause.{Cause}
use Rattle.outcomes.specs.Causes.{causes_of}
use Rattle.outcomes.specs.Findings.{findings_of}
use Rattle.flow_telling.specs.declared.told.Told.{Told}

-- the causes and findings that rows tell, with these causes beside them
abbrev pub told_of : App → Lists → Declaration → List Cause → List Row → Told
told_of app lists declaration beside rows = record { causes = causes_of app rows ++ beside; findings = findings_of app lists declaration rows }

-- no cause and no finding
abbrev pub TellsNothing : Told → Type 0
TellsNothing told = (told.causes ≡ []) × (told.findings ≡ [])

-- What the parts of an app come to, and when they make an app that is safe.
use Rattle.std.specs.Prelude.{◌≡◌, List, [], ◌++◌, Option, Some, None}
use Rattle.dex_tables.specs.declared.dex.Dex.{Dex}
use Rattle.app_machine.specs.declared.app.App.{App}
use Rattle.app_machine.specs.declared.lists.Lists.{Lists}
use Rattle.app_machine.specs.declared.papers.Declaration.{Declaration}
use Rattle.app_machine.specs.Safe.{Safe}
use Rattle.app_flow.specs.declared.flow.Flow.{Flow}
use Rattle.app_flow.specs.declared.flow.Flow.TheVariants.{Rows, TooLarge}
use Rattle.app_flow.specs.declared.flow_rows.FlowTable.{FlowTable}
use Rattle.app_flow.specs.Flow.{IsFlow}
use Rattle.app_link.specs.IsApp.{IsApp}
use Rattle.device_causes.specs.DeviceCauses.{device_causes}
use Rattle.link_access.specs.Access.{accesses_in}
use Rattle.outcomes.specs.declared.outcome.Cause.{Cause}
use Rattle.outcomes.specs.Causes.{causes_of, causes_too_large}
use Rattle.outcomes.specs.Findings.{findings_of}
use Rattle.store_lists.specs.declared.large.Large.{Large}
use Rattle.verdict.specs.declared.outcome.Judged.{Judged}
use Rattle.verdict.specs.declared.outcome.Outcome.{Outcome}
use Rattle.verdict.specs.declared.outcome.Outcome.TheVariants.{Refused, Undecided}
use Rattle.verdict.specs.declared.outcome.Part.{Part}
use Rattle.verdict.specs.declared.outcome.Reason.{Reason}
use Rattle.verdict.specs.declared.papers.Papers.{Papers}
use Rattle.verdict.specs.declared.parts.Parts.{Parts}
use Rattle.verdict.specs.Outcome.{outcome_of}
use Rattle.verdict.specs.Refuses.{Refuses, Reads}

-- What the causes and findings of the rows that follow make of an app, with the causes beside them, and these rows as its table,
-- by the analysis by which they follow. Of an app that is too large nothing is found, and there is no table.
abbrev pub judged_by : App → Lists → Declaration → List Cause → Flow → Judged
judged_by app lists declaration beside (Rows table) =
    record { outcome = outcome_of (causes_of app table.rows ++ beside) (findings_of app lists declaration table.rows); table = Some table }
judged_by app lists declaration beside (TooLarge limit) = record { outcome = Undecided (causes_too_large app limit ++ beside) []; table = None }

-- what an app comes to, by its flow, which goes by how the lists say that large apps are judged, and by the causes beside it
pub record ComesTo (app : App) (lists : Lists) (large : Option Large) (declaration : Declaration) (beside : List Cause) (j : Judged) : Type 0 where
  pub flow : Flow
  pub is_flow : IsFlow app lists large flow
  pub same : j ≡ judged_by app lists declaration beside flow

-- why a device may do more than the machine, as far as the files, the lists and the manifest tell
abbrev pub told_beside : Papers → List Dex → App → List Cause
told_beside papers dexes app = device_causes app (accesses_in dexes) papers.lists papers.device papers.named

-- a refusal, without a table
abbrev pub refusal : Part → Reason → Judged
refusal part reason = record { outcome = Refused part reason; table = None }

-- the first refusal, or else what the app comes to
pub data Judgement (parts : Parts) : Judged → Type 0 where
  refused : (part : Part) (reason : Reason) → Refuses parts part reason → Judgement parts (refusal part reason)
  linked : {j : Judged} (papers : Papers) (dexes : List Dex) (app : App) → Reads parts papers dexes → IsApp dexes papers.manifest papers.layouts app
      → ComesTo app papers.lists papers.large papers.declaration (told_beside papers dexes app) j → Judgement parts j

-- the outcome of the parts, with whatever table
abbrev pub Verdict : Parts → Outcome → Type 0
Verdict parts outcome = (table : Option FlowTable) × Judgement parts (record { outcome = outcome; table = table })

-- The bytes are forms and DEX files that make an app, and that app is safe by these lists and this declaration: no run of the
-- machine brings a label to a sink unless that pair is declared, and none comes to what is not modelled.
pub record IsSafeApp (parts : Parts) : Type 0 where
  pub papers : Papers
  pub dexes : List Dex
  pub reads : Reads parts papers dexes
  pub app : App
  pub is_app : IsApp dexes papers.manifest papers.layouts app
  pub safe : Safe app papers.lists papers.declaration

-- What an outcome tells of the runs of an app.
use Rattle.std.specs.Prelude.{◌≡◌, ◌⊎◌, ℕ, List}
use Rattle.dex_tables.specs.declared.dex.Dex.{Dex}
use Rattle.app_machine.specs.declared.app.App.{App}
use Rattle.app_machine.specs.declared.lists.Lists.{Lists}
use Rattle.app_machine.specs.declared.papers.Declaration.{Declaration}
use Rattle.app_machine.specs.Run.{Run}
use Rattle.app_machine.specs.Safe.{Declared, Stands}
use Rattle.app_machine.specs.State.{Arrival, World, Frame}
use Rattle.app_link.specs.IsApp.{IsApp}
use Rattle.outcomes.specs.declared.outcome.Cause.TheVariants.{TooLarge}
use Rattle.outcomes.specs.Causes.{named_cause}
use Rattle.outcomes.specs.Findings.{finding_of}
use Rattle.outcomes.specs.Places.{place_in}
use Rattle.vet_base.specs.Members.{In}
use Rattle.verdict.specs.declared.outcome.Outcome.{Outcome}
use Rattle.verdict.specs.declared.outcome.Outcome.TheVariants.{Refused}
use Rattle.verdict.specs.declared.outcome.Part.{Part}
use Rattle.verdict.specs.declared.outcome.Reason.{Reason}
use Rattle.verdict.specs.declared.papers.Papers.{Papers}
use Rattle.verdict.specs.declared.parts.Parts.{Parts}
use Rattle.verdict.specs.Outcome.{causes_in, findings_in}
use Rattle.verdict.specs.Refuses.{Reads}

-- The outcome leaves out nothing that a run of the app does.
pub record TellsAll (app : App) (lists : Lists) (declaration : Declaration) (outcome : Outcome) : Type 0 where
  -- what a run brings to a sink is of a declared pair, or a finding names its categories and its place
  pub arrivals : (w : World) (fs : List Frame) → Run app lists w fs → (a : Arrival) → In a w.arrivals →
      Declared lists declaration a.label a.sink ⊎ In (finding_of app lists a) (findings_in outcome)
  -- where a run comes to what is not modelled, a cause names the place
  pub stands : (w : World) (fs : List Frame) → Run app lists w fs → (method pc cause : ℕ) → Stands app lists w fs method pc cause →
      In (named_cause cause (place_in app method pc)) (causes_in outcome)

-- the outcome is neither a refusal nor that the app is too large
pub record IsFollowed (outcome : Outcome) : Type 0 where
  pub not_refused : (part : Part) (reason : Reason) → outcome ≡ Refused part reason → ⊥
  pub not_too_large : (limit : ℕ) → In (TooLarge limit) (causes_in outcome) → ⊥

-- The bytes are forms and DEX files that make an app, and the outcome leaves out nothing that a run of it does, by these lists
-- and this declaration.
pub record TellsOfApp (parts : Parts) (outcome : Outcome) : Type 0 where
  pub papers : Papers
  pub dexes : List Dex
  pub reads : Reads parts papers dexes
  pub app : App
  pub is_app : IsApp dexes papers.manifest papers.layouts app
  pub tells : TellsAll app papers.lists papers.declaration outcome

-- Indexes of one app and of its lists, and which analysis they serve.
use Rattle.std.specs.Prelude.{◌≡◌, Option, Some, None}
use Rattle.analysis_rules.specs.declared.indexes.AppIndexes.{AppIndexes}
use Rattle.app_machine.specs.declared.app.App.{App}
use Rattle.app_machine.specs.Sound.{SoundApp}
use Rattle.app_machine.specs.SoundLists.{SoundLists}
use Rattle.flow_analyses.specs.declared.Analysis.{Analysis}
use Rattle.flow_analyses.specs.declared.Analysis.TheVariants.{Paths, Cells}
use Rattle.register_readers.specs.Readings.{Readings, AreReaders}

-- the second, where it is told where registers are read
abbrev pub analysis_with : Option Readings → Analysis
analysis_with None = Paths
analysis_with (Some readings) = Cells

-- what is told of that is right, and of this app
abbrev pub AreRead : App → Option Readings → Type 0
AreRead app None = Unit {0}
AreRead app (Some readings) = (readings.app ≡ app) × AreReaders readings

-- app and lists are sound, and the events are those of the same app and the same lists
pub record AreIndexes (indexes : AppIndexes) : Type 0 where
  pub sound_app : SoundApp indexes.app
  pub sound_lists : SoundLists indexes.lists
  pub same_app : indexes.events.0 ≡ indexes.app
  pub same_lists : indexes.events.1 ≡ indexes.lists
  pub read : AreRead indexes.app indexes.readers

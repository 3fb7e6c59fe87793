-- What is told of a run is so of the app.
use Rattle.std.specs.Prelude.{◌≡◌, ◌↔◌, ℕ, List, [], map}
use Rattle.vet_base.specs.Members.{In}
use Rattle.app_machine.specs.declared.app.App.{App}
use Rattle.app_machine.specs.declared.lists.Lists.{Lists}
use Rattle.app_machine.specs.declared.papers.Declaration.{Declaration}
use Rattle.app_machine.specs.Run.{Run}
use Rattle.app_machine.specs.Safe.{Declared, Safe, Stands}
use Rattle.app_machine.specs.Sound.{SoundApp}
use Rattle.app_machine.specs.SoundLists.{SoundLists}
use Rattle.app_machine.specs.State.{Arrival, Frame, World}
use Rattle.app_runner.specs.declared.running.Played.{Played}
use Rattle.app_runner.specs.Played.{Tells}
use Rattle.runner_stands.specs.Stands.{stand_at, stand_of}
use Rattle.runner_world.specs.Shown.{arrival_of}

-- The machine comes to a state where exactly this has arrived, and where exactly this stands.
pub record IsOfRun (app : App) (lists : Lists) (played : Played) : Type 0 where
  pub world : World
  pub frames : List Frame
  pub run : Run app lists world frames
  pub arrivals : map arrival_of played.arrivals.items ≡ world.arrivals
  pub stands : (method pc cause : ℕ) → In (stand_at method pc cause) (map stand_of played.stands.items) ↔ Stands app lists world frames method pc cause

abbrev pub PlayedIsRun : Type 0
PlayedIsRun =
    (app : App) (lists : Lists) → SoundApp app → SoundLists lists →
    (script : List ℕ) (played : Played) → Tells app lists script played → IsOfRun app lists played

-- each arrival is declared, and nothing stands
pub record IsQuiet (lists : Lists) (declaration : Declaration) (played : Played) : Type 0 where
  pub declared : (a : Arrival) → In a (map arrival_of played.arrivals.items) → Declared lists declaration a.label a.sink
  pub never_stands : map stand_of played.stands.items ≡ []

abbrev pub QuietWhereSafe : Type 0
QuietWhereSafe =
    (app : App) (lists : Lists) (declaration : Declaration) → SoundApp app → SoundLists lists → Safe app lists declaration →
    (script : List ℕ) (played : Played) → Tells app lists script played → IsQuiet lists declaration played

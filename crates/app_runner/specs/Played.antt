-- What is told of a run by a script.
use Rattle.std.specs.Prelude.{◌≡◌, ℕ, List, length, map}
use Rattle.app_machine.specs.declared.app.App.{App}
use Rattle.app_machine.specs.declared.lists.Lists.{Lists}
use Rattle.app_runner.specs.declared.running.Played.{Played}
use Rattle.app_runner.specs.Told.{last_of}
use Rattle.played_machine.specs.Drawn.{start, drawn_within}
use Rattle.played_machine.specs.Local.{Playing}
use Rattle.played_machine.specs.Standing.{stands_of}
use Rattle.runner_stands.specs.Stands.{stand_of}
use Rattle.runner_world.specs.Shown.{arrival_of}

-- the states behind the first, to the end of the script
abbrev pub states : App → Lists → List ℕ → List Playing
states app lists script = drawn_within (length script) app lists start script

-- the last state
abbrev pub final : App → Lists → List ℕ → Playing
final app lists script = last_of start (states app lists script)

-- how many steps there are, and what has arrived and where it stands in the last state
pub record Tells (app : App) (lists : Lists) (script : List ℕ) (played : Played) : Type 0 where
  pub steps : played.steps ≡ length (states app lists script)
  pub arrivals : map arrival_of played.arrivals.items ≡ (final app lists script).world.arrivals
  pub stands : map stand_of played.stands.items ≡ stands_of app lists (final app lists script).world (final app lists script).frames

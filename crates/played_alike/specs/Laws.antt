-- From alike states the same is drawn.
use Rattle.std.specs.Prelude.{◌≡◌, ℕ, List}
use Rattle.app_machine.specs.declared.app.App.{App}
use Rattle.app_machine.specs.declared.lists.Lists.{Lists}
use Rattle.played_machine.specs.Drawn.{drawn_step, drawn_within}
use Rattle.played_machine.specs.Local.{Playing}
use Rattle.played_machine.specs.Standing.{stands_of}
use Rattle.played_alike.specs.Alike.{Pairwise, AlikePlaying, AlikeDrawn}

-- What follows from alike states: the same steps, to alike states, and the same stands.
pub record DrawnAlike (app : App) (lists : Lists) (s t : Playing) : Type 0 where
  pub step : (bytes : List ℕ) → AlikeDrawn AlikePlaying (drawn_step app lists s bytes) (drawn_step app lists t bytes)
  pub run : (n : ℕ) (bytes : List ℕ) → Pairwise AlikePlaying (drawn_within n app lists s bytes) (drawn_within n app lists t bytes)
  pub stands : stands_of app lists s.world s.frames ≡ stands_of app lists t.world t.frames

abbrev pub AlikeStatesDrawAlike : Type 0
AlikeStatesDrawAlike = (app : App) (lists : Lists) (s t : Playing) → AlikePlaying s t → DrawnAlike app lists s t

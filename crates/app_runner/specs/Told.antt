-- What is told of a run from a state: how many steps it has, what has arrived, and where it stands.
use Rattle.std.specs.Prelude.{◌≡◌, ℕ, List, [], ◌∷◌, length}
use Rattle.app_machine.specs.declared.app.App.{App}
use Rattle.app_machine.specs.declared.lists.Lists.{Lists}
use Rattle.app_machine.specs.State.{Arrival}
use Rattle.played_machine.specs.Drawn.{drawn_within}
use Rattle.played_machine.specs.Local.{Playing}
use Rattle.played_machine.specs.Standing.{Stand, stands_of}

-- the last of the states, the first being this one
abbrev pub last_of : Playing → List Playing → Playing
last_of s [] = s
last_of s (t ∷ ts) = last_of t ts

-- after at most so many steps by these bytes, there are this many, and this has arrived and stands
pub record TellsFrom (app : App) (lists : Lists) (s : Playing) (bytes : List ℕ) (n steps : ℕ) (arrivals : List Arrival) (stands : List Stand) : Type 0 where
  pub steps_made : length (drawn_within n app lists s bytes) ≡ steps
  pub arrived : (last_of s (drawn_within n app lists s bytes)).world.arrivals ≡ arrivals
  pub stands_here : stands_of app lists (last_of s (drawn_within n app lists s bytes)).world (last_of s (drawn_within n app lists s bytes)).frames ≡ stands

-- the script makes so many steps, behind which a state like this one is there
abbrev pub RunsTo : App → Lists → Playing → List ℕ → ℕ → Playing → Type 0
RunsTo app lists s script steps t = TellsFrom app lists s script (length script) steps t.world.arrivals (stands_of app lists t.world t.frames)

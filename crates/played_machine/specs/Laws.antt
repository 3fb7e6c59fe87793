-- What is drawn is what the machine does.
use Rattle.std.specs.Prelude.{◌≡◌, ◌≤◌, ◌⊎◌, ◌↔◌, ℕ, List, [], ◌∷◌, length, Some}
use Rattle.app_machine.specs.declared.app.App.{App}
use Rattle.app_machine.specs.declared.lists.Lists.{Lists}
use Rattle.app_machine.specs.declared.papers.Declaration.{Declaration}
use Rattle.app_machine.specs.Run.{Steps, Run}
use Rattle.app_machine.specs.Safe.{Stands, Declared, Safe}
use Rattle.app_machine.specs.Sound.{SoundApp}
use Rattle.app_machine.specs.SoundLists.{SoundLists}
use Rattle.app_machine.specs.State.{Arrival, World, Frame}
use Rattle.vet_base.specs.Members.{In}
use Rattle.played_machine.specs.Drawn.{start, drawn_step, drawn_within, drawn}
use Rattle.played_machine.specs.Local.{Playing}
use Rattle.played_machine.specs.Standing.{stands_of}

-- A step that is drawn is one of the machine's, or the coming of an initialiser without code, which changes nothing.
abbrev pub StepsAsMachine : Type 0
StepsAsMachine =
    (app : App) (lists : Lists) → SoundApp app → SoundLists lists →
    (s t : Playing) (bytes rest : List ℕ) → drawn_step app lists s bytes ≡ Some (t, rest) →
    Steps app lists s.world s.frames t.world t.frames ⊎ (t ≡ s)

-- each state of what is drawn is the last of a run of the machine
abbrev pub DrawnIsRun : Type 0
DrawnIsRun =
    (app : App) (lists : Lists) → SoundApp app → SoundLists lists →
    (script : List ℕ) (s : Playing) → In s (drawn app lists script) → Run app lists s.world s.frames

-- the stands that are listed of a state are the places where it stands, each with its cause
abbrev pub StandsAreExact : Type 0
StandsAreExact =
    (app : App) (lists : Lists) → SoundApp app →
    (w : World) (fs : List Frame) (method pc cause : ℕ) →
    In (record { cause = cause; method = method; pc = pc }) (stands_of app lists w fs) ↔ Stands app lists w fs method pc cause

-- The run ends only where no step is drawn: more turns than there are bytes draw no state more.
abbrev pub DrawnToItsEnd : Type 0
DrawnToItsEnd =
    (app : App) (lists : Lists) (script : List ℕ) (n : ℕ) → length script ≤ n →
    start ∷ drawn_within n app lists start script ≡ drawn app lists script

-- Where the app is safe, whatever the script, no undeclared label arrives and no state stands.
pub record Quiet (app : App) (lists : Lists) (declaration : Declaration) (s : Playing) : Type 0 where
  pub declared : (a : Arrival) → In a s.world.arrivals → Declared lists declaration a.label a.sink
  pub never_stands : stands_of app lists s.world s.frames ≡ []

abbrev pub SafeAppsAreQuiet : Type 0
SafeAppsAreQuiet =
    (app : App) (lists : Lists) (declaration : Declaration) → SoundApp app → SoundLists lists → Safe app lists declaration →
    (script : List ℕ) (s : Playing) → In s (drawn app lists script) → Quiet app lists declaration s

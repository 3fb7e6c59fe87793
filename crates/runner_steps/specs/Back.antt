-- A return, where its value is known.
use Rattle.std.specs.Prelude.{ℕ, Bool, if◌then◌else◌, List, [], ◌∷◌, Option}
use Rattle.app_machine.specs.declared.app.App.{App}
use Rattle.app_machine.specs.Calls.{hand, returned}
use Rattle.app_machine.specs.Heap.{Value}
use Rattle.app_machine.specs.Lookups.{step_at}
use Rattle.app_machine.specs.State.{World, Frame, result_register}
use Rattle.played_machine.specs.Drawing.{Drawing, give, one_of, ◌>>=◌}
use Rattle.played_machine.specs.Local.{Playing, playing, next_of}
use Rattle.runner_calls.specs.Frames.{gone_on}

-- the first of the frames goes on at one of the next, with the value
abbrev pub on_with : World → Value → List ℕ → List Frame → Drawing Playing
on_with w v next fs = one_of next >>= λ pc. give (playing w (gone_on result_register v pc fs))

-- after an initialiser it tries its instruction again
abbrev pub again_or_on : World → Value → List ℕ → List Frame → Bool → Drawing Playing
again_or_on w v next fs initialises = if initialises then give (playing w fs) else on_with w v next fs

-- back to the callers; or the event ends, and the value is handed to the library
abbrev pub back_to : App → World → Value → Bool → List Frame → Drawing Playing
back_to app w v initialises [] = give (playing (record w { handed = hand v.place w.handed }) [])
back_to app w v initialises (g ∷ fs) = again_or_on w v (next_of (step_at app g.method g.pc)) (g ∷ fs) initialises

-- a return that may come
abbrev pub returns_to : App → World → Option ℕ → Frame → List Frame → Drawing Playing
returns_to app w x f fs = back_to app w (returned f x) f.initialises fs

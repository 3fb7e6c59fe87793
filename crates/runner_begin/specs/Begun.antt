-- How an event with a receiver begins, with labels by position.
use Rattle.std.specs.Prelude.{ℕ, List, [], ◌∷◌, Option, Some, None}
use Rattle.app_machine.specs.declared.app.App.{App}
use Rattle.app_machine.specs.declared.lists.Lists.{Lists}
use Rattle.app_machine.specs.declared.method.Method.{Method}
use Rattle.app_machine.specs.Heap.{Value, Object}
use Rattle.app_machine.specs.Names.{Name}
use Rattle.app_machine.specs.State.{World, Frame}
use Rattle.played_machine.specs.Calling.{code_of}
use Rattle.played_machine.specs.Coming.{event_frame}
use Rattle.played_machine.specs.Drawing.{Drawing, give, ◌>>=◌}
use Rattle.played_machine.specs.Local.{Playing, playing}
use Rattle.runner_begin.specs.Parameters.{labels_by, parameters_by}

-- the method of the body, where there is one with code
abbrev pub code_at : App → Option ℕ → Option Method
code_at app None = None
code_at app (Some body) = code_of app body

-- the types of its parameters
abbrev pub types_of : Option Method → List Name
types_of None = []
types_of (Some m) = m.at.proto.params

-- the receiver, whose labels ascend
abbrev pub receiver_by : Option ℕ → List (ℕ × ℕ) → Value
receiver_by place sources = record { place = place; labels = labels_by sources 0 }

-- the frame of the body that begins with these values of its positions
abbrev pub frames_with : ℕ → Option Method → List Value → List Frame
frames_with body None values = []
frames_with body (Some m) values = event_frame body m values ∷ []

abbrev pub frames_at : App → Option ℕ → List Value → List Frame
frames_at app None values = []
frames_at app (Some body) values = frames_with body (code_of app body) values

-- the body runs with these parameters, over the heap with their objects
abbrev pub begun_with : App → Option ℕ → Option ℕ → List (ℕ × ℕ) → World → List Value × List Object → Playing
begun_with app body place sources w drawn = playing (record w { heap = drawn.1 }) (frames_at app body (receiver_by place sources ∷ drawn.0))

-- the body begins in the world, where there is one with code
abbrev pub received_by : App → Lists → Option ℕ → Option ℕ → List (ℕ × ℕ) → World → Drawing Playing
received_by app lists body place sources w =
    parameters_by app lists w.handed (labels_by sources) 1 (types_of (code_at app body)) w.heap >>= λ (drawn : List Value × List Object).
    give (begun_with app body place sources w drawn)

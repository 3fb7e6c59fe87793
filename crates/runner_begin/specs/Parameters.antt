-- The parameters of an event's body, with labels by position, and as the code has them before any object is made.
use Rattle.std.specs.Prelude.{ℕ, ◌+◌, List, [], ◌∷◌, ◌++◌, map, length, Some}
use Rattle.app_machine.specs.declared.app.App.{App}
use Rattle.app_machine.specs.declared.lists.Lists.{Lists}
use Rattle.app_machine.specs.Events.{labels_at, labelled_element}
use Rattle.app_machine.specs.Heap.{Value, Object, labelled}
use Rattle.app_machine.specs.Names.{Name}
use Rattle.played_machine.specs.Coming.{fresh_object, parameter}
use Rattle.played_machine.specs.Drawing.{Drawing, give, ◌>>=◌}
use Rattle.played_machine.specs.Ordered.{ascending}
use Rattle.runner_begin.specs.declared.drawing.Drawn.{Drawn}
use Rattle.runner_begin.specs.declared.drawing.Fresh.{Fresh}
use Rattle.runner_state.specs.declared.script.Script.{Script}
use Rattle.runner_state.specs.declared.value.Held.{Held}
use Rattle.runner_state.specs.Shown.{labels_of, value_of}

-- the values of the parameters from position i on, and the heap with all of them, where positions have these labels
abbrev pub parameters_by : App → Lists → List ℕ → (ℕ → List ℕ) → ℕ → List Name → List Object → Drawing (List Value × List Object)
parameters_by app lists handed labels i [] heap = give ([], heap)
parameters_by app lists handed labels i (type ∷ types) heap =
    parameter app lists handed (labels i) type heap >>= λ (first : Value × List Object).
    parameters_by app lists handed labels (i + 1) types first.1 >>= λ (others : List Value × List Object).
    give (first.0 ∷ others.0, others.1)

-- the labels of a position, ascending
abbrev pub labels_by : List (ℕ × ℕ) → ℕ → List ℕ
labels_by sources i = ascending (labels_at sources i)

-- an object that is to be made
abbrev pub object_in : Fresh → Object
object_in one = record { class = one.class.now; entries = labelled_element (labels_of one.labels) }

-- the heap with these objects
abbrev pub planned_in : List Object → List Fresh → List Object
planned_in heap fresh = heap ++ map object_in fresh

abbrev pub classes_in : List Fresh → List Name
classes_in fresh = map (λ (one : Fresh). one.class.now) fresh

-- the object at the place, with these labels
abbrev pub value_at : ℕ → List ℕ → Value
value_at p labels = record { place = Some p; labels = labels }

-- the values that a parameter of a reference type may have, each with the heap, where these are the handed places below it
abbrev pub values_with : List ℕ → List ℕ → Name → List Object → List (Value × List Object)
values_with places labels type heap =
    (labelled labels, heap)
    ∷ (value_at (length heap) labels, heap ++ fresh_object type labels ∷ [])
    ∷ map (λ p. (value_at p labels, heap)) places

-- one value with the objects that are to be made, and the bytes behind it
abbrev pub one_behind : List Object → List Fresh → Held × Script → (Value × List Object) × List ℕ
one_behind heap fresh drawn = ((value_of drawn.0, planned_in heap fresh), drawn.1.left.now)

-- what was drawn, and the bytes behind it
abbrev pub drawn_behind : List Object → Drawn × Script → (List Value × List Object) × List ℕ
drawn_behind heap drawn = ((map value_of drawn.0.values.items, planned_in heap drawn.0.fresh.items), drawn.1.left.now)

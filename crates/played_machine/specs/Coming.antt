-- The events that may come, in order, and how the body of one begins.
use Rattle.std.specs.Prelude.{ℕ, ◌+◌, ◌==◌, Bool, true, false, not, ◌||◌, if◌then◌else◌, List, [], ◌∷◌, ◌++◌, map, filter, flat_map, filter_map, length, Option, Some, None, slice_get}
use Rattle.std.specs.List.{list_all}
use Rattle.app_machine.specs.declared.app.App.{App}
use Rattle.app_machine.specs.declared.component.Component.{Component}
use Rattle.app_machine.specs.declared.component.Kind.{Kind}
use Rattle.app_machine.specs.declared.component.Kind.TheVariants.{Application}
use Rattle.app_machine.specs.declared.lists.Lists.{Lists}
use Rattle.app_machine.specs.declared.method.Method.{Method}
use Rattle.app_machine.specs.Events.{set_component, after_event, labels_at, labelled_element, layout}
use Rattle.app_machine.specs.Heap.{Value, Object, labelled}
use Rattle.app_machine.specs.LifeEvents.{LifeEvent, life_events}
use Rattle.app_machine.specs.Names.{Name, is_reference}
use Rattle.app_machine.specs.Run.{frame_of}
use Rattle.app_machine.specs.State.{World, Frame, new_object, value_or_blank}
use Rattle.app_machine.specs.Summaries.{numbers_from}
use Rattle.app_model.specs.EventBodies.{life_event, component_callback, click, handed_callback}
use Rattle.app_model.specs.Initialisers.{component_initialisers}
use Rattle.played_machine.specs.Calling.{code_of}
use Rattle.played_machine.specs.Drawing.{Drawing, give, ◌>>=◌, one_of}
use Rattle.played_machine.specs.Local.{Playing, playing}
use Rattle.played_machine.specs.Reading.{class_at, handed_places, is_of_type}

-- An event with a receiver: the body that runs, where there is one, the receiver's place, the positions whose values come
-- labelled, and the world as it is when the body begins. Or an initialiser.
pub data Event : Type 0 where
  Receives : (body place : Option ℕ) → (sources : List (ℕ × ℕ)) → World → Event
  Initialiser : (body : ℕ) → Event

-- whether it is the application object
abbrev pub is_application : Kind → Bool
is_application Application = true
is_application other = false

-- whether component a lets component c come to life: it is no application, or it is c itself, or it was created
abbrev pub lets_begin : World → ℕ → ℕ → Option Component → Bool
lets_begin w c a None = true
lets_begin w c a (Some component) = not (is_application component.kind) || ((a == c) || ((w.components a).state == 2))

-- whether the component may come to life: each application is this one, or was created
unfoldable pub may_begin : App → World → ℕ → Bool
may_begin app w c = list_all (λ a. lets_begin w c a (slice_get app.components a)) (numbers_from 0 (length app.components))

abbrev pub lived : World → ℕ → LifeEvent → Option ℕ → Event
lived w c life body = Receives body (w.components c).place [] (record w { components = set_component w.components c (after_event life (w.components c).place) })

abbrev pub born : World → ℕ → Name → LifeEvent → Option ℕ → Event
born w c class life body = Receives body (Some (length w.heap)) [] (record w { heap = w.heap ++ new_object class ∷ []; components = set_component w.components c (after_event life (Some (length w.heap))) })

-- the event in the life of the component, where it is in the state before it
abbrev pub life_coming : App → World → ℕ → Option (Name × LifeEvent × Option ℕ) → Option Event
life_coming app w c None = None
life_coming app w c (Some found) =
    if found.1.from == (w.components c).state then (if found.1.from == 0 then (if may_begin app w c then Some (born w c found.0 found.1 found.2) else None) else Some (lived w c found.1 found.2)) else None

abbrev pub callback_coming : World → Option ℕ → Option (List (ℕ × ℕ) × ℕ) → Option Event
callback_coming w place None = None
callback_coming w place (Some called) = Some (Receives (Some called.1) place called.0 w)

abbrev pub click_coming : World → Option ℕ → Option ℕ → Option Event
click_coming w place None = None
click_coming w place (Some body) = Some (Receives (Some body) place [] w)

-- how many events there are in the life of the component
abbrev pub life_count : Option Component → ℕ
life_count None = 0
life_count (Some component) = length (life_events component.kind)

-- what may come to the component: by row of its life, by callback row, by click name, and initialisers by class upward
abbrev pub lives : App → World → ℕ → List Event
lives app w c = filter_map (λ e. life_coming app w c (life_event app c e)) (numbers_from 0 (life_count (slice_get app.components c)))

abbrev pub callbacks : App → Lists → World → ℕ → List Event
callbacks app lists w c = filter_map (λ q. callback_coming w (w.components c).place (component_callback app lists c q)) (numbers_from 0 (length lists.callbacks))

abbrev pub clicks : App → World → ℕ → List Event
clicks app w c = filter_map (λ i. click_coming w (w.components c).place (click app c i)) (numbers_from 0 (length app.clicks))

abbrev pub initialisations : App → World → ℕ → List Event
initialisations app w c = if may_begin app w c then map (λ body. Initialiser body) (component_initialisers app c) else []

unfoldable pub component_events : App → Lists → World → ℕ → List Event
component_events app lists w c = lives app w c ++ (if (w.components c).state == 0 then initialisations app w c else callbacks app lists w c ++ clicks app w c)

abbrev pub handed_coming : App → Lists → World → ℕ → ℕ → Option Name → Option Event
handed_coming app lists w q p None = None
handed_coming app lists w q p (Some class) = callback_coming w (Some p) (handed_callback app lists q class)

-- what may come to handed objects by the callback row, by place
unfoldable pub handed_events : App → Lists → World → ℕ → List Event
handed_events app lists w q = filter_map (λ p. handed_coming app lists w q p (class_at w.heap p)) (handed_places w.handed)

-- the events that may come
unfoldable pub events : App → Lists → World → List Event
events app lists w = flat_map (component_events app lists w) (numbers_from 0 (length app.components)) ++ flat_map (handed_events app lists w) (numbers_from 0 (length lists.callbacks))

abbrev pub fresh_object : Name → List ℕ → Object
fresh_object type labels = record { class = type; entries = labelled_element labels }

-- the values that a parameter of a reference type may have, each with the heap: a blank, a fresh library object, and each
-- handed object below the type
abbrev pub parameter_values : App → Lists → List ℕ → List ℕ → Name → List Object → List (Value × List Object)
parameter_values app lists handed labels type heap =
    (labelled labels, heap)
    ∷ (record { place = Some (length heap); labels = labels }, heap ++ fresh_object type labels ∷ [])
    ∷ map (λ p. (record { place = Some p; labels = labels }, heap)) (filter (λ p. is_of_type app lists type (class_at heap p)) (handed_places handed))

abbrev pub parameter : App → Lists → List ℕ → List ℕ → Name → List Object → Drawing (Value × List Object)
parameter app lists handed labels type heap = if is_reference type then one_of (parameter_values app lists handed labels type heap) else give (labelled labels, heap)

-- the values of the parameters from position i on, and the heap with all of them
abbrev pub parameters : App → Lists → List ℕ → List (ℕ × ℕ) → ℕ → List Name → List Object → Drawing (List Value × List Object)
parameters app lists handed sources i [] heap = give ([], heap)
parameters app lists handed sources i (type ∷ types) heap =
    parameter app lists handed (labels_at sources i) type heap >>= λ (first : Value × List Object).
    parameters app lists handed sources (i + 1) types first.1 >>= λ (others : List Value × List Object).
    give (first.0 ∷ others.0, others.1)

abbrev pub receiver : Option ℕ → List (ℕ × ℕ) → Value
receiver place sources = record { place = place; labels = labels_at sources 0 }

-- the frame of an event's body that begins with these values of its positions
abbrev pub event_frame : ℕ → Method → List Value → Frame
event_frame body m values = frame_of body m (map (value_or_blank values) (layout m.at.proto.params)) false

abbrev pub begins_with : App → Lists → ℕ → Option ℕ → List (ℕ × ℕ) → World → Option Method → Drawing Playing
begins_with app lists body place sources w None = give (playing w [])
begins_with app lists body place sources w (Some m) =
    parameters app lists w.handed sources 1 m.at.proto.params w.heap >>= λ (drawn : List Value × List Object).
    give (playing (record w { heap = drawn.1 }) (event_frame body m (receiver place sources ∷ drawn.0) ∷ []))

abbrev pub initialises_with : ℕ → World → Option Method → Playing
initialises_with body w None = playing w []
initialises_with body w (Some m) = playing w (frame_of body m [] false ∷ [])

-- What an event comes to. Without a body with code nothing runs.
unfoldable pub begun : App → Lists → World → Event → Drawing Playing
begun app lists w (Receives None place sources new) = give (playing new [])
begun app lists w (Receives (Some body) place sources new) = begins_with app lists body place sources new (code_of app body)
begun app lists w (Initialiser body) = give (initialises_with body w (code_of app body))

-- A library call, by what the lists say of it. Every value is read from the state before the call.
use Rattle.std.specs.Prelude.{ℕ, if◌then◌else◌, List, [], ◌∷◌, ◌++◌, map, flat_map, length, Option, Some, None, option_to_list, ◌==◌, filter, filter_map}
use Rattle.app_machine.specs.declared.app.App.{App}
use Rattle.app_machine.specs.declared.lists.Lists.{Lists}
use Rattle.app_machine.specs.declared.summary.Gives.{Gives}
use Rattle.app_machine.specs.declared.summary.Gives.TheVariants.{Blank, Same, Taken, Joined, Shared, Handed}
use Rattle.app_machine.specs.declared.summary.Summary.{Summary}
use Rattle.app_machine.specs.Calls.{hand}
use Rattle.app_machine.specs.Heap.{Value, Object, blank, labelled, add_all}
use Rattle.app_machine.specs.Library.{value_at, shared_named, shared_class, joined_object}
use Rattle.app_machine.specs.Lookups.{elem_key}
use Rattle.app_machine.specs.Names.{Name, is_reference, is_void}
use Rattle.app_machine.specs.State.{write, shared_static, Arrival, World, Frame, object_at, new_object, ComponentState}
use Rattle.app_machine.specs.Summaries.{numbers_from}
use Rattle.played_machine.specs.Drawing.{Drawing, give, ◌>>=◌, one_of}
use Rattle.played_machine.specs.Local.{got}
use Rattle.played_machine.specs.Ordered.{sorted, ascending}
use Rattle.played_machine.specs.Reading.{class_at, values_at, handed_places, is_of_type, reached}

-- the handed places after the values of these registers are handed, one after the other
abbrev pub hand_all : Frame → List ℕ → List ℕ → List ℕ
hand_all f [] handed = handed
hand_all f (x ∷ xs) handed = hand_all f xs (hand (f.registers x).place handed)

-- the arrivals of the labels that are reached from the position
abbrev pub arrivals_at : List Object → Frame → List ℕ → ℕ → ℕ → List Arrival
arrivals_at heap f places sink i = map (λ l. record { label = l; sink = sink; method = f.method; pc = f.pc }) (reached heap (value_at f places i))

abbrev pub arrivals_of : List Object → Frame → List ℕ → Option (ℕ × List ℕ) → List Arrival
arrivals_of heap f places None = []
arrivals_of heap f places (Some sink) = flat_map (arrivals_at heap f places sink.0) (sorted sink.1)

abbrev pub made_shared : Option Name → ℕ → List Object → (ℕ → Value) → List Object × (ℕ → Value)
made_shared None g heap statics = (heap, statics)
made_shared (Some class) g heap statics = (heap ++ new_object class ∷ [], write statics g (object_at (Some (length heap))))

abbrev pub shared_there : Option ℕ → Option Name → ℕ → List Object → (ℕ → Value) → List Object × (ℕ → Value)
shared_there None class g heap statics = made_shared class g heap statics
shared_there (Some p) class g heap statics = (heap, statics)

-- the heap and the statics after each of these shared objects that is not there yet is made
abbrev pub with_shared : App → Lists → List ℕ → List Object → (ℕ → Value) → List Object × (ℕ → Value)
with_shared app lists [] heap statics = (heap, statics)
with_shared app lists (i ∷ more) heap statics =
    let made = shared_there (statics (shared_static app i)).place (shared_class lists i) (shared_static app i) heap statics in
    with_shared app lists more made.0 made.1

-- the labels of a joined result, ascending
unfoldable pub joined_labels : List Object → Frame → List ℕ → List ℕ → Option ℕ → List ℕ
joined_labels before f places from source = ascending (option_to_list source ++ flat_map (λ i. reached before (value_at f places i)) from)

abbrev pub joined_value : Name → List Object → List ℕ → List Object × Value
joined_value ret heap labels = if is_reference ret then (heap ++ joined_object ret labels ∷ [], record { place = Some (length heap); labels = labels }) else (heap, labelled labels)

-- the places of the components that are there, ascending
abbrev pub live_place : ComponentState → Option ℕ
live_place component = if component.state == 0 then None else component.place

abbrev pub live_places : App → World → List ℕ
live_places app w = filter_map (λ c. live_place (w.components c)) (numbers_from 0 (length app.components))

-- the objects below the type that the library has: those that it was handed, and then the components
abbrev pub had : App → Lists → World → List ℕ → Name → List ℕ
had app lists w handed ret = filter (λ p. is_of_type app lists ret (class_at w.heap p)) (handed_places handed ++ live_places app w)

-- what it may give back: a blank, or one of them
abbrev pub given_back : App → Lists → World → List ℕ → Name → List Value
given_back app lists w handed ret = blank ∷ (if is_reference ret then map (λ p. object_at (Some p)) (had app lists w handed ret) else [])

abbrev pub given_result : App → Lists → World → List ℕ → Frame → List ℕ → Option ℕ → Name → (ℕ → Value) → List Object → Gives → Drawing (List Object × Value)
given_result app lists w handed f places source ret statics heap Blank = give (heap, blank)
given_result app lists w handed f places source ret statics heap (Same i) = give (heap, value_at f places i)
given_result app lists w handed f places source ret statics heap (Taken i) = got w.heap (value_at f places i) elem_key >>= λ v. give (heap, v)
given_result app lists w handed f places source ret statics heap (Shared i) = give (heap, statics (shared_static app i))
given_result app lists w handed f places source ret statics heap (Joined from) = give (joined_value ret heap (joined_labels w.heap f places from source))
given_result app lists w handed f places source ret statics heap Handed = one_of (given_back app lists w handed ret) >>= λ v. give (heap, v)

-- the heap with the result, and the result: of a void method a blank
abbrev pub result : App → Lists → World → List ℕ → Frame → List ℕ → Option ℕ → Name → (ℕ → Value) → List Object → Gives → Drawing (List Object × Value)
result app lists w handed f places source ret statics heap gives = if is_void ret then give (heap, blank) else given_result app lists w handed f places source ret statics heap gives

-- the value as an element of the object at the place, where there is one
abbrev pub element_at : Option ℕ → Value → List (ℕ × Value)
element_at None v = []
element_at (Some p) v = (p, v) ∷ []

abbrev pub elements_at : List Object → Option ℕ → List Value
elements_at before None = []
elements_at before (Some q) = values_at before q elem_key

-- what is added by the puts, the stores and the copies of the row, in this order
abbrev pub added_by_puts : Frame → List ℕ → List (ℕ × ℕ) → List (ℕ × Value)
added_by_puts f places puts = flat_map (λ (put : ℕ × ℕ). element_at (value_at f places put.1).place (value_at f places put.0)) puts

abbrev pub added_by_stores : App → Frame → List ℕ → (ℕ → Value) → List (ℕ × ℕ) → List (ℕ × Value)
added_by_stores app f places statics stores = flat_map (λ (store : ℕ × ℕ). element_at (statics (shared_static app store.1)).place (value_at f places store.0)) stores

abbrev pub copied : List Object → Option ℕ → Option ℕ → List (ℕ × Value)
copied before from to = flat_map (element_at to) (elements_at before from)

abbrev pub added_by_copies : List Object → Frame → List ℕ → List (ℕ × ℕ) → List (ℕ × Value)
added_by_copies before f places copies = flat_map (λ (copy : ℕ × ℕ). copied before (value_at f places copy.0).place (value_at f places copy.1).place) copies

unfoldable pub added : App → List Object → Frame → List ℕ → (ℕ → Value) → Summary → List (ℕ × Value)
added app before f places statics row = added_by_puts f places row.puts ++ added_by_stores app f places statics row.stores ++ added_by_copies before f places row.copies

-- the world after a call that gave this result, with this heap and these statics before anything is added
abbrev pub after_call : App → World → Frame → List ℕ → Summary → (ℕ → Value) → List Object → World
after_call app w f places row statics heap = record w {
  heap = add_all heap (added app w.heap f places statics row);
  statics = statics;
  handed = hand_all f places w.handed;
  arrivals = w.arrivals ++ arrivals_of w.heap f places row.sink;
}

-- the world after a call with these positions, and its result
unfoldable pub library_call : App → Lists → World → Frame → List ℕ → Name → Summary → Drawing (World × Value)
library_call app lists w f places ret row =
    let shared = with_shared app lists (shared_named row ret) w.heap w.statics in
    result app lists w (hand_all f places w.handed) f places row.source ret shared.1 shared.0 row.gives >>= λ (given : List Object × Value). give (after_call app w f places row shared.1 given.0, given.1)

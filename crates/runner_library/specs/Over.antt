-- A library call over the values of its positions.
use Rattle.std.specs.Prelude.{ℕ, if◌then◌else◌, List, [], ◌∷◌, ◌++◌, map, flat_map, Option, option_to_list}
use Rattle.app_machine.specs.declared.app.App.{App}
use Rattle.app_machine.specs.Calls.{hand}
use Rattle.app_machine.specs.Heap.{Value, Object, blank}
use Rattle.app_machine.specs.Names.{Name, is_void}
use Rattle.app_machine.specs.State.{shared_static, Arrival, value_or_blank}
use Rattle.app_model.specs.Marks.{is_marked}
use Rattle.app_parts.specs.declared.summary_view.CallResult.{CallResult}
use Rattle.app_parts.specs.declared.summary_view.CallResult.TheVariants.{Blank, Same, Taken, Joined, Shared, Handed}
use Rattle.played_machine.specs.Librarian.{copied, element_at, joined_value}
use Rattle.played_machine.specs.Ordered.{sorted, ascending}
use Rattle.played_machine.specs.Reading.{reached}
use Rattle.runner_library.specs.declared.adding.Added.{Added}
use Rattle.runner_library.specs.declared.arriving.Sink.{Sink}
use Rattle.runner_library.specs.declared.giving.Known.{Known}
use Rattle.runner_state.specs.declared.labels.Labels.{Labels}
use Rattle.runner_state.specs.Shown.{labels_of, value_of}

-- the handed places after these values are handed, one after the other
abbrev pub hand_each : List Value → List ℕ → List ℕ
hand_each [] handed = handed
hand_each (v ∷ vs) handed = hand_each vs (hand v.place handed)

-- an arrival of each of the labels
abbrev pub arrivals_with : Sink → List ℕ → List Arrival
arrivals_with sink labels = map (λ l. record { label = l; sink = sink.category; method = sink.method; pc = sink.pc }) labels

-- the label, where it is one of these
abbrev pub if_label : Labels → ℕ → List ℕ
if_label labels label = if is_marked labels.words label then label ∷ [] else []

-- what arrives of the labels that are reached from these positions
abbrev pub arrivals_at_each : List Object → List Value → Sink → List ℕ → List Arrival
arrivals_at_each heap vs sink positions = flat_map (λ i. arrivals_with sink (reached heap (value_or_blank vs i))) positions

abbrev pub arrivals_by : List Object → List Value → Sink → List ℕ → List Arrival
arrivals_by heap vs sink positions = arrivals_at_each heap vs sink (sorted positions)

-- the labels of a result that is joined from these positions, ascending
unfoldable pub joined_by : List Object → List Value → List ℕ → Option ℕ → List ℕ
joined_by heap vs from source = ascending (option_to_list source ++ flat_map (λ i. reached heap (value_or_blank vs i)) from)

-- the number of a store's shared object
abbrev pub shared_number : ℕ × ℕ → ℕ
shared_number store = store.1

-- the value for the object at the place
abbrev pub placed : ℕ → Value → ℕ × Value
placed place v = (place, v)

-- a value that is added to the object at a place
abbrev pub added_of : Added → ℕ × Value
added_of added = (added.place, value_of added.value)

-- what is added by the puts, the stores and the copies of a row
abbrev pub puts_by : List Value → List (ℕ × ℕ) → List (ℕ × Value)
puts_by vs puts = flat_map (λ (put : ℕ × ℕ). element_at (value_or_blank vs put.1).place (value_or_blank vs put.0)) puts

abbrev pub stores_by : App → List Value → (ℕ → Value) → List (ℕ × ℕ) → List (ℕ × Value)
stores_by app vs statics stores = flat_map (λ (store : ℕ × ℕ). element_at (statics (shared_static app store.1)).place (value_or_blank vs store.0)) stores

abbrev pub copies_by : List Object → List Value → List (ℕ × ℕ) → List (ℕ × Value)
copies_by heap vs copies = flat_map (λ (copy : ℕ × ℕ). copied heap (value_or_blank vs copy.0).place (value_or_blank vs copy.1).place) copies

-- the shared object that a result names
abbrev pub shared_of : CallResult → List ℕ
shared_of (Shared g) = g ∷ []
shared_of Blank = []
shared_of (Same i) = []
shared_of (Taken i) = []
shared_of Joined = []
shared_of Handed = []

-- the heap with the result, and the result, where what the script gives and the labels of a joined one are known
abbrev pub resulted : App → List Value → Name → (ℕ → Value) → List Object → Known → CallResult → List Object × Value
resulted app vs ret statics heap known Blank = (heap, blank)
resulted app vs ret statics heap known (Same i) = (heap, value_or_blank vs i)
resulted app vs ret statics heap known (Taken i) = (heap, value_of known.read)
resulted app vs ret statics heap known Joined = joined_value ret heap (labels_of known.labels)
resulted app vs ret statics heap known (Shared g) = (heap, statics (shared_static app g))
resulted app vs ret statics heap known Handed = (heap, value_of known.read)

abbrev pub result_by : App → List Value → Name → (ℕ → Value) → List Object → Known → CallResult → List Object × Value
result_by app vs ret statics heap known gives = if is_void ret then (heap, blank) else resulted app vs ret statics heap known gives

-- A library call where what the script gives it is known.
use Rattle.std.specs.Prelude.{◌≡◌, ℕ, if◌then◌else◌, List, [], ◌++◌, Option, Some, None}
use Rattle.app_machine.specs.declared.app.App.{App}
use Rattle.app_machine.specs.declared.lists.Lists.{Lists}
use Rattle.app_machine.specs.declared.summary.Gives.{Gives}
use Rattle.app_machine.specs.declared.summary.Gives.TheVariants.{Blank, Same, Taken, Joined, Shared, Handed}
use Rattle.app_machine.specs.declared.summary.Summary.{Summary}
use Rattle.app_machine.specs.Heap.{Value, Object, blank, add_all}
use Rattle.app_machine.specs.Library.{shared_named}
use Rattle.app_machine.specs.Lookups.{elem_key}
use Rattle.app_machine.specs.Names.{Name, is_void}
use Rattle.app_machine.specs.State.{shared_static, Arrival, World, value_or_blank}
use Rattle.played_alike.specs.Alike.{AlikeWorld}
use Rattle.played_machine.specs.Drawing.{Drawing, give, one_of}
use Rattle.played_machine.specs.Librarian.{given_back, joined_value, with_shared}
use Rattle.played_machine.specs.Local.{got}
use Rattle.runner_library.specs.Over.{arrivals_by, copies_by, hand_each, joined_by, puts_by, stores_by}

-- what the script gives: an element, or an object that the library has, and else nothing
abbrev pub given_for : App → Lists → World → List Value → Name → Gives → Drawing Value
given_for app lists w vs ret (Taken i) = got w.heap (value_or_blank vs i) elem_key
given_for app lists w vs ret Handed = one_of (given_back app lists w (hand_each vs w.handed) ret)
given_for app lists w vs ret other = give blank

unfoldable pub read_for : App → Lists → World → List Value → Name → Gives → Drawing Value
read_for app lists w vs ret gives = if is_void ret then give blank else given_for app lists w vs ret gives

-- the heap with the result, and the result
abbrev pub given_by : App → List Object → List Value → Option ℕ → Name → (ℕ → Value) → List Object → Value → Gives → List Object × Value
given_by app before vs source ret statics heap read Blank = (heap, blank)
given_by app before vs source ret statics heap read (Same i) = (heap, value_or_blank vs i)
given_by app before vs source ret statics heap read (Taken i) = (heap, read)
given_by app before vs source ret statics heap read (Shared i) = (heap, statics (shared_static app i))
given_by app before vs source ret statics heap read (Joined from) = joined_value ret heap (joined_by before vs from source)
given_by app before vs source ret statics heap read Handed = (heap, read)

-- what arrives at the sink of the row, in the method at the pc
abbrev pub arrivals_for : List Object → List Value → ℕ → ℕ → Option (ℕ × List ℕ) → List Arrival
arrivals_for heap vs method pc None = []
arrivals_for heap vs method pc (Some sink) = arrivals_by heap vs (record { category = sink.0; method = method; pc = pc }) sink.1

-- the world after the call, with this heap and these statics before anything is added
abbrev pub after : App → World → List Value → ℕ → ℕ → Summary → (ℕ → Value) → List Object → World
after app w vs method pc row statics heap = record w {
  heap = add_all heap (puts_by vs row.puts ++ stores_by app vs statics row.stores ++ copies_by w.heap vs row.copies);
  statics = statics;
  handed = hand_each vs w.handed;
  arrivals = w.arrivals ++ arrivals_for w.heap vs method pc row.sink;
}

-- the world after the call, and its result
unfoldable pub called : App → Lists → World → List Value → ℕ → ℕ → Name → Summary → Value → World × Value
called app lists w vs method pc ret row read =
    let shared = with_shared app lists (shared_named row ret) w.heap w.statics in
    let given = (if is_void ret then (shared.0, blank) else given_by app w.heap vs row.source ret shared.1 shared.0 read row.gives) in
    (after app w vs method pc row shared.1 given.0, given.1)

-- a world and a value are alike to these
abbrev pub AlikeCall : World × Value → World → Value → Type 0
AlikeCall done new result = AlikeWorld done.0 new × (done.1 ≡ result)

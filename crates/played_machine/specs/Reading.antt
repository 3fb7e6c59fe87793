-- What is read of a world in order. The machine puts a new entry of an object and a newly handed place in front, so they
-- stand here from the back.
use Rattle.std.specs.Prelude.{ℕ, Bool, false, zero, suc, ◌==◌, if◌then◌else◌, List, [], ◌++◌, length, reverse, Option, Some, None, option_map, slice_get, filter_map, flat_map}
use Rattle.vet_base.specs.declared.key_id.KeyId.{KeyId}
use Rattle.app_machine.specs.declared.app.App.{App}
use Rattle.app_machine.specs.declared.lists.Lists.{Lists}
use Rattle.app_machine.specs.Names.{Name}
use Rattle.app_machine.specs.Heap.{Value, Object}
use Rattle.app_model.specs.Above.{is_below}
use Rattle.played_machine.specs.Ordered.{once, ascending}

-- the class of the object at the place
unfoldable pub class_at : List Object → ℕ → Option Name
class_at heap p = option_map (λ (o : Object). o.class) (slice_get heap p)

abbrev pub entries_of : Option Object → List (KeyId × Value)
entries_of None = []
entries_of (Some o) = o.entries

-- the entries of the object at the place
unfoldable pub entries_at : List Object → ℕ → List (KeyId × Value)
entries_at heap p = entries_of (slice_get heap p)

-- the value of an entry with the key
abbrev pub under : KeyId → KeyId × Value → Option Value
under k e = if e.0.0 == k.0 then Some e.1 else None

-- the values under the key at the place, in the order in which they were put there
unfoldable pub values_at : List Object → ℕ → KeyId → List Value
values_at heap p k = reverse (filter_map (under k) (entries_at heap p))

-- the places that the library was handed, each once, in the order in which they were handed first
unfoldable pub handed_places : List ℕ → List ℕ
handed_places handed = once (reverse handed)

-- an object of the class is below the type, where there is one
abbrev pub is_of_type : App → Lists → Name → Option Name → Bool
is_of_type app lists type None = false
is_of_type app lists type (Some class) = is_below app lists class type

-- the entries of the object of a value
abbrev pub entries_from : List Object → Option ℕ → List (KeyId × Value)
entries_from heap None = []
entries_from heap (Some p) = entries_at heap p

-- the labels of values to which the object of a value leads by at most so many keys
abbrev pub labels_behind : ℕ → List Object → Option ℕ → List ℕ
labels_behind zero heap place = []
labels_behind (suc n) heap place = flat_map (λ (e : KeyId × Value). e.1.labels ++ labels_behind n heap e.1.place) (entries_from heap place)

-- the labels that are reached from the value, ascending: a walk need not come to an object twice
unfoldable pub reached : List Object → Value → List ℕ
reached heap v = ascending (v.labels ++ labels_behind (length heap) heap v.place)

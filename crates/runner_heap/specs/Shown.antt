-- Objects as they are kept, as the machine says them.
use Rattle.std.specs.Prelude.{◌≡◌, ℕ, ◌+◌, List, [], ◌∷◌, ◌++◌, map, reverse}
use Rattle.vet_base.specs.declared.key_id.KeyId.{KeyId}
use Rattle.vet_base.specs.Members.{In}
use Rattle.app_machine.specs.Heap.{Value, Object, without, put_entry}
use Rattle.app_machine.specs.Lookups.{elem_key}
use Rattle.runner_heap.specs.declared.entity.Entity.{Entity}
use Rattle.runner_state.specs.declared.script.Script.{Script}
use Rattle.runner_state.specs.declared.value.Held.{Held}
use Rattle.runner_state.specs.Shown.{value_of}

-- the key of the field of this number: 0 is the key of all elements
abbrev pub field_key : ℕ → KeyId
field_key n = record { 0 = n + 1 }

abbrev pub element_of : Held → KeyId × Value
element_of held = (elem_key, value_of held)

-- the fields by number, each once
abbrev pub fields_of : List (ℕ × Held) → List (KeyId × Value)
fields_of [] = []
fields_of (e ∷ es) = (field_key e.0, value_of e.1) ∷ without (field_key e.0) (fields_of es)

-- the elements, the last in front, and behind them the fields
abbrev pub entries_by : List Held → List (ℕ × Held) → List (KeyId × Value)
entries_by elements fields = map element_of (reverse elements) ++ fields_of fields

unfoldable pub object_of : Entity → Object
object_of entity = record { class = entity.class.now; entries = entries_by entity.elements.items entity.fields.entries }

-- the object after a put
abbrev pub put_on : KeyId → Value → Object → Object
put_on k v o = record o { entries = put_entry k v o.entries }

-- a value that was drawn, and the bytes behind it
abbrev pub value_behind : Held × Script → Value × List ℕ
value_behind drawn = (value_of drawn.0, drawn.1.left.now)

-- Values that were added behind others: those of the object's entries under all keys.
pub record AddsValues (under : KeyId → List Value) (old new : List Held) : Type 0 where
  pub added : List Held
  pub behind : new ≡ old ++ added
  pub stand : (v : Held) → In v added → (k : KeyId) × In (value_of v) (under k)
  pub all : (k : KeyId) (w : Value) → In w (under k) → (v : Held) × In v added × (value_of v ≡ w)

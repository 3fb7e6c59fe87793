-- Values, objects, and what is reached from a value.
use Rattle.std.specs.Prelude.{◌≡◌, ◌==◌, ℕ, zero, suc, if◌then◌else◌, List, [], ◌∷◌, Option, Some, None}
use Rattle.vet_base.specs.declared.key_id.KeyId.{KeyId}
use Rattle.vet_base.specs.Members.{In}
use Rattle.app_machine.specs.Names.{Name}
use Rattle.app_machine.specs.Lookups.{elem_key}

-- A place in the heap, where there is one, and the categories with which the value is labelled. Numbers have no value.
pub record Value : Type 0 where
  pub place : Option ℕ
  pub labels : List ℕ

-- the class, and values by key: of all elements many, of a field at most one
pub record Object : Type 0 where
  pub class : Name
  pub entries : List (KeyId × Value)

abbrev pub blank : Value
blank = record { place = None; labels = [] }

abbrev pub labelled : List ℕ → Value
labelled labels = record { place = None; labels = labels }

-- the object at the place has an entry with this key and value
abbrev pub EntryAt : List Object → ℕ → KeyId → Value → Type 0
EntryAt [] p k w = ⊥
EntryAt (o ∷ os) zero k w = In (k, w) o.entries
EntryAt (o ∷ os) (suc p) k w = EntryAt os p k w

-- the object at the place has this class
abbrev pub ClassAt : List Object → ℕ → Name → Type 0
ClassAt [] p c = ⊥
ClassAt (o ∷ os) zero c = o.class ≡ c
ClassAt (o ∷ os) (suc p) c = ClassAt os p c

-- a walk from the value along the keys comes to a value with this label
abbrev pub Reaches : List Object → Value → List KeyId → ℕ → Type 0
Reaches heap v [] label = In label v.labels
Reaches heap v (k ∷ ks) label = (p : ℕ) × (v.place ≡ Some p) × ((w : Value) × EntryAt heap p k w × Reaches heap w ks label)

-- the entries without those of the key
abbrev pub without : KeyId → List (KeyId × Value) → List (KeyId × Value)
without k [] = []
without k (e ∷ es) = if e.0.0 == k.0 then without k es else e ∷ without k es

-- a value put under the key: added to the elements, and else in place of the entry
abbrev pub put_entry : KeyId → Value → List (KeyId × Value) → List (KeyId × Value)
put_entry k v es = if k.0 == 0 then (k, v) ∷ es else (k, v) ∷ without k es

-- the heap after a put at the place
abbrev pub put_at : List Object → ℕ → KeyId → Value → List Object
put_at [] p k v = []
put_at (o ∷ os) zero k v = record o { entries = put_entry k v o.entries } ∷ os
put_at (o ∷ os) (suc p) k v = o ∷ put_at os p k v

-- and where there is no place the put does nothing
abbrev pub put_to : List Object → Option ℕ → KeyId → Value → List Object
put_to heap None k v = heap
put_to heap (Some p) k v = put_at heap p k v

-- the heap after these values are added as elements at these places
abbrev pub add_all : List Object → List (ℕ × Value) → List Object
add_all heap [] = heap
add_all heap (a ∷ more) = add_all (put_at heap a.0 elem_key a.1) more

-- What a get from the value under the key may give: the value of an entry, and a blank in any case for elements, or where
-- there is no such entry.
pub data Gets (heap : List Object) : Value → KeyId → Value → Type 0 where
  entry_of : {v : Value} {k : KeyId} {p : ℕ} {w : Value} →
      v.place ≡ Some p →
      EntryAt heap p k w →
      Gets heap v k w
  no_element : {v : Value} {k : KeyId} →
      k ≡ elem_key →
      Gets heap v k blank
  no_entry : {v : Value} {k : KeyId} →
      ((p : ℕ) (w : Value) → v.place ≡ Some p → EntryAt heap p k w → ⊥) →
      Gets heap v k blank

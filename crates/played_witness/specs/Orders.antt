-- In which order is drawn, and what takes a byte.
use Rattle.std.specs.Prelude.{◌≡◌, ℕ, List, [], ◌∷◌, Some, None}
use Rattle.vet_base.specs.declared.key_id.KeyId.{KeyId}
use Rattle.app_machine.specs.Heap.{Value, Object}
use Rattle.app_machine.specs.Lookups.{elem_key}
use Rattle.app_machine.specs.Names.{Name}
use Rattle.app_machine.specs.State.{World, Frame}
use Rattle.machine_witness.specs.Apps.{leaking_app}
use Rattle.played_machine.specs.Drawing.{one_of}
use Rattle.played_machine.specs.Local.{playing, raised}
use Rattle.played_machine.specs.Ordered.{ascending}
use Rattle.played_machine.specs.Reading.{values_at, handed_places}

abbrev pub at_place : ℕ → Value
at_place p = record { place = Some p; labels = [] }

abbrev pub field_key : KeyId
field_key = record { 0 = 1 }

-- an object in which two elements were put, first 5 and then 6, and a field
abbrev pub holder : Name → Object
holder class = record { class = class; entries = (elem_key, at_place 6) ∷ (field_key, at_place 7) ∷ (elem_key, at_place 5) ∷ [] }

pub record DrawsGoInOrder : Type 0 where
  -- the only one takes a byte too
  pub only_one : (x b : ℕ) (bytes : List ℕ) → one_of (x ∷ []) (b ∷ bytes) ≡ Some (x, bytes)
  pub too_few : (x : ℕ) → one_of (x ∷ []) [] ≡ None
  pub by_its_rest : (bytes : List ℕ) → one_of {A = ℕ} (10 ∷ 11 ∷ 12 ∷ []) (5 ∷ bytes) ≡ Some (12, bytes)
  -- of 3, 1 and once more 3, handed in this order, 3 comes first
  pub handed_first : handed_places (3 ∷ 1 ∷ 3 ∷ []) ≡ 3 ∷ 1 ∷ []
  pub elements_as_put : (class : Name) → values_at (holder class ∷ []) 0 elem_key ≡ at_place 5 ∷ at_place 6 ∷ []
  pub fields_apart : (class : Name) → values_at (holder class ∷ []) 0 field_key ≡ at_place 7 ∷ []
  pub labels_ascend : ascending (4 ∷ 2 ∷ 4 ∷ 3 ∷ []) ≡ 2 ∷ 3 ∷ 4 ∷ []
  -- where no handler covers the instruction, a raise takes a byte in each frame
  pub raises_by_frame : (w : World) (v : Value) (f g : Frame) (b c : ℕ) (bytes : List ℕ) → f.method ≡ 1 → g.method ≡ 1 →
      raised leaking_app v w (f ∷ g ∷ []) (b ∷ c ∷ bytes) ≡ Some (playing w [], bytes)

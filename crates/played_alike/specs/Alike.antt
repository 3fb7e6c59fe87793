-- States of which a script makes the same: the order and the repetition of labels, the order of entries under different keys,
-- and that a place was handed once more mean nothing.
use Rattle.std.specs.Prelude.{◌≡◌, ◌↔◌, ℕ, List, [], ◌∷◌, Option, Some, None, filter_map}
use Rattle.vet_base.specs.declared.key_id.KeyId.{KeyId}
use Rattle.vet_base.specs.Members.{In}
use Rattle.app_machine.specs.Heap.{Value, Object}
use Rattle.app_machine.specs.State.{World, Frame}
use Rattle.played_machine.specs.Local.{Playing}
use Rattle.played_machine.specs.Reading.{under, handed_places}

-- as many on both sides, and one like the other at each place
abbrev pub Pairwise : {A : Type 0} → (A → A → Type 0) → List A → List A → Type 0
Pairwise R [] [] = Unit {0}
Pairwise R [] (y ∷ ys) = ⊥
Pairwise R (x ∷ xs) [] = ⊥
Pairwise R (x ∷ xs) (y ∷ ys) = R x y × Pairwise R xs ys

-- the same place, and the same labels
pub record AlikeValue (v w : Value) : Type 0 where
  pub place : v.place ≡ w.place
  pub labels : (l : ℕ) → In l v.labels ↔ In l w.labels

-- the values under the key, the last first
abbrev pub values_under : KeyId → List (KeyId × Value) → List Value
values_under k es = filter_map (under k) es

abbrev pub AlikeEntries : List (KeyId × Value) → List (KeyId × Value) → Type 0
AlikeEntries es ds = (k : KeyId) → Pairwise AlikeValue (values_under k es) (values_under k ds)

pub record AlikeObject (o p : Object) : Type 0 where
  pub class : o.class ≡ p.class
  pub entries : AlikeEntries o.entries p.entries

abbrev pub AlikeHeap : List Object → List Object → Type 0
AlikeHeap = Pairwise AlikeObject

-- by register or by static
abbrev pub AlikeValues : (ℕ → Value) → (ℕ → Value) → Type 0
AlikeValues one other = (r : ℕ) → AlikeValue (one r) (other r)

pub record AlikeFrame (f g : Frame) : Type 0 where
  pub method : f.method ≡ g.method
  pub pc : f.pc ≡ g.pc
  pub registers : AlikeValues f.registers g.registers
  pub initialises : f.initialises ≡ g.initialises

abbrev pub AlikeFrames : List Frame → List Frame → Type 0
AlikeFrames = Pairwise AlikeFrame

pub record AlikeWorld (w u : World) : Type 0 where
  pub heap : AlikeHeap w.heap u.heap
  pub statics : AlikeValues w.statics u.statics
  pub components : w.components ≡ u.components
  pub handed : handed_places w.handed ≡ handed_places u.handed
  pub arrivals : w.arrivals ≡ u.arrivals

pub record AlikePlaying (s t : Playing) : Type 0 where
  pub world : AlikeWorld s.world t.world
  pub frames : AlikeFrames s.frames t.frames

-- both are drawn, and leave the same bytes, or neither is
abbrev pub AlikeDrawn : {A : Type 0} → (A → A → Type 0) → Option (A × List ℕ) → Option (A × List ℕ) → Type 0
AlikeDrawn R None None = Unit {0}
AlikeDrawn R None (Some q) = ⊥
AlikeDrawn R (Some p) None = ⊥
AlikeDrawn R (Some p) (Some q) = R p.0 q.0 × (p.1 ≡ q.1)

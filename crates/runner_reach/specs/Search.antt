-- A search from a value along its objects.
use Rattle.std.specs.Prelude.{◌≡◌, ◌≤◌, ◌<◌, ◌+◌, ◌^◌, ◌⊎◌, ℕ, Bool, true, false, List, length, Some}
use Rattle.std.specs.BTreeSet.{BTreeSet, contains}
use Rattle.std.specs.List.{All}
use Rattle.std.specs.List.Sorted.{IsStrictlySortedBy}
use Rattle.std.specs.Ordering.{nat_cmp}
use Rattle.app_machine.specs.Heap.{Value, Object}
use Rattle.played_machine.specs.Reading.{values_at}
use Rattle.runner_heap.specs.Shown.{AddsValues}
use Rattle.runner_state.specs.declared.value.Held.{Held}

-- places below n, ascending
pub record IsMet (n : ℕ) (met : BTreeSet ℕ) : Type 0 where
  pub below : All (λ p. p < n) met.keys
  pub ascend : IsStrictlySortedBy nat_cmp met.keys

abbrev pub has_met : BTreeSet ℕ → ℕ → Bool
has_met met p = contains nat_cmp met p

-- the place is met, and was not before
pub record MeetsNow (n place : ℕ) (old new : BTreeSet ℕ) : Type 0 where
  pub within : place < n
  pub one_more : length new.keys ≡ length old.keys + 1
  pub kept : (p : ℕ) → has_met old p ≡ true → has_met new p ≡ true
  pub there : has_met new place ≡ true
  pub comes : (p : ℕ) → has_met new p ≡ true → (p ≡ place) ⊎ (has_met old p ≡ true)
  pub is_met : IsMet n new

-- the place of no object, or one that was met before
pub record WasMet (n place : ℕ) (old new : BTreeSet ℕ) : Type 0 where
  pub same : new.keys ≡ old.keys
  pub past : (n ≤ place) ⊎ (has_met old place ≡ true)

abbrev pub Meets : ℕ → ℕ → BTreeSet ℕ → BTreeSet ℕ → Bool → Type 0
Meets n place old new true = MeetsNow n place old new
Meets n place old new false = WasMet n place old new

-- nothing is added
pub record StaysSo (heap : List Object) (v : Value) (old new : BTreeSet ℕ) (waiting left : List Held) : Type 0 where
  pub same : new.keys ≡ old.keys
  pub rest : left ≡ waiting
  pub past : (p : ℕ) → v.place ≡ Some p → (length heap ≤ p) ⊎ (has_met old p ≡ true)

-- the object of the value is new
pub record AddsIts (heap : List Object) (v : Value) (old new : BTreeSet ℕ) (waiting left : List Held) : Type 0 where
  pub place : ℕ
  pub is_place : v.place ≡ Some place
  pub meets : MeetsNow (length heap) place old new
  pub adds : AddsValues (values_at heap place) waiting left
  pub short : length left < 2 ^ 64

abbrev pub AddsObject : List Object → Value → BTreeSet ℕ → BTreeSet ℕ → List Held → List Held → Type 0
AddsObject heap v old new waiting left = StaysSo heap v old new waiting left ⊎ AddsIts heap v old new waiting left

-- Places that stand each once.
use Rattle.std.specs.Prelude.{◌≡◌, ◌↔◌, ℕ, true, List}
use Rattle.std.specs.BTreeSet.{BTreeSet, contains}
use Rattle.std.specs.Ordering.{nat_cmp}
use Rattle.vet_base.specs.Members.{In}
use Rattle.played_machine.specs.Ordered.{once}

-- each of the places stands once, and these are the ones that are there
pub record AreEachOnce (places : List ℕ) (there : BTreeSet ℕ) : Type 0 where
  pub each_once : once places ≡ places
  pub same : (p : ℕ) → (contains nat_cmp there p ≡ true) ↔ In p places

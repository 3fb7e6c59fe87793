-- A test that tells whether a number is in a list is the one that looks for it.
use Rattle.std.proofs.Common.{◌≡◌, ◌↔◌, ℕ, Bool, true, false, IsTrue, List, refl, sym}
use Rattle.vet_base.specs.Members.{In}
use Rattle.app_machine.specs.State.{holds}
use Rattle.rule_ground.specs.Listing.{holds_in, in_holds}

pub same_as_held : (b : Bool) (r : ℕ) (xs : List ℕ) → (IsTrue b ↔ In r xs) → b ≡ holds xs r
same_as_held true r xs h = sym (in_holds r xs (h.0 refl))
same_as_held false r xs h = by_test (holds xs r) refl
  where
    by_test : (c : Bool) → holds xs r ≡ c → false ≡ c
    by_test true e = let t : IsTrue false = h.1 (holds_in r xs e) in absurd cc
    by_test false e = refl

-- A term of a sum.
use Rattle.std.proofs.Common.{◌≡◌, ℕ, ◌<◌, ◌≤◌, List, length, get_or, arith}
use Rattle.std.specs.List.{sum_by}
use Rattle.std.proofs.lemmas.List.Sums.{get_or-le-sum_by}

pub term_below : {X : Type 0} (f : X → ℕ) (xs : List X) (i bound : ℕ) (x : X) → x ≡ get_or xs i x → i < length xs → sum_by f xs ≤ bound → f x ≤ bound
term_below f xs i bound x item lt le = rw item (omega (arith, get_or-le-sum_by f xs i x lt))

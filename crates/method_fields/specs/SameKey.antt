-- What tells one method row from another.
use Rattle.std.specs.Prelude.{ℕ, nat_eq, Bool, List, ◌&&◌}
use Rattle.std.specs.Bool.{beq}
use Rattle.std.specs.Cmp.Lexicographic.{pointwise}

-- one class, one name, one descriptor and one static word
abbrev pub same_row : List ℕ → List ℕ → List ℕ → List ℕ → List ℕ → List ℕ → Bool → Bool → Bool
same_row class other name other_name descriptor other_descriptor is_static other_static =
    pointwise nat_eq class other && (pointwise nat_eq name other_name && (pointwise nat_eq descriptor other_descriptor && beq is_static other_static))

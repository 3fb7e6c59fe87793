-- Numbers marked by one bit each, 64 in a word.
use Rattle.std.specs.Prelude.{ℕ, ◌/◌, ◌%◌, ◌==◌, Bool, List, slice_index}
use Rattle.std.specs.Int.{bit_at}

unfoldable pub is_marked : List ℕ → ℕ → Bool
is_marked words j = bit_at (slice_index words (j / 64)) (j % 64) == 1

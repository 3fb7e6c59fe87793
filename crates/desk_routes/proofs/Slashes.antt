-- The first `/`.
use Rattle.std.proofs.Common.{◌≡◌, ℕ, ◌<◌, ◌≤◌, List, length, get_or, true, false}
use Rattle.std.specs.List.{position_or_len}
use Rattle.std.proofs.lemmas.List.Sums.{position_or_len_is}
use Rattle.desk_routes.specs.Routes.{is_slash}

pub slash_is : (bytes : List ℕ) (i : ℕ) → i ≤ length bytes
    → ((k : ℕ) → k < i → is_slash (get_or bytes k 0) ≡ false)
    → (i < length bytes → is_slash (get_or bytes i 0) ≡ true)
    → position_or_len is_slash bytes ≡ i
slash_is bytes i within before at = position_or_len_is is_slash bytes i 0 within before at

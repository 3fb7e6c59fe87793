-- The bytes of numbers.
use Rattle.std.proofs.Common.{◌≡◌, ℕ, zero, suc, ◌+◌, ◌-◌, ◌/◌, ◌%◌, ◌<◌, ◌≤◌, false, ltb, ◌∷◌, refl, arith}
use Rattle.std.proofs.lemmas.Bool.{le-ltb}
use Rattle.dex_writer.specs.Bytes.{groups_of}

pub groups_step : (more n : ℕ) → 0 < more → 128 ≤ n → groups_of more n ≡ (n % 128 + 128) ∷ groups_of (more - 1) (n / 128)
unfolding groups_of
groups_step zero n lt le = absurd (omega arith)
groups_step (suc more) n lt le =
    let big : ltb n 128 ≡ false = le-ltb _ _ le in
    let less : suc more - 1 ≡ more = omega arith in
    rw (big, less) refl

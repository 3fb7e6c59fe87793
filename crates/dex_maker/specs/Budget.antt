-- What is left of a number after some are taken from it, if they are within it.
use Rattle.std.specs.Prelude.{ℕ, ◌-◌, Option, Some, None, nat_le, if◌then◌else◌}

unfoldable pub left_after : ℕ → ℕ → Option ℕ
left_after budget taken = if nat_le taken budget then Some (budget - taken) else None

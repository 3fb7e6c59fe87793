use Rattle.std.proofs.Common.{◌≡◌, ℕ, ◌<◌, get_or, false}
use Rattle.desk_routes.specs.Routes.{is_slash}
use Rattle.desk_routes.proofs.target.slash_at.Given as goal

abbrev pub invariant-loop-place : goal.invariant-loop-place
invariant-loop-place l = (k : ℕ) → k < l.place → is_slash (get_or l.bytes k 0) ≡ false

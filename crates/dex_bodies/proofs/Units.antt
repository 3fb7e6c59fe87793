-- Reading one more unit.
use Rattle.std.proofs.Common.{◌≡◌, ℕ, suc, ◌+◌, ◌*◌, ◌-◌, ◌<◌, List, [], ◌∷◌, ◌++◌, append_assoc, arith}
use Rattle.std.specs.Prelude.{slice_index}
use Rattle.dex_bodies.specs.Code.{units_from}

pub unit_more : (file : List ℕ) (at count i unit : ℕ) (front whole : List ℕ) → i < count → unit ≡ slice_index file (at + 2 * i) + 256 * slice_index file (at + 2 * i + 1)
    → front ++ units_from file (at + 2 * i) (count - i) ≡ whole → (front ++ unit ∷ []) ++ units_from file (at + 2 * (i + 1)) (count - (i + 1)) ≡ whole
unfolding units_from
unit_more file at count i unit front whole lt is so_far =
    let left : count - i ≡ suc (count - (i + 1)) = omega arith in
    let next : at + 2 * (i + 1) ≡ at + 2 * i + 2 = omega arith in
    let all = (rw left at so_far) in
    rw (append_assoc, next, is) all

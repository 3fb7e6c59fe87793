-- A number that is read stands in the file, and one that stands there is read.
use Rattle.std.proofs.Common.{◌≡◌, ℕ, suc, ◌+◌, ◌*◌, ◌≤◌, true, false, List, length, Some, refl, arith}
use Rattle.std.proofs.lemmas.Bool.{le-leb}
use Rattle.std.proofs.lemmas.Bool.Decides.{nat_tests}
use Rattle.std.specs.Prelude.{nat_le, nat_eq, slice_index}
use Rattle.vet_base.specs.Numbers.{u2, u4}
use Rattle.dex_tables.specs.Sequences.{Is2, Is4}

-- a number that is there ends where its bytes do
pub u4_is : (file : List ℕ) (at : ℕ) (x : ℕ × ℕ) → u4 file at ≡ Some x → Is4 file at x.0 × (x.1 ≡ at + 4)
u4_is file at x e = grind (arith, nat_tests)

pub u2_is : (file : List ℕ) (at : ℕ) (x : ℕ × ℕ) → u2 file at ≡ Some x → Is2 file at x.0 × (x.1 ≡ at + 2)
u2_is file at x e = grind (arith, nat_tests)

-- and lies within the file
pub u4_within : (file : List ℕ) (at x : ℕ) → Is4 file at x → at + 4 ≤ length file
u4_within file at x is = grind (arith, nat_tests)

pub u2_within : (file : List ℕ) (at x : ℕ) → Is2 file at x → at + 2 ≤ length file
u2_within file at x is = grind (arith, nat_tests)

-- the same where the offset is said otherwise
pub u4_behind : (file : List ℕ) (at from : ℕ) (x : ℕ × ℕ) → u4 file from ≡ Some x → from ≡ at → Is4 file at x.0 × (x.1 ≡ at + 4)
u4_behind file at from x e same = u4_is file at x (rw (← same) e)

pub u2_behind : (file : List ℕ) (at from : ℕ) (x : ℕ × ℕ) → u2 file from ≡ Some x → from ≡ at → Is2 file at x.0 × (x.1 ≡ at + 2)
u2_behind file at from x e same = u2_is file at x (rw (← same) e)

pub suc_not_zero : (n : ℕ) → nat_eq (suc n) 0 ≡ false
suc_not_zero n = grind (arith, nat_tests)

-- a number of four bytes is there where the file goes on
pub four_there : (file : List ℕ) (at : ℕ) → at + 4 ≤ length file → (x : ℕ) × (u4 file at ≡ Some (x, at + 4))
four_there file at le = let below : nat_le (at + 4) (length file) ≡ true = le-leb _ _ le in
    (slice_index file at + 256 * slice_index file (at + 1) + 65536 * slice_index file (at + 2) + 16777216 * slice_index file (at + 3), rw below refl)

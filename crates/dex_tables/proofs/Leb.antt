-- A LEB128 number has one byte at least.
use Rattle.std.proofs.Common.{◌≡◌, ℕ, ℤ, zero, suc, ◌+◌, ◌*◌, ◌%◌, ◌<◌, Bool, true, false, List, [], ◌∷◌, drop, arith}
use Rattle.std.specs.Prelude.{Option, Some, None, IfSome, nat_lt, if◌then◌else◌}
use Rattle.std.specs.Option.{option_map}
use Rattle.std.specs.Int.{w32, cast_signed}
use Rattle.vet_base.specs.Numbers.{groups, sleb}

-- the bytes of a number are counted behind it
record HasBytes (g : Option (ℕ × ℕ)) : Type 0 where
  is : IfSome g (λ x. 0 < x.1)

one_more : (f : ℕ × ℕ → ℕ) (g : Option (ℕ × ℕ)) → HasBytes (option_map {T = ℕ × ℕ} {U = ℕ × ℕ} (λ g. (f g, g.1 + 1)) g)
one_more f None = record { is = tt }
one_more f (Some g) = record { is = omega arith }

either_way : (low : Bool) (one more : Option (ℕ × ℕ)) → HasBytes one → HasBytes more → HasBytes (if low then one else more)
either_way true one more a b = a
either_way false one more a b = b

groups_count : (signed : Bool) (n : ℕ) (bytes : List ℕ) → HasBytes (groups signed n bytes)
unfolding groups
groups_count signed zero bytes = record { is = tt }
groups_count signed (suc n) [] = record { is = tt }
groups_count signed (suc n) (b ∷ bytes) =
    either_way (nat_lt b 128) _ _ (record { is = omega arith }) (one_more (λ g. (b % 128 + 128 * g.0) % 4294967296) (groups signed n bytes))

behind : (at : ℕ) (g : Option (ℕ × ℕ)) → HasBytes g → (x : ℤ × ℕ) → option_map {T = ℕ × ℕ} {U = ℤ × ℕ} (λ g. (cast_signed w32 g.0, at + g.1)) g ≡ Some x → at < x.1
behind at None h x e = absurd cc
behind at (Some g) h x e =
    let one : 0 < g.1 = h.is in
    let next : at + g.1 ≡ x.1 = cc in
    omega arith

-- what stands behind a number stands behind its begin
pub sleb_next : (bytes : List ℕ) (at : ℕ) (x : ℤ × ℕ) → sleb bytes at ≡ Some x → at < x.1
sleb_next bytes at x e = behind at (groups true 5 (drop at bytes)) (groups_count true 5 (drop at bytes)) x e

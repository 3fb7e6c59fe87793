-- Tests joined by `&&`, `||` and `not`. The kit has the rest: `and_parts`, `and_from`, `and_cases`, `or_cases`, `or_left`,
-- `or_right`, `cases_Bool`, `cond-true`, `cond-false` and `false_from_ne_true` in `Rattle.std.proofs.lemmas.Bool`.
use Rattle.std.proofs.Common.{◌≡◌, ◌↔◌, Bool, true, false, IsTrue, not, ◌&&◌, ◌||◌, refl, sym}

-- `not a || b` says that b holds where a does
pub implied : (a b : Bool) → (not a || b) ≡ true → a ≡ true → b ≡ true
implied true b h k = h
implied false b h k = absurd cc

pub implies_if : (a b : Bool) → (a ≡ true → b ≡ true) → (not a || b) ≡ true
implies_if true b f = f refl
implies_if false b f = refl

pub implies_fails : (a b : Bool) → (not a || b) ≡ false → (a ≡ true) × (b ≡ false)
implies_fails true b h = (refl, h)
implies_fails false b h = absurd cc

pub and_three : (a b c : Bool) → (a && b && c) ≡ true → (a ≡ true) × (b ≡ true) × (c ≡ true)
and_three true true c h = (refl, refl, h)
and_three true false c h = absurd cc
and_three false b c h = absurd cc

pub or_skip : (a b : Bool) → a ≡ false → (a || b) ≡ b
or_skip a b h = rw h refl

-- two answers to one question are the same
pub same_answers : {P : Type 0} (a b : Bool) → IsTrue a ↔ P → IsTrue b ↔ P → a ≡ b
same_answers true b one other = sym (other.1 (one.0 refl))
same_answers false true one other = one.1 (other.0 refl)
same_answers false false one other = refl

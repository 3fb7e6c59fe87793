-- The order of numbers, and ascending lists of them.
use Rattle.std.proofs.Common.{◌≡◌, ◌==◌, ℕ, ◌<◌, Bool, true, false, cond, List, length, get_or, slice_get, Some, nat_lt, refl, sym, ap, ◌∙◌}
use Rattle.std.specs.Ordering.{nat_cmp}
use Rattle.std.specs.declared.cmp.Ordering.TheVariants.{Less, Equal, Greater}
use Rattle.std.proofs.lemmas.Bool.{lt-ltb, ltb-true}
use Rattle.std.proofs.lemmas.Cmp.{nat_cmp_total}
use Rattle.std.proofs.lemmas.Option.{slice_get_within, get_or_from_slice_get}
use Rattle.vet_base.specs.Ascending.{Ascends}
use Rattle.vet_base.proofs.Ascending.{ascends_pairs}

pub less_of : (m n : ℕ) → m < n → nat_cmp m n ≡ Less
less_of m n below = ap (λ b. cond b Less (cond (m == n) Equal Greater)) (lt-ltb m n below)

pub below_of : (m n : ℕ) → nat_cmp m n ≡ Less → m < n
below_of m n less = by_test (nat_lt m n) refl less
  where
    by_test : (b : Bool) → nat_lt m n ≡ b → cond b Less (cond (m == n) Equal Greater) ≡ Less → m < n
    by_test true is less = ltb-true m n is
    by_test false is less = by_same (m == n) less
      where
        by_same : (b : Bool) → cond b Equal Greater ≡ Less → m < n
        by_same true less = absurd cc
        by_same false less = absurd cc

-- of an ascending list, what stands before is below
pub rises : (ns : List ℕ) → Ascends nat_cmp ns → (i j m n : ℕ) → i < j → slice_get ns i ≡ Some m → slice_get ns j ≡ Some n → m < n
rises ns up i j m n before at_i at_j =
    let within : j < length ns = slice_get_within ns j n at_j in
    let less = ascends_pairs nat_cmp nat_cmp_total ns up i j 0 before within in
    below_of m n (sym (ap (λ z. nat_cmp z n) (get_or_from_slice_get ns i m 0 at_i)) ∙ (sym (ap (λ z. nat_cmp (get_or ns i 0) z) (get_or_from_slice_get ns j n 0 at_j)) ∙ less))

-- Reading numbers from units one after the other.
use Rattle.std.proofs.Common.{◌≡◌, ℕ, ℤ, zero, suc, ◌+◌, ◌-◌, ◌*◌, ◌<◌, ◌≤◌, List, [], ◌∷◌, ◌++◌, append_assoc, length, refl, sym, ◌∙◌, arith}
use Rattle.std.proofs.lemmas.List.{append-nil}
use Rattle.dex_code.specs.Units.{int_at}
use Rattle.dex_code.specs.Insns.{ints_at, int_pairs_at}
use Rattle.dex_code.specs.Acts.{range_of}

-- These were read, and with what is still read from here they make the whole.
pub record Reads (units : List ℕ) (at i count : ℕ) (front whole : List ℤ) : Type 0 where
  pub is : front ++ ints_at units (at + 2 * i) (count - i) ≡ whole

pub reads_begin : (units : List ℕ) (at count : ℕ) → Reads units at 0 count [] (ints_at units at count)
reads_begin units at count = let a : at + 2 * 0 ≡ at = omega arith in let n : count - 0 ≡ count = omega arith in record { is = rw (a, n) refl }

pub reads_go_on : (units : List ℕ) (at i count : ℕ) (front whole : List ℤ) → i < count → Reads units at i count front whole → Reads units at (i + 1) count (front ++ int_at units (at + 2 * i) ∷ []) whole
unfolding ints_at
reads_go_on units at i count front whole lt so_far =
    let n : count - i ≡ suc (count - (i + 1)) = omega arith in
    let a : at + 2 * (i + 1) ≡ at + 2 * i + 2 = omega arith in
    let step : front ++ ints_at units (at + 2 * i) (count - i) ≡ (front ++ int_at units (at + 2 * i) ∷ []) ++ ints_at units (at + 2 * (i + 1)) (count - (i + 1)) = rw (n, a) (simp append_assoc) in
    record { is = sym step ∙ so_far.is }

pub reads_done : (units : List ℕ) (at i count : ℕ) (front whole : List ℤ) → count ≤ i → Reads units at i count front whole → front ≡ whole
unfolding ints_at
reads_done units at i count front whole le so_far =
    let n : count - i ≡ 0 = omega arith in
    let step : front ++ ints_at units (at + 2 * i) (count - i) ≡ front = rw n (append-nil front) in
    sym step ∙ so_far.is

pub record ReadsPairs (units : List ℕ) (keys values i count : ℕ) (front whole : List (ℤ × ℤ)) : Type 0 where
  pub is : front ++ int_pairs_at units (keys + 2 * i) (values + 2 * i) (count - i) ≡ whole

pub pairs_begin : (units : List ℕ) (keys values count : ℕ) → ReadsPairs units keys values 0 count [] (int_pairs_at units keys values count)
pairs_begin units keys values count = let a : keys + 2 * 0 ≡ keys = omega arith in let b : values + 2 * 0 ≡ values = omega arith in let n : count - 0 ≡ count = omega arith in record { is = rw (a, b, n) refl }

pub pairs_go_on : (units : List ℕ) (keys values i count : ℕ) (front whole : List (ℤ × ℤ)) → i < count → ReadsPairs units keys values i count front whole
    → ReadsPairs units keys values (i + 1) count (front ++ (int_at units (keys + 2 * i), int_at units (values + 2 * i)) ∷ []) whole
unfolding int_pairs_at
pairs_go_on units keys values i count front whole lt so_far =
    let n : count - i ≡ suc (count - (i + 1)) = omega arith in
    let a : keys + 2 * (i + 1) ≡ keys + 2 * i + 2 = omega arith in
    let b : values + 2 * (i + 1) ≡ values + 2 * i + 2 = omega arith in
    let step : front ++ int_pairs_at units (keys + 2 * i) (values + 2 * i) (count - i) ≡ (front ++ (int_at units (keys + 2 * i), int_at units (values + 2 * i)) ∷ []) ++ int_pairs_at units (keys + 2 * (i + 1)) (values + 2 * (i + 1)) (count - (i + 1)) = rw (n, a, b) (simp append_assoc) in
    record { is = sym step ∙ so_far.is }

pub pairs_done : (units : List ℕ) (keys values i count : ℕ) (front whole : List (ℤ × ℤ)) → count ≤ i → ReadsPairs units keys values i count front whole → front ≡ whole
unfolding int_pairs_at
pairs_done units keys values i count front whole le so_far =
    let n : count - i ≡ 0 = omega arith in
    let step : front ++ int_pairs_at units (keys + 2 * i) (values + 2 * i) (count - i) ≡ front = rw n (append-nil front) in
    sym step ∙ so_far.is

-- the same of neighbouring registers
pub record Ranges (first i count : ℕ) (front whole : List ℕ) : Type 0 where
  pub is : front ++ range_of (first + i) (count - i) ≡ whole

pub range_begins : (first count : ℕ) (front : List ℕ) → front ≡ [] → Ranges first 0 count front (range_of first count)
range_begins first count front none = let a : first + 0 ≡ first = omega arith in let n : count - 0 ≡ count = omega arith in record { is = rw (none, a, n) refl }

pub range_goes_on : (first i count : ℕ) (front whole : List ℕ) → i < count → Ranges first i count front whole → Ranges first (i + 1) count (front ++ (first + i) ∷ []) whole
unfolding range_of
range_goes_on first i count front whole lt so_far =
    let n : count - i ≡ suc (count - (i + 1)) = omega arith in
    let a : first + (i + 1) ≡ first + i + 1 = omega arith in
    let step : front ++ range_of (first + i) (count - i) ≡ (front ++ (first + i) ∷ []) ++ range_of (first + (i + 1)) (count - (i + 1)) = rw (n, a) (simp append_assoc) in
    record { is = sym step ∙ so_far.is }

pub range_done : (first i count : ℕ) (front whole : List ℕ) → count ≤ i → Ranges first i count front whole → front ≡ whole
unfolding range_of
range_done first i count front whole le so_far =
    let n : count - i ≡ 0 = omega arith in
    let step : front ++ range_of (first + i) (count - i) ≡ front = rw n (append-nil front) in
    sym step ∙ so_far.is

pub range_length : (first count : ℕ) → length (range_of first count) ≡ count
unfolding range_of
range_length first zero = refl
range_length first (suc n) = let h : length (range_of (first + 1) n) ≡ n = range_length (first + 1) n in omega (arith, h)

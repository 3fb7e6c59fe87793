-- Payloads are read as they were written.
use Rattle.std.proofs.Common.{◌≡◌, ℕ, suc, ltb, ◌+◌, ◌-◌, ◌*◌, ◌/◌, ◌%◌, ◌<◌, ◌≤◌, Bool, true, false, cond, List, [], ◌∷◌, ◌++◌, length, map, drop, refl, sym, ap, subst, ◌∙◌, append_assoc, length-append, inl, inr, arith}
use Rattle.std.specs.Prelude.{ℤ, pos, negsuc, ◌-ℤ◌, slice_index, ◌==◌, IsTrue}
use Rattle.std.specs.Int.{w32, w64, cast_unsigned}
use Rattle.std.specs.Int.RustNames.{FitsSigned}
use Rattle.std.specs.List.{AllByRecursion, flat_map}
use Rattle.std.proofs.Math.Nat.{div-add-mod, div-le_self}
use Rattle.std.proofs.lemmas.Bool.{eqb-true, ltb-true, ltb-false, cases_Bool}
use Rattle.std.proofs.lemmas.Int.{ints}
use Rattle.dex_maker.specs.Fits.{elements_fit}
use Rattle.dex_maker.specs.Payloads.{distance_bits, target_units, packed_units, pair_key, pair_target, sparse_units, byte_units, filled_units}
use Rattle.dex_maker.specs.Spelling.{unit_of, two_units}
use Rattle.dex_code.specs.declared.insn.Insn.TheVariants.{Packed, Sparse, Filled}
use Rattle.dex_code.specs.declared.shape.Shape.TheVariants as shapes
use Rattle.dex_code.specs.Units.{int_at, long_at}
use Rattle.dex_code.specs.Insns.{shape_of, ints_at, int_pairs_at}
use Rattle.line_round_trip.specs.Said.{distance_to, entry_of, elements}
use Rattle.line_round_trip.proofs.Numbers.{unit_back}
use Rattle.line_round_trip.proofs.Units.{unit_in, behind, two_at, int_read, long_read, Passes, passes_by}

-- the units of the numbers that f gives, two for each
abbrev written : {X : Type 0} → (X → ℤ) → List X → List ℕ
written f xs = flat_map (λ x. two_units (cast_unsigned w64 (f x))) xs

written_length : {X : Type 0} (f : X → ℤ) (xs : List X) → length (written f xs) ≡ 2 * length xs
written_length f [] = omega arith
written_length f (x ∷ xs) = let rest = written_length f xs in omega arith

-- these numbers are read again, and pairs of those of f and of g
ints_back : {X : Type 0} (units : List ℕ) (at : ℕ) (f : X → ℤ) (xs : List X) (rest : List ℕ) → AllByRecursion (λ x. FitsSigned w32 (f x)) xs
    → drop at units ≡ written f xs ++ rest → ints_at units at (length xs) ≡ map f xs
unfolding ints_at
ints_back units at f [] rest fit here = refl
ints_back units at f (x ∷ xs) rest fit here =
    let two = two_units (cast_unsigned w64 (f x)) in
    let more = written f xs ++ rest in
    rw (int_read units at (f x) fit.0 (two_at units at (cast_unsigned w64 (f x)) more here))
    (ap (λ (zs : List ℤ). f x ∷ zs) (ints_back units (at + 2) f xs rest fit.1 (behind units at 2 two more refl here)))

int_pairs_back : {X : Type 0} (units : List ℕ) (keys values : ℕ) (f g : X → ℤ) (xs : List X) (rest more : List ℕ) → AllByRecursion (λ x. FitsSigned w32 (f x)) xs → AllByRecursion (λ x. FitsSigned w32 (g x)) xs
    → drop keys units ≡ written f xs ++ rest → drop values units ≡ written g xs ++ more → int_pairs_at units keys values (length xs) ≡ map (λ x. (f x, g x)) xs
unfolding int_pairs_at
int_pairs_back units keys values f g [] rest more fit_f fit_g first second = refl
int_pairs_back units keys values f g (x ∷ xs) rest more fit_f fit_g first second =
    let key = two_units (cast_unsigned w64 (f x)) in
    let value = two_units (cast_unsigned w64 (g x)) in
    let keys_rest = written f xs ++ rest in
    let values_rest = written g xs ++ more in
    rw (int_read units keys (f x) fit_f.0 (two_at units keys (cast_unsigned w64 (f x)) keys_rest first), int_read units values (g x) fit_g.0 (two_at units values (cast_unsigned w64 (g x)) values_rest second))
    (ap (λ (zs : List (ℤ × ℤ)). (f x, g x) ∷ zs)
    (int_pairs_back units (keys + 2) (values + 2) f g xs rest more fit_f.1 fit_g.1 (behind units keys 2 key keys_rest refl first) (behind units values 2 value values_rest refl second)))

-- the distance between two places that are not too far apart
distance_fits : (a b : ℕ) → a ≤ 8388608 → b ≤ 8388608 → FitsSigned w32 (pos a -ℤ pos b)
distance_fits a b x y = elim (cases_Bool (ltb a b)) [
  | inl less ↦
      let lt : a < b = ltb-true a b less in
      let is : pos a -ℤ pos b ≡ negsuc (b - suc a) = omega (arith, ints, lt) in
      subst (λ (z : ℤ). FitsSigned w32 z) (sym is) (record { sfits = omega (arith, y) })
  | inr not ↦
      let le : b ≤ a = ltb-false a b not in
      let is : pos a -ℤ pos b ≡ pos (a - b) = omega (arith, ints, le) in
      subst (λ (z : ℤ). FitsSigned w32 z) (sym is) (record { sfits = omega (arith, x) })
]

module _ (starts : List ℕ) (few : (k : ℕ) → slice_index starts k ≤ 8388608) (switch : ℕ) where
  abbrev pub from : ℕ
  from = slice_index starts switch

  abbrev pub far : ℕ → ℤ
  far = distance_to starts from

  targets_fit : (targets : List ℕ) → AllByRecursion (λ line. FitsSigned w32 (far line)) targets
  targets_fit [] = tt
  targets_fit (line ∷ lines) = (distance_fits (slice_index starts line) from (few line) (few switch), targets_fit lines)

  seconds_fit : (pairs : List (ℤ × ℕ)) → AllByRecursion (λ (pair : ℤ × ℕ). FitsSigned w32 (far pair.1)) pairs
  seconds_fit [] = tt
  seconds_fit (pair ∷ pairs) = (distance_fits (slice_index starts pair.1) from (few pair.1) (few switch), seconds_fit pairs)

  pub packed_passes : (units : List ℕ) (at : ℕ) (key : ℤ) (targets rest : List ℕ) → FitsSigned w32 key → length targets < 65536 → drop at units ≡ packed_units starts from key targets ++ rest
      → Passes units at (4 + 2 * length targets) (Packed key (map far targets)) rest
  unfolding packed_units distance_bits shape_of
  packed_passes units at key targets rest fits lt here =
      let piece = packed_units starts from key targets in
      let count = unit_of (length targets) 1 in
      let key_is = two_units (cast_unsigned w64 key) in
      let table = flat_map (target_units starts from) targets in
      let first : slice_index units at ≡ 256 = unit_in units at 0 at (piece ++ rest) (omega arith) here in
      let many : slice_index units (at + 1) ≡ length targets = unit_in units at 1 (at + 1) (piece ++ rest) refl here ∙ unit_back (length targets) lt in
      let keys = behind units at 2 (256 ∷ count ∷ []) (key_is ++ (table ++ rest)) refl here in
      let tables = behind units at 4 (256 ∷ count ∷ key_is) (table ++ rest) refl here in
      let key_read = int_read units (at + 2) key fits (two_at units (at + 2) (cast_unsigned w64 key) (table ++ rest) keys) in
      let table_read = ints_back units (at + 4) far targets rest (targets_fit targets) tables in
      let len : length piece ≡ 4 + 2 * length targets = omega (arith, written_length far targets) in
      passes_by units at (4 + 2 * length targets) shapes.Packed (Packed key (map far targets)) piece rest here len (omega arith) (rw first refl) refl (rw many refl) (rw (many, key_read, table_read) refl)

  pub sparse_passes : (units : List ℕ) (at : ℕ) (pairs : List (ℤ × ℕ)) (rest : List ℕ) → AllByRecursion (λ (pair : ℤ × ℕ). FitsSigned w32 pair.0) pairs → length pairs < 65536
      → drop at units ≡ sparse_units starts from pairs ++ rest → Passes units at (2 + 4 * length pairs) (Sparse (map (entry_of starts from) pairs)) rest
  unfolding sparse_units distance_bits shape_of
  sparse_passes units at pairs rest fit lt here =
      let piece = sparse_units starts from pairs in
      let count = unit_of (length pairs) 1 in
      let keys = flat_map pair_key pairs in
      let values = flat_map (pair_target starts from) pairs in
      let first : slice_index units at ≡ 512 = unit_in units at 0 at (piece ++ rest) (omega arith) here in
      let many : slice_index units (at + 1) ≡ length pairs = unit_in units at 1 (at + 1) (piece ++ rest) refl here ∙ unit_back (length pairs) lt in
      let parts : drop at units ≡ 512 ∷ count ∷ (keys ++ (values ++ rest)) = here ∙ ap (λ (xs : List ℕ). 512 ∷ count ∷ xs) (append_assoc keys values rest) in
      let keys_length : length keys ≡ 2 * length pairs = written_length (λ (pair : ℤ × ℕ). pair.0) pairs in
      let values_length : length values ≡ 2 * length pairs = written_length (λ (pair : ℤ × ℕ). far pair.1) pairs in
      let firsts = behind units at 2 (512 ∷ count ∷ []) (keys ++ (values ++ rest)) refl parts in
      let seconds = behind units (at + 2) (2 * length pairs) keys (values ++ rest) keys_length firsts in
      let read = int_pairs_back units (at + 2) (at + 2 + 2 * length pairs) (λ (pair : ℤ × ℕ). pair.0) (λ (pair : ℤ × ℕ). far pair.1) pairs (values ++ rest) rest fit (seconds_fit pairs) firsts seconds in
      let len : length piece ≡ 2 + 4 * length pairs = omega (arith, length-append keys values, keys_length, values_length) in
      passes_by units at (2 + 4 * length pairs) shapes.Sparse (Sparse (map (entry_of starts from) pairs)) piece rest here len (omega arith) (rw first refl) refl (rw many refl) (rw (many, read) refl)

-- how many units bytes take
bytes_length : (bytes : List ℕ) → length (byte_units bytes) ≡ (length bytes + 1) / 2
bytes_length [] = omega arith
bytes_length (a ∷ []) = omega arith
bytes_length (a ∷ b ∷ bytes) = let rest = bytes_length bytes in omega arith

-- the elements are all the bytes
all_elements : (width n : ℕ) (none : Bool) → IsTrue (cond none (n == 0) (n % width == 0)) → width * cond none 0 (n / width) ≡ n
all_elements width n true fit = let nothing : n ≡ 0 = eqb-true n 0 fit in omega (arith, nothing)
all_elements width n false fit =
    let over : n % width ≡ 0 = eqb-true (n % width) 0 fit in
    sum_of (width * (n / width)) (n % width) (div-add-mod n width) over
  where
    sum_of : (a b : ℕ) → a + b ≡ n → b ≡ 0 → a ≡ n
    sum_of a b e zero_is = omega (arith, e, zero_is)

few_elements : (width n : ℕ) (none : Bool) → n < 4294967296 → cond none 0 (n / width) < 4294967296
few_elements width n true lt = omega arith
few_elements width n false lt = let le : n / width ≤ n = div-le_self n width in omega (arith, le, lt)

pub filled_passes : (units : List ℕ) (at width : ℕ) (bytes rest : List ℕ) → length bytes < 4294967296 → IsTrue (elements_fit width (length bytes)) → drop at units ≡ filled_units width bytes ++ rest
    → Passes units at (4 + (length bytes + 1) / 2) (Filled width (elements width bytes)) rest
unfolding filled_units shape_of
filled_passes units at width bytes rest few fit here =
    let piece = filled_units width bytes in
    let n = elements width bytes in
    let more = byte_units bytes ++ rest in
    let first : slice_index units at ≡ 768 = unit_in units at 0 at (piece ++ rest) (omega arith) here in
    let size : slice_index units (at + 1) ≡ width = unit_in units at 1 (at + 1) (piece ++ rest) refl here in
    let two = two_at units (at + 2) n more (behind units at 2 (768 ∷ width ∷ []) (two_units n ++ more) refl here) in
    let number : long_at units (at + 2) ≡ n = long_read units (at + 2) n (few_elements width (length bytes) (width == 0) few) two in
    let whole : width * n ≡ length bytes = all_elements width (length bytes) (width == 0) fit in
    let len : length piece ≡ 4 + (length bytes + 1) / 2 = omega (arith, bytes_length bytes) in
    passes_by units at (4 + (length bytes + 1) / 2) shapes.Filled (Filled width n) piece rest here len (omega arith) (rw first refl) refl (rw (size, number, whole) refl) (rw (size, number) refl)

-- Numbers one after the other, and the puts of a default.
use Rattle.std.proofs.Common.{◌≡◌, ◌≢◌, ◌==◌, ◌↔◌, ◌⊎◌, inl, inr, ℕ, zero, suc, ◌+◌, ◌<◌, ◌≤◌, Bool, true, false, ◌||◌, List, [], ◌∷◌, map, length, Some, slice_get, nat_le, not, refl, sym, ap, ◌∙◌, arith, eq-eqb, ne_eqb}
use Rattle.std.specs.Prelude.{IsTrue}
use Rattle.std.specs.List.{list_any}
use Rattle.vet_base.proofs.Lists.{list_any-map}
use Rattle.std.proofs.lemmas.Bool.{cases_lt, or_left, or_right, le-leb, lt-leb}
use Rattle.app_machine.specs.declared.call.Proto.{Proto}
use Rattle.app_machine.specs.declared.lists.FallbackWord.{FallbackWord}
use Rattle.app_machine.specs.declared.lists.FallbackWord.TheVariants.{Blank, Joined, Mixed}
use Rattle.app_machine.specs.State.{holds}
use Rattle.app_machine.specs.Summaries.{default_gives, default_puts, numbers_from, position_count}
use Rattle.app_parts.specs.Views.{joined_from, puts_from, puts_into}

module _ (test : ℕ → Bool) where
  some_here : (s i : ℕ) (rest : Bool) → i ≤ s → s ≤ i → test i ≡ true → (test s || rest) ≡ true
  some_here s i rest upto from passes = let same : i ≡ s = omega arith in or_left (test s) rest (ap test (sym same) ∙ passes)

  -- one of the numbers passes
  some_number : (s n i : ℕ) → s ≤ i → i < s + n → test i ≡ true → list_any test (numbers_from s n) ≡ true
  some_number s zero i from below passes = absurd (omega arith)
  some_number s (suc n) i from below passes = elim (cases_lt s i) [
    | inl behind ↦ or_right (test s) (list_any test (numbers_from (s + 1) n)) (some_number (s + 1) n i (omega arith) (omega arith) passes)
    | inr here ↦ some_here s i (list_any test (numbers_from (s + 1) n)) here from passes
  ]

  -- none of them does
  no_number : (s n : ℕ) → ((j : ℕ) → s ≤ j → j < s + n → test j ≡ false) → list_any test (numbers_from s n) ≡ false
  no_number s zero fails = refl
  no_number s (suc n) fails =
      let here : test s ≡ false = fails s (omega arith) (omega arith) in
      let rest : list_any test (numbers_from (s + 1) n) ≡ false = no_number (s + 1) n (λ j from below. fails j (omega arith) (omega arith)) in
      rw (here, rest) refl

-- a number below the count is one of the numbers below it
among_all : (count i : ℕ) (b : Bool) → (IsTrue b ↔ (i < count)) → b ≡ holds (numbers_from 0 count) i
among_all count i true told = let below : i < count = told.0 refl in sym (some_number (λ d. i == d) 0 count i (omega arith) (omega arith) (eq-eqb i i refl))
among_all count i false told = sym (no_number (λ d. i == d) 0 count (λ j from below. ne_eqb i j (λ same. let never : false ≡ true = told.1 (omega arith) in cc)))

pub joined_by_default : (word : FallbackWord) (is_static : Bool) (proto : Proto) (i : ℕ) (b : Bool) → (word ≡ Joined) ⊎ (word ≡ Mixed) → (IsTrue b ↔ (i < position_count is_static proto)) → b ≡ joined_from (default_gives word is_static proto) i
joined_by_default Blank is_static proto i b (inl same) told = absurd (cc)
joined_by_default Blank is_static proto i b (inr same) told = absurd (cc)
joined_by_default Joined is_static proto i b way told = among_all (position_count is_static proto) i b told
joined_by_default Mixed is_static proto i b way told = among_all (position_count is_static proto) i b told

abbrev into_receiver : ℕ → ℕ × ℕ
into_receiver i = (i, 0)

number_count : (s n : ℕ) → length (map into_receiver (numbers_from s n)) ≡ n
number_count s zero = refl
number_count s (suc n) = ap suc (number_count (s + 1) n)

number_at : (s n k : ℕ) → k < n → slice_get (map into_receiver (numbers_from s n)) k ≡ Some (s + k, 0)
number_at s zero k below = absurd (omega arith)
number_at s (suc n) zero below = let same : s ≡ s + 0 = omega arith in ap (λ i. Some (i, 0)) same
number_at s (suc n) (suc k) below = let same : s + 1 + k ≡ s + suc k = omega arith in number_at (s + 1) n k (omega arith) ∙ ap (λ i. Some (i, 0)) same

-- a default that mixes puts each argument of a method with a receiver
pub put_numbers : (proto : Proto) → length (default_puts Mixed false proto) ≡ length proto.params
put_numbers proto = number_count 1 (length proto.params)

pub put_here : (word : FallbackWord) (is_static : Bool) (proto : Proto) (k : ℕ) → k < length (default_puts word is_static proto) → slice_get (default_puts word is_static proto) k ≡ Some (k + 1, 0)
put_here Blank is_static proto k below = absurd (omega arith)
put_here Joined is_static proto k below = absurd (omega arith)
put_here Mixed true proto k below = absurd (omega arith)
put_here Mixed false proto k below =
    let count : length (default_puts Mixed false proto) ≡ length proto.params = put_numbers proto in
    let same : 1 + k ≡ k + 1 = omega arith in
    number_at 1 (length proto.params) k (omega arith) ∙ ap (λ i. Some (i, 0)) same

puts_each : (word : FallbackWord) (is_static : Bool) (proto : Proto) (i : ℕ) → 0 < i → i ≤ length (default_puts word is_static proto) → puts_from (default_puts word is_static proto) i ≡ true
puts_each Blank is_static proto i from below = absurd (omega arith)
puts_each Joined is_static proto i from below = absurd (omega arith)
puts_each Mixed true proto i from below = absurd (omega arith)
puts_each Mixed false proto i from below =
    let count : length (default_puts Mixed false proto) ≡ length proto.params = put_numbers proto in
    list_any-map into_receiver (λ (put : ℕ × ℕ). put.0 == i) (numbers_from 1 (length proto.params)) ∙ some_number (λ j. j == i) 1 (length proto.params) i (omega arith) (omega arith) (eq-eqb i i refl)

puts_no : (word : FallbackWord) (is_static : Bool) (proto : Proto) (i : ℕ) → ((j : ℕ) → 1 ≤ j → j < 1 + length (default_puts word is_static proto) → j ≢ i) → puts_from (default_puts word is_static proto) i ≡ false
puts_no Blank is_static proto i differs = refl
puts_no Joined is_static proto i differs = refl
puts_no Mixed true proto i differs = refl
puts_no Mixed false proto i differs =
    let count : length (default_puts Mixed false proto) ≡ length proto.params = put_numbers proto in
    list_any-map into_receiver (λ (put : ℕ × ℕ). put.0 == i) (numbers_from 1 (length proto.params)) ∙ no_number (λ j. j == i) 1 (length proto.params) (λ j from below. ne_eqb j i (differs j from (omega arith)))

pub puts_from_receiver : (word : FallbackWord) (is_static : Bool) (proto : Proto) (i : ℕ) → i ≡ 0 → not (i == 0) ≡ puts_from (default_puts word is_static proto) i
puts_from_receiver word is_static proto i receiver = ap (λ b. not b) (eq-eqb i 0 receiver) ∙ sym (puts_no word is_static proto i (λ j from below same. absurd (omega arith)))

pub puts_from_argument : (word : FallbackWord) (is_static : Bool) (proto : Proto) (i count : ℕ) → i ≢ 0 → count ≡ length (default_puts word is_static proto) → nat_le i count ≡ puts_from (default_puts word is_static proto) i
puts_from_argument word is_static proto i count argument counts = elim (cases_lt count i) [
  | inl behind ↦ lt-leb i count behind ∙ sym (puts_no word is_static proto i (λ j from below same. absurd (omega arith)))
  | inr within ↦ le-leb i count within ∙ sym (puts_each word is_static proto i (omega arith) (omega arith))
]

puts_receiver : (word : FallbackWord) (is_static : Bool) (proto : Proto) → 0 < length (default_puts word is_static proto) → puts_into (default_puts word is_static proto) 0 ≡ true
puts_receiver Blank is_static proto some = absurd (omega arith)
puts_receiver Joined is_static proto some = absurd (omega arith)
puts_receiver Mixed true proto some = absurd (omega arith)
puts_receiver Mixed false proto some =
    let count : length (default_puts Mixed false proto) ≡ length proto.params = put_numbers proto in
    list_any-map into_receiver (λ (put : ℕ × ℕ). put.1 == 0) (numbers_from 1 (length proto.params)) ∙ some_number (λ j. 0 == 0) 1 (length proto.params) 1 (omega arith) (omega arith) refl

puts_no_argument : (word : FallbackWord) (is_static : Bool) (proto : Proto) (i : ℕ) → i ≢ 0 → puts_into (default_puts word is_static proto) i ≡ false
puts_no_argument Blank is_static proto i differs = refl
puts_no_argument Joined is_static proto i differs = refl
puts_no_argument Mixed true proto i differs = refl
puts_no_argument Mixed false proto i differs =
    list_any-map into_receiver (λ (put : ℕ × ℕ). put.1 == i) (numbers_from 1 (length proto.params)) ∙ no_number (λ j. 0 == i) 1 (length proto.params) (λ j from below. ne_eqb 0 i (λ same. differs (sym same)))

puts_nothing : (puts : List (ℕ × ℕ)) (i : ℕ) → length puts ≡ 0 → puts_into puts i ≡ false
puts_nothing [] i none = refl
puts_nothing (put ∷ puts) i none = absurd (omega arith)

pub puts_into_receiver : (word : FallbackWord) (is_static : Bool) (proto : Proto) (i count : ℕ) → i ≡ 0 → count ≡ length (default_puts word is_static proto) → not (count == 0) ≡ puts_into (default_puts word is_static proto) i
puts_into_receiver word is_static proto i count receiver counts = elim (cases_lt 0 count) [
  | inl some ↦ ap (λ b. not b) (ne_eqb count 0 (λ none. omega arith)) ∙ sym (ap (puts_into (default_puts word is_static proto)) receiver ∙ puts_receiver word is_static proto (omega arith))
  | inr none ↦ ap (λ b. not b) (eq-eqb count 0 (omega arith)) ∙ sym (puts_nothing (default_puts word is_static proto) i (omega arith))
]

pub puts_into_argument : (word : FallbackWord) (is_static : Bool) (proto : Proto) (i : ℕ) → i ≢ 0 → (i == 0) ≡ puts_into (default_puts word is_static proto) i
puts_into_argument word is_static proto i argument = ne_eqb i 0 argument ∙ sym (puts_no_argument word is_static proto i argument)

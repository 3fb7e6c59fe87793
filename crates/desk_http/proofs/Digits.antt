-- A number of at most ten decimal digits, read from its first digit on.
use Rattle.std.proofs.Common.{◌≡◌, ℕ, zero, suc, ◌+◌, ◌-◌, ◌*◌, ◌^◌, ◌<◌, ◌≤◌, ◌&&◌, true, false, List, [], ◌∷◌, length, get_or, take, Ok, Err, nat_lt, nat_le, ◌==◌, eqb-true, add-one, refl, ap, sym, arith, rules}
use Rattle.std.specs.Char.{is_ascii_digit, digit_value}
use Rattle.std.specs.Str.{all_ascii_digits}
use Rattle.std.specs.Str.Parse.{digits_value}
use Rattle.std.proofs.lemmas.Bool.{and_parts, lt-ltb, le-leb, lt-leb}
use Rattle.std.proofs.Math.Seq.{take-length}
use Rattle.std.proofs.Math.Bool.{and-false}
use Rattle.std.proofs.lemmas.List.{length-take-le}
use Rattle.std.proofs.lemmas.Str.{digit_value_digit}
use Rattle.std.proofs.lemmas.Int.Digits.{digits_value_more}
use Rattle.std.proofs.lemmas.Str.Parse.{IsNumeralModel, numerals_by_value, digits_value_short}
use Rattle.desk_http.specs.declared.asked.HttpFault.TheVariants.{Bad}
use Rattle.desk_http.specs.Fields.{is_length, length_in}

own : IsNumeralModel (λ ds. all_ascii_digits ds ≡ true) (digits_value 10)
own = numerals_by_value (λ ds. all_ascii_digits ds ≡ true) (search rules)

-- the first i bytes are digits, and write this number
pub record Reads (bytes : List ℕ) (i number : ℕ) : Type 0 where
  pub digits : all_ascii_digits (take i bytes) ≡ true
  pub value : number ≡ digits_value 10 (take i bytes)

pub reads_none : (bytes : List ℕ) → Reads bytes 0 0
reads_none bytes = record { digits = refl; value = refl }

pub number_fits : (bytes : List ℕ) (i number : ℕ) → i ≤ length bytes → i ≤ 10 → Reads bytes i number → number < 10 ^ 10
number_fits bytes i number within short reads =
    rw reads.value (digits_value_short own (take i bytes) 10 reads.digits (rw (length-take-le i bytes within) short))

-- what a digit counts
digit_counts : (c : ℕ) → is_ascii_digit c ≡ true → digit_value c ≡ c - 48
digit_counts c here = omega (arith, digit_value_digit c (search rules))

digits_more : (bytes : List ℕ) (i : ℕ) → i < length bytes → all_ascii_digits (take i bytes) ≡ true → is_ascii_digit (get_or bytes i 0) ≡ true → all_ascii_digits (take (suc i) bytes) ≡ true
digits_more [] i within before here = absurd (omega arith)
digits_more (b ∷ bytes) zero within before here = rw here refl
digits_more (b ∷ bytes) (suc i) within before here =
    let parts = and_parts (is_ascii_digit b) (all_ascii_digits (take i bytes)) before in
    rw (parts.0, digits_more bytes i (omega arith) parts.1 here) refl

no_digits : (bytes : List ℕ) (i : ℕ) → i < length bytes → is_ascii_digit (get_or bytes i 0) ≡ false → all_ascii_digits bytes ≡ false
no_digits [] i within here = absurd (omega arith)
no_digits (b ∷ bytes) zero within here = rw here refl
no_digits (b ∷ bytes) (suc i) within here = rw (no_digits bytes i (omega arith) here) (and-false (is_ascii_digit b))

-- one digit more
pub reads_more : (bytes : List ℕ) (i number : ℕ) → i < length bytes → is_ascii_digit (get_or bytes i 0) ≡ true → Reads bytes i number
    → Reads bytes (i + 1) (number * 10 + (get_or bytes i 0 - 48))
reads_more bytes i number within here reads = record {
  digits = rw add-one (digits_more bytes i within reads.digits here);
  value = rw (digits_value_more 10 bytes i within, ← reads.value) (sym (ap (λ d. number * 10 + d) (digit_counts (get_or bytes i 0) here)));
}

-- all of them are digits, one at least and ten at most
pub whole_length : (bytes : List ℕ) (number : ℕ) → 0 < length bytes → length bytes ≤ 10 → Reads bytes (length bytes) number → length_in bytes ≡ Ok number
unfolding is_length
whole_length bytes number some few reads =
    let digits : all_ascii_digits bytes ≡ true = rw (take-length bytes) at reads.digits in
    let value : number ≡ digits_value 10 bytes = rw (take-length bytes) at reads.value in
    rw (value, lt-ltb 0 (length bytes) some, le-leb (length bytes) 10 few, digits) refl

pub no_length : (bytes : List ℕ) (i : ℕ) → i < length bytes → is_ascii_digit (get_or bytes i 0) ≡ false → length_in bytes ≡ Err Bad
unfolding is_length
no_length bytes i within here = rw (no_digits bytes i within here, and-false (nat_lt 0 (length bytes) && nat_le (length bytes) 10)) refl

pub empty_is_none : (bytes : List ℕ) → (length bytes == 0) ≡ true → length_in bytes ≡ Err Bad
unfolding is_length
empty_is_none [] empty = refl
empty_is_none (b ∷ bytes) empty = absurd (omega (arith, eqb-true (suc (length bytes)) 0 empty))

pub long_is_none : (bytes : List ℕ) → 10 < length bytes → length_in bytes ≡ Err Bad
unfolding is_length
long_is_none bytes long = rw (lt-leb (length bytes) 10 long, and-false (nat_lt 0 (length bytes))) refl

pub some_bytes : (bytes : List ℕ) → (length bytes == 0) ≡ false → 0 < length bytes
some_bytes [] some = cc
some_bytes (b ∷ bytes) some = omega arith

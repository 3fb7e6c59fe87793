-- The number that a length writes, by what the desk reads of it.
use Rattle.std.proofs.Common.{◌≡◌, ℕ, ◌<◌, ◌≤◌, Bool, true, false, cond, List, length, get_or, ◌==◌, Some, None, Ok, Err, refl, ap, ◌∙◌}
use Rattle.std.specs.Char.{is_ascii_digit}
use Rattle.std.specs.Result.{result_ok}
use Rattle.std.specs.Str.Parse.{digits_value}
use Rattle.desk_http.specs.declared.asked.HttpFault.{HttpFault}
use Rattle.desk_http.specs.declared.asked.HttpFault.TheVariants.{Bad}
use Rattle.desk_http.specs.Fields.{is_length, length_in}
use Rattle.desk_http.proofs.Digits.{Reads, whole_length, no_length, empty_is_none, long_is_none}
use Rattle.client_replies.specs.Replies.{number_in}

by_test : (b : Bool) (n : ℕ) → cond b (Some n) None ≡ result_ok {E = HttpFault} (cond b (Ok n) (Err Bad))
by_test true n = refl
by_test false n = refl

as_length : (value : List ℕ) → number_in value ≡ result_ok (length_in value)
as_length value = by_test (is_length value) (digits_value 10 value)

pub whole_number : (value : List ℕ) (number : ℕ) → 0 < length value → length value ≤ 10 → Reads value (length value) number → number_in value ≡ Some number
whole_number value number some few reads = as_length value ∙ ap result_ok (whole_length value number some few reads)

pub no_number : (value : List ℕ) (i : ℕ) → i < length value → is_ascii_digit (get_or value i 0) ≡ false → number_in value ≡ None
no_number value i within here = as_length value ∙ ap result_ok (no_length value i within here)

pub empty_is_no_number : (value : List ℕ) → (length value == 0) ≡ true → number_in value ≡ None
empty_is_no_number value empty = as_length value ∙ ap result_ok (empty_is_none value empty)

pub long_is_no_number : (value : List ℕ) → 10 < length value → number_in value ≡ None
long_is_no_number value long = as_length value ∙ ap result_ok (long_is_none value long)

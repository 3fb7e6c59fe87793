-- The fields of one name, looked for from the first on.
use Rattle.std.specs.Char.{to_ascii_lowercase}
use Rattle.std.proofs.lemmas.Slice.Eq.{bytes_eq-Decides}
use Rattle.std.proofs.Common.{◌≡◌, ◌↔◌, IsTrue, Bool, rules, ℕ, ◌+◌, ◌<◌, ◌≤◌, true, false, List, [], ◌∷◌, map, length, get_or, drop, refl}
use Rattle.std.proofs.lemmas.List.{drop_all}
use Rattle.httparse.specs.declared.spans.HeaderSpan.{HeaderSpan}
use Rattle.httparse.specs.Spans.{header_bytes, span_bytes}
use Rattle.vet_base.proofs.Lists.{drop_read}
use Rattle.desk_http.specs.Fields.{has_name, values_of}

-- the values of this name among the fields from i on
abbrev pub values_from : List ℕ → List ℕ → List HeaderSpan → ℕ → List (List ℕ)
values_from bytes name fields i = values_of name (map (header_bytes bytes) (drop i fields))

pub values_hit : (bytes name : List ℕ) (fields : List HeaderSpan) (i : ℕ) (field : HeaderSpan) → i < length fields → field ≡ get_or fields i field
    → has_name name (header_bytes bytes field) ≡ true
    → values_from bytes name fields i ≡ span_bytes bytes field.value ∷ values_from bytes name fields (i + 1)
values_hit bytes name fields i field within is hit = rw (drop_read fields i field within is, hit) refl

pub values_miss : (bytes name : List ℕ) (fields : List HeaderSpan) (i : ℕ) (field : HeaderSpan) → i < length fields → field ≡ get_or fields i field
    → has_name name (header_bytes bytes field) ≡ false
    → values_from bytes name fields i ≡ values_from bytes name fields (i + 1)
values_miss bytes name fields i field within is miss = rw (drop_read fields i field within is, miss) refl

pub values_over : (bytes name : List ℕ) (fields : List HeaderSpan) (i : ℕ) → length fields ≤ i → values_from bytes name fields i ≡ []
values_over bytes name fields i over = rw (drop_all i fields over) refl

-- The test of a name, by what the library's comparison answers.
pub tells_name : (name : List ℕ) (field : List ℕ × List ℕ) (r : Bool) → (IsTrue r ↔ (map to_ascii_lowercase field.0 ≡ map to_ascii_lowercase name)) → r ≡ has_name name field
unfolding has_name
tells_name name field r is = search (rules, bytes_eq-Decides)

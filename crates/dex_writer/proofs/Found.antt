-- A row of numbers that was added is found.
use Rattle.std.proofs.Common.{◌≡◌, ℕ, ◌+◌, Bool, true, false, cond, List, [], ◌∷◌, ◌++◌, length, Option, Some, None, refl, sym, ap, ◌∙◌, add-one, inl, inr}
use Rattle.std.specs.Prelude.{is_some}
use Rattle.std.specs.Option.{option_map}
use Rattle.std.specs.Ordering.{is_eq}
use Rattle.std.proofs.lemmas.Bool.{cases_Bool}
use Rattle.std.proofs.lemmas.Cmp.{nat_list_cmp_total, tied_itself}
use Rattle.dex_writer.specs.Law.{IsFound}
use Rattle.dex_writer.specs.Rows.{place, with_row}
use Rattle.dex_writer.specs.Tables.{list_cmp}
use Rattle.dex_writer.proofs.Places.{place_or_end, place_push}
use Rattle.vet_base.proofs.Texts.{tied_equal}

some_mapped : (o : Option ℕ) → is_some (option_map (λ n. n + 1) o) ≡ is_some o
some_mapped None = refl
some_mapped (Some n) = refl

-- the first row, or one behind it
first_placed : (first : Bool) (o : Option ℕ) → first ≡ true → cond first (Some 0) o ≡ Some 0
first_placed true o is = refl
first_placed false o is = absurd cc

later_placed : (first : Bool) (o : Option ℕ) (n : ℕ) → first ≡ false → o ≡ Some n → cond first (Some 0) (option_map (λ m. m + 1) o) ≡ Some (n + 1)
later_placed true o n not is = absurd cc
later_placed false o n not is = ap (option_map (λ m. m + 1)) is

later_some : (first : Bool) (o : Option ℕ) → first ≡ false → is_some (cond first (Some 0) (option_map (λ m. m + 1) o)) ≡ true → is_some o ≡ true
later_some true o not some = absurd cc
later_some false o not some = sym (some_mapped o) ∙ some

some_found : (rows : List (List ℕ)) (row : List ℕ) → is_some (place list_cmp rows row) ≡ true → IsFound rows row
some_found [] row some = absurd cc
some_found (x ∷ rows) row some =
    let first = is_eq (list_cmp row x) in
    let rest = place list_cmp rows row in
    elim (cases_Bool first) [
      | inl same ↦ record { number = 0; at = first_placed first (option_map (λ n. n + 1) rest) same; stands = ap (λ y. Some y) (sym (tied_equal row x same)) }
      | inr other ↦
          let found = some_found rows row (later_some first rest other some) in
          record { number = found.number + 1; at = later_placed first rest found.number other found.at; stands = rw (add-one found.number) found.stands }
    ]

always_some : (o : Option ℕ) (end : ℕ) → is_some (place_or_end o true end) ≡ true
always_some None end = refl
always_some (Some n) end = refl

at_the_end : (rows : List (List ℕ)) (row : List ℕ) → is_some (place list_cmp (rows ++ row ∷ []) row) ≡ true
at_the_end rows row =
    let itself : is_eq (list_cmp row row) ≡ true = ap is_eq (tied_itself nat_list_cmp_total row) in
    rw (place_push list_cmp rows row row, itself) (always_some (place list_cmp rows row) (length rows))

pub added_found : (rows : List (List ℕ)) (row : List ℕ) → IsFound (with_row list_cmp rows row) row
added_found rows row = elim (cases_Bool (is_some (place list_cmp rows row))) [
  | inl there ↦ rw there (some_found rows row there)
  | inr absent ↦ rw absent (some_found (rows ++ row ∷ []) row (at_the_end rows row))
]

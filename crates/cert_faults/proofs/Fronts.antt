-- Why no row of a certificate is read of bytes: they are a front of one, or neither that nor begin with one.
use Rattle.std.proofs.Common.{◌≡◌, ◌<◌, Result, Ok, Err, ℕ, List, [], ◌∷◌, ◌++◌, refl, sym, ap, ◌∙◌}
use Rattle.std.proofs.lemmas.List.{append-nil}
use Rattle.vet_base.specs.Script.{run}
use Rattle.vet_base.proofs.Every.{each_append}
use Rattle.vet_base.proofs.Results.{ok_or_err, ok_parts}
use Rattle.fact_rows.specs.declared.row.Row.{Row}
use Rattle.cert_rows.specs.declared.fault.RowFault.{RowFault}
use Rattle.cert_rows.specs.declared.fault.RowFault.TheVariants.{Cut, Bad}
use Rattle.cert_rows.specs.declared.sets.Set.{Set}
use Rattle.cert_rows.specs.Laws.{AreBytes, RowsAreReadAgain, RowsAreFound}
use Rattle.cert_rows.specs.Rows.{row_from}
use Rattle.cert_rows.specs.Spelling.{row_bytes}
use Rattle.cert_faults.specs.FirstFault.{BeginsWithRow, IsCutRow}
use Rattle.cert_faults.proofs.RowReaders.{row_reader}

no_end : (rest more : List ℕ) → rest ++ more ≡ [] → more ≡ []
no_end [] more e = e
no_end (x ∷ rest) more e = absurd cc

cut_or_bad : (r : Result (Row × List ℕ) RowFault) → r ≡ Err Cut → r ≡ Err Bad → ⊥
cut_or_bad r one two = absurd cc

module _ (again : RowsAreReadAgain) (found : RowsAreFound) (set : Set) where
  pub begins : (bytes : List ℕ) → AreBytes bytes → (row : Row) (rest : List ℕ) → run (row_from set bytes) ≡ Ok (row, rest) → BeginsWithRow set bytes
  begins bytes are row rest e = let b = found.row set bytes rest row are e in record { row = row; rest = rest; fits = b.fits; is = b.is }

  pub cut_row : (bytes : List ℕ) → AreBytes bytes → run (row_from set bytes) ≡ Err Cut → IsCutRow set bytes
  cut_row bytes are e =
      let c = (row_reader set).steady.cut bytes e in
      let b = found.row set (bytes ++ c.more) [] c.value (each_append (λ n. n < 256) bytes c.more are c.are) c.whole in
      record {
        row = c.value;
        more = c.more;
        fits = b.fits;
        some = λ none.
            let same : bytes ++ c.more ≡ bytes = ap (λ more. bytes ++ more) none ∙ append-nil bytes in
            ok_or_err (run (row_from set bytes)) (c.value, []) Cut (sym (ap (λ bs. run (row_from set bs)) same) ∙ c.whole) e;
        is = b.is ∙ append-nil (row_bytes c.value);
      }

  -- a row that begins in bytes is read of them whole
  cut_is : (bytes : List ℕ) → (c : IsCutRow set bytes) → (r : Result (Row × List ℕ) RowFault) → run (row_from set bytes) ≡ r → r ≡ Err Cut
  cut_is bytes c (Ok s) e =
      let longer : run (row_from set (bytes ++ c.more)) ≡ Ok (s.0, s.1 ++ c.more) = (row_reader set).steady.ok bytes c.more s.0 s.1 e in
      let whole : run (row_from set (row_bytes c.row)) ≡ Ok (c.row, []) = sym (ap (λ bs. run (row_from set bs)) (append-nil (row_bytes c.row))) ∙ again set c.row [] c.fits in
      let p = ok_parts s.0 c.row (s.1 ++ c.more) [] (run (row_from set (bytes ++ c.more))) longer (ap (λ bs. run (row_from set bs)) c.is ∙ whole) in
      absurd (c.some (no_end s.1 c.more p.1))
  cut_is bytes c (Err Cut) e = refl
  cut_is bytes c (Err Bad) e =
      let longer : run (row_from set (bytes ++ c.more)) ≡ Err Bad = (row_reader set).steady.bad bytes c.more e in
      let whole : run (row_from set (row_bytes c.row)) ≡ Ok (c.row, []) = sym (ap (λ bs. run (row_from set bs)) (append-nil (row_bytes c.row))) ∙ again set c.row [] c.fits in
      absurd (ok_or_err (run (row_from set (bytes ++ c.more))) (c.row, []) Bad (ap (λ bs. run (row_from set bs)) c.is ∙ whole) longer)

  pub is_cut : (bytes : List ℕ) → IsCutRow set bytes → run (row_from set bytes) ≡ Err Cut
  is_cut bytes c = cut_is bytes c (run (row_from set bytes)) refl

  pub bad_begins_none : (bytes : List ℕ) → run (row_from set bytes) ≡ Err Bad → BeginsWithRow set bytes → ⊥
  bad_begins_none bytes e b = ok_or_err (run (row_from set bytes)) (b.row, b.rest) Bad (ap (λ bs. run (row_from set bs)) b.is ∙ again set b.row b.rest b.fits) e

  pub bad_is_not_cut : (bytes : List ℕ) → run (row_from set bytes) ≡ Err Bad → IsCutRow set bytes → ⊥
  bad_is_not_cut bytes e c = cut_or_bad (run (row_from set bytes)) (is_cut bytes c) e

  bad_is : (bytes : List ℕ) → AreBytes bytes → (BeginsWithRow set bytes → ⊥) → (IsCutRow set bytes → ⊥) → (r : Result (Row × List ℕ) RowFault) → run (row_from set bytes) ≡ r → r ≡ Err Bad
  bad_is bytes are none uncut (Ok s) e = absurd (none (begins bytes are s.0 s.1 e))
  bad_is bytes are none uncut (Err Cut) e = absurd (uncut (cut_row bytes are e))
  bad_is bytes are none uncut (Err Bad) e = refl

  pub is_bad : (bytes : List ℕ) → AreBytes bytes → (BeginsWithRow set bytes → ⊥) → (IsCutRow set bytes → ⊥) → run (row_from set bytes) ≡ Err Bad
  is_bad bytes are none uncut = bad_is bytes are none uncut (run (row_from set bytes)) refl

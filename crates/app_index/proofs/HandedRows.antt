-- The numbers of the rows that give back what the library has, as a loop gathers them.
use Rattle.std.proofs.Common.{◌≡◌, ℕ, ◌+◌, ◌<◌, ◌≤◌, List, [], ◌∷◌, ◌++◌, length, drop, get_or, refl, sym, ◌∙◌, append-nil}
use Rattle.std.proofs.lemmas.List.{append_assoc, drop_all}
use Rattle.vet_base.proofs.Lists.{drop_read}
use Rattle.app_machine.specs.declared.summary.Summary.{Summary}
use Rattle.app_index.specs.Handed.{handed_row, handed_from}

module _ (rows : List Summary) where
  -- those so far, and those that are left
  pub record HandedSoFar (i : ℕ) (so_far : List ℕ) : Type 0 where
    pub is : so_far ++ handed_from i (drop i rows) ≡ handed_from 0 rows

  pub rows_begin : HandedSoFar 0 []
  rows_begin = record { is = refl }

  pub rows_go_on : (i : ℕ) (row : Summary) (so_far : List ℕ) → i < length rows → row ≡ get_or rows i row → HandedSoFar i so_far →
      HandedSoFar (i + 1) (so_far ++ handed_row i row)
  rows_go_on i row so_far lt item before =
      let k : drop i rows ≡ row ∷ drop (i + 1) rows = drop_read rows i row lt item in
      let h : so_far ++ handed_from i (row ∷ drop (i + 1) rows) ≡ handed_from 0 rows = rw k at before.is in
      record { is = append_assoc so_far (handed_row i row) (handed_from (i + 1) (drop (i + 1) rows)) ∙ h }

  pub rows_done : (i : ℕ) (so_far : List ℕ) → length rows ≤ i → HandedSoFar i so_far → so_far ≡ handed_from 0 rows
  rows_done i so_far le before =
      let k : drop i rows ≡ [] = drop_all i rows le in
      let h : so_far ++ handed_from i [] ≡ handed_from 0 rows = rw k at before.is in
      sym (append-nil so_far) ∙ h

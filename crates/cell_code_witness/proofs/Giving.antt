-- The rules of library calls give what the lists leave out, and do not give what they have too much.
use Rattle.std.proofs.Common.{◌≡◌, ◌≢◌, ℕ, List, [], ◌∷◌, refl, inl, inr}
use Rattle.app_machine.specs.declared.lists.Lists.{Lists}
use Rattle.app_machine.specs.declared.app.App.{App}
use Rattle.vet_base.specs.Members.{In}
use Rattle.app_machine.specs.Lookups.{elem_key}
use Rattle.app_machine.specs.declared.lists.SummaryId.{SummaryId}
use Rattle.fact_rows.specs.declared.context.Node.{Node}
use Rattle.fact_rows.specs.declared.site.Site.{Site}
use Rattle.fact_rows.specs.declared.row.Row.{Row}
use Rattle.fact_rows.specs.declared.row.Row.TheVariants.{Points, CellLabel, Uses}
use Rattle.flow_rules.specs.Rules.{Each}
use Rattle.rule_ground.specs.Given.{of_one, of_four, concludes}
use Rattle.rule_ground.specs.Hits.{Among}
use Rattle.cell_rules.specs.LibraryRules.{LibraryRule, sink_arrives, joined_label, joined_element, source_label, source_element, row_put_label, store_label, copy_label, own_label, held_label}
use Rattle.cell_rules.specs.Making.{made_at}
use Rattle.cell_code_witness.specs.RefusedCalls.{IsOwed, IsRefusedWith, AreOwed, WrongListsOfCallsAreRefused}

-- each of some rows is among them
each_in : (rows others : List Row) → ((row : Row) → In row others → In row rows) → Each (Among rows) others
each_in rows [] h = tt
each_in rows (other ∷ others) h = (h other (inl refl), each_in rows others (λ row i. h row (inr i)))

module _ (app : App) (lists : Lists) where
  owed : (rows : List Row) {rule : ℕ} {x : Row} → LibraryRule app lists rule rows x → IsOwed app lists rows rule x
  owed rows {rule} {x} by row uses given lacks just =
      lacks (just.complete rule rows x (record { by = by; known = each_in rows rows (λ other i. i); uses = uses }))

  are_owed : AreOwed app lists
  are_owed = record {
    arrives = λ r i sink m at leads. owed _ (sink_arrives i sink r m at leads);
    joined = λ r i gives m one at leads goes read. owed _ (joined_label i r gives m one at leads goes read);
    joined_element = λ r i gives m one reference at leads. owed _ (joined_element i r gives m one reference at leads);
    source = λ r gives is one goes read. owed _ (source_label r gives is one goes read);
    source_element = λ r gives is one reference. owed _ (source_element r gives is one reference);
    put = λ r i j m to at. owed _ (row_put_label i j r m to at);
    stored = λ r i g m at. owed _ (store_label i g r m at);
    copied = λ r i j m at to. owed _ (copy_label i j r m at to);
  }

  -- where the label of an element stands that the use of a row alone gives, and where that of a copy
  abbrev IsOfUse : Row → List Row → Type 0
  IsOfUse (CellLabel s k l) (Uses n u ∷ []) = s ≡ made_at app n
  IsOfUse row premises = Unit {0}

  of_use : {rule : ℕ} {premises : List Row} {row : Row} → LibraryRule app lists rule premises row → IsOfUse row premises
  of_use (source_element r gives is one reference) = refl
  of_use (joined_element i r gives m one reference at own_label) = tt
  of_use (joined_element i r gives m one reference at held_label) = tt
  of_use other = tt

  abbrev IsOfCopy : Row → List Row → Type 0
  IsOfCopy (CellLabel w j h) (Uses n u ∷ Points m x s ∷ CellLabel t k l ∷ Points p o v ∷ []) = w ≡ v
  IsOfCopy row premises = Unit {0}

  of_copy : {rule : ℕ} {premises : List Row} {row : Row} → LibraryRule app lists rule premises row → IsOfCopy row premises
  of_copy (copy_label i j r m at to) = refl
  of_copy (joined_element i r gives m one reference at own_label) = tt
  of_copy (joined_element i r gives m one reference at held_label) = tt
  of_copy other = tt

  made_otherwise : {n : Node} {u : SummaryId} {l : ℕ} {s : Site} → s ≢ made_at app n →
      IsRefusedWith app lists (Uses n u ∷ []) n u (concludes 35 (of_one (Uses n u)) (CellLabel s elem_key l) ∷ [])
  made_otherwise {n = n} {u = u} {l = l} {s = s} other just =
      other (of_use (just.sound (concludes 35 (of_one (Uses n u)) (CellLabel s elem_key l)) (inl refl)).by)

  copied_elsewhere : {n : Node} {u : SummaryId} {x o l : ℕ} {s v w : Site} → w ≢ v →
      IsRefusedWith app lists (Uses n u ∷ Points n x s ∷ CellLabel s elem_key l ∷ Points n o v ∷ []) n u
      (concludes 39 (of_four (Uses n u) (Points n x s) (CellLabel s elem_key l) (Points n o v)) (CellLabel w elem_key l) ∷ [])
  copied_elsewhere {n = n} {u = u} {x = x} {o = o} {l = l} {s = s} {v = v} {w = w} other just =
      other (of_copy (just.sound (concludes 39 (of_four (Uses n u) (Points n x s) (CellLabel s elem_key l) (Points n o v)) (CellLabel w elem_key l)) (inl refl)).by)

pub wrong_lists_of_calls_are_refused : WrongListsOfCallsAreRefused
wrong_lists_of_calls_are_refused app lists = (
  are_owed app lists,
  record { made_otherwise = made_otherwise app lists; copied_elsewhere = copied_elsewhere app lists },
)

-- Lists of conclusions that are not what the rules of library calls of the second set give with a row.
use Rattle.std.specs.Prelude.{◌≡◌, ◌≢◌, ℕ, List, [], ◌∷◌, Some}
use Rattle.app_machine.specs.declared.summary.Gives.TheVariants.{Joined}
use Rattle.app_machine.specs.declared.lists.Lists.{Lists}
use Rattle.app_machine.specs.declared.lists.SummaryId.{SummaryId}
use Rattle.app_machine.specs.declared.app.App.{App}
use Rattle.vet_base.specs.Members.{In, IsAt}
use Rattle.app_machine.specs.Lookups.{elem_key}
use Rattle.app_machine.specs.Library.{IsSink}
use Rattle.app_machine.specs.State.{result_register}
use Rattle.fact_rows.specs.declared.context.Node.{Node}
use Rattle.fact_rows.specs.declared.site.Site.{Site}
use Rattle.fact_rows.specs.declared.site.Site.TheVariants.{Shared}
use Rattle.fact_rows.specs.declared.row.Row.{Row}
use Rattle.fact_rows.specs.declared.row.Row.TheVariants.{Points, Label, CellLabel, Arrive, Uses}
use Rattle.flow_rules.specs.LibraryRules.{RowAt, places_of, HasResult, HasReference}
use Rattle.flow_rules.specs.Nodes.{at_pc, GoesOn}
use Rattle.rule_ground.specs.declared.conclusion.Conclusion.{Conclusion}
use Rattle.rule_ground.specs.Exact.{IsJust, IsListed}
use Rattle.rule_ground.specs.Given.{of_one, of_four, concludes}
use Rattle.rule_ground.specs.Hits.{Among}
use Rattle.cell_rules.specs.LibraryRules.{LibraryRule, LeadsFrom}
use Rattle.cell_rules.specs.Making.{made_at}
use Rattle.cell_rules.specs.Reading.{ReadAt}

module _ (app : App) (lists : Lists) where
  -- no list without what the rule gives from these rows is what the rules give with one of them, whichever it is
  abbrev pub IsOwed : List Row → ℕ → Row → Type 0
  IsOwed rows rule x =
      (row : Row) → In row rows → (given : List Conclusion) → (IsListed given rule rows x → ⊥) →
      IsJust (LibraryRule app lists) (Among rows) row given → ⊥

  pub record AreOwed : Type 0 where
    -- what leads from a sink position, the label of its value or one that is reached from an object, arrives
    pub arrives : {n : Node} {u : SummaryId} (r : RowAt app lists n u) {x l : ℕ} {ps : List Row} (i sink : ℕ) →
        IsSink r.row sink i →
        IsAt (places_of r) i x →
        LeadsFrom n x l ps →
        IsOwed (Uses n u ∷ ps) 31 (Arrive l sink n)
    -- what leads from a position comes to a joined result wherever this is read, and where it is of a reference type is an element of it
    pub joined : {n : Node} {u : SummaryId} (r : RowAt app lists n u) {x l pc v : ℕ} {from : List ℕ} {ps : List Row} (i : ℕ) →
        r.row.gives ≡ Joined from →
        In i from →
        HasResult r →
        IsAt (places_of r) i x →
        LeadsFrom n x l ps →
        GoesOn app n pc →
        ReadAt app n.by.method result_register pc v →
        IsOwed (Uses n u ∷ ps) 35 (Label (at_pc n v) result_register l)
    pub joined_element : {n : Node} {u : SummaryId} (r : RowAt app lists n u) {x l : ℕ} {from : List ℕ} {ps : List Row} (i : ℕ) →
        r.row.gives ≡ Joined from →
        In i from →
        HasResult r →
        HasReference r →
        IsAt (places_of r) i x →
        LeadsFrom n x l ps →
        IsOwed (Uses n u ∷ ps) 35 (CellLabel (made_at app n) elem_key l)
    -- and so does the label of a source
    pub source : {n : Node} {u : SummaryId} (r : RowAt app lists n u) {l pc v : ℕ} {from : List ℕ} →
        r.row.gives ≡ Joined from →
        r.row.source ≡ Some l →
        HasResult r →
        GoesOn app n pc →
        ReadAt app n.by.method result_register pc v →
        IsOwed (Uses n u ∷ []) 35 (Label (at_pc n v) result_register l)
    pub source_element : {n : Node} {u : SummaryId} (r : RowAt app lists n u) {l : ℕ} {from : List ℕ} →
        r.row.gives ≡ Joined from →
        r.row.source ≡ Some l →
        HasResult r →
        HasReference r →
        IsOwed (Uses n u ∷ []) 35 (CellLabel (made_at app n) elem_key l)
    -- a put and a store make the label of the value one of the elements, and a copy those of the one object's of the other's
    pub put : {n : Node} {u : SummaryId} (r : RowAt app lists n u) {x o l : ℕ} {s : Site} (i j : ℕ) →
        In (i, j) r.row.puts →
        IsAt (places_of r) j o →
        IsAt (places_of r) i x →
        IsOwed (Uses n u ∷ Points n o s ∷ Label n x l ∷ []) 37 (CellLabel s elem_key l)
    pub stored : {n : Node} {u : SummaryId} (r : RowAt app lists n u) {x l : ℕ} (i g : ℕ) →
        In (i, g) r.row.stores →
        IsAt (places_of r) i x →
        IsOwed (Uses n u ∷ Label n x l ∷ []) 38 (CellLabel (Shared g) elem_key l)
    pub copied : {n : Node} {u : SummaryId} (r : RowAt app lists n u) {x o l : ℕ} {s v : Site} (i j : ℕ) →
        In (i, j) r.row.copies →
        IsAt (places_of r) i x →
        IsAt (places_of r) j o →
        IsOwed (Uses n u ∷ Points n x s ∷ CellLabel s elem_key l ∷ Points n o v ∷ []) 39 (CellLabel v elem_key l)

  -- the list is not what the rules give with the use of the row
  abbrev pub IsRefusedWith : List Row → Node → SummaryId → List Conclusion → Type 0
  IsRefusedWith rows n u given = IsJust (LibraryRule app lists) (Among rows) (Uses n u) given → ⊥

  pub record AreTooMany : Type 0 where
    -- the element of a joined result in another object than that which is made
    pub made_otherwise : {n : Node} {u : SummaryId} {l : ℕ} {s : Site} →
        s ≢ made_at app n →
        IsRefusedWith (Uses n u ∷ []) n u (concludes 35 (of_one (Uses n u)) (CellLabel s elem_key l) ∷ [])
    -- a copy into another object than that which takes it, as into the one that it comes from
    pub copied_elsewhere : {n : Node} {u : SummaryId} {x o l : ℕ} {s v w : Site} →
        w ≢ v →
        IsRefusedWith (Uses n u ∷ Points n x s ∷ CellLabel s elem_key l ∷ Points n o v ∷ []) n u
        (concludes 39 (of_four (Uses n u) (Points n x s) (CellLabel s elem_key l) (Points n o v)) (CellLabel w elem_key l) ∷ [])

abbrev pub WrongListsOfCallsAreRefused : Type 0
WrongListsOfCallsAreRefused = (app : App) (lists : Lists) → AreOwed app lists × AreTooMany app lists

-- Rules 31 to 39: library calls, by the rows that they use.
use Rattle.std.specs.Prelude.{◌≡◌, ℕ, List, [], ◌∷◌, Some}
use Rattle.app_machine.specs.declared.summary.Gives.TheVariants.{Same, Taken, Joined, Shared}
use Rattle.app_machine.specs.declared.lists.Lists.{Lists}
use Rattle.app_machine.specs.declared.lists.SummaryId.{SummaryId}
use Rattle.app_machine.specs.declared.app.App.{App}
use Rattle.vet_base.specs.Members.{In, IsAt}
use Rattle.app_machine.specs.Lookups.{elem_key}
use Rattle.app_machine.specs.State.{result_register}
use Rattle.app_machine.specs.Library.{IsSink}
use Rattle.fact_rows.specs.declared.context.Node.{Node}
use Rattle.fact_rows.specs.declared.site.Site.{Site}
use Rattle.fact_rows.specs.declared.site.Site.TheVariants.{Shared as SharedSite}
use Rattle.fact_rows.specs.declared.row.Row.{Row}
use Rattle.fact_rows.specs.declared.row.Row.TheVariants.{Points, Label, Cell, CellLabel, Holds, Arrive, Uses}
use Rattle.flow_rules.specs.Nodes.{at_pc, GoesOn}
use Rattle.flow_rules.specs.LibraryRules.{RowAt, places_of, HasResult, HasReference}
use Rattle.cell_rules.specs.Making.{made_at}
use Rattle.cell_rules.specs.Reading.{ReadAt}

-- The label leads from the register at the node: it is its value's own, or is reached from an object of its sites.
module _ (n : Node) (x l : ℕ) where
  pub data LeadsFrom : List Row → Type 0 where
    own_label :
        LeadsFrom (Label n x l ∷ [])
    held_label : {s : Site} →
        LeadsFrom (Points n x s ∷ Holds s l ∷ [])

module _ (app : App) (lists : Lists) where
  pub data LibraryRule : ℕ → List Row → Row → Type 0 where
    -- 31. What leads from a sink position arrives.
    sink_arrives : {n : Node} {u : SummaryId} {x l : ℕ} (i sink : ℕ) {ps : List Row} (r : RowAt app lists n u) →
        IsSink r.row sink i →
        IsAt (places_of r) i x →
        LeadsFrom n x l ps →
        LibraryRule 31 (Uses n u ∷ ps) (Arrive l sink n)
    -- 32. The result is the value of the position.
    same_points : {n : Node} {u : SummaryId} {x i pc v : ℕ} {s : Site} (r : RowAt app lists n u) →
        r.row.gives ≡ Same i →
        HasResult r →
        IsAt (places_of r) i x →
        GoesOn app n pc →
        ReadAt app n.by.method result_register pc v →
        LibraryRule 32 (Uses n u ∷ Points n x s ∷ []) (Points (at_pc n v) result_register s)
    same_label : {n : Node} {u : SummaryId} {x i pc l v : ℕ} (r : RowAt app lists n u) →
        r.row.gives ≡ Same i →
        HasResult r →
        IsAt (places_of r) i x →
        GoesOn app n pc →
        ReadAt app n.by.method result_register pc v →
        LibraryRule 32 (Uses n u ∷ Label n x l ∷ []) (Label (at_pc n v) result_register l)
    -- 33. The result is an element of the position's object.
    taken_points : {n : Node} {u : SummaryId} {x i pc v : ℕ} {s t : Site} (r : RowAt app lists n u) →
        r.row.gives ≡ Taken i →
        HasResult r →
        IsAt (places_of r) i x →
        GoesOn app n pc →
        ReadAt app n.by.method result_register pc v →
        LibraryRule 33 (Uses n u ∷ Points n x s ∷ Cell s elem_key t ∷ []) (Points (at_pc n v) result_register t)
    taken_label : {n : Node} {u : SummaryId} {x i pc l v : ℕ} {s : Site} (r : RowAt app lists n u) →
        r.row.gives ≡ Taken i →
        HasResult r →
        IsAt (places_of r) i x →
        GoesOn app n pc →
        ReadAt app n.by.method result_register pc v →
        LibraryRule 33 (Uses n u ∷ Points n x s ∷ CellLabel s elem_key l ∷ []) (Label (at_pc n v) result_register l)
    -- 34. A joined result of a reference type is an object that is made here.
    joined_points : {n : Node} {u : SummaryId} {pc v : ℕ} {from : List ℕ} (r : RowAt app lists n u) →
        r.row.gives ≡ Joined from →
        HasResult r →
        HasReference r →
        GoesOn app n pc →
        ReadAt app n.by.method result_register pc v →
        LibraryRule 34 (Uses n u ∷ []) (Points (at_pc n v) result_register (made_at app n))
    -- 35. A joined result has the labels that lead from its positions and that of the source; of a reference type it also holds
    -- them as an element.
    joined_label : {n : Node} {u : SummaryId} {x pc l v : ℕ} (i : ℕ) {from : List ℕ} {ps : List Row} (r : RowAt app lists n u) →
        r.row.gives ≡ Joined from →
        In i from →
        HasResult r →
        IsAt (places_of r) i x →
        LeadsFrom n x l ps →
        GoesOn app n pc →
        ReadAt app n.by.method result_register pc v →
        LibraryRule 35 (Uses n u ∷ ps) (Label (at_pc n v) result_register l)
    joined_element : {n : Node} {u : SummaryId} {x l : ℕ} (i : ℕ) {from : List ℕ} {ps : List Row} (r : RowAt app lists n u) →
        r.row.gives ≡ Joined from →
        In i from →
        HasResult r →
        HasReference r →
        IsAt (places_of r) i x →
        LeadsFrom n x l ps →
        LibraryRule 35 (Uses n u ∷ ps) (CellLabel (made_at app n) elem_key l)
    source_label : {n : Node} {u : SummaryId} {pc l v : ℕ} {from : List ℕ} (r : RowAt app lists n u) →
        r.row.gives ≡ Joined from →
        r.row.source ≡ Some l →
        HasResult r →
        GoesOn app n pc →
        ReadAt app n.by.method result_register pc v →
        LibraryRule 35 (Uses n u ∷ []) (Label (at_pc n v) result_register l)
    source_element : {n : Node} {u : SummaryId} {l : ℕ} {from : List ℕ} (r : RowAt app lists n u) →
        r.row.gives ≡ Joined from →
        r.row.source ≡ Some l →
        HasResult r →
        HasReference r →
        LibraryRule 35 (Uses n u ∷ []) (CellLabel (made_at app n) elem_key l)
    -- 36. The result is the shared object, which has no labels of its own.
    shared_points : {n : Node} {u : SummaryId} {g pc v : ℕ} (r : RowAt app lists n u) →
        r.row.gives ≡ Shared g →
        HasResult r →
        GoesOn app n pc →
        ReadAt app n.by.method result_register pc v →
        LibraryRule 36 (Uses n u ∷ []) (Points (at_pc n v) result_register (SharedSite g))
    -- 37. A put makes the labels of position i those of an element of the object of position j.
    row_put_label : {n : Node} {u : SummaryId} {x o l : ℕ} (i j : ℕ) {s : Site} (r : RowAt app lists n u) →
        In (i, j) r.row.puts →
        IsAt (places_of r) j o →
        IsAt (places_of r) i x →
        LibraryRule 37 (Uses n u ∷ Points n o s ∷ Label n x l ∷ []) (CellLabel s elem_key l)
    -- 38. A store makes the labels of position i those of an element of the shared object.
    store_label : {n : Node} {u : SummaryId} {x l : ℕ} (i g : ℕ) (r : RowAt app lists n u) →
        In (i, g) r.row.stores →
        IsAt (places_of r) i x →
        LibraryRule 38 (Uses n u ∷ Label n x l ∷ []) (CellLabel (SharedSite g) elem_key l)
    -- 39. A copy makes the labels of the elements of position i's object those of elements of position j's.
    copy_label : {n : Node} {u : SummaryId} {x o l : ℕ} (i j : ℕ) {s v : Site} (r : RowAt app lists n u) →
        In (i, j) r.row.copies →
        IsAt (places_of r) i x →
        IsAt (places_of r) j o →
        LibraryRule 39 (Uses n u ∷ Points n x s ∷ CellLabel s elem_key l ∷ Points n o v ∷ []) (CellLabel v elem_key l)

-- Rules 30 to 39: library calls, by the rows that they use.
use Rattle.std.specs.Prelude.{◌≡◌, ℕ, IsTrue, IsFalse, List, [], ◌∷◌, Some}
use Rattle.access_path.specs.declared.path.Path.{Path}
use Rattle.access_path.specs.Paths.{cut, rest, empty_path}
use Rattle.app_machine.specs.declared.call.MethodRef.{MethodRef}
use Rattle.app_machine.specs.declared.call.CallKind.{CallKind}
use Rattle.app_machine.specs.declared.method.Act.TheVariants.{Call}
use Rattle.app_machine.specs.declared.summary.Gives.TheVariants.{Same, Taken, Joined, Shared}
use Rattle.app_machine.specs.declared.summary.Summary.{Summary}
use Rattle.app_machine.specs.declared.lists.Lists.{Lists}
use Rattle.app_machine.specs.declared.lists.SummaryId.{SummaryId}
use Rattle.app_machine.specs.declared.app.App.{App}
use Rattle.vet_base.specs.Members.{In, IsAt}
use Rattle.app_machine.specs.Names.{is_reference, is_void}
use Rattle.app_machine.specs.Lookups.{elem_key, is_static_call}
use Rattle.app_machine.specs.Summaries.{summary}
use Rattle.app_machine.specs.State.{result_register, shared_static}
use Rattle.app_machine.specs.Library.{positions, IsSink}
use Rattle.fact_rows.specs.declared.context.Node.{Node}
use Rattle.fact_rows.specs.declared.site.Site.{Site}
use Rattle.fact_rows.specs.declared.site.Site.TheVariants.{At, Shared as SharedSite}
use Rattle.fact_rows.specs.declared.row.Row.{Row}
use Rattle.fact_rows.specs.declared.row.Row.TheVariants.{Points, Taint, Cell, StaticPoints, StaticTaint, Effect, Handed, HandedTaint, Arrive, Uses}
use Rattle.flow_rules.specs.Nodes.{at_pc, Acts, GoesOn}

-- The step at the node is a call of which the lists say the row by u.
pub record RowAt (app : App) (lists : Lists) (n : Node) (u : SummaryId) : Type 0 where
  pub kind : CallKind
  pub at : MethodRef
  pub args : List ℕ
  pub row : Summary
  pub act : Acts app n (Call kind at args)
  pub is_row : summary lists u at (is_static_call kind) ≡ Some row

-- the first register of each position of the call, and whether it has a result, and one of a reference type
module _ {app : App} {lists : Lists} {n : Node} {u : SummaryId} (r : RowAt app lists n u) where
  abbrev pub places_of : List ℕ
  places_of = positions r.kind r.at r.args

  abbrev pub HasResult : Type 0
  HasResult = IsFalse (is_void r.at.proto.ret)

  abbrev pub HasReference : Type 0
  HasReference = IsTrue (is_reference r.at.proto.ret)

module _ (app : App) (lists : Lists) where
  pub data LibraryRule : ℕ → List Row → Row → Type 0 where
    -- 30. The objects of all positions are handed to the library.
    hand_points : {n : Node} {u : SummaryId} {x : ℕ} (i : ℕ) {s : Site} (r : RowAt app lists n u) →
        IsAt (places_of r) i x →
        LibraryRule 30 (Uses n u ∷ Points n x s ∷ []) (Handed s)
    hand_taint : {n : Node} {u : SummaryId} {x l : ℕ} (i : ℕ) {s : Site} {p : Path} (r : RowAt app lists n u) →
        IsAt (places_of r) i x →
        LibraryRule 30 (Uses n u ∷ Points n x s ∷ Taint n x p l ∷ []) (HandedTaint s p l)
    -- 31. What leads from a sink position arrives.
    sink_arrives : {n : Node} {u : SummaryId} {x l : ℕ} (i sink : ℕ) {p : Path} (r : RowAt app lists n u) →
        IsSink r.row sink i →
        IsAt (places_of r) i x →
        LibraryRule 31 (Uses n u ∷ Taint n x p l ∷ []) (Arrive l sink n)
    -- 32. The result is the value of the position.
    same_points : {n : Node} {u : SummaryId} {x i pc : ℕ} {s : Site} (r : RowAt app lists n u) →
        r.row.gives ≡ Same i →
        HasResult r →
        IsAt (places_of r) i x →
        GoesOn app n pc →
        LibraryRule 32 (Uses n u ∷ Points n x s ∷ []) (Points (at_pc n pc) result_register s)
    same_taint : {n : Node} {u : SummaryId} {x i pc l : ℕ} {p : Path} (r : RowAt app lists n u) →
        r.row.gives ≡ Same i →
        HasResult r →
        IsAt (places_of r) i x →
        GoesOn app n pc →
        LibraryRule 32 (Uses n u ∷ Taint n x p l ∷ []) (Taint (at_pc n pc) result_register p l)
    -- 33. The result is an element of the position's object.
    taken_points : {n : Node} {u : SummaryId} {x i pc : ℕ} {s t : Site} (r : RowAt app lists n u) →
        r.row.gives ≡ Taken i →
        HasResult r →
        IsAt (places_of r) i x →
        GoesOn app n pc →
        LibraryRule 33 (Uses n u ∷ Points n x s ∷ Cell s elem_key t ∷ []) (Points (at_pc n pc) result_register t)
    taken_taint : {n : Node} {u : SummaryId} {x i pc l : ℕ} {p q : Path} (r : RowAt app lists n u) →
        r.row.gives ≡ Taken i →
        HasResult r →
        IsAt (places_of r) i x →
        rest p elem_key ≡ Some q →
        GoesOn app n pc →
        LibraryRule 33 (Uses n u ∷ Taint n x p l ∷ []) (Taint (at_pc n pc) result_register q l)
    -- 34. A joined result of a reference type is an object that is made here.
    joined_points : {n : Node} {u : SummaryId} {pc : ℕ} {from : List ℕ} (r : RowAt app lists n u) →
        r.row.gives ≡ Joined from →
        HasResult r →
        HasReference r →
        GoesOn app n pc →
        LibraryRule 34 (Uses n u ∷ []) (Points (at_pc n pc) result_register (At n))
    -- 35. A joined result has the labels that lead from its positions and that of the source; of a reference type it also holds
    -- them as an element.
    joined_taint : {n : Node} {u : SummaryId} {x pc l : ℕ} (i : ℕ) {from : List ℕ} {p : Path} (r : RowAt app lists n u) →
        r.row.gives ≡ Joined from →
        In i from →
        HasResult r →
        IsAt (places_of r) i x →
        GoesOn app n pc →
        LibraryRule 35 (Uses n u ∷ Taint n x p l ∷ []) (Taint (at_pc n pc) result_register empty_path l)
    joined_element : {n : Node} {u : SummaryId} {x pc l : ℕ} (i : ℕ) {from : List ℕ} {p : Path} (r : RowAt app lists n u) →
        r.row.gives ≡ Joined from →
        In i from →
        HasResult r →
        HasReference r →
        IsAt (places_of r) i x →
        GoesOn app n pc →
        LibraryRule 35 (Uses n u ∷ Taint n x p l ∷ []) (Taint (at_pc n pc) result_register (cut elem_key empty_path) l)
    source_taint : {n : Node} {u : SummaryId} {pc l : ℕ} {from : List ℕ} (r : RowAt app lists n u) →
        r.row.gives ≡ Joined from →
        r.row.source ≡ Some l →
        HasResult r →
        GoesOn app n pc →
        LibraryRule 35 (Uses n u ∷ []) (Taint (at_pc n pc) result_register empty_path l)
    source_element : {n : Node} {u : SummaryId} {pc l : ℕ} {from : List ℕ} (r : RowAt app lists n u) →
        r.row.gives ≡ Joined from →
        r.row.source ≡ Some l →
        HasResult r →
        HasReference r →
        GoesOn app n pc →
        LibraryRule 35 (Uses n u ∷ []) (Taint (at_pc n pc) result_register (cut elem_key empty_path) l)
    -- 36. The result is the shared object.
    shared_static_points : {n : Node} {u : SummaryId} {g : ℕ} (r : RowAt app lists n u) →
        r.row.gives ≡ Shared g →
        HasResult r →
        LibraryRule 36 (Uses n u ∷ []) (StaticPoints (shared_static app g) (SharedSite g))
    shared_points : {n : Node} {u : SummaryId} {g pc : ℕ} (r : RowAt app lists n u) →
        r.row.gives ≡ Shared g →
        HasResult r →
        GoesOn app n pc →
        LibraryRule 36 (Uses n u ∷ []) (Points (at_pc n pc) result_register (SharedSite g))
    shared_taint : {n : Node} {u : SummaryId} {g pc l : ℕ} {p : Path} (r : RowAt app lists n u) →
        r.row.gives ≡ Shared g →
        HasResult r →
        GoesOn app n pc →
        LibraryRule 36 (Uses n u ∷ StaticTaint (shared_static app g) p l ∷ []) (Taint (at_pc n pc) result_register p l)
    -- 37. A put makes the value of position i an element of the object of position j.
    row_put_cell : {n : Node} {u : SummaryId} {x o : ℕ} (i j : ℕ) {s t : Site} (r : RowAt app lists n u) →
        In (i, j) r.row.puts →
        IsAt (places_of r) j o →
        IsAt (places_of r) i x →
        LibraryRule 37 (Uses n u ∷ Points n o s ∷ Points n x t ∷ []) (Cell s elem_key t)
    row_put_effect : {n : Node} {u : SummaryId} {x o l : ℕ} (i j : ℕ) {s : Site} {p : Path} (r : RowAt app lists n u) →
        In (i, j) r.row.puts →
        IsAt (places_of r) j o →
        IsAt (places_of r) i x →
        LibraryRule 37 (Uses n u ∷ Points n o s ∷ Taint n x p l ∷ []) (Effect n s (cut elem_key p) l)
    -- 38. A store makes the value of position i an element of the shared object.
    store_static : {n : Node} {u : SummaryId} (i g : ℕ) (r : RowAt app lists n u) →
        In (i, g) r.row.stores →
        LibraryRule 38 (Uses n u ∷ []) (StaticPoints (shared_static app g) (SharedSite g))
    store_cell : {n : Node} {u : SummaryId} {x : ℕ} (i g : ℕ) {t : Site} (r : RowAt app lists n u) →
        In (i, g) r.row.stores →
        IsAt (places_of r) i x →
        LibraryRule 38 (Uses n u ∷ Points n x t ∷ []) (Cell (SharedSite g) elem_key t)
    store_effect : {n : Node} {u : SummaryId} {x l : ℕ} (i g : ℕ) {p : Path} (r : RowAt app lists n u) →
        In (i, g) r.row.stores →
        IsAt (places_of r) i x →
        LibraryRule 38 (Uses n u ∷ Taint n x p l ∷ []) (Effect n (SharedSite g) (cut elem_key p) l)
    -- 39. A copy makes the elements of position i's object elements of position j's.
    copy_cell : {n : Node} {u : SummaryId} {x o : ℕ} (i j : ℕ) {s t v : Site} (r : RowAt app lists n u) →
        In (i, j) r.row.copies →
        IsAt (places_of r) i x →
        IsAt (places_of r) j o →
        LibraryRule 39 (Uses n u ∷ Points n x s ∷ Cell s elem_key t ∷ Points n o v ∷ []) (Cell v elem_key t)
    copy_effect : {n : Node} {u : SummaryId} {x o l : ℕ} (i j : ℕ) {v : Site} {p q : Path} (r : RowAt app lists n u) →
        In (i, j) r.row.copies →
        IsAt (places_of r) i x →
        IsAt (places_of r) j o →
        rest p elem_key ≡ Some q →
        LibraryRule 39 (Uses n u ∷ Taint n x p l ∷ Points n o v ∷ []) (Effect n v (cut elem_key q) l)

-- How a row of each kind is read: the fields of `parts_of`, in their order.
use Rattle.std.specs.Prelude.{ℕ, ◌-◌, ◌&&◌, false, List, [], nat_lt, nat_le, slice_index_or, if◌then◌else◌, ◌==◌}
use Rattle.vet_base.specs.Script.{Value, Test, ◌>>=◌, test}
use Rattle.vet_base.specs.declared.key_id.KeyId.{KeyId}
use Rattle.access_path.specs.declared.path.Path.{Path}
use Rattle.app_machine.specs.declared.lists.SummaryId.{SummaryId}
use Rattle.app_machine.specs.declared.lists.SummaryId.TheVariants as use_of
use Rattle.fact_rows.specs.declared.kind.Kind.{Kind}
use Rattle.fact_rows.specs.declared.kind.Kind.TheVariants as kind
use Rattle.fact_rows.specs.declared.row.Row.{Row}
use Rattle.fact_rows.specs.declared.row.Row.TheVariants as row
use Rattle.cert_rows.specs.declared.fault.RowFault.TheVariants.{Bad}
use Rattle.cert_rows.specs.declared.kinds.TheConstants.{KINDS}
use Rattle.cert_rows.specs.declared.sets.Set.{Set}
use Rattle.cert_rows.specs.Parts.{key, site_from, path_from}
use Rattle.cert_rows.specs.Reading.{From, with, of_paths, of_cells, byte_from, u4_from, activation_from, node_from}

abbrev pub key_from : List ℕ → From KeyId
key_from bytes = with key (u4_from bytes)

-- returned (0) or thrown (1)
unfoldable pub exit_from : List ℕ → From ℕ
exit_from bytes = do
  how ← byte_from bytes
  _ ← test (nat_lt how.0 2) Bad
  Value how

-- no summary (1), native (2) or reflective (3)
unfoldable pub cause_from : List ℕ → From ℕ
cause_from bytes = do
  cause ← byte_from bytes
  _ ← test (nat_lt 0 cause.0 && nat_lt cause.0 4) Bad
  Value cause

unfoldable pub use_of_kind : ℕ → List ℕ → From SummaryId
use_of_kind kind bytes =
    if kind == 0 then with use_of.Row (u4_from bytes) else
    if kind == 1 then with use_of.Fallback (u4_from bytes) else
    Test false Bad (Value (use_of.Row 0, []))

unfoldable pub use_from : List ℕ → From SummaryId
use_from bytes = do
  kind ← byte_from bytes
  use_of_kind kind.0 kind.1

-- a path and its label
unfoldable pub labelled_from : List ℕ → From (Path × ℕ)
labelled_from bytes = do
  path ← path_from bytes
  label ← byte_from path.1
  Value ((path.0, label.0), label.1)

-- some fields one behind the other, made into something
abbrev pub one : {A X : Type 0} → (List ℕ → From A) → (A → X) → List ℕ → From X
one a make bytes = do
  x ← a bytes
  Value (make x.0, x.1)

abbrev pub two : {A B X : Type 0} → (List ℕ → From A) → (List ℕ → From B) → (A → B → X) → List ℕ → From X
two a b make bytes = do
  x ← a bytes
  y ← b x.1
  Value (make x.0 y.0, y.1)

abbrev pub three : {A B C X : Type 0} → (List ℕ → From A) → (List ℕ → From B) → (List ℕ → From C) → (A → B → C → X) → List ℕ → From X
three a b c make bytes = do
  x ← a bytes
  y ← b x.1
  z ← c y.1
  Value (make x.0 y.0 z.0, z.1)

-- The fields of a row of the kind. Rows that say labels along paths are of the first set, and those that say labels of values of the
-- second.
unfoldable pub row_of : Set → Kind → List ℕ → From Row
row_of set kind.Reached bytes = one node_from row.Reached bytes
row_of set kind.Points bytes = three node_from u4_from (site_from set) row.Points bytes
row_of set kind.Taint bytes = of_paths set (three node_from u4_from labelled_from (λ n register t. row.Taint n register t.0 t.1) bytes)
row_of set kind.Cell bytes = three (site_from set) key_from (site_from set) row.Cell bytes
row_of set kind.Back bytes = three (site_from set) key_from (site_from set) row.Back bytes
row_of set kind.StaticPoints bytes = two u4_from (site_from set) row.StaticPoints bytes
row_of set kind.StaticTaint bytes = of_paths set (two u4_from labelled_from (λ g t. row.StaticTaint g t.0 t.1) bytes)
row_of set kind.Calls bytes = two node_from activation_from row.Calls bytes
row_of set kind.CalledBy bytes = two activation_from node_from row.CalledBy bytes
row_of set kind.Effect bytes = of_paths set (three node_from (site_from set) labelled_from (λ n s t. row.Effect n s t.0 t.1) bytes)
row_of set kind.MethodEffect bytes = of_paths set (three activation_from (site_from set) labelled_from (λ a s t. row.MethodEffect a s t.0 t.1) bytes)
row_of set kind.ExitPoints bytes = three activation_from exit_from (site_from set) row.ExitPoints bytes
row_of set kind.ExitTaint bytes = of_paths set (three activation_from exit_from labelled_from (λ a how t. row.ExitTaint a how t.0 t.1) bytes)
row_of set kind.Live bytes = two u4_from byte_from row.Live bytes
row_of set kind.CompTaint bytes = of_paths set (three u4_from byte_from labelled_from (λ c state t. row.CompTaint c state t.0 t.1) bytes)
row_of set kind.Handed bytes = one (site_from set) row.Handed bytes
row_of set kind.HandedTaint bytes = of_paths set (two (site_from set) labelled_from (λ s t. row.HandedTaint s t.0 t.1) bytes)
row_of set kind.Arrive bytes = three byte_from byte_from node_from row.Arrive bytes
row_of set kind.Unknown bytes = two node_from cause_from row.Unknown bytes
row_of set kind.Uses bytes = two node_from use_from row.Uses bytes
row_of set kind.Label bytes = of_cells set (three node_from u4_from byte_from row.Label bytes)
row_of set kind.StaticLabel bytes = of_cells set (two u4_from byte_from row.StaticLabel bytes)
row_of set kind.CellLabel bytes = of_cells set (three (site_from set) key_from byte_from row.CellLabel bytes)
row_of set kind.Holds bytes = of_cells set (two (site_from set) byte_from row.Holds bytes)
row_of set kind.ExitLabel bytes = of_cells set (three activation_from exit_from byte_from row.ExitLabel bytes)

-- the kind of the number, which is from 1 to 25
unfoldable pub kind_at : ℕ → Kind
kind_at number = slice_index_or KINDS (number - 1) kind.Reached

unfoldable pub kind_from : List ℕ → From Kind
kind_from bytes = do
  number ← byte_from bytes
  _ ← test (nat_lt 0 number.0 && nat_le number.0 25) Bad
  Value (kind_at number.0, number.1)

-- the row that the bytes begin with
unfoldable pub row_from : Set → List ℕ → From Row
row_from set bytes = do
  kind ← kind_from bytes
  row_of set kind.0 kind.1

-- The parts of a row.
use Rattle.std.specs.Prelude.{[], ◌∷◌}
use Rattle.std.specs.Ordering.{ordering_then}
use Rattle.std.specs.declared.cmp.Ordering.{Ordering}
use Rattle.fact_rows.specs.declared.row.Row.{Row}
use Rattle.fact_rows.specs.declared.row.Row.TheVariants.{Reached, Points, Taint, Cell, Back, StaticPoints, StaticTaint, Calls, CalledBy, Effect, MethodEffect, ExitPoints, ExitTaint, Live, CompTaint, Handed, HandedTaint, Arrive, Unknown, Uses, Label, StaticLabel, CellLabel, Holds, ExitLabel}
use Rattle.fact_rows.specs.declared.field.Field.TheVariants as f
use Rattle.fact_rows.specs.declared.kind.Kind.TheVariants as kind
use Rattle.fact_rows.specs.declared.parts.Parts.{Parts}
use Rattle.fact_rows.specs.contracts.kind.KindOrd.TheImpl.{ghosts as kind_order}
use Rattle.fact_rows.specs.Fields.{front_cmp}

-- The kind of a row and its fields, each by what it names. What the fields of a kind are is said here alone.
abbrev pub parts_of : Row → Parts
parts_of (Reached n) = record { kind = kind.Reached; fields = f.Node n ∷ [] }
parts_of (Points n r s) = record { kind = kind.Points; fields = f.Node n ∷ f.Register n r ∷ f.Site s ∷ [] }
parts_of (Taint n r p l) = record { kind = kind.Taint; fields = f.Node n ∷ f.Register n r ∷ f.Path p ∷ f.Category l ∷ [] }
parts_of (Cell s k t) = record { kind = kind.Cell; fields = f.Site s ∷ f.Key k ∷ f.Site t ∷ [] }
parts_of (Back t k s) = record { kind = kind.Back; fields = f.Site t ∷ f.Key k ∷ f.Site s ∷ [] }
parts_of (StaticPoints g s) = record { kind = kind.StaticPoints; fields = f.Static g ∷ f.Site s ∷ [] }
parts_of (StaticTaint g p l) = record { kind = kind.StaticTaint; fields = f.Static g ∷ f.Path p ∷ f.Category l ∷ [] }
parts_of (Calls n b) = record { kind = kind.Calls; fields = f.Node n ∷ f.Activation b ∷ [] }
parts_of (CalledBy b n) = record { kind = kind.CalledBy; fields = f.Activation b ∷ f.Node n ∷ [] }
parts_of (Effect n s p l) = record { kind = kind.Effect; fields = f.Node n ∷ f.Site s ∷ f.Path p ∷ f.Category l ∷ [] }
parts_of (MethodEffect a s p l) = record { kind = kind.MethodEffect; fields = f.Activation a ∷ f.Site s ∷ f.Path p ∷ f.Category l ∷ [] }
parts_of (ExitPoints a how s) = record { kind = kind.ExitPoints; fields = f.Activation a ∷ f.Exit how ∷ f.Site s ∷ [] }
parts_of (ExitTaint a how p l) = record { kind = kind.ExitTaint; fields = f.Activation a ∷ f.Exit how ∷ f.Path p ∷ f.Category l ∷ [] }
parts_of (Live c state) = record { kind = kind.Live; fields = f.Component c ∷ f.State c state ∷ [] }
parts_of (CompTaint c state p l) = record { kind = kind.CompTaint; fields = f.Component c ∷ f.State c state ∷ f.Path p ∷ f.Category l ∷ [] }
parts_of (Handed s) = record { kind = kind.Handed; fields = f.Site s ∷ [] }
parts_of (HandedTaint s p l) = record { kind = kind.HandedTaint; fields = f.Site s ∷ f.Path p ∷ f.Category l ∷ [] }
parts_of (Arrive l sink n) = record { kind = kind.Arrive; fields = f.Category l ∷ f.Category sink ∷ f.Node n ∷ [] }
parts_of (Unknown n cause) = record { kind = kind.Unknown; fields = f.Node n ∷ f.Cause cause ∷ [] }
parts_of (Uses n u) = record { kind = kind.Uses; fields = f.Node n ∷ f.Use u ∷ [] }
parts_of (Label n r l) = record { kind = kind.Label; fields = f.Node n ∷ f.Register n r ∷ f.Label l ∷ [] }
parts_of (StaticLabel g l) = record { kind = kind.StaticLabel; fields = f.Static g ∷ f.Label l ∷ [] }
parts_of (CellLabel s k l) = record { kind = kind.CellLabel; fields = f.Site s ∷ f.Key k ∷ f.Label l ∷ [] }
parts_of (Holds s l) = record { kind = kind.Holds; fields = f.Site s ∷ f.Label l ∷ [] }
parts_of (ExitLabel a how l) = record { kind = kind.ExitLabel; fields = f.Activation a ∷ f.Exit how ∷ f.Label l ∷ [] }

-- how the row stands to the rows of the kind that begin with these fields
abbrev pub side_of : Parts → Row → Ordering
side_of head row = let parts = parts_of row in ordering_then (kind_order.cmp parts.kind head.kind) (front_cmp parts.fields head.fields)

use Rattle.std.proofs.Common.{slice_get, sym, ap, ◌∙◌, List, arith}
use Rattle.fact_rows.specs.declared.row.Row.{Row}
use Rattle.app_rows.proofs.Starting.{row_here, no_row}
use Rattle.app_rows.proofs.starts.StartRows.row.Goals as goal

pub returns-then-place-self : goal.returns-then-place-self
returns-then-place-self c = sym (row_here c.self.inside.count c.args.place c.if-place-self.true) ∙ ap (λ (rows : List Row). slice_get rows c.args.place) c.self.view_is

pub returns-else-place-self : goal.returns-else-place-self
returns-else-place-self c = sym (no_row 0 c.self.inside.count c.args.place (omega arith)) ∙ ap (λ (rows : List Row). slice_get rows c.args.place) c.self.view_is

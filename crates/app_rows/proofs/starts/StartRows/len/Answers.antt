use Rattle.std.proofs.Common.{length, sym, ap, ◌∙◌, List}
use Rattle.fact_rows.specs.declared.row.Row.{Row}
use Rattle.app_rows.proofs.Starting.{as_many}
use Rattle.app_rows.proofs.starts.StartRows.len.Goals as goal

pub returns : goal.returns
returns c = sym (as_many 0 c.self.inside.count) ∙ ap (λ (rows : List Row). length rows) c.self.view_is

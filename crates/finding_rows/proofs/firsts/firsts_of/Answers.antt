use Rattle.std.proofs.Common.{◌≡◌, List, subst}
use Rattle.std.specs.Prelude.{IfOk}
use Rattle.fact_rows.specs.declared.row.Row.{Row}
use Rattle.outcomes.specs.Spots.{Found}
use Rattle.finding_rows.proofs.Told.{firsts_as}
use Rattle.finding_rows.proofs.firsts.firsts_of.Goals as goal

pub returns : goal.returns
returns c =
    let P : List (Found × Row) → Type 0 = λ es. IfOk c.firsts_by.result (λ m. m.entries ≡ es) in
    let same = firsts_as c.args.lists.now c.args.declaration.now c.args.rows.now c.in_ok-declared.declared.keys c.in_ok-pairs_in.field-0.items c.in_ok-declared.ensures c.in_ok-pairs_in.ensures in
    subst P same c.firsts_by.ensures

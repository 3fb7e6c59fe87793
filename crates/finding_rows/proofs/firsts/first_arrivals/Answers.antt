use Rattle.std.proofs.Common.{◌≡◌, List, Result, Ok, Err, sym, ap, subst}
use Rattle.std.specs.Prelude.{IfOk, Vec}
use Rattle.std.specs.Map.{values_of}
use Rattle.std.specs.declared.alloc.Global.{Global}
use Rattle.fact_rows.specs.declared.row.Row.{Row}
use Rattle.outcomes.specs.Findings.{findings_of}
use Rattle.finding_rows.specs.Arrivals.{AreFirstArrivals}
use Rattle.finding_rows.proofs.Told.{are_first}
use Rattle.finding_rows.proofs.firsts.first_arrivals.Goals as goal

rows_told : {E : Type 0} (r : Result (Vec Row Global) E) (due : List Row) (P : List Row → Type 0) → IfOk r (λ v. v.items ≡ due) → P due → IfOk r (λ v. P v.items)
rows_told (Ok v) due P same is = subst P (sym same) is
rows_told (Err e) due P same is = tt

pub returns : goal.returns
returns c =
    let app = c.args.app.now in
    let lists = c.args.lists.now in
    let declaration = c.args.declaration.now in
    let rows = c.args.rows.now in
    let P : List Row → Type 0 = AreFirstArrivals app lists declaration rows (findings_of app lists declaration rows) in
    let first = are_first app lists declaration c.requires.sound rows c.requires.within in
    rows_told c.rows_in.result (values_of c.in_ok-firsts.firsts.entries) P c.rows_in.ensures (subst P (sym (ap values_of c.in_ok-firsts.ensures)) first)

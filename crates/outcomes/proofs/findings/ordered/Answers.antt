use Rattle.std.proofs.Common.{◌≡◌, List, ◌∙◌, subst}
use Rattle.std.specs.Prelude.{IfOk}
use Rattle.outcomes.specs.Ascending.{ascending}
use Rattle.outcomes.specs.Spots.{Found, found_order}
use Rattle.outcomes.proofs.Found.{undeclared_as}
use Rattle.outcomes.proofs.findings.ordered.Goals as goal

pub returns : goal.returns
returns c =
    let P : List Found → Type 0 = λ found. IfOk c.ascending_of.result (λ v. v.items ≡ ascending found_order found) in
    let same = undeclared_as c.args.lists.now c.args.declaration.now c.args.rows.now c.in_ok-declared.declared.keys c.in_ok-pairs_in.field-0.items c.in_ok-declared.ensures c.in_ok-pairs_in.ensures in
    subst P (c.in_ok-undeclared_in.ensures ∙ same) c.ascending_of.ensures

use Rattle.std.proofs.Common.{◌≡◌, List, map, ◌∙◌, ap, subst}
use Rattle.std.specs.Prelude.{IfOk}
use Rattle.outcomes.specs.Ascending.{ascending}
use Rattle.outcomes.specs.Causes.{named_cause}
use Rattle.outcomes.specs.Spots.{Spot, at_spot, spot_order}
use Rattle.outcomes.proofs.causes.causes_by.Goals as goal

pub returns : goal.returns
returns c =
    let P : List Spot → Type 0 = λ spots. IfOk c.causes_at.result (λ v. v.items ≡ map (λ spot. named_cause c.args.cause (at_spot c.args.app.now spot)) spots) in
    subst P (c.in_ok-spots.ensures ∙ ap (ascending spot_order) c.in_ok-unknown_spots.ensures) (rw c.deref.ensures.value at c.causes_at.ensures)

use Rattle.std.proofs.Common.{◌≡◌, ◌+◌, length, ap, arith}
use Rattle.runner_begin.specs.Parameters.{value_at}
use Rattle.runner_begin.proofs.Picked.{plans_more}
use Rattle.runner_begin.proofs.picking.plan.Goals as goal
use Rattle.runner_state.specs.Shown.{labels_of}

pub returns-clause-value : goal.returns-clause-value
returns-clause-value c =
    let same : c.in_ok-place.place ≡ c.args.next + length c.args.fresh.now.items = omega (arith, c.in_ok-place.ensures) in
    ap (λ p. value_at p (labels_of c.args.labels)) same

pub returns-clause-planned : goal.returns-clause-planned
returns-clause-planned c = λ heap. plans_more heap c.args.fresh.now.items c.push.new.self.items (record { class = c.args.kind; labels = c.args.labels }) c.in_ok-push.ensures.items

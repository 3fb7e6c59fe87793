use Rattle.std.proofs.Common.{subst, arith, ◌≡◌, true, false}
use Rattle.sorted_table.specs.Between.{Between}
use Rattle.sorted_table.specs.Bounds.{counted}
use Rattle.sorted_table.proofs.Counting.{Is, bound_from_ends, steady}
use Rattle.sorted_table.proofs.bound.bound.Goals as goal

pub returns : goal.returns
returns g c =
    let test = counted (g.S.Stretch.side c.args.stretch.now) c.args.inside in
    let same : c.loop-low.high ≡ c.loop-low.low = omega (arith, c.loop-low.invariant.order) in
    bound_from_ends g.met.T.Ord.total test (steady (g.met.S.Stretch.rises c.args.stretch.now) c.args.inside) c.args.rows.now c.requires c.loop-low.low
    (subst (λ z. Between (Is test true) (Is test false) c.args.rows.now c.loop-low.low z) same c.loop-low.invariant)

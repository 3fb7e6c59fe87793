use Rattle.std.proofs.Common.{◌≡◌, ℕ, subst, arith}
use Rattle.runner_handed.specs.Reached.{AreEmpty}
use Rattle.runner_handed.proofs.Rows.{no_rows, one_row}
use Rattle.runner_handed.proofs.adding.empty_rows.Goals as goal

pub loop-row-init : goal.loop-row-init
loop-row-init c = no_rows c.new-rows.result.items c.new-rows.ensures.items

pub loop-row-preserved : goal.loop-row-preserved
loop-row-preserved c = one_row c.loop-row._row c.loop-row.rows.items c.push.new.self.items c.new.result c.new.ensures.items c.in_ok-push.ensures.items c.loop-row.invariant

pub returns : goal.returns
returns c =
    let same : c.loop-row._row ≡ c.args.count = omega arith in
    subst (λ (n : ℕ). AreEmpty n c.loop-row.rows.items) same c.loop-row.invariant

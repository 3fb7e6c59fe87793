use Rattle.std.proofs.Common.{arith, rules, ◌≡◌, take, subst}
use Rattle.std.proofs.lemmas.List.{take_all}
use Rattle.app_flow.specs.Defect.{SameRows}
use Rattle.app_flow.proofs.Defecting.{one_more}
use Rattle.app_flow.proofs.defect.with_keys.Goals as goal

pub loop-row-preserved : goal.loop-row-preserved
loop-row-preserved c =
    one_more c.args.rows.now c.loop-row.row-index _ c.loop-row.keyed c.insert.new.self c.in_ok-insert.field-0 c.loop-row-test.true (search rules) c.in_ok-insert.ensures.ok c.loop-row.invariant

pub returns : goal.returns
returns c =
    let all : take c.loop-row.row-index c.args.rows.now ≡ c.args.rows.now = take_all c.loop-row.row-index c.args.rows.now (omega (arith, c.loop-row-test.false)) in
    subst (SameRows c.loop-row.keyed) all c.loop-row.invariant

use Rattle.std.proofs.Common.{arith, rules, ◌≡◌, take, subst}
use Rattle.std.proofs.lemmas.List.{take_all}
use Rattle.flow_trail.specs.Trails.{AreSame}
use Rattle.story_finder.proofs.Keys.{one_keyed}
use Rattle.story_finder.proofs.finding.keyed.Goals as goal

pub loop-row-preserved : goal.loop-row-preserved
loop-row-preserved c =
    one_keyed c.args.table.now c.loop-row.row-index _ c.loop-row.rows c.insert.new.self c.in_ok-insert.field-0 c.loop-row-test.true (search rules) c.in_ok-insert.ensures.ok c.loop-row.invariant

pub returns : goal.returns
returns c =
    let all : take c.loop-row.row-index c.args.table.now ≡ c.args.table.now = take_all c.loop-row.row-index c.args.table.now (omega (arith, c.loop-row-test.false)) in
    subst (AreSame c.loop-row.rows) all c.loop-row.invariant

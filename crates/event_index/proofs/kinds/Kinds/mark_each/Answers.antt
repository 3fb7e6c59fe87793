use Rattle.std.proofs.Common.{subst}
use Rattle.app_machine.specs.Names.{same_name}
use Rattle.event_index.specs.Kinds.{Adds}
use Rattle.event_index.proofs.Rows.{adds_none_of, adds_one_of}
use Rattle.event_index.proofs.kinds.Kinds.mark_each.Goals as goal

pub loop-name-init : goal.loop-name-init
loop-name-init c = adds_none_of c.args.self.now c.args.row.now c.args.names.now

pub loop-name-preserved : goal.loop-name-preserved
loop-name-preserved c =
    adds_one_of c.args.self.now c.args.row.now c.loop-name.row c.mark.new.row c.args.names.now c.loop-name.name-index _ c.loop-name-test.true c.name-item.is c.loop-name.invariant
    (subst (λ n. Adds c.args.self.now c.loop-name.row c.mark.new.row (same_name n)) c.as_bytes.ensures c.mark.ensures)

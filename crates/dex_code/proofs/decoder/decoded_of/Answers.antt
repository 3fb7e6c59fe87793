use Rattle.dex_code.proofs.Standing.{lines_stand, ascend}
use Rattle.dex_code.proofs.decoder.decoded_of.Goals as goal

pub check_listed-requires-clause-order : goal.check_listed-requires-clause-order
check_listed-requires-clause-order c = rw c.deref.ensures.value (ascend _ _ 0 _ (lines_stand c.args.code.now c.args.counts.now _ _ c.in_ok-lines.ensures))

pub check_handled-requires-clause-order : goal.check_handled-requires-clause-order
check_handled-requires-clause-order c = rw c.deref-2.ensures.value (ascend _ _ 0 _ (lines_stand c.args.code.now c.args.counts.now _ _ c.in_ok-lines.ensures))

pub check_flows-requires : goal.check_flows-requires
check_flows-requires c = rw c.deref-3.ensures.value (ascend _ _ 0 _ (lines_stand c.args.code.now c.args.counts.now _ _ c.in_ok-lines.ensures))

pub check_tries-requires-clause-order : goal.check_tries-requires-clause-order
check_tries-requires-clause-order c = rw c.deref-4.ensures.value (ascend _ _ 0 _ (lines_stand c.args.code.now c.args.counts.now _ _ c.in_ok-lines.ensures))

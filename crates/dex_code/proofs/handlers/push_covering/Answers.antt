use Rattle.std.proofs.Common.{sym}
use Rattle.std.proofs.lemmas.List.{append-nil}
use Rattle.dex_code.specs.Next.{covering}
use Rattle.dex_code.proofs.Covering.{covering_more}
use Rattle.dex_code.proofs.handlers.push_covering.Goals as goal

pub loop-item-init : goal.loop-item-init
unfolding covering
loop-item-init c = sym (append-nil c.args.found.now.items)

pub loop-item-preserved : goal.loop-item-preserved
loop-item-preserved c = covering_more _ _ _ _ c.args.pc _ _ c.loop-item-test.true c.item-item.is c.loop-item.invariant c.in_ok-push_covered.ensures

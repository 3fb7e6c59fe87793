use Rattle.std.proofs.Common.{rules}
use Rattle.vet_base.specs.Script.{run, Fails}
use Rattle.vet_base.proofs.Scripts.{walk_begins, walk_goes_on_at, walk_fails_at, walk_is_done}
use Rattle.dex_bodies.specs.Tries.{joined_at}
use Rattle.dex_bodies.proofs.tries.joined_of.Goals as goal

pub loop-item-init : goal.loop-item-init
unfolding joined_at
loop-item-init c = rw c.in_ok-tries.ensures.items (walk_begins _ _ _)

pub returns-in_err-found : goal.returns-in_err-found
returns-in_err-found c =
    let stopped : Fails c.in_err-found.field-0.0 (run (joined_at c.args.list.handlers.now c.args.list.begin c.args.code c.args.items.now c.args.begin)) =
    walk_fails_at _ _ _ _ _ _ _ _ c.loop-item-test.true c.in_err-found.ensures c.loop-item.invariant in
    search rules

pub loop-item-preserved : goal.loop-item-preserved
loop-item-preserved c = rw c.in_ok-push.ensures.items (walk_goes_on_at _ _ _ _ _ _ _ _ _ c.loop-item-test.true c.in_ok-found.ensures c.loop-item.invariant)

pub returns : goal.returns
returns c = rw c.in_ok-tries-2.ensures (walk_is_done _ _ _ _ _ _ c.loop-item-test.false c.loop-item.invariant)

use Rattle.std.proofs.Common.{subst}
use Rattle.event_index.specs.Kinds.{IsColumn}
use Rattle.event_index.proofs.Listing.{no_columns, one_column}
use Rattle.event_index.proofs.comings.columns_of.Goals as goal

pub loop-callback-init : goal.loop-callback-init
loop-callback-init c = rw c.new-columns.ensures.items (no_columns c.args.kinds.now c.args.callbacks.now)

pub loop-callback-preserved : goal.loop-callback-preserved
loop-callback-preserved c =
    rw c.in_ok-push.ensures.items (one_column c.args.kinds.now c.args.callbacks.now c.loop-callback.columns.items c.loop-callback.callback-index _ c.column.result c.loop-callback-test.true c.callback-item.is
    (subst (λ n. IsColumn c.args.kinds.now n c.column.result) c.as_bytes.ensures c.column.ensures) c.loop-callback.invariant)

pub returns : goal.returns
returns c = c.loop-callback.invariant.has

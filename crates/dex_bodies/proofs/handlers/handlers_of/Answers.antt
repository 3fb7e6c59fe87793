use Rattle.std.proofs.Common.{rules}
use Rattle.vet_base.specs.Script.{run, Fails}
use Rattle.vet_base.proofs.Repeats.{repeat_begins, repeat_goes_on, repeat_fails, repeat_is_done}
use Rattle.dex_bodies.specs.Handlers.{handler_rows_at}
use Rattle.dex_bodies.proofs.RisingHandlers.{none_rise, rising_push}
use Rattle.dex_bodies.proofs.handlers.handlers_of.Goals as goal

pub loop-init : goal.loop-init
unfolding handler_rows_at
loop-init c = record {
  rising = rw c.new-handlers.ensures.items (none_rise _);
  rows = rw c.new-handlers.ensures.items (repeat_begins _ _ _);
}

pub returns-in_err-handler-clause-value : goal.returns-in_err-handler-clause-value
returns-in_err-handler-clause-value c =
    let stopped : Fails c.in_err-handler.field-0.0 (run (handler_rows_at c.args.file.now c.args.types c.args.code c.args.count c.args.begin)) =
    repeat_fails _ _ _ _ _ _ _ c.loop-test.true c.in_err-handler.ensures.value c.loop.invariant.rows in
    search rules

pub loop-preserved : goal.loop-preserved
loop-preserved c = record {
  rising = rw c.in_ok-push.ensures.items (rising_push _ _ _ _ c.loop.invariant.rising c.in_ok-handler.ensures.begin c.in_ok-handler.ensures.forward);
  rows = rw c.in_ok-push.ensures.items (repeat_goes_on _ _ _ _ _ _ _ _ c.loop-test.true c.in_ok-handler.ensures.value c.loop.invariant.rows);
}

pub returns-clause-value : goal.returns-clause-value
returns-clause-value c = repeat_is_done _ _ _ _ _ _ c.loop-test.false c.loop.invariant.rows

pub returns-clause-rising : goal.returns-clause-rising
returns-clause-rising c = c.loop.invariant.rising

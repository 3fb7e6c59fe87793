use Rattle.std.proofs.Common.{arith, rules}
use Rattle.vet_base.specs.Script.{run, Fails}
use Rattle.vet_base.proofs.Repeats.{repeat_begins, repeat_goes_on, repeat_fails, repeat_is_done}
use Rattle.dex_bodies.specs.Handlers.{pairs_at}
use Rattle.dex_bodies.proofs.handlers.pairs_of.Goals as goal

pub loop-init : goal.loop-init
unfolding pairs_at
loop-init c = record {
  forward = omega arith;
  rows = rw c.new-pairs.ensures.items (repeat_begins _ _ _);
}

pub returns-in_err-pair-clause-value : goal.returns-in_err-pair-clause-value
returns-in_err-pair-clause-value c =
    let stopped : Fails c.in_err-pair.field-0.0 (run (pairs_at c.args.file.now c.args.types c.args.code c.args.count c.args.begin)) =
    repeat_fails _ _ _ _ _ _ _ c.loop-test.true c.in_err-pair.ensures.value c.loop.invariant.rows in
    search rules

pub loop-preserved : goal.loop-preserved
loop-preserved c = record {
  forward = omega (arith, c.loop.invariant.forward, c.in_ok-pair.ensures.forward);
  rows = rw c.in_ok-push.ensures.items (repeat_goes_on _ _ _ _ _ _ _ _ c.loop-test.true c.in_ok-pair.ensures.value c.loop.invariant.rows);
}

pub returns-clause-value : goal.returns-clause-value
returns-clause-value c = rw c.in_ok-pairs.ensures (repeat_is_done _ _ _ _ _ _ c.loop-test.false c.loop.invariant.rows)

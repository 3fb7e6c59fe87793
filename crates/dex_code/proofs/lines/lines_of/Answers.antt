use Rattle.std.proofs.Common.{arith, length, rules}
use Rattle.std.proofs.lemmas.Bool.{le-ltb, lt-ltb}
use Rattle.vet_base.specs.Script.{run, Fails}
use Rattle.vet_base.proofs.Scripts.{sweep_begins, sweep_goes_on, sweep_fails, sweep_is_done}
use Rattle.dex_code.specs.Lines.{lines_at}
use Rattle.dex_code.proofs.lines.lines_of.Goals as goal

pub loop-init : goal.loop-init
unfolding lines_at
loop-init c = record {
  within = omega arith;
  passed = omega arith;
  lines = rw c.new-lines.ensures.items (sweep_begins _ _ _ _);
}

pub returns-then-pc-len : goal.returns-then-pc-len
unfolding lines_at
returns-then-pc-len c = sweep_is_done _ _ _ _ _ _ _ (le-ltb c.loop.pc (length c.args.code.now.units) (omega arith)) c.loop.invariant.lines

pub returns-in_err-line : goal.returns-in_err-line
returns-in_err-line c =
    let stopped : Fails c.in_err-line.field-0.0 (run (lines_at c.args.code.now c.args.counts.now)) =
    sweep_fails _ _ _ _ _ _ _ _ (omega arith) (lt-ltb c.loop.pc (length c.args.code.now.units) (omega arith)) c.in_err-line.ensures.value c.loop.invariant.lines in
    search rules

pub loop-preserved : goal.loop-preserved
loop-preserved c = record {
  within = c.in_ok-line.ensures.within.1;
  passed = omega (arith, c.loop.invariant.passed, c.in_ok-line.ensures.within.0);
  lines = rw c.in_ok-push.ensures.items (sweep_goes_on _ _ _ _ _ _ _ _ _ (omega arith) (lt-ltb c.loop.pc (length c.args.code.now.units) (omega arith)) c.in_ok-line.ensures.value c.loop.invariant.lines);
}

pub returns : goal.returns
unfolding lines_at
returns c = sweep_is_done _ _ _ _ _ _ _ (le-ltb c.loop.pc (length c.args.code.now.units) (omega arith)) c.loop.invariant.lines

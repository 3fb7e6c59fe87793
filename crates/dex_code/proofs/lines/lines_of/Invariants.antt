use Rattle.std.proofs.Common.{◌≤◌, length}
use Rattle.std.specs.Prelude.{nat_lt}
use Rattle.vet_base.specs.Script.{run}
use Rattle.vet_base.proofs.Scripts.{Sweeps}
use Rattle.dex_code.specs.Lines.{line_at, lines_at}
use Rattle.dex_code.proofs.lines.lines_of.Given as goal

abbrev pub invariant-loop : goal.invariant-loop
invariant-loop l = record {
  within : l.pc ≤ length l.code.units;
  passed : l.counter ≤ l.pc;
  lines : Sweeps (length l.code.units) l.counter (λ pc. nat_lt pc (length l.code.units)) (line_at l.code l.counts) l.lines.items l.pc (run (lines_at l.code l.counts));
}

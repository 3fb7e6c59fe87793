use Rattle.std.proofs.Common.{◌≡◌, max, drop}
use Rattle.dex_maker.specs.Codes.{outs_of}
use Rattle.dex_maker.proofs.codes.outs_of.Given as goal

abbrev pub invariant-loop-line : goal.invariant-loop-line
invariant-loop-line l = max l.outs (outs_of (drop l.line-index l.lines)) ≡ outs_of l.lines

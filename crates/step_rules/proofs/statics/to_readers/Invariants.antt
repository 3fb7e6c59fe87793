use Rattle.std.proofs.Common.{◌≡◌, fold, flat_map, take}
use Rattle.step_rules.specs.StepGiven.{reader_takes}
use Rattle.step_rules.proofs.statics.to_readers.Given as goal

abbrev pub invariant-loop-reader : goal.invariant-loop-reader
invariant-loop-reader g l = l.out ≡ fold g.S.Sink.then l.fn.out (flat_map (reader_takes l.with.app.now (g.F.Facts.hits l.facts) l.with.number l.with.content) (take l.reader-index l.readers))

use Rattle.std.proofs.Common.{◌≡◌, fold, flat_map, take}
use Rattle.cell_step_rules.specs.CellStepGiven.{reader_takes}
use Rattle.cell_step_rules.proofs.statics.to_readers.Given as goal

abbrev pub invariant-loop-step : goal.invariant-loop-step
invariant-loop-step g l = l.out ≡ fold g.S.Sink.then l.fn.out (flat_map (reader_takes l.with.app.now l.with.readers.now (g.F.Facts.hits l.facts) l.with.held.number l.with.held.content) (take l.step-index l.steps))

use Rattle.std.proofs.Common.{◌≡◌, fold}
use Rattle.rule_ground.specs.Below.{for_below}
use Rattle.cell_event_rules.specs.CellGivenBack.{back_index}
use Rattle.cell_event_rules.proofs.given_back.to_indices.Given as goal

abbrev pub invariant-loop-index : goal.invariant-loop-index
invariant-loop-index g l = l.out ≡ fold g.S.Sink.then l.fn.out (for_below (back_index l.with.taker.now.0 l.with.readers.now l.with.taker.now.1 l.with.site l.with.taker.now.2 l.with.by l.method) l.index)

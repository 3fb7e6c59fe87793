use Rattle.std.proofs.Common.{◌≡◌, fold, take, flat_map}
use Rattle.begin_rules.specs.BeginGiven.{by_source}
use Rattle.begin_rules.proofs.parameters.by_sources.Given as goal

abbrev pub invariant-loop-source : goal.invariant-loop-source
invariant-loop-source g l = l.out ≡ fold g.S.Sink.then l.fn.out (flat_map (by_source l.start l.register l.position l.object) (take l.source-index l.sources))

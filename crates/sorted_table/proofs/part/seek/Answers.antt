use Rattle.std.proofs.Common.{arith}
use Rattle.sorted_table.specs.Bounds.{counted}
use Rattle.sorted_table.proofs.Counting.{steady}
use Rattle.sorted_table.proofs.Placing.{part_ascends, sought}
use Rattle.sorted_table.proofs.part.seek.Goals as goal

pub bound-place-requires : goal.bound-place-requires
bound-place-requires g c = part_ascends g.T.Ord.cmp g.met.T.Ord.total c.args.parts.now c.saturating_sub-part.result c.index-parts-part.result c.deref.result.now (omega (arith, c.saturating_sub-part.ensures, c.begun.ensures.within, c.requires.some)) c.deref.ensures.value c.requires.ascending

pub returns-clause-bound : goal.returns-clause-bound
returns-clause-bound g c = (sought g.met.T.Ord.total (counted (g.S.Stretch.side c.args.stretch.now) c.args.inside) (steady (g.met.S.Stretch.rises c.args.stretch.now) c.args.inside) c.args.parts.now c.requires.filled c.requires.some c.requires.ascending c.begun.result c.begun.ensures c.saturating_sub-part.result c.index-parts-part.result c.deref.result.now c.bound-place.result c.saturating_sub-part.ensures c.deref.ensures.value c.bound-place.ensures).bound

pub returns-clause-entered : goal.returns-clause-entered
returns-clause-entered g c = (sought g.met.T.Ord.total (counted (g.S.Stretch.side c.args.stretch.now) c.args.inside) (steady (g.met.S.Stretch.rises c.args.stretch.now) c.args.inside) c.args.parts.now c.requires.filled c.requires.some c.requires.ascending c.begun.result c.begun.ensures c.saturating_sub-part.result c.index-parts-part.result c.deref.result.now c.bound-place.result c.saturating_sub-part.ensures c.deref.ensures.value c.bound-place.ensures).entered

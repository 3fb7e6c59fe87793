use Rattle.std.proofs.Common.{arith, get_or}
use Rattle.sorted_table.proofs.Placing.{start_is, start_there, row_is}
use Rattle.sorted_table.proofs.part.row_at.Goals as goal

pub bounds-starts-part : goal.bounds-starts-part
bounds-starts-part g c = start_there c.args.parts.now c.args.starts.now c.part_of-part.result c.requires.kept c.part_of-part.ensures.there

pub overflow_sub-place : goal.overflow_sub-place
overflow_sub-place g c = omega (arith, start_is c.args.parts.now c.args.starts.now c.part_of-part.result 0 c.requires.kept c.part_of-part.ensures.there)

pub index-requires : goal.index-requires
index-requires g c = omega (arith, start_is c.args.parts.now c.args.starts.now c.part_of-part.result 0 c.requires.kept c.part_of-part.ensures.there, c.part_of-part.ensures.from, c.part_of-part.ensures.to c.index-parts-part.result, (get_or c.args.parts.now c.part_of-part.result c.index-parts-part.result).rows.ok.0)

pub returns : goal.returns
returns g c = row_is c.args.parts.now c.args.place c.part_of-part.result _ c.index-parts-part.result c.index.result.now c.part_of-part.ensures (start_is c.args.parts.now c.args.starts.now c.part_of-part.result 0 c.requires.kept c.part_of-part.ensures.there) c.index.ensures

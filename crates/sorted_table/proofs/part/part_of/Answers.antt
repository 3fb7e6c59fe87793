use Rattle.sorted_table.proofs.Placing.{starts_ascend, part_counted, part_found}
use Rattle.sorted_table.proofs.part.part_of.Goals as goal

pub bound-requires : goal.bound-requires
bound-requires g c = starts_ascend c.args.parts.now c.args.starts.now c.requires.kept

pub overflow_sub-result : goal.overflow_sub-result
overflow_sub-result g c = part_counted c.args.place c.args.parts.now c.args.starts.now c.requires.kept c.requires.there c.bound.result c.bound.ensures

pub returns : goal.returns
returns g c = part_found c.args.place c.args.parts.now c.args.starts.now c.requires.kept c.requires.there c.bound.result c.bound.ensures

use Rattle.std.proofs.Common.{arith, ◌∙◌, ap}
use Rattle.std.specs.List.{insert}
use Rattle.sorted_table.specs.Parts.{rows_of}
use Rattle.sorted_table.proofs.Placing.{start_there}
use Rattle.sorted_table.proofs.Growing.{starts_below, all_rows-put, kept_put, all_rows-same, kept_same}
use Rattle.sorted_table.proofs.growth.put_at.Goals as goal

pub raise-requires-clause-within : goal.raise-requires-clause-within
raise-requires-clause-within g c = omega (arith, start_there c.args.parts.now.items c.args.starts.now.items c.args.slot.part c.requires.kept c.requires.slot.there, c.args.starts.now.ok.0)

pub raise-requires-clause-small : goal.raise-requires-clause-small
raise-requires-clause-small g c = λ k d lt. omega (arith, starts_below c.args.parts.now.items c.args.starts.now.items k d c.requires.kept lt)

pub returns-in-Ok-clause-ok : goal.returns-in-Ok-clause-ok
returns-in-Ok-clause-ok g c =
    let e = c.index_mut.result.now in
    all_rows-put c.args.parts.now.items c.args.slot.part c.args.slot.place e c.put.new.part c.args.row c.requires.slot.there (c.requires.slot.within e) (c.in-Ok.ensures.ok ∙ ap (λ z. insert (rows_of z) c.args.slot.place c.args.row) c.index_mut.ensures.value)

pub returns-in-Ok-clause-kept : goal.returns-in-Ok-clause-kept
returns-in-Ok-clause-kept g c =
    let e = c.index_mut.result.now in
    kept_put c.args.parts.now.items c.args.starts.now.items c.raise.new.starts.items c.args.slot.part c.args.slot.place e c.put.new.part c.args.row c.requires.kept c.requires.room (c.requires.slot.within e) (c.in-Ok.ensures.ok ∙ ap (λ z. insert (rows_of z) c.args.slot.place c.args.row) c.index_mut.ensures.value) c.raise.ensures

pub returns-in-Err-clause-err : goal.returns-in-Err-clause-err
returns-in-Err-clause-err g c = all_rows-same c.args.parts.now.items c.args.slot.part c.index_mut.result.now c.put.new.part c.requires.slot.there (c.in-Err.ensures.err ∙ ap rows_of c.index_mut.ensures.value)

pub returns-in-Err-clause-kept : goal.returns-in-Err-clause-kept
returns-in-Err-clause-kept g c = kept_same c.args.parts.now.items c.args.starts.now.items c.args.slot.part c.index_mut.result.now c.put.new.part c.requires.slot.there (c.in-Err.ensures.err ∙ ap rows_of c.index_mut.ensures.value) c.requires.kept

use Rattle.std.proofs.Common.{arith, ◌∙◌, ◌+◌, ap}
use Rattle.std.specs.List.{insert}
use Rattle.sorted_table.proofs.Placing.{start_is, start_there, slot_within}
use Rattle.sorted_table.proofs.Growing.{cut_is}
use Rattle.sorted_table.proofs.growth.split.Goals as goal

pub index-requires-2 : goal.index-requires-2
index-requires-2 g c = omega (arith, start_there c.args.parts.now.items c.args.starts.now.items c.args.at c.requires.kept c.requires.there, c.args.starts.now.ok.0)

pub overflow_add-start : goal.overflow_add-start
overflow_add-start g c =
    let e = c.index.result.now in
    omega (arith, c.index-2.ensures, start_is c.args.parts.now.items c.args.starts.now.items c.args.at c.index-2.result.now c.requires.kept c.requires.there, slot_within c.args.parts.now.items c.args.at c.args.cut e c.requires.there (omega (arith, c.requires.full e)))

pub insert_reserved-requires-clause-within : goal.insert_reserved-requires-clause-within
insert_reserved-requires-clause-within g c = omega (arith, c.in_ok-reserve.ensures.len, start_there c.args.parts.now.items c.args.starts.now.items c.args.at c.requires.kept c.requires.there, c.args.starts.now.ok.0)

pub returns-clause-same : goal.returns-clause-same
returns-clause-same g c =
    (cut_is c.args.parts.now.items c.insert.new.self.items c.args.starts.now.items c.insert_reserved.new.starts.items c.args.at c.args.cut (c.index-2.result.now + c.args.cut) c.index.result.now c.index_mut.result.now c.shorten.new.part c.in_ok-more.more
    c.requires.there (c.requires.full c.index.result.now) c.requires.some c.requires.less c.requires.kept c.index.ensures c.in_ok-more.ensures c.in_ok-insert.ensures.items c.index_mut.ensures.value c.shorten.ensures
    (ap (λ z. z + c.args.cut) (c.index-2.ensures ∙ start_is c.args.parts.now.items c.args.starts.now.items c.args.at c.index-2.result.now c.requires.kept c.requires.there))
    (c.insert_reserved.ensures ∙ ap (λ z. insert z (c.args.at + 1) (c.index-2.result.now + c.args.cut)) c.in_ok-reserve.ensures.items)).same

pub returns-clause-kept : goal.returns-clause-kept
returns-clause-kept g c =
    (cut_is c.args.parts.now.items c.insert.new.self.items c.args.starts.now.items c.insert_reserved.new.starts.items c.args.at c.args.cut (c.index-2.result.now + c.args.cut) c.index.result.now c.index_mut.result.now c.shorten.new.part c.in_ok-more.more
    c.requires.there (c.requires.full c.index.result.now) c.requires.some c.requires.less c.requires.kept c.index.ensures c.in_ok-more.ensures c.in_ok-insert.ensures.items c.index_mut.ensures.value c.shorten.ensures
    (ap (λ z. z + c.args.cut) (c.index-2.ensures ∙ start_is c.args.parts.now.items c.args.starts.now.items c.args.at c.index-2.result.now c.requires.kept c.requires.there))
    (c.insert_reserved.ensures ∙ ap (λ z. insert z (c.args.at + 1) (c.index-2.result.now + c.args.cut)) c.in_ok-reserve.ensures.items)).kept

pub returns-clause-ok : goal.returns-clause-ok
returns-clause-ok g c =
    (cut_is c.args.parts.now.items c.insert.new.self.items c.args.starts.now.items c.insert_reserved.new.starts.items c.args.at c.args.cut (c.index-2.result.now + c.args.cut) c.index.result.now c.index_mut.result.now c.shorten.new.part c.in_ok-more.more
    c.requires.there (c.requires.full c.index.result.now) c.requires.some c.requires.less c.requires.kept c.index.ensures c.in_ok-more.ensures c.in_ok-insert.ensures.items c.index_mut.ensures.value c.shorten.ensures
    (ap (λ z. z + c.args.cut) (c.index-2.ensures ∙ start_is c.args.parts.now.items c.args.starts.now.items c.args.at c.index-2.result.now c.requires.kept c.requires.there))
    (c.insert_reserved.ensures ∙ ap (λ z. insert z (c.args.at + 1) (c.index-2.result.now + c.args.cut)) c.in_ok-reserve.ensures.items)).split

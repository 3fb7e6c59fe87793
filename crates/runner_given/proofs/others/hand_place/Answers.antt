use Rattle.std.proofs.Common.{◌==◌, ap, ◌∙◌}
use Rattle.std.specs.List.{list_any}
use Rattle.runner_given.proofs.Since.{among, is_new, not_among, not_there, was_before, was_new}
use Rattle.runner_given.proofs.others.hand_place.Goals as goal

pub returns-then-has : goal.returns-then-has
returns-then-has c all is = was_before c.args.handed.now c.args.new.now.items all c.args.place is (c.has.ensures.0 c.if-has.true)

pub returns-then-contains : goal.returns-then-contains
returns-then-contains c all is = was_new c.args.handed.now c.args.new.now.items all c.args.place is (among c.args.place c.args.new.now.items c.contains.result (c.contains.ensures.value ∙ ap (λ xs. list_any (λ y. y == c.args.place) xs) c.as_slice.ensures.value) c.if-contains.true)

pub returns : goal.returns
returns c all is =
    is_new c.args.handed.now c.args.new.now.items all c.args.place is c.push.new.self.items c.in_ok-push.ensures.items (not_there c.args.place c.args.handed.now c.has.result c.has.ensures c.if-has.false)
    (not_among c.args.place c.args.new.now.items c.contains.result (c.contains.ensures.value ∙ ap (λ xs. list_any (λ y. y == c.args.place) xs) c.as_slice.ensures.value) c.if-contains.false)

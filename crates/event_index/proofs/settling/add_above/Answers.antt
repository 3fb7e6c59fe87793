use Rattle.std.proofs.Common.{ap, refl, ◌∙◌, Some}
use Rattle.app_model.specs.Above.{is_class_below}
use Rattle.event_index.proofs.AboveRows.{adds_not, adds_outside, adds_settled}
use Rattle.event_index.proofs.Pushed.{item_there}
use Rattle.event_index.proofs.settling.add_above.Goals as goal

pub returns-in-None : goal.returns-in-None
returns-in-None c =
    adds_outside c.args.app.now c.args.listed.now c.args.name.now c.args.row.now c.add.new.row c.requires.listed c.in-None.ensures.none c.add.ensures

pub returns-in-Some-Some : goal.returns-in-Some-Some
returns-in-Some-Some c =
    adds_settled c.args.app.now c.args.listed.now c.args.rows.now c.args.name.now c.in-Some.number c.in-Some-Some.above c.args.row.now c.join.new.self
    c.requires.settled c.in-Some.ensures.within c.in-Some.ensures.found
    (item_there c.args.rows.now c.in-Some.number c.in-Some-Some.field-0.now c.in-Some-Some.ensures.lookup.0 c.in-Some-Some.ensures.lookup.1 ∙ ap (λ o. Some o) c.in-Some-Some.field-0-is)
    c.join.ensures.long c.join.ensures.marks

pub returns-in_default : goal.returns-in_default
returns-in_default c = adds_not c.args.app.now c.args.listed.now (is_class_below c.args.app.now c.args.listed.now.lists.now c.args.name.now) c.args.row.now c.args.row.now c.args.row.now refl refl

pub returns-in_default-2 : goal.returns-in_default-2
returns-in_default-2 c = adds_not c.args.app.now c.args.listed.now (is_class_below c.args.app.now c.args.listed.now.lists.now c.args.name.now) c.args.row.now c.args.row.now c.args.row.now refl refl

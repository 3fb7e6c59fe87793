use Rattle.std.proofs.Common.{List, Bool, subst, ap, ◌∙◌}
use Rattle.app_machine.specs.declared.app.App.{App}
use Rattle.app_machine.specs.declared.lists.Lists.{Lists}
use Rattle.played_machine.specs.Coming.{Event}
use Rattle.runner_choices.specs.Table.{menu_of}
use Rattle.runner_choices.proofs.Exact.{menu_is}
use Rattle.runner_stands.specs.Stands.{MarksMore}
use Rattle.runner_stands.proofs.bodies.mark_component.Goals as goal
use Rattle.runner_world.specs.World.{world_in}

pub of-requires-clause-of_app : goal.of-requires-clause-of_app
of-requires-clause-of_app c = ap (λ (e : App × Lists). e.0) c.requires.ground.events

pub of-requires-clause-of_lists : goal.of-requires-clause-of_lists
of-requires-clause-of_lists c = ap (λ (e : App × Lists). e.1) c.requires.ground.events

pub returns : goal.returns
returns c =
    subst (λ (events : List Event). MarksMore c.args.ground.now.app.now events c.args.marks.now.items c.mark_listed.new.marks.items)
    (ap (λ (b : Bool). menu_of (world_in c.args.world.now) c.args.number b c.in_ok-table.table) c.may_begin-begins.ensures ∙ menu_is c.args.ground.now.app.now c.args.ground.now.lists.now (world_in c.args.world.now) c.args.number c.in_ok-table.table c.in_ok-table.ensures)
    c.in_ok-mark_listed.ensures

use Rattle.std.proofs.Common.{List, length, slice_get, refl, sym, ap, ◌∙◌}
use Rattle.played_machine.specs.Coming.{events}
use Rattle.runner_choices.specs.declared.table.ComponentTable.{ComponentTable}
use Rattle.runner_menu.specs.Tables.{components_in}
use Rattle.runner_menu.proofs.Chosen.{counted, no_byte, none_drawn, one_drawn}
use Rattle.runner_menu.proofs.menu.Menu.drawn.Goals as goal
use Rattle.runner_world.specs.World.{world_in}

pub returns-then-all-eq0 : goal.returns-then-all-eq0
returns-then-all-eq0 c =
    let world = world_in c.args.world.now in
    let all = counted c.args.app.now c.args.lists.now world c.args.self.now c.requires.ready c.in_ok-components.components c.in_ok-count.field-0 c.in_ok-all.all (c.in_ok-components.ensures ∙ ap (λ (tables : List ComponentTable). length (components_in c.args.app.now world tables)) c.as_slice.ensures.value) (c.in_ok-count.ensures world c.args.lists.now) c.in_ok-all.ensures in
    none_drawn (events c.args.app.now c.args.lists.now world) c.args.script.left.now (sym all ∙ c.if-all-eq0.true)

pub returns-in-None : goal.returns-in-None
returns-in-None c =
    let world = world_in c.args.world.now in
    let all = counted c.args.app.now c.args.lists.now world c.args.self.now c.requires.ready c.in_ok-components.components c.in_ok-count.field-0 c.in_ok-all.all (c.in_ok-components.ensures ∙ ap (λ (tables : List ComponentTable). length (components_in c.args.app.now world tables)) c.as_slice.ensures.value) (c.in_ok-count.ensures world c.args.lists.now) c.in_ok-all.ensures in
    no_byte (events c.args.app.now c.args.lists.now world) c.args.script.left.now c.in_ok-all.all all c.in-None.ensures.drawn

pub returns-in-Some : goal.returns-in-Some
returns-in-Some c =
    let world = world_in c.args.world.now in
    let all = counted c.args.app.now c.args.lists.now world c.args.self.now c.requires.ready c.in_ok-components.components c.in_ok-count.field-0 c.in_ok-all.all (c.in_ok-components.ensures ∙ ap (λ (tables : List ComponentTable). length (components_in c.args.app.now world tables)) c.as_slice.ensures.value) (c.in_ok-count.ensures world c.args.lists.now) c.in_ok-all.ensures in
    c.chosen.ensures ∙ one_drawn (events c.args.app.now c.args.lists.now world) c.args.script.left.now c.in-Some.left.left.now c.in_ok-all.all c.in-Some.i (slice_get (events c.args.app.now c.args.lists.now world) c.in-Some.i) all c.in-Some.ensures.drawn refl

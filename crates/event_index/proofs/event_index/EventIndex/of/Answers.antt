use Rattle.std.proofs.Common.{List, ◌∙◌, ap, sym, subst}
use Rattle.app_machine.specs.declared.app.App.{App}
use Rattle.app_machine.specs.declared.method.Method.{Method}
use Rattle.app_machine.specs.Sound.{SoundApp}
use Rattle.app_machine.specs.SoundLists.{SoundLists}
use Rattle.event_index.specs.declared.bodies.Event.TheVariants.{Life, Click}
use Rattle.event_index.specs.Asked.{HasAsked}
use Rattle.event_index.specs.Bodies.{HasBodies}
use Rattle.event_index.proofs.event_index.EventIndex.of.Goals as goal

pub comings_of-requires-clause-sound : goal.comings_of-requires-clause-sound
comings_of-requires-clause-sound c = subst SoundApp (sym c.in_ok-table.ensures.app) c.requires.app

pub comings_of-requires-clause-lists : goal.comings_of-requires-clause-lists
comings_of-requires-clause-lists c = subst SoundLists (sym c.in_ok-table.ensures.lists) c.requires.lists

pub comings_of-requires-clause-table : goal.comings_of-requires-clause-table
comings_of-requires-clause-table c = c.in_ok-table.ensures.table

pub invariant_of-result : goal.invariant_of-result
invariant_of-result c = record {
  lists = subst SoundLists (sym c.in_ok-table.ensures.lists) c.requires.lists;
  table = c.in_ok-table.ensures.table;
  comings = c.in_ok-comings.ensures;
  life = subst (λ (app : App). HasBodies app Life c.in_ok-life.life.items) (sym c.in_ok-table.ensures.app) c.in_ok-life.ensures;
  clicks = subst (λ (app : App). HasBodies app Click c.in_ok-clicks.clicks.items) (sym c.in_ok-table.ensures.app) c.in_ok-clicks.ensures;
  asked = subst (λ (methods : List Method). HasAsked c.in_ok-table.table.listed.kinds methods c.in_ok-asked.asked.items) (c.as_slice.ensures ∙ ap (λ (app : App). app.methods) (sym c.in_ok-table.ensures.app)) c.in_ok-asked.ensures;
}

pub returns-clause-app : goal.returns-clause-app
returns-clause-app c = c.in_ok-table.ensures.app

pub returns-clause-lists : goal.returns-clause-lists
returns-clause-lists c = c.in_ok-table.ensures.lists

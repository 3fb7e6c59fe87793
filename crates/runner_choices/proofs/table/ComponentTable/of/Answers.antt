use Rattle.std.proofs.Common.{◌++◌, filter_map, length, refl, sym, ap, subst, ◌∙◌}
use Rattle.app_machine.specs.declared.app.App.{App}
use Rattle.app_machine.specs.declared.lists.Lists.{Lists}
use Rattle.app_machine.specs.Sound.{SoundApp}
use Rattle.app_machine.specs.Summaries.{numbers_from}
use Rattle.event_index.specs.Comings.{comings}
use Rattle.runner_choices.specs.Choices.{called_by, clicked}
use Rattle.runner_choices.proofs.table.ComponentTable.of.Goals as goal

pub comings_to-requires : goal.comings_to-requires
comings_to-requires c = subst (λ (app : App). SoundApp app) (sym c.requires.of_app) c.requires.sound

pub returns : goal.returns
returns c = record {
  component = c.args.component.now;
  there = c.requires.there;
  class = refl;
  lives = c.in_ok-lives.ensures;
  called =
      c.in_ok-add_clicks.ensures
      ∙ ap (λ xs. xs ++ filter_map (clicked c.args.app.now c.args.number) (numbers_from 0 (length c.args.app.now.clicks)))
      (c.in_ok-called.ensures ∙ ap (filter_map (called_by c.args.lists.now)) (c.as_slice.ensures.value ∙ (c.in_ok-comings.ensures
      ∙ (ap (λ (app : App). comings app c.args.index.now.1 c.args.component.now.class) c.requires.of_app ∙ ap (λ (lists : Lists). comings c.args.app.now lists c.args.component.now.class) c.requires.of_lists))));
  initialisers = c.in_ok-initialisers.ensures;
}

use Rattle.std.proofs.Common.{◌≡◌, [], ◌++◌, map, length, option_map, sym, ap, subst, ◌∙◌, arith, append-nil}
use Rattle.std.specs.Prelude.{option_to_list}
use Rattle.app_machine.specs.declared.app.App.{App}
use Rattle.app_machine.specs.Sound.{SoundApp}
use Rattle.app_model.specs.EventBodies.{called, click, shown_callback}
use Rattle.runner_choices.specs.Choices.{clicked}
use Rattle.runner_choices.proofs.Lists.{number_more, numbers_all}
use Rattle.runner_choices.proofs.calling.add_clicks.Goals as goal

pub loop-number-init : goal.loop-number-init
loop-number-init c = sym (append-nil (map shown_callback c.args.all.now.items))

pub loop-number-preserved : goal.loop-number-preserved
loop-number-preserved c =
    number_more (clicked c.args.app.now c.args.component) (map shown_callback c.args.all.now.items) (map shown_callback c.loop-number.all.items) (map shown_callback c.add_click.new.all.items) c.loop-number.number
    (c.in_ok-add_click.ensures ∙ ap (λ o. map shown_callback c.loop-number.all.items ++ option_to_list (option_map (called []) o)) (c.click_body.ensures ∙ ap (λ (a : App). click a c.args.component c.loop-number.number) c.requires.same))
    c.loop-number.invariant

pub returns : goal.returns
returns c =
    let same : c.loop-number.number ≡ length c.args.app.now.clicks = omega arith in
    numbers_all (clicked c.args.app.now c.args.component) (map shown_callback c.args.all.now.items) (map shown_callback c.loop-number.all.items) c.loop-number.number (length c.args.app.now.clicks) same c.loop-number.invariant

pub click_body-requires : goal.click_body-requires
click_body-requires c = subst (λ (app : App). SoundApp app) (sym c.requires.same) c.requires.sound

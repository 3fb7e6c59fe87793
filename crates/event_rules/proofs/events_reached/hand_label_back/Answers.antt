use Rattle.std.proofs.Common.{◌≡◌, OnOk, List, Some, flat_map, fold, sym, ap, subst, ◌∙◌}
use Rattle.std.specs.Option.{option_copied}
use Rattle.app_machine.specs.declared.app.App.{App}
use Rattle.app_machine.specs.declared.lists.Lists.{Lists}
use Rattle.app_machine.specs.Names.{Name}
use Rattle.flow_rules.specs.Sites.{site_class}
use Rattle.rule_ground.specs.declared.conclusion.Conclusion.{Conclusion}
use Rattle.rule_ground.specs.declared.key.Key.TheVariants.{HandedOf}
use Rattle.event_rules.specs.GivenBack.{is_handed, label_handed_as}
use Rattle.event_rules.proofs.events_reached.hand_label_back.Goals as goal

pub returns-in-Some : goal.returns-in-Some
returns-in-Some g c =
    let index = c.args.index.now in
    let object = c.args.object in
    let hits = g.F.Facts.hits c.args.facts.now in
    let is : site_class index.0 index.1 object.site ≡ Some c.in-Some.class.now =
    ap (λ (app : App). site_class app index.1 object.site) (sym c.app.ensures)
    ∙ (ap (λ (lists : Lists). site_class c.app.result.now lists object.site) (sym c.lists.ensures) ∙ (sym c.site_class.ensures ∙ ap (λ o. option_copied o) c.in-Some.is)) in
    let given : flat_map (is_handed c.taker.result.0 c.taker.result.1 hits object c.taker.result.2) (hits (HandedOf object.site)) ≡ label_handed_as index.0 index.1 hits object (site_class index.0 index.1 object.site) =
    ap (λ (t : App × Lists × Name). flat_map (is_handed t.0 t.1 hits object t.2) (hits (HandedOf object.site))) c.taker.ensures ∙ ap (label_handed_as index.0 index.1 hits object) (sym is) in
    subst (λ (xs : List Conclusion). OnOk c.for_each_hit.result (c.for_each_hit.new.out ≡ fold g.S.Sink.then c.args.out.now xs)) given c.for_each_hit.ensures

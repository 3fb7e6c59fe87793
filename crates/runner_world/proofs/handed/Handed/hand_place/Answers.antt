use Rattle.std.proofs.Common.{◌≡◌, ◌∷◌, ℕ, List, reverse, sym, subst, ◌∙◌}
use Rattle.played_machine.specs.Reading.{handed_places}
use Rattle.played_machine.proofs.Ordered.{false_true}
use Rattle.runner_world.proofs.Places.{each_more, now_handed, was_there}
use Rattle.runner_world.proofs.handed.Handed.hand_place.Goals as goal

pub returns-then-contains-clause-ok : goal.returns-then-contains-clause-ok
returns-then-contains-clause-ok c =
    subst (λ (ys : List ℕ). handed_places (reverse ys) ≡ handed_places (c.args.place ∷ reverse ys)) c.self.view_is
    (was_there c.args.place c.self.inside.places.items c.self.invariant.each_once ((c.self.invariant.same c.args.place).0 (sym c.contains.ensures ∙ c.if-contains.true)))

pub invariant_of-self-in-Ok : goal.invariant_of-self-in-Ok
invariant_of-self-in-Ok c =
    each_more c.self.inside.places.items c.push.new.self.items c.self.inside.there c.insert.new.self c.args.place c.self.invariant
    (λ h. false_true (sym (sym c.contains.ensures ∙ c.if-contains.false) ∙ (c.self.invariant.same c.args.place).1 h)) c.in_ok-push.ensures.items c.in-Ok.ensures.updates.0

pub returns-in-Ok-clause-ok : goal.returns-in-Ok-clause-ok
returns-in-Ok-clause-ok c =
    subst (λ (ys : List ℕ). handed_places (reverse c.push.new.self.items) ≡ handed_places (c.args.place ∷ reverse ys)) c.self.view_is
    (now_handed c.self.inside.places.items c.push.new.self.items c.self.inside.there c.insert.new.self c.args.place c.self.invariant
    (λ h. false_true (sym (sym c.contains.ensures ∙ c.if-contains.false) ∙ (c.self.invariant.same c.args.place).1 h)) c.in_ok-push.ensures.items c.in-Ok.ensures.updates.0)

use Rattle.std.proofs.Common.{◌≡◌, ap, sym, ◌∙◌, arith}
use Rattle.app_machine.specs.State.{ComponentState}
use Rattle.runner_given.proofs.Had.{has_none, has_place, is_absent}
use Rattle.runner_given.proofs.others.add_life.Goals as goal
use Rattle.runner_world.specs.Shown.{life_at}

pub returns-then-life-eq0 : goal.returns-then-life-eq0
returns-then-life-eq0 c =
    let zero : c.get-life.result.state ≡ 0 = omega arith in
    is_absent (life_at c.args.lives.now c.args.component) c.args.places.now.items c.args.places.now.items (ap (λ (s : ComponentState). s.state) (sym c.get-life.ensures) ∙ zero)

pub returns-in-None : goal.returns-in-None
returns-in-None c =
    has_none (life_at c.args.lives.now c.args.component) c.args.places.now.items c.args.places.now.items
    (λ e. let zero : c.get-life.result.state ≡ 0 = ap (λ (s : ComponentState). s.state) c.get-life.ensures ∙ e in absurd (omega (arith, zero)))
    (ap (λ (s : ComponentState). s.place) (sym c.get-life.ensures) ∙ c.in-None.is)

pub returns-in_ok-push-in-Some : goal.returns-in_ok-push-in-Some
returns-in_ok-push-in-Some c =
    has_place (life_at c.args.lives.now c.args.component) c.args.places.now.items c.push.new.self.items c.in-Some.place
    (λ e. let zero : c.get-life.result.state ≡ 0 = ap (λ (s : ComponentState). s.state) c.get-life.ensures ∙ e in absurd (omega (arith, zero)))
    (ap (λ (s : ComponentState). s.place) (sym c.get-life.ensures) ∙ c.in-Some.is) c.in_ok-push-in-Some.ensures.items

use Rattle.std.proofs.Common.{◌≡◌, length, subst, arith}
use Rattle.runner_given.proofs.Had.{AreLive, none_live, one_live}
use Rattle.runner_given.proofs.others.add_live.Goals as goal
use Rattle.runner_world.specs.Shown.{life_at}

pub loop-component-init : goal.loop-component-init
loop-component-init c = none_live (life_at c.args.lives.now) c.args.places.now.items

pub loop-component-preserved : goal.loop-component-preserved
loop-component-preserved c = one_live (life_at c.args.lives.now) c.args.places.now.items c.loop-component.component c.loop-component.places.items c.add_life.new.places.items c.in_ok-add_life.ensures c.loop-component.invariant

pub returns : goal.returns
returns c =
    let same : c.loop-component.component ≡ length c.args.app.now.components = omega (arith, c.component_count-count.ensures) in
    subst (λ n. AreLive (life_at c.args.lives.now) c.args.places.now.items n c.loop-component.places.items) same c.loop-component.invariant

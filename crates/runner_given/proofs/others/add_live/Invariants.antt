use Rattle.runner_given.proofs.Had.{AreLive}
use Rattle.runner_given.proofs.others.add_live.Given as goal
use Rattle.runner_world.specs.Shown.{life_at}

abbrev pub invariant-loop-component : goal.invariant-loop-component
invariant-loop-component l = AreLive (life_at l.lives) l.initial.places.items l.component l.places.items

use Rattle.std.proofs.Common.{◌≡◌, map, take}
use Rattle.runner_begin.specs.Parameters.{classes_in}
use Rattle.runner_begin.proofs.drawing.classes_of_all.Given as goal

abbrev pub invariant-loop-one : goal.invariant-loop-one
invariant-loop-one l = map (λ c. c.now) l.classes.items ≡ classes_in (take l.one-index l.fresh)

use Rattle.std.proofs.Common.{◌≡◌, ◌∷◌, take, map, filter}
use Rattle.device_causes.specs.Clicks.{context_class}
use Rattle.device_causes.specs.Sets.{is_among}
use Rattle.device_causes.proofs.clicks.context_names.Given as goal

abbrev pub invariant-loop-class : goal.invariant-loop-class
invariant-loop-class l = l.names.items ≡ context_class ∷ map (λ c. c.name) (filter (λ c. is_among c.above context_class) (take l.class-index l.lists.classes))

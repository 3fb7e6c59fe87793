use Rattle.std.proofs.Common.{◌≡◌, take, map}
use Rattle.device_causes.proofs.libraries.listed_statics.Given as goal

abbrev pub invariant-loop-row : goal.invariant-loop-row
invariant-loop-row l = l.statics.items ≡ map (λ s. (s.class, s.name, s.kind)) (take l.row-index l.lists.statics)

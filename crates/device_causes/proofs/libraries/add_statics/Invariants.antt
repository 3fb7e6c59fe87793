use Rattle.std.proofs.Common.{◌≡◌, ◌++◌, take, map}
use Rattle.device_causes.proofs.libraries.add_statics.Given as goal

abbrev pub invariant-loop-field : goal.invariant-loop-field
invariant-loop-field l = l.statics.items ≡ l.initial.statics.items ++ map (λ f. (l.name, f.0, f.1)) (take l.field-index l.class.statics)

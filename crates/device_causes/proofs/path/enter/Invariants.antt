use Rattle.std.proofs.Common.{take}
use Rattle.device_causes.specs.Path.{Entered, known_in}
use Rattle.device_causes.proofs.path.enter.Given as goal

abbrev pub invariant-loop-method : goal.invariant-loop-method
invariant-loop-method l = Entered l.class (take l.method-index l.methods) (known_in l.initial.known) (known_in l.known) l.undo.items

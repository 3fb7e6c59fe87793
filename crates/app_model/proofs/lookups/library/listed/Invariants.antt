use Rattle.app_machine.specs.declared.lists.LibClass.{LibClass}
use Rattle.app_machine.specs.Names.{same_name}
use Rattle.app_model.proofs.First.{NoneBefore}
use Rattle.app_model.proofs.lookups.library.listed.Given as goal

abbrev pub invariant-loop-class : goal.invariant-loop-class
invariant-loop-class l = NoneBefore (λ (c : LibClass). same_name c.name l.name) l.lists.classes l.class-index

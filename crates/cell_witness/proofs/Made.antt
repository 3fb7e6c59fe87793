-- The sites of what steps make.
use Rattle.std.proofs.Common.{refl}
use Rattle.app_machine.specs.Lookups.{step_at, class_named}
use Rattle.machine_witness.specs.Flows.{activity_of}
use Rattle.cell_rules.specs.Making.{keeps_context}
use Rattle.cell_witness.specs.Made.{ObjectsAreMade}

pub objects_are_made : ObjectsAreMade
unfolding keeps_context activity_of step_at class_named
objects_are_made c = record { own_object = refl; array = refl; filled_array = refl; result = refl }

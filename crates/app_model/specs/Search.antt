-- What lists of an app are ordered by.
use Rattle.std.specs.Prelude.{◌==◌, ℕ, Bool, []}
use Rattle.std.specs.Ordering.{nat_cmp}
use Rattle.std.specs.declared.cmp.Ordering.{Ordering}
use Rattle.app_machine.specs.declared.method.Method.{Method}
use Rattle.app_machine.specs.declared.method.Step.{Step}
use Rattle.app_machine.specs.declared.app.Key.{Key}
use Rattle.app_machine.specs.declared.app.Key.TheVariants.{Elem, Field}
use Rattle.app_machine.specs.Names.{Name, descriptor_of}

-- class, name and descriptor of a method
abbrev pub method_key : Method → Name × Name × Name
method_key m = (m.at.class, m.at.name, descriptor_of m.at.proto)

-- class, name and type of a field
abbrev pub field_key : Key → Name × Name × Name
field_key Elem = ([], [], [])
field_key (Field class name kind) = (class, name, kind)

-- steps by their pc, and whether a step stands at the pc
abbrev pub step_order : Step → Step → Ordering
step_order a b = nat_cmp a.pc b.pc

abbrev pub is_step_at : ℕ → Step → Bool
is_step_at pc step = step.pc == pc

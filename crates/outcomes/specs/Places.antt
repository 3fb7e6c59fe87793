-- Places in an app, and their order.
use Rattle.std.specs.Prelude.{ℕ, [], Option, Some, None, slice_get}
use Rattle.std.specs.Ordering.{nat_cmp, ordering_then}
use Rattle.std.specs.declared.cmp.Ordering.{Ordering}
use Rattle.app_machine.specs.declared.app.App.{App}
use Rattle.app_machine.specs.declared.call.MethodRef.{MethodRef}
use Rattle.app_machine.specs.declared.method.Method.{Method}
use Rattle.app_machine.specs.Names.{descriptor_of}
use Rattle.app_machine.specs.Sound.{name_order}
use Rattle.outcomes.specs.declared.outcome.Place.{Place}

abbrev pub place_at : MethodRef → ℕ → Place
place_at at pc = record { at = at; pc = pc }

abbrev pub no_method : MethodRef
no_method = record { class = []; name = []; proto = record { params = []; ret = [] } }

abbrev pub method_named : Option Method → MethodRef
method_named None = no_method
method_named (Some m) = m.at

-- the instruction at the address in the method of that number
unfoldable pub place_in : App → ℕ → ℕ → Place
place_in app method pc = place_at (method_named (slice_get app.methods method)) pc

-- by class, name and descriptor of the method, and then by address
unfoldable pub place_order : Place → Place → Ordering
place_order a b = ordering_then (name_order a.at.class b.at.class)
    (ordering_then (name_order a.at.name b.at.name)
    (ordering_then (name_order (descriptor_of a.at.proto) (descriptor_of b.at.proto)) (nat_cmp a.pc b.pc)))

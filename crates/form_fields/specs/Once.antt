-- Names that stand once.
use Rattle.std.specs.Prelude.{List, [], ◌∷◌, ◌++◌, is_none, is_some, if◌then◌else◌}
use Rattle.vet_base.specs.Script.{Script, Value, ◌>>=◌, test, each}
use Rattle.app_machine.specs.Names.{Name, same_name}
use Rattle.form_fields.specs.declared.fault.Fault.{Fault}
use Rattle.form_fields.specs.declared.fault.Fault.TheVariants.{Twice}
use Rattle.form_fields.specs.Places.{place_of}

-- the name does not stand among those before it
unfoldable pub once : Name → List Name → Script Fault (List Name)
once name seen = do
  _ ← test (is_none (place_of same_name name seen)) (Twice name)
  Value (seen ++ name ∷ [])

-- no name stands twice
unfoldable pub names_once : List Name → Script Fault (List Name)
names_once names = each once names []

-- the name behind those of the list, where it is not among them
unfoldable pub with_one : List Name → Name → List Name
with_one seen name = if is_some (place_of same_name name seen) then seen else seen ++ name ∷ []

-- the names of both lists, each once, in their order
unfoldable pub with_new : List Name → List Name → List Name
with_new seen [] = seen
with_new seen (name ∷ names) = with_new (with_one seen name) names

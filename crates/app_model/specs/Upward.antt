-- The search for a member from a class upward along superclasses.
use Rattle.std.specs.Prelude.{ℕ, Option}
use Rattle.app_machine.specs.declared.app.App.{App}
use Rattle.app_machine.specs.declared.app.Class.{Class}
use Rattle.app_machine.specs.declared.app.Key.{Key}
use Rattle.app_model.specs.declared.lookups.upward.Member.{Member}
use Rattle.app_model.specs.declared.lookups.upward.Member.TheVariants as member
use Rattle.vet_base.specs.Members.{first_index}
use Rattle.app_machine.specs.Names.{Name}
use Rattle.app_machine.specs.Lookups.{method_of, method_with, is_field}

-- the number of the key of the field that the class itself defines
abbrev pub field_of : App → Name → Name → Name → Option ℕ
field_of app class name kind = first_index (λ (k : Key). is_field k class name kind) app.keys

-- the number of the member, where the class itself defines it
abbrev pub defined : App → Member → Class → Option ℕ
defined app (member.Method name proto) c = method_of app c.name name.now proto.now
defined app (member.MethodNamed name descriptor) c = method_with app c.name name.now descriptor.now
defined app (member.Field name kind) c = field_of app c.name name.now kind.now

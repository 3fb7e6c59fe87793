-- Methods with code, or native, in interfaces of the app: the machine looks for code along superclasses alone.
-- Android documentation, Dalvik bytecode: "invoke-interface"; Java Virtual Machine, "Method selection" (5.4.6).
use Rattle.std.specs.Prelude.{◌&&◌, not, Bool, if◌then◌else◌, List, [], map, filter, flat_map}
use Rattle.app_machine.specs.Names.{Name, same_name, initialiser_name}
use Rattle.link_access.specs.declared.access.ClassAccess.{ClassAccess}
use Rattle.link_access.specs.declared.access.MethodAccess.{MethodAccess}
use Rattle.link_access.specs.Access.{Accesses}
use Rattle.link_listing.specs.Texts.{Triple}
use Rattle.device_causes.specs.Hidden.{method_named}

-- neither static nor a class initialiser
unfoldable pub is_of_objects : MethodAccess → Bool
is_of_objects m = not m.is_static && not (same_name m.name initialiser_name)

unfoldable pub code_in : Name × ClassAccess → List Triple
code_in c = if c.1.is_interface then map (method_named c.0) (filter is_of_objects c.1.methods) else []

unfoldable pub interface_code : Accesses → List Triple
interface_code access = flat_map code_in access

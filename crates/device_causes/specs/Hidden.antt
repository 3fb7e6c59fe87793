-- Methods that a device does not take where the machine's look-up takes them: another one further up runs in their place.
-- Android documentation, Dalvik bytecode: "invoke-virtual"; Java Virtual Machine, "Method overriding" (5.4.5): a private or static
-- method overrides none, and one that is neither public nor protected is overridden within its package alone.
use Rattle.std.specs.Prelude.{◌==◌, ◌&&◌, ◌||◌, not, ℕ, Bool, if◌then◌else◌, codes, List, [], ◌∷◌, map, filter, flat_map, Some, None}
use Rattle.std.specs.List.{list_any}
use Rattle.app_machine.specs.declared.app.App.{App}
use Rattle.app_machine.specs.declared.app.Class.{Class}
use Rattle.app_machine.specs.Names.{Name, same_name, initialiser_name}
use Rattle.app_machine.specs.Summaries.{same_word}
use Rattle.link_access.specs.declared.access.MethodAccess.{MethodAccess}
use Rattle.app_model.specs.ClassWalks.{classes_from}
use Rattle.link_listing.specs.Orders.{named as entry_of}
use Rattle.link_listing.specs.Texts.{Triple}
use Rattle.link_access.specs.Access.{Accesses}

abbrev pub is_slash : ℕ → Bool
is_slash byte = byte == 47

-- the bytes up to the last `/`, which name the package of a class
unfoldable pub package_of : Name → Name
package_of [] = []
package_of (byte ∷ bytes) = if list_any is_slash (byte ∷ bytes) then byte ∷ package_of bytes else []

-- the name of constructors
unfoldable pub constructor_name : Name
constructor_name = codes "<init>"

-- a constructor or class initialiser, which no call looks for upward
unfoldable pub is_special : MethodAccess → Bool
is_special m = same_name m.name constructor_name || same_name m.name initialiser_name

abbrev pub same_signature : MethodAccess → MethodAccess → Bool
same_signature a b = same_name a.name b.name && same_name a.descriptor b.descriptor

-- Both have one name and descriptor, and m does not override s of the class above: m is private, or one of the two is static and the
-- other is not, or s is seen in its package alone and that is another one. A private s is taken by no call from below.
abbrev pub does_not_override : Name → MethodAccess → Name → MethodAccess → Bool
does_not_override class m above s =
    m.is_private || (not (same_word m.is_static s.is_static) || (not s.is_open && not (same_name (package_of class) (package_of above))))

unfoldable pub hides : Name → MethodAccess → Name → MethodAccess → Bool
hides class m above s = same_signature s m && (not s.is_private && does_not_override class m above s)

-- the methods of the class of this name
unfoldable pub methods_of : Accesses → Name → List MethodAccess
methods_of access name = elim (entry_of access name) [ None ↦ [] | Some c ↦ c.methods ]

unfoldable pub any_hides : Name → MethodAccess → Name → List MethodAccess → Bool
any_hides class m above methods = list_any (hides class m above) methods

-- a method of one of these classes
unfoldable pub is_hidden_by : Accesses → Name → MethodAccess → List Class → Bool
is_hidden_by access class m above = list_any (λ (k : Class). any_hides class m k.name (methods_of access k.name)) above

-- a method of an app class properly above, along superclasses, runs in its place
unfoldable pub is_hidden : App → Accesses → Class → MethodAccess → Bool
is_hidden app access k m = not (is_special m) && is_hidden_by access k.name m (classes_from app k.superclass)

abbrev pub method_named : Name → MethodAccess → Triple
method_named class m = (class, m.name, m.descriptor)

unfoldable pub hidden_of : App → Accesses → Class → List Triple
hidden_of app access k = map (method_named k.name) (filter (is_hidden app access k) (methods_of access k.name))

unfoldable pub hidden : App → Accesses → List Triple
hidden app access = flat_map (hidden_of app access) app.classes

-- Why a device may do more than the machine, as far as app and lists tell: each kind in ascending order and once.
use Rattle.std.specs.Prelude.{if◌then◌else◌, List, [], ◌++◌, map, filter}
use Rattle.app_machine.specs.declared.app.App.{App}
use Rattle.app_machine.specs.declared.lists.Lists.{Lists}
use Rattle.app_machine.specs.Names.{Name}
use Rattle.app_machine.specs.Sound.{name_order}
use Rattle.device_lists.specs.declared.DeviceLists.{DeviceLists}
use Rattle.link_access.specs.Access.{Accesses}
use Rattle.link_listing.specs.Orders.{triple_order}
use Rattle.link_listing.specs.Texts.{Triple}
use Rattle.outcomes.specs.declared.outcome.Cause.{Cause}
use Rattle.outcomes.specs.declared.outcome.Cause.TheVariants.{Hidden, InterfaceCode, PlatformClass, UnlistedClass, LibraryStatic, Click, NamedClass}
use Rattle.outcomes.specs.declared.outcome.MethodName.{MethodName}
use Rattle.outcomes.specs.Ascending.{ascending}
use Rattle.outcomes.specs.Causes.{is_app_class}
use Rattle.outcomes.specs.Spots.{at_spot}
use Rattle.device_causes.specs.Hidden.{hidden}
use Rattle.device_causes.specs.Interfaces.{interface_code}
use Rattle.device_causes.specs.Platform.{platform_classes}
use Rattle.device_causes.specs.Libraries.{unlisted_classes, static_spots}
use Rattle.device_causes.specs.Clicks.{odd_clicks}

-- the method of a class, a name and a descriptor
abbrev pub method_called : Triple → MethodName
method_called m = record { class = m.0; name = m.1; descriptor = m.2 }

-- by class, name and descriptor
abbrev pub methods_told : (MethodName → Cause) → List Triple → List Cause
methods_told cause methods = map (λ method. cause (method_called method)) (ascending triple_order methods)

abbrev pub names_told : (Name → Cause) → List Name → List Cause
names_told cause names = map cause (ascending name_order names)

unfoldable pub hidden_causes : App → Accesses → List Cause
hidden_causes app access = methods_told Hidden (hidden app access)

unfoldable pub interface_causes : Accesses → List Cause
interface_causes access = methods_told InterfaceCode (interface_code access)

unfoldable pub platform_causes : App → Lists → DeviceLists → List Cause
platform_causes app lists device = names_told PlatformClass (platform_classes app lists device)

unfoldable pub unlisted_causes : App → Lists → List Cause
unlisted_causes app lists = names_told UnlistedClass (unlisted_classes app lists)

-- by method and address, in which order the instructions of an app stand
unfoldable pub static_causes : App → Accesses → Lists → List Cause
static_causes app access lists = map (λ spot. LibraryStatic (at_spot app spot)) (static_spots app access lists)

unfoldable pub click_causes : App → Accesses → Lists → List Cause
click_causes app access lists = methods_told Click (odd_clicks app access lists)

unfoldable pub named_causes : App → List Name → List Cause
named_causes app named = names_told NamedClass (filter (is_app_class app) named)

-- those that strict lists ask for
unfoldable pub strict_causes : App → Accesses → Lists → DeviceLists → List Cause
strict_causes app access lists device =
    hidden_causes app access ++ interface_causes access ++ platform_causes app lists device ++ unlisted_causes app lists
    ++ static_causes app access lists ++ click_causes app access lists

-- these, where the lists are strict; and the classes that the manifest says are named elsewhere
unfoldable pub device_causes : App → Accesses → Lists → DeviceLists → List Name → List Cause
device_causes app access lists device named = (if device.strict then strict_causes app access lists device else []) ++ named_causes app named

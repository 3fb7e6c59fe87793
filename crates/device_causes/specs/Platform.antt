-- Classes of the app that have a name of the platform: a device takes the platform's own.
-- Android documentation: a class loader asks its parent first (`java.lang.ClassLoader`).
use Rattle.std.specs.Prelude.{◌||◌, ℕ, nat_eq, nat_lt, Bool, if◌then◌else◌, List, length, map, filter, fold}
use Rattle.std.specs.List.{list_any, starts_with}
use Rattle.app_machine.specs.declared.app.App.{App}
use Rattle.app_machine.specs.declared.app.Class.{Class}
use Rattle.app_machine.specs.declared.lists.Lists.{Lists}
use Rattle.app_machine.specs.declared.lists.LibClass.{LibClass}
use Rattle.app_machine.specs.Names.{Name, same_name}
use Rattle.device_lists.specs.declared.DeviceLists.{DeviceLists}

-- how many bytes the beginning has, where the name has it
abbrev pub fit_length : Name → Name → ℕ
fit_length name start = if starts_with nat_eq name start then length start else 0

abbrev pub longer_fit : Name → ℕ → Name → ℕ
longer_fit name longest start = if nat_lt longest (fit_length name start) then fit_length name start else longest

-- how many the longest of these beginnings has that the name has, and 0 where it has none of them
unfoldable pub longest_fit : List Name → Name → ℕ
longest_fit starts name = fold (longer_fit name) 0 starts

-- the longest that fits is one of the platform
unfoldable pub has_platform_name : DeviceLists → Name → Bool
has_platform_name device name = nat_lt (longest_fit device.bundled name) (longest_fit device.platform name)

-- the lists have a class of this name
unfoldable pub is_library_class : Lists → Name → Bool
is_library_class lists name = list_any (λ (c : LibClass). same_name name c.name) lists.classes

unfoldable pub is_platform_class : Lists → DeviceLists → Name → Bool
is_platform_class lists device name = is_library_class lists name || has_platform_name device name

unfoldable pub platform_classes : App → Lists → DeviceLists → List Name
platform_classes app lists device = filter (is_platform_class lists device) (map (λ (c : Class). c.name) app.classes)

-- What methods of one name and descriptor there are further up, as far as it tells which methods below do not override them.
use Rattle.std.specs.Prelude.{◌&&◌, ◌||◌, not, Bool, true, false, if◌then◌else◌, Option, Some, None}
use Rattle.app_machine.specs.Names.{Name, same_name}
use Rattle.link_access.specs.declared.access.MethodAccess.{MethodAccess}
use Rattle.device_causes.specs.declared.seen.Packages.{Packages}
use Rattle.device_causes.specs.declared.seen.Packages.TheVariants.{Without, One, Several}
use Rattle.device_causes.specs.declared.seen.Seen.{Seen}
use Rattle.device_causes.specs.Hidden.{package_of}

abbrev pub same_package : Name → Name → Bool
same_package a b = same_name (package_of a) (package_of b)

-- some of the packages is not that of the class
abbrev pub is_elsewhere : Packages → Name → Bool
is_elsewhere Without class = false
is_elsewhere (One above) class = not (same_package class above)
is_elsewhere Several class = true

-- the method of the class does not override one of them
abbrev pub seen_hides : Seen → Name → MethodAccess → Bool
seen_hides s class m =
    (m.is_private && (s.statics || s.instances)) || ((if m.is_static then s.instances else s.statics) || is_elsewhere s.packages class)

abbrev pub maybe_hides : Option Seen → Name → MethodAccess → Bool
maybe_hides None class m = false
maybe_hides (Some s) class m = seen_hides s class m

-- with the package of one class more
abbrev pub with_package : Packages → Name → Packages
with_package Without class = One class
with_package (One first) class = if same_package first class then One first else Several
with_package Several class = Several

abbrev pub with_packages : Packages → Name → MethodAccess → Packages
with_packages packages class m = if m.is_open then packages else with_package packages class

abbrev pub begun : Option Seen → Seen
begun None = record { statics = false; instances = false; packages = Without }
begun (Some s) = s

-- with one method more, which is not private
abbrev pub with_method : Seen → Name → MethodAccess → Seen
with_method s class m = record {
  statics = s.statics || m.is_static;
  instances = s.instances || not m.is_static;
  packages = with_packages s.packages class m;
}

-- Causes and findings are told in one order, so that none is told twice.
use Rattle.std.specs.Prelude.{ℕ, List, ◌++◌}
use Rattle.std.specs.List.Sorted.{IsStrictlySortedBy}
use Rattle.std.specs.Ordering.{nat_cmp, ordering_then}
use Rattle.std.specs.declared.cmp.Ordering.{Ordering}
use Rattle.std.specs.declared.cmp.Ordering.TheVariants.{Equal}
use Rattle.app_machine.specs.declared.app.App.{App}
use Rattle.app_machine.specs.declared.lists.Lists.{Lists}
use Rattle.app_machine.specs.declared.papers.Declaration.{Declaration}
use Rattle.app_machine.specs.Names.{Name}
use Rattle.app_machine.specs.Sound.{SoundApp, name_order}
use Rattle.device_lists.specs.declared.DeviceLists.{DeviceLists}
use Rattle.fact_rows.specs.declared.row.Row.{Row}
use Rattle.link_access.specs.Access.{Accesses}
use Rattle.outcomes.specs.declared.outcome.Cause.{Cause}
use Rattle.outcomes.specs.declared.outcome.MethodName.{MethodName}
use Rattle.outcomes.specs.declared.outcome.Cause.TheVariants.{NoSummary, Native, Reflective, Provider, LayoutClass, TooLarge, Hidden, InterfaceCode, PlatformClass, UnlistedClass, LibraryStatic, Click, NamedClass}
use Rattle.outcomes.specs.Causes.{causes_of, causes_too_large}
use Rattle.outcomes.specs.Findings.{finding_order, findings_of}
use Rattle.outcomes.specs.Places.{place_order}
use Rattle.device_causes.specs.DeviceCauses.{device_causes}

-- where the causes of this kind stand in a report
abbrev pub kind : Cause → ℕ
kind (NoSummary place) = 1
kind (Native place) = 2
kind (Reflective place) = 3
kind (Provider class) = 4
kind (LayoutClass class) = 5
kind (TooLarge limit) = 6
kind (Hidden method) = 7
kind (InterfaceCode method) = 8
kind (PlatformClass class) = 9
kind (UnlistedClass class) = 10
kind (LibraryStatic place) = 11
kind (Click method) = 12
kind (NamedClass class) = 13

-- by class, name and descriptor
abbrev pub method_order : MethodName → MethodName → Ordering
method_order m n = ordering_then (ordering_then (name_order m.class n.class) (name_order m.name n.name)) (name_order m.descriptor n.descriptor)

-- two causes of one kind by what they name
abbrev pub named_order : Cause → Cause → Ordering
named_order (NoSummary p) (NoSummary q) = place_order p q
named_order (Native p) (Native q) = place_order p q
named_order (Reflective p) (Reflective q) = place_order p q
named_order (Provider c) (Provider d) = name_order c d
named_order (LayoutClass c) (LayoutClass d) = name_order c d
named_order (Hidden m) (Hidden n) = method_order m n
named_order (InterfaceCode m) (InterfaceCode n) = method_order m n
named_order (PlatformClass c) (PlatformClass d) = name_order c d
named_order (UnlistedClass c) (UnlistedClass d) = name_order c d
named_order (LibraryStatic p) (LibraryStatic q) = place_order p q
named_order (Click m) (Click n) = method_order m n
named_order (NamedClass c) (NamedClass d) = name_order c d
named_order _ _ = Equal

unfoldable pub cause_order : Cause → Cause → Ordering
cause_order a b = ordering_then (nat_cmp (kind a) (kind b)) (named_order a b)

-- each is below all that are told behind it
pub record AreInOrder : Type 0 where
  pub causes :
      (app : App) (rows : List Row) (access : Accesses) (lists : Lists) (device : DeviceLists) (named : List Name) → SoundApp app
      → IsStrictlySortedBy cause_order (causes_of app rows ++ device_causes app access lists device named)
  pub too_large :
      (app : App) (limit : ℕ) (access : Accesses) (lists : Lists) (device : DeviceLists) (named : List Name) → SoundApp app
      → IsStrictlySortedBy cause_order (causes_too_large app limit ++ device_causes app access lists device named)
  pub findings :
      (app : App) (rows : List Row) (lists : Lists) (declaration : Declaration)
      → IsStrictlySortedBy finding_order (findings_of app lists declaration rows)

-- The first fault of DEX files, a manifest and layouts that are no app.
use Rattle.std.specs.Prelude.{◌≡◌, ℕ, List, length, Ok, Err, codes}
use Rattle.vet_base.specs.Script.{run}
use Rattle.vet_base.specs.declared.stop.Stop.{Stop}
use Rattle.vet_base.specs.declared.stop.Stop.TheVariants as stops
use Rattle.dex_tables.specs.declared.dex.Dex.{Dex}
use Rattle.app_machine.specs.declared.papers.Manifest.{Manifest}
use Rattle.app_machine.specs.declared.papers.Layouts.{Layouts}
use Rattle.app_machine.specs.Names.{Name}
use Rattle.link_listing.specs.declared.fault.Fault.{Fault}
use Rattle.link_listing.specs.declared.fault.Fault.TheVariants.{TwoClasses, TwoMembers, NoClass, Circle, Code, TooMany}
use Rattle.link_listing.specs.declared.fault.Limit.{Limit}
use Rattle.link_listing.specs.declared.fault.Limit.TheVariants as limits
use Rattle.app_link.specs.declared.linking.LinkFault.{LinkFault}
use Rattle.app_link.specs.declared.linking.LinkFault.TheVariants as told
use Rattle.link_code.specs.declared.coded.Coded.{Coded}
use Rattle.link_code.specs.Code.{all_codes}
use Rattle.link_code.specs.Units.{units_in}
use Rattle.link_listing.specs.Gathered.{Gathered, gathering}
use Rattle.link_hierarchy.specs.Hierarchy.{NoCircle, IsLeastCircle}
use Rattle.app_link.specs.Limits.{within_limits}

-- The fault is the first: of the gathering of classes, members and components in file order; of the hierarchy, the least class
-- that is above itself; of the code, by the order of methods; of the limits.
pub data FirstFault (dexes : List Dex) (manifest : Manifest) : Fault → Type 0 where
  of_gathering : {fault : Fault} → run (gathering dexes manifest) ≡ Err fault → FirstFault dexes manifest fault
  of_hierarchy : {name : Name} (gathered : Gathered) → run (gathering dexes manifest) ≡ Ok gathered → IsLeastCircle gathered.classes name → FirstFault dexes manifest (Circle name)
  of_code : {fault : Fault} (gathered : Gathered) → run (gathering dexes manifest) ≡ Ok gathered → NoCircle gathered.classes → run (all_codes dexes gathered.methods) ≡ Err fault → FirstFault dexes manifest fault
  of_limits : {fault : Fault} (gathered : Gathered) (coded : List Coded) → run (gathering dexes manifest) ≡ Ok gathered → NoCircle gathered.classes → run (all_codes dexes gathered.methods) ≡ Ok coded
      → run (within_limits (length gathered.classes) (length gathered.methods) (length gathered.fields) (units_in dexes gathered.methods)) ≡ Err fault → FirstFault dexes manifest fault

-- memory ran out, or this is the first fault
abbrev pub StopsAtFirst : List Dex → Manifest → Stop Fault → Type 0
StopsAtFirst dexes manifest stops.Memory = Unit {0}
StopsAtFirst dexes manifest (stops.Fault fault) = FirstFault dexes manifest fault

unfoldable pub limit_word : Limit → List ℕ
limit_word limits.Classes = codes "classes"
limit_word limits.Methods = codes "methods"
limit_word limits.Fields = codes "fields"
limit_word limits.Units = codes "units"

-- faults in the words that a report prints
abbrev pub shown : Fault → LinkFault
shown (TwoClasses class) = told.TwoClasses class
shown (TwoMembers class member) = told.TwoMembers class member
shown (NoClass class) = told.NoClass class
shown (Circle class) = told.Circle class
shown (Code method fault) = told.Code method fault
shown (TooMany limit) = told.TooMany (limit_word limit)

-- the first fault, as it is told; layouts have none
pub record FirstLinkFault (dexes : List Dex) (manifest : Manifest) (layouts : Layouts) (fault : LinkFault) : Type 0 where
  pub found : Fault
  pub first : FirstFault dexes manifest found
  pub shows : fault ≡ shown found

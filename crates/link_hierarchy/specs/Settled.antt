-- Classes whose library classes above are known already.
use Rattle.std.specs.Prelude.{◌≡◌, ◌<◌, ◌⊎◌, ℕ, Bool, true, false, not, ◌||◌, ◌&&◌, List, [], ◌∷◌, flat_map, IsTrue, Option, Some, None, if◌then◌else◌}
use Rattle.std.specs.List.{list_all}
use Rattle.vet_base.specs.declared.stop.Stop.{Stop}
use Rattle.vet_base.specs.declared.stop.Stop.TheVariants as stops
use Rattle.app_machine.specs.declared.app.Class.{Class}
use Rattle.vet_base.specs.Members.{In}
use Rattle.app_machine.specs.Names.{Name}
use Rattle.app_machine.specs.Lookups.{directly_above}
use Rattle.link_listing.specs.declared.fault.Fault.{Fault}
use Rattle.link_listing.specs.declared.fault.Fault.TheVariants.{Circle}
use Rattle.link_hierarchy.specs.Hierarchy.{firsts, IsLeastCircle}
use Rattle.link_listing.specs.Orders.{named, has_name}

abbrev pub Entries : Type 0
Entries = List (Name × Class)

abbrev pub Outers : Type 0
Outers = List (Name × List Name)

-- the class is none of the app, or it is settled
unfoldable pub is_settled : Entries → Outers → Name → Bool
is_settled classes outers above = not (has_name classes above) || has_name outers above

abbrev pub all_settled : Entries → Outers → List Name → Bool
all_settled classes outers names = list_all (is_settled classes outers) names

abbrev pub one_settled : Entries → Outers → Option Name → Bool
one_settled classes outers None = true
one_settled classes outers (Some name) = is_settled classes outers name

-- all that stands directly above the class is settled
unfoldable pub is_ready : Entries → Outers → Class → Bool
is_ready classes outers class = one_settled classes outers class.superclass && all_settled classes outers class.interfaces

abbrev pub listed : Option (List Name) → List Name
listed None = []
listed (Some names) = names

-- what a class or interface gives to those below it
unfoldable pub gives : Entries → Outers → Name → List Name
gives classes outers above = if has_name classes above then listed (named outers above) else above ∷ []

abbrev pub given_to : Entries → Outers → Class → List Name
given_to classes outers class = firsts (flat_map (gives classes outers) (directly_above class))

-- each settled class stands on settled ones of lower rank, and has what they give
pub record Settled (classes : Entries) (outers : Outers) : Type 0 where
  pub rank : Name → ℕ
  pub limit : ℕ
  pub below : (name : Name) → rank name < limit
  pub above : (name above : Name) (class : Class) → named classes name ≡ Some class → IsTrue (has_name outers name) → In above (directly_above class) → IsTrue (has_name classes above)
      → IsTrue (has_name outers above) × (rank above < rank name)
  pub lists : (name : Name) (class : Class) → named classes name ≡ Some class → IsTrue (has_name outers name) → named outers name ≡ Some (given_to classes outers class)

-- each class is settled or left
pub record Covers (classes : Entries) (outers : Outers) (left : List Name) : Type 0 where
  pub each : (name : Name) → IsTrue (has_name classes name) → IsTrue (has_name outers name) ⊎ In name left

-- each is a class that is not settled, and that something unsettled is directly above
pub record IsStuck (classes : Entries) (outers : Outers) (name : Name) : Type 0 where
  pub class : Class
  pub there : named classes name ≡ Some class
  pub unsettled : has_name outers name ≡ false
  pub unready : is_ready classes outers class ≡ false

pub record AreStuck (classes : Entries) (outers : Outers) (left : List Name) : Type 0 where
  pub each : (name : Name) → In name left → IsStuck classes outers name

-- A turn at the name: what was settled stays so, and the name is settled or waits.
pub record Turn (classes : Entries) (old new : Outers) (name : Name) (waits : Bool) : Type 0 where
  pub settled : Settled classes new
  pub stay : (other : Name) → IsTrue (has_name old other) → IsTrue (has_name new other)
  pub done : waits ≡ false → is_settled classes new name ≡ true
  pub stuck : waits ≡ true → (new ≡ old) × IsStuck classes old name

-- every class is settled
pub record AllSettled (classes : Entries) (outers : Outers) : Type 0 where
  pub settled : Settled classes outers
  pub all : (name : Name) → IsTrue (has_name classes name) → IsTrue (has_name outers name)

-- the class with the library classes above it, under the entry's name
abbrev pub filled_by : Outers → Name × Class → Class
filled_by outers entry = record entry.1 { name = entry.0; outer = listed (named outers entry.0) }

-- memory ran out, or the least class is told that is above itself
abbrev pub StopsAtCircle : Entries → Stop Fault → Type 0
StopsAtCircle classes stops.Memory = Unit {0}
StopsAtCircle classes (stops.Fault fault) = (name : Name) × (fault ≡ Circle name) × IsLeastCircle classes name

-- What is kept of the types that were asked for.
use Rattle.std.specs.Prelude.{◌≡◌, ℕ, List, [], Option, Some, None, slice_get, take}
use Rattle.std.specs.List.{All}
use Rattle.app_machine.specs.declared.app.App.{App}
use Rattle.app_machine.specs.declared.lists.Lists.{Lists}
use Rattle.app_machine.specs.Names.{Name}
use Rattle.played_growth.specs.Growth.{Extends}
use Rattle.runner_below.specs.declared.below.Below.{Below}
use Rattle.runner_below.specs.declared.belows.Belows.{Belows}
use Rattle.runner_below.specs.Below.{AreOfFirst}

-- what is kept of a type is so where objects of these classes are there and these places were handed
abbrev pub IsBelow : App → Lists → List Name → List ℕ → Below → Type 0
IsBelow app lists classes handed below = AreOfFirst app lists classes handed below.kind.now below.seen (take below.kept below.places.items)

-- and of each type
abbrev pub AreBelow : App → Lists → List Name → List ℕ → Belows → Type 0
AreBelow app lists classes handed belows = All (IsBelow app lists classes handed) belows.all.items

abbrev pub places_of : Option Below → List ℕ
places_of None = []
places_of (Some below) = below.places.items

-- the places of the type of this number
abbrev pub places_at : Belows → ℕ → List ℕ
places_at belows n = places_of (slice_get belows.all.items n)

-- the type has this number
pub record HasKind (belows : Belows) (kind : Name) (n : ℕ) : Type 0 where
  pub below : Below
  pub there : slice_get belows.all.items n ≡ Some below
  pub is_kind : below.kind.now ≡ kind

-- it stays so while objects and handed places are added
abbrev pub BelowsStay : Type 0
BelowsStay =
    (app : App) (lists : Lists) (classes more : List Name) (handed further : List ℕ) (belows : Belows) →
    Extends classes more → Extends handed further → AreBelow app lists classes handed belows → AreBelow app lists more further belows

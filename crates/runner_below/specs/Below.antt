-- Handed places whose objects are below a type.
use Rattle.std.specs.Prelude.{◌≡◌, ◌<◌, ◌≤◌, ℕ, if◌then◌else◌, List, [], ◌∷◌, Option, filter, length, slice_get, take}
use Rattle.vet_base.specs.Members.{In}
use Rattle.app_machine.specs.declared.app.App.{App}
use Rattle.app_machine.specs.declared.lists.Lists.{Lists}
use Rattle.app_machine.specs.Names.{Name}
use Rattle.played_machine.specs.Reading.{is_of_type}

-- the handed places whose objects are below the type, where objects of these classes are there, by place
abbrev pub below_among : App → Lists → List Name → List ℕ → Name → List ℕ
below_among app lists classes handed kind = filter (λ p. is_of_type app lists kind (slice_get classes p)) handed

-- the place, where an object of the class is below the type
abbrev pub if_below : App → Lists → Name → Option Name → ℕ → List ℕ
if_below app lists kind class p = if is_of_type app lists kind class then p ∷ [] else []

-- of the first so many handed places, each of which has an object, those whose objects are below the type
pub record AreOfFirst (app : App) (lists : Lists) (classes : List Name) (handed : List ℕ) (kind : Name) (seen : ℕ) (places : List ℕ) : Type 0 where
  pub within : seen ≤ length handed
  pub objects : (p : ℕ) → In p (take seen handed) → p < length classes
  pub below : places ≡ below_among app lists classes (take seen handed) kind

-- What is found of the places of a method, and of all methods.
use Rattle.std.specs.Prelude.{◌≡◌, ◌<◌, ◌≤◌, ◌+◌, ◌↔◌, ◌⊎◌, ℕ, List, [], Option, Some, IsTrue, is_some, length, map, slice_get, sum_by}
use Rattle.std.specs.BTreeMap.{BTreeMap, get}
use Rattle.std.specs.declared.vec.Vec.{Vec}
use Rattle.app_machine.specs.declared.method.Step.{Step}
use Rattle.app_machine.specs.declared.app.App.{App}
use Rattle.app_machine.specs.State.{exception_register}
use Rattle.vet_base.specs.Members.{In}
use Rattle.cell_rules.specs.Reading.{ReadAt}
use Rattle.register_readers.specs.declared.places.Place.{Place}
use Rattle.register_readers.specs.contracts.places.PlaceOrd.TheImpl.{ghosts as place_order}
use Rattle.register_readers.specs.Asked.{IsAsked, given_to}
use Rattle.register_readers.specs.Bounds.{most_of_one, most_of_all}

module _ {A : Type 0} where
  -- what stands at the register and the address
  abbrev pub held : BTreeMap Place (Vec ℕ A) → ℕ → ℕ → Option (Vec ℕ A)
  held found r pc = get place_order.cmp found (record { register = r; pc = pc })

  -- the places of a method and their readers, and those of all methods
  abbrev pub places_of : BTreeMap Place (Vec ℕ A) → List (Place × List ℕ)
  places_of found = map (λ (e : Place × Vec ℕ A). (e.0, e.1.items)) found.entries

  abbrev pub places_of_all : List (BTreeMap Place (Vec ℕ A)) → List (List (Place × List ℕ))
  places_of_all methods = map places_of methods

  -- how many readers are listed of a method, and of all methods
  abbrev pub count_of : BTreeMap Place (Vec ℕ A) → ℕ
  count_of found = sum_by (λ (e : Place × Vec ℕ A). length e.1.items) found.entries

  abbrev pub count_of_all : List (BTreeMap Place (Vec ℕ A)) → ℕ
  count_of_all methods = sum_by count_of methods

  -- what stands there are the readers, and few
  pub record IsRight (app : App) (method : ℕ) (found : BTreeMap Place (Vec ℕ A)) : Type 0 where
    pub at : (r pc : ℕ) (own : Vec ℕ A) → held found r pc ≡ Some own → (u : ℕ) → In u own.items ↔ ReadAt app method r pc u
    pub few : (r pc : ℕ) (own : Vec ℕ A) → held found r pc ≡ Some own → length own.items ≤ most_of_one

  -- the places of which P holds are asked at besides
  pub record Asks (P : ℕ → ℕ → Type 0) (old new : BTreeMap Place (Vec ℕ A)) : Type 0 where
    pub kept : (r pc : ℕ) → IsTrue (is_some (held old r pc)) → IsTrue (is_some (held new r pc))
    pub asked : (r pc : ℕ) → P r pc → IsTrue (is_some (held new r pc))

  -- the readers stand there, at each place at which rules ask and where there are any
  pub record IsIndexed (app : App) (method : ℕ) (found : BTreeMap Place (Vec ℕ A)) : Type 0 where
    pub right : IsRight app method found
    pub asked : (r pc : ℕ) → IsAsked app method r pc → IsTrue (is_some (held found r pc)) ⊎ ((u : ℕ) → ReadAt app method r pc u → ⊥)

  -- and so for each method
  pub record AreIndexed (app : App) (methods : List (BTreeMap Place (Vec ℕ A))) : Type 0 where
    pub long : length app.methods ≤ length methods
    pub each : (method : ℕ) (found : BTreeMap Place (Vec ℕ A)) → slice_get methods method ≡ Some found → IsIndexed app method found
    pub few : count_of_all methods ≤ most_of_all

-- behind the step, of a register to which it gives a value, or at a handler of it, of the exception
abbrev pub IsOfStep : Step → ℕ → ℕ → Type 0
IsOfStep step r pc = (In r (given_to step.act) × In pc step.next) ⊎ ((r ≡ exception_register) × In pc step.catches)

abbrev pub IsOfOne : List Step → ℕ → ℕ → Type 0
IsOfOne steps r pc = (step : Step) × In step steps × IsOfStep step r pc

-- behind a step
abbrev pub IsBehindOne : List Step → ℕ → Type 0
IsBehindOne steps pc = (step : Step) × In step steps × In pc step.next

-- one of so many registers from the first on, where the method begins
abbrev pub IsArgument : ℕ → ℕ → ℕ → ℕ → Type 0
IsArgument first count r pc = (i : ℕ) × (i < count) × (r ≡ first + i) × (pc ≡ 0)

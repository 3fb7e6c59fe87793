-- What an index of readers tells: the app, and for each method places with the addresses of steps.
use Rattle.std.specs.Prelude.{◌≤◌, ℕ, List, [], Some, None, length, slice_get, sum_by}
use Rattle.std.specs.BTreeMap.{is_at}
use Rattle.std.specs.Map.{lookup}
use Rattle.app_machine.specs.declared.app.App.{App}
use Rattle.vet_base.specs.Members.{In}
use Rattle.cell_rules.specs.Reading.{ReadAt}
use Rattle.register_readers.specs.declared.places.Place.{Place}
use Rattle.register_readers.specs.contracts.places.PlaceOrd.TheImpl.{ghosts as place_order}
use Rattle.register_readers.specs.Asked.{IsAsked}
use Rattle.register_readers.specs.Bounds.{most_of_one, most_of_all}

pub record Readings : Type 0 where
  pub app : App
  pub methods : List (List (Place × List ℕ))

-- what stands at the place of a register and an address, where something does; and so of a method
abbrev pub listed : List (Place × List ℕ) → ℕ → ℕ → List ℕ
listed places r pc = elim (lookup (is_at (place_order.cmp (record { register = r; pc = pc }))) places) [ Some readers ↦ readers | None ↦ [] ]

abbrev pub listed_in : List (List (Place × List ℕ)) → ℕ → ℕ → ℕ → List ℕ
listed_in methods method r pc = elim (slice_get methods method) [ Some places ↦ listed places r pc | None ↦ [] ]

abbrev pub readers_from : Readings → ℕ → ℕ → ℕ → List ℕ
readers_from readings method r pc = listed_in readings.methods method r pc

-- each step that is listed reads the register, and where rules ask each that does is listed
pub record AreReaders (readings : Readings) : Type 0 where
  pub sound : (method r pc u : ℕ) → In u (readers_from readings method r pc) → ReadAt readings.app method r pc u
  pub complete : (method r pc u : ℕ) → IsAsked readings.app method r pc → ReadAt readings.app method r pc u → In u (readers_from readings method r pc)

-- how many are listed of a method, and of all
abbrev pub count_listed : List (Place × List ℕ) → ℕ
count_listed places = sum_by (λ (e : Place × List ℕ). length e.1) places

-- few are listed at a place, and few in all
pub record AreFew (readings : Readings) : Type 0 where
  pub of_one : (method r pc : ℕ) → length (readers_from readings method r pc) ≤ most_of_one
  pub of_all : sum_by count_listed readings.methods ≤ most_of_all

-- Walks over the initialisers of a class and of those above it.
use Rattle.std.specs.Prelude.{◌≡◌, ℕ, Bool, false, List, [], Option, Some, None, filter_map, slice_get}
use Rattle.app_machine.specs.declared.app.App.{App}
use Rattle.app_machine.specs.declared.app.Class.{Class}
use Rattle.app_machine.specs.Names.{Name}
use Rattle.app_machine.specs.Lookups.{initialiser_of, initialisers_from}
use Rattle.app_model.specs.declared.lookups.initialisers.InitialiserWalk.{InitialiserWalk}
use Rattle.app_model.specs.ClassWalks.{classes_left}

-- the initialisers of these classes
abbrev pub initialisers_among : App → List Class → List ℕ
initialisers_among app classes = filter_map (λ (c : Class). initialiser_of app c.name) classes

-- the initialisers to which the walk still comes
unfoldable pub initialisers_left : App → InitialiserWalk → List ℕ
initialisers_left app walk = initialisers_among app (classes_left app walk.classes)

-- the initialisers of the class and of those above it, where there is one
abbrev pub class_initialisers : App → Option Name → List ℕ
class_initialisers app class = elim class [ None ↦ [] | Some name ↦ initialisers_from app name ]

-- the initialisers of the component's class, and of those above it
unfoldable pub component_initialisers : App → ℕ → List ℕ
component_initialisers app c = elim (slice_get app.components c) [ None ↦ [] | Some component ↦ initialisers_from app component.class ]

-- where the answer is no, the body is the initialiser of no class
abbrev pub MayBeInitialiser : App → ℕ → Bool → Type 0
MayBeInitialiser app body answer = answer ≡ false → (class : Name) → initialiser_of app class ≡ Some body → ⊥

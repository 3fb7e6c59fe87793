-- The events that may come while no frame is there.
-- Android documentation: as in `LifeEvents`; "Input events overview" for clicks; "Processes and threads" for callbacks.
use Rattle.std.specs.Prelude.{◌≡◌, ◌≢◌, ◌==◌, ◌⊎◌, ℕ, zero, suc, ◌+◌, IsTrue, if◌then◌else◌, List, [], ◌∷◌, ◌++◌, length, Option, Some, None, slice_get, filter_map}
use Rattle.vet_base.specs.declared.key_id.KeyId.{KeyId}
use Rattle.app_machine.specs.declared.component.Kind.TheVariants.{Application, Activity}
use Rattle.app_machine.specs.declared.component.Component.{Component}
use Rattle.app_machine.specs.declared.lists.Callback.{Callback}
use Rattle.app_machine.specs.declared.lists.Lists.{Lists}
use Rattle.app_machine.specs.declared.app.App.{App}
use Rattle.vet_base.specs.Members.{In, IsAt}
use Rattle.app_machine.specs.Names.{Name, is_wide, is_reference, click_descriptor}
use Rattle.app_machine.specs.Lookups.{find_body, body_named, initialisers_from, elem_key}
use Rattle.app_machine.specs.Summaries.{Below}
use Rattle.app_machine.specs.Heap.{Value, Object, labelled, ClassAt}
use Rattle.app_machine.specs.State.{World, ComponentState, new_object}
use Rattle.app_machine.specs.LifeEvents.{LifeEvent, life_events}

-- the component is the application object
pub record IsApplication (app : App) (c : ℕ) : Type 0 where
  pub component : Component
  pub there : IsAt app.components c component
  pub kind : component.kind ≡ Application

-- The application comes first: where there is one, the others come to life only after its `onCreate`.
abbrev pub MayBegin : App → World → ℕ → Type 0
MayBegin app w c = (a : ℕ) → IsApplication app a → (a ≡ c) ⊎ ((w.components a).state ≡ 2)

abbrev pub set_component : (ℕ → ComponentState) → ℕ → ComponentState → ℕ → ComponentState
set_component components c new d = if d == c then new else components d

-- a component after an event: without its object where the state is 0
abbrev pub after_event : LifeEvent → Option ℕ → ComponentState
after_event life place = record { state = life.to; place = if life.to == 0 then None else place }

-- the body that runs on an object of the class at an event of its life, at a callback and at a click
abbrev pub life_body : App → Name → LifeEvent → Option ℕ
life_body app class life = body_named app class life.name life.descriptor

abbrev pub callback_body : App → Name → Callback → Option ℕ
callback_body app class callback = find_body app class callback.name callback.proto

abbrev pub click_body : App → Name → Name → Option ℕ
click_body app class name = body_named app class name click_descriptor

-- Event e in the life of component c, of this class: the body that runs, where there is one.
pub record LifeEventAt (app : App) (c e : ℕ) (class : Name) (life : LifeEvent) (body : Option ℕ) : Type 0 where
  pub component : Component
  pub there : IsAt app.components c component
  pub of_class : component.class ≡ class
  pub is_event : IsAt (life_events component.kind) e life
  pub is_body : life_body app class life ≡ body

-- callback row q on component c, whose class is below the row's class and has a body for it
pub record CallbackAt (app : App) (lists : Lists) (c q : ℕ) (sources : List (ℕ × ℕ)) (body : ℕ) : Type 0 where
  pub component : Component
  pub callback : Callback
  pub there : IsAt app.components c component
  pub is_row : IsAt lists.callbacks q callback
  pub same_sources : callback.sources ≡ sources
  pub is_below : Below app lists component.class callback.class
  pub is_body : callback_body app component.class callback ≡ Some body

-- click i on component c, an activity with a body for it
pub record ClickAt (app : App) (c i body : ℕ) : Type 0 where
  pub component : Component
  pub name : Name
  pub there : IsAt app.components c component
  pub is_click : IsAt app.clicks i name
  pub is_activity : component.kind ≡ Activity
  pub is_body : click_body app component.class name ≡ Some body

-- callback row q on an object of the class, which is below the row's class and has a body for it
pub record HandedAt (app : App) (lists : Lists) (q : ℕ) (class : Name) (sources : List (ℕ × ℕ)) (body : ℕ) : Type 0 where
  pub callback : Callback
  pub is_row : IsAt lists.callbacks q callback
  pub same_sources : callback.sources ≡ sources
  pub is_below : Below app lists class callback.class
  pub is_body : callback_body app class callback ≡ Some body

-- an initialiser of the class of component c, or of an app class above it
pub record InitialiserAt (app : App) (c body : ℕ) : Type 0 where
  pub component : Component
  pub there : IsAt app.components c component
  pub is_one : In body (initialisers_from app component.class)

-- An event with a receiver that may come: the body, where there is one, the place of the receiver, the positions whose
-- values come labelled, and the world as it is when the body begins.
pub data Comes (app : App) (lists : Lists) (w : World) : Option ℕ → Option ℕ → List (ℕ × ℕ) → World → Type 0 where
  lives : {c e : ℕ} {class : Name} {life : LifeEvent} {body : Option ℕ} →
      LifeEventAt app c e class life body →
      (w.components c).state ≡ life.from →
      life.from ≢ 0 →
      Comes app lists w body (w.components c).place [] (record w { components = set_component w.components c (after_event life (w.components c).place) })
  is_born : {c e : ℕ} {class : Name} {life : LifeEvent} {body : Option ℕ} →
      LifeEventAt app c e class life body →
      (w.components c).state ≡ 0 →
      life.from ≡ 0 →
      MayBegin app w c →
      Comes app lists w body (Some (length w.heap)) [] (record w { heap = w.heap ++ new_object class ∷ []; components = set_component w.components c (after_event life (Some (length w.heap))) })
  calls_back : {c q body : ℕ} {sources : List (ℕ × ℕ)} →
      CallbackAt app lists c q sources body →
      (w.components c).state ≢ 0 →
      Comes app lists w (Some body) (w.components c).place sources w
  is_clicked : {c i body : ℕ} →
      ClickAt app c i body →
      (w.components c).state ≢ 0 →
      Comes app lists w (Some body) (w.components c).place [] w
  is_handed : {p q body : ℕ} {class : Name} {sources : List (ℕ × ℕ)} →
      In p w.handed →
      ClassAt w.heap p class →
      HandedAt app lists q class sources body →
      Comes app lists w (Some body) (Some p) sources w

-- an initialiser of the class of a component that is not there may come
pub record MayInitialise (app : App) (w : World) (body : ℕ) : Type 0 where
  pub c : ℕ
  pub at : InitialiserAt app c body
  pub absent : (w.components c).state ≡ 0
  pub begins : MayBegin app w c

-- The position of each argument register of an event's body: of the receiver 0, and then of each parameter, a wide one twice.
abbrev pub layout_from : ℕ → List Name → List ℕ
layout_from i [] = []
layout_from i (type ∷ types) = if is_wide type then i ∷ i ∷ layout_from (i + 1) types else i ∷ layout_from (i + 1) types

unfoldable pub layout : List Name → List ℕ
layout types = 0 ∷ layout_from 1 types

-- the type of a position among the parameters, the receiver being 0
abbrev pub parameter_type : List Name → ℕ → Option Name
parameter_type types zero = None
parameter_type types (suc i) = slice_get types i

-- the categories with which the value of a position comes
abbrev pub labels_at : List (ℕ × ℕ) → ℕ → List ℕ
labels_at sources i = filter_map (λ (s : ℕ × ℕ). if s.0 == i then Some s.1 else None) sources

-- an element with the labels, where there are some
abbrev pub labelled_element : List ℕ → List (KeyId × Value)
labelled_element [] = []
labelled_element (l ∷ ls) = (elem_key, labelled (l ∷ ls)) ∷ []

-- The value of a parameter of the type, with these labels, and the heap with it: a blank; or, for a class, a fresh library
-- object or a handed object of that type.
pub data Parameter (app : App) (lists : Lists) (handed : List ℕ) (labels : List ℕ) (type : Name) (heap : List Object) : Value → List Object → Type 0 where
  is_blank : Parameter app lists handed labels type heap (labelled labels) heap
  is_fresh :
      IsTrue (is_reference type) →
      Parameter app lists handed labels type heap (record { place = Some (length heap); labels = labels }) (heap ++ record { class = type; entries = labelled_element labels } ∷ [])
  is_given : {p : ℕ} {class : Name} →
      IsTrue (is_reference type) →
      In p handed →
      ClassAt heap p class →
      Below app lists class type →
      Parameter app lists handed labels type heap (record { place = Some p; labels = labels }) heap

-- The values of the parameters from position i on, and the heap with all of them.
pub data Parameters (app : App) (lists : Lists) (handed : List ℕ) (sources : List (ℕ × ℕ)) (value : ℕ → Value) : ℕ → List Name → List Object → List Object → Type 0 where
  no_more : {i : ℕ} {heap : List Object} → Parameters app lists handed sources value i [] heap heap
  one_more : {i : ℕ} {type : Name} {types : List Name} {heap heap1 heap2 : List Object} →
      Parameter app lists handed (labels_at sources i) type heap (value i) heap1 →
      Parameters app lists handed sources value (i + 1) types heap1 heap2 →
      Parameters app lists handed sources value i (type ∷ types) heap heap2

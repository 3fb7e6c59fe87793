-- How events begin in small worlds.
use Rattle.std.specs.Prelude.{◌≡◌, ℕ, false, List, [], ◌∷◌, ◌++◌, map, length, Some, None, codes}
use Rattle.app_machine.specs.declared.app.App.{App}
use Rattle.app_machine.specs.declared.lists.Lists.{Lists}
use Rattle.app_machine.specs.declared.method.Method.{Method}
use Rattle.app_machine.specs.Events.{layout, set_component}
use Rattle.app_machine.specs.Heap.{Value, Object, blank, labelled}
use Rattle.app_machine.specs.Lookups.{elem_key}
use Rattle.app_machine.specs.Names.{Name}
use Rattle.app_machine.specs.Run.{frame_of, start_world}
use Rattle.app_machine.specs.State.{new_object, value_or_blank, World}
use Rattle.machine_witness.specs.Apps.{activity_with, main_class, on_create}
use Rattle.played_machine.specs.Coming.{Initialiser, Receives, begun, parameters}
use Rattle.played_machine.specs.Local.{playing}
use Rattle.runner_choices.specs.Choices.{born_by, lived_by}

abbrev pub any_class : Name
any_class = codes "Ljava/lang/Object;"

abbrev pub bundle : Name
bundle = codes "Landroid/os/Bundle;"

abbrev pub int : Name
int = codes "I"

abbrev pub long : Name
long = codes "J"

-- the object at the place, with labels
abbrev pub held : ℕ → List ℕ → Value
held p labels = record { place = Some p; labels = labels }

-- the receiver comes with the label 3, and the first parameter with the labels 4 and 5
abbrev pub sources : List (ℕ × ℕ)
sources = (0, 3) ∷ (1, 4) ∷ (1, 5) ∷ []

abbrev pub both : List ℕ
both = 4 ∷ 5 ∷ []

-- an object with a labelled element
abbrev pub full : Object
full = record { class = any_class; entries = (elem_key, labelled both) ∷ [] }

-- what is drawn for parameters, where there is no object
pub record Draws (app : App) (lists : Lists) (bytes : List ℕ) : Type 0 where
  -- a number comes with the labels of its position, and takes no byte; so does a blank of a class, which takes one
  pub of_number : parameters app lists [] sources 1 (int ∷ []) [] bytes ≡ Some ((labelled both ∷ [], []), bytes)
  pub of_class : parameters app lists [] sources 1 (any_class ∷ []) [] (0 ∷ bytes) ≡ Some ((labelled both ∷ [], []), bytes)
  pub no_byte : parameters app lists [] sources 1 (any_class ∷ []) [] [] ≡ None
  pub one_byte : parameters app lists [] sources 1 (any_class ∷ any_class ∷ []) [] (0 ∷ []) ≡ None
  -- a fresh object has the labels itself and in an element, and without labels no element
  pub is_fresh : parameters app lists [] sources 1 (any_class ∷ []) [] (1 ∷ bytes) ≡ Some ((held 0 both ∷ [], full ∷ []), bytes)
  pub without_labels : parameters app lists [] sources 2 (any_class ∷ []) [] (1 ∷ bytes) ≡ Some ((held 0 [] ∷ [], new_object any_class ∷ []), bytes)
  -- the second one's object stands behind the first one's
  pub one_behind_other : parameters app lists [] [] 1 (any_class ∷ any_class ∷ []) [] (1 ∷ 1 ∷ bytes) ≡ Some ((held 0 [] ∷ held 1 [] ∷ [], new_object any_class ∷ new_object any_class ∷ []), bytes)
  -- a place that was handed counts where it has an object: for the second one, the first one's object
  pub not_there : parameters app lists (0 ∷ []) [] 1 (any_class ∷ []) [] (2 ∷ bytes) ≡ Some ((blank ∷ [], []), bytes)
  pub there_then : parameters app lists (0 ∷ []) [] 1 (any_class ∷ any_class ∷ []) [] (1 ∷ 2 ∷ bytes) ≡ Some ((held 0 [] ∷ held 0 [] ∷ [], new_object any_class ∷ []), bytes)

-- A component comes to life as one new object, and without a body nothing runs; in the state 0 it has no object.
pub record Lives (app : App) (lists : Lists) (w : World) (class : Name) (bytes : List ℕ) : Type 0 where
  pub is_born : begun app lists w (born_by w 0 class 2 None) bytes
      ≡ Some (playing (record w { heap = w.heap ++ new_object class ∷ []; components = set_component w.components 0 (record { state = 2; place = Some (length w.heap) }) }) [], bytes)
  pub is_gone : begun app lists w (lived_by w 0 0 None) bytes ≡ Some (playing (record w { components = set_component w.components 0 (record { state = 0; place = None }) }) [], bytes)

-- the method of the small app
abbrev pub created : Method
created = record { at = on_create; is_static = false; is_native = false; registers = 3; ins = 2; steps = [] }

pub record Begins (lists : Lists) (w : World) (bytes : List ℕ) : Type 0 where
  -- the component's object is made first, and then the parameter's
  pub with_both : begun (activity_with []) lists start_world (born_by start_world 0 main_class 2 (Some 0)) (1 ∷ bytes)
      ≡ Some (playing (record start_world { heap = new_object main_class ∷ new_object bundle ∷ []; components = set_component start_world.components 0 (record { state = 2; place = Some 0 }) }) (frame_of 0 created (held 0 [] ∷ held 1 [] ∷ []) false ∷ []), bytes)
  pub too_few : begun (activity_with []) lists start_world (born_by start_world 0 main_class 2 (Some 0)) [] ≡ None
  -- the receiver has its labels too
  pub labelled_receiver : begun (activity_with []) lists start_world (Receives (Some 0) (Some 7) sources start_world) (0 ∷ bytes) ≡ Some (playing start_world (frame_of 0 created (held 7 (3 ∷ []) ∷ labelled both ∷ []) false ∷ []), bytes)
  -- an initialiser has no arguments, and what has no code does not run
  pub initialises : begun (activity_with []) lists w (Initialiser 0) bytes ≡ Some (playing w (frame_of 0 created [] false ∷ []), bytes)
  pub without_code : begun (activity_with []) lists w (Initialiser 1) bytes ≡ Some (playing w [], bytes)

pub record BeginsTell : Type 0 where
  pub draws : (app : App) (lists : Lists) (bytes : List ℕ) → Draws app lists bytes
  pub lives : (app : App) (lists : Lists) (w : World) (class : Name) (bytes : List ℕ) → Lives app lists w class bytes
  pub begins : (lists : Lists) (w : World) (bytes : List ℕ) → Begins lists w bytes
  -- a wide parameter has two registers
  pub wide : (u v w : Value) → map (value_or_blank (u ∷ v ∷ w ∷ [])) (layout (long ∷ int ∷ [])) ≡ u ∷ v ∷ v ∷ w ∷ []

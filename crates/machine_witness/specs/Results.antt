-- Library calls by the kind of their result, and where a class stands below a type.
use Rattle.std.specs.Prelude.{◌≡◌, ◌≢◌, ◌+◌, ℕ, false, List, [], ◌∷◌, ◌++◌, length, Some, None, codes}
use Rattle.app_machine.specs.declared.call.MethodRef.{MethodRef}
use Rattle.app_machine.specs.declared.call.CallKind.TheVariants.{Static, Virtual}
use Rattle.app_machine.specs.declared.method.Act.TheVariants.{Call, Return}
use Rattle.app_machine.specs.declared.app.Key.TheVariants.{Elem}
use Rattle.app_machine.specs.declared.app.App.{App}
use Rattle.app_machine.specs.declared.summary.Gives.TheVariants as gives
use Rattle.app_machine.specs.declared.summary.Summary.{Summary}
use Rattle.app_machine.specs.declared.lists.Lists.{Lists}
use Rattle.vet_base.specs.Members.{In}
use Rattle.app_machine.specs.Names.{Name, array_of}
use Rattle.app_machine.specs.Lookups.{elem_key}
use Rattle.app_machine.specs.Summaries.{Below}
use Rattle.app_machine.specs.Heap.{Value, ClassAt, blank, labelled}
use Rattle.app_machine.specs.State.{result_register, write, World, Frame, object_at}
use Rattle.app_machine.specs.Calls.{hand}
use Rattle.app_machine.specs.Library.{HasObject, CallsLibrary}
use Rattle.app_machine.specs.Run.{Steps}
use Rattle.machine_witness.specs.Apps.{main_class, on_create, step, one_class}
use Rattle.machine_witness.specs.Acts.{frame_at}
use Rattle.machine_witness.specs.Flows.{ref, int, box_class, activity_class, row_of_method}

-- the methods of the box class: one gives a blank, one its argument, one a labelled box, one is virtual, and one is handed a
-- box and gives back one that the library has
abbrev pub gives_blank : MethodRef
gives_blank = ref box_class (codes "a") [] int

abbrev pub gives_same : MethodRef
gives_same = ref box_class (codes "b") (int ∷ []) int

abbrev pub gives_box : MethodRef
gives_box = ref box_class (codes "c") [] box_class

abbrev pub on_receiver : MethodRef
on_receiver = ref box_class (codes "d") [] int

abbrev pub gives_back : MethodRef
gives_back = ref box_class (codes "e") (box_class ∷ []) box_class

abbrev pub back_row : Summary
back_row = record (row_of_method gives_back) { gives = gives.Handed }

-- a box that the lists have below the box class
abbrev pub small_box : Name
small_box = codes "Lvendor/Small;"

unfoldable pub results_lists : Lists
results_lists = record {
  rows = 1000;
  categories = codes "device_id" ∷ [];
  classes = record { name = box_class; above = box_class ∷ []; fallback = None } ∷ record { name = small_box; above = small_box ∷ box_class ∷ []; fallback = None } ∷ [];
  shared = [];
  methods =
      row_of_method gives_blank
      ∷ record (row_of_method gives_same) { gives = gives.Same 0 }
      ∷ record (row_of_method gives_box) { gives = gives.Joined []; source = Some 0 }
      ∷ record (row_of_method on_receiver) { is_static = false }
      ∷ back_row
      ∷ [];
  callbacks = [];
  statics = [];
}

unfoldable pub results_app : App
results_app = record {
  classes = one_class ∷ [];
  methods = record {
    at = on_create;
    is_static = false;
    is_native = false;
    registers = 4;
    ins = 2;
    steps =
        step 0 (Call Static gives_blank []) (1 ∷ [])
        ∷ step 1 (Call Static gives_same (1 ∷ [])) (2 ∷ [])
        ∷ step 2 (Call Static gives_box []) (3 ∷ [])
        ∷ step 3 (Call Virtual on_receiver (1 ∷ [])) (4 ∷ [])
        ∷ step 4 (Call Static gives_back (1 ∷ [])) (5 ∷ [])
        ∷ step 5 (Return None) []
        ∷ [];
  } ∷ [];
  keys = Elem ∷ [];
  statics = [];
  components = [];
  clicks = [];
  providers = [];
  layout_classes = [];
}

-- from that frame in this world the machine comes to the next one, whatever waits
abbrev pub Comes : World → ℕ → (ℕ → Value) → World → (ℕ → Value) → Type 0
Comes w pc registers new after = (fs : List Frame) → Steps results_app results_lists w (frame_at pc registers ∷ fs) new (frame_at (pc + 1) after ∷ fs)

-- the world after an argument in register 1 was handed
abbrev pub with_handed : World → (ℕ → Value) → World
with_handed w r = record w { handed = hand (r 1).place w.handed }

-- The result is a blank, the argument's value, or a new box that is labelled and holds its label; a virtual call on a receiver
-- without a place goes by the name. An argument's object is handed. What is given back is a small box that was handed before,
-- the argument itself, or a component that is there; or it is nothing.
pub record ResultsCome (w : World) (r : ℕ → Value) : Type 0 where
  pub gives_blank : Comes w 0 r w (write r result_register blank)
  pub gives_same : Comes w 1 r (record w { handed = hand (r 1).place w.handed }) (write r result_register (r 1))
  pub gives_box : Comes w 2 r (record w { heap = w.heap ++ record { class = box_class; entries = (elem_key, labelled (0 ∷ [])) ∷ [] } ∷ [] }) (write r result_register (record { place = Some (length w.heap); labels = 0 ∷ [] }))
  pub on_nothing : (r 1).place ≡ None → Comes w 3 r w (write r result_register blank)
  pub nothing_back : Comes w 4 r (with_handed w r) (write r result_register blank)
  pub handed_back : (p : ℕ) → In p w.handed → ClassAt w.heap p small_box → Comes w 4 r (with_handed w r) (write r result_register (object_at (Some p)))
  pub itself_back : (p : ℕ) → (r 1).place ≡ Some p → ClassAt w.heap p small_box → Comes w 4 r (with_handed w r) (write r result_register (object_at (Some p)))
  pub component_back : (c p : ℕ) → (w.components c).state ≢ 0 → (w.components c).place ≡ Some p → ClassAt w.heap p small_box → Comes w 4 r (with_handed w r) (write r result_register (object_at (Some p)))
  -- no other object comes back
  pub no_other_back : (new : World) (v : Value) (p : ℕ) → CallsLibrary results_app results_lists w (frame_at 4 r) (1 ∷ []) box_class back_row new v → v.place ≡ Some p → HasObject w new.handed p
  pub none_of_another_class : (new : World) (v : Value) (p : ℕ) → CallsLibrary results_app results_lists w (frame_at 4 r) (1 ∷ []) box_class back_row new v → v.place ≡ Some p → (class : Name) × (ClassAt w.heap p class × Below results_app results_lists class box_class)

abbrev pub EachResultComes : Type 0
EachResultComes = (w : World) (r : ℕ → Value) → ResultsCome w r

-- a class is below itself, below `Object`, below what stands above it in the app, and below what the lists have above it; an
-- array is below `Cloneable`, and below an array of what its elements are below, but no array of numbers below one of objects
pub record StandsBelow : Type 0 where
  pub itself : Below results_app results_lists main_class main_class
  pub object : Below results_app results_lists main_class (codes "Ljava/lang/Object;")
  pub superclass : Below results_app results_lists main_class activity_class
  pub listed : Below results_app results_lists small_box box_class
  pub array : Below results_app results_lists (array_of main_class) (codes "Ljava/lang/Cloneable;")
  pub elements : Below results_app results_lists (array_of (array_of small_box)) (array_of (array_of box_class))
  pub no_numbers : Below results_app results_lists (codes "[I") (codes "[Ljava/lang/Object;") → ⊥

abbrev pub ClassesStandBelow : Type 0
ClassesStandBelow = StandsBelow

-- A method with every act, and the steps that the machine takes in it from any world and registers.
use Rattle.std.specs.Prelude.{◌≡◌, ℕ, false, List, [], ◌∷◌, ◌++◌, length, Some, None, option_to_list, codes}
use Rattle.vet_base.specs.declared.key_id.KeyId.{KeyId}
use Rattle.app_machine.specs.declared.method.Act.TheVariants.{Skip, Join, Move, Blank, New, Fill, Get, Put, GetStatic, PutStatic, Return, TakeResult, TakeException, Go}
use Rattle.app_machine.specs.declared.app.Key.{Key}
use Rattle.app_machine.specs.declared.app.Key.TheVariants.{Elem, Field}
use Rattle.app_machine.specs.declared.app.App.{App}
use Rattle.app_machine.specs.declared.lists.Lists.{Lists}
use Rattle.app_machine.specs.Names.{Name}
use Rattle.app_machine.specs.Lookups.{elem_key}
use Rattle.app_machine.specs.Summaries.{static_source}
use Rattle.app_machine.specs.Heap.{Value, Object, blank, labelled, EntryAt, put_to}
use Rattle.app_machine.specs.State.{result_register, exception_register, write, write_all, World, Frame, object_at, new_object}
use Rattle.app_machine.specs.Run.{Steps}
use Rattle.machine_witness.specs.Apps.{main_class, on_create, step, one_class}

-- the one instance field and its key
abbrev pub number_field : Key
number_field = Field main_class (codes "n") (codes "I")

abbrev pub field_key : KeyId
field_key = record { 0 = 1 }

abbrev pub ints : Name
ints = codes "[I"

unfoldable pub acts_app : App
acts_app = record {
  classes = one_class ∷ [];
  methods = record {
    at = on_create;
    is_static = false;
    is_native = false;
    registers = 4;
    ins = 2;
    steps =
        step 0 Skip (1 ∷ [])
        ∷ step 1 Go (2 ∷ 9 ∷ [])
        ∷ step 2 (Blank (0 ∷ [])) (3 ∷ [])
        ∷ step 3 (Move (0 ∷ []) 1) (4 ∷ [])
        ∷ step 4 (TakeResult (0 ∷ [])) (5 ∷ [])
        ∷ step 5 (TakeException 0) (6 ∷ [])
        ∷ step 6 (Join (0 ∷ []) (1 ∷ [])) (7 ∷ [])
        ∷ step 7 (New 0 main_class None) (8 ∷ [])
        ∷ step 8 (Fill (1 ∷ []) ints) (9 ∷ [])
        ∷ step 9 (Get (0 ∷ []) 1 elem_key) (10 ∷ [])
        ∷ step 10 (Get (0 ∷ []) 1 field_key) (11 ∷ [])
        ∷ step 11 (Put 0 field_key 1) (12 ∷ [])
        ∷ step 12 (GetStatic (0 ∷ []) 0) (13 ∷ [])
        ∷ step 13 (PutStatic 0 1) (14 ∷ [])
        ∷ step 14 (New 0 ints (Some 1)) (15 ∷ [])
        ∷ step 15 (Return None) []
        ∷ [];
  } ∷ [];
  keys = Elem ∷ number_field ∷ [];
  statics = (main_class, codes "s", codes "I") ∷ [];
  components = [];
  clicks = [];
  providers = [];
  layout_classes = [];
}

abbrev pub frame_at : ℕ → (ℕ → Value) → Frame
frame_at pc registers = record { method = 0; pc = pc; registers = registers; initialises = false }

-- the heap with one more object
abbrev pub with_object : World → Object → World
with_object w object = record w { heap = w.heap ++ object ∷ [] }

-- from that frame in this world the machine comes to the other, whatever waits
abbrev pub ComesTo : World → ℕ → (ℕ → Value) → World → ℕ → (ℕ → Value) → Type 0
ComesTo w pc registers new to after =
    (lists : Lists) (fs : List Frame) → Steps acts_app lists w (frame_at pc registers ∷ fs) new (frame_at to after ∷ fs)

-- Each act does its step: which registers it writes and with what, and what becomes of heap and statics.
pub record EachActSteps (w : World) (r : ℕ → Value) : Type 0 where
  pub skips : ComesTo w 0 r w 1 r
  pub goes : ComesTo w 1 r w 2 r
  pub branches : ComesTo w 1 r w 9 r
  pub blanks : ComesTo w 2 r w 3 (write_all r (0 ∷ []) blank)
  pub moves : ComesTo w 3 r w 4 (write_all r (0 ∷ []) (r 1))
  pub takes_result : ComesTo w 4 r w 5 (write_all r (0 ∷ []) (r result_register))
  pub takes_exception : ComesTo w 5 r w 6 (write r 0 (r exception_register))
  pub joins : ComesTo w 6 r w 7 (write_all r (0 ∷ []) (labelled (r 1).labels))
  pub makes : ComesTo w 7 r (with_object w (new_object main_class)) 8 (write r 0 (object_at (Some (length w.heap))))
  pub fills : ComesTo w 8 r (with_object w (record { class = ints; entries = (elem_key, r 1) ∷ [] })) 9 (write r result_register (object_at (Some (length w.heap))))
  pub gets_element : (p : ℕ) (v : Value) → (r 1).place ≡ Some p → EntryAt w.heap p elem_key v → ComesTo w 9 r w 10 (write_all r (0 ∷ []) v)
  pub gets_no_element : ComesTo w 9 r w 10 (write_all r (0 ∷ []) blank)
  pub gets_field : (p : ℕ) (v : Value) → (r 1).place ≡ Some p → EntryAt w.heap p field_key v → ComesTo w 10 r w 11 (write_all r (0 ∷ []) v)
  pub gets_no_field : (r 1).place ≡ None → ComesTo w 10 r w 11 (write_all r (0 ∷ []) blank)
  pub puts : ComesTo w 11 r (record w { heap = put_to w.heap (r 0).place field_key (r 1) }) 12 r
  -- with the label that the lists give the static
  pub gets_static : (lists : Lists) (fs : List Frame) →
      Steps acts_app lists w (frame_at 12 r ∷ fs) w (frame_at 13 (write_all r (0 ∷ []) (record { place = (w.statics 0).place; labels = option_to_list (static_source acts_app lists 0) ++ (w.statics 0).labels })) ∷ fs)
  pub puts_static : ComesTo w 13 r (record w { statics = write w.statics 0 (r 1) }) 14 r
  pub makes_array : ComesTo w 14 r (with_object w (new_object ints)) 15 (write r 0 (record { place = Some (length w.heap); labels = (r 1).labels }))

abbrev pub ActsStep : Type 0
ActsStep = (w : World) (r : ℕ → Value) → EachActSteps w r

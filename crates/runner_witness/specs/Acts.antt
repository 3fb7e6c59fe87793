-- What instructions do in small registers.
use Rattle.std.specs.Prelude.{◌≡◌, ◌==◌, ℕ, if◌then◌else◌, List, [], ◌∷◌, ◌++◌, length, Some, None}
use Rattle.vet_base.specs.declared.key_id.KeyId.{KeyId}
use Rattle.app_machine.specs.declared.app.App.{App}
use Rattle.app_machine.specs.declared.lists.Lists.{Lists}
use Rattle.app_machine.specs.declared.method.Act.{Act}
use Rattle.app_machine.specs.declared.method.Act.TheVariants.{Join, Move, Blank, New, Fill, Get, Put, PutStatic, Return, Throw, TakeResult, TakeException}
use Rattle.app_machine.specs.Heap.{Value, Object, blank, labelled}
use Rattle.app_machine.specs.Lookups.{elem_key}
use Rattle.app_machine.specs.Names.{Name}
use Rattle.app_machine.specs.State.{exception_register, new_object, object_at, result_register, World}
use Rattle.runner_local.specs.Changed.{changed, read_by, written}

-- register 2 holds the object at the place 0, with the label 5; register 3 the label 4, the result 6 and the exception 7
abbrev pub held : Value
held = record { place = Some 0; labels = 5 ∷ [] }

abbrev pub known : ℕ → Value
known r =
    if r == 2 then held else (if r == 3 then labelled (4 ∷ []) else (if r == result_register then labelled (6 ∷ []) else (if r == exception_register then labelled (7 ∷ []) else blank)))

-- the value of a register after an act that was given this value by the script
abbrev pub after : App → Lists → World → Act → Value → ℕ → Value
after app lists w act v r = written app lists w known act v r

-- an object with an element and a field
abbrev pub field_key : KeyId
field_key = record { 0 = 1 }

abbrev pub holder : Name → Object
holder class = record { class = class; entries = (elem_key, labelled (8 ∷ [])) ∷ (field_key, labelled (9 ∷ [])) ∷ [] }

pub record Writes (app : App) (lists : Lists) (w : World) (v : Value) : Type 0 where
  -- a join has the labels of all its sources, and no place; it writes each of its registers, and no other
  pub joins_all : after app lists w (Join (1 ∷ []) (2 ∷ 3 ∷ [])) v 1 ≡ labelled (4 ∷ 5 ∷ [])
  pub joins_to_all : after app lists w (Join (1 ∷ 9 ∷ []) (3 ∷ [])) v 9 ≡ labelled (4 ∷ [])
  pub joins_no_other : after app lists w (Join (1 ∷ []) (3 ∷ [])) v 2 ≡ held
  -- a move takes the place too
  pub moves : after app lists w (Move (1 ∷ []) 2) v 1 ≡ held
  pub blanks : after app lists w (Blank (2 ∷ [])) v 2 ≡ blank
  pub gets : (k : KeyId) → after app lists w (Get (1 ∷ []) 2 k) v 1 ≡ v
  pub takes_the_result : after app lists w (TakeResult (1 ∷ [])) v 1 ≡ labelled (6 ∷ [])
  pub takes_the_exception : after app lists w (TakeException 1) v 1 ≡ labelled (7 ∷ [])
  -- what returns and throws writes nothing
  pub returns : written app lists w known (Return (Some 2)) v ≡ known
  pub throws : written app lists w known (Throw 2) v ≡ known

pub record Makes (app : App) (lists : Lists) (w : World) (v : Value) (class : Name) : Type 0 where
  -- a new array has the labels of its size, and another object none
  pub sized : (changed app lists w known (New 1 class (Some 3)) v).1 1 ≡ record { place = Some (length w.heap); labels = 4 ∷ [] }
  pub plain : (changed app lists w known (New 1 class None) v).1 1 ≡ object_at (Some (length w.heap))
  pub is_new : (changed app lists w known (New 1 class None) v).0.heap ≡ w.heap ++ new_object class ∷ []
  -- the last element of a filled array stands in front, and the array is the result
  pub fills : (changed app lists w known (Fill (3 ∷ 2 ∷ []) class) v).0.heap ≡ w.heap ++ record { class = class; entries = (elem_key, held) ∷ (elem_key, labelled (4 ∷ [])) ∷ [] } ∷ []
  pub filled : (changed app lists w known (Fill (3 ∷ 2 ∷ []) class) v).1 result_register ≡ object_at (Some (length w.heap))

pub record Puts (app : App) (lists : Lists) (w : World) (v : Value) (class : Name) : Type 0 where
  -- a put to no object does nothing; one of an element adds, and one of a field takes the place of the value before
  pub nowhere : (k : KeyId) → (changed app lists w known (Put 3 k 2) v).0 ≡ w
  pub element : (changed app lists (record w { heap = holder class ∷ [] }) known (Put 2 elem_key 3) v).0.heap
      ≡ record { class = class; entries = (elem_key, labelled (4 ∷ [])) ∷ (elem_key, labelled (8 ∷ [])) ∷ (field_key, labelled (9 ∷ [])) ∷ [] } ∷ []
  pub field : (changed app lists (record w { heap = holder class ∷ [] }) known (Put 2 field_key 3) v).0.heap
      ≡ record { class = class; entries = (field_key, labelled (4 ∷ [])) ∷ (elem_key, labelled (8 ∷ [])) ∷ [] } ∷ []
  pub static : (changed app lists w known (PutStatic 6 2) v).0.statics 6 ≡ held
  pub no_other_static : (changed app lists w known (PutStatic 6 2) v).0.statics 7 ≡ w.statics 7

-- A get of an element takes a byte also where there is no element; one of a field, one of no object, and other acts take none.
pub record Reads (class : Name) (bytes : List ℕ) : Type 0 where
  pub chooses : read_by (holder class ∷ []) known (Get (1 ∷ []) 2 elem_key) (0 ∷ bytes) ≡ Some (labelled (8 ∷ []), bytes)
  pub or_a_blank : read_by (holder class ∷ []) known (Get (1 ∷ []) 2 elem_key) (1 ∷ bytes) ≡ Some (blank, bytes)
  pub too_few : read_by (new_object class ∷ []) known (Get (1 ∷ []) 2 elem_key) [] ≡ None
  pub of_field : read_by (holder class ∷ []) known (Get (1 ∷ []) 2 field_key) bytes ≡ Some (labelled (9 ∷ []), bytes)
  pub no_field : read_by (new_object class ∷ []) known (Get (1 ∷ []) 2 field_key) bytes ≡ Some (blank, bytes)
  pub of_nothing : (k : KeyId) → read_by (holder class ∷ []) known (Get (1 ∷ []) 3 k) bytes ≡ Some (blank, bytes)
  pub by_others : read_by (holder class ∷ []) known (Move (1 ∷ []) 2) bytes ≡ Some (blank, bytes)

pub record ActsTell : Type 0 where
  pub writes : (app : App) (lists : Lists) (w : World) (v : Value) → Writes app lists w v
  pub makes : (app : App) (lists : Lists) (w : World) (v : Value) (class : Name) → Makes app lists w v class
  pub puts : (app : App) (lists : Lists) (w : World) (v : Value) (class : Name) → Puts app lists w v class
  pub reads : (class : Name) (bytes : List ℕ) → Reads class bytes

-- A library call, by what the lists say of it. Every value is read from the state before the call.
use Rattle.std.specs.Prelude.{◌≡◌, ◌≢◌, ◌⊎◌, ◌↔◌, ℕ, false, IsTrue, IsFalse, if◌then◌else◌, List, [], ◌∷◌, ◌++◌, length, drop, map, Option, Some, None, slice_get}
use Rattle.vet_base.specs.declared.key_id.KeyId.{KeyId}
use Rattle.app_machine.specs.declared.call.MethodRef.{MethodRef}
use Rattle.app_machine.specs.declared.call.CallKind.{CallKind}
use Rattle.app_machine.specs.declared.summary.Gives.{Gives}
use Rattle.app_machine.specs.declared.summary.Gives.TheVariants.{Blank, Same, Taken, Joined, Shared, Handed}
use Rattle.app_machine.specs.declared.summary.Summary.{Summary}
use Rattle.app_machine.specs.declared.lists.SummaryId.{SummaryId}
use Rattle.app_machine.specs.declared.lists.Lists.{Lists}
use Rattle.app_machine.specs.declared.app.App.{App}
use Rattle.vet_base.specs.Members.{In}
use Rattle.app_machine.specs.Names.{Name, is_wide, is_reference, is_void}
use Rattle.app_machine.specs.Lookups.{elem_key, is_static_call, Library}
use Rattle.app_machine.specs.Summaries.{library_key, summary, Below}
use Rattle.app_machine.specs.Heap.{Value, Object, blank, labelled, EntryAt, ClassAt, Reaches, add_all, Gets}
use Rattle.app_machine.specs.State.{write, shared_static, Arrival, World, Frame, object_at, new_object}
use Rattle.app_machine.specs.Calls.{CallsTo}

-- The first register of each position of a call: of the receiver, where there is one, and of each argument.
abbrev pub first_registers : List Name → List ℕ → List ℕ
first_registers [] xs = []
first_registers (type ∷ types) [] = []
first_registers (type ∷ types) (x ∷ xs) = x ∷ first_registers types (if is_wide type then drop 1 xs else xs)

abbrev pub with_receiver : List Name → List ℕ → List ℕ
with_receiver types [] = []
with_receiver types (x ∷ xs) = x ∷ first_registers types xs

unfoldable pub positions : CallKind → MethodRef → List ℕ → List ℕ
positions kind at args = if is_static_call kind then first_registers at.proto.params args else with_receiver at.proto.params args

-- the value of a position
abbrev pub value_at : Frame → List ℕ → ℕ → Value
value_at f places i = elim (slice_get places i) [ Some x ↦ f.registers x | None ↦ blank ]

-- the position is one of the row's sinks, of this category
abbrev pub IsSink : Summary → ℕ → ℕ → Type 0
IsSink row sink i = (is : List ℕ) × (row.sink ≡ Some (sink, is)) × In i is

-- the label comes to a sink position of the call
pub record AtSink (heap : List Object) (f : Frame) (places : List ℕ) (row : Summary) (a : Arrival) : Type 0 where
  pub at : ℕ
  pub is_sink : IsSink row a.sink at
  pub keys : List KeyId
  pub walk : Reaches heap (value_at f places at) keys a.label
  pub method : a.method ≡ f.method
  pub pc : a.pc ≡ f.pc

-- the place is that of a position's value
pub record Hands (f : Frame) (places : List ℕ) (p : ℕ) : Type 0 where
  pub at : ℕ
  pub place : (value_at f places at).place ≡ Some p

-- the shared objects that a store names, and that the result of a method with a result names
abbrev pub result_shared : Gives → List ℕ
result_shared (Shared i) = i ∷ []
result_shared Blank = []
result_shared (Same i) = []
result_shared (Taken i) = []
result_shared (Joined from) = []
result_shared Handed = []

abbrev pub shared_named : Summary → Name → List ℕ
shared_named row ret = map (λ (s : ℕ × ℕ). s.1) row.stores ++ (if is_void ret then [] else result_shared row.gives)

-- the class of a shared object
unfoldable pub shared_class : Lists → ℕ → Option Name
shared_class lists i = elim (slice_get lists.shared i) [ None ↦ None | Some s ↦ Some s.1 ]

-- each of these shared objects that is not there yet is made, without entries, and put into its static
pub data MakesShared (app : App) (lists : Lists) : List ℕ → List Object → (ℕ → Value) → List Object → (ℕ → Value) → Type 0 where
  all_there : {heap : List Object} {statics : ℕ → Value} → MakesShared app lists [] heap statics heap statics
  is_there : {i p : ℕ} {more : List ℕ} {heap heap' : List Object} {statics statics' : ℕ → Value} →
      (statics (shared_static app i)).place ≡ Some p →
      MakesShared app lists more heap statics heap' statics' →
      MakesShared app lists (i ∷ more) heap statics heap' statics'
  is_made : {i : ℕ} {class : Name} {more : List ℕ} {heap heap' : List Object} {statics statics' : ℕ → Value} →
      (statics (shared_static app i)).place ≡ None →
      shared_class lists i ≡ Some class →
      MakesShared app lists more (heap ++ new_object class ∷ []) (write statics (shared_static app i) (object_at (Some (length heap)))) heap' statics' →
      MakesShared app lists (i ∷ more) heap statics heap' statics'

-- the label is of the row's source, or reaches from one of the positions by some keys
abbrev pub Joins : List Object → Frame → List ℕ → List ℕ → Option ℕ → ℕ → Type 0
Joins heap f places from source l = (source ≡ Some l) ⊎ ((i : ℕ) × In i from × ((ks : List KeyId) × Reaches heap (value_at f places i) ks l))

abbrev pub AreJoined : List Object → Frame → List ℕ → List ℕ → Option ℕ → List ℕ → Type 0
AreJoined heap f places from source labels = (l : ℕ) → In l labels ↔ Joins heap f places from source l

-- A new object of a joined result: it also holds one element without a place that has its labels.
abbrev pub joined_object : Name → List ℕ → Object
joined_object class labels = record { class = class; entries = (elem_key, labelled labels) ∷ [] }

-- The library has the object at the place: it was handed it, or it is a component that is there.
pub data HasObject (w : World) (handed : List ℕ) : ℕ → Type 0 where
  was_handed : {p : ℕ} →
      In p handed →
      HasObject w handed p
  is_live :
      (c : ℕ) {p : ℕ} →
      (w.components c).state ≢ 0 →
      (w.components c).place ≡ Some p →
      HasObject w handed p

-- The result, of the type ret, from the world and frame before, the places that are handed with those of this call, and the
-- statics and heap with the shared objects; and the heap with the result. A void method has a blank one.
pub data Results (app : App) (lists : Lists) (w : World) (handed : List ℕ) (f : Frame) (places : List ℕ) (source : Option ℕ) (ret : Name) (statics : ℕ → Value) (heap : List Object) : Gives → List Object → Value → Type 0 where
  of_void : {gives : Gives} →
      IsTrue (is_void ret) →
      Results app lists w handed f places source ret statics heap gives heap blank
  as_blank :
      IsFalse (is_void ret) →
      Results app lists w handed f places source ret statics heap Blank heap blank
  as_same : {i : ℕ} →
      IsFalse (is_void ret) →
      Results app lists w handed f places source ret statics heap (Same i) heap (value_at f places i)
  as_taken : {i : ℕ} {v : Value} →
      IsFalse (is_void ret) →
      Gets w.heap (value_at f places i) elem_key v →
      Results app lists w handed f places source ret statics heap (Taken i) heap v
  as_shared : {i : ℕ} →
      IsFalse (is_void ret) →
      Results app lists w handed f places source ret statics heap (Shared i) heap (statics (shared_static app i))
  as_labels : {from labels : List ℕ} →
      IsFalse (is_void ret) →
      IsFalse (is_reference ret) →
      AreJoined w.heap f places from source labels →
      Results app lists w handed f places source ret statics heap (Joined from) heap (labelled labels)
  as_object : {from labels : List ℕ} →
      IsFalse (is_void ret) →
      IsTrue (is_reference ret) →
      AreJoined w.heap f places from source labels →
      Results app lists w handed f places source ret statics heap (Joined from) (heap ++ joined_object ret labels ∷ []) (record { place = Some (length heap); labels = labels })
  -- an object that the library has, whose class is below the type, or a blank
  as_nothing :
      IsFalse (is_void ret) →
      Results app lists w handed f places source ret statics heap Handed heap blank
  as_given_back : {p : ℕ} {class : Name} →
      IsTrue (is_reference ret) →
      HasObject w handed p →
      ClassAt w.heap p class →
      Below app lists class ret →
      Results app lists w handed f places source ret statics heap Handed heap (object_at (Some p))

-- the value becomes an element of the object at the place, by a put, a store or a copy of the row
pub data Adds (app : App) (before : List Object) (f : Frame) (places : List ℕ) (statics : ℕ → Value) (row : Summary) : ℕ × Value → Type 0 where
  by_put :
      (i j : ℕ) {p : ℕ} →
      In (i, j) row.puts →
      (value_at f places j).place ≡ Some p →
      Adds app before f places statics row (p, value_at f places i)
  by_store :
      (i s : ℕ) {p : ℕ} →
      In (i, s) row.stores →
      (statics (shared_static app s)).place ≡ Some p →
      Adds app before f places statics row (p, value_at f places i)
  by_copy :
      (i j q : ℕ) {p : ℕ} {v : Value} →
      In (i, j) row.copies →
      (value_at f places i).place ≡ Some q →
      EntryAt before q elem_key v →
      (value_at f places j).place ≡ Some p →
      Adds app before f places statics row (p, v)

-- A call with these positions and this result type, by its row: the world after it, and its result.
pub record CallsLibrary (app : App) (lists : Lists) (w : World) (f : Frame) (places : List ℕ) (ret : Name) (row : Summary) (new : World) (result : Value) : Type 0 where
  pub with_shared : List Object
  pub with_result : List Object
  pub added : List (ℕ × Value)
  pub handed : (p : ℕ) → In p new.handed ↔ (In p w.handed ⊎ Hands f places p)
  pub arrivals : (a : Arrival) → In a new.arrivals ↔ (In a w.arrivals ⊎ AtSink w.heap f places row a)
  pub shared : MakesShared app lists (shared_named row ret) w.heap w.statics with_shared new.statics
  pub results : Results app lists w new.handed f places row.source ret new.statics with_shared row.gives with_result result
  pub adds : (a : ℕ × Value) → In a added ↔ Adds app w.heap f places new.statics row a
  pub heap : new.heap ≡ add_all with_result added
  pub components : new.components ≡ w.components

-- the call comes to a library class that has a row or default for it, which is not reflective
pub record UsesRow (app : App) (lists : Lists) (heap : List Object) (f : Frame) (kind : CallKind) (at : MethodRef) (args : List ℕ) (row : Summary) : Type 0 where
  pub class : Name
  pub goes : CallsTo app heap f kind at args (Library class)
  pub key : SummaryId
  pub is_key : library_key app lists class at.name at.proto (is_static_call kind) ≡ Some key
  pub is_row : summary lists key at (is_static_call kind) ≡ Some row
  pub plain : row.reflective ≡ false

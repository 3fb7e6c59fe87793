-- Steps of the running frame within its method.
-- Android documentation, Dalvik bytecode: "Summary of bytecode set".
use Rattle.std.specs.Prelude.{◌≡◌, ◌==◌, ◌↔◌, ℕ, Bool, false, List, [], ◌∷◌, ◌++◌, length, Option, Some, option_to_list}
use Rattle.vet_base.specs.declared.key_id.KeyId.{KeyId}
use Rattle.app_machine.specs.declared.lists.Lists.{Lists}
use Rattle.app_machine.specs.declared.app.App.{App}
use Rattle.app_machine.specs.declared.method.Act.{Act}
use Rattle.app_machine.specs.declared.method.Act.TheVariants.{Skip, Join, Move, Blank, New, Fill, Get, Put, GetStatic, PutStatic, Call, TakeResult, TakeException, Go}
use Rattle.vet_base.specs.Members.{In}
use Rattle.app_machine.specs.Names.{Name}
use Rattle.app_machine.specs.Lookups.{elem_key, ActAt, Goes}
use Rattle.app_machine.specs.Summaries.{static_source}
use Rattle.app_machine.specs.Heap.{Value, blank, labelled, put_to, Gets}
use Rattle.app_machine.specs.State.{result_register, exception_register, holds, write_all, write, World, Frame, object_at, new_object}

-- the elements of a filled array are the values of the registers
abbrev pub AreElements : Frame → List ℕ → List (KeyId × Value) → Type 0
AreElements f xs entries = (e : KeyId × Value) → In e entries ↔ ((x : ℕ) × In x xs × (e ≡ (elem_key, f.registers x)))

-- the labels are those that the registers' values have themselves
abbrev pub AreOwnLabels : Frame → List ℕ → List ℕ → Type 0
AreOwnLabels f xs labels = (l : ℕ) → In l labels ↔ ((x : ℕ) × In x xs × In l (f.registers x).labels)

-- whether the act writes the register: a destination, or RES for a call and a filled array
abbrev pub writes : Act → ℕ → Bool
writes (Join ds xs) r = holds ds r
writes (Move ds x) r = holds ds r
writes (Blank ds) r = holds ds r
writes (New d class size) r = r == d
writes (Fill xs class) r = r == result_register
writes (Get ds o k) r = holds ds r
writes (GetStatic ds g) r = holds ds r
writes (Call kind at args) r = r == result_register
writes (TakeResult ds) r = holds ds r
writes (TakeException d) r = r == d
writes act r = false

pub data Local (app : App) (lists : Lists) : World → Frame → World → Frame → Type 0 where
  skips : {w : World} {f : Frame} {pc : ℕ} →
      ActAt app f.method f.pc Skip →
      Goes app f.method f.pc pc →
      Local app lists w f w (record f { pc = pc })
  goes : {w : World} {f : Frame} {pc : ℕ} →
      ActAt app f.method f.pc Go →
      Goes app f.method f.pc pc →
      Local app lists w f w (record f { pc = pc })
  blanks : {w : World} {f : Frame} {pc : ℕ} {ds : List ℕ} →
      ActAt app f.method f.pc (Blank ds) →
      Goes app f.method f.pc pc →
      Local app lists w f w (record f { pc = pc; registers = write_all f.registers ds blank })
  moves : {w : World} {f : Frame} {pc x : ℕ} {ds : List ℕ} →
      ActAt app f.method f.pc (Move ds x) →
      Goes app f.method f.pc pc →
      Local app lists w f w (record f { pc = pc; registers = write_all f.registers ds (f.registers x) })
  takes_result : {w : World} {f : Frame} {pc : ℕ} {ds : List ℕ} →
      ActAt app f.method f.pc (TakeResult ds) →
      Goes app f.method f.pc pc →
      Local app lists w f w (record f { pc = pc; registers = write_all f.registers ds (f.registers result_register) })
  takes_exception : {w : World} {f : Frame} {pc d : ℕ} →
      ActAt app f.method f.pc (TakeException d) →
      Goes app f.method f.pc pc →
      Local app lists w f w (record f { pc = pc; registers = write f.registers d (f.registers exception_register) })
  joins : {w : World} {f : Frame} {pc : ℕ} {ds xs : List ℕ} (labels : List ℕ) →
      ActAt app f.method f.pc (Join ds xs) →
      Goes app f.method f.pc pc →
      AreOwnLabels f xs labels →
      Local app lists w f w (record f { pc = pc; registers = write_all f.registers ds (labelled labels) })
  -- the reference to an array has the own labels of its size
  makes : {w : World} {f : Frame} {pc d : ℕ} {class : Name} {size : Option ℕ} (labels : List ℕ) →
      ActAt app f.method f.pc (New d class size) →
      Goes app f.method f.pc pc →
      AreOwnLabels f (option_to_list size) labels →
      Local app lists w f (record w { heap = w.heap ++ new_object class ∷ [] }) (record f { pc = pc; registers = write f.registers d (record { place = Some (length w.heap); labels = labels }) })
  fills : {w : World} {f : Frame} {pc : ℕ} {xs : List ℕ} {class : Name} (entries : List (KeyId × Value)) →
      ActAt app f.method f.pc (Fill xs class) →
      Goes app f.method f.pc pc →
      AreElements f xs entries →
      Local app lists w f (record w { heap = w.heap ++ record { class = class; entries = entries } ∷ [] }) (record f { pc = pc; registers = write f.registers result_register (object_at (Some (length w.heap))) })
  gets : {w : World} {f : Frame} {pc o : ℕ} {ds : List ℕ} {k : KeyId} {v : Value} →
      ActAt app f.method f.pc (Get ds o k) →
      Goes app f.method f.pc pc →
      Gets w.heap (f.registers o) k v →
      Local app lists w f w (record f { pc = pc; registers = write_all f.registers ds v })
  puts : {w : World} {f : Frame} {pc o x : ℕ} {k : KeyId} →
      ActAt app f.method f.pc (Put o k x) →
      Goes app f.method f.pc pc →
      Local app lists w f (record w { heap = put_to w.heap (f.registers o).place k (f.registers x) }) (record f { pc = pc })
  -- the value of a static that the lists label has that label besides
  gets_static : {w : World} {f : Frame} {pc g : ℕ} {ds : List ℕ} →
      ActAt app f.method f.pc (GetStatic ds g) →
      Goes app f.method f.pc pc →
      Local app lists w f w (record f { pc = pc; registers = write_all f.registers ds (record { place = (w.statics g).place; labels = option_to_list (static_source app lists g) ++ (w.statics g).labels }) })
  puts_static : {w : World} {f : Frame} {pc g x : ℕ} →
      ActAt app f.method f.pc (PutStatic g x) →
      Goes app f.method f.pc pc →
      Local app lists w f (record w { statics = write w.statics g (f.registers x) }) (record f { pc = pc })

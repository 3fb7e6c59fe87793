-- What an instruction that stays in its method does, and where a raised value goes.
use Rattle.std.specs.Prelude.{ℕ, ◌==◌, if◌then◌else◌, List, [], ◌∷◌, ◌++◌, map, reverse, flat_map, length, Option, Some, None, option_to_list}
use Rattle.vet_base.specs.declared.key_id.KeyId.{KeyId}
use Rattle.app_machine.specs.declared.app.App.{App}
use Rattle.app_machine.specs.declared.lists.Lists.{Lists}
use Rattle.app_machine.specs.declared.method.Act.{Act}
use Rattle.app_machine.specs.declared.method.Act.TheVariants.{Join, Move, Blank, New, Fill, Get, Put, GetStatic, PutStatic, TakeResult, TakeException}
use Rattle.app_machine.specs.declared.method.Step.{Step}
use Rattle.app_machine.specs.Lookups.{elem_key, step_at}
use Rattle.app_machine.specs.Summaries.{static_source}
use Rattle.app_machine.specs.Heap.{Value, Object, blank, labelled, put_to}
use Rattle.app_machine.specs.State.{result_register, exception_register, write_all, write, World, Frame, object_at, new_object}
use Rattle.played_machine.specs.Drawing.{Drawing, give, ◌>>=◌, one_of}
use Rattle.played_machine.specs.Ordered.{ascending}
use Rattle.played_machine.specs.Reading.{values_at}

-- all but the frames, and the frames, the running one first
pub record Playing : Type 0 where
  pub world : World
  pub frames : List Frame

abbrev pub playing : World → List Frame → Playing
playing w fs = record { world = w; frames = fs }

-- where control may go from the step, and the handlers that cover it
abbrev pub next_of : Option Step → List ℕ
next_of None = []
next_of (Some step) = step.next

abbrev pub catches_of : Option Step → List ℕ
catches_of None = []
catches_of (Some step) = step.catches

-- the frame at the pc, with these registers
abbrev pub moved : Frame → ℕ → (ℕ → Value) → Frame
moved f pc registers = record f { pc = pc; registers = registers }

-- a value under a field's key at the place, which is blank where there is none
abbrev pub first_or_blank : List Value → Value
first_or_blank [] = blank
first_or_blank (v ∷ vs) = v

-- what is got under the key: at a place one of the elements or a blank, or the value of the field
abbrev pub got_at : List Object → Option ℕ → KeyId → Drawing Value
got_at heap None k = give blank
got_at heap (Some p) k = if k.0 == 0 then one_of (values_at heap p k ++ blank ∷ []) else give (first_or_blank (values_at heap p k))

unfoldable pub got : List Object → Value → KeyId → Drawing Value
got heap v k = got_at heap v.place k

-- the labels that the registers' values have themselves
abbrev pub own_labels : Frame → List ℕ → List ℕ
own_labels f xs = ascending (flat_map (λ x. (f.registers x).labels) xs)

-- the registers as elements of a new array, the last in front
abbrev pub elements : Frame → List ℕ → List (KeyId × Value)
elements f xs = reverse (map (λ x. (elem_key, f.registers x)) xs)

-- the world with one object more
abbrev pub with_object : World → Object → World
with_object w o = record w { heap = w.heap ++ o ∷ [] }

-- what the static holds, with the label that the lists give it
abbrev pub static_read : App → Lists → World → ℕ → Value
static_read app lists w g = record { place = (w.statics g).place; labels = option_to_list (static_source app lists g) ++ (w.statics g).labels }

-- The world and the frame's registers after an act that neither calls, returns nor throws. What a static gives is said at
-- `GetStatic` alone.
unfoldable pub local : App → Lists → World → Frame → Act → Drawing (World × (ℕ → Value))
local app lists w f (Join ds xs) = give (w, write_all f.registers ds (labelled (own_labels f xs)))
local app lists w f (Move ds x) = give (w, write_all f.registers ds (f.registers x))
local app lists w f (Blank ds) = give (w, write_all f.registers ds blank)
local app lists w f (New d class size) = give (with_object w (new_object class), write f.registers d (record { place = Some (length w.heap); labels = own_labels f (option_to_list size) }))
local app lists w f (Fill xs class) = give (with_object w (record { class = class; entries = elements f xs }), write f.registers result_register (object_at (Some (length w.heap))))
local app lists w f (Get ds o k) = got w.heap (f.registers o) k >>= λ v. give (w, write_all f.registers ds v)
local app lists w f (Put o k x) = give (record w { heap = put_to w.heap (f.registers o).place k (f.registers x) }, f.registers)
local app lists w f (GetStatic ds g) = give (w, write_all f.registers ds (static_read app lists w g))
local app lists w f (PutStatic g x) = give (record w { statics = write w.statics g (f.registers x) }, f.registers)
local app lists w f (TakeResult ds) = give (w, write_all f.registers ds (f.registers result_register))
local app lists w f (TakeException d) = give (w, write f.registers d (f.registers exception_register))
local app lists w f act = give (w, f.registers)

abbrev pub raised_to : App → Value → World → Frame → List Frame → Drawing Playing → Option ℕ → Drawing Playing
raised_to app v w f fs upward (Some pc) = give (playing w (moved f pc (write f.registers exception_register v) ∷ fs))
raised_to app v w f fs upward None = upward

-- A raised value goes to one of the handlers that cover the instruction, or upward, and is drawn again in the caller; upward of
-- the bottom frame the event ends.
abbrev pub raised : App → Value → World → List Frame → Drawing Playing
raised app v w [] = give (playing w [])
raised app v w (f ∷ fs) =
    one_of (map (λ pc. Some pc) (catches_of (step_at app f.method f.pc)) ++ None ∷ []) >>= raised_to app v w f fs (raised app v w fs)

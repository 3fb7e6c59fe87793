-- What an instruction that stays in its method does, where what it was given by the script is known.
use Rattle.std.specs.Prelude.{ℕ, List, flat_map, length, map, reverse, Some, option_to_list}
use Rattle.app_machine.specs.declared.app.App.{App}
use Rattle.app_machine.specs.declared.lists.Lists.{Lists}
use Rattle.app_machine.specs.declared.method.Act.{Act}
use Rattle.app_machine.specs.declared.method.Act.TheVariants.{Join, Move, Blank, New, Fill, Get, Put, GetStatic, PutStatic, TakeResult, TakeException}
use Rattle.app_machine.specs.Heap.{Value, Object, blank, labelled, put_to}
use Rattle.app_machine.specs.Lookups.{elem_key}
use Rattle.app_machine.specs.Names.{Name}
use Rattle.app_machine.specs.State.{result_register, exception_register, write, write_all, World, object_at, new_object}
use Rattle.played_alike.specs.Alike.{AlikeWorld, AlikeValues}
use Rattle.played_machine.specs.Drawing.{Drawing, give}
use Rattle.played_machine.specs.Local.{got, with_object, static_read}
use Rattle.played_machine.specs.Ordered.{ascending}

-- what the script gives the act: of a get one of the values, and else nothing
abbrev pub read_by : List Object → (ℕ → Value) → Act → Drawing Value
read_by heap registers (Get ds o k) = got heap (registers o) k
read_by heap registers act = give blank

-- the labels that these registers' values have themselves
abbrev pub labels_in : (ℕ → Value) → List ℕ → List ℕ
labels_in registers xs = ascending (flat_map (λ x. (registers x).labels) xs)

-- an array of the values of these registers, the last in front
abbrev pub array_of : (ℕ → Value) → Name → List ℕ → Object
array_of registers class xs = record { class = class; entries = reverse (map (λ x. (elem_key, registers x)) xs) }

-- the registers after an act that writes them alone
unfoldable pub written : App → Lists → World → (ℕ → Value) → Act → Value → ℕ → Value
written app lists w registers (Join ds xs) v = write_all registers ds (labelled (labels_in registers xs))
written app lists w registers (Move ds x) v = write_all registers ds (registers x)
written app lists w registers (Blank ds) v = write_all registers ds blank
written app lists w registers (Get ds o k) v = write_all registers ds v
written app lists w registers (GetStatic ds g) v = write_all registers ds (static_read app lists w g)
written app lists w registers (TakeResult ds) v = write_all registers ds (registers result_register)
written app lists w registers (TakeException d) v = write registers d (registers exception_register)
written app lists w registers act v = registers

-- the world and the registers after the act
unfoldable pub changed : App → Lists → World → (ℕ → Value) → Act → Value → World × (ℕ → Value)
changed app lists w registers (New d class size) v = (with_object w (new_object class), write registers d (record { place = Some (length w.heap); labels = labels_in registers (option_to_list size) }))
changed app lists w registers (Fill xs class) v = (with_object w (array_of registers class xs), write registers result_register (object_at (Some (length w.heap))))
changed app lists w registers (Put o k x) v = (record w { heap = put_to w.heap (registers o).place k (registers x) }, registers)
changed app lists w registers (PutStatic g x) v = (record w { statics = write w.statics g (registers x) }, registers)
changed app lists w registers act v = (w, written app lists w registers act v)

-- a world and registers are alike to these
abbrev pub AlikeChange : World × (ℕ → Value) → World → (ℕ → Value) → Type 0
AlikeChange done new registers = AlikeWorld done.0 new × AlikeValues done.1 registers

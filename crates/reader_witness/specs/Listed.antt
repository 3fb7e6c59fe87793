-- A method in which rules ask for the readers of registers, and what an index of it lists. A method in which one value is
-- read at very many places, of which there is no index.
use Rattle.std.specs.Prelude.{◌≡◌, ◌<◌, ℕ, zero, suc, List, [], ◌∷◌, Some, None}
use Rattle.app_machine.specs.declared.call.CallKind.TheVariants.{Static}
use Rattle.app_machine.specs.declared.method.Step.{Step}
use Rattle.app_machine.specs.declared.method.Act.TheVariants.{Move, New, Put, Call, Return, TakeResult, TakeException}
use Rattle.app_machine.specs.declared.app.App.{App}
use Rattle.vet_base.specs.Members.{In}
use Rattle.app_machine.specs.Lookups.{elem_key}
use Rattle.app_machine.specs.State.{result_register, exception_register}
use Rattle.machine_witness.specs.Apps.{post, step}
use Rattle.machine_witness.specs.Acts.{ints}
use Rattle.machine_witness.specs.Flows.{tries, scene, activity_of}
use Rattle.register_readers.specs.Bounds.{most_of_one}
use Rattle.register_readers.specs.Readings.{Readings, readers_from, AreReaders, AreFew}

-- Register 0 takes an array, which is posted. Where that raises it is posted again in the handler, which has a handler of
-- its own; else it is moved and overwritten, and the result of the post is taken late. Register 3 takes the first argument.
abbrev pub asking_steps : List Step
asking_steps =
    step 0 (New 0 ints None) (1 ∷ [])
    ∷ tries 1 (Call Static post (0 ∷ [])) (2 ∷ []) (5 ∷ [])
    ∷ step 2 (Move (1 ∷ []) 0) (3 ∷ [])
    ∷ step 3 (New 0 ints (Some 1)) (4 ∷ [])
    ∷ step 4 (Put 0 elem_key 3) (9 ∷ [])
    ∷ tries 5 (Call Static post (0 ∷ [])) (6 ∷ []) (7 ∷ [])
    ∷ step 6 (TakeException 1) (8 ∷ [])
    ∷ step 7 (TakeException 2) (8 ∷ [])
    ∷ step 8 (Return (Some 0)) []
    ∷ step 9 (TakeResult (2 ∷ [])) (8 ∷ [])
    ∷ []

abbrev pub asking_app : App
asking_app = activity_of (scene asking_steps [])

pub record AreListed (readings : Readings) : Type 0 where
  -- behind the write of register 0: the first reader, and those behind it
  pub first : In 1 (readers_from readings 0 0 1)
  pub behind_a_reader : In 2 (readers_from readings 0 0 1)
  -- but none past the next write
  pub not_past_a_write : In 4 (readers_from readings 0 0 1) → ⊥
  -- in the handler, and behind it
  pub along_a_handler : In 5 (readers_from readings 0 0 1)
  pub behind_a_handler : In 8 (readers_from readings 0 0 1)
  -- of EXC in the handler: the step behind it, and not the handler's own handler
  pub of_exception : In 6 (readers_from readings 0 exception_register 5)
  pub not_in_its_handler : In 7 (readers_from readings 0 exception_register 5) → ⊥
  -- of what a step moves: where it is the size of an array
  pub as_a_size : In 3 (readers_from readings 0 1 3)
  -- of a result: where it is taken, asked for behind the call and behind a step that gives none
  pub of_result : In 9 (readers_from readings 0 result_register 2)
  pub of_result_later : In 9 (readers_from readings 0 result_register 3)
  -- of an argument, from where the method begins
  pub of_an_argument : In 4 (readers_from readings 0 3 0)

abbrev pub ReadersAreListed : Type 0
ReadersAreListed = (readings : Readings) → readings.app ≡ asking_app → AreReaders readings → AreListed readings

-- so many steps from the address on that move register 0, and the end
abbrev pub moves_from : ℕ → ℕ → List Step
moves_from pc zero = step pc (Return None) [] ∷ []
moves_from pc (suc count) = step pc (Move (1 ∷ []) 0) (suc pc ∷ []) ∷ moves_from (suc pc) count

-- one write, and so many steps that read what it wrote
abbrev pub crowded_app : ℕ → App
crowded_app count = activity_of (scene (step 0 (New 0 ints None) (1 ∷ []) ∷ moves_from 1 count) [])

-- an index lists each of them, and then they are not few
abbrev pub CrowdsAreRefused : Type 0
CrowdsAreRefused = (count : ℕ) → most_of_one < count → (readings : Readings) → readings.app ≡ crowded_app count → AreReaders readings → AreFew readings → ⊥

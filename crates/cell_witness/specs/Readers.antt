-- A method in which a register is read in several places, and in which one of them is behind a write.
use Rattle.std.specs.Prelude.{List, [], ◌∷◌, Some}
use Rattle.app_machine.specs.declared.call.CallKind.TheVariants.{Static}
use Rattle.app_machine.specs.declared.method.Step.{Step}
use Rattle.app_machine.specs.declared.method.Act.TheVariants.{Skip, Move, New, Call, Return, TakeException}
use Rattle.app_machine.specs.declared.app.App.{App}
use Rattle.app_machine.specs.State.{exception_register}
use Rattle.machine_witness.specs.Apps.{post, step}
use Rattle.machine_witness.specs.Acts.{ints}
use Rattle.machine_witness.specs.Flows.{tries, scene, activity_of}
use Rattle.cell_rules.specs.Reading.{ReadAt}

-- Register 0 is posted, and where that raises it is returned behind the handler; else it is moved and overwritten, and
-- what is returned then is another value. Register 1 is the size of an array.
abbrev pub reading_steps : List Step
reading_steps =
    step 0 Skip (1 ∷ [])
    ∷ tries 1 (Call Static post (0 ∷ [])) (2 ∷ []) (5 ∷ [])
    ∷ step 2 (Move (1 ∷ []) 0) (3 ∷ [])
    ∷ step 3 (New 0 ints (Some 1)) (4 ∷ [])
    ∷ step 4 (Return (Some 0)) []
    ∷ step 5 (TakeException 1) (6 ∷ [])
    ∷ step 6 (Return (Some 0)) []
    ∷ []

abbrev pub reading_app : App
reading_app = activity_of (scene reading_steps [])

pub record RegistersAreRead : Type 0 where
  pub here : ReadAt reading_app 0 0 1 1
  pub later : ReadAt reading_app 0 0 0 1
  -- the first reader does not end it
  pub behind_a_reader : ReadAt reading_app 0 0 0 2
  -- a write does
  pub not_past_a_write : ReadAt reading_app 0 0 0 4 → ⊥
  -- handlers keep it
  pub along_a_handler : ReadAt reading_app 0 0 0 6
  -- but for EXC, which they set
  pub exception_is_read : ReadAt reading_app 0 exception_register 5 5
  pub not_along_a_handler : ReadAt reading_app 0 exception_register 0 5 → ⊥
  -- the size of an array is read
  pub as_a_size : ReadAt reading_app 0 1 3 3

-- Where rules ask for the steps that read a register.
use Rattle.std.specs.Prelude.{◌≡◌, ◌<◌, ◌+◌, ◌-◌, ℕ, List, [], ◌∷◌}
use Rattle.app_machine.specs.declared.method.Act.{Act}
use Rattle.app_machine.specs.declared.method.Act.TheVariants.{Join, Move, New, Fill, Get, GetStatic, Call, TakeResult, TakeException}
use Rattle.app_machine.specs.declared.method.Method.{Method}
use Rattle.app_machine.specs.declared.app.App.{App}
use Rattle.app_machine.specs.Lookups.{ActAt, Goes, Catches, HasCode}
use Rattle.app_machine.specs.State.{result_register, exception_register}
use Rattle.vet_base.specs.Members.{In}

-- the registers to which the act gives a value of which rows tell: a blank is none
abbrev pub given_to : Act → List ℕ
given_to (Join ds xs) = ds
given_to (Move ds x) = ds
given_to (New d class size) = d ∷ []
given_to (Fill xs class) = result_register ∷ []
given_to (Get ds o k) = ds
given_to (GetStatic ds g) = ds
given_to (Call kind at args) = result_register ∷ []
given_to (TakeResult ds) = ds
given_to (TakeException d) = d ∷ []
given_to act = []

-- a place of the method at which rules ask
module _ (app : App) (method r : ℕ) where
  pub data IsAsked : ℕ → Type 0 where
    -- where the method begins, of a register that takes an argument
    at_entry : {m : Method} {i : ℕ} →
        HasCode app method m →
        i < m.ins →
        r ≡ (m.registers - m.ins) + i →
        IsAsked 0
    -- where control goes on from a step that gives the register a value
    behind : {act : Act} {pc next : ℕ} →
        ActAt app method pc act →
        In r (given_to act) →
        Goes app method pc next →
        IsAsked next
    -- where control goes on from any step, of the result: what an activation returns that the step entered
    result_behind : {pc next : ℕ} →
        r ≡ result_register →
        Goes app method pc next →
        IsAsked next
    -- at a handler, of the exception
    at_handler : {pc next : ℕ} →
        r ≡ exception_register →
        Catches app method pc next →
        IsAsked next

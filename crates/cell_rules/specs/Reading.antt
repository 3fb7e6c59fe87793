-- Where a register is read. The rows of what comes to it stand there.
use Rattle.std.specs.Prelude.{◌==◌, ℕ, IsFalse, List, [], ◌∷◌, option_to_list}
use Rattle.app_machine.specs.declared.method.Act.{Act}
use Rattle.app_machine.specs.declared.method.Act.TheVariants.{Join, Move, New, Fill, Get, Put, PutStatic, Call, Return, Throw, TakeResult, TakeException}
use Rattle.app_machine.specs.declared.app.App.{App}
use Rattle.vet_base.specs.Members.{In}
use Rattle.app_machine.specs.Lookups.{ActAt, Goes, Catches}
use Rattle.app_machine.specs.State.{result_register, exception_register}
use Rattle.app_machine.specs.Local.{writes}
use Rattle.fact_rows.specs.declared.context.Activation.{Activation}
use Rattle.fact_rows.specs.declared.context.Node.{Node}

-- the node of the activation
abbrev pub node_in : Activation → ℕ → Node
node_in a pc = record { by = a; pc = pc }

-- the registers from which the act takes a value
abbrev pub reads : Act → List ℕ
reads (Join ds xs) = xs
reads (Move ds x) = x ∷ []
reads (New d class size) = option_to_list size
reads (Fill xs class) = xs
reads (Get ds o k) = o ∷ []
reads (Put o k x) = o ∷ x ∷ []
reads (PutStatic g x) = x ∷ []
reads (Call kind at args) = args
reads (Return x) = option_to_list x
reads (Throw x) = x ∷ []
reads (TakeResult ds) = result_register ∷ []
reads (TakeException d) = exception_register ∷ []
reads act = []

-- What stands in the register at the first pc is read at the second: there, or behind steps that do not write it and
-- handlers that do not set it.
module _ (app : App) (method r : ℕ) where
  pub data ReadAt : ℕ → ℕ → Type 0 where
    read_here : {pc : ℕ} {act : Act} →
        ActAt app method pc act →
        In r (reads act) →
        ReadAt pc pc
    read_next : {pc next u : ℕ} {act : Act} →
        ActAt app method pc act →
        IsFalse (writes act r) →
        Goes app method pc next →
        ReadAt next u →
        ReadAt pc u
    read_caught : {pc next u : ℕ} →
        IsFalse (r == exception_register) →
        Catches app method pc next →
        ReadAt next u →
        ReadAt pc u

-- Nodes and registers, as the rules name them.
use Rattle.std.specs.Prelude.{◌≡◌, ◌<◌, ◌+◌, ◌-◌, ℕ}
use Rattle.app_machine.specs.declared.method.Act.{Act}
use Rattle.app_machine.specs.declared.method.Method.{Method}
use Rattle.app_machine.specs.declared.app.App.{App}
use Rattle.vet_base.specs.Members.{IsAt}
use Rattle.app_machine.specs.Lookups.{ActAt, Goes, Catches, HasCode, Initialises}
use Rattle.app_machine.specs.Events.{layout}
use Rattle.fact_rows.specs.declared.context.Ctx.{Ctx}
use Rattle.fact_rows.specs.declared.context.Ctx.TheVariants as ctx
use Rattle.fact_rows.specs.declared.context.Activation.{Activation}
use Rattle.fact_rows.specs.declared.context.Node.{Node}

-- The context of a method that is called: the call instruction where an event's own method calls, and otherwise the call and
-- the last one before it. How many calls count is told here alone.
unfoldable pub pushed : Ctx → ℕ → ℕ → Ctx
pushed (ctx.Call last at) method pc = ctx.Call2 method pc last at
pushed (ctx.Call2 last at m at_m) method pc = ctx.Call2 method pc last at
pushed event method pc = ctx.Call method pc

-- another node of the same activation
abbrev pub at_pc : Node → ℕ → Node
at_pc n pc = record { by = n.by; pc = pc }

abbrev pub activation_in : Ctx → ℕ → Activation
activation_in c body = record { ctx = c; method = body }

-- the first node of an activation
abbrev pub entry : Activation → Node
entry a = record { by = a; pc = 0 }

-- the activation of a body that the node enters
abbrev pub callee : Node → ℕ → Activation
callee n body = activation_in (pushed n.by.ctx n.by.method n.pc) body

-- what the step at the node does, to where control goes on from it, and where what it raises is caught
module _ (app : App) (n : Node) where
  abbrev pub Acts : Act → Type 0
  Acts act = ActAt app n.by.method n.pc act

  abbrev pub GoesOn : ℕ → Type 0
  GoesOn pc = Goes app n.by.method n.pc pc

  abbrev pub CaughtAt : ℕ → Type 0
  CaughtAt pc = Catches app n.by.method n.pc pc

-- the register that takes argument register i of a call: the i-th of the last `ins`
pub record ArgumentRegister (app : App) (body i register : ℕ) : Type 0 where
  pub method : Method
  pub has : HasCode app body method
  pub below : i < method.ins
  pub is : register ≡ (method.registers - method.ins) + i

-- a register that takes position i of an event, the receiver being 0
pub record EventRegister (app : App) (body i register : ℕ) : Type 0 where
  pub method : Method
  pub has : HasCode app body method
  pub index : ℕ
  pub is_at : IsAt (layout method.at.proto.params) index i
  pub below : index < method.ins
  pub is : register ≡ (method.registers - method.ins) + index

-- the activation is of an initialiser that may run before the node's step
pub record InitialisedBy (app : App) (n : Node) (b : Activation) : Type 0 where
  pub body : ℕ
  pub is_one : Initialises app n.by.method n.pc body
  pub same : b ≡ callee n body

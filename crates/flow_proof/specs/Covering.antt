-- What it is that a set of rows covers every run of an app.
use Rattle.std.specs.Prelude.{◌≡◌, ℕ, List}
use Rattle.app_machine.specs.declared.app.App.{App}
use Rattle.app_machine.specs.declared.lists.Lists.{Lists}
use Rattle.app_machine.specs.declared.papers.Declaration.{Declaration}
use Rattle.vet_base.specs.Members.{In}
use Rattle.app_machine.specs.State.{Arrival, World, Frame}
use Rattle.app_machine.specs.Run.{Run}
use Rattle.app_machine.specs.Safe.{Stands, Declared, Safe}
use Rattle.app_machine.specs.Sound.{SoundApp}
use Rattle.fact_rows.specs.declared.context.Node.{Node}
use Rattle.fact_rows.specs.declared.row.Row.{Row}
use Rattle.fact_rows.specs.declared.row.Row.TheVariants.{Arrive, Unknown}
use Rattle.flow_rules.specs.Rules.{GoodTable}

-- a node at the instruction, in some context, of which the fact holds
pub record InSomeContext (method pc : ℕ) (fact : Node → Type 0) : Type 0 where
  pub node : Node
  pub same_method : node.by.method ≡ method
  pub same_pc : node.pc ≡ pc
  pub holds : fact node

pub record CoversEveryRun (app : App) (lists : Lists) (has : Row → Type 0) : Type 0 where
  -- every arrival of every run has its Arrive row
  pub arrivals : (w : World) (fs : List Frame) → Run app lists w fs →
      (a : Arrival) → In a w.arrivals → InSomeContext a.method a.pc (λ n. has (Arrive a.label a.sink n))
  -- every place where a run's last state stands has its Unknown row
  pub stands : (w : World) (fs : List Frame) → Run app lists w fs →
      (method pc cause : ℕ) → Stands app lists w fs method pc cause → InSomeContext method pc (λ n. has (Unknown n cause))
  -- where no undeclared Arrive row and no Unknown row is there, the app is safe
  pub safe : (declaration : Declaration) →
      ((l sink : ℕ) (n : Node) → has (Arrive l sink n) → Declared lists declaration l sink) →
      ((n : Node) (cause : ℕ) → has (Unknown n cause) → ⊥) →
      Safe app lists declaration

abbrev pub EveryGoodTableCoversEveryRun : Type 0
EveryGoodTableCoversEveryRun =
    (app : App) (lists : Lists) (table : List Row) →
    SoundApp app →
    GoodTable app lists table →
    CoversEveryRun app lists (λ row. In row table)

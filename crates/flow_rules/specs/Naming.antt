-- Which activations the start rows together name, by which a solver divides its work.
use Rattle.std.specs.Prelude.{◌≡◌, ℕ, List, [], ◌∷◌, Option}
use Rattle.app_machine.specs.declared.component.Component.{Component}
use Rattle.app_machine.specs.declared.lists.Lists.{Lists}
use Rattle.app_machine.specs.declared.app.App.{App}
use Rattle.vet_base.specs.Members.{In, IsAt}
use Rattle.app_machine.specs.Names.{Name}
use Rattle.app_machine.specs.LifeEvents.{LifeEvent}
use Rattle.app_machine.specs.Events.{IsApplication, LifeEventAt}
use Rattle.fact_rows.specs.declared.context.Activation.{Activation}
use Rattle.fact_rows.specs.declared.row.Row.{Row}
use Rattle.fact_rows.specs.declared.row.Row.TheVariants.{Live}
use Rattle.fact_rows.specs.Naming.{Names}
use Rattle.flow_rules.specs.EventRules.{EventRule}
use Rattle.flow_rules.specs.Rules.{Starts}

-- The states to which components come without any other row: from the starts by rules 40 and 47 alone.
module _ (app : App) where
  pub data ComesToState : ℕ → ℕ → Type 0 where
    from_start : {c state : ℕ} →
        Starts app (Live c state) →
        ComesToState c state
    by_event : {c e : ℕ} {class : Name} {life : LifeEvent} {body : Option ℕ} →
        LifeEventAt app c e class life body →
        ComesToState c life.from →
        ComesToState c life.to
    by_application : {a c : ℕ} {component : Component} →
        IsApplication app a →
        IsAt app.components c component →
        (c ≡ a → ⊥) →
        ComesToState a 2 →
        ComesToState c 0

-- The start rows together name each activation that an event begins in one of these states.
pub record StartsName (app : App) (lists : Lists) (a : Activation) : Type 0 where
  pub component : ℕ
  pub state : ℕ
  pub comes : ComesToState app component state
  pub rule : ℕ
  pub row : Row
  pub begins : EventRule app lists rule (Live component state ∷ []) row
  pub named : Names row a

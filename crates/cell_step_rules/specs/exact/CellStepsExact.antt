-- What the code of the steps lists is just what their rules give, and rows lead all that they give.
use Rattle.std.proofs.Common.{◌⊎◌, ℕ, List, [], ◌∷◌, sym, subst, inl, inr}
use Rattle.app_machine.specs.declared.lists.Lists.{Lists}
use Rattle.app_machine.specs.declared.app.App.{App}
use Rattle.fact_rows.specs.declared.row.Row.{Row}
use Rattle.flow_rules.specs.Rules.{Each}
use Rattle.rule_ground.specs.declared.key.Key.{Key}
use Rattle.rule_ground.specs.Hits.{IsHits}
use Rattle.rule_ground.specs.Exact.{IsSound, IsJust, IsLed}
use Rattle.rule_ground.specs.Leading.{HasLead, HasLeader, led_by_ones}
use Rattle.vet_base.specs.Members.{In}
use Rattle.vet_base.proofs.Members.{each_in}
use Rattle.register_readers.specs.Readings.{Readings}
use Rattle.cell_ground.specs.Ready.{Ready}
use Rattle.cell_step_rules.specs.CellStepGiven.{StepRule, cell_step_given, cell_step_leads}
use Rattle.cell_step_rules.specs.CellStepListed.{led_given}
use Rattle.cell_step_rules.specs.exact.Sound.{step_sound}
use Rattle.cell_step_rules.specs.exact.Complete.{step_complete, step_led}

-- a row of those that are there
known_in : (has : Row → Type 0) (rows : List Row) → Each has rows → (row : Row) → In row rows → has row
known_in has [] known row none = absurd none
known_in has (first ∷ others) known row (inl same) = subst has (sym same) known.0
known_in has (first ∷ others) known row (inr later) = known_in has others known.1 row later

module _ (app : App) (readings : Readings) (lists : Lists) (ready : Ready app readings) (has : Row → Type 0) (hits : Key → List Row) (law : (k : Key) → IsHits has k (hits k)) where
  pub cell_steps_exact : (row : Row) → has row → IsJust (StepRule app lists) has row (cell_step_given app readings lists hits row)
  cell_steps_exact row there = record {
    sound = λ c i. each_in (IsSound (StepRule app lists) has row) (cell_step_given app readings lists hits row) c (step_sound app readings ready lists has hits law row there) i;
    complete = λ rule premises x f. step_complete app readings ready lists has hits law row rule premises x f.by f.known f.uses;
  }

  leader : (rule : ℕ) (premises : List Row) (x : Row) → StepRule app lists rule premises x → Each has premises →
      HasLeader has (cell_step_given app readings lists hits) (cell_step_leads app readings lists hits) premises ⊎ HasLead has (cell_step_leads app readings lists hits) rule premises x
  leader rule premises x by known =
      let l = step_led app readings ready lists has hits law rule premises x by known in
      inr (l.0, (known_in has premises known l.0 l.1.0, l.1.1))

  pub cell_steps_led : IsLed (StepRule app lists) has (cell_step_leads app readings lists hits)
  cell_steps_led =
      led_by_ones (StepRule app lists) has (cell_step_given app readings lists hits) cell_steps_exact (cell_step_leads app readings lists hits)
      (λ row c i. led_given app readings ready lists has hits law row c i) leader

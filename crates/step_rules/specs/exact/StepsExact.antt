-- What the code of the steps lists is just what their rules give, and rows lead all that they give.
use Rattle.std.proofs.Common.{◌⊎◌, ℕ, List, [], ◌∷◌, sym, subst, inl, inr}
use Rattle.app_machine.specs.declared.lists.Lists.{Lists}
use Rattle.app_machine.specs.declared.app.App.{App}
use Rattle.fact_rows.specs.declared.row.Row.{Row}
use Rattle.flow_rules.specs.LocalRules.{LocalRule}
use Rattle.flow_rules.specs.Rules.{Each}
use Rattle.rule_ground.specs.declared.key.Key.{Key}
use Rattle.rule_ground.specs.Hits.{IsHits}
use Rattle.rule_ground.specs.Exact.{IsSound, IsJust, IsLed}
use Rattle.rule_ground.specs.Leading.{HasLead, HasLeader, led_by_ones}
use Rattle.vet_base.specs.Members.{In}
use Rattle.vet_base.proofs.Members.{each_in}
use Rattle.step_rules.specs.StepGiven.{step_given, step_leads}
use Rattle.step_rules.specs.exact.Sound.{step_sound}
use Rattle.step_rules.specs.StepListed.{led_given}
use Rattle.step_rules.specs.exact.Complete.{step_complete, step_led}

-- a row of those that are there
known_in : (has : Row → Type 0) (rows : List Row) → Each has rows → (row : Row) → In row rows → has row
known_in has [] known row none = absurd none
known_in has (first ∷ others) known row (inl same) = subst has (sym same) known.0
known_in has (first ∷ others) known row (inr later) = known_in has others known.1 row later

module _ (app : App) (lists : Lists) (has : Row → Type 0) (hits : Key → List Row) (law : (k : Key) → IsHits has k (hits k)) where
  pub steps_exact : (row : Row) → has row → IsJust (LocalRule app lists) has row (step_given app lists hits row)
  steps_exact row there = record {
    sound = λ c i. each_in (IsSound (LocalRule app lists) has row) (step_given app lists hits row) c (step_sound app lists has hits law row there) i;
    complete = λ rule premises x f. step_complete app lists has hits law row rule premises x f.by f.known f.uses;
  }

  leader : (rule : ℕ) (premises : List Row) (x : Row) → LocalRule app lists rule premises x → Each has premises →
      HasLeader has (step_given app lists hits) (step_leads app lists hits) premises ⊎ HasLead has (step_leads app lists hits) rule premises x
  leader rule premises x by known =
      let l = step_led app lists has hits law rule premises x by known in
      inr (l.0, (known_in has premises known l.0 l.1.0, l.1.1))

  pub steps_led : IsLed (LocalRule app lists) has (step_leads app lists hits)
  steps_led =
      led_by_ones (LocalRule app lists) has (step_given app lists hits) steps_exact (step_leads app lists hits) (λ row c i. led_given app lists has hits law row c i) leader

-- What the code of the effects lists is just what their rules give, and effects lead all that they give.
use Rattle.std.proofs.Common.{◌⊎◌, ℕ, List, refl, inl}
use Rattle.app_machine.specs.declared.app.App.{App}
use Rattle.fact_rows.specs.declared.context.Ctx.TheVariants as ctx
use Rattle.fact_rows.specs.declared.site.Site.TheVariants.{Component}
use Rattle.fact_rows.specs.declared.row.Row.{Row}
use Rattle.fact_rows.specs.declared.row.Row.TheVariants.{Effect, MethodEffect}
use Rattle.flow_rules.specs.EffectRules.{EffectRule, lift_effect, effect_next, effect_caught, method_effect, caller_effect, effect_static, effect_handed, effect_own, effect_other}
use Rattle.flow_rules.specs.Nodes.{activation_in}
use Rattle.flow_rules.specs.Rules.{Each}
use Rattle.rule_ground.specs.declared.conclusion.Conclusion.{Conclusion}
use Rattle.rule_ground.specs.declared.key.Key.{Key}
use Rattle.rule_ground.specs.Hits.{IsHits}
use Rattle.rule_ground.specs.Exact.{IsSound, IsJust, IsLed}
use Rattle.rule_ground.specs.Leading.{HasLead, HasLeader, led_by_ones}
use Rattle.vet_base.specs.Members.{In}
use Rattle.vet_base.proofs.Members.{each_in}
use Rattle.effect_rules.specs.EffectGiven.{effect_given, effect_leads}
use Rattle.effect_rules.specs.exact.Sound.{effects_sound}
use Rattle.effect_rules.specs.exact.Complete.{effects_complete}

module _ (app : App) (has : Row → Type 0) (hits : Key → List Row) (law : (k : Key) → IsHits has k (hits k)) where
  pub effects_exact : (row : Row) → has row → IsJust (EffectRule app) has row (effect_given app hits row)
  effects_exact row there = record {
    sound = λ c i. each_in (IsSound (EffectRule app) has row) (effect_given app hits row) c (effects_sound app has hits law row there) i;
    complete = λ rule premises x f. effects_complete app has hits law row rule premises x f.by f.known f.uses;
  }

  led_given : (row : Row) (c : Conclusion) → In c (effect_leads app hits row) → In c (effect_given app hits row)
  led_given (Effect n t p l) c i = i
  led_given (MethodEffect b s p l) c i = i
  led_given _ c i = absurd i

  leader : (rule : ℕ) (premises : List Row) (x : Row) → EffectRule app rule premises x → Each has premises →
      HasLeader has (effect_given app hits) (effect_leads app hits) premises ⊎ HasLead has (effect_leads app hits) rule premises x
  leader rule premises x (lift_effect {n = n} {l = l} {t = t} {p = p}) k = inl (Effect n t p l, (k.0, (inl refl, refl)))
  leader rule premises x (effect_next {n = n} {l = l} {s = s} {p = p} g) k = inl (Effect n s p l, (k.0, (inl refl, refl)))
  leader rule premises x (effect_caught {n = n} {l = l} {s = s} {p = p} g) k = inl (Effect n s p l, (k.0, (inl refl, refl)))
  leader rule premises x (method_effect {n = n} {l = l} {s = s} {p = p}) k = inl (Effect n s p l, (k.0, (inl refl, refl)))
  leader rule premises x (caller_effect {b = b} {l = l} {s = s} {p = p}) k = inl (MethodEffect b s p l, (k.0, (inl refl, refl)))
  leader rule premises x (effect_static {n = n} {l = l} {s = s} {p = p}) k = inl (Effect n s p l, (k.0, (inl refl, refl)))
  leader rule premises x (effect_handed {n = n} {l = l} {s = s} {p = p}) k = inl (Effect n s p l, (k.0, (inl refl, refl)))
  leader rule premises x (effect_own {c = c} {e = e} {l = l} {method = method} {p = p} h ne) k =
      inl (MethodEffect (activation_in (ctx.Row c e) method) (Component c) p l, (k.0, (inl refl, refl)))
  leader rule premises x (effect_other {b = b} {c = c} {l = l} {p = p} beside ne) k = inl (MethodEffect b (Component c) p l, (k.0, (inl refl, refl)))

  pub effects_led : IsLed (EffectRule app) has (effect_leads app hits)
  effects_led = led_by_ones (EffectRule app) has (effect_given app hits) effects_exact (effect_leads app hits) led_given leader

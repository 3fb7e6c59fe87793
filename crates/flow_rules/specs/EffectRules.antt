-- Rules 14 to 21: what an effect on a site does to all that leads to its objects.
use Rattle.std.specs.Prelude.{◌≢◌, ℕ, List, [], ◌∷◌, Option}
use Rattle.vet_base.specs.declared.key_id.KeyId.{KeyId}
use Rattle.access_path.specs.declared.path.Path.{Path}
use Rattle.access_path.specs.Paths.{cut}
use Rattle.app_machine.specs.declared.app.App.{App}
use Rattle.app_machine.specs.Names.{Name}
use Rattle.app_machine.specs.LifeEvents.{LifeEvent}
use Rattle.app_machine.specs.Events.{LifeEventAt}
use Rattle.fact_rows.specs.declared.context.Ctx.{Ctx}
use Rattle.fact_rows.specs.declared.context.Ctx.TheVariants as ctx
use Rattle.fact_rows.specs.declared.context.Activation.{Activation}
use Rattle.fact_rows.specs.declared.context.Node.{Node}
use Rattle.fact_rows.specs.declared.site.Site.{Site}
use Rattle.fact_rows.specs.declared.site.Site.TheVariants.{Component}
use Rattle.fact_rows.specs.declared.row.Row.{Row}
use Rattle.fact_rows.specs.declared.row.Row.TheVariants.{Points, Taint, Back, StaticPoints, StaticTaint, CalledBy, Effect, MethodEffect, Live, CompTaint, Handed, HandedTaint}
use Rattle.flow_rules.specs.Nodes.{at_pc, activation_in, GoesOn, CaughtAt}

-- the context is that of an event, but of none in the component's own life
abbrev pub IsEventBeside : Ctx → ℕ → Type 0
IsEventBeside (ctx.Row d e) c = d ≢ c
IsEventBeside (ctx.Call m pc) c = ⊥
IsEventBeside (ctx.Call2 m pc n qc) c = ⊥
IsEventBeside event c = Unit {0}

module _ (app : App) where
  pub data EffectRule : ℕ → List Row → Row → Type 0 where
    -- 14. An effect on what an object holds is an effect on the object.
    lift_effect : {n : Node} {k : KeyId} {l : ℕ} {s t : Site} {p : Path} →
        EffectRule 14 (Effect n t p l ∷ Back t k s ∷ []) (Effect n s (cut k p) l)
    -- 15. An effect comes to the registers of the next steps and of the handlers.
    effect_next : {n : Node} {pc z l : ℕ} {s : Site} {p : Path} →
        GoesOn app n pc →
        EffectRule 15 (Effect n s p l ∷ Points (at_pc n pc) z s ∷ []) (Taint (at_pc n pc) z p l)
    effect_caught : {n : Node} {pc z l : ℕ} {s : Site} {p : Path} →
        CaughtAt app n pc →
        EffectRule 15 (Effect n s p l ∷ Points (at_pc n pc) z s ∷ []) (Taint (at_pc n pc) z p l)
    -- 16. An effect of a node is one of its activation.
    method_effect : {n : Node} {l : ℕ} {s : Site} {p : Path} →
        EffectRule 16 (Effect n s p l ∷ []) (MethodEffect n.by s p l)
    -- 17. An effect of an activation is one of each node that enters it.
    caller_effect : {n : Node} {b : Activation} {l : ℕ} {s : Site} {p : Path} →
        EffectRule 17 (MethodEffect b s p l ∷ CalledBy b n ∷ []) (Effect n s p l)
    -- 18. An effect comes to statics.
    effect_static : {n : Node} {g l : ℕ} {s : Site} {p : Path} →
        EffectRule 18 (Effect n s p l ∷ StaticPoints g s ∷ []) (StaticTaint g p l)
    -- 19. An effect comes to handed objects.
    effect_handed : {n : Node} {l : ℕ} {s : Site} {p : Path} →
        EffectRule 19 (Effect n s p l ∷ Handed s ∷ []) (HandedTaint s p l)
    -- 20. An effect of an event of a component's own life comes to the component in the state after, where that is not 0.
    effect_own : {c e l : ℕ} {method : ℕ} {class : Name} {life : LifeEvent} {body : Option ℕ} {p : Path} →
        LifeEventAt app c e class life body →
        life.to ≢ 0 →
        EffectRule 20 (MethodEffect (activation_in (ctx.Row c e) method) (Component c) p l ∷ []) (CompTaint c life.to p l)
    -- 21. An effect of another event comes to the component in each state in which it is there.
    effect_other : {b : Activation} {c state l : ℕ} {p : Path} →
        IsEventBeside b.ctx c →
        state ≢ 0 →
        EffectRule 21 (MethodEffect b (Component c) p l ∷ Live c state ∷ []) (CompTaint c state p l)

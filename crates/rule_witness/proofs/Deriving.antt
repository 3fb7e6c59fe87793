-- Each row of the table of the smallest app is derivable.
use Rattle.std.proofs.Common.{◌≡◌, ℕ, zero, suc, List, [], ◌∷◌, false, inl, inr, Option, Some, None, refl, sym, subst, lit<}
use Rattle.std.specs.Prelude.{codes, slice_get}
use Rattle.app_machine.specs.declared.component.Kind.TheVariants.{Activity}
use Rattle.app_machine.specs.declared.method.Act.TheVariants.{Return}
use Rattle.app_machine.specs.declared.method.Method.{Method}
use Rattle.app_machine.specs.Names.{descriptor_of, is_reference, is_wide}
use Rattle.app_machine.specs.Lookups.{HasCode, body_named, method_with, up}
use Rattle.app_machine.specs.LifeEvents.{LifeEvent, life_events}
use Rattle.app_machine.specs.Events.{IsApplication, LifeEventAt, layout}
use Rattle.fact_rows.specs.declared.row.Row.{Row}
use Rattle.fact_rows.specs.declared.row.Row.TheVariants.{Reached, Points, Live}
use Rattle.fact_rows.specs.declared.context.Ctx.TheVariants as ctx
use Rattle.fact_rows.specs.declared.site.Site.TheVariants.{Param, Component}
use Rattle.flow_rules.specs.Nodes.{ArgumentRegister, EventRegister}
use Rattle.flow_rules.specs.EventRules.{life_live, life_begins, life_receiver, begin_reached, begin_points, ReferenceParameter}
use Rattle.flow_rules.specs.Rules.{by_event, Starts, a_component, Derivation, nothing, by_start, by_rule, Derivable}
use Rattle.rule_witness.specs.Smallest.{main_class, smallest_app, no_lists, on_create_node, SmallestTableIsDerivable}

abbrev event : ℕ → List ℕ → List ℕ → ℕ → LifeEvent
event from name descriptor to = record { from = from; name = name; descriptor = descriptor; to = to }

abbrev made : LifeEvent
made = event 0 (codes "<init>") (codes "()V") 1

abbrev created : LifeEvent
created = event 1 (codes "onCreate") (codes "(Landroid/os/Bundle;)V") 2

-- an event of which the app has no body
at_event : (e : ℕ) (life : LifeEvent) → slice_get (life_events Activity) e ≡ Some life → (body : Option ℕ) → body_named smallest_app main_class life.name life.descriptor ≡ body → LifeEventAt smallest_app 0 e main_class life body
unfolding smallest_app
at_event e life there body is = record { component = record { kind = Activity; class = main_class }; there = record { there = refl }; of_class = refl; is_event = record { there = there }; is_body = is }

starts_event : LifeEventAt smallest_app 0 0 main_class made None
unfolding life_events body_named method_with up descriptor_of smallest_app
starts_event = at_event 0 made refl None refl

create_event : LifeEventAt smallest_app 0 1 main_class created (Some 0)
unfolding life_events body_named method_with up descriptor_of smallest_app
create_event = at_event 1 created refl (Some 0) refl

to_started : LifeEventAt smallest_app 0 2 main_class (event 2 (codes "onStart") (codes "()V") 3) None
unfolding life_events body_named method_with up descriptor_of smallest_app
to_started = at_event 2 (event 2 (codes "onStart") (codes "()V") 3) refl None refl

to_resumed : LifeEventAt smallest_app 0 3 main_class (event 3 (codes "onResume") (codes "()V") 4) None
unfolding life_events body_named method_with up descriptor_of smallest_app
to_resumed = at_event 3 (event 3 (codes "onResume") (codes "()V") 4) refl None refl

to_stopped : LifeEventAt smallest_app 0 4 main_class (event 3 (codes "onStop") (codes "()V") 6) None
unfolding life_events body_named method_with up descriptor_of smallest_app
to_stopped = at_event 4 (event 3 (codes "onStop") (codes "()V") 6) refl None refl

to_paused : LifeEventAt smallest_app 0 5 main_class (event 4 (codes "onPause") (codes "()V") 5) None
unfolding life_events body_named method_with up descriptor_of smallest_app
to_paused = at_event 5 (event 4 (codes "onPause") (codes "()V") 5) refl None refl

to_restarted : LifeEventAt smallest_app 0 8 main_class (event 6 (codes "onRestart") (codes "()V") 7) None
unfolding life_events body_named method_with up descriptor_of smallest_app
to_restarted = at_event 8 (event 6 (codes "onRestart") (codes "()V") 7) refl None refl

no_application : (a : ℕ) → IsApplication smallest_app a → ⊥
unfolding smallest_app
no_application zero is = let same = is.there.there in let kind = is.kind in let none : ⊥ = cc in none
no_application (suc a) is = let same = is.there.there in let none : ⊥ = cc in none

start : Starts smallest_app (Live 0 0)
unfolding smallest_app
start = a_component no_application (record { there = refl })

abbrev the_method : Method
the_method = record { at = record { class = main_class; name = codes "onCreate"; proto = record { params = codes "Landroid/os/Bundle;" ∷ []; ret = codes "V" } }; is_static = false; is_native = false; registers = 2; ins = 2; steps = record { pc = 0; act = Return None; next = []; catches = [] } ∷ [] }

has_code : HasCode smallest_app 0 the_method
unfolding smallest_app
has_code = record { there = refl; code = refl }

receiver : ArgumentRegister smallest_app 0 0 0
receiver = record { method = the_method; has = has_code; below = lit< tt; is = refl }

parameter : EventRegister smallest_app 0 1 1
unfolding layout is_wide
parameter = record { method = the_method; has = has_code; index = 1; is_at = record { there = refl }; below = lit< tt; is = refl }

parameter_is_bundle : ReferenceParameter smallest_app 0 1 (codes "Landroid/os/Bundle;")
unfolding smallest_app is_reference
parameter_is_bundle = record { method = the_method; there = refl; is_type = refl; reference = refl }

-- the rows one after the other, latest first
abbrev Derived : List Row → Type 0
Derived rows = Derivation smallest_app no_lists rows

d0 : Derived (Live 0 0 ∷ [])
d0 = by_start nothing start

d1 : Derived (Live 0 1 ∷ Live 0 0 ∷ [])
d1 = by_rule d0 (by_event (life_live starts_event)) (inl refl, tt)

d2 : Derived (Live 0 2 ∷ Live 0 1 ∷ Live 0 0 ∷ [])
d2 = by_rule d1 (by_event (life_live create_event)) (inl refl, tt)

d3 : Derived (Live 0 3 ∷ Live 0 2 ∷ Live 0 1 ∷ Live 0 0 ∷ [])
d3 = by_rule d2 (by_event (life_live to_started)) (inl refl, tt)

d4 : Derived (Live 0 4 ∷ Live 0 3 ∷ Live 0 2 ∷ Live 0 1 ∷ Live 0 0 ∷ [])
d4 = by_rule d3 (by_event (life_live to_resumed)) (inl refl, tt)

d5 : Derived (Live 0 5 ∷ Live 0 4 ∷ Live 0 3 ∷ Live 0 2 ∷ Live 0 1 ∷ Live 0 0 ∷ [])
d5 = by_rule d4 (by_event (life_live to_paused)) (inl refl, tt)

d6 : Derived (Live 0 6 ∷ Live 0 3 ∷ Live 0 2 ∷ Live 0 1 ∷ Live 0 0 ∷ [])
d6 = by_rule d3 (by_event (life_live to_stopped)) (inl refl, tt)

d7 : Derived (Live 0 7 ∷ Live 0 6 ∷ Live 0 3 ∷ Live 0 2 ∷ Live 0 1 ∷ Live 0 0 ∷ [])
d7 = by_rule d6 (by_event (life_live to_restarted)) (inl refl, tt)

d8 : Derived (Reached on_create_node ∷ Live 0 1 ∷ Live 0 0 ∷ [])
d8 = by_rule d1 (by_event (life_begins create_event (begin_reached has_code))) (inl refl, tt)

d9 : Derived (Points on_create_node 0 (Component 0) ∷ Live 0 1 ∷ Live 0 0 ∷ [])
d9 = by_rule d1 (by_event (life_receiver create_event receiver)) (inl refl, tt)

d10 : Derived (Points on_create_node 1 (Param (ctx.Row 0 1) 1) ∷ Live 0 1 ∷ Live 0 0 ∷ [])
d10 = by_rule d1 (by_event (life_begins create_event (begin_points parameter parameter_is_bundle))) (inl refl, tt)

ends_with : {r x : Row} {before : List Row} → Derived (x ∷ before) → r ≡ x → Derivable smallest_app no_lists r
ends_with {r} {x} {before} derived e = subst (λ y. Derivable smallest_app no_lists y) (sym e) (record { before = before; derivation = derived })

pub derivable : SmallestTableIsDerivable
derivable r (inl e) = ends_with d0 e
derivable r (inr (inl e)) = ends_with d1 e
derivable r (inr (inr (inl e))) = ends_with d2 e
derivable r (inr (inr (inr (inl e)))) = ends_with d3 e
derivable r (inr (inr (inr (inr (inl e))))) = ends_with d4 e
derivable r (inr (inr (inr (inr (inr (inl e)))))) = ends_with d5 e
derivable r (inr (inr (inr (inr (inr (inr (inl e))))))) = ends_with d6 e
derivable r (inr (inr (inr (inr (inr (inr (inr (inl e)))))))) = ends_with d7 e
derivable r (inr (inr (inr (inr (inr (inr (inr (inr (inl e))))))))) = ends_with d8 e
derivable r (inr (inr (inr (inr (inr (inr (inr (inr (inr (inl e)))))))))) = ends_with d9 e
derivable r (inr (inr (inr (inr (inr (inr (inr (inr (inr (inr (inl e))))))))))) = ends_with d10 e
derivable r (inr (inr (inr (inr (inr (inr (inr (inr (inr (inr (inr none))))))))))) = absurd none

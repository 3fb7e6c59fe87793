-- What the smallest app has: one step, one component with the events of its life, and one method; nothing else comes to it.
use Rattle.std.proofs.Common.{◌≡◌, ◌==◌, ◌<◌, ◌+◌, ◌-◌, ℕ, zero, suc, true, false, Bool, cond, List, [], ◌∷◌, Option, Some, None, refl, ap, sym, ◌∙◌, subst, lit<}
use Rattle.std.specs.Prelude.{codes, slice_get}
use Rattle.app_machine.specs.declared.method.Step.{Step}
use Rattle.app_machine.specs.declared.method.Act.{Act}
use Rattle.app_machine.specs.declared.method.Act.TheVariants.{Return}
use Rattle.app_machine.specs.declared.method.Method.{Method}
use Rattle.app_machine.specs.declared.component.Kind.TheVariants.{Activity}
use Rattle.app_machine.specs.declared.component.Component.{Component as ComponentOf}
use Rattle.vet_base.specs.Members.{In, IsAt}
use Rattle.app_machine.specs.Names.{Name, descriptor_of, is_wide, initialiser_name, initialiser_proto}
use Rattle.app_machine.specs.Lookups.{ActAt, Goes, Catches, Initialises, step_at, body_named, method_with, up, method_of, initialisers, class_initialised, initialisers_from, initialiser_of}
use Rattle.app_machine.specs.LifeEvents.{LifeEvent, life_events}
use Rattle.app_machine.specs.Events.{IsApplication, LifeEventAt, InitialiserAt, life_body, layout, parameter_type}
use Rattle.fact_rows.specs.declared.context.Ctx.{Ctx}
use Rattle.flow_rules.specs.EventRules.{ComesToLive, by_callback, by_click}
use Rattle.rule_witness.specs.Smallest.{main_class, smallest_app, no_lists}
use Rattle.std.proofs.lemmas.Option.{none-some}

-- The one step.
abbrev the_step : Step
the_step = record { pc = 0; act = Return None; next = []; catches = [] }

abbrev Returns : Act → Type 0
Returns (Return None) = Unit {0}
Returns act = ⊥

found : (b : Bool) (s : Step) → ◌≡◌ {A = Option Step} (cond b (Some the_step) None) (Some s) → the_step ≡ s
found true s e = cc
found false s e = absurd (none-some s e)

is_the_step : (method pc : ℕ) (s : Step) → step_at smallest_app method pc ≡ Some s → the_step ≡ s
unfolding step_at smallest_app
is_the_step zero pc s e = found (0 == pc) s e
is_the_step (suc method) pc s e = absurd (none-some s e)

pub never_goes : {method pc to : ℕ} → Goes smallest_app method pc to → ⊥
never_goes {method} {pc} {to} g = subst (λ (s : Step). In to s.next) (sym (is_the_step method pc g.step g.there)) g.next

pub never_caught : {method pc to : ℕ} → Catches smallest_app method pc to → ⊥
never_caught {method} {pc} {to} g = subst (λ (s : Step). In to s.catches) (sym (is_the_step method pc g.step g.there)) g.catch

pub only_returns : {method pc : ℕ} {act : Act} → ActAt smallest_app method pc act → Returns act
only_returns {method} {pc} a = subst Returns (ap (λ (s : Step). s.act) (is_the_step method pc a.step a.there) ∙ a.same) tt

pub none_initialises : {method pc body : ℕ} → Initialises smallest_app method pc body → ⊥
unfolding initialisers class_initialised
none_initialises {method} {pc} {body} i = subst (λ act. In body (initialisers smallest_app act)) (sym (ap (λ (s : Step). s.act) (is_the_step method pc i.at.step i.at.there) ∙ i.at.same)) i.is_one

-- The one component, and the events in its life.
abbrev pub the_activity : ComponentOf
the_activity = record { kind = Activity; class = main_class }

pub is_the_activity : (c : ℕ) (component : ComponentOf) → IsAt smallest_app.components c component → (c ≡ 0) × (the_activity ≡ component)
unfolding smallest_app
is_the_activity zero component at = (refl, let e = at.there in cc)
is_the_activity (suc c) component at = absurd (none-some component at.there)

pub no_application : {a : ℕ} → IsApplication smallest_app a → ⊥
no_application {a} is = let e = (is_the_activity a is.component is.there).1 in let kind = is.kind in let other : Activity ≡ is.component.kind = ap (λ (c : ComponentOf). c.kind) e in let none : ⊥ = cc in none

below_eight : {l life : LifeEvent} → ◌≡◌ {A = Option LifeEvent} (Some l) (Some life) → l.to < 8 → life.to < 8
below_eight {l} {life} e b = let same : l ≡ life = cc in subst (λ (x : LifeEvent). x.to < 8) same b

pub to_below : (e : ℕ) (life : LifeEvent) → slice_get (life_events Activity) e ≡ Some life → life.to < 8
unfolding life_events
to_below zero life h = below_eight h (lit< tt)
to_below (suc zero) life h = below_eight h (lit< tt)
to_below (suc (suc zero)) life h = below_eight h (lit< tt)
to_below (suc (suc (suc zero))) life h = below_eight h (lit< tt)
to_below (suc (suc (suc (suc zero)))) life h = below_eight h (lit< tt)
to_below (suc (suc (suc (suc (suc zero))))) life h = below_eight h (lit< tt)
to_below (suc (suc (suc (suc (suc (suc zero)))))) life h = below_eight h (lit< tt)
to_below (suc (suc (suc (suc (suc (suc (suc zero))))))) life h = below_eight h (lit< tt)
to_below (suc (suc (suc (suc (suc (suc (suc (suc zero)))))))) life h = below_eight h (lit< tt)
to_below (suc (suc (suc (suc (suc (suc (suc (suc (suc zero))))))))) life h = below_eight h (lit< tt)
to_below (suc (suc (suc (suc (suc (suc (suc (suc (suc (suc zero)))))))))) life h = below_eight h (lit< tt)
to_below (suc (suc (suc (suc (suc (suc (suc (suc (suc (suc (suc zero))))))))))) life h = below_eight h (lit< tt)
to_below (suc (suc (suc (suc (suc (suc (suc (suc (suc (suc (suc (suc e)))))))))))) life h = absurd (none-some life h)

-- `onCreate` alone has a body
without : {l life : LifeEvent} {body : ℕ} → ◌≡◌ {A = Option LifeEvent} (Some l) (Some life) → life_body smallest_app main_class l ≡ None → life_body smallest_app main_class life ≡ Some body → ⊥
without {l} {life} {body} e none some = let same : l ≡ life = cc in none-some body (sym none ∙ subst (λ (x : LifeEvent). life_body smallest_app main_class x ≡ Some body) (sym same) some)

with_body : {l life : LifeEvent} {body : ℕ} → ◌≡◌ {A = Option LifeEvent} (Some l) (Some life) → life_body smallest_app main_class l ≡ Some 0 → life_body smallest_app main_class life ≡ Some body → 0 ≡ body
with_body {l} {life} {body} e first some = let same : l ≡ life = cc in let both : ◌≡◌ {A = Option ℕ} (Some 0) (Some body) = sym first ∙ subst (λ (x : LifeEvent). life_body smallest_app main_class x ≡ Some body) (sym same) some in cc

pub the_event : (e : ℕ) (life : LifeEvent) (body : ℕ) → slice_get (life_events Activity) e ≡ Some life → life_body smallest_app main_class life ≡ Some body → (1 ≡ e) × (0 ≡ body)
unfolding life_events body_named method_with up descriptor_of smallest_app
the_event zero life body h b = absurd (without h refl b)
the_event (suc zero) life body h b = (refl, with_body h refl b)
the_event (suc (suc zero)) life body h b = absurd (without h refl b)
the_event (suc (suc (suc zero))) life body h b = absurd (without h refl b)
the_event (suc (suc (suc (suc zero)))) life body h b = absurd (without h refl b)
the_event (suc (suc (suc (suc (suc zero))))) life body h b = absurd (without h refl b)
the_event (suc (suc (suc (suc (suc (suc zero)))))) life body h b = absurd (without h refl b)
the_event (suc (suc (suc (suc (suc (suc (suc zero))))))) life body h b = absurd (without h refl b)
the_event (suc (suc (suc (suc (suc (suc (suc (suc zero)))))))) life body h b = absurd (without h refl b)
the_event (suc (suc (suc (suc (suc (suc (suc (suc (suc zero))))))))) life body h b = absurd (without h refl b)
the_event (suc (suc (suc (suc (suc (suc (suc (suc (suc (suc zero)))))))))) life body h b = absurd (without h refl b)
the_event (suc (suc (suc (suc (suc (suc (suc (suc (suc (suc (suc zero))))))))))) life body h b = absurd (without h refl b)
the_event (suc (suc (suc (suc (suc (suc (suc (suc (suc (suc (suc (suc e)))))))))))) life body h b = absurd (none-some life h)

-- the event at a place, of the one activity
pub record AtEvent (c e : ℕ) (life : LifeEvent) (body : Option ℕ) : Type 0 where
  pub component : 0 ≡ c
  pub is_event : slice_get (life_events Activity) e ≡ Some life
  pub is_body : life_body smallest_app main_class life ≡ body

pub at_event : {c e : ℕ} {class : Name} {life : LifeEvent} {body : Option ℕ} → LifeEventAt smallest_app c e class life body → AtEvent c e life body
at_event {c} {e} {class} {life} {body} at =
    let is = is_the_activity c at.component at.there in
    let same_class : main_class ≡ class = ap (λ (x : ComponentOf). x.class) is.1 ∙ at.of_class in
    record {
      component = sym is.0;
      is_event = subst (λ (x : ComponentOf). slice_get (life_events x.kind) e ≡ Some life) (sym is.1) at.is_event.there;
      is_body = subst (λ (x : Name). life_body smallest_app x life ≡ body) (sym same_class) at.is_body;
    }

-- The one method.
abbrev pub the_method : Method
the_method = record { at = record { class = main_class; name = codes "onCreate"; proto = record { params = codes "Landroid/os/Bundle;" ∷ []; ret = codes "V" } }; is_static = false; is_native = false; registers = 2; ins = 2; steps = the_step ∷ [] }

pub is_the_method : (m : Method) → slice_get smallest_app.methods 0 ≡ Some m → the_method ≡ m
unfolding smallest_app
is_the_method m e = cc

pub first_parameter : (i : ℕ) (type : Name) → parameter_type the_method.at.proto.params i ≡ Some type → 1 ≡ i
first_parameter zero type e = absurd (none-some type e)
first_parameter (suc zero) type e = refl
first_parameter (suc (suc i)) type e = absurd (none-some type e)

pub register_of : (index z : ℕ) → IsAt (layout the_method.at.proto.params) index 1 → z ≡ (2 - 2) + index → 1 ≡ z
unfolding layout is_wide
register_of zero z at e = absurd (let h : ◌≡◌ {A = Option ℕ} (Some 0) (Some 1) = at.there in let none : ⊥ = cc in none)
register_of (suc zero) z at e = sym e
register_of (suc (suc index)) z at e = absurd (none-some 1 at.there)

-- Nothing else comes: there are no callbacks, clicks and initialisers.
pub none_comes : {c body : ℕ} {k : Ctx} {sources : List (ℕ × ℕ)} → ComesToLive smallest_app no_lists c k body sources → ⊥
unfolding smallest_app no_lists
none_comes (by_callback at) = none-some at.callback at.is_row.there
none_comes (by_click at) = none-some at.name at.is_click.there

has_no_initialiser : initialisers_from smallest_app main_class ≡ []
unfolding initialisers_from initialiser_of initialiser_name initialiser_proto up method_of smallest_app
has_no_initialiser = refl

pub no_initialiser : {c body : ℕ} → InitialiserAt smallest_app c body → ⊥
no_initialiser {c} {body} at =
    let is = is_the_activity c at.component at.there in
    subst (λ xs. In body xs) has_no_initialiser (subst (λ (x : ComponentOf). In body (initialisers_from smallest_app x.class)) (sym is.1) at.is_one)

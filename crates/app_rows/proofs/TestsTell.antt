-- The tests answer true of what is in the app alone.
use Rattle.std.proofs.Common.{◌≡◌, ◌↔◌, ℕ, zero, suc, ◌+◌, ◌-◌, ◌<◌, Bool, true, false, ◌&&◌, ◌||◌, ◌==◌, IsTrue, nat_lt, List, [], ◌∷◌, length, map, Option, Some, None, is_some, slice_get, refl, sym, ap, subst, ◌∙◌, inl, inr, arith}
use Rattle.std.specs.List.{list_any, list_all}
use Rattle.std.proofs.lemmas.Bool.{and_parts, and_from, or_cases, or_left, or_right, eqb-true, eq-eqb, ltb-true, ltb-false, lt-ltb}
use Rattle.std.proofs.lemmas.Option.{none-some, same_Some}
use Rattle.vet_base.specs.Members.{In}
use Rattle.vet_base.proofs.Members.{in_map, from_map, passes_if, one_passes, list_all_in}
use Rattle.vet_base.proofs.Options.{some_of}
use Rattle.access_path.specs.declared.path.Path.{Path}
use Rattle.access_path.specs.Paths.{keys_of}
use Rattle.std.specs.Option.{option_and_then}
use Rattle.app_machine.specs.declared.method.Act.{Act}
use Rattle.app_machine.specs.declared.method.Act.TheVariants as act
use Rattle.app_machine.specs.declared.method.Method.{Method}
use Rattle.app_machine.specs.declared.method.Step.{Step}
use Rattle.app_machine.specs.declared.component.Component.{Component}
use Rattle.app_machine.specs.declared.lists.LibClass.{LibClass}
use Rattle.app_machine.specs.declared.lists.Lists.{Lists}
use Rattle.app_machine.specs.declared.lists.SummaryId.{SummaryId}
use Rattle.app_machine.specs.declared.lists.SummaryId.TheVariants as summaries
use Rattle.app_machine.specs.declared.app.App.{App}
use Rattle.app_machine.specs.Names.{Name, is_reference}
use Rattle.app_machine.specs.Lookups.{ActAt, step_at}
use Rattle.app_machine.specs.State.{result_register, exception_register}
use Rattle.app_machine.specs.LifeEvents.{LifeEvent, life_events}
use Rattle.app_machine.specs.Events.{LifeEventAt, CallbackAt, life_body, callback_body, click_body, parameter_type}
use Rattle.app_model.specs.EventBodies.{component_callback, life_event}
use Rattle.app_model.specs.EventLaws.{EventsAreExact}
use Rattle.app_model.specs.Initialisers.{component_initialisers}
use Rattle.fact_rows.specs.declared.context.Ctx.{Ctx}
use Rattle.fact_rows.specs.declared.context.Ctx.TheVariants as ctx
use Rattle.fact_rows.specs.declared.context.Activation.{Activation}
use Rattle.fact_rows.specs.declared.context.Node.{Node}
use Rattle.fact_rows.specs.declared.site.Site.{Site}
use Rattle.fact_rows.specs.declared.site.Site.TheVariants.{At, Param, Component as ComponentOf, Shared, Made}
use Rattle.fact_rows.specs.declared.field.Field.{Field}
use Rattle.fact_rows.specs.declared.field.Field.TheVariants as field
use Rattle.fact_rows.specs.Contexts.{IsEvent, event_types, types_of, body_at}
use Rattle.fact_rows.specs.InApp.{EntersAt, at_call, at_new, at_get, at_put, CtxIn, ActivationIn, PlaceIn, at_step, of_native, NodeIn, RegisterIn, of_method, is_result, is_exception, MakesAt, by_new, by_fill, by_call, ParameterIn, SiteIn, PathIn, StateIn, SummaryIn, FieldIn, FieldsIn}
use Rattle.app_rows.specs.Tests.{step_tells, enters, makes, life_run, callback_run, body_run, is_some_there, is_ctx_in, is_activation_in, is_native_one, is_place_in, is_node_in, has_register, is_register_in, types_run, is_reference_one, is_parameter_in, is_site_in, is_key_in, is_path_in, is_state_of, has_fallback, is_summary_in, is_field_in, are_fields_in}

all_pass : {A : Type 0} (test : A → Bool) (xs : List A) → ((x : A) → In x xs → test x ≡ true) → list_all test xs ≡ true
all_pass test [] each = refl
all_pass test (x ∷ xs) each = and_from (test x) (list_all test xs) (each x (inl refl)) (all_pass test xs (λ y i. each y (inr i)))

one_there : (xs : List ℕ) → is_some_there xs ≡ true → (x : ℕ) × In x xs
one_there [] h = absurd cc
one_there (x ∷ xs) h = (x, inl refl)

there_one : (x : ℕ) (xs : List ℕ) → In x xs → is_some_there xs ≡ true
there_one x [] i = absurd i
there_one x (y ∷ xs) i = refl

-- options of which a test tells that something is there
step_there : (test : Act → Bool) (o : Option Step) → step_tells test o ≡ true → (step : Step) × (o ≡ Some step) × (test step.act ≡ true)
step_there test None h = absurd cc
step_there test (Some step) h = (step, refl, h)

life_there : (o : Option (Name × LifeEvent × Option ℕ)) (body : ℕ) → life_run o ≡ Some body → (event : Name × LifeEvent × Option ℕ) × (o ≡ Some event) × (event.2 ≡ Some body)
life_there None body e = absurd (none-some body e)
life_there (Some event) body e = (event, refl, e)

called_there : (o : Option (List (ℕ × ℕ) × ℕ)) (body : ℕ) → callback_run o ≡ Some body → (called : List (ℕ × ℕ) × ℕ) × (o ≡ Some called) × (called.1 ≡ body)
called_there None body e = absurd (none-some body e)
called_there (Some called) body e = (called, refl, same_Some called.1 body e)

native_there : (o : Option Method) → is_native_one o ≡ true → (m : Method) × (o ≡ Some m) × (m.is_native ≡ true)
native_there None h = absurd cc
native_there (Some m) h = (m, refl, h)

register_there : (r : ℕ) (o : Option Method) → has_register r o ≡ true → (m : Method) × (o ≡ Some m) × (r < m.registers)
register_there r None h = absurd cc
register_there r (Some m) h = (m, refl, ltb-true r m.registers h)

reference_there : (o : Option Name) → is_reference_one o ≡ true → (type : Name) × (o ≡ Some type) × (is_reference type ≡ true)
reference_there None h = absurd cc
reference_there (Some type) h = (type, refl, h)

state_there : (state : ℕ) (o : Option Component) → is_state_of state o ≡ true →
    (component : Component) × (o ≡ Some component) × ((state == 0 || list_any (λ (life : LifeEvent). state == life.to) (life_events component.kind)) ≡ true)
state_there state None h = absurd cc
state_there state (Some component) h = (component, refl, h)

fallback_there : (o : Option LibClass) → has_fallback o ≡ true → (class : LibClass) × (o ≡ Some class) × (is_some class.fallback ≡ true)
fallback_there None h = absurd cc
fallback_there (Some class) h = (class, refl, h)

module _ (app : App) where
  -- acts
  step_from : (test : Act → Bool) {method pc : ℕ} {a : Act} → ActAt app method pc a → test a ≡ true → step_tells test (step_at app method pc) ≡ true
  step_from test at h = ap (step_tells test) at.there ∙ (ap test at.same ∙ h)

  entered : (a : Act) (method pc : ℕ) → enters a ≡ true → ActAt app method pc a → EntersAt app method pc
  entered (act.Call kind at args) method pc h there = at_call there
  entered (act.New d class size) method pc h there = at_new there
  entered (act.GetStatic ds g) method pc h there = at_get there
  entered (act.PutStatic g x) method pc h there = at_put there
  entered _ method pc h there = absurd cc

  enters_to : (method pc : ℕ) → step_tells enters (step_at app method pc) ≡ true → EntersAt app method pc
  enters_to method pc h = let s = step_there enters (step_at app method pc) h in entered s.0.act method pc s.2 (record { step = s.0; there = s.1; same = refl })

  enters_from : (method pc : ℕ) → EntersAt app method pc → step_tells enters (step_at app method pc) ≡ true
  enters_from method pc (at_call at) = step_from enters at refl
  enters_from method pc (at_new at) = step_from enters at refl
  enters_from method pc (at_get at) = step_from enters at refl
  enters_from method pc (at_put at) = step_from enters at refl

  made : (a : Act) (method pc : ℕ) → makes a ≡ true → ActAt app method pc a → MakesAt app method pc
  made (act.New d class size) method pc h there = by_new there
  made (act.Fill xs class) method pc h there = by_fill there
  made (act.Call kind at args) method pc h there = by_call there h
  made _ method pc h there = absurd cc

  pub makes_to : (method pc : ℕ) → step_tells makes (step_at app method pc) ≡ true → MakesAt app method pc
  makes_to method pc h = let s = step_there makes (step_at app method pc) h in made s.0.act method pc s.2 (record { step = s.0; there = s.1; same = refl })

  pub makes_from : (method pc : ℕ) → MakesAt app method pc → step_tells makes (step_at app method pc) ≡ true
  makes_from method pc (by_new at) = step_from makes at refl
  makes_from method pc (by_fill at) = step_from makes at refl
  makes_from method pc (by_call at reference) = step_from makes at reference

  -- places and registers
  place_to : (method pc : ℕ) → is_place_in app method pc ≡ true → PlaceIn app method pc
  place_to method pc h = elim (or_cases (is_some (step_at app method pc)) (pc == 0 && is_native_one (slice_get app.methods method)) h) [
    | inl step ↦ at_step (record { there = (some_of (step_at app method pc) step).1 })
    | inr native ↦
        let parts = and_parts (pc == 0) (is_native_one (slice_get app.methods method)) native in
        let m = native_there (slice_get app.methods method) parts.1 in
        of_native (record { method = m.0; there = m.1; native = m.2 }) (eqb-true pc 0 parts.0)
  ]

  place_from : (method pc : ℕ) → PlaceIn app method pc → is_place_in app method pc ≡ true
  place_from method pc (at_step s) = or_left (is_some (step_at app method pc)) (pc == 0 && is_native_one (slice_get app.methods method)) (ap is_some s.there)
  place_from method pc (of_native n e) =
      or_right (is_some (step_at app method pc)) (pc == 0 && is_native_one (slice_get app.methods method))
      (and_from (pc == 0) (is_native_one (slice_get app.methods method)) (eq-eqb pc 0 e) (ap is_native_one n.there ∙ n.native))

  register_to : (n : Node) (r : ℕ) → is_register_in app n r ≡ true → RegisterIn app n r
  register_to n r h = elim (or_cases (r == result_register) (r == exception_register || has_register r (slice_get app.methods n.by.method)) h) [
    | inl result ↦ is_result (eqb-true r result_register result)
    | inr other ↦ elim (or_cases (r == exception_register) (has_register r (slice_get app.methods n.by.method)) other) [
      | inl exception ↦ is_exception (eqb-true r exception_register exception)
      | inr own ↦ let m = register_there r (slice_get app.methods n.by.method) own in of_method m.1 m.2
    ]
  ]

  register_from : (n : Node) (r : ℕ) → RegisterIn app n r → is_register_in app n r ≡ true
  register_from n r (of_method {m = m} there lt) =
      or_right (r == result_register) (r == exception_register || has_register r (slice_get app.methods n.by.method))
      (or_right (r == exception_register) (has_register r (slice_get app.methods n.by.method)) (ap (has_register r) there ∙ lt-ltb r m.registers lt))
  register_from n r (is_result e) = or_left (r == result_register) (r == exception_register || has_register r (slice_get app.methods n.by.method)) (eq-eqb r result_register e)
  register_from n r (is_exception e) =
      or_right (r == result_register) (r == exception_register || has_register r (slice_get app.methods n.by.method))
      (or_left (r == exception_register) (has_register r (slice_get app.methods n.by.method)) (eq-eqb r exception_register e))

  -- paths, statics and states
  path_to : (p : Path) → is_path_in app p ≡ true → PathIn app p
  path_to p h = λ k i. ltb-true k.0 (length app.keys) (list_all_in (is_key_in app) (keys_of p) k h i)

  path_from : (p : Path) → PathIn app p → is_path_in app p ≡ true
  path_from p h = all_pass (is_key_in app) (keys_of p) (λ k i. lt-ltb k.0 (length app.keys) (h k i))

  state_to : (c state : ℕ) → is_state_of state (slice_get app.components c) ≡ true → StateIn app c state
  state_to c state h =
      let found = state_there state (slice_get app.components c) h in
      let events = life_events found.0.kind in
      let to : LifeEvent → ℕ = λ (life : LifeEvent). life.to in
      record {
        component = found.0;
        there = record { there = found.1 };
        is_state = elim (or_cases (state == 0) (list_any (λ (life : LifeEvent). state == life.to) events) found.2) [
          | inl none ↦ inl (eqb-true state 0 none)
          | inr some ↦
              let one = one_passes (λ (life : LifeEvent). state == life.to) events some in
              inr (subst (λ z. In z (map to events)) (sym (eqb-true state one.0.to one.2)) (in_map to events one.0 one.1))
        ];
      }

  state_from : (c state : ℕ) → StateIn app c state → is_state_of state (slice_get app.components c) ≡ true
  state_from c state s =
      let events = life_events s.component.kind in
      let to : LifeEvent → ℕ = λ (life : LifeEvent). life.to in
      let leads : LifeEvent → Bool = λ (life : LifeEvent). state == life.to in
      ap (is_state_of state) s.there.there
      ∙ elim s.is_state [
        | inl none ↦ or_left (state == 0) (list_any leads events) (eq-eqb state 0 none)
        | inr some ↦
            let one = from_map to events state some in
            or_right (state == 0) (list_any leads events) (passes_if leads events one.0 one.1 (eq-eqb state one.0.to one.2))
      ]

static_to : (g own shared : ℕ) → (nat_lt g own || nat_lt (g - own) shared) ≡ true → g < own + shared
static_to g own shared h = elim (or_cases (nat_lt g own) (nat_lt (g - own) shared) h) [
  | inl lt ↦ omega (arith, ltb-true g own lt)
  | inr lt ↦ omega (arith, ltb-true (g - own) shared lt)
]

static_from : (g own shared : ℕ) → g < own + shared → (nat_lt g own || nat_lt (g - own) shared) ≡ true
static_from g own shared h = by_test (nat_lt g own) refl
  where
    by_test : (b : Bool) → nat_lt g own ≡ b → (nat_lt g own || nat_lt (g - own) shared) ≡ true
    by_test true e = or_left (nat_lt g own) (nat_lt (g - own) shared) e
    by_test false e = or_right (nat_lt g own) (nat_lt (g - own) shared) (lt-ltb (g - own) shared (omega (arith, ltb-false g own e)))

module _ (lists : Lists) where
  summary_to : (u : SummaryId) → is_summary_in lists u ≡ true → SummaryIn lists u
  summary_to (summaries.Row i) h = ltb-true i (length lists.methods) h
  summary_to (summaries.Fallback i) h =
      let class = fallback_there (slice_get lists.classes i) h in
      let word = some_of class.0.fallback class.2 in
      (class.0, record { there = class.1 }, (word.0, word.1))

  summary_from : (u : SummaryId) → SummaryIn lists u → is_summary_in lists u ≡ true
  summary_from (summaries.Row i) h = lt-ltb i (length lists.methods) h
  summary_from (summaries.Fallback i) h = ap has_fallback h.1.there ∙ ap is_some h.2.1

module _ (app : App) (lists : Lists) (exact : EventsAreExact app lists) where
  -- the bodies of events
  run_life : (c e body : ℕ) → body_run app lists (ctx.Row c e) ≡ Some body → (class : Name) × ((life : LifeEvent) × LifeEventAt app c e class life (Some body))
  run_life c e body h =
      let l = life_there (life_event app c e) body h in
      (l.0.0, (l.0.1, (exact.life c e l.0.0 l.0.1 (Some body)).1 (l.1 ∙ ap (λ b. Some (l.0.0, l.0.1, b)) l.2)))

  life_runs : (c e body : ℕ) (class : Name) (life : LifeEvent) → LifeEventAt app c e class life (Some body) → body_run app lists (ctx.Row c e) ≡ Some body
  life_runs c e body class life at = ap life_run ((exact.life c e class life (Some body)).0 at)

  run_callback : (c q body : ℕ) → body_run app lists (ctx.Callback c q) ≡ Some body → (sources : List (ℕ × ℕ)) × CallbackAt app lists c q sources body
  run_callback c q body h =
      let l = called_there (component_callback app lists c q) body h in
      (l.0.0, (exact.callback c q l.0.0 body).1 (l.1 ∙ ap (λ b. Some (l.0.0, b)) l.2))

  callback_runs : (c q body : ℕ) (sources : List (ℕ × ℕ)) → CallbackAt app lists c q sources body → body_run app lists (ctx.Callback c q) ≡ Some body
  callback_runs c q body sources at = ap callback_run ((exact.callback c q sources body).0 at)

  -- contexts
  ctx_to : (x : Ctx) → is_ctx_in app lists x ≡ true → CtxIn app lists x
  ctx_to (ctx.Row c e) h = let b = some_of (body_run app lists (ctx.Row c e)) h in let l = run_life c e b.0 b.1 in (l.0, (l.1.0, (b.0, l.1.1)))
  ctx_to (ctx.Callback c q) h = let b = some_of (body_run app lists (ctx.Callback c q)) h in let l = run_callback c q b.0 b.1 in (l.0, (b.0, l.1))
  ctx_to (ctx.Click c i) h = let b = some_of (body_run app lists (ctx.Click c i)) h in (b.0, (exact.clicked c i b.0).1 b.1)
  ctx_to (ctx.Handed q) h = ltb-true q (length lists.callbacks) h
  ctx_to (ctx.Init c) h = let b = one_there (component_initialisers app c) h in (b.0, (exact.initialiser c b.0).1 b.1)
  ctx_to (ctx.Call m pc) h = enters_to app m pc h
  ctx_to (ctx.Call2 m pc n qc) h =
      let parts = and_parts (step_tells enters (step_at app m pc)) (step_tells enters (step_at app n qc)) h in
      (enters_to app m pc parts.0, enters_to app n qc parts.1)

  ctx_from : (x : Ctx) → CtxIn app lists x → is_ctx_in app lists x ≡ true
  ctx_from (ctx.Row c e) h = ap is_some (life_runs c e h.1.1.0 h.0 h.1.0 h.1.1.1)
  ctx_from (ctx.Callback c q) h = ap is_some (callback_runs c q h.1.0 h.0 h.1.1)
  ctx_from (ctx.Click c i) h = ap is_some ((exact.clicked c i h.0).0 h.1)
  ctx_from (ctx.Handed q) h = lt-ltb q (length lists.callbacks) h
  ctx_from (ctx.Init c) h = there_one h.0 (component_initialisers app c) ((exact.initialiser c h.0).0 h.1)
  ctx_from (ctx.Call m pc) h = enters_from app m pc h
  ctx_from (ctx.Call2 m pc n qc) h = and_from (step_tells enters (step_at app m pc)) (step_tells enters (step_at app n qc)) (enters_from app m pc h.0) (enters_from app n qc h.1)

  activation_to : (a : Activation) → is_activation_in app lists a ≡ true → ActivationIn app lists a
  activation_to a h =
      let parts = and_parts (nat_lt a.method (length app.methods)) (is_ctx_in app lists a.ctx) h in
      record { context = ctx_to a.ctx parts.1; method = ltb-true a.method (length app.methods) parts.0 }

  activation_from : (a : Activation) → ActivationIn app lists a → is_activation_in app lists a ≡ true
  activation_from a h = and_from (nat_lt a.method (length app.methods)) (is_ctx_in app lists a.ctx) (lt-ltb a.method (length app.methods) h.method) (ctx_from a.ctx h.context)

  node_to : (n : Node) → is_node_in app lists n ≡ true → NodeIn app lists n
  node_to n h =
      let parts = and_parts (is_place_in app n.by.method n.pc) (is_activation_in app lists n.by) h in
      record { activation = activation_to n.by parts.1; place = place_to app n.by.method n.pc parts.0 }

  node_from : (n : Node) → NodeIn app lists n → is_node_in app lists n ≡ true
  node_from n h = and_from (is_place_in app n.by.method n.pc) (is_activation_in app lists n.by) (place_from app n.by.method n.pc h.place) (activation_from n.by h.activation)

  -- the types of an event's parameters are those of the body that it runs
  types_same : (x : Ctx) → CtxIn app lists x → types_run app lists x ≡ event_types app lists x
  unfolding event_types
  types_same (ctx.Row c e) h =
      let life = h.1.0 in
      let at = h.1.1.1 in
      ap (types_of app) (life_runs c e h.1.1.0 h.0 life at ∙ sym (
      ap (body_at app lists (ctx.Row c e)) at.there.there
      ∙ (ap (option_and_then (life_body app at.component.class)) at.is_event.there ∙ (ap (λ z. life_body app z life) at.of_class ∙ at.is_body))))
  types_same (ctx.Callback c q) h =
      let at = h.1.1 in
      ap (types_of app) (callback_runs c q h.1.0 h.0 at ∙ sym (
      ap (body_at app lists (ctx.Callback c q)) at.there.there ∙ (ap (option_and_then (callback_body app at.component.class)) at.is_row.there ∙ at.is_body)))
  types_same (ctx.Click c i) h =
      let at = h.1 in
      ap (types_of app) ((exact.clicked c i h.0).0 at ∙ sym (
      ap (body_at app lists (ctx.Click c i)) at.there.there ∙ (ap (option_and_then (click_body app at.component.class)) at.is_click.there ∙ at.is_body)))
  types_same (ctx.Handed q) h = refl
  types_same (ctx.Init c) h = refl
  types_same (ctx.Call m pc) h = refl
  types_same (ctx.Call2 m pc n qc) h = refl

  -- only an event has parameters
  no_type : (i : ℕ) → is_reference_one (parameter_type [] i) ≡ true → ⊥
  no_type zero h = cc
  no_type (suc i) h = cc

  is_event : (x : Ctx) (i : ℕ) → is_reference_one (parameter_type (types_run app lists x) i) ≡ true → IsEvent x
  is_event (ctx.Row c e) i h = tt
  is_event (ctx.Callback c q) i h = tt
  is_event (ctx.Click c n) i h = tt
  is_event (ctx.Handed q) i h = tt
  is_event (ctx.Init c) i h = tt
  is_event (ctx.Call m pc) i h = no_type i h
  is_event (ctx.Call2 m pc n qc) i h = no_type i h

  parameter_to : (x : Ctx) (i : ℕ) → is_parameter_in app lists x i ≡ true → ParameterIn app lists x i
  parameter_to x i h =
      let parts = and_parts (is_reference_one (parameter_type (types_run app lists x) i)) (is_ctx_in app lists x) h in
      let context = ctx_to x parts.1 in
      let type = reference_there (parameter_type (types_run app lists x) i) parts.0 in
      record {
        event = is_event x i parts.0;
        context = context;
        type = type.0;
        is_type = ap (λ types. parameter_type types i) (sym (types_same x context)) ∙ type.1;
        reference = type.2;
      }

  parameter_from : (x : Ctx) (i : ℕ) → ParameterIn app lists x i → is_parameter_in app lists x i ≡ true
  parameter_from x i p =
      let type : parameter_type (types_run app lists x) i ≡ Some p.type = ap (λ types. parameter_type types i) (types_same x p.context) ∙ p.is_type in
      and_from (is_reference_one (parameter_type (types_run app lists x) i)) (is_ctx_in app lists x) (ap is_reference_one type ∙ p.reference) (ctx_from x p.context)

  pub site_to : (s : Site) → is_site_in app lists s ≡ true → SiteIn app lists s
  site_to (At n) h =
      let parts = and_parts (step_tells makes (step_at app n.by.method n.pc)) (is_node_in app lists n) h in
      (node_to n parts.1, makes_to app n.by.method n.pc parts.0)
  site_to (Param x i) h = parameter_to x i h
  site_to (ComponentOf c) h = ltb-true c (length app.components) h
  site_to (Shared i) h = ltb-true i (length lists.shared) h
  site_to (Made m pc) h = cc

  pub site_from : (s : Site) → SiteIn app lists s → is_site_in app lists s ≡ true
  site_from (At n) h = and_from (step_tells makes (step_at app n.by.method n.pc)) (is_node_in app lists n) (makes_from app n.by.method n.pc h.1) (node_from n h.0)
  site_from (Param x i) h = parameter_from x i h
  site_from (ComponentOf c) h = lt-ltb c (length app.components) h
  site_from (Shared i) h = lt-ltb i (length lists.shared) h
  site_from (Made m pc) h = absurd h

  pub field_to : (f : Field) → is_field_in app lists f ≡ true → FieldIn app lists f
  field_to (field.Node n) h = node_to n h
  field_to (field.Register n r) h = register_to app n r h
  field_to (field.Activation a) h = activation_to a h
  field_to (field.Site s) h = site_to s h
  field_to (field.Key k) h = ltb-true k.0 (length app.keys) h
  field_to (field.Path p) h = path_to app p h
  field_to (field.Category l) h = ltb-true l (length lists.categories) h
  field_to (field.Static g) h = static_to g (length app.statics) (length lists.shared) h
  field_to (field.Exit how) h = ltb-true how 2 h
  field_to (field.Component c) h = ltb-true c (length app.components) h
  field_to (field.State c state) h = state_to app c state h
  field_to (field.Cause cause) h = let parts = and_parts (nat_lt 0 cause) (nat_lt cause 4) h in (ltb-true 0 cause parts.0, ltb-true cause 4 parts.1)
  field_to (field.Use u) h = summary_to lists u h
  field_to (field.Label l) h = cc

  pub field_from : (f : Field) → FieldIn app lists f → is_field_in app lists f ≡ true
  field_from (field.Node n) h = node_from n h
  field_from (field.Register n r) h = register_from app n r h
  field_from (field.Activation a) h = activation_from a h
  field_from (field.Site s) h = site_from s h
  field_from (field.Key k) h = lt-ltb k.0 (length app.keys) h
  field_from (field.Path p) h = path_from app p h
  field_from (field.Category l) h = lt-ltb l (length lists.categories) h
  field_from (field.Static g) h = static_from g (length app.statics) (length lists.shared) h
  field_from (field.Exit how) h = lt-ltb how 2 h
  field_from (field.Component c) h = lt-ltb c (length app.components) h
  field_from (field.State c state) h = state_from app c state h
  field_from (field.Cause cause) h = and_from (nat_lt 0 cause) (nat_lt cause 4) (lt-ltb 0 cause h.0) (lt-ltb cause 4 h.1)
  field_from (field.Use u) h = summary_from lists u h
  field_from (field.Label l) h = absurd h

  fields_to : (fs : List Field) → are_fields_in app lists fs ≡ true → FieldsIn app lists fs
  fields_to [] h = tt
  fields_to (f ∷ fs) h = let parts = and_parts (is_field_in app lists f) (are_fields_in app lists fs) h in (field_to f parts.0, fields_to fs parts.1)

  fields_from : (fs : List Field) → FieldsIn app lists fs → are_fields_in app lists fs ≡ true
  fields_from [] h = refl
  fields_from (f ∷ fs) h = and_from (is_field_in app lists f) (are_fields_in app lists fs) (field_from f h.0) (fields_from fs h.1)

  pub fields_tell : (fs : List Field) → IsTrue (are_fields_in app lists fs) ↔ FieldsIn app lists fs
  fields_tell fs = (fields_to fs, fields_from fs)

-- The tests by which a row is told to be in the app, as the code makes them.
use Rattle.std.specs.Prelude.{ℕ, ◌-◌, Bool, true, false, ◌&&◌, ◌||◌, ◌==◌, nat_lt, List, [], ◌∷◌, length, Option, Some, None, is_some, slice_get}
use Rattle.std.specs.List.{list_any, list_all}
use Rattle.vet_base.specs.declared.key_id.KeyId.{KeyId}
use Rattle.access_path.specs.declared.path.Path.{Path}
use Rattle.access_path.specs.Paths.{keys_of}
use Rattle.app_machine.specs.declared.method.Act.{Act}
use Rattle.app_machine.specs.declared.method.Act.TheVariants as act
use Rattle.app_machine.specs.declared.method.Method.{Method}
use Rattle.app_machine.specs.declared.method.Step.{Step}
use Rattle.app_machine.specs.declared.component.Component.{Component}
use Rattle.app_machine.specs.declared.lists.LibClass.{LibClass}
use Rattle.app_machine.specs.declared.lists.Lists.{Lists}
use Rattle.app_machine.specs.declared.lists.SummaryId.{SummaryId}
use Rattle.app_machine.specs.declared.lists.SummaryId.TheVariants as summaries
use Rattle.app_machine.specs.declared.app.App.{App}
use Rattle.app_machine.specs.Names.{Name, is_reference}
use Rattle.app_machine.specs.Lookups.{step_at}
use Rattle.app_machine.specs.State.{result_register, exception_register}
use Rattle.app_machine.specs.LifeEvents.{LifeEvent, life_events}
use Rattle.app_machine.specs.Events.{parameter_type}
use Rattle.app_model.specs.EventBodies.{click, component_callback, life_event}
use Rattle.app_model.specs.Initialisers.{component_initialisers}
pub use Rattle.event_index.specs.Bodies.{life_run}
pub use Rattle.event_index.specs.Comings.{callback_run}
use Rattle.fact_rows.specs.declared.context.Ctx.{Ctx}
use Rattle.fact_rows.specs.declared.context.Ctx.TheVariants as ctx
use Rattle.fact_rows.specs.declared.context.Activation.{Activation}
use Rattle.fact_rows.specs.declared.context.Node.{Node}
use Rattle.fact_rows.specs.declared.site.Site.{Site}
use Rattle.fact_rows.specs.declared.site.Site.TheVariants.{At, Param, Component as ComponentOf, Shared, Made}
use Rattle.fact_rows.specs.declared.field.Field.{Field}
use Rattle.fact_rows.specs.declared.field.Field.TheVariants as field
use Rattle.fact_rows.specs.Contexts.{types_of, callback_types}

-- what a step tells, where there is one
abbrev pub step_tells : (Act → Bool) → Option Step → Bool
step_tells test None = false
step_tells test (Some step) = test step.act

-- a method is entered at the act or before it
abbrev pub enters : Act → Bool
enters (act.Call kind at args) = true
enters (act.New d class size) = true
enters (act.GetStatic ds g) = true
enters (act.PutStatic g x) = true
enters _ = false

-- the act makes an object
abbrev pub makes : Act → Bool
makes (act.New d class size) = true
makes (act.Fill xs class) = true
makes (act.Call kind at args) = is_reference at.proto.ret
makes _ = false

-- the body that an event runs on its component
abbrev pub body_run : App → Lists → Ctx → Option ℕ
body_run app lists (ctx.Row c e) = life_run (life_event app c e)
body_run app lists (ctx.Callback c q) = callback_run (component_callback app lists c q)
body_run app lists (ctx.Click c i) = click app c i
body_run app lists _ = None

abbrev pub is_some_there : List ℕ → Bool
is_some_there [] = false
is_some_there (x ∷ xs) = true

abbrev pub is_ctx_in : App → Lists → Ctx → Bool
is_ctx_in app lists (ctx.Handed q) = nat_lt q (length lists.callbacks)
is_ctx_in app lists (ctx.Init c) = is_some_there (component_initialisers app c)
is_ctx_in app lists (ctx.Call m pc) = step_tells enters (step_at app m pc)
is_ctx_in app lists (ctx.Call2 m pc n qc) = step_tells enters (step_at app m pc) && step_tells enters (step_at app n qc)
is_ctx_in app lists (ctx.Row c e) = is_some (body_run app lists (ctx.Row c e))
is_ctx_in app lists (ctx.Callback c q) = is_some (body_run app lists (ctx.Callback c q))
is_ctx_in app lists (ctx.Click c i) = is_some (body_run app lists (ctx.Click c i))

abbrev pub is_activation_in : App → Lists → Activation → Bool
is_activation_in app lists a = nat_lt a.method (length app.methods) && is_ctx_in app lists a.ctx

abbrev pub is_native_one : Option Method → Bool
is_native_one None = false
is_native_one (Some m) = m.is_native

abbrev pub is_place_in : App → ℕ → ℕ → Bool
is_place_in app method pc = is_some (step_at app method pc) || (pc == 0 && is_native_one (slice_get app.methods method))

abbrev pub is_node_in : App → Lists → Node → Bool
is_node_in app lists n = is_place_in app n.by.method n.pc && is_activation_in app lists n.by

abbrev pub has_register : ℕ → Option Method → Bool
has_register r None = false
has_register r (Some m) = nat_lt r m.registers

abbrev pub is_register_in : App → Node → ℕ → Bool
is_register_in app n r = r == result_register || (r == exception_register || has_register r (slice_get app.methods n.by.method))

-- the types of an event's parameters
abbrev pub types_run : App → Lists → Ctx → List Name
types_run app lists (ctx.Handed q) = callback_types (slice_get lists.callbacks q)
types_run app lists (ctx.Row c e) = types_of app (body_run app lists (ctx.Row c e))
types_run app lists (ctx.Callback c q) = types_of app (body_run app lists (ctx.Callback c q))
types_run app lists (ctx.Click c i) = types_of app (body_run app lists (ctx.Click c i))
types_run app lists _ = []

abbrev pub is_reference_one : Option Name → Bool
is_reference_one None = false
is_reference_one (Some type) = is_reference type

abbrev pub is_parameter_in : App → Lists → Ctx → ℕ → Bool
is_parameter_in app lists ctx i = is_reference_one (parameter_type (types_run app lists ctx) i) && is_ctx_in app lists ctx

abbrev pub is_site_in : App → Lists → Site → Bool
is_site_in app lists (At n) = step_tells makes (step_at app n.by.method n.pc) && is_node_in app lists n
is_site_in app lists (Param ctx i) = is_parameter_in app lists ctx i
is_site_in app lists (ComponentOf c) = nat_lt c (length app.components)
is_site_in app lists (Shared i) = nat_lt i (length lists.shared)
is_site_in app lists (Made m pc) = false

abbrev pub is_key_in : App → KeyId → Bool
is_key_in app k = nat_lt k.0 (length app.keys)

abbrev pub is_path_in : App → Path → Bool
is_path_in app p = list_all (is_key_in app) (keys_of p)

abbrev pub is_static_in : App → Lists → ℕ → Bool
is_static_in app lists g = nat_lt g (length app.statics) || nat_lt (g - length app.statics) (length lists.shared)

abbrev pub is_state_of : ℕ → Option Component → Bool
is_state_of state None = false
is_state_of state (Some component) = state == 0 || list_any (λ (life : LifeEvent). state == life.to) (life_events component.kind)

abbrev pub has_fallback : Option LibClass → Bool
has_fallback None = false
has_fallback (Some class) = is_some class.fallback

abbrev pub is_summary_in : Lists → SummaryId → Bool
is_summary_in lists (summaries.Row i) = nat_lt i (length lists.methods)
is_summary_in lists (summaries.Fallback i) = has_fallback (slice_get lists.classes i)

abbrev pub is_field_in : App → Lists → Field → Bool
is_field_in app lists (field.Node n) = is_node_in app lists n
is_field_in app lists (field.Register n r) = is_register_in app n r
is_field_in app lists (field.Activation a) = is_activation_in app lists a
is_field_in app lists (field.Site s) = is_site_in app lists s
is_field_in app lists (field.Key k) = is_key_in app k
is_field_in app lists (field.Path p) = is_path_in app p
is_field_in app lists (field.Category l) = nat_lt l (length lists.categories)
is_field_in app lists (field.Static g) = is_static_in app lists g
is_field_in app lists (field.Exit how) = nat_lt how 2
is_field_in app lists (field.Component c) = nat_lt c (length app.components)
is_field_in app lists (field.State c state) = is_state_of state (slice_get app.components c)
is_field_in app lists (field.Cause cause) = nat_lt 0 cause && nat_lt cause 4
is_field_in app lists (field.Use u) = is_summary_in lists u
is_field_in app lists (field.Label l) = false

abbrev pub are_fields_in : App → Lists → List Field → Bool
are_fields_in app lists fields = list_all (is_field_in app lists) fields

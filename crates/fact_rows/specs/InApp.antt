-- The rows that name things which the app and the lists have.
use Rattle.std.specs.Prelude.{◌≡◌, ◌<◌, ◌+◌, ℕ, IsTrue, List, [], ◌∷◌, length, map, Option, Some, slice_get}
use Rattle.vet_base.specs.declared.key_id.KeyId.{KeyId}
use Rattle.access_path.specs.declared.path.Path.{Path}
use Rattle.access_path.specs.Paths.{keys_of}
use Rattle.app_machine.specs.declared.call.MethodRef.{MethodRef}
use Rattle.app_machine.specs.declared.call.CallKind.{CallKind}
use Rattle.app_machine.specs.declared.method.Act.TheVariants as act
use Rattle.app_machine.specs.declared.method.Method.{Method}
use Rattle.app_machine.specs.declared.method.Step.{Step}
use Rattle.app_machine.specs.declared.component.Component.{Component}
use Rattle.app_machine.specs.declared.lists.LibClass.{LibClass}
use Rattle.app_machine.specs.declared.lists.FallbackWord.{FallbackWord}
use Rattle.app_machine.specs.declared.lists.Lists.{Lists}
use Rattle.app_machine.specs.declared.lists.SummaryId.{SummaryId}
use Rattle.app_machine.specs.declared.lists.SummaryId.TheVariants as summaries
use Rattle.app_machine.specs.declared.app.App.{App}
use Rattle.vet_base.specs.Members.{In, IsAt}
use Rattle.app_machine.specs.Names.{Name, is_reference}
use Rattle.app_machine.specs.Lookups.{StepAt, ActAt, IsNative}
use Rattle.app_machine.specs.State.{result_register, exception_register}
use Rattle.app_machine.specs.LifeEvents.{LifeEvent, life_events}
use Rattle.app_machine.specs.Events.{LifeEventAt, CallbackAt, ClickAt, InitialiserAt, parameter_type}
use Rattle.fact_rows.specs.declared.context.Ctx.{Ctx}
use Rattle.fact_rows.specs.declared.context.Ctx.TheVariants as ctx
use Rattle.fact_rows.specs.declared.context.Activation.{Activation}
use Rattle.fact_rows.specs.declared.context.Node.{Node}
use Rattle.fact_rows.specs.declared.site.Site.{Site}
use Rattle.fact_rows.specs.declared.site.Site.TheVariants.{At, Param, Component as ComponentOf, Shared, Made}
use Rattle.fact_rows.specs.declared.row.Row.{Row}
use Rattle.fact_rows.specs.declared.field.Field.{Field}
use Rattle.fact_rows.specs.declared.field.Field.TheVariants as field
use Rattle.fact_rows.specs.Parts.{parts_of}
use Rattle.fact_rows.specs.Contexts.{IsEvent, event_types}

-- the step is one before which or at which a method is entered
pub data EntersAt (app : App) (method pc : ℕ) : Type 0 where
  at_call : {kind : CallKind} {at : MethodRef} {args : List ℕ} → ActAt app method pc (act.Call kind at args) → EntersAt app method pc
  at_new : {d : ℕ} {class : Name} {size : Option ℕ} → ActAt app method pc (act.New d class size) → EntersAt app method pc
  at_get : {g : ℕ} {ds : List ℕ} → ActAt app method pc (act.GetStatic ds g) → EntersAt app method pc
  at_put : {g x : ℕ} → ActAt app method pc (act.PutStatic g x) → EntersAt app method pc

-- A context names an event for which its component has a body, a callback row, or one or two steps, at each of which a method
-- is entered.
abbrev pub CtxIn : App → Lists → Ctx → Type 0
CtxIn app lists (ctx.Row c e) = (class : Name) × ((life : LifeEvent) × ((body : ℕ) × LifeEventAt app c e class life (Some body)))
CtxIn app lists (ctx.Callback c q) = (sources : List (ℕ × ℕ)) × ((body : ℕ) × CallbackAt app lists c q sources body)
CtxIn app lists (ctx.Click c i) = (body : ℕ) × ClickAt app c i body
CtxIn app lists (ctx.Handed q) = q < length lists.callbacks
CtxIn app lists (ctx.Init c) = (body : ℕ) × InitialiserAt app c body
CtxIn app lists (ctx.Call m pc) = EntersAt app m pc
CtxIn app lists (ctx.Call2 m pc n qc) = EntersAt app m pc × EntersAt app n qc

pub record ActivationIn (app : App) (lists : Lists) (a : Activation) : Type 0 where
  pub context : CtxIn app lists a.ctx
  pub method : a.method < length app.methods

-- a node of a method with code has a step, that of a native method pc 0
pub data PlaceIn (app : App) (method pc : ℕ) : Type 0 where
  at_step : {step : Step} → StepAt app method pc step → PlaceIn app method pc
  of_native : IsNative app method → pc ≡ 0 → PlaceIn app method pc

pub record NodeIn (app : App) (lists : Lists) (n : Node) : Type 0 where
  pub activation : ActivationIn app lists n.by
  pub place : PlaceIn app n.by.method n.pc

-- a register of the node's method, RES or EXC
pub data RegisterIn (app : App) (n : Node) (r : ℕ) : Type 0 where
  of_method : {m : Method} → slice_get app.methods n.by.method ≡ Some m → r < m.registers → RegisterIn app n r
  is_result : r ≡ result_register → RegisterIn app n r
  is_exception : r ≡ exception_register → RegisterIn app n r

-- the step makes an object: of a new class, a filled array, or a result of a reference type
pub data MakesAt (app : App) (method pc : ℕ) : Type 0 where
  by_new : {d : ℕ} {class : Name} {size : Option ℕ} → ActAt app method pc (act.New d class size) → MakesAt app method pc
  by_fill : {xs : List ℕ} {class : Name} → ActAt app method pc (act.Fill xs class) → MakesAt app method pc
  by_call : {kind : CallKind} {at : MethodRef} {args : List ℕ} → ActAt app method pc (act.Call kind at args)
      → IsTrue (is_reference at.proto.ret) → MakesAt app method pc

-- a parameter of an event that is of a reference type
pub record ParameterIn (app : App) (lists : Lists) (ctx : Ctx) (i : ℕ) : Type 0 where
  pub event : IsEvent ctx
  pub context : CtxIn app lists ctx
  pub type : Name
  pub is_type : parameter_type (event_types app lists ctx) i ≡ Some type
  pub reference : IsTrue (is_reference type)

-- no object is made in whatever context
abbrev pub SiteIn : App → Lists → Site → Type 0
SiteIn app lists (At n) = NodeIn app lists n × MakesAt app n.by.method n.pc
SiteIn app lists (Param ctx i) = ParameterIn app lists ctx i
SiteIn app lists (ComponentOf c) = c < length app.components
SiteIn app lists (Shared i) = i < length lists.shared
SiteIn app lists (Made m pc) = ⊥

abbrev pub KeyIn : App → KeyId → Type 0
KeyIn app k = k.0 < length app.keys

abbrev pub PathIn : App → Path → Type 0
PathIn app p = (k : KeyId) → In k (keys_of p) → KeyIn app k

-- statics of the app, and behind them those of shared objects
abbrev pub StaticIn : App → Lists → ℕ → Type 0
StaticIn app lists g = g < length app.statics + length lists.shared

abbrev pub CategoryIn : Lists → ℕ → Type 0
CategoryIn lists label = label < length lists.categories

-- 0, or a state to which an event of the component's kind leads
pub record StateIn (app : App) (c state : ℕ) : Type 0 where
  pub component : Component
  pub there : IsAt app.components c component
  pub is_state : In state (0 ∷ map (λ (life : LifeEvent). life.to) (life_events component.kind))

abbrev pub SummaryIn : Lists → SummaryId → Type 0
SummaryIn lists (summaries.Row i) = i < length lists.methods
SummaryIn lists (summaries.Fallback i) = (c : LibClass) × IsAt lists.classes i c × ((word : FallbackWord) × (c.fallback ≡ Some word))

-- returned is 0 and thrown 1
abbrev pub ExitIn : ℕ → Type 0
ExitIn how = how < 2

abbrev pub CauseIn : ℕ → Type 0
CauseIn cause = (0 < cause) × (cause < 4)

-- no label is a value's own, beside no path
abbrev pub FieldIn : App → Lists → Field → Type 0
FieldIn app lists (field.Node n) = NodeIn app lists n
FieldIn app lists (field.Register n r) = RegisterIn app n r
FieldIn app lists (field.Activation a) = ActivationIn app lists a
FieldIn app lists (field.Site s) = SiteIn app lists s
FieldIn app lists (field.Key k) = KeyIn app k
FieldIn app lists (field.Path p) = PathIn app p
FieldIn app lists (field.Category l) = CategoryIn lists l
FieldIn app lists (field.Static g) = StaticIn app lists g
FieldIn app lists (field.Exit how) = ExitIn how
FieldIn app lists (field.Component c) = c < length app.components
FieldIn app lists (field.State c state) = StateIn app c state
FieldIn app lists (field.Cause cause) = CauseIn cause
FieldIn app lists (field.Use u) = SummaryIn lists u
FieldIn app lists (field.Label l) = ⊥

-- each of the fields
abbrev pub FieldsIn : App → Lists → List Field → Type 0
FieldsIn app lists [] = Unit {0}
FieldsIn app lists (f ∷ fs) = FieldIn app lists f × FieldsIn app lists fs

abbrev pub InApp : App → Lists → Row → Type 0
InApp app lists row = FieldsIn app lists (parts_of row).fields

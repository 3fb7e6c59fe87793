-- What the rules of events give of rows in the app is in the app, and so are the start rows.
use Rattle.std.proofs.Common.{◌≡◌, ℕ, ◌<◌, List, [], length, inl, Some, refl, sym, ap, ◌∙◌, subst, arith}
use Rattle.std.specs.Prelude.{slice_get}
use Rattle.std.proofs.lemmas.Option.{same_Some, slice_get_within}
use Rattle.vet_base.specs.Members.{In}
use Rattle.vet_base.proofs.Members.{in_slice_get, all_in}
use Rattle.access_path.specs.Laws.{PathLaws}
use Rattle.app_machine.specs.declared.call.Proto.{Proto}
use Rattle.app_machine.specs.declared.method.Method.{Method}
use Rattle.app_machine.specs.declared.lists.Callback.{Callback}
use Rattle.app_machine.specs.declared.lists.Lists.{Lists}
use Rattle.app_machine.specs.declared.app.App.{App}
use Rattle.app_machine.specs.Names.{Name, initialiser_proto}
use Rattle.app_machine.specs.Lookups.{HasCode, IsNative}
use Rattle.app_machine.specs.Safe.{native}
use Rattle.app_machine.specs.Events.{HandedAt, InitialiserAt, parameter_type}
use Rattle.app_machine.specs.Sound.{SoundApp}
use Rattle.app_machine.specs.SoundLists.{NamedPosition, SoundCallback, SoundLists}
use Rattle.fact_rows.specs.declared.context.Ctx.{Ctx}
use Rattle.fact_rows.specs.declared.context.Ctx.TheVariants as ctx
use Rattle.fact_rows.specs.declared.row.Row.{Row}
use Rattle.fact_rows.specs.Contexts.{IsEvent, event_types}
use Rattle.fact_rows.specs.declared.row.Row.TheVariants.{Unknown}
use Rattle.fact_rows.specs.InApp.{CtxIn, ActivationIn, NodeIn, of_native, ParameterIn, InApp}
use Rattle.flow_rules.specs.Nodes.{activation_in, entry, ArgumentRegister}
use Rattle.flow_rules.specs.EventRules as rule
use Rattle.flow_rules.specs.Rules.{Each, Starts, the_application, a_component}
use Rattle.flow_proof.proofs.Sounding.{initialiser_has_proto}
use Rattle.flow_proof.proofs.EventTypes.{life_types, callback_types_of, click_types, handed_types}
use Rattle.flow_proof.proofs.Places.{entry_in, argument_in, event_register_in, elem_in, cut_in, empty_in}
use Rattle.flow_proof.proofs.StayingSteps.{component_of, state_after}

no_parameters : (p : Proto) → p ≡ initialiser_proto → p.params ≡ []
unfolding initialiser_proto
no_parameters p same = ap (λ (q : Proto). q.params) same

-- an initialiser runs without parameters
pub initialiser_types : {app : App} (lists : Lists) {c body : ℕ} → InitialiserAt app c body → (m : Method) → slice_get app.methods body ≡ Some m →
    event_types app lists (ctx.Init c) ≡ m.at.proto.params
unfolding event_types
initialiser_types {app} lists {c} {body} at m there =
    let has_proto = initialiser_has_proto app at.component.class body at.is_one in
    let same : has_proto.method ≡ m = same_Some _ _ (sym has_proto.there ∙ there) in
    sym (no_parameters m.at.proto (ap (λ (x : Method). x.at.proto) (sym same) ∙ has_proto.is_proto))

-- the categories of a callback row's sources are of the lists
abbrev pub AreListed : Lists → List (ℕ × ℕ) → Type 0
AreListed lists sources = (i l : ℕ) → In {A = ℕ × ℕ} (i, l) sources → l < length lists.categories

pub none_listed : (lists : Lists) → AreListed lists []
none_listed lists i l h = absurd h

pub sources_listed : {lists : Lists} (q : ℕ) {callback : Callback} {sources : List (ℕ × ℕ)} → SoundLists lists →
    slice_get lists.callbacks q ≡ Some callback → callback.sources ≡ sources → AreListed lists sources
sources_listed {lists} q {callback} {sources} listed is_row same i l h =
    let sound =
    all_in (SoundCallback (length lists.categories)) lists.callbacks callback listed.callbacks (in_slice_get lists.callbacks q callback is_row) in
    (all_in (NamedPosition _ (length lists.categories)) callback.sources (i, l) sound.sources (subst (λ xs. In {A = ℕ × ℕ} (i, l) xs) (sym same) h)).1

pub begun_activation : {app : App} {lists : Lists} {k : Ctx} {body : ℕ} {m : Method} → CtxIn app lists k → slice_get app.methods body ≡ Some m →
    ActivationIn app lists (activation_in k body)
begun_activation {app} {body = body} {m = m} context there = record { context = context; method = slice_get_within app.methods body m there }

pub begun_in : {app : App} {lists : Lists} {k : Ctx} {body : ℕ} {m : Method} → SoundApp app → CtxIn app lists k → HasCode app body m →
    NodeIn app lists (entry (activation_in k body))
begun_in sound context code = entry_in sound (begun_activation context code.there) code

-- of a native body nothing is known
pub native_in : {app : App} {lists : Lists} {k : Ctx} {body : ℕ} → CtxIn app lists k → IsNative app body →
    InApp app lists (Unknown (entry (activation_in k body)) native)
native_in context is =
    (record { activation = begun_activation context is.there; place = of_native is refl }, ((omega arith, omega arith), tt))

-- a reference parameter of the body that begins is one of the event
pub parameter_in : {app : App} {lists : Lists} {k : Ctx} {body i : ℕ} {type : Name} → IsEvent k → CtxIn app lists k →
    ((m : Method) → slice_get app.methods body ≡ Some m → event_types app lists k ≡ m.at.proto.params) →
    rule.ReferenceParameter app body i type → ParameterIn app lists k i
parameter_in {i = i} {type = type} event context types parameter = record {
  event = event;
  context = context;
  type = type;
  is_type = subst (λ ts. parameter_type ts i ≡ Some type) (sym (types parameter.method parameter.there)) parameter.is_type;
  reference = parameter.reference;
}

pub live_context : {app : App} (lists : Lists) {c body : ℕ} {sources : List (ℕ × ℕ)} {k : Ctx} → rule.ComesToLive app lists c k body sources →
    CtxIn app lists k
live_context lists {body = body} {sources = sources} (rule.by_callback at) = (sources, (body, at))
live_context lists {body = body} (rule.by_click at) = (body, at)

pub live_component : {app : App} {lists : Lists} {c body : ℕ} {sources : List (ℕ × ℕ)} {k : Ctx} → rule.ComesToLive app lists c k body sources →
    c < length app.components
live_component {app} {c = c} (rule.by_callback at) = slice_get_within app.components c at.component at.there.there
live_component {app} {c = c} (rule.by_click at) = slice_get_within app.components c at.component at.there.there

pub handed_context : {app : App} {lists : Lists} {q body : ℕ} {class : Name} {sources : List (ℕ × ℕ)} → HandedAt app lists q class sources body →
    CtxIn app lists (ctx.Handed q)
handed_context {lists = lists} {q = q} at = slice_get_within lists.callbacks q at.callback at.is_row.there

module _ (app : App) (lists : Lists) (sound : SoundApp app) (laws : PathLaws) where
  begins_in : {k : Ctx} {body : ℕ} {sources : List (ℕ × ℕ)} {row : Row} → IsEvent k → CtxIn app lists k →
      ((m : Method) → slice_get app.methods body ≡ Some m → event_types app lists k ≡ m.at.proto.params) → AreListed lists sources →
      rule.Begins app k body sources row → InApp app lists row
  begins_in event context types named (rule.begin_reached code) = (begun_in sound context code, tt)
  begins_in event context types named (rule.begin_points register parameter) =
      (begun_in sound context register.has, (event_register_in sound register, (parameter_in event context types parameter, tt)))
  begins_in event context types named (rule.begin_taint {i = i} {l = l} register is_source) =
      (begun_in sound context register.has, (event_register_in sound register, (empty_in app, (named i l is_source, tt))))
  begins_in event context types named (rule.begin_element {i = i} {l = l} register parameter is_source) =
      (begun_in sound context register.has, (event_register_in sound register, (cut_in app laws _ _ (elem_in sound) (empty_in app), (named i l is_source, tt))))
  begins_in event context types named (rule.begin_receiver_element {l = l} register is_source) =
      (begun_in sound context register.has, (event_register_in sound register, (cut_in app laws _ _ (elem_in sound) (empty_in app), (named 0 l is_source, tt))))
  begins_in event context types named (rule.begin_native is) = native_in context is

module _ (app : App) (lists : Lists) (sound : SoundApp app) (listed : SoundLists lists) (laws : PathLaws) where
  live_in : {c body : ℕ} {sources : List (ℕ × ℕ)} {k : Ctx} {row : Row} → rule.ComesToLive app lists c k body sources →
      rule.Begins app k body sources row → InApp app lists row
  live_in (rule.by_callback at) begins =
      begins_in app lists sound laws tt (live_context lists (rule.by_callback at)) (callback_types_of lists at) (sources_listed _ listed at.is_row.there at.same_sources) begins
  live_in (rule.by_click at) begins =
      begins_in app lists sound laws tt (live_context lists (rule.by_click at)) (click_types lists at) (none_listed lists) begins

  receiver_in : {k : Ctx} {body z : ℕ} → CtxIn app lists k → ArgumentRegister app body 0 z → NodeIn app lists (entry (activation_in k body))
  receiver_in context argument = begun_in sound context argument.has

  pub event_in : {number : ℕ} {premises : List Row} {row : Row} → rule.EventRule app lists number premises row →
      Each (InApp app lists) premises → InApp app lists row
  event_in (rule.life_live at) h = (component_of at, (state_after at, tt))
  event_in (rule.life_begins {body = body} {class = class} {life = life} at begins) h =
      begins_in app lists sound laws tt (class, (life, (body, at))) (life_types lists at) (none_listed lists) begins
  event_in (rule.life_receiver {body = body} {class = class} {life = life} at argument) h =
      (receiver_in (class, (life, (body, at))) argument, (argument_in sound argument, (component_of at, tt)))
  event_in (rule.life_taint at from to) h = (component_of at, (state_after at, (h.0.1.1.0, (h.0.1.1.1.0, tt))))
  event_in (rule.life_receiver_taint {body = body} {class = class} {life = life} at from argument) h =
      (receiver_in (class, (life, (body, at))) argument, (argument_in sound argument, (h.0.1.1.0, (h.0.1.1.1.0, tt))))
  event_in (rule.live_begins comes there begins) h = live_in comes begins
  event_in (rule.live_receiver comes there argument) h =
      (receiver_in (live_context lists comes) argument, (argument_in sound argument, (live_component comes, tt)))
  event_in (rule.live_receiver_taint comes there argument) h =
      (receiver_in (live_context lists comes) argument, (argument_in sound argument, (h.0.1.1.0, (h.0.1.1.1.0, tt))))
  event_in (rule.handed_begins of_class at begins) h =
      begins_in app lists sound laws tt (handed_context at) (handed_types lists at) (sources_listed _ listed at.is_row.there at.same_sources) begins
  event_in (rule.handed_receiver of_class at argument) h = (receiver_in (handed_context at) argument, (argument_in sound argument, (h.0.0, tt)))
  event_in (rule.handed_receiver_taint of_class at argument) h =
      (receiver_in (handed_context at) argument, (argument_in sound argument, (h.0.1.0, (h.0.1.1.0, tt))))
  event_in (rule.initialiser_begins {body = body} at begins) h =
      begins_in app lists sound laws tt (body, at) (initialiser_types lists at) (none_listed lists) begins
  event_in (rule.handed_parameter event register parameter of_class below) h = (h.0.0, (event_register_in sound register, (h.1.0.0, tt)))
  event_in (rule.handed_parameter_taint event register parameter of_class below) h =
      (h.0.0, (event_register_in sound register, (h.1.1.0.1.0, (h.1.1.0.1.1.0, tt))))
  event_in (rule.exit_handed event) h = (h.0.1.1.0, tt)
  event_in (rule.exit_handed_taint event) h = (h.0.1.1.0, (h.1.0.1.1.0, (h.1.0.1.1.1.0, tt)))
  event_in (rule.application_live {c = c} {component = component} is_one there other) h =
      (slice_get_within app.components c component there.there, (record { component = component; there = there; is_state = inl refl }, tt))

pub start_in : (app : App) (lists : Lists) (row : Row) → Starts app row → InApp app lists row
start_in app lists row (the_application {c = c} is) =
    (slice_get_within app.components c is.component is.there.there, (record { component = is.component; there = is.there; is_state = inl refl }, tt))
start_in app lists row (a_component {c = c} {component = component} none there) =
    (slice_get_within app.components c component there.there, (record { component = component; there = there; is_state = inl refl }, tt))

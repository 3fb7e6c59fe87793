-- What the second rules of events give of rows in the app is in the app, and so are the start rows.
use Rattle.std.proofs.Common.{◌≡◌, ℕ, List, Some}
use Rattle.std.specs.Prelude.{slice_get}
use Rattle.app_machine.specs.declared.method.Method.{Method}
use Rattle.app_machine.specs.declared.lists.Lists.{Lists}
use Rattle.app_machine.specs.declared.app.App.{App}
use Rattle.app_machine.specs.Sound.{SoundApp}
use Rattle.app_machine.specs.SoundLists.{SoundLists}
use Rattle.fact_rows.specs.declared.context.Ctx.{Ctx}
use Rattle.fact_rows.specs.declared.site.Site.TheVariants.{Param, Component}
use Rattle.fact_rows.specs.declared.row.Row.{Row}
use Rattle.fact_rows.specs.Contexts.{IsEvent, event_types}
use Rattle.fact_rows.specs.InApp.{CtxIn}
use Rattle.flow_rules.specs.EventRules.{ComesToLive, by_callback, by_click}
use Rattle.flow_rules.specs.Rules.{Each, Starts, the_application, a_component}
use Rattle.cell_rules.specs.InApp.{CellInApp}
use Rattle.cell_rules.specs.EventRules as rule
use Rattle.flow_proof.proofs.EventTypes.{life_types, callback_types_of, click_types, handed_types}
use Rattle.flow_proof.proofs.Places.{elem_in}
use Rattle.flow_proof.proofs.StayingSteps.{component_of}
use Rattle.flow_proof.proofs.StayingEvents.{AreListed, none_listed, sources_listed, begun_activation, parameter_in, live_context, live_component, handed_context, start_in}
use Rattle.cell_proof.proofs.Reading.{points_in, label_in}

module _ (app : App) (lists : Lists) (sound : SoundApp app) (listed : SoundLists lists) where
  begins_in : {k : Ctx} {body : ℕ} {sources : List (ℕ × ℕ)} {row : Row} → IsEvent k → CtxIn app lists k →
      ((m : Method) → slice_get app.methods body ≡ Some m → event_types app lists k ≡ m.at.proto.params) → AreListed lists sources →
      rule.BeginsWith app k body sources row → CellInApp app lists row
  begins_in {k} event context types named (rule.begin_points {i = i} register parameter read) =
      points_in sound (Param k i) (begun_activation context register.has.there) read (parameter_in event context types parameter)
  begins_in event context types named (rule.begin_label {i = i} {l = l} register is_source read) =
      label_in sound (begun_activation context register.has.there) read (named i l is_source)
  begins_in event context types named (rule.begin_element {i = i} {l = l} code parameter is_source) =
      (parameter_in event context types parameter, (elem_in sound, (named i l is_source, tt)))

  live_in : {c body : ℕ} {sources : List (ℕ × ℕ)} {k : Ctx} {row : Row} → ComesToLive app lists c k body sources →
      rule.BeginsWith app k body sources row → CellInApp app lists row
  live_in (by_callback at) begins =
      begins_in tt (live_context lists (by_callback at)) (callback_types_of lists at) (sources_listed _ listed at.is_row.there at.same_sources) begins
  live_in (by_click at) begins = begins_in tt (live_context lists (by_click at)) (click_types lists at) (none_listed lists) begins

  pub event_in : {number : ℕ} {premises : List Row} {row : Row} → rule.EventRule app lists number premises row → Each (CellInApp app lists) premises →
      CellInApp app lists row
  event_in (rule.life_begins {body = body} {class = class} {life = life} at begins) h =
      begins_in tt (class, (life, (body, at))) (life_types lists at) (none_listed lists) begins
  event_in (rule.life_receiver {c = c} {body = body} {class = class} {life = life} at argument read) h =
      points_in sound (Component c) (begun_activation (class, (life, (body, at))) argument.has.there) read (component_of at)
  event_in (rule.live_begins comes there begins) h = live_in comes begins
  event_in (rule.live_receiver {c = c} comes there argument read) h =
      points_in sound (Component c) (begun_activation (live_context lists comes) argument.has.there) read (live_component comes)
  event_in (rule.handed_begins of_class at begins) h =
      begins_in tt (handed_context at) (handed_types lists at) (sources_listed _ listed at.is_row.there at.same_sources) begins
  event_in (rule.handed_receiver of_class at argument read) h =
      points_in sound _ (begun_activation (handed_context at) argument.has.there) read h.0.0
  event_in (rule.handed_parameter event register parameter of_class below read) h = points_in sound _ h.0.0.activation read h.1.0.0

pub start_cells : (app : App) (lists : Lists) (row : Row) → Starts app row → CellInApp app lists row
start_cells app lists row (the_application is) = start_in app lists _ (the_application is)
start_cells app lists row (a_component none there) = start_in app lists _ (a_component none there)

-- What the rules that both sets have give of rows in the app is in the app.
use Rattle.std.proofs.Common.{◌==◌, ℕ, List, inl, refl, arith}
use Rattle.std.specs.Prelude.{IsFalse}
use Rattle.std.proofs.lemmas.Option.{slice_get_within}
use Rattle.app_machine.specs.declared.call.MethodRef.{MethodRef}
use Rattle.app_machine.specs.declared.call.CallKind.{CallKind}
use Rattle.app_machine.specs.declared.lists.Lists.{Lists}
use Rattle.app_machine.specs.declared.app.App.{App}
use Rattle.app_machine.specs.Names.{Name}
use Rattle.app_machine.specs.Sound.{SoundApp}
use Rattle.app_machine.specs.SoundLists.{SoundLists}
use Rattle.fact_rows.specs.declared.context.Ctx.{Ctx}
use Rattle.fact_rows.specs.declared.context.Node.{Node}
use Rattle.fact_rows.specs.declared.row.Row.{Row}
use Rattle.fact_rows.specs.InApp.{EntersAt, at_call, CtxIn, NodeIn}
use Rattle.flow_rules.specs.LocalRules as step
use Rattle.flow_rules.specs.EffectRules as effect
use Rattle.flow_rules.specs.CallRules as call
use Rattle.flow_rules.specs.LibraryRules as library
use Rattle.flow_rules.specs.EventRules as event
use Rattle.flow_rules.specs.HandedRules as handed
use Rattle.flow_rules.specs.Rules.{by_local, by_effect, by_call, by_library, by_event, by_handed, Each}
use Rattle.cell_rules.specs.InApp.{CellInApp}
use Rattle.cell_rules.specs.KeptRules.{IsKept, filling, KeptRule, kept}
use Rattle.flow_proof.proofs.Sounding.{put_static_below}
use Rattle.flow_proof.proofs.Places.{next_in, caught_in, elem_in, put_key, app_static, static_of_shared}
use Rattle.flow_proof.proofs.StayingSteps.{component_of, state_after}
use Rattle.flow_proof.proofs.StayingCalls.{initialises_at, entered_in, looked_in}
use Rattle.flow_proof.proofs.StayingLibrary.{names_listed}
use Rattle.flow_proof.proofs.StayingEvents.{begun_in, native_in, live_context, handed_context}

module _ (app : App) (lists : Lists) (sound : SoundApp app) where
  -- steps: a filled array is no one of them
  step_in : {number : ℕ} {premises : List Row} {row : Row} → step.LocalRule app lists number premises row → IsKept row → IsFalse (number == filling) →
      Each (CellInApp app lists) premises → CellInApp app lists row
  step_in (step.reach_next goes) is other h = (next_in sound h.0.0 goes, tt)
  step_in (step.reach_caught caught) is other h = (caught_in sound h.0.0 caught, tt)
  step_in (step.fill_cell x acts is_source) is other h = absurd (let none : ⊥ = cc in none)
  step_in (step.put_cell {n = n} acts) is other h = (h.0.1.1.0, (put_key sound n acts, (h.1.0.1.1.0, tt)))
  step_in (step.put_static_points acts) is other h = (app_static app lists (put_static_below sound acts), (h.0.1.1.0, tt))
  step_in (step.throw_exit_points acts) is other h = (h.0.0.activation, (omega arith, (h.0.1.1.0, tt)))
  step_in (step.return_points acts) is other h = (h.0.0.activation, (omega arith, (h.0.1.1.0, tt)))
  step_in step.cell_back is other h = (h.0.1.1.0, (h.0.1.0, (h.0.0, tt)))
  step_in r none other h = absurd none

  effect_in : {number : ℕ} {premises : List Row} {row : Row} → effect.EffectRule app number premises row → IsKept row → CellInApp app lists row
  effect_in effect.lift_effect none = absurd none
  effect_in (effect.effect_next goes) none = absurd none
  effect_in (effect.effect_caught caught) none = absurd none
  effect_in effect.method_effect none = absurd none
  effect_in effect.caller_effect none = absurd none
  effect_in effect.effect_static none = absurd none
  effect_in effect.effect_handed none = absurd none
  effect_in (effect.effect_own at stays) none = absurd none
  effect_in (effect.effect_other beside there) none = absurd none

  -- a body that is entered, and a row that is looked up
  entered_cells : {n : Node} {body : ℕ} {row : Row} → NodeIn app lists n → EntersAt app n.by.method n.pc → call.Enters app n body row →
      CellInApp app lists row
  entered_cells node at (call.calls_it code) = entered_in app lists sound node at (call.calls_it code)
  entered_cells node at (call.is_called code) = entered_in app lists sound node at (call.is_called code)
  entered_cells node at (call.reaches_it code) = entered_in app lists sound node at (call.reaches_it code)
  entered_cells {body = body} node at (call.is_native is) = entered_in app lists sound {body = body} node at (call.is_native is)

  looked_cells : {n : Node} {kind : CallKind} {at : MethodRef} {class : Name} {row : Row} → NodeIn app lists n →
      call.LooksUp app lists n kind at class row →
      CellInApp app lists row
  looked_cells {kind = kind} {at = at} {class = class} node (call.finds_none none) = looked_in app lists sound {kind = kind} {at = at} {class = class} node (call.finds_none none)
  looked_cells {kind = kind} {at = at} {class = class} node (call.finds_reflection is_key is_row reflects) = looked_in app lists sound {kind = kind} {at = at} {class = class} node (call.finds_reflection is_key is_row reflects)
  looked_cells {kind = kind} {at = at} {class = class} node (call.finds_row is_key is_row plain) = looked_in app lists sound {kind = kind} {at = at} {class = class} node (call.finds_row is_key is_row plain)

  call_in : {number : ℕ} {premises : List Row} {row : Row} → call.CallRule app lists number premises row → IsKept row →
      Each (CellInApp app lists) premises → CellInApp app lists row
  call_in (call.enter_direct acts plain goes enters) is h = entered_cells h.0.0 (at_call acts) enters
  call_in (call.enter_class acts virtual is_first of_class goes enters) is h = entered_cells h.0.0 (at_call acts) enters
  call_in call.unwound_points is h = (h.1.0.1.0.activation, (omega arith, (h.0.1.1.0, tt)))
  call_in (call.use_by_name acts goes looks) is h = looked_cells h.0.0 looks
  call_in (call.use_by_class acts virtual is_first of_class goes looks) is h = looked_cells h.0.0 looks
  call_in (call.enter_initialiser is_one enters) is h = entered_cells h.0.0 (initialises_at is_one) enters
  call_in r none h = absurd none

  library_in : SoundLists lists → {number : ℕ} {premises : List Row} {row : Row} → library.LibraryRule app lists number premises row → IsKept row →
      Each (CellInApp app lists) premises → CellInApp app lists row
  library_in listed (library.hand_points i r is_at) is h = (h.1.0.1.1.0, tt)
  library_in listed (library.shared_static_points {u = u} {g = g} r gives result) is h =
      let below = (names_listed u _ _ listed r.is_row).shared g gives in (static_of_shared app lists below, (below, tt))
  library_in listed (library.row_put_cell i j r is_put is_object is_value) is h = (h.1.0.1.1.0, (elem_in sound, (h.1.1.0.1.1.0, tt)))
  library_in listed (library.store_static {u = u} i g r is_store) is h =
      let below = (names_listed u _ _ listed r.is_row).stores i g is_store in (static_of_shared app lists below, (below, tt))
  library_in listed (library.store_cell {u = u} i g r is_store is_at) is h =
      ((names_listed u _ _ listed r.is_row).stores i g is_store, (elem_in sound, (h.1.0.1.1.0, tt)))
  library_in listed (library.copy_cell i j r is_copy is_from is_to) is h = (h.1.1.1.0.1.1.0, (elem_in sound, (h.1.1.0.1.1.0, tt)))
  library_in listed r none h = absurd none

  -- a body that begins
  begun_cells : {k : Ctx} {body : ℕ} {sources : List (ℕ × ℕ)} {row : Row} → CtxIn app lists k → event.Begins app k body sources row → IsKept row →
      CellInApp app lists row
  begun_cells context (event.begin_reached code) is = (begun_in sound context code, tt)
  begun_cells context (event.begin_native native) is = native_in context native
  begun_cells context r none = absurd none

  event_in : {number : ℕ} {premises : List Row} {row : Row} → event.EventRule app lists number premises row → IsKept row →
      Each (CellInApp app lists) premises → CellInApp app lists row
  event_in (event.life_live at) is h = (component_of at, (state_after at, tt))
  event_in (event.life_begins {body = body} {class = class} {life = life} at begins) is h = begun_cells (class, (life, (body, at))) begins is
  event_in (event.live_begins comes there begins) is h = begun_cells (live_context lists comes) begins is
  event_in (event.handed_begins of_class at begins) is h = begun_cells (handed_context at) begins is
  event_in (event.initialiser_begins {body = body} at begins) is h = begun_cells (body, at) begins is
  event_in (event.exit_handed event) is h = (h.0.1.1.0, tt)
  event_in (event.application_live {c = c} {component = component} is_one there other) is h =
      (slice_get_within app.components c component there.there, (record { component = component; there = there; is_state = inl refl }, tt))
  event_in r none h = absurd none

  handed_in : {number : ℕ} {premises : List Row} {row : Row} → handed.HandedRule app lists number premises row → IsKept row → CellInApp app lists row
  handed_in (handed.handed_points may goes) none = absurd none
  handed_in (handed.handed_taint may goes) none = absurd none
  handed_in (handed.live_points may there goes) none = absurd none
  handed_in (handed.live_taint may there goes) none = absurd none

  pub kept_in : SoundLists lists → {number : ℕ} {premises : List Row} {row : Row} → KeptRule app lists number premises row →
      Each (CellInApp app lists) premises → CellInApp app lists row
  kept_in listed (kept (by_local r) is other) h = step_in r is other h
  kept_in listed (kept (by_effect r) is other) h = effect_in r is
  kept_in listed (kept (by_call r) is other) h = call_in r is h
  kept_in listed (kept (by_library r) is other) h = library_in listed r is h
  kept_in listed (kept (by_event r) is other) h = event_in r is h
  kept_in listed (kept (by_handed r) is other) h = handed_in r is

-- The set of all rows that speak of no label is closed under all of the second rules but that of joined results.
use Rattle.std.proofs.Common.{◌≢◌, ℕ, List, [], refl}
use Rattle.app_machine.specs.declared.method.Step.{Step}
use Rattle.app_machine.specs.declared.method.Act.{Act}
use Rattle.app_machine.specs.declared.method.Act.TheVariants.{GetStatic}
use Rattle.app_machine.specs.declared.app.App.{App}
use Rattle.app_machine.specs.Lookups.{ActAt}
use Rattle.fact_rows.specs.declared.context.Ctx.{Ctx}
use Rattle.fact_rows.specs.declared.row.Row.{Row}
use Rattle.fact_rows.specs.declared.row.Row.TheVariants.{Label, StaticLabel, CellLabel, Holds, ExitLabel, Arrive}
use Rattle.flow_rules.specs.EventRules.{ComesToLive, by_callback, by_click}
use Rattle.flow_rules.specs.Rules.{Each}
use Rattle.machine_witness.specs.Apps.{small_lists}
use Rattle.machine_witness.specs.Flows.{scene, activity_of}
use Rattle.cell_rules.specs.KeptRules.{IsKept, kept}
use Rattle.cell_rules.specs.LocalRules as step
use Rattle.cell_rules.specs.HeapRules as heap
use Rattle.cell_rules.specs.CallRules as call
use Rattle.cell_rules.specs.LibraryRules as library
use Rattle.cell_rules.specs.EventRules as event
use Rattle.cell_rules.specs.HandedRules as handed
use Rattle.cell_rules.specs.Rules.{Follows, by_kept, by_local, by_heap, by_call, by_library, by_event, by_handed}
use Rattle.cell_witness.specs.Missing.{Unlabelled}
use Rattle.cell_witness.proofs.Closing.{no_callback, no_handed}
use Rattle.cell_witness.proofs.Scenes.{AllActs, acts_are}

-- no static is read
abbrev pub Still : Act → Type 0
Still (GetStatic ds g) = ⊥
Still act = Unit {0}

kept_unlabelled : (row : Row) → IsKept row → Unlabelled row
kept_unlabelled (Label n r l) none = absurd none
kept_unlabelled (StaticLabel g l) none = absurd none
kept_unlabelled (CellLabel s k l) none = absurd none
kept_unlabelled (Holds s l) none = absurd none
kept_unlabelled (ExitLabel a how l) none = absurd none
kept_unlabelled (Arrive l sink n) none = absurd none
kept_unlabelled row is = tt

module _ (steps : List Step) (still : AllActs Still steps) where
  abbrev the_app : App
  the_app = activity_of (scene steps [])

  is_still : {method pc : ℕ} {act : Act} → ActAt the_app method pc act → Still act
  is_still at = acts_are steps Still still at

  step_closed : {rule : ℕ} {premises : List Row} {row : Row} → step.LocalRule the_app small_lists rule premises row → Each Unlabelled premises →
      Unlabelled row
  step_closed (step.move_label d acts is_one goes read) h = h.0
  step_closed (step.result_label d acts is_one goes read) h = h.0
  step_closed (step.exception_label acts goes read) h = h.0
  step_closed (step.join_label d y acts is_one is_source goes read) h = h.0
  step_closed (step.new_label acts goes read) h = h.0
  step_closed (step.fill_label y acts is_source) h = h.0
  step_closed (step.get_label d acts is_one goes read) h = h.1.0
  step_closed (step.put_label acts) h = h.1.0
  step_closed (step.get_static_label d acts is_one goes read) h = h.1.0
  step_closed (step.get_static_source d acts is_one is goes read) h = is_still acts
  step_closed (step.put_static_label acts) h = h.0
  step_closed (step.throw_label acts caught read) h = h.0
  step_closed (step.throw_exit_label acts) h = h.0
  step_closed (step.return_label acts) h = h.0
  step_closed r h = tt

  heap_closed : {rule : ℕ} {premises : List Row} {row : Row} → heap.HeapRule rule premises row → Each Unlabelled premises → Unlabelled row
  heap_closed heap.cell_holds h = h.0
  heap_closed heap.lift_holds h = h.0

  call_closed : {rule : ℕ} {premises : List Row} {row : Row} → call.CallRule the_app small_lists rule premises row → Each Unlabelled premises →
      Unlabelled row
  call_closed (call.pass_label i acts is_argument other argument read) h = h.1.0
  call_closed (call.returned_label goes read) h = h.0
  call_closed (call.caught_label caught read) h = h.0
  call_closed call.unwound_label h = h.0
  call_closed r h = tt

  library_closed : {rule : ℕ} {premises : List Row} {row : Row} → rule ≢ 35 → library.LibraryRule the_app small_lists rule premises row →
      Each Unlabelled premises → Unlabelled row
  library_closed other (library.sink_arrives i sink r is_sink is_at library.own_label) h = h.1.0
  library_closed other (library.sink_arrives i sink r is_sink is_at library.held_label) h = h.1.1.0
  library_closed other (library.same_label r gives result is_at goes read) h = h.1.0
  library_closed other (library.taken_label r gives result is_at goes read) h = h.1.1.0
  library_closed other (library.joined_label i r gives is_from result is_at leads goes read) h = other refl
  library_closed other (library.joined_element i r gives is_from result reference is_at leads) h = other refl
  library_closed other (library.source_label r gives source result goes read) h = other refl
  library_closed other (library.source_element r gives source result reference) h = other refl
  library_closed other (library.row_put_label i j r is_put is_object is_value) h = h.1.1.0
  library_closed other (library.store_label i g r is_store is_at) h = h.1.0
  library_closed other (library.copy_label i j r is_copy is_from is_to) h = h.1.1.0
  library_closed other r h = tt

  begins_closed : {k : Ctx} {body : ℕ} {row : Row} → event.BeginsWith the_app k body [] row → Unlabelled row
  begins_closed (event.begin_points register parameter read) = tt
  begins_closed (event.begin_label register none read) = none
  begins_closed (event.begin_element code parameter none) = none

  live_closed : {c body : ℕ} {sources : List (ℕ × ℕ)} {k : Ctx} {row : Row} → ComesToLive the_app small_lists c k body sources →
      event.BeginsWith the_app k body sources row → Unlabelled row
  live_closed (by_callback at) begins = absurd (no_callback at)
  live_closed (by_click at) begins = begins_closed begins

  event_closed : {rule : ℕ} {premises : List Row} {row : Row} → event.EventRule the_app small_lists rule premises row → Unlabelled row
  event_closed (event.life_begins at begins) = begins_closed begins
  event_closed (event.live_begins comes there begins) = live_closed comes begins
  event_closed (event.handed_begins of_class at begins) = absurd (no_handed at)
  event_closed r = tt

  handed_closed : {rule : ℕ} {premises : List Row} {row : Row} → handed.HandedRule the_app small_lists rule premises row → Unlabelled row
  handed_closed (handed.handed_points may goes read) = tt
  handed_closed (handed.live_points may there goes read) = tt

  pub closed_unlabelled : (rule : ℕ) (premises : List Row) (row : Row) → rule ≢ 35 → Follows the_app small_lists rule premises row →
      Each Unlabelled premises → Unlabelled row
  closed_unlabelled rule premises row other (by_kept (kept r is not_filling)) h = kept_unlabelled row is
  closed_unlabelled rule premises row other (by_local r) h = step_closed r h
  closed_unlabelled rule premises row other (by_heap r) h = heap_closed r h
  closed_unlabelled rule premises row other (by_call r) h = call_closed r h
  closed_unlabelled rule premises row other (by_library r) h = library_closed other r h
  closed_unlabelled rule premises row other (by_event r) h = event_closed r
  closed_unlabelled rule premises row other (by_handed r) h = handed_closed r

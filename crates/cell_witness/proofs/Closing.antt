-- Sets of rows that are closed under all of the second rules but one.
use Rattle.std.proofs.Common.{◌≡◌, ◌≢◌, ℕ, ◌<◌, ◌≤◌, List, [], None, sym, arith}
use Rattle.std.specs.Prelude.{IsFalse}
use Rattle.std.proofs.lemmas.Option.{none-some}
use Rattle.vet_base.specs.Members.{In, IsAt}
use Rattle.app_machine.specs.declared.method.Step.{Step}
use Rattle.app_machine.specs.declared.method.Act.{Act}
use Rattle.app_machine.specs.declared.method.Act.TheVariants.{Join, Move, New, Fill, Get, GetStatic, Call, TakeResult, TakeException}
use Rattle.app_machine.specs.declared.lists.SummaryId.{SummaryId}
use Rattle.app_machine.specs.declared.app.App.{App}
use Rattle.app_machine.specs.Names.{Name, is_reference}
use Rattle.app_machine.specs.Lookups.{ActAt}
use Rattle.app_machine.specs.State.{result_register, exception_register}
use Rattle.app_machine.specs.Events.{CallbackAt, HandedAt}
use Rattle.fact_rows.specs.declared.context.Ctx.{Ctx}
use Rattle.fact_rows.specs.declared.context.Node.{Node}
use Rattle.fact_rows.specs.declared.row.Row.{Row}
use Rattle.fact_rows.specs.declared.row.Row.TheVariants.{Label, CellLabel, Holds, Arrive}
use Rattle.flow_rules.specs.EventRules.{ComesToLive, by_callback, by_click}
use Rattle.flow_rules.specs.LibraryRules.{RowAt, places_of, HasReference}
use Rattle.flow_rules.specs.Rules.{Each}
use Rattle.machine_witness.specs.Apps.{small_lists}
use Rattle.machine_witness.specs.Flows.{scene, activity_of}
use Rattle.cell_rules.specs.KeptRules.{IsKept, kept}
use Rattle.cell_rules.specs.LocalRules as step
use Rattle.cell_rules.specs.HeapRules as heap
use Rattle.cell_rules.specs.CallRules as call
use Rattle.cell_rules.specs.LibraryRules as library
use Rattle.cell_rules.specs.EventRules as event
use Rattle.cell_rules.specs.HandedRules as handed
use Rattle.cell_rules.specs.Rules.{Follows, by_kept, by_local, by_heap, by_call, by_library, by_event, by_handed}
use Rattle.cell_proof.proofs.Positions.{position_read}
use Rattle.cell_witness.specs.Missing.{Without}
use Rattle.cell_witness.proofs.Scenes.{AllActs, acts_are, argument_behind}

-- the lists have no callbacks
pub no_callback : {app : App} {c q body : ℕ} {sources : List (ℕ × ℕ)} → CallbackAt app small_lists c q sources body → ⊥
unfolding small_lists
no_callback at = none-some at.callback at.is_row.there

pub no_handed : {app : App} {q body : ℕ} {class : Name} {sources : List (ℕ × ℕ)} → HandedAt app small_lists q class sources body → ⊥
unfolding small_lists
no_handed at = none-some at.callback at.is_row.there

module _ (x : ℕ) (cells : Type 0) where
  -- acts that bring no label to the register, and pass to calls nothing but the register
  abbrev pub Tame : Act → Type 0
  Tame (Join ds xs) = ⊥
  Tame (Move ds y) = ⊥
  Tame (New d class size) = size ≡ None
  Tame (Fill xs class) = ⊥
  Tame (Get ds o k) = (d : ℕ) → In d ds → cells → d ≢ x
  Tame (GetStatic ds g) = ⊥
  Tame (TakeResult ds) = (d : ℕ) → In d ds → d ≢ x
  Tame (TakeException d) = ⊥
  Tame (Call kind at args) = IsFalse (is_reference at.proto.ret) × ((y : ℕ) → In y args → y ≡ x)
  Tame act = Unit {0}

  kept_without : (row : Row) → IsKept row → Without x cells row
  kept_without (Label n r l) none = absurd none
  kept_without (CellLabel s k l) none = absurd none
  kept_without (Holds s l) none = absurd none
  kept_without (Arrive l sink n) none = absurd none
  kept_without row is = tt

  module _ (small : x < 3) (steps : List Step) (tame : AllActs Tame steps) (left_out : ℕ) (puts : 8 ≢ left_out → cells) (holds : 14 ≢ left_out → cells → ⊥) where
    abbrev the_app : App
    the_app = activity_of (scene steps [])

    is_tame : {method pc : ℕ} {act : Act} → ActAt the_app method pc act → Tame act
    is_tame at = acts_are steps Tame tame at

    far : (r : ℕ) → 3 ≤ r → r ≢ x
    far r beyond same = let within = small in omega arith

    -- a position of a call is the register
    at_position : {n : Node} {u : SummaryId} (r : RowAt the_app small_lists n u) {i y : ℕ} → IsAt (places_of r) i y → y ≡ x
    at_position r {i} {y} is_at = (is_tame r.act).1 y (position_read r.kind r.at r.args i y is_at)

    no_reference : {n : Node} {u : SummaryId} (r : RowAt the_app small_lists n u) → HasReference r → ⊥
    no_reference r reference = let plain = (is_tame r.act).0 in let is = reference in let none : ⊥ = cc in none

    step_closed : {rule : ℕ} {premises : List Row} {row : Row} → rule ≢ left_out → step.LocalRule the_app small_lists rule premises row →
        Each (Without x cells) premises → Without x cells row
    step_closed other (step.move_label d acts is_one goes read) h = absurd (is_tame acts)
    step_closed other (step.result_label d acts is_one goes read) h = is_tame acts d is_one
    step_closed other (step.exception_label acts goes read) h = absurd (is_tame acts)
    step_closed other (step.join_label d y acts is_one is_source goes read) h = absurd (is_tame acts)
    step_closed other (step.new_label {x = y} acts goes read) h = absurd (none-some y (sym (is_tame acts)))
    step_closed other (step.fill_label y acts is_source) h = absurd (is_tame acts)
    step_closed other (step.get_label d acts is_one goes read) h = is_tame acts d is_one h.1.0
    step_closed other (step.put_label acts) h = puts other
    step_closed other (step.get_static_label d acts is_one goes read) h = absurd (is_tame acts)
    step_closed other (step.get_static_source d acts is_one is goes read) h = absurd (is_tame acts)
    step_closed other (step.throw_label acts caught read) h = far exception_register (omega arith)
    step_closed other r h = tt

    heap_closed : {rule : ℕ} {premises : List Row} {row : Row} → rule ≢ left_out → heap.HeapRule rule premises row → Each (Without x cells) premises →
        Without x cells row
    heap_closed other heap.cell_holds h = holds other h.0
    heap_closed other heap.lift_holds h = h.0

    call_closed : {rule : ℕ} {premises : List Row} {row : Row} → call.CallRule the_app small_lists rule premises row → Without x cells row
    call_closed (call.pass_label i acts is_argument other argument read) = far _ (argument_behind steps argument)
    call_closed (call.returned_label goes read) = far result_register (omega arith)
    call_closed (call.caught_label caught read) = far exception_register (omega arith)
    call_closed r = tt

    library_closed : {rule : ℕ} {premises : List Row} {row : Row} → library.LibraryRule the_app small_lists rule premises row →
        Each (Without x cells) premises → Without x cells row
    library_closed (library.sink_arrives i sink r is_sink is_at library.own_label) h = h.1.0 (at_position r is_at)
    library_closed (library.sink_arrives i sink r is_sink is_at library.held_label) h = h.1.1.0
    library_closed (library.same_label r gives result is_at goes read) h = far result_register (omega arith)
    library_closed (library.taken_label r gives result is_at goes read) h = far result_register (omega arith)
    library_closed (library.joined_label i r gives is_from result is_at leads goes read) h = far result_register (omega arith)
    library_closed (library.source_label r gives source result goes read) h = far result_register (omega arith)
    library_closed (library.joined_element i r gives is_from result reference is_at leads) h = absurd (no_reference r reference)
    library_closed (library.source_element r gives source result reference) h = absurd (no_reference r reference)
    library_closed (library.row_put_label i j r is_put is_object is_value) h = absurd (h.1.1.0 (at_position r is_value))
    library_closed (library.store_label i g r is_store is_at) h = absurd (h.1.0 (at_position r is_at))
    library_closed (library.copy_label i j r is_copy is_from is_to) h = h.1.1.0
    library_closed r h = tt

    handed_closed : {rule : ℕ} {premises : List Row} {row : Row} → handed.HandedRule the_app small_lists rule premises row → Without x cells row
    handed_closed (handed.handed_points may goes read) = tt
    handed_closed (handed.live_points may there goes read) = tt

    -- no event has a source
    begins_closed : {k : Ctx} {body : ℕ} {row : Row} → event.BeginsWith the_app k body [] row → Without x cells row
    begins_closed (event.begin_points register parameter read) = tt
    begins_closed (event.begin_label register none read) = absurd none
    begins_closed (event.begin_element code parameter none) = absurd none

    live_closed : {c body : ℕ} {sources : List (ℕ × ℕ)} {k : Ctx} {row : Row} → ComesToLive the_app small_lists c k body sources →
        event.BeginsWith the_app k body sources row → Without x cells row
    live_closed (by_callback at) begins = absurd (no_callback at)
    live_closed (by_click at) begins = begins_closed begins

    event_closed : {rule : ℕ} {premises : List Row} {row : Row} → event.EventRule the_app small_lists rule premises row → Without x cells row
    event_closed (event.life_begins at begins) = begins_closed begins
    event_closed (event.live_begins comes there begins) = live_closed comes begins
    event_closed (event.handed_begins of_class at begins) = absurd (no_handed at)
    event_closed r = tt

    pub closed_without : (rule : ℕ) (premises : List Row) (row : Row) → rule ≢ left_out → Follows the_app small_lists rule premises row →
        Each (Without x cells) premises → Without x cells row
    closed_without rule premises row other (by_kept (kept r is not_filling)) h = kept_without row is
    closed_without rule premises row other (by_local r) h = step_closed other r h
    closed_without rule premises row other (by_heap r) h = heap_closed other r h
    closed_without rule premises row other (by_call r) h = call_closed r
    closed_without rule premises row other (by_library r) h = library_closed r h
    closed_without rule premises row other (by_event r) h = event_closed r
    closed_without rule premises row other (by_handed r) h = handed_closed r

-- A set of rows that is closed under all of the second rules but that what an object holds is reached from it.
use Rattle.std.proofs.Common.{◌≡◌, ◌≢◌, ◌≤◌, ℕ, List, [], None, refl, sym, subst, arith}
use Rattle.std.specs.Prelude.{IsFalse}
use Rattle.std.specs.List.{AllByRecursion}
use Rattle.std.proofs.lemmas.Option.{none-some}
use Rattle.vet_base.specs.Members.{In, IsAt}
use Rattle.app_machine.specs.declared.method.Step.{Step}
use Rattle.app_machine.specs.declared.method.Act.{Act}
use Rattle.app_machine.specs.declared.method.Act.TheVariants.{Join, Move, New, Fill, Get, Put, GetStatic, Call, TakeResult, TakeException}
use Rattle.app_machine.specs.declared.lists.SummaryId.{SummaryId}
use Rattle.app_machine.specs.declared.app.App.{App}
use Rattle.app_machine.specs.Names.{Name, is_reference}
use Rattle.app_machine.specs.Lookups.{ActAt}
use Rattle.app_machine.specs.State.{result_register, exception_register}
use Rattle.fact_rows.specs.declared.context.Ctx.{Ctx}
use Rattle.fact_rows.specs.declared.context.Node.{Node}
use Rattle.fact_rows.specs.declared.site.Site.{Site}
use Rattle.fact_rows.specs.declared.site.Site.TheVariants.{Param, Component, Shared as SharedAt}
use Rattle.fact_rows.specs.declared.row.Row.{Row}
use Rattle.fact_rows.specs.declared.row.Row.TheVariants.{Points, Label, CellLabel, Holds, Arrive}
use Rattle.flow_rules.specs.EventRules.{ComesToLive, by_callback, by_click}
use Rattle.flow_rules.specs.LibraryRules.{RowAt, places_of, HasReference}
use Rattle.flow_rules.specs.Nodes.{Acts}
use Rattle.flow_rules.specs.Rules.{Each}
use Rattle.machine_witness.specs.Apps.{small_lists}
use Rattle.machine_witness.specs.Flows.{own_box, scene, activity_of}
use Rattle.cell_rules.specs.KeptRules.{IsKept, kept}
use Rattle.cell_rules.specs.LocalRules as step
use Rattle.cell_rules.specs.HeapRules as heap
use Rattle.cell_rules.specs.CallRules as call
use Rattle.cell_rules.specs.LibraryRules as library
use Rattle.cell_rules.specs.EventRules as event
use Rattle.cell_rules.specs.HandedRules as handed
use Rattle.cell_rules.specs.Making.{made_at}
use Rattle.cell_rules.specs.Rules.{Follows, by_kept, by_local, by_heap, by_call, by_library, by_event, by_handed}
use Rattle.cell_proof.proofs.Positions.{position_read}
use Rattle.cell_witness.specs.Missing.{IsClimb, IsMadeAtTwo, OnlyInner}
use Rattle.cell_witness.proofs.Closing.{no_callback, no_handed}
use Rattle.cell_witness.proofs.MadeAtTwo.{keeps, made_there, there_made}
use Rattle.cell_witness.proofs.Scenes.{acts_at, argument_behind, event_behind}

-- Acts at an address: register 1 gets what is made at 2 and register 2 what is made elsewhere, and nothing else; a label is put
-- into register 1 alone, and register 2 alone is passed to calls.
abbrev pub Inner : ℕ → Act → Type 0
Inner pc (Join ds xs) = ⊥
Inner pc (Move ds y) = ⊥
Inner pc (New d class size) = (size ≡ None) × ((class ≡ own_box) × ((d ≡ 1 → pc ≡ 2) × (d ≡ 2 → pc ≢ 2)))
Inner pc (Fill xs class) = ⊥
Inner pc (Get ds o k) = ⊥
Inner pc (Put o k x) = x ≢ 1 → x ≢ 2 → o ≡ 1
Inner pc (GetStatic ds g) = ⊥
Inner pc (TakeResult ds) = (d : ℕ) → In d ds → (d ≢ 1) × (d ≢ 2)
Inner pc (TakeException d) = ⊥
Inner pc (Call kind at args) = IsFalse (is_reference at.proto.ret) × ((y : ℕ) → In y args → y ≡ 2)
Inner pc act = Unit {0}

kept_inner : (row : Row) → IsKept row → OnlyInner row
kept_inner (Points n r s) none = absurd none
kept_inner (Label n r l) none = absurd none
kept_inner (CellLabel s k l) none = absurd none
kept_inner (Holds s l) none = absurd none
kept_inner (Arrive l sink n) none = absurd none
kept_inner row is = tt

-- registers behind the first three
far : (r : ℕ) → 3 ≤ r → (r ≢ 1) × (r ≢ 2)
far r beyond = ((λ same. omega arith), (λ same. omega arith))

far_points : (r : ℕ) (s : Site) → 3 ≤ r → (r ≡ 1 → IsMadeAtTwo s) × (r ≡ 2 → IsMadeAtTwo s → ⊥)
far_points r s beyond = let other = far r beyond in ((λ one. absurd (other.0 one)), (λ two inner. other.1 two))

module _ (steps : List Step) (all : AllByRecursion (λ (s : Step). Inner s.pc s.act) steps) where
  abbrev the_app : App
  the_app = activity_of (scene steps [])

  is_inner : {method pc : ℕ} {act : Act} → ActAt the_app method pc act → Inner pc act
  is_inner at = acts_at steps Inner all at

  new_inner : (n : Node) {d : ℕ} {class : Name} → Acts the_app n (New d class None) →
      (d ≡ 1 → IsMadeAtTwo (made_at the_app n)) × (d ≡ 2 → IsMadeAtTwo (made_at the_app n) → ⊥)
  new_inner n acts =
      let told = is_inner acts in
      ((λ one. made_there steps n (keeps steps n acts told.1.0) (told.1.1.0 one)), (λ two is. told.1.1.1 two (there_made steps n is)))

  -- a position of a call is register 2
  at_position : {n : Node} {u : SummaryId} (r : RowAt the_app small_lists n u) {i y : ℕ} → IsAt (places_of r) i y → y ≡ 2
  at_position r {i} {y} is_at = (is_inner r.act).1 y (position_read r.kind r.at r.args i y is_at)

  no_reference : {n : Node} {u : SummaryId} (r : RowAt the_app small_lists n u) → HasReference r → ⊥
  no_reference r reference = let plain = (is_inner r.act).0 in let is = reference in let none : ⊥ = cc in none

  step_closed : {rule : ℕ} {premises : List Row} {row : Row} → step.LocalRule the_app small_lists rule premises row → Each OnlyInner premises →
      OnlyInner row
  step_closed (step.move_points d acts is_one goes read) h = absurd (is_inner acts)
  step_closed (step.move_label d acts is_one goes read) h = absurd (is_inner acts)
  step_closed (step.result_points d acts is_one goes read) h =
      let other = is_inner acts d is_one in ((λ one. absurd (other.0 one)), (λ two inner. other.1 two))
  step_closed (step.result_label d acts is_one goes read) h = is_inner acts d is_one
  step_closed (step.exception_points acts goes read) h = absurd (is_inner acts)
  step_closed (step.exception_label acts goes read) h = absurd (is_inner acts)
  step_closed (step.join_label d y acts is_one is_source goes read) h = absurd (is_inner acts)
  step_closed (step.new_points {n = n} {d = d} {class = class} acts goes read) h =
      new_inner n (subst (λ size. Acts the_app n (New d class size)) (is_inner acts).0 acts)
  step_closed (step.new_label {x = y} acts goes read) h = absurd (none-some y (sym (is_inner acts).0))
  step_closed (step.fill_points acts goes read) h = absurd (is_inner acts)
  step_closed (step.fill_label y acts is_source) h = absurd (is_inner acts)
  step_closed (step.get_points d acts is_one goes read) h = absurd (is_inner acts)
  step_closed (step.get_label d acts is_one goes read) h = absurd (is_inner acts)
  step_closed (step.put_label acts) h = h.0.0 (is_inner acts h.1.0.0 h.1.0.1)
  step_closed (step.get_static_points d acts is_one goes read) h = absurd (is_inner acts)
  step_closed (step.get_static_label d acts is_one goes read) h = absurd (is_inner acts)
  step_closed (step.get_static_source d acts is_one is goes read) h = absurd (is_inner acts)
  step_closed (step.throw_points {s = s} acts caught read) h = far_points exception_register s (omega arith)
  step_closed (step.throw_label acts caught read) h = far exception_register (omega arith)
  step_closed r h = tt

  heap_closed : {rule : ℕ} {premises : List Row} {row : Row} → (IsClimb rule premises → ⊥) → heap.HeapRule rule premises row →
      Each OnlyInner premises → OnlyInner row
  heap_closed other heap.cell_holds h = h.0
  heap_closed other heap.lift_holds h = absurd (other (refl, omega arith))

  call_closed : {rule : ℕ} {premises : List Row} {row : Row} → call.CallRule the_app small_lists rule premises row → OnlyInner row
  call_closed (call.enter_receiver {s = s} acts by_receiver is_first of_class to argument read) = far_points _ s (argument_behind steps argument)
  call_closed (call.pass_points i {s = s} acts is_argument other none argument read) = far_points _ s (argument_behind steps argument)
  call_closed (call.pass_label i acts is_argument none argument read) = far _ (argument_behind steps argument)
  call_closed (call.returned_points {s = s} goes read) = far_points result_register s (omega arith)
  call_closed (call.returned_label goes read) = far result_register (omega arith)
  call_closed (call.caught_points {s = s} caught read) = far_points exception_register s (omega arith)
  call_closed (call.caught_label caught read) = far exception_register (omega arith)
  call_closed call.unwound_label = tt

  library_closed : {rule : ℕ} {premises : List Row} {row : Row} → library.LibraryRule the_app small_lists rule premises row →
      Each OnlyInner premises → OnlyInner row
  library_closed (library.sink_arrives i sink r is_sink is_at library.own_label) h = h.1.0.1 (at_position r is_at)
  library_closed (library.sink_arrives i sink r is_sink is_at library.held_label) h = h.1.0.1 (at_position r is_at) h.1.1.0
  library_closed (library.same_points {s = s} r gives result is_at goes read) h = far_points result_register s (omega arith)
  library_closed (library.same_label r gives result is_at goes read) h = far result_register (omega arith)
  library_closed (library.taken_points {t = t} r gives result is_at goes read) h = far_points result_register t (omega arith)
  library_closed (library.taken_label r gives result is_at goes read) h = far result_register (omega arith)
  library_closed (library.joined_points r gives result reference goes read) h = absurd (no_reference r reference)
  library_closed (library.joined_label i r gives is_from result is_at leads goes read) h = far result_register (omega arith)
  library_closed (library.joined_element i r gives is_from result reference is_at leads) h = absurd (no_reference r reference)
  library_closed (library.source_label r gives source result goes read) h = far result_register (omega arith)
  library_closed (library.source_element r gives source result reference) h = absurd (no_reference r reference)
  library_closed (library.shared_points {g = g} r gives result goes read) h = far_points result_register (SharedAt g) (omega arith)
  library_closed (library.row_put_label i j r is_put is_object is_value) h = absurd (h.1.1.0.1 (at_position r is_value))
  library_closed (library.store_label i g r is_store is_at) h = absurd (h.1.0.1 (at_position r is_at))
  library_closed (library.copy_label i j r is_copy is_from is_to) h = absurd (h.1.0.1 (at_position r is_from) h.1.1.0)

  handed_closed : {rule : ℕ} {premises : List Row} {row : Row} → handed.HandedRule the_app small_lists rule premises row → OnlyInner row
  handed_closed (handed.handed_points {s = s} may goes read) = far_points result_register s (omega arith)
  handed_closed (handed.live_points {c = c} may there goes read) = far_points result_register (Component c) (omega arith)

  -- no event has a source
  begins_closed : {k : Ctx} {body : ℕ} {row : Row} → event.BeginsWith the_app k body [] row → OnlyInner row
  begins_closed {k} (event.begin_points {i = i} register parameter read) = far_points _ (Param k i) (event_behind steps register)
  begins_closed (event.begin_label register none read) = absurd none
  begins_closed (event.begin_element code parameter none) = absurd none

  live_closed : {c body : ℕ} {sources : List (ℕ × ℕ)} {k : Ctx} {row : Row} → ComesToLive the_app small_lists c k body sources →
      event.BeginsWith the_app k body sources row → OnlyInner row
  live_closed (by_callback at) begins = absurd (no_callback at)
  live_closed (by_click at) begins = begins_closed begins

  event_closed : {rule : ℕ} {premises : List Row} {row : Row} → event.EventRule the_app small_lists rule premises row → OnlyInner row
  event_closed (event.life_begins at begins) = begins_closed begins
  event_closed (event.life_receiver {c = c} at argument read) = far_points _ (Component c) (argument_behind steps argument)
  event_closed (event.live_begins comes there begins) = live_closed comes begins
  event_closed (event.live_receiver {c = c} comes there argument read) = far_points _ (Component c) (argument_behind steps argument)
  event_closed (event.handed_begins of_class at begins) = absurd (no_handed at)
  event_closed (event.handed_receiver of_class at argument read) = absurd (no_handed at)
  event_closed (event.handed_parameter {s = s} is_event register parameter of_class below read) = far_points _ s (event_behind steps register)

  pub closed_inner : (rule : ℕ) (premises : List Row) (row : Row) → (IsClimb rule premises → ⊥) → Follows the_app small_lists rule premises row →
      Each OnlyInner premises → OnlyInner row
  closed_inner rule premises row other (by_kept (kept r is not_filling)) h = kept_inner row is
  closed_inner rule premises row other (by_local r) h = step_closed r h
  closed_inner rule premises row other (by_heap r) h = heap_closed other r h
  closed_inner rule premises row other (by_call r) h = call_closed r
  closed_inner rule premises row other (by_library r) h = library_closed r h
  closed_inner rule premises row other (by_event r) h = event_closed r
  closed_inner rule premises row other (by_handed r) h = handed_closed r

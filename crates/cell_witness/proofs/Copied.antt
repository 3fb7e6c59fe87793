-- A set of rows that is closed under all of the second rules but that a copy makes labels those of the other's elements.
use Rattle.std.proofs.Common.{◌≡◌, ◌≢◌, ◌==◌, ◌≤◌, ℕ, zero, suc, Bool, true, false, cond, List, [], ◌∷◌, Option, Some, None, refl, sym, subst, ap, ◌∙◌, inl, inr, arith}
use Rattle.std.specs.Prelude.{IsFalse}
use Rattle.std.specs.List.{AllByRecursion}
use Rattle.std.proofs.lemmas.Option.{none-some, same_Some}
use Rattle.vet_base.specs.Members.{In, IsAt}
use Rattle.vet_base.proofs.Members.{in_slice_get, each_in}
use Rattle.app_machine.specs.declared.call.CallKind.{CallKind}
use Rattle.app_machine.specs.declared.call.MethodRef.{MethodRef}
use Rattle.app_machine.specs.declared.method.Step.{Step}
use Rattle.app_machine.specs.declared.method.Act.{Act}
use Rattle.app_machine.specs.declared.method.Act.TheVariants.{Join, Move, New, Fill, Get, Put, GetStatic, Call, TakeResult, TakeException}
use Rattle.app_machine.specs.declared.lists.SummaryId.{SummaryId}
use Rattle.app_machine.specs.declared.lists.SummaryId.TheVariants as summary_id
use Rattle.app_machine.specs.declared.summary.Summary.{Summary}
use Rattle.app_machine.specs.declared.app.App.{App}
use Rattle.app_machine.specs.Events.{CallbackAt, HandedAt}
use Rattle.app_machine.specs.Names.{Name}
use Rattle.app_machine.specs.Library.{IsSink, first_registers, with_receiver, positions}
use Rattle.app_machine.specs.Lookups.{ActAt, is_static_call}
use Rattle.app_machine.specs.State.{result_register, exception_register}
use Rattle.app_machine.specs.Summaries.{summary}
use Rattle.fact_rows.specs.declared.context.Ctx.{Ctx}
use Rattle.fact_rows.specs.declared.context.Node.{Node}
use Rattle.fact_rows.specs.declared.site.Site.{Site}
use Rattle.fact_rows.specs.declared.site.Site.TheVariants.{Param, Component, Shared as SharedAt}
use Rattle.fact_rows.specs.declared.row.Row.{Row}
use Rattle.fact_rows.specs.declared.row.Row.TheVariants.{Points, Label, Cell, Back, CellLabel, Holds, Arrive}
use Rattle.flow_rules.specs.CallRules as first_call
use Rattle.flow_rules.specs.EffectRules as first_effect
use Rattle.flow_rules.specs.EventRules as first_event
use Rattle.flow_rules.specs.HandedRules as first_handed
use Rattle.flow_rules.specs.LibraryRules as first_library
use Rattle.flow_rules.specs.LocalRules as first_step
use Rattle.flow_rules.specs.EventRules.{ComesToLive, by_callback, by_click}
use Rattle.flow_rules.specs.LibraryRules.{RowAt, places_of}
use Rattle.flow_rules.specs.Nodes.{Acts}
use Rattle.flow_rules.specs.Rules as first
use Rattle.flow_rules.specs.Rules.{Each}
use Rattle.machine_witness.specs.Flows.{own_box, scene, activity_of}
use Rattle.cell_rules.specs.KeptRules.{IsKept, kept, filling}
use Rattle.cell_rules.specs.LocalRules as step
use Rattle.cell_rules.specs.HeapRules as heap
use Rattle.cell_rules.specs.CallRules as call
use Rattle.cell_rules.specs.LibraryRules as library
use Rattle.cell_rules.specs.EventRules as event
use Rattle.cell_rules.specs.HandedRules as handed
use Rattle.cell_rules.specs.Making.{made_at}
use Rattle.cell_rules.specs.Rules.{Follows, by_kept, by_local, by_heap, by_call, by_library, by_event, by_handed}
use Rattle.cell_witness.specs.Copying.{copying_lists}
use Rattle.cell_witness.specs.Missing.{IsMadeAtTwo, Uncopied}
use Rattle.cell_witness.proofs.MadeAtTwo.{keeps, made_there, there_made}
use Rattle.cell_witness.proofs.Scenes.{acts_at, argument_behind, event_behind}

-- the lists have no callbacks
no_callback : {app : App} {c q body : ℕ} {sources : List (ℕ × ℕ)} → CallbackAt app copying_lists c q sources body → ⊥
unfolding copying_lists
no_callback at = none-some at.callback at.is_row.there

no_handed : {app : App} {q body : ℕ} {class : Name} {sources : List (ℕ × ℕ)} → HandedAt app copying_lists q class sources body → ⊥
unfolding copying_lists
no_handed at = none-some at.callback at.is_row.there

-- a row of the lists has position 0 alone as a sink, and puts and stores nothing
record Pours (row : Summary) : Type 0 where
  sinks : (sink i : ℕ) → IsSink row sink i → i ≡ 0
  no_puts : row.puts ≡ []
  no_stores : row.stores ≡ []

only_first : (sink i : ℕ) → (is : List ℕ) × (◌≡◌ {A = Option (ℕ × List ℕ)} (Some (1, 0 ∷ [])) (Some (sink, is))) × In i is → i ≡ 0
only_first sink i (is, e, h) =
    let pair : ◌≡◌ {A = ℕ × List ℕ} (1, 0 ∷ []) (sink, is) = same_Some (1, 0 ∷ []) (sink, is) e in
    let list : is ≡ 0 ∷ [] = ap (λ (y : ℕ × List ℕ). y.1) (sym pair) in
    elim (subst (λ xs. In i xs) list h) [ inl same ↦ same | inr none ↦ absurd none ]

no_sink : (sink i : ℕ) → (is : List ℕ) × (◌≡◌ {A = Option (ℕ × List ℕ)} None (Some (sink, is))) × In i is → i ≡ 0
no_sink sink i (is, e, h) = absurd (none-some (sink, is) e)

each_pours : AllByRecursion Pours copying_lists.methods
unfolding copying_lists
each_pours = (
  record { sinks = no_sink; no_puts = refl; no_stores = refl },
  (
    record { sinks = only_first; no_puts = refl; no_stores = refl },
    (record { sinks = no_sink; no_puts = refl; no_stores = refl }, (record { sinks = no_sink; no_puts = refl; no_stores = refl }, tt)),
  ),
)

pours : (u : SummaryId) (at : MethodRef) (is_static : Bool) {row : Summary} → summary copying_lists u at is_static ≡ Some row → Pours row
unfolding summary copying_lists
pours (summary_id.Row i) at is_static {row} is = each_in Pours copying_lists.methods row each_pours (in_slice_get copying_lists.methods i row is)
pours (summary_id.Fallback zero) at is_static {row} is = absurd (none-some row is)
pours (summary_id.Fallback (suc zero)) at is_static {row} is = absurd (none-some row is)
pours (summary_id.Fallback (suc (suc zero))) at is_static {row} is = absurd (none-some row is)
pours (summary_id.Fallback (suc (suc (suc i)))) at is_static {row} is = absurd (none-some row is)

-- the first of the registers, where there is one
abbrev pub IsHead : ℕ → List ℕ → Type 0
IsHead y [] = Unit {0}
IsHead y (x ∷ xs) = x ≡ y

head_of_arguments : (types : List Name) (xs : List ℕ) {x y : ℕ} → IsHead y xs → IsAt (first_registers types xs) 0 x → x ≡ y
head_of_arguments [] xs {x} head at = absurd (none-some x at.there)
head_of_arguments (type ∷ types) [] {x} head at = absurd (none-some x at.there)
head_of_arguments (type ∷ types) (z ∷ zs) {x} head at = sym (same_Some z x at.there) ∙ head

head_of_all : (types : List Name) (xs : List ℕ) {x y : ℕ} → IsHead y xs → IsAt (with_receiver types xs) 0 x → x ≡ y
head_of_all types [] {x} head at = absurd (none-some x at.there)
head_of_all types (z ∷ zs) {x} head at = sym (same_Some z x at.there) ∙ head

first_position : (kind : CallKind) (at : MethodRef) (args : List ℕ) {x y : ℕ} → IsHead y args → IsAt (positions kind at args) 0 x → x ≡ y
unfolding positions
first_position kind at args {x} {y} head is_at = by_kind (is_static_call kind) is_at
  where
    by_kind : (b : Bool) → IsAt (cond b (first_registers at.proto.params args) (with_receiver at.proto.params args)) 0 x → x ≡ y
    by_kind true is = head_of_arguments at.proto.params args head is
    by_kind false is = head_of_all at.proto.params args head is

-- Acts at an address: register 2 gets what is made at 2, and nothing else, no object is put into another, and a call is handed register 2
-- first.
abbrev pub Calm : ℕ → Act → Type 0
Calm pc (Join ds xs) = ⊥
Calm pc (Move ds y) = ⊥
Calm pc (New d class size) = (size ≡ None) × ((class ≡ own_box) × (pc ≡ 2))
Calm pc (Fill xs class) = ⊥
Calm pc (Get ds o k) = ⊥
Calm pc (Put o k x) = ⊥
Calm pc (GetStatic ds g) = ⊥
Calm pc (TakeResult ds) = (d : ℕ) → In d ds → d ≢ 2
Calm pc (TakeException d) = ⊥
Calm pc (Call kind at args) = (pc ≢ 2) × IsHead 2 args
Calm pc act = Unit {0}

-- an object holds another one
abbrev pub IsHeld : Row → Type 0
IsHeld (Cell s k t) = Unit {0}
IsHeld (Back t k s) = Unit {0}
IsHeld row = ⊥

kept_uncopied : (row : Row) → IsKept row → (IsHeld row → ⊥) → Uncopied row
kept_uncopied (Points n r s) none other = absurd none
kept_uncopied (Label n r l) none other = absurd none
kept_uncopied (Cell s k t) is other = other tt
kept_uncopied (Back t k s) is other = other tt
kept_uncopied (CellLabel s k l) none other = absurd none
kept_uncopied (Holds s l) none other = absurd none
kept_uncopied (Arrive l sink n) none other = absurd none
kept_uncopied row is other = tt

-- registers behind the first three
far : (r : ℕ) → 3 ≤ r → r ≢ 2
far r beyond same = omega arith

far_points : (r : ℕ) (s : Site) → 3 ≤ r → r ≡ 2 → IsMadeAtTwo s
far_points r s beyond two = absurd (far r beyond two)

module _ (steps : List Step) (all : AllByRecursion (λ (s : Step). Calm s.pc s.act) steps) where
  abbrev the_app : App
  the_app = activity_of (scene steps [])

  is_calm : {method pc : ℕ} {act : Act} → ActAt the_app method pc act → Calm pc act
  is_calm at = acts_at steps Calm all at

  -- a sink position is register 2
  sink_at : {n : Node} {u : SummaryId} (r : RowAt the_app copying_lists n u) {i sink x : ℕ} → IsSink r.row sink i → IsAt (places_of r) i x → x ≡ 2
  sink_at {u = u} r {i} {sink} {x} is_sink is_at =
      first_position r.kind r.at r.args (is_calm r.act).1
      (subst (λ j. IsAt (places_of r) j x) ((pours u r.at (is_static_call r.kind) r.is_row).sinks sink i is_sink) is_at)

  no_put : {n : Node} {u : SummaryId} (r : RowAt the_app copying_lists n u) (i j : ℕ) → In (i, j) r.row.puts → ⊥
  no_put {u = u} r i j is_put = subst (λ xs. In (i, j) xs) (pours u r.at (is_static_call r.kind) r.is_row).no_puts is_put

  no_store : {n : Node} {u : SummaryId} (r : RowAt the_app copying_lists n u) (i g : ℕ) → In (i, g) r.row.stores → ⊥
  no_store {u = u} r i g is_store =
      subst (λ xs. In (i, g) xs) (pours u r.at (is_static_call r.kind) r.is_row).no_stores is_store

  -- no call makes them
  made_elsewhere : {n : Node} {u : SummaryId} → RowAt the_app copying_lists n u → IsMadeAtTwo (made_at the_app n) → ⊥
  made_elsewhere {n = n} r is = (is_calm r.act).0 (there_made steps n is)

  step_closed : {rule : ℕ} {premises : List Row} {row : Row} → step.LocalRule the_app copying_lists rule premises row → Each Uncopied premises →
      Uncopied row
  step_closed (step.move_points d acts is_one goes read) h = absurd (is_calm acts)
  step_closed (step.move_label d acts is_one goes read) h = absurd (is_calm acts)
  step_closed (step.result_points d acts is_one goes read) h = λ two. absurd (is_calm acts d is_one two)
  step_closed (step.result_label d acts is_one goes read) h = is_calm acts d is_one
  step_closed (step.exception_points acts goes read) h = absurd (is_calm acts)
  step_closed (step.exception_label acts goes read) h = absurd (is_calm acts)
  step_closed (step.join_label d y acts is_one is_source goes read) h = absurd (is_calm acts)
  step_closed (step.new_points {n = n} {d = d} {class = class} acts goes read) h =
      let calm = is_calm acts in
      λ two. made_there steps n (keeps steps n (subst (λ size. Acts the_app n (New d class size)) calm.0 acts) calm.1.0) calm.1.1
  step_closed (step.new_label {x = y} acts goes read) h = absurd (none-some y (sym (is_calm acts).0))
  step_closed (step.fill_points acts goes read) h = absurd (is_calm acts)
  step_closed (step.fill_cell y acts is_source) h = absurd (is_calm acts)
  step_closed (step.fill_label y acts is_source) h = absurd (is_calm acts)
  step_closed (step.get_points d acts is_one goes read) h = absurd (is_calm acts)
  step_closed (step.get_label d acts is_one goes read) h = absurd (is_calm acts)
  step_closed (step.put_label acts) h = absurd (is_calm acts)
  step_closed (step.get_static_points d acts is_one goes read) h = absurd (is_calm acts)
  step_closed (step.get_static_label d acts is_one goes read) h = absurd (is_calm acts)
  step_closed (step.get_static_source d acts is_one is goes read) h = absurd (is_calm acts)
  step_closed (step.throw_points {s = s} acts caught read) h = far_points exception_register s (omega arith)
  step_closed (step.throw_label acts caught read) h = far exception_register (omega arith)
  step_closed r h = tt

  heap_closed : {rule : ℕ} {premises : List Row} {row : Row} → heap.HeapRule rule premises row → Each Uncopied premises → Uncopied row
  heap_closed heap.cell_holds h = h.0
  heap_closed heap.lift_holds h = absurd h.1.0

  call_closed : {rule : ℕ} {premises : List Row} {row : Row} → call.CallRule the_app copying_lists rule premises row → Uncopied row
  call_closed (call.enter_receiver {s = s} acts by_receiver is_first of_class to argument read) = far_points _ s (argument_behind steps argument)
  call_closed (call.pass_points i {s = s} acts is_argument other none argument read) = far_points _ s (argument_behind steps argument)
  call_closed (call.pass_label i acts is_argument none argument read) = far _ (argument_behind steps argument)
  call_closed (call.returned_points {s = s} goes read) = far_points result_register s (omega arith)
  call_closed (call.returned_label goes read) = far result_register (omega arith)
  call_closed (call.caught_points {s = s} caught read) = far_points exception_register s (omega arith)
  call_closed (call.caught_label caught read) = far exception_register (omega arith)
  call_closed call.unwound_label = tt

  library_closed : {rule : ℕ} {premises : List Row} {row : Row} → rule ≢ 39 → library.LibraryRule the_app copying_lists rule premises row →
      Each Uncopied premises → Uncopied row
  library_closed other (library.sink_arrives i sink r is_sink is_at library.own_label) h = h.1.0 (sink_at r is_sink is_at)
  library_closed other (library.sink_arrives i sink r is_sink is_at library.held_label) h = h.1.1.0 (h.1.0 (sink_at r is_sink is_at))
  library_closed other (library.same_points {s = s} r gives result is_at goes read) h = far_points result_register s (omega arith)
  library_closed other (library.same_label r gives result is_at goes read) h = far result_register (omega arith)
  library_closed other (library.taken_points {t = t} r gives result is_at goes read) h = far_points result_register t (omega arith)
  library_closed other (library.taken_label r gives result is_at goes read) h = far result_register (omega arith)
  library_closed other (library.joined_points {n = n} r gives result reference goes read) h = far_points result_register (made_at the_app n) (omega arith)
  library_closed other (library.joined_label i r gives is_from result is_at leads goes read) h = far result_register (omega arith)
  library_closed other (library.joined_element i r gives is_from result reference is_at leads) h = made_elsewhere r
  library_closed other (library.source_label r gives source result goes read) h = far result_register (omega arith)
  library_closed other (library.source_element r gives source result reference) h = made_elsewhere r
  library_closed other (library.shared_points {g = g} r gives result goes read) h = far_points result_register (SharedAt g) (omega arith)
  library_closed other (library.row_put_label i j r is_put is_object is_value) h = absurd (no_put r i j is_put)
  library_closed other (library.store_label i g r is_store is_at) h = λ none. none
  library_closed other (library.copy_label i j r is_copy is_from is_to) h = absurd (other refl)

  handed_closed : {rule : ℕ} {premises : List Row} {row : Row} → handed.HandedRule the_app copying_lists rule premises row → Uncopied row
  handed_closed (handed.handed_points {s = s} may goes read) = far_points result_register s (omega arith)
  handed_closed (handed.live_points {c = c} may there goes read) = far_points result_register (Component c) (omega arith)

  -- no event has a source
  begins_closed : {k : Ctx} {body : ℕ} {row : Row} → event.BeginsWith the_app k body [] row → Uncopied row
  begins_closed {k} (event.begin_points {i = i} register parameter read) = far_points _ (Param k i) (event_behind steps register)
  begins_closed (event.begin_label register none read) = absurd none
  begins_closed (event.begin_element code parameter none) = absurd none

  live_closed : {c body : ℕ} {sources : List (ℕ × ℕ)} {k : Ctx} {row : Row} → ComesToLive the_app copying_lists c k body sources →
      event.BeginsWith the_app k body sources row → Uncopied row
  live_closed (by_callback at) begins = absurd (no_callback at)
  live_closed (by_click at) begins = begins_closed begins

  event_closed : {rule : ℕ} {premises : List Row} {row : Row} → event.EventRule the_app copying_lists rule premises row → Uncopied row
  event_closed (event.life_begins at begins) = begins_closed begins
  event_closed (event.life_receiver {c = c} at argument read) = far_points _ (Component c) (argument_behind steps argument)
  event_closed (event.live_begins comes there begins) = live_closed comes begins
  event_closed (event.live_receiver {c = c} comes there argument read) = far_points _ (Component c) (argument_behind steps argument)
  event_closed (event.handed_begins of_class at begins) = absurd (no_handed at)
  event_closed (event.handed_receiver of_class at argument read) = absurd (no_handed at)
  event_closed (event.handed_parameter {s = s} is_event register parameter of_class below read) = far_points _ s (event_behind steps register)

  -- no rule of the first set but that of copies lets an object hold another one
  step_holds : {rule : ℕ} {premises : List Row} {row : Row} → first_step.LocalRule the_app copying_lists rule premises row →
      IsFalse (rule == filling) → Each Uncopied premises → IsHeld row → ⊥
  step_holds (first_step.fill_cell x acts is_one) other h is = is_calm acts
  step_holds (first_step.put_cell acts) other h is = is_calm acts
  step_holds first_step.cell_back other h is = h.0
  step_holds r other h is = is

  library_holds : {rule : ℕ} {premises : List Row} {row : Row} → rule ≢ 39 → first_library.LibraryRule the_app copying_lists rule premises row →
      IsHeld row → ⊥
  library_holds other (first_library.row_put_cell i j r is_put is_object is_value) is = no_put r i j is_put
  library_holds other (first_library.store_cell i g r is_store is_at) is = no_store r i g is_store
  library_holds other (first_library.copy_cell i j r is_copy is_from is_to) is = other refl
  library_holds other r is = is

  entering_holds : {n : Node} {body : ℕ} {row : Row} → first_call.Enters the_app n body row → IsHeld row → ⊥
  entering_holds (first_call.is_native native) is = is
  entering_holds r is = is

  looking_up_holds : {n : Node} {kind : CallKind} {at : MethodRef} {class : Name} {row : Row} →
      first_call.LooksUp the_app copying_lists n kind at class row → IsHeld row → ⊥
  looking_up_holds (first_call.finds_none none) is = is
  looking_up_holds r is = is

  call_holds : {rule : ℕ} {premises : List Row} {row : Row} → first_call.CallRule the_app copying_lists rule premises row → IsHeld row → ⊥
  call_holds (first_call.enter_direct acts plain to enters) is = entering_holds enters is
  call_holds (first_call.enter_class acts by_receiver is_first of_class to enters) is = entering_holds enters is
  call_holds (first_call.use_by_name acts to looks_up) is = looking_up_holds looks_up is
  call_holds (first_call.use_by_class acts by_receiver is_first of_class to looks_up) is = looking_up_holds looks_up is
  call_holds (first_call.enter_initialiser initialises enters) is = entering_holds enters is
  call_holds r is = is

  effect_holds : {rule : ℕ} {premises : List Row} {row : Row} → first_effect.EffectRule the_app rule premises row → IsHeld row → ⊥
  effect_holds (first_effect.effect_next goes) is = is
  effect_holds r is = is

  beginning_holds : {c : Ctx} {body : ℕ} {sources : List (ℕ × ℕ)} {row : Row} → first_event.Begins the_app c body sources row → IsHeld row → ⊥
  beginning_holds (first_event.begin_native native) is = is
  beginning_holds r is = is

  event_holds : {rule : ℕ} {premises : List Row} {row : Row} → first_event.EventRule the_app copying_lists rule premises row → IsHeld row → ⊥
  event_holds (first_event.life_begins at begins) is = beginning_holds begins is
  event_holds (first_event.live_begins comes there begins) is = beginning_holds begins is
  event_holds (first_event.handed_begins of_class at begins) is = beginning_holds begins is
  event_holds (first_event.initialiser_begins at begins) is = beginning_holds begins is
  event_holds r is = is

  handed_holds : {rule : ℕ} {premises : List Row} {row : Row} → first_handed.HandedRule the_app copying_lists rule premises row → IsHeld row → ⊥
  handed_holds (first_handed.handed_points may goes) is = is
  handed_holds r is = is

  no_holder : {rule : ℕ} {premises : List Row} {row : Row} → rule ≢ 39 → IsFalse (rule == filling) → first.Follows the_app copying_lists rule premises row →
      Each Uncopied premises → IsHeld row → ⊥
  no_holder other filled (first.by_local r) h is = step_holds r filled h is
  no_holder other filled (first.by_effect r) h is = effect_holds r is
  no_holder other filled (first.by_call r) h is = call_holds r is
  no_holder other filled (first.by_library r) h is = library_holds other r is
  no_holder other filled (first.by_event r) h is = event_holds r is
  no_holder other filled (first.by_handed r) h is = handed_holds r is

  pub closed_uncopied : (rule : ℕ) (premises : List Row) (row : Row) → rule ≢ 39 → Follows the_app copying_lists rule premises row →
      Each Uncopied premises → Uncopied row
  closed_uncopied rule premises row other (by_kept (kept r is not_filling)) h = kept_uncopied row is (no_holder other not_filling r h)
  closed_uncopied rule premises row other (by_local r) h = step_closed r h
  closed_uncopied rule premises row other (by_heap r) h = heap_closed r h
  closed_uncopied rule premises row other (by_call r) h = call_closed r
  closed_uncopied rule premises row other (by_library r) h = library_closed other r h
  closed_uncopied rule premises row other (by_event r) h = event_closed r
  closed_uncopied rule premises row other (by_handed r) h = handed_closed r

-- What the second rules of steps, calls and library calls give of rows in the app is in the app.
use Rattle.std.proofs.Common.{ℕ, Bool, true, false, cond, List, arith}
use Rattle.app_machine.specs.declared.lists.Lists.{Lists}
use Rattle.app_machine.specs.declared.lists.SummaryId.{SummaryId}
use Rattle.app_machine.specs.declared.app.App.{App}
use Rattle.app_machine.specs.Sound.{SoundApp}
use Rattle.app_machine.specs.SoundLists.{SoundLists}
use Rattle.fact_rows.specs.declared.context.Node.{Node}
use Rattle.fact_rows.specs.declared.site.Site.TheVariants.{At, Component, Shared, Made}
use Rattle.fact_rows.specs.declared.row.Row.{Row}
use Rattle.fact_rows.specs.InApp.{at_call, NodeIn, by_new, by_fill, by_call, MakesAt, CategoryIn}
use Rattle.flow_rules.specs.LibraryRules.{RowAt}
use Rattle.flow_rules.specs.Rules.{Each}
use Rattle.cell_rules.specs.InApp.{CellSiteIn, CellInApp}
use Rattle.cell_rules.specs.Making.{keeps_context, made_at}
use Rattle.cell_rules.specs.LocalRules as step
use Rattle.cell_rules.specs.HeapRules as heap
use Rattle.cell_rules.specs.CallRules as call
use Rattle.cell_rules.specs.LibraryRules as library
use Rattle.cell_rules.specs.HandedRules as handed
use Rattle.flow_proof.proofs.Sounding.{put_static_below}
use Rattle.flow_proof.proofs.Places.{elem_in, put_key, app_static}
use Rattle.flow_proof.proofs.StayingSteps.{source_listed}
use Rattle.flow_proof.proofs.StayingCalls.{callee_in}
use Rattle.flow_proof.proofs.StayingLibrary.{NamesListed, names_listed}
use Rattle.cell_proof.proofs.Reading.{points_in, label_in}

-- the site of what a step makes is in the app
made_in : {app : App} {lists : Lists} (n : Node) → NodeIn app lists n → MakesAt app n.by.method n.pc → CellSiteIn app lists (made_at app n)
made_in {app} {lists} n node makes = by_context (keeps_context app n)
  where
    by_context : (b : Bool) → CellSiteIn app lists (cond b (At n) (Made n.by.method n.pc))
    by_context true = (node, makes)
    by_context false = makes

module _ (app : App) (lists : Lists) (sound : SoundApp app) (listed : SoundLists lists) where
  pub step_in : {number : ℕ} {premises : List Row} {row : Row} → step.LocalRule app lists number premises row → Each (CellInApp app lists) premises →
      CellInApp app lists row
  step_in (step.move_points d acts is_one goes read) h = points_in sound _ h.0.0.activation read h.0.1.1.0
  step_in (step.move_label d acts is_one goes read) h = label_in sound h.0.0.activation read h.0.1.1.0
  step_in (step.result_points d acts is_one goes read) h = points_in sound _ h.0.0.activation read h.0.1.1.0
  step_in (step.result_label d acts is_one goes read) h = label_in sound h.0.0.activation read h.0.1.1.0
  step_in (step.exception_points acts goes read) h = points_in sound _ h.0.0.activation read h.0.1.1.0
  step_in (step.exception_label acts goes read) h = label_in sound h.0.0.activation read h.0.1.1.0
  step_in (step.join_label d x acts is_one is_source goes read) h = label_in sound h.0.0.activation read h.0.1.1.0
  step_in (step.new_points {n = n} acts goes read) h = points_in sound _ h.0.0.activation read (made_in n h.0.0 (by_new acts))
  step_in (step.new_label acts goes read) h = label_in sound h.0.0.activation read h.0.1.1.0
  step_in (step.fill_points {n = n} acts goes read) h = points_in sound _ h.0.0.activation read (made_in n h.0.0 (by_fill acts))
  step_in (step.fill_cell {n = n} x acts is_source) h = (made_in n h.0.0 (by_fill acts), (elem_in sound, (h.0.1.1.0, tt)))
  step_in (step.fill_label {n = n} x acts is_source) h = (made_in n h.0.0 (by_fill acts), (elem_in sound, (h.0.1.1.0, tt)))
  step_in (step.get_points d acts is_one goes read) h = points_in sound _ h.0.0.activation read h.1.0.1.1.0
  step_in (step.get_label d acts is_one goes read) h = label_in sound h.0.0.activation read h.1.0.1.1.0
  step_in (step.put_label {n = n} acts) h = (h.0.1.1.0, (put_key sound n acts, (h.1.0.1.1.0, tt)))
  step_in (step.get_static_points d acts is_one goes read) h = points_in sound _ h.0.0.activation read h.1.0.1.0
  step_in (step.get_static_label d acts is_one goes read) h = label_in sound h.0.0.activation read h.1.0.1.0
  step_in (step.get_static_source d acts is_one is goes read) h = label_in sound h.0.0.activation read (source_listed app lists _ _ listed is)
  step_in (step.put_static_label acts) h = (app_static app lists (put_static_below sound acts), (h.0.1.1.0, tt))
  step_in (step.throw_points acts caught read) h = points_in sound _ h.0.0.activation read h.0.1.1.0
  step_in (step.throw_label acts caught read) h = label_in sound h.0.0.activation read h.0.1.1.0
  step_in (step.throw_exit_label acts) h = (h.0.0.activation, (omega arith, (h.0.1.1.0, tt)))
  step_in (step.return_label acts) h = (h.0.0.activation, (omega arith, (h.0.1.1.0, tt)))

  pub heap_in : {number : ℕ} {premises : List Row} {row : Row} → heap.HeapRule number premises row → Each (CellInApp app lists) premises →
      CellInApp app lists row
  heap_in heap.cell_holds h = (h.0.0, (h.0.1.1.0, tt))
  heap_in heap.lift_holds h = (h.1.0.1.1.0, (h.0.1.0, tt))

  pub call_in : {number : ℕ} {premises : List Row} {row : Row} → call.CallRule app lists number premises row → Each (CellInApp app lists) premises →
      CellInApp app lists row
  call_in (call.enter_receiver acts virtual is_first of_class goes argument read) h =
      points_in sound _ (callee_in app lists sound h.0.0 (at_call acts) argument.has) read h.0.1.1.0
  call_in (call.pass_points i acts is_argument plain other argument read) h = points_in sound _ h.0.1.0 read h.1.0.1.1.0
  call_in (call.pass_label i acts is_argument other argument read) h = label_in sound h.0.1.0 read h.1.0.1.1.0
  call_in (call.returned_points goes read) h = points_in sound _ h.1.0.1.0.activation read h.0.1.1.0
  call_in (call.returned_label goes read) h = label_in sound h.1.0.1.0.activation read h.0.1.1.0
  call_in (call.caught_points caught read) h = points_in sound _ h.1.0.1.0.activation read h.0.1.1.0
  call_in (call.caught_label caught read) h = label_in sound h.1.0.1.0.activation read h.0.1.1.0
  call_in call.unwound_label h = (h.1.0.1.0.activation, (omega arith, (h.0.1.1.0, tt)))

  named : {n : Node} {u : SummaryId} (r : RowAt app lists n u) → NamesListed lists r.row
  named {u = u} r = names_listed u _ _ listed r.is_row

  -- what leads from a register is a category of the lists
  led_in : {n : Node} {x l : ℕ} {ps : List Row} → library.LeadsFrom n x l ps → Each (CellInApp app lists) ps → CategoryIn lists l
  led_in library.own_label h = h.0.1.1.0
  led_in library.held_label h = h.1.0.1.0

  pub library_in : {number : ℕ} {premises : List Row} {row : Row} → library.LibraryRule app lists number premises row →
      Each (CellInApp app lists) premises → CellInApp app lists row
  library_in (library.sink_arrives i sink r is_sink is_at leads) h = (led_in leads h.1, ((named r).sink sink is_sink.0 is_sink.1, (h.0.0, tt)))
  library_in (library.same_points r gives result is_at goes read) h = points_in sound _ h.0.0.activation read h.1.0.1.1.0
  library_in (library.same_label r gives result is_at goes read) h = label_in sound h.0.0.activation read h.1.0.1.1.0
  library_in (library.taken_points r gives result is_at goes read) h = points_in sound _ h.0.0.activation read h.1.1.0.1.1.0
  library_in (library.taken_label r gives result is_at goes read) h = label_in sound h.0.0.activation read h.1.1.0.1.1.0
  library_in (library.joined_points {n = n} r gives result reference goes read) h =
      points_in sound _ h.0.0.activation read (made_in n h.0.0 (by_call r.act reference))
  library_in (library.joined_label i r gives is_from result is_at leads goes read) h = label_in sound h.0.0.activation read (led_in leads h.1)
  library_in (library.joined_element {n = n} i r gives is_from result reference is_at leads) h =
      (made_in n h.0.0 (by_call r.act reference), (elem_in sound, (led_in leads h.1, tt)))
  library_in (library.source_label {l = l} r gives source result goes read) h = label_in sound h.0.0.activation read ((named r).source l source)
  library_in (library.source_element {n = n} {l = l} r gives source result reference) h =
      (made_in n h.0.0 (by_call r.act reference), (elem_in sound, ((named r).source l source, tt)))
  library_in (library.shared_points {g = g} r gives result goes read) h = points_in sound (Shared g) h.0.0.activation read ((named r).shared g gives)
  library_in (library.row_put_label i j r is_put is_object is_value) h = (h.1.0.1.1.0, (elem_in sound, (h.1.1.0.1.1.0, tt)))
  library_in (library.store_label i g r is_store is_at) h = ((named r).stores i g is_store, (elem_in sound, (h.1.0.1.1.0, tt)))
  library_in (library.copy_label i j r is_copy is_from is_to) h = (h.1.1.1.0.1.1.0, (elem_in sound, (h.1.1.0.1.1.0, tt)))

  pub handed_in : {number : ℕ} {premises : List Row} {row : Row} → handed.HandedRule app lists number premises row →
      Each (CellInApp app lists) premises →
      CellInApp app lists row
  handed_in (handed.handed_points may goes read) h = points_in sound _ h.0.0.activation read h.1.0.0
  handed_in (handed.live_points {c = c} may there goes read) h = points_in sound (Component c) h.0.0.activation read h.1.0.0

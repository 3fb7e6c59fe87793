-- What the code of library calls of the second set lists is just what their rules give, and uses lead all that they give.
use Rattle.std.proofs.Common.{◌⊎◌, ℕ, List, ◌∷◌, refl, inl}
use Rattle.app_machine.specs.declared.lists.Lists.{Lists}
use Rattle.app_machine.specs.declared.lists.SummaryId.{SummaryId}
use Rattle.app_machine.specs.declared.app.App.{App}
use Rattle.app_machine.specs.Sound.{SoundApp}
use Rattle.app_machine.specs.SoundLists.{SoundLists}
use Rattle.fact_rows.specs.declared.context.Node.{Node}
use Rattle.fact_rows.specs.declared.row.Row.{Row}
use Rattle.fact_rows.specs.declared.row.Row.TheVariants.{Uses}
use Rattle.flow_rules.specs.Rules.{Each}
use Rattle.rule_ground.specs.declared.conclusion.Conclusion.{Conclusion}
use Rattle.rule_ground.specs.declared.key.Key.{Key}
use Rattle.rule_ground.specs.Hits.{IsHits}
use Rattle.rule_ground.specs.Exact.{IsSound, IsJust, IsLed}
use Rattle.rule_ground.specs.Leading.{HasLead, HasLeader, led_by_ones}
use Rattle.vet_base.specs.Members.{In}
use Rattle.vet_base.proofs.Members.{each_in}
use Rattle.register_readers.specs.Readings.{Readings}
use Rattle.cell_rules.specs.LibraryRules.{LibraryRule, sink_arrives, same_points, same_label, taken_points, taken_label, joined_points, joined_label, joined_element, source_label, source_element, shared_points, row_put_label, store_label, copy_label}
use Rattle.cell_ground.specs.Ready.{Ready}
use Rattle.cell_library_rules.specs.CellLibraryGiven.{cell_library_given, cell_library_leads}
use Rattle.cell_library_rules.specs.exact.CellLibrarySound.{library_sound}
use Rattle.cell_library_rules.specs.exact.CellLibraryComplete.{library_complete}

-- app and lists are sound, and the readings are those of the app
pub record CellLibraryReady (app : App) (readings : Readings) (lists : Lists) : Type 0 where
  pub sound_app : SoundApp app
  pub sound_lists : SoundLists lists
  pub ready : Ready app readings

module _ (app : App) (readings : Readings) (lists : Lists) (all : CellLibraryReady app readings lists) (has : Row → Type 0) (hits : Key → List Row)
    (law : (k : Key) → IsHits has k (hits k)) where
  abbrev given : Row → List Conclusion
  given row = cell_library_given app readings lists hits row

  abbrev led : Row → List Conclusion
  led row = cell_library_leads app readings lists hits row

  pub cell_library_exact : (row : Row) → has row → IsJust (LibraryRule app lists) has row (given row)
  cell_library_exact row there = record {
    sound = λ c i. each_in (IsSound (LibraryRule app lists) has row) (given row) c (library_sound app readings lists all.ready has hits law row there) i;
    complete = λ rule premises x f. library_complete app readings lists all.ready has hits law row rule premises x f.by f.known f.uses;
  }

  led_given : (row : Row) (c : Conclusion) → In c (led row) → In c (given row)
  led_given (Uses n u) c i = i
  led_given _ c i = absurd i

  by_use : {rule : ℕ} {x : Row} (n : Node) (u : SummaryId) (ps : List Row) → Each has (Uses n u ∷ ps) →
      HasLeader has given led (Uses n u ∷ ps) ⊎ HasLead has led rule (Uses n u ∷ ps) x
  by_use n u ps k = inl (Uses n u, (k.0, (inl refl, refl)))

  leader : (rule : ℕ) (premises : List Row) (x : Row) → LibraryRule app lists rule premises x → Each has premises →
      HasLeader has given led premises ⊎ HasLead has led rule premises x
  leader rule premises x (sink_arrives {n = n} {u = u} i sink r m at leads) k = by_use n u _ k
  leader rule premises x (same_points {n = n} {u = u} r e one at g read) k = by_use n u _ k
  leader rule premises x (same_label {n = n} {u = u} r e one at g read) k = by_use n u _ k
  leader rule premises x (taken_points {n = n} {u = u} r e one at g read) k = by_use n u _ k
  leader rule premises x (taken_label {n = n} {u = u} r e one at g read) k = by_use n u _ k
  leader rule premises x (joined_points {n = n} {u = u} r e one t g read) k = by_use n u _ k
  leader rule premises x (joined_label {n = n} {u = u} i r e m one at leads g read) k = by_use n u _ k
  leader rule premises x (joined_element {n = n} {u = u} i r e m one t at leads) k = by_use n u _ k
  leader rule premises x (source_label {n = n} {u = u} r e labels one g read) k = by_use n u _ k
  leader rule premises x (source_element {n = n} {u = u} r e labels one t) k = by_use n u _ k
  leader rule premises x (shared_points {n = n} {u = u} r e one goes read) k = by_use n u _ k
  leader rule premises x (row_put_label {n = n} {u = u} i j r m to at) k = by_use n u _ k
  leader rule premises x (store_label {n = n} {u = u} i g r m at) k = by_use n u _ k
  leader rule premises x (copy_label {n = n} {u = u} i j r m at to) k = by_use n u _ k

  pub cell_library_led : IsLed (LibraryRule app lists) has led
  cell_library_led = led_by_ones (LibraryRule app lists) has given cell_library_exact led led_given leader

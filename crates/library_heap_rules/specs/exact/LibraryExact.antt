-- What the code of library calls lists is just what their rules give, and uses lead all that they give.
use Rattle.std.proofs.Common.{◌⊎◌, ℕ, List, refl, inl}
use Rattle.app_machine.specs.declared.lists.Lists.{Lists}
use Rattle.app_machine.specs.declared.app.App.{App}
use Rattle.fact_rows.specs.declared.row.Row.{Row}
use Rattle.fact_rows.specs.declared.row.Row.TheVariants.{Uses}
use Rattle.flow_rules.specs.LibraryRules.{LibraryRule, hand_points, hand_taint, sink_arrives, same_points, same_taint, taken_points, taken_taint, joined_points, joined_taint, joined_element, source_taint, source_element, shared_static_points, shared_points, shared_taint, row_put_cell, row_put_effect, store_static, store_cell, store_effect, copy_cell, copy_effect}
use Rattle.flow_rules.specs.Rules.{Each}
use Rattle.rule_ground.specs.declared.conclusion.Conclusion.{Conclusion}
use Rattle.rule_ground.specs.declared.key.Key.{Key}
use Rattle.rule_ground.specs.Hits.{IsHits}
use Rattle.rule_ground.specs.Exact.{IsSound, IsJust, IsLed}
use Rattle.rule_ground.specs.Leading.{HasLead, HasLeader, led_by_ones}
use Rattle.vet_base.specs.Members.{In}
use Rattle.vet_base.proofs.Members.{each_in}
use Rattle.library_heap_rules.specs.LibraryGiven.{library_given, library_leads}
use Rattle.library_heap_rules.specs.exact.LibrarySound.{library_sound}
use Rattle.library_heap_rules.specs.exact.LibraryComplete.{library_complete}

module _ (app : App) (lists : Lists) (has : Row → Type 0) (hits : Key → List Row) (law : (k : Key) → IsHits has k (hits k)) where
  pub library_exact : (row : Row) → has row → IsJust (LibraryRule app lists) has row (library_given app lists hits row)
  library_exact row there = record {
    sound = λ c i. each_in (IsSound (LibraryRule app lists) has row) (library_given app lists hits row) c (library_sound app lists has hits law row there) i;
    complete = λ rule premises x f. library_complete app lists has hits law row rule premises x f.by f.known f.uses;
  }

  led_given : (row : Row) (c : Conclusion) → In c (library_leads app lists hits row) → In c (library_given app lists hits row)
  led_given (Uses n u) c i = i
  led_given _ c i = absurd i

  leader : (rule : ℕ) (premises : List Row) (x : Row) → LibraryRule app lists rule premises x → Each has premises →
      HasLeader has (library_given app lists hits) (library_leads app lists hits) premises ⊎ HasLead has (library_leads app lists hits) rule premises x
  leader rule premises x (hand_points {n = n} {u = u} i r at) k = inl (Uses n u, (k.0, (inl refl, refl)))
  leader rule premises x (hand_taint {n = n} {u = u} i r at) k = inl (Uses n u, (k.0, (inl refl, refl)))
  leader rule premises x (sink_arrives {n = n} {u = u} i sink r m at) k = inl (Uses n u, (k.0, (inl refl, refl)))
  leader rule premises x (same_points {n = n} {u = u} r e one at g) k = inl (Uses n u, (k.0, (inl refl, refl)))
  leader rule premises x (same_taint {n = n} {u = u} r e one at g) k = inl (Uses n u, (k.0, (inl refl, refl)))
  leader rule premises x (taken_points {n = n} {u = u} r e one at g) k = inl (Uses n u, (k.0, (inl refl, refl)))
  leader rule premises x (taken_taint {n = n} {u = u} r e one at left g) k = inl (Uses n u, (k.0, (inl refl, refl)))
  leader rule premises x (joined_points {n = n} {u = u} r e one t g) k = inl (Uses n u, (k.0, (inl refl, refl)))
  leader rule premises x (joined_taint {n = n} {u = u} i r e m one at g) k = inl (Uses n u, (k.0, (inl refl, refl)))
  leader rule premises x (joined_element {n = n} {u = u} i r e m one t at g) k = inl (Uses n u, (k.0, (inl refl, refl)))
  leader rule premises x (source_taint {n = n} {u = u} r e labels one g) k = inl (Uses n u, (k.0, (inl refl, refl)))
  leader rule premises x (source_element {n = n} {u = u} r e labels one t g) k = inl (Uses n u, (k.0, (inl refl, refl)))
  leader rule premises x (shared_static_points {n = n} {u = u} r e one) k = inl (Uses n u, (k.0, (inl refl, refl)))
  leader rule premises x (shared_points {n = n} {u = u} r e one goes) k = inl (Uses n u, (k.0, (inl refl, refl)))
  leader rule premises x (shared_taint {n = n} {u = u} r e one goes) k = inl (Uses n u, (k.0, (inl refl, refl)))
  leader rule premises x (row_put_cell {n = n} {u = u} i j r m to at) k = inl (Uses n u, (k.0, (inl refl, refl)))
  leader rule premises x (row_put_effect {n = n} {u = u} i j r m to at) k = inl (Uses n u, (k.0, (inl refl, refl)))
  leader rule premises x (store_static {n = n} {u = u} i g r m) k = inl (Uses n u, (k.0, (inl refl, refl)))
  leader rule premises x (store_cell {n = n} {u = u} i g r m at) k = inl (Uses n u, (k.0, (inl refl, refl)))
  leader rule premises x (store_effect {n = n} {u = u} i g r m at) k = inl (Uses n u, (k.0, (inl refl, refl)))
  leader rule premises x (copy_cell {n = n} {u = u} i j r m at to) k = inl (Uses n u, (k.0, (inl refl, refl)))
  leader rule premises x (copy_effect {n = n} {u = u} i j r m at to left) k = inl (Uses n u, (k.0, (inl refl, refl)))

  pub library_led : IsLed (LibraryRule app lists) has (library_leads app lists hits)
  library_led = led_by_ones (LibraryRule app lists) has (library_given app lists hits) library_exact (library_leads app lists hits) led_given leader

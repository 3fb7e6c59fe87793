-- What follows is listed, and led by one of its premises.
use Rattle.std.proofs.Common.{◌==◌, ℕ, List, [], ◌∷◌, Some, refl, sym, subst, ◌∙◌, inl, inr}
use Rattle.app_machine.specs.declared.method.Act.TheVariants as act
use Rattle.app_machine.specs.declared.lists.Lists.{Lists}
use Rattle.app_machine.specs.declared.app.App.{App}
use Rattle.vet_base.specs.Members.{In}
use Rattle.app_machine.specs.Lookups.{elem_key}
use Rattle.app_machine.specs.State.{result_register, exception_register, holds}
use Rattle.fact_rows.specs.declared.row.Row.{Row}
use Rattle.fact_rows.specs.declared.row.Row.TheVariants as fact
use Rattle.flow_rules.specs.Rules.{Each}
use Rattle.flow_rules.specs.LocalRules.{returning, throwing}
use Rattle.rule_ground.specs.declared.key.Key.{Key}
use Rattle.rule_ground.specs.Given.{of_one, concludes}
use Rattle.rule_ground.specs.Hits.{IsHits}
use Rattle.rule_ground.specs.Exact.{IsListed}
use Rattle.rule_ground.specs.Listing.{here, either, in_holds, itself}
use Rattle.vet_base.proofs.Every.{in_where}
use Rattle.register_readers.specs.Readings.{Readings}
use Rattle.cell_rules.specs.LocalRules.{LocalRule, move_points, move_label, result_points, result_label, exception_points, exception_label, join_label, new_points, new_label, fill_points, fill_cell, fill_label, get_points, get_label, put_label, get_static_points, get_static_label, get_static_source, put_static_label, throw_points, throw_label, throw_exit_label, return_label}
use Rattle.cell_rules.specs.HeapRules.{HeapRule, cell_holds, lift_holds}
use Rattle.cell_rules.specs.Making.{made_at}
use Rattle.cell_ground.specs.declared.content.Content.TheVariants.{Object, Label}
use Rattle.cell_ground.specs.Coming.{coming, coming_to_all}
use Rattle.cell_ground.specs.ComingListed.{in_coming, in_coming_all}
use Rattle.cell_ground.specs.Ready.{Ready, listed_behind}
use Rattle.cell_ground.specs.Steps.{next_in}
use Rattle.cell_step_rules.specs.CellStepGiven.{StepRule, label_gives, cell_step_given, cell_step_leads}
use Rattle.cell_step_rules.specs.CellStepListed.{more, come, leave, filled, moved, resulted, excepted, threw, put_value, put_object, got_object, got_cell, read_reached, source_read, read_static, made_here, lifted, lifted_back}

module _ (app : App) (readings : Readings) (ready : Ready app readings) (lists : Lists) (has : Row → Type 0) (hits : Key → List Row) (law : (k : Key) → IsHits has k (hits k)) where
  -- a premise leads the conclusion
  abbrev pub Leads : ℕ → List Row → Row → Type 0
  Leads rule premises x = (row : Row) × (In row premises × IsListed (cell_step_leads app readings lists hits row) rule premises x)

  local_led : (rule : ℕ) (premises : List Row) (x : Row) → LocalRule app lists rule premises x → Each has premises → Leads rule premises x
  local_led rule premises x (move_points {n = n} {pc = pc} {x = y} {u = u} d {ds = ds} {s = s} h i g w) k =
      (fact.Points n y s, (inl refl, moved app readings ready lists has hits law (Object s) n pc y d u ds h i g w))
  local_led rule premises x (move_label {n = n} {pc = pc} {x = y} {l = l} {u = u} d {ds = ds} h i g w) k =
      (fact.Label n y l, (inl refl, moved app readings ready lists has hits law (Label l) n pc y d u ds h i g w))
  local_led rule premises x (result_points {n = n} {pc = pc} {u = u} d {ds = ds} {s = s} h i g w) k =
      (fact.Points n result_register s, (inl refl, resulted app readings ready lists has hits law (Object s) n pc d u ds h i g w))
  local_led rule premises x (result_label {n = n} {pc = pc} {l = l} {u = u} d {ds = ds} h i g w) k =
      (fact.Label n result_register l, (inl refl, resulted app readings ready lists has hits law (Label l) n pc d u ds h i g w))
  local_led rule premises x (exception_points {n = n} {pc = pc} {d = d} {u = u} {s = s} h g w) k =
      (fact.Points n exception_register s, (inl refl, excepted app readings ready lists has hits law (Object s) n pc d u h g w))
  local_led rule premises x (exception_label {n = n} {pc = pc} {d = d} {l = l} {u = u} h g w) k =
      (fact.Label n exception_register l, (inl refl, excepted app readings ready lists has hits law (Label l) n pc d u h g w))
  local_led rule premises x (join_label {n = n} {pc = pc} {l = l} {u = u} d y {ds = ds} {xs = xs} h i j g w) k = (
    fact.Label n y l,
    (
      inl refl,
      come app readings ready lists has hits law n y l (act.Join ds xs) h 4 x
          (in_where _ (holds xs y) (coming_to_all readings 4 (of_one (fact.Label n y l)) (Label l) n ds h.step.next) (in_holds y xs j)
          (in_coming_all readings 4 (of_one (fact.Label n y l)) (Label l) n h.step.next ds d pc u i (next_in app n h g) (listed_behind app readings ready n (act.Join ds xs) d pc u h i g w))),
    ),
  )
  local_led rule premises x (new_points {n = n} {pc = pc} {d = d} {u = u} {class = class} {size = size} h g w) k = (
    fact.Reached n,
    (
      inl refl,
      made_here app readings ready lists has hits law n d u (act.New d class size) h
          (in_coming readings 5 (of_one (fact.Reached n)) (Object (made_at app n)) n h.step.next d pc u (next_in app n h g) (listed_behind app readings ready n (act.New d class size) d pc u h (inl refl) g w)),
    ),
  )
  local_led rule premises x (new_label {n = n} {pc = pc} {d = d} {x = y} {l = l} {u = u} {class = class} h g w) k = (
    fact.Label n y l,
    (
      inl refl,
      come app readings ready lists has hits law n y l (act.New d class (Some y)) h 5 x
          (in_where _ (y == y) (coming readings 5 (of_one (fact.Label n y l)) (Label l) n d h.step.next) (itself y)
          (in_coming readings 5 (of_one (fact.Label n y l)) (Label l) n h.step.next d pc u (next_in app n h g) (listed_behind app readings ready n (act.New d class (Some y)) d pc u h (inl refl) g w))),
    ),
  )
  local_led rule premises x (fill_points {n = n} {pc = pc} {u = u} {xs = xs} {class = class} h g w) k = (
    fact.Reached n,
    (
      inl refl,
      made_here app readings ready lists has hits law n result_register u (act.Fill xs class) h
          (in_coming readings 5 (of_one (fact.Reached n)) (Object (made_at app n)) n h.step.next result_register pc u (next_in app n h g) (listed_behind app readings ready n (act.Fill xs class) result_register pc u h (inl refl) g w)),
    ),
  )
  local_led rule premises x (fill_cell {n = n} y {xs = xs} {class = class} {s = s} h i) k = (
    fact.Points n y s,
    (
      inl refl,
      filled app readings ready lists has hits law n y s (act.Fill xs class) h 6 x
          (in_where _ (holds xs y) (concludes 6 (of_one (fact.Points n y s)) (fact.Cell (made_at app n) elem_key s) ∷ []) (in_holds y xs i) (inl refl)),
    ),
  )
  local_led rule premises x (fill_label {n = n} {l = l} y {xs = xs} {class = class} h i) k = (
    fact.Label n y l,
    (
      inl refl,
      leave app readings ready lists has hits law n y l (act.Fill xs class) h 6 x
          (in_where _ (holds xs y) (label_gives n y l 6 (fact.CellLabel (made_at app n) elem_key l) ∷ []) (in_holds y xs i) (inl refl)),
    ),
  )
  local_led rule premises x (get_points {n = n} {pc = pc} {o = o} {u = u} d {ds = ds} {k = key} {s = s} {t = t} h i g w) k =
      (fact.Points n o s, (inl refl, got_object app readings ready lists has hits law (Object t) n pc o d u ds key s h i g w k.1.0))
  local_led rule premises x (get_label {n = n} {pc = pc} {o = o} {l = l} {u = u} d {ds = ds} {k = key} {s = s} h i g w) k =
      (fact.Points n o s, (inl refl, got_object app readings ready lists has hits law (Label l) n pc o d u ds key s h i g w k.1.0))
  local_led rule premises x (put_label {n = n} {o = o} {x = y} {l = l} {k = key} {s = s} h) k =
      (fact.Points n o s, (inl refl, put_object app readings ready lists has hits law n o y l key s h k.1.0))
  local_led rule premises x (get_static_points {n = n} {pc = pc} {g = g} {u = u} d {ds = ds} {s = s} h i m w) k =
      (fact.Reached n, (inl refl, read_reached app readings ready lists has hits law (Object s) n pc g d u ds h i m w k.1.0))
  local_led rule premises x (get_static_label {n = n} {pc = pc} {g = g} {l = l} {u = u} d {ds = ds} h i m w) k =
      (fact.Reached n, (inl refl, read_reached app readings ready lists has hits law (Label l) n pc g d u ds h i m w k.1.0))
  local_led rule premises x (get_static_source {n = n} {pc = pc} {g = g} {l = l} {u = u} d {ds = ds} h i is m w) k =
      (fact.Reached n, (inl refl, source_read app readings ready lists has hits law n pc g l d u ds h i is m w))
  local_led rule premises x (put_static_label {n = n} {g = g} {x = y} {l = l} h) k = (
    fact.Label n y l,
    (
      inl refl,
      leave app readings ready lists has hits law n y l (act.PutStatic g y) h 10 x
          (in_where _ (y == y) (label_gives n y l 10 (fact.StaticLabel g l) ∷ []) (itself y) (inl refl)),
    ),
  )
  local_led rule premises x (throw_points {n = n} {pc = pc} {x = y} {u = u} {s = s} h g w) k =
      (fact.Points n y s, (inl refl, threw app readings ready lists has hits law (Object s) n pc y u h g w))
  local_led rule premises x (throw_label {n = n} {pc = pc} {x = y} {l = l} {u = u} h g w) k =
      (fact.Label n y l, (inl refl, threw app readings ready lists has hits law (Label l) n pc y u h g w))
  local_led rule premises x (throw_exit_label {n = n} {x = y} {l = l} h) k = (
    fact.Label n y l,
    (
      inl refl,
      leave app readings ready lists has hits law n y l (act.Throw y) h 11 x
          (in_where _ (y == y) (label_gives n y l 11 (fact.ExitLabel n.by throwing l) ∷ []) (itself y) (inl refl)),
    ),
  )
  local_led rule premises x (return_label {n = n} {x = y} {l = l} h) k = (
    fact.Label n y l,
    (
      inl refl,
      leave app readings ready lists has hits law n y l (act.Return (Some y)) h 12 x
          (in_where _ (y == y) (label_gives n y l 12 (fact.ExitLabel n.by returning l) ∷ []) (itself y) (inl refl)),
    ),
  )

  heap_led : (rule : ℕ) (premises : List Row) (x : Row) → HeapRule rule premises x → Each has premises → Leads rule premises x
  heap_led rule premises x (cell_holds {k = key} {l = l} {s = s}) k =
      (fact.CellLabel s key l, (inl refl, here (cell_step_leads app readings lists hits) (fact.CellLabel s key l) 14 (of_one (fact.CellLabel s key l)) (fact.Holds s l) (inl refl)))
  heap_led rule premises x (lift_holds {k = key} {l = l} {s = s} {t = t}) k =
      (fact.Holds t l, (inl refl, lifted app readings ready lists has hits law t key s l k.1.0))

  pub step_led : (rule : ℕ) (premises : List Row) (x : Row) → StepRule app lists rule premises x → Each has premises → Leads rule premises x
  step_led rule premises x (inl h) k = local_led rule premises x h k
  step_led rule premises x (inr h) k = heap_led rule premises x h k

  -- the only premise
  alone : {row a : Row} {rule : ℕ} {x : Row} → Leads rule (a ∷ []) x → In row (a ∷ []) → IsListed (cell_step_given app readings lists hits row) rule (a ∷ []) x
  alone {a = a} {rule = rule} {x = x} l (inl same) = elim l.1.0 [
    | inl is ↦ subst (λ z. IsListed (cell_step_given app readings lists hits z) rule (a ∷ []) x) (is ∙ sym same) (more app readings ready lists has hits law l.0 l.1.1)
    | inr none ↦ absurd none
  ]
  alone l (inr none) = absurd none

  local_complete : (row : Row) (rule : ℕ) (premises : List Row) (x : Row) → LocalRule app lists rule premises x → Each has premises →
      In row premises → IsListed (cell_step_given app readings lists hits row) rule premises x
  local_complete row rule premises x (move_points d h i g w) k u = alone (local_led _ _ _ (move_points d h i g w) k) u
  local_complete row rule premises x (move_label d h i g w) k u = alone (local_led _ _ _ (move_label d h i g w) k) u
  local_complete row rule premises x (result_points d h i g w) k u = alone (local_led _ _ _ (result_points d h i g w) k) u
  local_complete row rule premises x (result_label d h i g w) k u = alone (local_led _ _ _ (result_label d h i g w) k) u
  local_complete row rule premises x (exception_points h g w) k u = alone (local_led _ _ _ (exception_points h g w) k) u
  local_complete row rule premises x (exception_label h g w) k u = alone (local_led _ _ _ (exception_label h g w) k) u
  local_complete row rule premises x (join_label d y h i j g w) k u = alone (local_led _ _ _ (join_label d y h i j g w) k) u
  local_complete row rule premises x (new_points h g w) k u = alone (local_led _ _ _ (new_points h g w) k) u
  local_complete row rule premises x (new_label h g w) k u = alone (local_led _ _ _ (new_label h g w) k) u
  local_complete row rule premises x (fill_points h g w) k u = alone (local_led _ _ _ (fill_points h g w) k) u
  local_complete row rule premises x (fill_cell y h i) k u = alone (local_led _ _ _ (fill_cell y h i) k) u
  local_complete row rule premises x (fill_label y h i) k u = alone (local_led _ _ _ (fill_label y h i) k) u
  local_complete row rule premises x (get_points {n = n} {pc = pc} {o = o} {u = v} d {ds = ds} {k = key} {s = s} {t = t} h i g w) k u =
      either (cell_step_given app readings lists hits) _ _ _ u
      (more app readings ready lists has hits law (fact.Points n o s) (got_object app readings ready lists has hits law (Object t) n pc o d v ds key s h i g w k.1.0))
      (got_cell app readings ready lists has hits law (Object t) n pc o d v ds key s h i g w k.0)
  local_complete row rule premises x (get_label {n = n} {pc = pc} {o = o} {l = l} {u = v} d {ds = ds} {k = key} {s = s} h i g w) k u =
      either (cell_step_given app readings lists hits) _ _ _ u
      (more app readings ready lists has hits law (fact.Points n o s) (got_object app readings ready lists has hits law (Label l) n pc o d v ds key s h i g w k.1.0))
      (got_cell app readings ready lists has hits law (Label l) n pc o d v ds key s h i g w k.0)
  local_complete row rule premises x (put_label {n = n} {o = o} {x = y} {l = l} {k = key} {s = s} h) k u =
      either (cell_step_given app readings lists hits) _ _ _ u
      (more app readings ready lists has hits law (fact.Points n o s) (put_object app readings ready lists has hits law n o y l key s h k.1.0))
      (put_value app readings ready lists has hits law n o y l key s h k.0)
  local_complete row rule premises x (get_static_points {n = n} {pc = pc} {g = g} {u = v} d {ds = ds} {s = s} h i m w) k u =
      either (cell_step_given app readings lists hits) _ _ _ u
      (more app readings ready lists has hits law (fact.Reached n) (read_reached app readings ready lists has hits law (Object s) n pc g d v ds h i m w k.1.0))
      (read_static app readings ready lists has hits law (Object s) n pc g d v ds h i m w k.0)
  local_complete row rule premises x (get_static_label {n = n} {pc = pc} {g = g} {l = l} {u = v} d {ds = ds} h i m w) k u =
      either (cell_step_given app readings lists hits) _ _ _ u
      (more app readings ready lists has hits law (fact.Reached n) (read_reached app readings ready lists has hits law (Label l) n pc g d v ds h i m w k.1.0))
      (read_static app readings ready lists has hits law (Label l) n pc g d v ds h i m w k.0)
  local_complete row rule premises x (get_static_source d h i is m w) k u = alone (local_led _ _ _ (get_static_source d h i is m w) k) u
  local_complete row rule premises x (put_static_label h) k u = alone (local_led _ _ _ (put_static_label h) k) u
  local_complete row rule premises x (throw_points h g w) k u = alone (local_led _ _ _ (throw_points h g w) k) u
  local_complete row rule premises x (throw_label h g w) k u = alone (local_led _ _ _ (throw_label h g w) k) u
  local_complete row rule premises x (throw_exit_label h) k u = alone (local_led _ _ _ (throw_exit_label h) k) u
  local_complete row rule premises x (return_label h) k u = alone (local_led _ _ _ (return_label h) k) u

  heap_complete : (row : Row) (rule : ℕ) (premises : List Row) (x : Row) → HeapRule rule premises x → Each has premises →
      In row premises → IsListed (cell_step_given app readings lists hits row) rule premises x
  heap_complete row rule premises x (cell_holds {k = key} {l = l} {s = s}) k u = alone (heap_led _ _ _ (cell_holds {k = key} {l = l} {s = s}) k) u
  heap_complete row rule premises x (lift_holds {k = key} {l = l} {s = s} {t = t}) k u =
      either (cell_step_given app readings lists hits) _ _ _ u
      (more app readings ready lists has hits law (fact.Holds t l) (lifted app readings ready lists has hits law t key s l k.1.0))
      (lifted_back app readings ready lists has hits law t key s l k.0)

  pub step_complete : (row : Row) (rule : ℕ) (premises : List Row) (x : Row) → StepRule app lists rule premises x → Each has premises →
      In row premises → IsListed (cell_step_given app readings lists hits row) rule premises x
  step_complete row rule premises x (inl h) k u = local_complete row rule premises x h k u
  step_complete row rule premises x (inr h) k u = heap_complete row rule premises x h k u

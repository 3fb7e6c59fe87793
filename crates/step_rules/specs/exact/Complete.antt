-- What follows is listed, and led by one of its premises.
use Rattle.std.proofs.Common.{◌==◌, ℕ, ◌&&◌, List, [], ◌∷◌, ◌++◌, Some, refl, sym, subst, ◌∙◌, inl, inr}
use Rattle.std.proofs.lemmas.Bool.{and_from}
use Rattle.access_path.specs.Paths.{cut, rest, empty_path}
use Rattle.app_machine.specs.declared.method.Act.TheVariants as act
use Rattle.app_machine.specs.declared.lists.Lists.{Lists}
use Rattle.app_machine.specs.declared.app.App.{App}
use Rattle.vet_base.specs.Members.{In}
use Rattle.app_machine.specs.Lookups.{elem_key}
use Rattle.app_machine.specs.State.{result_register, exception_register, holds}
use Rattle.fact_rows.specs.declared.site.Site.TheVariants.{At}
use Rattle.fact_rows.specs.declared.row.Row.{Row}
use Rattle.fact_rows.specs.declared.row.Row.TheVariants.{Reached, Points, Taint, Cell, Back}
use Rattle.flow_rules.specs.Nodes.{at_pc}
use Rattle.flow_rules.specs.Rules.{Each}
use Rattle.flow_rules.specs.LocalRules.{LocalRule, reach_next, reach_caught, keep_points, keep_taint, keep_points_caught, keep_taint_caught, move_points, move_taint, result_points, result_taint, exception_points, exception_taint, join_taint, new_points, new_taint, fill_points, fill_cell, fill_taint, get_points, get_taint, put_cell, put_effect, get_static_points, get_static_taint, get_static_source, put_static_points, put_static_taint, throw_points, throw_taint, throw_exit_points, throw_exit_taint, return_points, return_taint, cell_back}
use Rattle.rule_ground.specs.declared.content.Content.TheVariants.{Object, Label}
use Rattle.rule_ground.specs.declared.key.Key.{Key}
use Rattle.rule_ground.specs.Given.{of_one, concludes, at_each, to_all}
use Rattle.rule_ground.specs.Hits.{IsHits}
use Rattle.rule_ground.specs.Exact.{IsListed}
use Rattle.vet_base.proofs.Members.{in_front, in_back, in_map}
use Rattle.vet_base.proofs.Every.{in_where}
use Rattle.rule_ground.specs.Listing.{here, either, in_each, in_all, in_holds, itself}
use Rattle.step_rules.specs.StepGiven.{step_leads, goes_on, made, statics_got, is_bare, rest_gives, step_given}
use Rattle.step_rules.specs.Lifted.{next_in}
use Rattle.step_rules.specs.StepListed.{bare_of, more, at_reached, at_object, at_label, kept, caught, moved, resulted, excepted, to_static, threw, threw_out, returned, put_value, put_points, put_taint, got_object, got_cell, read_reached, source_read, read_static, made_here}

module _ (app : App) (lists : Lists) (has : Row → Type 0) (hits : Key → List Row) (law : (k : Key) → IsHits has k (hits k)) where
  -- a premise leads the conclusion
  abbrev pub Leads : ℕ → List Row → Row → Type 0
  Leads rule premises x = (row : Row) × (In row premises × IsListed (step_leads app lists hits row) rule premises x)

  pub step_led : (rule : ℕ) (premises : List Row) (x : Row) → LocalRule app lists rule premises x → Each has premises → Leads rule premises x
  step_led rule premises x (reach_next {n = n} {pc = pc} g) k =
      let c = concludes 1 (of_one (Reached n)) (Reached (at_pc n pc)) in (
        Reached n,
        (
          inl refl,
          (here (step_leads app lists hits) (Reached n) 1 (of_one (Reached n)) (Reached (at_pc n pc)) (at_reached app lists has hits law n g.step g.there c
              (in_front c (goes_on g.step.next n)
              (goes_on g.step.catches n ++ (made g.step.act g.step.next n ++ statics_got app lists hits g.step.act g.step.next n))
              (in_map (λ to. concludes 1 (of_one (Reached n)) (Reached (at_pc n to))) g.step.next pc g.next)))),
        ),
      )
  step_led rule premises x (reach_caught {n = n} {pc = pc} g) k =
      let c = concludes 1 (of_one (Reached n)) (Reached (at_pc n pc)) in (
        Reached n,
        (
          inl refl,
          (here (step_leads app lists hits) (Reached n) 1 (of_one (Reached n)) (Reached (at_pc n pc)) (at_reached app lists has hits law n g.step g.there c
              (in_back c (goes_on g.step.next n) (goes_on g.step.catches n ++ (made g.step.act g.step.next n ++ statics_got app lists hits g.step.act g.step.next n))
              (in_front c (goes_on g.step.catches n) (made g.step.act g.step.next n ++ statics_got app lists hits g.step.act g.step.next n)
              (in_map (λ to. concludes 1 (of_one (Reached n)) (Reached (at_pc n to))) g.step.catches pc g.catch))))),
        ),
      )
  step_led rule premises x (keep_points {n = n} {pc = pc} {r = r} {s = s} {act = a} h w g) k =
      (Points n r s, (inl refl, (kept app lists has hits law (Object s) n pc r a h w g)))
  step_led rule premises x (keep_taint {n = n} {pc = pc} {r = r} {l = l} {p = p} {act = a} h w g) k =
      (Taint n r p l, (inl refl, (kept app lists has hits law (Label p l) n pc r a h w g)))
  step_led rule premises x (keep_points_caught {n = n} {pc = pc} {r = r} {s = s} w g) k =
      (Points n r s, (inl refl, (caught app lists has hits law (Object s) n pc r w g)))
  step_led rule premises x (keep_taint_caught {n = n} {pc = pc} {r = r} {l = l} {p = p} w g) k =
      (Taint n r p l, (inl refl, (caught app lists has hits law (Label p l) n pc r w g)))
  step_led rule premises x (move_points {n = n} {pc = pc} {x = y} d {ds = ds} {s = s} h i g) k =
      (Points n y s, (inl refl, (moved app lists has hits law (Object s) n pc y d ds h i g)))
  step_led rule premises x (move_taint {n = n} {pc = pc} {x = y} {l = l} d {ds = ds} {p = p} h i g) k =
      (Taint n y p l, (inl refl, (moved app lists has hits law (Label p l) n pc y d ds h i g)))
  step_led rule premises x (result_points {n = n} {pc = pc} d {ds = ds} {s = s} h i g) k =
      (Points n result_register s, (inl refl, (resulted app lists has hits law (Object s) n pc d ds h i g)))
  step_led rule premises x (result_taint {n = n} {pc = pc} {l = l} d {ds = ds} {p = p} h i g) k =
      (Taint n result_register p l, (inl refl, (resulted app lists has hits law (Label p l) n pc d ds h i g)))
  step_led rule premises x (exception_points {n = n} {pc = pc} {d = d} {s = s} h g) k =
      (Points n exception_register s, (inl refl, (excepted app lists has hits law (Object s) n pc d h g)))
  step_led rule premises x (exception_taint {n = n} {pc = pc} {d = d} {l = l} {p = p} h g) k =
      (Taint n exception_register p l, (inl refl, (excepted app lists has hits law (Label p l) n pc d h g)))
  step_led rule premises x (join_taint {n = n} {pc = pc} {l = l} d y {ds = ds} {xs = xs} {p = p} h i j bare g) k =
      let c = concludes 4 (of_one (Taint n y p l)) (Taint (at_pc n pc) d empty_path l) in (
        Taint n y p l,
        (
          inl refl,
          (here (step_leads app lists hits) (Taint n y p l) 4 (of_one (Taint n y p l)) (Taint (at_pc n pc) d empty_path l) (at_label app lists has hits law n y p l (act.Join ds xs) h c
              (in_where c (holds xs y && is_bare p) (to_all 4 (of_one (Taint n y p l)) (Label empty_path l) n ds h.step.next)
              (and_from (holds xs y) (is_bare p) (in_holds y xs j) (bare_of p bare))
              (in_all 4 (of_one (Taint n y p l)) (Label empty_path l) n h.step.next ds d pc i (next_in app n h g))))),
        ),
      )
  step_led rule premises x (new_taint {n = n} {pc = pc} {d = d} {x = y} {l = l} {class = class} {p = p} h bare g) k =
      let c = concludes 5 (of_one (Taint n y p l)) (Taint (at_pc n pc) d empty_path l) in (
        Taint n y p l,
        (
          inl refl,
          (here (step_leads app lists hits) (Taint n y p l) 5 (of_one (Taint n y p l)) (Taint (at_pc n pc) d empty_path l) (at_label app lists has hits law n y p l (act.New d class (Some y)) h c
              (in_where c (y == y && is_bare p) (at_each 5 (of_one (Taint n y p l)) (Label empty_path l) n d h.step.next)
              (and_from (y == y) (is_bare p) (itself y) (bare_of p bare))
              (in_each 5 (of_one (Taint n y p l)) (Label empty_path l) n h.step.next d pc (next_in app n h g))))),
        ),
      )
  step_led rule premises x (new_points {n = n} {pc = pc} {d = d} {class = class} {size = size} h g) k =
      (Reached n, (inl refl, (made_here app lists has hits law n pc d (act.New d class size) h (in_each 5 (of_one (Reached n)) (Object (At n)) n h.step.next d pc (next_in app n h g)))))
  step_led rule premises x (fill_points {n = n} {pc = pc} {xs = xs} {class = class} h g) k =
      (Reached n, (inl refl, (made_here app lists has hits law n pc result_register (act.Fill xs class) h (in_each 5 (of_one (Reached n)) (Object (At n)) n h.step.next result_register pc (next_in app n h g)))))
  step_led rule premises x (fill_cell {n = n} y {xs = xs} {class = class} {s = s} h i) k =
      let c = concludes 6 (of_one (Points n y s)) (Cell (At n) elem_key s) in
      (Points n y s, (inl refl, (here (step_leads app lists hits) (Points n y s) 6 (of_one (Points n y s)) (Cell (At n) elem_key s) (at_object app lists has hits law n y s (act.Fill xs class) h c (in_where c (holds xs y) (c ∷ []) (in_holds y xs i) (inl refl))))))
  step_led rule premises x (fill_taint {n = n} {pc = pc} {l = l} y {xs = xs} {class = class} {p = p} h i g) k =
      let c = concludes 6 (of_one (Taint n y p l)) (Taint (at_pc n pc) result_register (cut elem_key p) l) in (
        Taint n y p l,
        (
          inl refl,
          (here (step_leads app lists hits) (Taint n y p l) 6 (of_one (Taint n y p l)) (Taint (at_pc n pc) result_register (cut elem_key p) l) (at_label app lists has hits law n y p l (act.Fill xs class) h c
              (in_where c (holds xs y) (at_each 6 (of_one (Taint n y p l)) (Label (cut elem_key p) l) n result_register h.step.next) (in_holds y xs i)
              (in_each 6 (of_one (Taint n y p l)) (Label (cut elem_key p) l) n h.step.next result_register pc (next_in app n h g))))),
        ),
      )
  step_led rule premises x (get_points {n = n} {pc = pc} {o = o} d {ds = ds} {k = key} {s = s} {t = t} h i g) k = (Points n o s, (inl refl, (got_object app lists has hits law n pc o d ds key s t h i g k.1.0)))
  step_led rule premises x (get_taint {n = n} {pc = pc} {o = o} {l = l} d {ds = ds} {k = key} {p = p} {q = q} h i cut_off g) k =
      let c = concludes 7 (of_one (Taint n o p l)) (Taint (at_pc n pc) d q l) in (
        Taint n o p l,
        (
          inl refl,
          (here (step_leads app lists hits) (Taint n o p l) 7 (of_one (Taint n o p l)) (Taint (at_pc n pc) d q l) (at_label app lists has hits law n o p l (act.Get ds o key) h c
              (in_where c (o == o) (rest_gives (rest p key) ds h.step.next n o p l) (itself o)
              (subst (λ z. In c (rest_gives z ds h.step.next n o p l)) (sym cut_off) (in_all 7 (of_one (Taint n o p l)) (Label q l) n h.step.next ds d pc i (next_in app n h g)))))),
        ),
      )
  step_led rule premises x (put_cell {n = n} {o = o} {x = y} {k = key} {s = s} {t = t} h) k = (Points n o s, (inl refl, (put_points app lists has hits law n o y key s t h k.1.0)))
  step_led rule premises x (put_effect {n = n} {o = o} {x = y} {l = l} {k = key} {s = s} {p = p} h) k = (Points n o s, (inl refl, (put_taint app lists has hits law n o y key s p l h k.1.0)))
  step_led rule premises x (get_static_points {n = n} {pc = pc} {g = g} d {ds = ds} {s = s} h i m) k = (Reached n, (inl refl, (read_reached app lists has hits law (Object s) n pc g d ds h i m k.1.0)))
  step_led rule premises x (get_static_taint {n = n} {pc = pc} {g = g} {l = l} d {ds = ds} {p = p} h i m) k = (Reached n, (inl refl, (read_reached app lists has hits law (Label p l) n pc g d ds h i m k.1.0)))
  step_led rule premises x (get_static_source {n = n} {pc = pc} {g = g} {l = l} d {ds = ds} h i is m) k =
      (Reached n, (inl refl, (source_read app lists has hits law n pc g l d ds h i is m)))
  step_led rule premises x (put_static_points {n = n} {g = g} {x = y} {s = s} h) k =
      (Points n y s, (inl refl, (to_static app lists has hits law (Object s) n g y h)))
  step_led rule premises x (put_static_taint {n = n} {g = g} {x = y} {l = l} {p = p} h) k =
      (Taint n y p l, (inl refl, (to_static app lists has hits law (Label p l) n g y h)))
  step_led rule premises x (throw_points {n = n} {pc = pc} {x = y} {s = s} h g) k =
      (Points n y s, (inl refl, (threw app lists has hits law (Object s) n pc y h g)))
  step_led rule premises x (throw_taint {n = n} {pc = pc} {x = y} {l = l} {p = p} h g) k =
      (Taint n y p l, (inl refl, (threw app lists has hits law (Label p l) n pc y h g)))
  step_led rule premises x (throw_exit_points {n = n} {x = y} {s = s} h) k =
      (Points n y s, (inl refl, (threw_out app lists has hits law (Object s) n y h)))
  step_led rule premises x (throw_exit_taint {n = n} {x = y} {l = l} {p = p} h) k =
      (Taint n y p l, (inl refl, (threw_out app lists has hits law (Label p l) n y h)))
  step_led rule premises x (return_points {n = n} {x = y} {s = s} h) k =
      (Points n y s, (inl refl, (returned app lists has hits law (Object s) n y h)))
  step_led rule premises x (return_taint {n = n} {x = y} {l = l} {p = p} h) k =
      (Taint n y p l, (inl refl, (returned app lists has hits law (Label p l) n y h)))
  step_led rule premises x (cell_back {k = key} {s = s} {t = t}) k =
      (Cell s key t, (inl refl, (here (step_leads app lists hits) (Cell s key t) 13 (of_one (Cell s key t)) (Back t key s) (inl refl))))

  -- the only premise
  alone : {row a : Row} {rule : ℕ} {x : Row} → Leads rule (a ∷ []) x → In row (a ∷ []) → IsListed (step_given app lists hits row) rule (a ∷ []) x
  alone {a = a} {rule = rule} {x = x} l (inl same) = elim l.1.0 [
    | inl is ↦ subst (λ z. IsListed (step_given app lists hits z) rule (a ∷ []) x) (is ∙ sym same) (more app lists has hits law l.0 l.1.1)
    | inr none ↦ absurd none
  ]
  alone l (inr none) = absurd none

  pub step_complete : (row : Row) (rule : ℕ) (premises : List Row) (x : Row) → LocalRule app lists rule premises x → Each has premises →
      In row premises → IsListed (step_given app lists hits row) rule premises x
  step_complete row rule premises x (reach_next g) k u = alone (step_led _ _ _ (reach_next g) k) u
  step_complete row rule premises x (reach_caught g) k u = alone (step_led _ _ _ (reach_caught g) k) u
  step_complete row rule premises x (keep_points h w g) k u = alone (step_led _ _ _ (keep_points h w g) k) u
  step_complete row rule premises x (keep_taint h w g) k u = alone (step_led _ _ _ (keep_taint h w g) k) u
  step_complete row rule premises x (keep_points_caught w g) k u = alone (step_led _ _ _ (keep_points_caught w g) k) u
  step_complete row rule premises x (keep_taint_caught w g) k u = alone (step_led _ _ _ (keep_taint_caught w g) k) u
  step_complete row rule premises x (move_points d h i g) k u = alone (step_led _ _ _ (move_points d h i g) k) u
  step_complete row rule premises x (move_taint d h i g) k u = alone (step_led _ _ _ (move_taint d h i g) k) u
  step_complete row rule premises x (result_points d h i g) k u = alone (step_led _ _ _ (result_points d h i g) k) u
  step_complete row rule premises x (result_taint d h i g) k u = alone (step_led _ _ _ (result_taint d h i g) k) u
  step_complete row rule premises x (exception_points h g) k u = alone (step_led _ _ _ (exception_points h g) k) u
  step_complete row rule premises x (exception_taint h g) k u = alone (step_led _ _ _ (exception_taint h g) k) u
  step_complete row rule premises x (join_taint d y h i j bare g) k u = alone (step_led _ _ _ (join_taint d y h i j bare g) k) u
  step_complete row rule premises x (new_taint h bare g) k u = alone (step_led _ _ _ (new_taint h bare g) k) u
  step_complete row rule premises x (new_points h g) k u = alone (step_led _ _ _ (new_points h g) k) u
  step_complete row rule premises x (fill_points h g) k u = alone (step_led _ _ _ (fill_points h g) k) u
  step_complete row rule premises x (fill_cell y h i) k u = alone (step_led _ _ _ (fill_cell y h i) k) u
  step_complete row rule premises x (fill_taint y h i g) k u = alone (step_led _ _ _ (fill_taint y h i g) k) u
  step_complete row rule premises x (get_points {n = n} {pc = pc} {o = o} d {ds = ds} {k = key} {s = s} {t = t} h i g) k u =
      either (step_given app lists hits) _ _ _ u (more app lists has hits law (Points n o s) (got_object app lists has hits law n pc o d ds key s t h i g k.1.0)) (got_cell app lists has hits law n pc o d ds key s t h i g k.0)
  step_complete row rule premises x (get_taint d h i cut_off g) k u = alone (step_led _ _ _ (get_taint d h i cut_off g) k) u
  step_complete row rule premises x (put_cell {n = n} {o = o} {x = y} {k = key} {s = s} {t = t} h) k u =
      either (step_given app lists hits) _ _ _ u (more app lists has hits law (Points n o s) (put_points app lists has hits law n o y key s t h k.1.0)) (put_value app lists has hits law (Object t) n o y key s h k.0)
  step_complete row rule premises x (put_effect {n = n} {o = o} {x = y} {l = l} {k = key} {s = s} {p = p} h) k u =
      either (step_given app lists hits) _ _ _ u (more app lists has hits law (Points n o s) (put_taint app lists has hits law n o y key s p l h k.1.0)) (put_value app lists has hits law (Label p l) n o y key s h k.0)
  step_complete row rule premises x (get_static_points {n = n} {pc = pc} {g = g} d {ds = ds} {s = s} h i m) k u =
      either (step_given app lists hits) _ _ _ u (more app lists has hits law (Reached n) (read_reached app lists has hits law (Object s) n pc g d ds h i m k.1.0)) (read_static app lists has hits law (Object s) n pc g d ds h i m k.0)
  step_complete row rule premises x (get_static_taint {n = n} {pc = pc} {g = g} {l = l} d {ds = ds} {p = p} h i m) k u =
      either (step_given app lists hits) _ _ _ u (more app lists has hits law (Reached n) (read_reached app lists has hits law (Label p l) n pc g d ds h i m k.1.0)) (read_static app lists has hits law (Label p l) n pc g d ds h i m k.0)
  step_complete row rule premises x (get_static_source d h i is m) k u = alone (step_led _ _ _ (get_static_source d h i is m) k) u
  step_complete row rule premises x (put_static_points h) k u = alone (step_led _ _ _ (put_static_points h) k) u
  step_complete row rule premises x (put_static_taint h) k u = alone (step_led _ _ _ (put_static_taint h) k) u
  step_complete row rule premises x (throw_points h g) k u = alone (step_led _ _ _ (throw_points h g) k) u
  step_complete row rule premises x (throw_taint h g) k u = alone (step_led _ _ _ (throw_taint h g) k) u
  step_complete row rule premises x (throw_exit_points h) k u = alone (step_led _ _ _ (throw_exit_points h) k) u
  step_complete row rule premises x (throw_exit_taint h) k u = alone (step_led _ _ _ (throw_exit_taint h) k) u
  step_complete row rule premises x (return_points h) k u = alone (step_led _ _ _ (return_points h) k) u
  step_complete row rule premises x (return_taint h) k u = alone (step_led _ _ _ (return_taint h) k) u
  step_complete row rule premises x (cell_back) k u = alone (step_led _ _ _ (cell_back) k) u

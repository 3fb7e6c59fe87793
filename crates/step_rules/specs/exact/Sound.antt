-- What is listed follows.
use Rattle.std.proofs.Common.{◌≡◌, ◌==◌, ℕ, suc, arith, true, ◌&&◌, List, [], ◌∷◌, ◌++◌, Option, Some, None, cond, length, flat_map, eqb-true, refl, sym, ap, subst}
use Rattle.std.proofs.lemmas.Bool.{and_parts}
use Rattle.vet_base.specs.declared.key_id.KeyId.{KeyId}
use Rattle.access_path.specs.declared.path.Path.{Path}
use Rattle.access_path.specs.Paths.{keys_of, cut, rest, empty_path}
use Rattle.app_machine.specs.declared.method.Act.{Act}
use Rattle.app_machine.specs.declared.method.Act.TheVariants as act
use Rattle.app_machine.specs.declared.method.Step.{Step}
use Rattle.app_machine.specs.declared.lists.Lists.{Lists}
use Rattle.app_machine.specs.declared.app.App.{App}
use Rattle.app_machine.specs.Lookups.{elem_key}
use Rattle.app_machine.specs.Summaries.{static_source}
use Rattle.app_machine.specs.Local.{writes}
use Rattle.app_machine.specs.State.{result_register, exception_register, holds}
use Rattle.fact_rows.specs.declared.context.Node.{Node}
use Rattle.fact_rows.specs.declared.site.Site.{Site}
use Rattle.fact_rows.specs.declared.site.Site.TheVariants.{At}
use Rattle.fact_rows.specs.declared.row.Row.{Row}
use Rattle.fact_rows.specs.declared.row.Row.TheVariants.{Reached, Points, Taint, Cell, StaticPoints, StaticTaint}
use Rattle.flow_rules.specs.Nodes.{at_pc, Acts}
use Rattle.flow_rules.specs.LocalRules.{LocalRule, returning, throwing, reach_next, reach_caught, join_taint, new_points, new_taint, fill_points, fill_cell, fill_taint, get_points, get_taint, put_cell, put_effect, get_static_source, cell_back}
use Rattle.rule_ground.specs.declared.conclusion.Conclusion.{Conclusion}
use Rattle.rule_ground.specs.declared.content.Content.{Content}
use Rattle.rule_ground.specs.declared.content.Content.TheVariants.{Object, Label}
use Rattle.rule_ground.specs.declared.key.Key.{Key}
use Rattle.rule_ground.specs.declared.key.Key.TheVariants.{PointsAt, TaintsAt, PointsTo, CellsOf, StaticPointsOf, StaticTaintsOf, ReachedAt}
use Rattle.rule_ground.specs.Given.{of_one, of_two, concludes, held, held_static, leaves, stored, at_each, to_all}
use Rattle.rule_ground.specs.Hits.{IsHits}
use Rattle.rule_ground.specs.Exact.{IsSound}
use Rattle.std.specs.List.{AllByRecursion}
use Rattle.vet_base.proofs.Every.{each_append, each_map, each_flat, each_where, each_unless}
use Rattle.app_index.specs.Readers.{readers_of}
use Rattle.rule_ground.specs.Listing.{one, first, second, each_sound, all_sound, holds_in, at_hit, of_hits}
use Rattle.step_rules.specs.StepGiven.{step_here, goes_on, made, reads, reads_on, reader_gives, reader_takes, static_on, static_gives, statics_read, source_gives, sourced, statics_got, reached_on, keeps, thrown, passes, put_gives, puts, content_alone, put_on_gives, got_gives, object_gives, points_on, is_bare, rest_gives, label_gives, taint_on, gets, gets_on, getter_gives, cell_gives, step_given}
use Rattle.step_rules.specs.Lifted.{act_of, next_of, catch_of, keep, caught, moved, resulted, excepted, put_in, from_static, to_static, threw, threw_out, returned}

bare_is : (ks : List KeyId) → length ks == 0 ≡ true → ks ≡ []
bare_is [] h = refl
bare_is (k ∷ ks) h = let e : suc (length ks) ≡ 0 = eqb-true (length (k ∷ ks)) 0 h in absurd (omega arith)

key_same : (j k : KeyId) → j.0 ≡ k.0 → j ≡ k
key_same j k e = let make : ℕ → KeyId = λ z. record { 0 = z } in ap make e

module _ (app : App) (lists : Lists) (has : Row → Type 0) (hits : Key → List Row) (law : (k : Key) → IsHits has k (hits k)) where
  abbrev R : ℕ → List Row → Row → Type 0
  R = LocalRule app lists

  abbrev Sound : Row → Conclusion → Type 0
  Sound row = IsSound (LocalRule app lists) has row

  module _ (n : Node) (step : Step) (there : step_here app n ≡ Some step) where
    goes_sound : has (Reached n) → AllByRecursion (Sound (Reached n)) (goes_on step.next n)
    goes_sound p =
        each_map (Sound (Reached n)) (λ pc. concludes 1 (of_one (Reached n)) (Reached (at_pc n pc))) step.next
        (λ pc i. one R has (reach_next (next_of app n there i)) p)

    caught_sound : has (Reached n) → AllByRecursion (Sound (Reached n)) (goes_on step.catches n)
    caught_sound p =
        each_map (Sound (Reached n)) (λ pc. concludes 1 (of_one (Reached n)) (Reached (at_pc n pc))) step.catches
        (λ pc i. one R has (reach_caught (catch_of app n there i)) p)

    made_sound : has (Reached n) → (a : Act) → step.act ≡ a → AllByRecursion (Sound (Reached n)) (made a step.next n)
    made_sound p (act.New d class size) e =
        each_sound (Sound (Reached n)) 5 (of_one (Reached n)) (Object (At n)) n step.next d
        (λ pc i. one R has (new_points (act_of app n there e) (next_of app n there i)) p)
    made_sound p (act.Fill xs class) e =
        each_sound (Sound (Reached n)) 5 (of_one (Reached n)) (Object (At n)) n step.next result_register
        (λ pc i. one R has (fill_points (act_of app n there e) (next_of app n there i)) p)
    made_sound p _ e = tt

    reads_sound : (P : Conclusion → Type 0) (g : ℕ) (v : Content) →
        ((x : Row) → LocalRule app lists 9 (Reached n ∷ held_static v g ∷ []) x → P (concludes 9 (of_two (Reached n) (held_static v g)) x)) →
        (a : Act) → step.act ≡ a → AllByRecursion P (reads a step.next n g v)
    reads_sound P g v h (act.GetStatic ds f) e = each_where P (f == g) (to_all 9 (of_two (Reached n) (held_static v g)) v n ds step.next) (λ t.
        let same : f ≡ g = eqb-true f g t in
        let own : Acts app n (act.GetStatic ds g) = subst (λ z. Acts app n (act.GetStatic ds z)) same (act_of app n there e) in
        all_sound P 9 (of_two (Reached n) (held_static v g)) v n step.next ds (λ d pc i j. h (held v (at_pc n pc) d) (from_static app lists n v pc g d ds own i (next_of app n there j))))
    reads_sound P g v h _ e = tt

    statics_sound : has (Reached n) → (a : Act) → step.act ≡ a → AllByRecursion (Sound (Reached n)) (statics_read hits a step.next n)
    statics_sound p (act.GetStatic ds g) e =
        let P = Sound (Reached n) in
        let f : Row → List Conclusion = static_gives (act.GetStatic ds g) step.next n in
        each_append P (flat_map f (hits (StaticPointsOf g))) (flat_map f (hits (StaticTaintsOf g)))
        (each_flat P f (hits (StaticPointsOf g)) (λ row i.
        let u = (law (StaticPointsOf g)).under row i in
        subst (λ z. AllByRecursion P (f z)) (sym u.1) (reads_sound P g (Object u.0) (λ x by. first R has by p (at_hit has hits law _ row _ i u.1)) (act.GetStatic ds g) e)))
        (each_flat P f (hits (StaticTaintsOf g)) (λ row i.
        let u = (law (StaticTaintsOf g)).under row i in
        subst (λ z. AllByRecursion P (f z)) (sym u.1.1) (reads_sound P g (Label u.0 u.1.0) (λ x by. first R has by p (at_hit has hits law _ row _ i u.1.1)) (act.GetStatic ds g) e)))
    statics_sound p _ e = tt

    source_sound : has (Reached n) → (ds : List ℕ) (g : ℕ) → step.act ≡ act.GetStatic ds g → (o : Option ℕ) → static_source app lists g ≡ o →
        AllByRecursion (Sound (Reached n)) (source_gives o ds step.next n)
    source_sound p ds g e None is = tt
    source_sound p ds g e (Some l) is =
        all_sound (Sound (Reached n)) 9 (of_one (Reached n)) (Label empty_path l) n step.next ds
        (λ d pc i j. one R has (get_static_source d (act_of app n there e) i is (next_of app n there j)) p)

    sources_sound : has (Reached n) → (a : Act) → step.act ≡ a → AllByRecursion (Sound (Reached n)) (sourced app lists a step.next n)
    sources_sound p (act.GetStatic ds g) e = source_sound p ds g e (static_source app lists g) refl
    sources_sound p _ e = tt

    keeps_sound : (v : Content) (r : ℕ) → has (held v n r) → AllByRecursion (Sound (held v n r)) (keeps step n r v)
    keeps_sound v r p =
        let P = Sound (held v n r) in
        let f : List ℕ → List Conclusion = at_each 2 (of_one (held v n r)) v n r in
        each_append P (cond (writes step.act r) [] (f step.next)) (cond (r == exception_register) [] (f step.catches))
        (each_unless P (writes step.act r) (f step.next)
        (λ w. each_sound P 2 (of_one (held v n r)) v n step.next r (λ pc i. one R has (keep app lists n v pc r step.act (act_of app n there refl) w (next_of app n there i)) p)))
        (each_unless P (r == exception_register) (f step.catches)
        (λ w. each_sound P 2 (of_one (held v n r)) v n step.catches r (λ pc i. one R has (caught app lists n v pc r w (catch_of app n there i)) p)))

    passes_sound : (v : Content) (r : ℕ) → has (held v n r) → (a : Act) → step.act ≡ a →
        AllByRecursion (Sound (held v n r)) (passes a step.next step.catches n r v)
    passes_sound v r p (act.Move ds x) e = each_where (Sound (held v n r)) (x == r) (to_all 3 (of_one (held v n r)) v n ds step.next) (λ t.
        all_sound (Sound (held v n r)) 3 (of_one (held v n r)) v n step.next ds (λ d pc i j.
        one R has (subst (λ z. LocalRule app lists 3 (held v n z ∷ []) (held v (at_pc n pc) d)) (eqb-true x r t) (moved app lists n v pc x d ds (act_of app n there e) i (next_of app n there j))) p))
    passes_sound v r p (act.TakeResult ds) e = each_where (Sound (held v n r)) (r == result_register) (to_all 3 (of_one (held v n r)) v n ds step.next) (λ t.
        all_sound (Sound (held v n r)) 3 (of_one (held v n r)) v n step.next ds (λ d pc i j.
        one R has (subst (λ z. LocalRule app lists 3 (held v n z ∷ []) (held v (at_pc n pc) d)) (sym (eqb-true r result_register t)) (resulted app lists n v pc d ds (act_of app n there e) i (next_of app n there j))) p))
    passes_sound v r p (act.TakeException d) e = each_where (Sound (held v n r)) (r == exception_register) (at_each 3 (of_one (held v n r)) v n d step.next) (λ t.
        each_sound (Sound (held v n r)) 3 (of_one (held v n r)) v n step.next d (λ pc j.
        one R has (subst (λ z. LocalRule app lists 3 (held v n z ∷ []) (held v (at_pc n pc) d)) (sym (eqb-true r exception_register t)) (excepted app lists n v pc d (act_of app n there e) (next_of app n there j))) p))
    passes_sound v r p (act.PutStatic g x) e = each_where (Sound (held v n r)) (x == r) (concludes 10 (of_one (held v n r)) (held_static v g) ∷ []) (λ t.
        (one R has (subst (λ z. LocalRule app lists 10 (held v n z ∷ []) (held_static v g)) (eqb-true x r t) (to_static app lists n v g x (act_of app n there e))) p, tt))
    passes_sound v r p (act.Throw x) e = each_where (Sound (held v n r)) (x == r) (thrown step.catches n r v) (λ t. (
      one R has (subst (λ z. LocalRule app lists 11 (held v n z ∷ []) (leaves v n.by throwing)) (eqb-true x r t) (threw_out app lists n v x (act_of app n there e))) p,
      each_sound (Sound (held v n r)) 11 (of_one (held v n r)) v n step.catches exception_register (λ pc j.
          one R has (subst (λ z. LocalRule app lists 11 (held v n z ∷ []) (held v (at_pc n pc) exception_register)) (eqb-true x r t) (threw app lists n v pc x (act_of app n there e) (catch_of app n there j))) p),
    ))
    passes_sound v r p (act.Return (Some x)) e = each_where (Sound (held v n r)) (x == r) (concludes 12 (of_one (held v n r)) (leaves v n.by returning) ∷ []) (λ t.
        (one R has (subst (λ z. LocalRule app lists 12 (held v n z ∷ []) (leaves v n.by returning)) (eqb-true x r t) (returned app lists n v x (act_of app n there e))) p, tt))
    passes_sound v r p _ e = tt

    puts_sound : (v : Content) (r : ℕ) → has (held v n r) → (a : Act) → step.act ≡ a → AllByRecursion (Sound (held v n r)) (puts hits a n r v)
    puts_sound v r p (act.Put o k x) e =
        let P = Sound (held v n r) in
        each_where P (x == r) (flat_map (put_gives n k r v) (hits (PointsAt n o))) (λ t. each_flat P (put_gives n k r v) (hits (PointsAt n o)) (λ row i.
        let u = (law (PointsAt n o)).under row i in
        subst (λ z. AllByRecursion P (put_gives n k r v z)) (sym u.1) (
          second R has
              (subst (λ z. LocalRule app lists 8 (Points n o u.0 ∷ held v n z ∷ []) (stored v n u.0 k)) (eqb-true x r t) (put_in app lists n v o x k u.0 (act_of app n there e)))
              (at_hit has hits law _ row _ i u.1) p,
          tt,
        )))
    puts_sound v r p _ e = tt

    content_sound : (v : Content) (r : ℕ) → has (held v n r) → AllByRecursion (Sound (held v n r)) (content_alone step n r v)
    content_sound v r p =
        each_append (Sound (held v n r)) (keeps step n r v) (passes step.act step.next step.catches n r v) (keeps_sound v r p) (passes_sound v r p step.act refl)

    object_sound : (r : ℕ) (s : Site) → has (Points n r s) → (a : Act) → step.act ≡ a →
        AllByRecursion (Sound (Points n r s)) (object_gives hits a step.next n r s)
    object_sound r s p (act.Fill xs class) e = each_where (Sound (Points n r s)) (holds xs r) (concludes 6 (of_one (Points n r s)) (Cell (At n) elem_key s) ∷ []) (λ t.
        (one R has (fill_cell r (act_of app n there e) (holds_in r xs t)) p, tt))
    object_sound r s p (act.Get ds o k) e =
        let P = Sound (Points n r s) in
        let f : Row → List Conclusion = got_gives ds step.next n r s in
        each_where P (o == r) (flat_map f (hits (CellsOf s k))) (λ t. each_flat P f (hits (CellsOf s k)) (λ row i.
        let u = (law (CellsOf s k)).under row i in
        subst (λ z. AllByRecursion P (f z)) (sym u.1) (all_sound P 7 (of_two (Points n r s) (Cell s k u.0)) (Object u.0) n step.next ds (λ d pc m j.
        first R has (subst (λ z. LocalRule app lists 7 (Points n z s ∷ Cell s k u.0 ∷ []) (Points (at_pc n pc) d u.0)) (eqb-true o r t) (get_points d (act_of app n there e) m (next_of app n there j))) p (at_hit has hits law _ row _ i u.1)))))
    object_sound r s p (act.Put o k x) e =
        let P = Sound (Points n r s) in
        let f : Row → List Conclusion = put_on_gives n k r s in
        each_where P (o == r) (flat_map f (hits (PointsAt n x)) ++ flat_map f (hits (TaintsAt n x))) (λ t. each_append P (flat_map f (hits (PointsAt n x))) (flat_map f (hits (TaintsAt n x)))
        (each_flat P f (hits (PointsAt n x)) (λ row i.
        let u = (law (PointsAt n x)).under row i in
        subst (λ z. AllByRecursion P (f z)) (sym u.1) (
          first R has
              (subst (λ z. LocalRule app lists 8 (Points n z s ∷ Points n x u.0 ∷ []) (Cell s k u.0)) (eqb-true o r t) (put_cell (act_of app n there e))) p
              (at_hit has hits law _ row _ i u.1),
          tt,
        )))
        (each_flat P f (hits (TaintsAt n x)) (λ row i.
        let u = (law (TaintsAt n x)).under row i in
        subst (λ z. AllByRecursion P (f z)) (sym u.1.1) (
          first R has
              (subst (λ z. LocalRule app lists 8 (Points n z s ∷ Taint n x u.0 u.1.0 ∷ []) (stored (Label u.0 u.1.0) n s k)) (eqb-true o r t) (put_effect (act_of app n there e))) p
              (at_hit has hits law _ row _ i u.1.1),
          tt,
        ))))
    object_sound r s p _ e = tt

    rest_sound : (r : ℕ) (p : Path) (l : ℕ) (ds : List ℕ) (k : KeyId) → has (Taint n r p l) → Acts app n (act.Get ds r k) →
        (o : Option Path) → rest p k ≡ o → AllByRecursion (Sound (Taint n r p l)) (rest_gives o ds step.next n r p l)
    rest_sound r p l ds k h a None e = tt
    rest_sound r p l ds k h a (Some q) e =
        all_sound (Sound (Taint n r p l)) 7 (of_one (Taint n r p l)) (Label q l) n step.next ds
        (λ d pc i j. one R has (get_taint d a i e (next_of app n there j)) h)

    label_sound : (r : ℕ) (p : Path) (l : ℕ) → has (Taint n r p l) → (a : Act) → step.act ≡ a →
        AllByRecursion (Sound (Taint n r p l)) (label_gives a step.next n r p l)
    label_sound r p l h (act.Join ds xs) e = each_where (Sound (Taint n r p l)) (holds xs r && is_bare p) (to_all 4 (of_one (Taint n r p l)) (Label empty_path l) n ds step.next) (λ t.
        let b = and_parts (holds xs r) (is_bare p) t in
        all_sound (Sound (Taint n r p l)) 4 (of_one (Taint n r p l)) (Label empty_path l) n step.next ds (λ d pc i j. one R has (join_taint d r (act_of app n there e) i (holds_in r xs b.0) (bare_is (keys_of p) b.1) (next_of app n there j)) h))
    label_sound r p l h (act.New d class (Some x)) e = each_where (Sound (Taint n r p l)) (x == r && is_bare p) (at_each 5 (of_one (Taint n r p l)) (Label empty_path l) n d step.next) (λ t.
        let b = and_parts (x == r) (is_bare p) t in
        each_sound (Sound (Taint n r p l)) 5 (of_one (Taint n r p l)) (Label empty_path l) n step.next d (λ pc j.
        one R has (subst (λ z. LocalRule app lists 5 (Taint n z p l ∷ []) (Taint (at_pc n pc) d empty_path l)) (eqb-true x r b.0) (new_taint (act_of app n there e) (bare_is (keys_of p) b.1) (next_of app n there j))) h))
    label_sound r p l h (act.Fill xs class) e = each_where (Sound (Taint n r p l)) (holds xs r) (at_each 6 (of_one (Taint n r p l)) (Label (cut elem_key p) l) n result_register step.next) (λ t.
        each_sound (Sound (Taint n r p l)) 6 (of_one (Taint n r p l)) (Label (cut elem_key p) l) n step.next result_register (λ pc j. one R has (fill_taint r (act_of app n there e) (holds_in r xs t) (next_of app n there j)) h))
    label_sound r p l h (act.Get ds o k) e = each_where (Sound (Taint n r p l)) (o == r) (rest_gives (rest p k) ds step.next n r p l) (λ t.
        rest_sound r p l ds k h (subst (λ z. Acts app n (act.Get ds z k)) (eqb-true o r t) (act_of app n there e)) (rest p k) refl)
    label_sound r p l h _ e = tt

    gets_sound : (P : Conclusion → Type 0) (r : ℕ) (s : Site) (k : KeyId) (t : Site) →
        ((x : Row) → LocalRule app lists 7 (Points n r s ∷ Cell s k t ∷ []) x → P (concludes 7 (of_two (Points n r s) (Cell s k t)) x)) → (a : Act) →
        step.act ≡ a → AllByRecursion P (gets a step.next n r s k t)
    gets_sound P r s k t h (act.Get ds o j) e = each_where P (o == r && j.0 == k.0) (to_all 7 (of_two (Points n r s) (Cell s k t)) (Object t) n ds step.next) (λ c.
        let b = and_parts (o == r) (j.0 == k.0) c in
        let own : Acts app n (act.Get ds r k) = subst (λ z. Acts app n (act.Get ds r z)) (key_same j k (eqb-true j.0 k.0 b.1)) (subst (λ z. Acts app n (act.Get ds z j)) (eqb-true o r b.0) (act_of app n there e)) in
        all_sound P 7 (of_two (Points n r s) (Cell s k t)) (Object t) n step.next ds (λ d pc i m. h (Points (at_pc n pc) d t) (get_points d own i (next_of app n there m))))
    gets_sound P r s k t h _ e = tt

  reached_sound : (n : Node) → has (Reached n) → (o : Option Step) → step_here app n ≡ o → AllByRecursion (Sound (Reached n)) (reached_on app lists o hits n)
  reached_sound n p None e = tt
  reached_sound n p (Some step) e =
      let P = Sound (Reached n) in
      each_append P (goes_on step.next n) (goes_on step.catches n ++ (made step.act step.next n ++ statics_got app lists hits step.act step.next n)) (goes_sound n step e p)
      (each_append P (goes_on step.catches n) (made step.act step.next n ++ statics_got app lists hits step.act step.next n) (caught_sound n step e p)
      (each_append P (made step.act step.next n) (statics_got app lists hits step.act step.next n) (made_sound n step e p step.act refl)
      (each_append P (statics_read hits step.act step.next n) (sourced app lists step.act step.next n) (statics_sound n step e p step.act refl) (sources_sound n step e p step.act refl))))

  points_sound : (n : Node) (r : ℕ) (s : Site) → has (Points n r s) → (o : Option Step) → step_here app n ≡ o →
      AllByRecursion (Sound (Points n r s)) (points_on o hits n r s)
  points_sound n r s p None e = tt
  points_sound n r s p (Some step) e =
      let P = Sound (Points n r s) in
      let alone = content_alone step n r (Object s) in
      let object = object_gives hits step.act step.next n r s in
      each_append P (alone ++ object) (puts hits step.act n r (Object s))
      (each_append P alone object (content_sound n step e (Object s) r p) (object_sound n step e r s p step.act refl))
      (puts_sound n step e (Object s) r p step.act refl)

  taint_sound : (n : Node) (r : ℕ) (p : Path) (l : ℕ) → has (Taint n r p l) → (o : Option Step) → step_here app n ≡ o →
      AllByRecursion (Sound (Taint n r p l)) (taint_on o hits n r p l)
  taint_sound n r p l h None e = tt
  taint_sound n r p l h (Some step) e =
      let P = Sound (Taint n r p l) in
      let alone = content_alone step n r (Label p l) in
      let label = label_gives step.act step.next n r p l in
      each_append P (alone ++ label) (puts hits step.act n r (Label p l))
      (each_append P alone label (content_sound n step e (Label p l) r h) (label_sound n step e r p l h step.act refl))
      (puts_sound n step e (Label p l) r h step.act refl)

  reads_on_sound : (P : Conclusion → Type 0) (n : Node) (g : ℕ) (v : Content) →
      ((x : Row) → LocalRule app lists 9 (Reached n ∷ held_static v g ∷ []) x → P (concludes 9 (of_two (Reached n) (held_static v g)) x)) →
      (o : Option Step) → step_here app n ≡ o → AllByRecursion P (reads_on o n g v)
  reads_on_sound P n g v h None e = tt
  reads_on_sound P n g v h (Some step) e = reads_sound n step e P g v h step.act refl

  static_sound : (g : ℕ) (v : Content) → has (held_static v g) → AllByRecursion (Sound (held_static v g)) (static_on app hits g v)
  static_sound g v p =
      let P : Conclusion → Type 0 = Sound (held_static v g) in
      each_flat P (reader_takes app hits g v) (readers_of app g) (λ reader there.
      of_hits has hits law P (ReachedAt reader.method reader.pc) (reader_gives app g v) (λ row i.
      let u = (law (ReachedAt reader.method reader.pc)).under row i in
      (Reached u.0, u.1.1.1, reads_on_sound P u.0 g v (λ x by. second R has by (at_hit has hits law _ row _ i u.1.1.1) p) (step_here app u.0) refl)))

  gets_on_sound : (P : Conclusion → Type 0) (n : Node) (r : ℕ) (s : Site) (k : KeyId) (t : Site) →
      ((x : Row) → LocalRule app lists 7 (Points n r s ∷ Cell s k t ∷ []) x → P (concludes 7 (of_two (Points n r s) (Cell s k t)) x)) →
      (o : Option Step) → step_here app n ≡ o → AllByRecursion P (gets_on o n r s k t)
  gets_on_sound P n r s k t h None e = tt
  gets_on_sound P n r s k t h (Some step) e = gets_sound n step e P r s k t h step.act refl

  cell_sound : (s : Site) (k : KeyId) (t : Site) → has (Cell s k t) → AllByRecursion (Sound (Cell s k t)) (cell_gives app hits s k t)
  cell_sound s k t p =
      let P = Sound (Cell s k t) in (
        one R has cell_back p,
        each_flat P (getter_gives app s k t) (hits (PointsTo s)) (λ row i.
            let u = (law (PointsTo s)).under row i in
            subst (λ z. AllByRecursion P (getter_gives app s k t z)) (sym u.1.1) (gets_on_sound P u.0 u.1.0 s k t (λ x by. second R has by (at_hit has hits law _ row _ i u.1.1) p) (step_here app u.0) refl)),
      )

  pub step_sound : (row : Row) → has row → AllByRecursion (Sound row) (step_given app lists hits row)
  step_sound (Reached n) p = reached_sound n p (step_here app n) refl
  step_sound (Points n r s) p = points_sound n r s p (step_here app n) refl
  step_sound (Taint n r q l) p = taint_sound n r q l p (step_here app n) refl
  step_sound (Cell s k t) p = cell_sound s k t p
  step_sound (StaticPoints g s) p = static_sound g (Object s) p
  step_sound (StaticTaint g q l) p = static_sound g (Label q l) p
  step_sound _ p = tt

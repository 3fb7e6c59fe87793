-- What is listed follows.
use Rattle.std.proofs.Common.{◌≡◌, ◌==◌, ◌&&◌, ℕ, List, [], ◌∷◌, ◌++◌, Option, Some, None, flat_map, eqb-true, refl, sym, ap, subst, inl, inr}
use Rattle.std.proofs.lemmas.Bool.{and_parts}
use Rattle.std.specs.List.{AllByRecursion}
use Rattle.vet_base.specs.declared.key_id.KeyId.{KeyId}
use Rattle.app_machine.specs.declared.method.Act.{Act}
use Rattle.app_machine.specs.declared.method.Act.TheVariants as act
use Rattle.app_machine.specs.declared.method.Step.{Step}
use Rattle.app_machine.specs.declared.lists.Lists.{Lists}
use Rattle.app_machine.specs.declared.app.App.{App}
use Rattle.app_machine.specs.Lookups.{elem_key}
use Rattle.app_machine.specs.Summaries.{static_source}
use Rattle.app_machine.specs.State.{result_register, exception_register, holds}
use Rattle.fact_rows.specs.declared.context.Node.{Node}
use Rattle.fact_rows.specs.declared.site.Site.{Site}
use Rattle.fact_rows.specs.declared.row.Row.{Row}
use Rattle.fact_rows.specs.declared.row.Row.TheVariants as fact
use Rattle.flow_rules.specs.Nodes.{at_pc, Acts}
use Rattle.flow_rules.specs.LocalRules.{returning, throwing}
use Rattle.rule_ground.specs.declared.conclusion.Conclusion.{Conclusion}
use Rattle.rule_ground.specs.declared.key.Key.{Key}
use Rattle.rule_ground.specs.declared.key.Key.TheVariants.{PointsAt, PointsTo, CellsOf, BacksOf, StaticPointsOf, ReachedAt, LabelsAt, StaticLabelsOf, CellLabelsOf, HoldsOf}
use Rattle.rule_ground.specs.Given.{of_one, of_two, concludes}
use Rattle.rule_ground.specs.Hits.{IsHits}
use Rattle.rule_ground.specs.Exact.{IsSound}
use Rattle.rule_ground.specs.Listing.{one, first, second, holds_in, at_hit, of_hits}
use Rattle.vet_base.proofs.Every.{each_append, each_flat, each_where}
use Rattle.app_index.specs.Readers.{readers_of}
use Rattle.register_readers.specs.Readings.{Readings}
use Rattle.cell_rules.specs.LocalRules.{join_label, new_points, new_label, fill_points, fill_cell, fill_label, put_label, get_static_source, put_static_label, throw_exit_label, return_label}
use Rattle.cell_rules.specs.HeapRules.{cell_holds, lift_holds}
use Rattle.cell_rules.specs.Making.{made_at}
use Rattle.cell_ground.specs.declared.content.Content.{Content}
use Rattle.cell_ground.specs.declared.content.Content.TheVariants.{Object, Label}
use Rattle.cell_ground.specs.Coming.{held, held_static, stored, coming, coming_to_all}
use Rattle.cell_ground.specs.ComingListed.{coming_sound, coming_all_sound}
use Rattle.cell_ground.specs.Ready.{Ready}
use Rattle.cell_ground.specs.Steps.{step_here, act_of, next_of, catch_of}
use Rattle.cell_step_rules.specs.CellStepGiven.{StepRule, put_on_gives, put_gives, puts, lifts, holds_on, holder_gives, back_on, label_gives, reads, reads_on, static_gives, statics_read, source_gives, passes, got_gives, gets, gets_on, label_comes, made, reader_gives, reader_takes, static_on, sourced, reached_on, object_gives, points_on, label_leaves, label_on, getter_gives, cell_on, cell_step_given}
use Rattle.cell_step_rules.specs.Lifted.{moved, resulted, excepted, got, from_static, threw}

key_same : (j k : KeyId) → j.0 ≡ k.0 → j ≡ k
key_same j k e = let make : ℕ → KeyId = λ z. record { 0 = z } in ap make e

module _ (app : App) (readings : Readings) (ready : Ready app readings) (lists : Lists) (has : Row → Type 0) (hits : Key → List Row) (law : (k : Key) → IsHits has k (hits k)) where
  abbrev R : ℕ → List Row → Row → Type 0
  R = StepRule app lists

  abbrev Sound : Row → Conclusion → Type 0
  Sound row = IsSound (StepRule app lists) has row

  module _ (n : Node) (step : Step) (there : step_here app n ≡ Some step) where
    made_sound : has (fact.Reached n) → (a : Act) → step.act ≡ a → AllByRecursion (Sound (fact.Reached n)) (made app readings a step.next n)
    made_sound p (act.New d class size) e =
        coming_sound app readings ready (Sound (fact.Reached n)) 5 (of_one (fact.Reached n)) (Object (made_at app n)) n step.next d
        (λ pc u i w. one R has (inl (new_points (act_of app n there e) (next_of app n there i) w)) p)
    made_sound p (act.Fill xs class) e =
        coming_sound app readings ready (Sound (fact.Reached n)) 5 (of_one (fact.Reached n)) (Object (made_at app n)) n step.next result_register
        (λ pc u i w. one R has (inl (fill_points (act_of app n there e) (next_of app n there i) w)) p)
    made_sound p _ e = tt

    reads_sound : (P : Conclusion → Type 0) (g : ℕ) (v : Content) →
        ((x : Row) → StepRule app lists 9 (fact.Reached n ∷ held_static v g ∷ []) x → P (concludes 9 (of_two (fact.Reached n) (held_static v g)) x)) →
        (a : Act) → step.act ≡ a → AllByRecursion P (reads readings a step.next n g v)
    reads_sound P g v h (act.GetStatic ds f) e = each_where P (f == g) (coming_to_all readings 9 (of_two (fact.Reached n) (held_static v g)) v n ds step.next) (λ t.
        let same : f ≡ g = eqb-true f g t in
        let own : Acts app n (act.GetStatic ds g) = subst (λ z. Acts app n (act.GetStatic ds z)) same (act_of app n there e) in
        coming_all_sound app readings ready P 9 (of_two (fact.Reached n) (held_static v g)) v n step.next ds
        (λ d pc u i j w. h (held v (at_pc n u) d) (from_static app lists n v pc g d u ds own i (next_of app n there j) w)))
    reads_sound P g v h _ e = tt

    statics_sound : has (fact.Reached n) → (a : Act) → step.act ≡ a → AllByRecursion (Sound (fact.Reached n)) (statics_read readings hits a step.next n)
    statics_sound p (act.GetStatic ds g) e =
        let P = Sound (fact.Reached n) in
        let f : Row → List Conclusion = static_gives readings (act.GetStatic ds g) step.next n in
        each_append P (flat_map f (hits (StaticPointsOf g))) (flat_map f (hits (StaticLabelsOf g)))
        (each_flat P f (hits (StaticPointsOf g)) (λ row i.
        let u = (law (StaticPointsOf g)).under row i in
        subst (λ z. AllByRecursion P (f z)) (sym u.1) (reads_sound P g (Object u.0) (λ x by. first R has by p (at_hit has hits law _ row _ i u.1)) (act.GetStatic ds g) e)))
        (each_flat P f (hits (StaticLabelsOf g)) (λ row i.
        let u = (law (StaticLabelsOf g)).under row i in
        subst (λ z. AllByRecursion P (f z)) (sym u.1) (reads_sound P g (Label u.0) (λ x by. first R has by p (at_hit has hits law _ row _ i u.1)) (act.GetStatic ds g) e)))
    statics_sound p _ e = tt

    source_sound : has (fact.Reached n) → (ds : List ℕ) (g : ℕ) → step.act ≡ act.GetStatic ds g → (o : Option ℕ) → static_source app lists g ≡ o →
        AllByRecursion (Sound (fact.Reached n)) (source_gives readings o ds step.next n)
    source_sound p ds g e None is = tt
    source_sound p ds g e (Some l) is =
        coming_all_sound app readings ready (Sound (fact.Reached n)) 9 (of_one (fact.Reached n)) (Label l) n step.next ds
        (λ d pc u i j w. one R has (inl (get_static_source d (act_of app n there e) i is (next_of app n there j) w)) p)

    sources_sound : has (fact.Reached n) → (a : Act) → step.act ≡ a → AllByRecursion (Sound (fact.Reached n)) (sourced app readings lists a step.next n)
    sources_sound p (act.GetStatic ds g) e = source_sound p ds g e (static_source app lists g) refl
    sources_sound p _ e = tt

    passes_sound : (v : Content) (r : ℕ) → has (held v n r) → (a : Act) → step.act ≡ a →
        AllByRecursion (Sound (held v n r)) (passes readings a step.next step.catches n r v)
    passes_sound v r p (act.Move ds x) e = each_where (Sound (held v n r)) (x == r) (coming_to_all readings 3 (of_one (held v n r)) v n ds step.next) (λ t.
        coming_all_sound app readings ready (Sound (held v n r)) 3 (of_one (held v n r)) v n step.next ds (λ d pc u i j w.
        one R has (subst (λ z. StepRule app lists 3 (held v n z ∷ []) (held v (at_pc n u) d)) (eqb-true x r t) (moved app lists n v pc x d u ds (act_of app n there e) i (next_of app n there j) w)) p))
    passes_sound v r p (act.TakeResult ds) e = each_where (Sound (held v n r)) (r == result_register) (coming_to_all readings 3 (of_one (held v n r)) v n ds step.next) (λ t.
        coming_all_sound app readings ready (Sound (held v n r)) 3 (of_one (held v n r)) v n step.next ds (λ d pc u i j w.
        one R has (subst (λ z. StepRule app lists 3 (held v n z ∷ []) (held v (at_pc n u) d)) (sym (eqb-true r result_register t)) (resulted app lists n v pc d u ds (act_of app n there e) i (next_of app n there j) w)) p))
    passes_sound v r p (act.TakeException d) e = each_where (Sound (held v n r)) (r == exception_register) (coming readings 3 (of_one (held v n r)) v n d step.next) (λ t.
        coming_sound app readings ready (Sound (held v n r)) 3 (of_one (held v n r)) v n step.next d (λ pc u j w.
        one R has (subst (λ z. StepRule app lists 3 (held v n z ∷ []) (held v (at_pc n u) d)) (sym (eqb-true r exception_register t)) (excepted app lists n v pc d u (act_of app n there e) (next_of app n there j) w)) p))
    passes_sound v r p (act.Throw x) e = each_where (Sound (held v n r)) (x == r) (coming readings 11 (of_one (held v n r)) v n exception_register step.catches) (λ t.
        coming_sound app readings ready (Sound (held v n r)) 11 (of_one (held v n r)) v n step.catches exception_register (λ pc u j w.
        one R has (subst (λ z. StepRule app lists 11 (held v n z ∷ []) (held v (at_pc n u) exception_register)) (eqb-true x r t) (threw app lists n v pc x u (act_of app n there e) (catch_of app n there j) w)) p))
    passes_sound v r p _ e = tt

    puts_sound : (r l : ℕ) → has (fact.Label n r l) → (a : Act) → step.act ≡ a → AllByRecursion (Sound (fact.Label n r l)) (puts hits a n r l)
    puts_sound r l p (act.Put o k x) e =
        let P = Sound (fact.Label n r l) in
        each_where P (x == r) (flat_map (put_gives n k r l) (hits (PointsAt n o))) (λ t. each_flat P (put_gives n k r l) (hits (PointsAt n o)) (λ row i.
        let u = (law (PointsAt n o)).under row i in
        subst (λ z. AllByRecursion P (put_gives n k r l z)) (sym u.1) (
          second R has
              (subst (λ z. StepRule app lists 8 (fact.Points n o u.0 ∷ fact.Label n z l ∷ []) (fact.CellLabel u.0 k l)) (eqb-true x r t) (inl (put_label (act_of app n there e))))
              (at_hit has hits law _ row _ i u.1) p,
          tt,
        )))
    puts_sound r l p _ e = tt

    object_sound : (r : ℕ) (s : Site) → has (fact.Points n r s) → (a : Act) → step.act ≡ a →
        AllByRecursion (Sound (fact.Points n r s)) (object_gives app readings hits a step.next n r s)
    object_sound r s p (act.Fill xs class) e =
        each_where (Sound (fact.Points n r s)) (holds xs r) (concludes 6 (of_one (fact.Points n r s)) (fact.Cell (made_at app n) elem_key s) ∷ []) (λ t.
        (one R has (inl (fill_cell r (act_of app n there e) (holds_in r xs t))) p, tt))
    object_sound r s p (act.Get ds o k) e =
        let P = Sound (fact.Points n r s) in
        let f : Row → List Conclusion = got_gives readings ds step.next n r s in
        each_where P (o == r) (flat_map f (hits (CellsOf s k)) ++ flat_map f (hits (CellLabelsOf s k))) (λ t.
        let own : Acts app n (act.Get ds r k) = subst (λ z. Acts app n (act.Get ds z k)) (eqb-true o r t) (act_of app n there e) in
        each_append P (flat_map f (hits (CellsOf s k))) (flat_map f (hits (CellLabelsOf s k)))
        (each_flat P f (hits (CellsOf s k)) (λ row i.
        let u = (law (CellsOf s k)).under row i in
        subst (λ z. AllByRecursion P (f z)) (sym u.1) (coming_all_sound app readings ready P 7 (of_two (fact.Points n r s) (fact.Cell s k u.0)) (Object u.0) n step.next ds (λ d pc v m j w.
        first R has (got app lists n (Object u.0) pc r d v ds k s own m (next_of app n there j) w) p (at_hit has hits law _ row _ i u.1)))))
        (each_flat P f (hits (CellLabelsOf s k)) (λ row i.
        let u = (law (CellLabelsOf s k)).under row i in
        subst (λ z. AllByRecursion P (f z)) (sym u.1) (coming_all_sound app readings ready P 7 (of_two (fact.Points n r s) (fact.CellLabel s k u.0)) (Label u.0) n step.next ds (λ d pc v m j w.
        first R has (got app lists n (Label u.0) pc r d v ds k s own m (next_of app n there j) w) p (at_hit has hits law _ row _ i u.1))))))
    object_sound r s p (act.Put o k x) e =
        let P = Sound (fact.Points n r s) in
        let f : Row → List Conclusion = put_on_gives n k r s in
        each_where P (o == r) (flat_map f (hits (LabelsAt n x))) (λ t. each_flat P f (hits (LabelsAt n x)) (λ row i.
        let u = (law (LabelsAt n x)).under row i in
        subst (λ z. AllByRecursion P (f z)) (sym u.1) (
          first R has
              (subst (λ z. StepRule app lists 8 (fact.Points n z s ∷ fact.Label n x u.0 ∷ []) (fact.CellLabel s k u.0)) (eqb-true o r t) (inl (put_label (act_of app n there e)))) p
              (at_hit has hits law _ row _ i u.1),
          tt,
        )))
    object_sound r s p _ e = tt

    comes_sound : (r l : ℕ) → has (fact.Label n r l) → (a : Act) → step.act ≡ a → AllByRecursion (Sound (fact.Label n r l)) (label_comes readings a step.next n r l)
    comes_sound r l h (act.Join ds xs) e = each_where (Sound (fact.Label n r l)) (holds xs r) (coming_to_all readings 4 (of_one (fact.Label n r l)) (Label l) n ds step.next) (λ t.
        coming_all_sound app readings ready (Sound (fact.Label n r l)) 4 (of_one (fact.Label n r l)) (Label l) n step.next ds
        (λ d pc u i j w. one R has (inl (join_label d r (act_of app n there e) i (holds_in r xs t) (next_of app n there j) w)) h))
    comes_sound r l h (act.New d class (Some x)) e = each_where (Sound (fact.Label n r l)) (x == r) (coming readings 5 (of_one (fact.Label n r l)) (Label l) n d step.next) (λ t.
        coming_sound app readings ready (Sound (fact.Label n r l)) 5 (of_one (fact.Label n r l)) (Label l) n step.next d (λ pc u j w.
        one R has (subst (λ z. StepRule app lists 5 (fact.Label n z l ∷ []) (fact.Label (at_pc n u) d l)) (eqb-true x r t) (inl (new_label (act_of app n there e) (next_of app n there j) w))) h))
    comes_sound r l h _ e = tt

    leaves_sound : (r l : ℕ) → has (fact.Label n r l) → (a : Act) → step.act ≡ a → AllByRecursion (Sound (fact.Label n r l)) (label_leaves app a n r l)
    leaves_sound r l h (act.Fill xs class) e = each_where (Sound (fact.Label n r l)) (holds xs r) (label_gives n r l 6 (fact.CellLabel (made_at app n) elem_key l) ∷ []) (λ t.
        (one R has (inl (fill_label r (act_of app n there e) (holds_in r xs t))) h, tt))
    leaves_sound r l h (act.PutStatic g x) e = each_where (Sound (fact.Label n r l)) (x == r) (label_gives n r l 10 (fact.StaticLabel g l) ∷ []) (λ t.
        (one R has (subst (λ z. StepRule app lists 10 (fact.Label n z l ∷ []) (fact.StaticLabel g l)) (eqb-true x r t) (inl (put_static_label (act_of app n there e)))) h, tt))
    leaves_sound r l h (act.Throw x) e = each_where (Sound (fact.Label n r l)) (x == r) (label_gives n r l 11 (fact.ExitLabel n.by throwing l) ∷ []) (λ t.
        (one R has (subst (λ z. StepRule app lists 11 (fact.Label n z l ∷ []) (fact.ExitLabel n.by throwing l)) (eqb-true x r t) (inl (throw_exit_label (act_of app n there e)))) h, tt))
    leaves_sound r l h (act.Return (Some x)) e = each_where (Sound (fact.Label n r l)) (x == r) (label_gives n r l 12 (fact.ExitLabel n.by returning l) ∷ []) (λ t.
        (one R has (subst (λ z. StepRule app lists 12 (fact.Label n z l ∷ []) (fact.ExitLabel n.by returning l)) (eqb-true x r t) (inl (return_label (act_of app n there e)))) h, tt))
    leaves_sound r l h _ e = tt

    gets_sound : (P : Conclusion → Type 0) (r : ℕ) (s : Site) (k : KeyId) (v : Content) →
        ((x : Row) → StepRule app lists 7 (fact.Points n r s ∷ stored v s k ∷ []) x → P (concludes 7 (of_two (fact.Points n r s) (stored v s k)) x)) → (a : Act) →
        step.act ≡ a → AllByRecursion P (gets readings a step.next n r s s k v)
    gets_sound P r s k v h (act.Get ds o j) e = each_where P (o == r && j.0 == k.0) (coming_to_all readings 7 (of_two (fact.Points n r s) (stored v s k)) v n ds step.next) (λ c.
        let b = and_parts (o == r) (j.0 == k.0) c in
        let own : Acts app n (act.Get ds r k) = subst (λ z. Acts app n (act.Get ds r z)) (key_same j k (eqb-true j.0 k.0 b.1)) (subst (λ z. Acts app n (act.Get ds z j)) (eqb-true o r b.0) (act_of app n there e)) in
        coming_all_sound app readings ready P 7 (of_two (fact.Points n r s) (stored v s k)) v n step.next ds
        (λ d pc u i m w. h (held v (at_pc n u) d) (got app lists n v pc r d u ds k s own i (next_of app n there m) w)))
    gets_sound P r s k v h _ e = tt

  reached_sound : (n : Node) → has (fact.Reached n) → (o : Option Step) → step_here app n ≡ o →
      AllByRecursion (Sound (fact.Reached n)) (reached_on app readings lists o hits n)
  reached_sound n p None e = tt
  reached_sound n p (Some step) e =
      let P = Sound (fact.Reached n) in
      each_append P (made app readings step.act step.next n) (statics_read readings hits step.act step.next n ++ sourced app readings lists step.act step.next n)
      (made_sound n step e p step.act refl)
      (each_append P (statics_read readings hits step.act step.next n) (sourced app readings lists step.act step.next n)
      (statics_sound n step e p step.act refl) (sources_sound n step e p step.act refl))

  points_sound : (n : Node) (r : ℕ) (s : Site) → has (fact.Points n r s) → (o : Option Step) → step_here app n ≡ o →
      AllByRecursion (Sound (fact.Points n r s)) (points_on app readings o hits n r s)
  points_sound n r s p None e = tt
  points_sound n r s p (Some step) e =
      each_append (Sound (fact.Points n r s)) (passes readings step.act step.next step.catches n r (Object s)) (object_gives app readings hits step.act step.next n r s)
      (passes_sound n step e (Object s) r p step.act refl) (object_sound n step e r s p step.act refl)

  labels_sound : (n : Node) (r l : ℕ) → has (fact.Label n r l) → (o : Option Step) → step_here app n ≡ o →
      AllByRecursion (Sound (fact.Label n r l)) (label_on app readings o hits n r l)
  labels_sound n r l h None e = tt
  labels_sound n r l h (Some step) e =
      let P = Sound (fact.Label n r l) in
      let passed = passes readings step.act step.next step.catches n r (Label l) in
      let come = label_comes readings step.act step.next n r l in
      let leave = label_leaves app step.act n r l in
      each_append P (passed ++ (come ++ leave)) (puts hits step.act n r l)
      (each_append P passed (come ++ leave) (passes_sound n step e (Label l) r h step.act refl)
      (each_append P come leave (comes_sound n step e r l h step.act refl) (leaves_sound n step e r l h step.act refl)))
      (puts_sound n step e r l h step.act refl)

  reads_on_sound : (P : Conclusion → Type 0) (n : Node) (g : ℕ) (v : Content) →
      ((x : Row) → StepRule app lists 9 (fact.Reached n ∷ held_static v g ∷ []) x → P (concludes 9 (of_two (fact.Reached n) (held_static v g)) x)) →
      (o : Option Step) → step_here app n ≡ o → AllByRecursion P (reads_on readings o n g v)
  reads_on_sound P n g v h None e = tt
  reads_on_sound P n g v h (Some step) e = reads_sound n step e P g v h step.act refl

  static_sound : (g : ℕ) (v : Content) → has (held_static v g) → AllByRecursion (Sound (held_static v g)) (static_on app readings hits g v)
  static_sound g v p =
      let P : Conclusion → Type 0 = Sound (held_static v g) in
      each_flat P (reader_takes app readings hits g v) (readers_of app g) (λ reader there.
      of_hits has hits law P (ReachedAt reader.method reader.pc) (reader_gives app readings g v) (λ row i.
      let u = (law (ReachedAt reader.method reader.pc)).under row i in
      (fact.Reached u.0, u.1.1.1, reads_on_sound P u.0 g v (λ x by. second R has by (at_hit has hits law _ row _ i u.1.1.1) p) (step_here app u.0) refl)))

  gets_on_sound : (P : Conclusion → Type 0) (n : Node) (r : ℕ) (s : Site) (k : KeyId) (v : Content) →
      ((x : Row) → StepRule app lists 7 (fact.Points n r s ∷ stored v s k ∷ []) x → P (concludes 7 (of_two (fact.Points n r s) (stored v s k)) x)) →
      (o : Option Step) → step_here app n ≡ o → AllByRecursion P (gets_on readings o n r s s k v)
  gets_on_sound P n r s k v h None e = tt
  gets_on_sound P n r s k v h (Some step) e = gets_sound n step e P r s k v h step.act refl

  cell_sound : (s : Site) (k : KeyId) (v : Content) → has (stored v s k) → AllByRecursion (Sound (stored v s k)) (cell_on app readings hits s k v)
  cell_sound s k v p =
      let P : Conclusion → Type 0 = Sound (stored v s k) in
      of_hits has hits law P (PointsTo s) (getter_gives app readings s k v) (λ row i.
      let u = (law (PointsTo s)).under row i in
      (fact.Points u.0 u.1.0 s, u.1.1, gets_on_sound P u.0 u.1.0 s k v (λ x by. second R has by (at_hit has hits law _ row _ i u.1.1) p) (step_here app u.0) refl))

  -- 14
  holds_sound : (t : Site) (l : ℕ) → has (fact.Holds t l) → AllByRecursion (Sound (fact.Holds t l)) (holds_on hits t l)
  holds_sound t l p =
      let P : Conclusion → Type 0 = Sound (fact.Holds t l) in
      of_hits has hits law P (BacksOf t) (lifts t l) (λ row i.
      let u = (law (BacksOf t)).under row i in
      (fact.Back t u.0 u.1.0, u.1.1, (first R has (inr lift_holds) p (at_hit has hits law _ row _ i u.1.1), tt)))

  back_sound : (t : Site) (k : KeyId) (s : Site) → has (fact.Back t k s) → AllByRecursion (Sound (fact.Back t k s)) (back_on hits t k s)
  back_sound t k s p =
      let P : Conclusion → Type 0 = Sound (fact.Back t k s) in
      of_hits has hits law P (HoldsOf t) (holder_gives t k s) (λ row i.
      let u = (law (HoldsOf t)).under row i in
      (fact.Holds t u.0, u.1, (second R has (inr lift_holds) (at_hit has hits law _ row _ i u.1) p, tt)))

  pub step_sound : (row : Row) → has row → AllByRecursion (Sound row) (cell_step_given app readings lists hits row)
  step_sound (fact.Reached n) p = reached_sound n p (step_here app n) refl
  step_sound (fact.Points n r s) p = points_sound n r s p (step_here app n) refl
  step_sound (fact.Label n r l) p = labels_sound n r l p (step_here app n) refl
  step_sound (fact.Cell s k t) p = cell_sound s k (Object t) p
  step_sound (fact.CellLabel s k l) p = (one R has (inr cell_holds) p, cell_sound s k (Label l) p)
  step_sound (fact.StaticPoints g s) p = static_sound g (Object s) p
  step_sound (fact.StaticLabel g l) p = static_sound g (Label l) p
  step_sound (fact.Holds t l) p = holds_sound t l p
  step_sound (fact.Back t k s) p = back_sound t k s p
  step_sound _ p = tt

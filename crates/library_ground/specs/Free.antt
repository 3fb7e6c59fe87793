-- What is concluded of rows that may be known already.
use Rattle.std.proofs.Common.{◌≡◌, ℕ, true, false, ◌||◌, List, Option, Some, None, flat_map, is_some, refl, sym, subst, ◌∙◌}
use Rattle.std.specs.List.{AllByRecursion}
use Rattle.std.proofs.lemmas.Bool.{or_left, or_right}
use Rattle.vet_base.specs.Members.{In}
use Rattle.vet_base.proofs.Members.{in_front, in_back, in_flat}
use Rattle.vet_base.proofs.Every.{each_append, each_flat}
use Rattle.access_path.specs.declared.path.Path.{Path}
use Rattle.app_machine.specs.Lookups.{elem_key}
use Rattle.fact_rows.specs.declared.context.Node.{Node}
use Rattle.fact_rows.specs.declared.site.Site.{Site}
use Rattle.fact_rows.specs.declared.row.Row.{Row}
use Rattle.fact_rows.specs.declared.row.Row.TheVariants.{Points, Taint, Cell}
use Rattle.rule_ground.specs.declared.conclusion.Conclusion.{Conclusion}
use Rattle.rule_ground.specs.declared.content.Content.{Content}
use Rattle.rule_ground.specs.declared.content.Content.TheVariants.{Object, Label}
use Rattle.rule_ground.specs.declared.key.Key.{Key}
use Rattle.rule_ground.specs.declared.key.Key.TheVariants.{PointsAt, TaintsAt, CellsOf}
use Rattle.rule_ground.specs.Asking.{asks, under_asked}
use Rattle.rule_ground.specs.Candidates.{candidates, IsPinned, candidate_is, candidate_in}
use Rattle.rule_ground.specs.Given.{held}
use Rattle.rule_ground.specs.Hits.{IsHits}
use Rattle.library_ground.specs.Pinning.{may_stand, values_give}

pub pinned : (P Q : Row → Type 0) → ((z : Row) → P z → Q z) → (pin : Option Row) → IsPinned P pin → IsPinned Q pin
pinned P Q f None h = tt
pinned P Q f (Some z) h = f z h

-- of a row that is not known nothing is asked
pub unpinned : (P : Row → Type 0) (pin : Option Row) → is_some pin ≡ false → IsPinned P pin
unpinned P None e = tt
unpinned P (Some z) e = absurd cc

-- the row is the one that is known, where one is
abbrev pub IsThat : Option Row → Row → Type 0
IsThat pin row = IsPinned (λ z. row ≡ z) pin

that_is : (pin : Option Row) (row other : Row) → row ≡ other → IsThat pin row → IsThat pin other
that_is pin row other e h = pinned (λ z. row ≡ z) (λ z. other ≡ z) (λ z k. sym e ∙ k) pin h

pub may_hold : (pin : Option Row) (n : Node) (x : ℕ) (v : Content) → IsThat pin (held v n x) → may_stand pin n x ≡ true
may_hold None n x v h = refl
may_hold (Some z) n x (Object s) h =
    subst (λ w. asks (PointsAt n x) w || asks (TaintsAt n x) w ≡ true) h
    (or_left (asks (PointsAt n x) (Points n x s)) (asks (TaintsAt n x) (Points n x s)) (under_asked (PointsAt n x) (Points n x s) (s, refl)))
may_hold (Some z) n x (Label p l) h =
    subst (λ w. asks (PointsAt n x) w || asks (TaintsAt n x) w ≡ true) h
    (or_right (asks (PointsAt n x) (Taint n x p l)) (asks (TaintsAt n x) (Taint n x p l)) (under_asked (TaintsAt n x) (Taint n x p l) (p, (l, refl))))

module _ (has : Row → Type 0) (hits : Key → List Row) (law : (key : Key) → IsHits has key (hits key)) (pin : Option Row) where
  -- objects of a register, its labels, and what an object holds as an element
  pub each_object : IsPinned has pin → (P : Conclusion → Type 0) (f : Row → List Conclusion) (n : Node) (x : ℕ) →
      ((s : Site) → has (Points n x s) → IsThat pin (Points n x s) → AllByRecursion P (f (Points n x s))) →
      AllByRecursion P (flat_map f (candidates hits pin (PointsAt n x)))
  each_object there P f n x h = each_flat P f (candidates hits pin (PointsAt n x)) (λ row i.
      let a = candidate_is has hits law pin there (PointsAt n x) row i in
      subst (λ z. AllByRecursion P (f z)) (sym a.1.1) (h a.1.0 (subst has a.1.1 a.0) (that_is pin row (Points n x a.1.0) a.1.1 a.2)))

  pub each_label : IsPinned has pin → (P : Conclusion → Type 0) (f : Row → List Conclusion) (n : Node) (x : ℕ) →
      ((p : Path) (l : ℕ) → has (Taint n x p l) → IsThat pin (Taint n x p l) → AllByRecursion P (f (Taint n x p l))) →
      AllByRecursion P (flat_map f (candidates hits pin (TaintsAt n x)))
  each_label there P f n x h = each_flat P f (candidates hits pin (TaintsAt n x)) (λ row i.
      let a = candidate_is has hits law pin there (TaintsAt n x) row i in
      subst (λ z. AllByRecursion P (f z)) (sym a.1.1.1) (h a.1.0 a.1.1.0 (subst has a.1.1.1 a.0) (that_is pin row (Taint n x a.1.0 a.1.1.0) a.1.1.1 a.2)))

  pub each_element : IsPinned has pin → (P : Conclusion → Type 0) (f : Row → List Conclusion) (s : Site) →
      ((t : Site) → has (Cell s elem_key t) → IsThat pin (Cell s elem_key t) → AllByRecursion P (f (Cell s elem_key t))) →
      AllByRecursion P (flat_map f (candidates hits pin (CellsOf s elem_key)))
  each_element there P f s h = each_flat P f (candidates hits pin (CellsOf s elem_key)) (λ row i.
      let a = candidate_is has hits law pin there (CellsOf s elem_key) row i in
      subst (λ z. AllByRecursion P (f z)) (sym a.1.1) (h a.1.0 (subst has a.1.1 a.0) (that_is pin row (Cell s elem_key a.1.0) a.1.1 a.2)))

  pub each_value : IsPinned has pin → (P : Conclusion → Type 0) (f : Row → List Conclusion) (n : Node) (x : ℕ) →
      ((v : Content) → has (held v n x) → IsThat pin (held v n x) → AllByRecursion P (f (held v n x))) →
      AllByRecursion P (values_give hits pin n x f)
  each_value there P f n x h =
      each_append P (flat_map f (candidates hits pin (PointsAt n x))) (flat_map f (candidates hits pin (TaintsAt n x)))
      (each_object there P f n x (λ s. h (Object s))) (each_label there P f n x (λ p l. h (Label p l)))

  pub in_objects : (c : Conclusion) (f : Row → List Conclusion) (n : Node) (x : ℕ) (s : Site) → has (Points n x s) →
      IsThat pin (Points n x s) → In c (f (Points n x s)) → In c (flat_map f (candidates hits pin (PointsAt n x)))
  in_objects c f n x s there same i =
      in_flat f (candidates hits pin (PointsAt n x)) (Points n x s) c
      (candidate_in has hits law pin (PointsAt n x) (Points n x s) there (s, refl) same) i

  pub in_labels : (c : Conclusion) (f : Row → List Conclusion) (n : Node) (x : ℕ) (p : Path) (l : ℕ) → has (Taint n x p l) →
      IsThat pin (Taint n x p l) → In c (f (Taint n x p l)) → In c (flat_map f (candidates hits pin (TaintsAt n x)))
  in_labels c f n x p l there same i =
      in_flat f (candidates hits pin (TaintsAt n x)) (Taint n x p l) c
      (candidate_in has hits law pin (TaintsAt n x) (Taint n x p l) there (p, (l, refl)) same) i

  pub in_elements : (c : Conclusion) (f : Row → List Conclusion) (s t : Site) → has (Cell s elem_key t) →
      IsThat pin (Cell s elem_key t) → In c (f (Cell s elem_key t)) → In c (flat_map f (candidates hits pin (CellsOf s elem_key)))
  in_elements c f s t there same i =
      in_flat f (candidates hits pin (CellsOf s elem_key)) (Cell s elem_key t) c
      (candidate_in has hits law pin (CellsOf s elem_key) (Cell s elem_key t) there (t, refl) same) i

  pub in_values : (c : Conclusion) (f : Row → List Conclusion) (n : Node) (x : ℕ) (v : Content) → has (held v n x) →
      IsThat pin (held v n x) → In c (f (held v n x)) → In c (values_give hits pin n x f)
  in_values c f n x (Object s) there same i =
      in_front c (flat_map f (candidates hits pin (PointsAt n x))) (flat_map f (candidates hits pin (TaintsAt n x)))
      (in_objects c f n x s there same i)
  in_values c f n x (Label p l) there same i =
      in_back c (flat_map f (candidates hits pin (PointsAt n x))) (flat_map f (candidates hits pin (TaintsAt n x)))
      (in_labels c f n x p l there same i)

-- The values of a register, what they are known to hold, and what is concluded of each.
use Rattle.std.proofs.Common.{◌≡◌, ℕ, Bool, true, ◌||◌, List, ◌++◌, Option, Some, None, flat_map, refl, sym, subst, ◌∙◌}
use Rattle.std.specs.List.{AllByRecursion}
use Rattle.std.proofs.lemmas.Bool.{or_left, or_right}
use Rattle.vet_base.specs.Members.{In}
use Rattle.vet_base.proofs.Members.{in_front, in_back, in_flat}
use Rattle.vet_base.proofs.Every.{each_append, each_flat}
use Rattle.app_machine.specs.Lookups.{elem_key}
use Rattle.fact_rows.specs.declared.context.Node.{Node}
use Rattle.fact_rows.specs.declared.site.Site.{Site}
use Rattle.fact_rows.specs.declared.row.Row.{Row}
use Rattle.fact_rows.specs.declared.row.Row.TheVariants as fact
use Rattle.rule_ground.specs.declared.conclusion.Conclusion.{Conclusion}
use Rattle.rule_ground.specs.declared.key.Key.{Key}
use Rattle.rule_ground.specs.declared.key.Key.TheVariants.{PointsAt, LabelsAt, CellLabelsOf, HoldsOf}
use Rattle.rule_ground.specs.Asking.{asks, under_asked}
use Rattle.rule_ground.specs.Candidates.{candidates, IsPinned, candidate_is, candidate_in}
use Rattle.rule_ground.specs.Hits.{Under, IsHits}
use Rattle.library_ground.specs.Free.{IsThat, pinned, each_object, in_objects}
use Rattle.cell_ground.specs.declared.content.Content.{Content}
use Rattle.cell_ground.specs.declared.content.Content.TheVariants.{Object, Label}
use Rattle.cell_ground.specs.Coming.{held}

-- whether the register may be that of the row that is known
abbrev pub may_stand : Option Row → Node → ℕ → Bool
may_stand None n x = true
may_stand (Some row) n x = asks (PointsAt n x) row || asks (LabelsAt n x) row

abbrev pub values_give : (Key → List Row) → Option Row → Node → ℕ → (Row → List Conclusion) → List Conclusion
values_give hits pin n x f = flat_map f (candidates hits pin (PointsAt n x)) ++ flat_map f (candidates hits pin (LabelsAt n x))

pub may_hold : (pin : Option Row) (n : Node) (x : ℕ) (v : Content) → IsThat pin (held v n x) → may_stand pin n x ≡ true
may_hold None n x v h = refl
may_hold (Some z) n x (Object s) h =
    subst (λ w. asks (PointsAt n x) w || asks (LabelsAt n x) w ≡ true) h
    (or_left (asks (PointsAt n x) (fact.Points n x s)) (asks (LabelsAt n x) (fact.Points n x s)) (under_asked (PointsAt n x) (fact.Points n x s) (s, refl)))
may_hold (Some z) n x (Label l) h =
    subst (λ w. asks (PointsAt n x) w || asks (LabelsAt n x) w ≡ true) h
    (or_right (asks (PointsAt n x) (fact.Label n x l)) (asks (LabelsAt n x) (fact.Label n x l)) (under_asked (LabelsAt n x) (fact.Label n x l) (l, refl)))

module _ (has : Row → Type 0) (hits : Key → List Row) (law : (key : Key) → IsHits has key (hits key)) (pin : Option Row) where
  each_candidate : IsPinned has pin → (P : Conclusion → Type 0) (f : Row → List Conclusion) (key : Key) →
      ((row : Row) → Under key row → (other : Row) × (row ≡ other) × (has other → IsThat pin other → AllByRecursion P (f other))) →
      AllByRecursion P (flat_map f (candidates hits pin key))
  each_candidate there P f key h = each_flat P f (candidates hits pin key) (λ row i.
      let a = candidate_is has hits law pin there key row i in
      let u = h row a.1 in
      subst (λ z. AllByRecursion P (f z)) (sym u.1) (u.2 (subst has u.1 a.0) (pinned (λ z. row ≡ z) (λ z. u.0 ≡ z) (λ z k. sym u.1 ∙ k) pin a.2)))

  -- the labels of a register, what is reached from an object, and the labels of its elements
  pub each_label : IsPinned has pin → (P : Conclusion → Type 0) (f : Row → List Conclusion) (n : Node) (x : ℕ) →
      ((l : ℕ) → has (fact.Label n x l) → IsThat pin (fact.Label n x l) → AllByRecursion P (f (fact.Label n x l))) →
      AllByRecursion P (flat_map f (candidates hits pin (LabelsAt n x)))
  each_label there P f n x h = each_candidate there P f (LabelsAt n x) (λ row w. (fact.Label n x w.0, w.1, h w.0))

  pub each_reached : IsPinned has pin → (P : Conclusion → Type 0) (f : Row → List Conclusion) (s : Site) →
      ((l : ℕ) → has (fact.Holds s l) → IsThat pin (fact.Holds s l) → AllByRecursion P (f (fact.Holds s l))) →
      AllByRecursion P (flat_map f (candidates hits pin (HoldsOf s)))
  each_reached there P f s h = each_candidate there P f (HoldsOf s) (λ row w. (fact.Holds s w.0, w.1, h w.0))

  pub each_cell_label : IsPinned has pin → (P : Conclusion → Type 0) (f : Row → List Conclusion) (s : Site) →
      ((l : ℕ) → has (fact.CellLabel s elem_key l) → IsThat pin (fact.CellLabel s elem_key l) → AllByRecursion P (f (fact.CellLabel s elem_key l))) →
      AllByRecursion P (flat_map f (candidates hits pin (CellLabelsOf s elem_key)))
  each_cell_label there P f s h = each_candidate there P f (CellLabelsOf s elem_key) (λ row w. (fact.CellLabel s elem_key w.0, w.1, h w.0))

  pub each_value : IsPinned has pin → (P : Conclusion → Type 0) (f : Row → List Conclusion) (n : Node) (x : ℕ) →
      ((v : Content) → has (held v n x) → IsThat pin (held v n x) → AllByRecursion P (f (held v n x))) →
      AllByRecursion P (values_give hits pin n x f)
  each_value there P f n x h =
      each_append P (flat_map f (candidates hits pin (PointsAt n x))) (flat_map f (candidates hits pin (LabelsAt n x)))
      (each_object has hits law pin there P f n x (λ s. h (Object s))) (each_label there P f n x (λ l. h (Label l)))

  pub in_candidates : (c : Conclusion) (f : Row → List Conclusion) (key : Key) (row : Row) → Under key row → has row → IsThat pin row → In c (f row) →
      In c (flat_map f (candidates hits pin key))
  in_candidates c f key row under there same i = in_flat f (candidates hits pin key) row c (candidate_in has hits law pin key row there under same) i

  pub in_values : (c : Conclusion) (f : Row → List Conclusion) (n : Node) (x : ℕ) (v : Content) → has (held v n x) →
      IsThat pin (held v n x) → In c (f (held v n x)) → In c (values_give hits pin n x f)
  in_values c f n x (Object s) there same i =
      in_front c (flat_map f (candidates hits pin (PointsAt n x))) (flat_map f (candidates hits pin (LabelsAt n x)))
      (in_objects has hits law pin c f n x s there same i)
  in_values c f n x (Label l) there same i =
      in_back c (flat_map f (candidates hits pin (PointsAt n x))) (flat_map f (candidates hits pin (LabelsAt n x)))
      (in_candidates c f (LabelsAt n x) (fact.Label n x l) (l, refl) there same i)

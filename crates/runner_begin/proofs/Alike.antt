-- Where positions have the same labels in another order, the same parameters are drawn.
use Rattle.std.proofs.Common.{◌≡◌, ◌==◌, inl, ℕ, ◌+◌, Bool, true, false, cond, List, [], ◌∷◌, map, length, filter, Option, Some, None, refl, ap, subst}
use Rattle.std.specs.Prelude.{◌↔◌}
use Rattle.std.specs.List.{cons_option}
use Rattle.vet_base.specs.declared.key_id.KeyId.{KeyId}
use Rattle.vet_base.specs.Members.{In}
use Rattle.app_machine.specs.declared.app.App.{App}
use Rattle.app_machine.specs.declared.lists.Lists.{Lists}
use Rattle.app_machine.specs.Events.{labelled_element, labels_at}
use Rattle.app_machine.specs.Heap.{Value, Object, labelled}
use Rattle.app_machine.specs.Lookups.{elem_key}
use Rattle.app_machine.specs.Names.{Name, is_reference}
use Rattle.played_alike.specs.Alike.{AlikeHeap, AlikeObject, AlikeValue, Pairwise, values_under}
use Rattle.played_alike.proofs.Heaps.{alike_more, same_class}
use Rattle.played_alike.proofs.Pairs.{AlikeDrawings, alike_after, alike_give, alike_if, alike_one, pair_length, pair_map}
use Rattle.played_machine.specs.Coming.{fresh_object, parameter, parameter_values, parameters}
use Rattle.played_machine.specs.Drawing.{Drawing, give, one_of, ◌>>=◌}
use Rattle.played_machine.specs.Reading.{class_at, handed_places, is_of_type}
use Rattle.runner_begin.specs.Parameters.{parameters_by}

-- the same labels
abbrev pub SameLabels : List ℕ → List ℕ → Type 0
SameLabels ls ks = (l : ℕ) → In l ls ↔ In l ks

abbrev AlikeGot : Value × List Object → Value × List Object → Type 0
AlikeGot a b = AlikeValue a.0 b.0 × AlikeHeap a.1 b.1

abbrev pub AlikeParameters : List Value × List Object → List Value × List Object → Type 0
AlikeParameters a b = Pairwise AlikeValue a.0 b.0 × AlikeHeap a.1 b.1

alike_fresh : (type : Name) (ls ks : List ℕ) → SameLabels ls ks → AlikeObject (fresh_object type ls) (fresh_object type ks)
alike_fresh type ls ks same = record { class = refl; entries = λ k. by_labels ls ks same k }
  where
    by_labels : (ls ks : List ℕ) → SameLabels ls ks → (k : KeyId) → Pairwise AlikeValue (values_under k (labelled_element ls)) (values_under k (labelled_element ks))
    by_labels [] [] same k = tt
    by_labels [] (x ∷ ks) same k = absurd ((same x).1 (inl refl))
    by_labels (x ∷ ls) [] same k = absurd ((same x).0 (inl refl))
    by_labels (x ∷ ls) (y ∷ ks) same k = by_test (elem_key.0 == k.0)
      where
        by_test : (b : Bool) → Pairwise AlikeValue (cons_option (cond b (Some (labelled (x ∷ ls))) None) []) (cons_option (cond b (Some (labelled (y ∷ ks))) None) [])
        by_test true = (record { place = refl; labels = same }, tt)
        by_test false = tt

module _ (app : App) (lists : Lists) (handed : List ℕ) where
  module _ (ls ks : List ℕ) (same : SameLabels ls ks) (type : Name) (heap heap' : List Object) (heaps : AlikeHeap heap heap') where
    same_below : filter (λ p. is_of_type app lists type (class_at heap p)) (handed_places handed) ≡ filter (λ p. is_of_type app lists type (class_at heap' p)) (handed_places handed)
    same_below =
        let classes : class_at heap ≡ class_at heap' = λ i p. same_class heap heap' heaps p i in
        ap (λ (cs : ℕ → Option Name). filter (λ p. is_of_type app lists type (cs p)) (handed_places handed)) classes

    alike_place : (place place' : Option ℕ) → place ≡ place' → AlikeValue (record { place = place; labels = ls }) (record { place = place'; labels = ks })
    alike_place place place' is = record { place = is; labels = same }

    alike_values : Pairwise AlikeGot (parameter_values app lists handed ls type heap) (parameter_values app lists handed ks type heap')
    alike_values = (
      (alike_place None None refl, heaps),
      (
        (alike_place (Some (length heap)) (Some (length heap')) (ap (λ n. Some n) (pair_length AlikeObject heap heap' heaps)), alike_more heap heap' (fresh_object type ls) (fresh_object type ks) heaps (alike_fresh type ls ks same)),
        subst (λ ps. Pairwise AlikeGot (map (λ p. (record { place = Some p; labels = ls }, heap)) (filter (λ p. is_of_type app lists type (class_at heap p)) (handed_places handed))) (map (λ p. (record { place = Some p; labels = ks }, heap')) ps)) same_below
            (pair_map AlikeGot (λ (p : ℕ). (record { place = Some p; labels = ls }, heap)) (λ (p : ℕ). (record { place = Some p; labels = ks }, heap')) (λ p. (alike_place (Some p) (Some p) refl, heaps)) (filter (λ p. is_of_type app lists type (class_at heap p)) (handed_places handed))),
      ),
    )

    alike_parameter : AlikeDrawings AlikeGot (parameter app lists handed ls type heap) (parameter app lists handed ks type heap')
    alike_parameter =
        alike_if AlikeGot (is_reference type) (one_of (parameter_values app lists handed ls type heap)) (one_of (parameter_values app lists handed ks type heap')) (give (labelled ls, heap)) (give (labelled ks, heap'))
        (alike_one AlikeGot (parameter_values app lists handed ls type heap) (parameter_values app lists handed ks type heap') alike_values)
        (alike_give AlikeGot (labelled ls, heap) (labelled ks, heap') (alike_place None None refl, heaps))

  abbrev with_others : Value × List Object → List Value × List Object → Drawing (List Value × List Object)
  with_others first others = give (first.0 ∷ others.0, others.1)

  pub alike_parameters : (sources : List (ℕ × ℕ)) (labels : ℕ → List ℕ) → ((i : ℕ) → SameLabels (labels_at sources i) (labels i)) → (types : List Name) (i : ℕ) (heap heap' : List Object) → AlikeHeap heap heap' →
      AlikeDrawings AlikeParameters (parameters app lists handed sources i types heap) (parameters_by app lists handed labels i types heap')
  alike_parameters sources labels same [] i heap heap' heaps = alike_give AlikeParameters ([], heap) ([], heap') (tt, heaps)
  alike_parameters sources labels same (type ∷ types) i heap heap' heaps =
      alike_after AlikeGot AlikeParameters (parameter app lists handed (labels_at sources i) type heap) (parameter app lists handed (labels i) type heap')
      (λ (first : Value × List Object). parameters app lists handed sources (i + 1) types first.1 >>= with_others first) (λ (first : Value × List Object). parameters_by app lists handed labels (i + 1) types first.1 >>= with_others first)
      (alike_parameter (labels_at sources i) (labels i) (same i) type heap heap' heaps)
      (λ x y one. alike_after AlikeParameters AlikeParameters (parameters app lists handed sources (i + 1) types x.1) (parameters_by app lists handed labels (i + 1) types y.1) (with_others x) (with_others y)
      (alike_parameters sources labels same types (i + 1) x.1 y.1 one.1)
      (λ others others' two. alike_give AlikeParameters (x.0 ∷ others.0, others.1) (y.0 ∷ others'.0, others'.1) ((one.0, two.0), two.1)))

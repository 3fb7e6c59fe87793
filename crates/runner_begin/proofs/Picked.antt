-- One value by its index.
use Rattle.std.proofs.Common.{◌≡◌, ℕ, zero, suc, ◌+◌, ◌-◌, ◌<◌, ◌≤◌, true, false, cond, List, [], ◌∷◌, ◌++◌, map, take, length, get_or, Option, Some, slice_get, filter, refl, sym, ap, ◌∙◌, arith, append_assoc}
use Rattle.std.proofs.lemmas.List.{length-append, length-map, map-append, map_push, take_all, take_more}
use Rattle.std.proofs.lemmas.Option.{none-some, same_Some}
use Rattle.app_machine.specs.declared.app.App.{App}
use Rattle.app_machine.specs.declared.lists.Lists.{Lists}
use Rattle.app_machine.specs.Heap.{Value, Object, labelled}
use Rattle.app_machine.specs.Names.{Name, is_reference}
use Rattle.played_growth.specs.Growth.{classes_of}
use Rattle.played_growth.proofs.Growing.{class_is}
use Rattle.played_machine.specs.Coming.{fresh_object, parameter, parameter_values}
use Rattle.played_machine.specs.Drawing.{give, one_of}
use Rattle.played_machine.specs.Reading.{class_at, handed_places, is_of_type}
use Rattle.runner_begin.specs.declared.drawing.Fresh.{Fresh}
use Rattle.runner_begin.specs.Parameters.{classes_in, object_in, planned_in, value_at, values_with}
use Rattle.runner_below.specs.Below.{below_among}

module _ (places labels : List ℕ) (type : Name) (heap : List Object) where
  abbrev there : ℕ → Value × List Object
  there p = (value_at p labels, heap)

  place_at : (xs : List ℕ) (i p : ℕ) → slice_get xs i ≡ Some p → slice_get (map there xs) i ≡ Some (there p)
  place_at [] i p is = absurd (none-some p is)
  place_at (x ∷ xs) zero p is = ap (λ (q : ℕ). Some (there q)) (same_Some x p is)
  place_at (x ∷ xs) (suc i) p is = place_at xs i p is

  pub count_values : length places + 2 ≡ length (values_with places labels type heap)
  count_values =
      let two : length places + 2 ≡ suc (suc (length places)) = omega arith in
      two ∙ ap (λ n. suc (suc n)) (sym (length-map places there))

  pub picks_blank : (i : ℕ) (v : Value) → i ≡ 0 → v ≡ labelled labels → slice_get (values_with places labels type heap) i ≡ Some (v, heap)
  picks_blank i v first is = ap (slice_get (values_with places labels type heap)) first ∙ ap (λ w. Some (w, heap)) (sym is)

  pub picks_fresh : (i : ℕ) (v : Value) (new : List Object) → i ≡ 1 → v ≡ value_at (length heap) labels → new ≡ heap ++ fresh_object type labels ∷ [] → slice_get (values_with places labels type heap) i ≡ Some (v, new)
  picks_fresh i v new second is more = ap (slice_get (values_with places labels type heap)) second ∙ (ap (λ w. Some (w, heap ++ fresh_object type labels ∷ [])) (sym is) ∙ ap (λ os. Some (v, os)) (sym more))

  pub picks_place : (i p : ℕ) (v : Value) → 2 ≤ i → slice_get places (i - 2) ≡ Some p → v ≡ value_at p labels → slice_get (values_with places labels type heap) i ≡ Some (v, heap)
  picks_place zero p v low at is = absurd (omega (arith, low))
  picks_place (suc zero) p v low at is = absurd (omega (arith, low))
  picks_place (suc (suc i)) p v low at is =
      let same : suc (suc i) - 2 ≡ i = omega arith in
      place_at places i p (ap (slice_get places) (sym same) ∙ at) ∙ ap (λ w. Some (w, heap)) (sym is)

-- a fresh object behind those that are to be made
pub plans_more : (heap : List Object) (fresh new : List Fresh) (one : Fresh) → new ≡ fresh ++ one ∷ [] → planned_in heap new ≡ planned_in heap fresh ++ object_in one ∷ []
plans_more heap fresh new one more =
    ap (planned_in heap) more ∙ (ap (λ os. heap ++ os) (map_push object_in fresh one) ∙ sym (append_assoc heap (map object_in fresh) (object_in one ∷ [])))

pub planned_long : (heap : List Object) (fresh : List Fresh) → length (planned_in heap fresh) ≡ length heap + length fresh
planned_long heap fresh = length-append heap (map object_in fresh) ∙ ap (λ n. length heap + n) (length-map fresh object_in)

planned_classes : (heap : List Object) (fresh : List Fresh) → classes_of (planned_in heap fresh) ≡ classes_of heap ++ classes_in fresh
planned_classes heap fresh = map-append (λ (o : Object). o.class) heap (map object_in fresh) ∙ ap (λ cs. classes_of heap ++ cs) (classes_are fresh)
  where
    classes_are : (fresh : List Fresh) → classes_of (map object_in fresh) ≡ classes_in fresh
    classes_are [] = refl
    classes_are (one ∷ fresh) = ap (λ cs. one.class.now ∷ cs) (classes_are fresh)

module _ (app : App) (lists : Lists) (handed : List ℕ) (labels : List ℕ) (type : Name) (heap : List Object) (fresh : List Fresh) where
  below_are : filter (λ p. is_of_type app lists type (class_at (planned_in heap fresh) p)) handed ≡ below_among app lists (classes_of heap ++ classes_in fresh) handed type
  below_are =
      let classes : class_at (planned_in heap fresh) ≡ slice_get (classes_of heap ++ classes_in fresh) = λ i p. (class_is (planned_in heap fresh) p ∙ ap (λ cs. slice_get cs p) (planned_classes heap fresh)) i in
      ap (λ (cs : ℕ → Option Name). filter (λ p. is_of_type app lists type (cs p)) handed) classes

  pub values_are : (all places : List ℕ) → handed_places all ≡ handed → places ≡ below_among app lists (classes_of heap ++ classes_in fresh) handed type →
      values_with places labels type (planned_in heap fresh) ≡ parameter_values app lists all labels type (planned_in heap fresh)
  values_are all places are is =
      ap (λ (ps : List ℕ). values_with ps labels type (planned_in heap fresh))
      (is ∙ (sym below_are ∙ ap (filter (λ p. is_of_type app lists type (class_at (planned_in heap fresh) p))) (sym are)))

  pub of_reference : (all : List ℕ) (bytes : List ℕ) → is_reference type ≡ true → parameter app lists all labels type (planned_in heap fresh) bytes ≡ one_of (parameter_values app lists all labels type (planned_in heap fresh)) bytes
  of_reference all bytes is = ap (λ b. (cond b (one_of (parameter_values app lists all labels type (planned_in heap fresh))) (give (labelled labels, planned_in heap fresh))) bytes) is

  pub of_number : (all : List ℕ) (bytes : List ℕ) → is_reference type ≡ false → Some ((labelled labels, planned_in heap fresh), bytes) ≡ parameter app lists all labels type (planned_in heap fresh) bytes
  of_number all bytes is = sym (ap (λ b. (cond b (one_of (parameter_values app lists all labels type (planned_in heap fresh))) (give (labelled labels, planned_in heap fresh))) bytes) is)

-- the classes of the first objects that are to be made
module _ (fresh : List Fresh) (i : ℕ) where
  pub one_class : (classes new : List Name) (one : Fresh) → i < length fresh → one ≡ get_or fresh i one → new ≡ classes ++ one.class.now ∷ [] → classes ≡ classes_in (take i fresh) → new ≡ classes_in (take (i + 1) fresh)
  one_class classes new one within is more so_far =
      more
      ∙ (ap (λ (o : Fresh). classes ++ o.class.now ∷ []) is
      ∙ (ap (λ cs. cs ++ (get_or fresh i one).class.now ∷ []) so_far ∙ sym (ap classes_in (take_more fresh i one within) ∙ map_push (λ (o : Fresh). o.class.now) (take i fresh) (get_or fresh i one))))

  pub all_classes : (classes : List Name) → length fresh ≤ i → classes ≡ classes_in (take i fresh) → classes ≡ classes_in fresh
  all_classes classes past so_far = so_far ∙ ap classes_in (take_all i fresh past)

module _ (app : App) (lists : Lists) (labels : List ℕ) (type : Name) (heap : List Object) (fresh : List Fresh) (all : List ℕ) where
  -- a value of no reference type
  pub number_given : (bytes : List ℕ) (v : Value) → is_reference type ≡ false → v ≡ labelled labels → Some ((v, planned_in heap fresh), bytes) ≡ parameter app lists all labels type (planned_in heap fresh) bytes
  number_given bytes v plain is = ap (λ w. Some ((w, planned_in heap fresh), bytes)) is ∙ of_number app lists [] labels type heap fresh all bytes plain

  -- one of a reference type
  pub reference_drawn : (handed places : List ℕ) (bytes : List ℕ) → is_reference type ≡ true → handed_places all ≡ handed → places ≡ below_among app lists (classes_of heap ++ classes_in fresh) handed type →
      one_of (values_with places labels type (planned_in heap fresh)) bytes ≡ parameter app lists all labels type (planned_in heap fresh) bytes
  reference_drawn handed places bytes class are is =
      ap (λ (vs : List (Value × List Object)). one_of vs bytes) (values_are app lists handed labels type heap fresh all places are is) ∙ sym (of_reference app lists handed labels type heap fresh all bytes class)

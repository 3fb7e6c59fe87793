-- Lists and worlds that grow.
use Rattle.std.proofs.Common.{◌≡◌, ◌==◌, ℕ, zero, suc, Bool, true, false, cond, List, [], ◌∷◌, ◌++◌, Option, Some, None, option_map, slice_get, refl, sym, ap, ◌∙◌, append_assoc}
use Rattle.std.proofs.lemmas.List.{append-nil, map-append}
use Rattle.vet_base.specs.declared.key_id.KeyId.{KeyId}
use Rattle.app_machine.specs.Calls.{hand}
use Rattle.app_machine.specs.Heap.{Value, Object, put_at, put_to, add_all}
use Rattle.app_machine.specs.Lookups.{elem_key}
use Rattle.app_machine.specs.State.{World}
use Rattle.played_alike.specs.Alike.{AlikeHeap, AlikeWorld}
use Rattle.played_alike.proofs.Orders.{put_once, handed_next}
use Rattle.played_machine.specs.Reading.{class_at, handed_places}
use Rattle.played_growth.specs.Growth.{Extends, classes_of, Grows}

module _ {A : Type 0} where
  pub extends_itself : (xs : List A) → Extends xs xs
  extends_itself xs = ([], sym (append-nil xs))

  pub extends_by : (xs ys : List A) → Extends xs (xs ++ ys)
  extends_by xs ys = (ys, refl)

  pub extends_on : (xs ys zs : List A) → Extends xs ys → Extends ys zs → Extends xs zs
  extends_on xs ys zs one other = (one.0 ++ other.0, other.1 ∙ (ap (λ ws. ws ++ other.0) one.1 ∙ append_assoc xs one.0 other.0))

  pub extends_same : (xs ys zs : List A) → Extends xs ys → ys ≡ zs → Extends xs zs
  extends_same xs ys zs one same = (one.0, sym same ∙ one.1)

-- heaps
get_class : (heap : List Object) (p : ℕ) → option_map (λ (o : Object). o.class) (slice_get heap p) ≡ slice_get (classes_of heap) p
get_class [] p = refl
get_class (o ∷ heap) zero = refl
get_class (o ∷ heap) (suc p) = get_class heap p

pub class_is : (heap : List Object) (p : ℕ) → class_at heap p ≡ slice_get (classes_of heap) p
unfolding class_at
class_is heap p = get_class heap p

classes_put : (heap : List Object) (p : ℕ) (k : KeyId) (v : Value) → classes_of (put_at heap p k v) ≡ classes_of heap
classes_put [] p k v = refl
classes_put (o ∷ heap) zero k v = refl
classes_put (o ∷ heap) (suc p) k v = ap (λ cs. o.class ∷ cs) (classes_put heap p k v)

pub classes_put_to : (heap : List Object) (place : Option ℕ) (k : KeyId) (v : Value) → classes_of (put_to heap place k v) ≡ classes_of heap
classes_put_to heap None k v = refl
classes_put_to heap (Some p) k v = classes_put heap p k v

pub classes_add : (heap : List Object) (added : List (ℕ × Value)) → classes_of (add_all heap added) ≡ classes_of heap
classes_add heap [] = refl
classes_add heap (a ∷ added) = classes_add (put_at heap a.0 elem_key a.1) added ∙ classes_put heap a.0 elem_key a.1

pub one_more : (heap : List Object) (o : Object) → Extends (classes_of heap) (classes_of (heap ++ o ∷ []))
one_more heap o = (o.class ∷ [], map-append (λ (x : Object). x.class) heap (o ∷ []))

pub same_classes : (heap other : List Object) → AlikeHeap heap other → classes_of heap ≡ classes_of other
same_classes [] [] alike = refl
same_classes [] (p ∷ other) alike = absurd alike
same_classes (o ∷ heap) [] alike = absurd alike
same_classes (o ∷ heap) (p ∷ other) alike = ap (λ c. c ∷ classes_of heap) alike.0.class ∙ ap (λ cs. p.class ∷ cs) (same_classes heap other alike.1)

-- handed places
put_extends : (p : ℕ) (ys : List ℕ) → Extends ys (put_once p ys)
put_extends p [] = (p ∷ [], refl)
put_extends p (y ∷ ys) = by_test (p == y) (put_extends p ys)
  where
    by_test : (b : Bool) → Extends ys (put_once p ys) → Extends (y ∷ ys) (cond b (y ∷ ys) (y ∷ put_once p ys))
    by_test true rest = ([], sym (append-nil (y ∷ ys)))
    by_test false rest = (rest.0, ap (λ zs. y ∷ zs) rest.1)

pub hand_extends : (place : Option ℕ) (handed : List ℕ) → Extends (handed_places handed) (handed_places (hand place handed))
hand_extends None handed = ([], sym (append-nil (handed_places handed)))
hand_extends (Some p) handed =
    let more : Extends (handed_places handed) (put_once p (handed_places handed)) = put_extends p (handed_places handed) in
    (more.0, handed_next p handed ∙ more.1)

-- worlds
pub grown : (w u : World) → Extends (classes_of w.heap) (classes_of u.heap) → Extends (handed_places w.handed) (handed_places u.handed) → Grows w u
grown w u classes handed = record { classes = classes; handed = handed }

pub stays : (w : World) → Grows w w
stays w = grown w w (extends_itself (classes_of w.heap)) (extends_itself (handed_places w.handed))

pub grows_on : (w u x : World) → Grows w u → Grows u x → Grows w x
grows_on w u x one other = grown w x
    (extends_on (classes_of w.heap) (classes_of u.heap) (classes_of x.heap) one.classes other.classes)
    (extends_on (handed_places w.handed) (handed_places u.handed) (handed_places x.handed) one.handed other.handed)

pub grows_alike : (w t u : World) → Grows w t → AlikeWorld t u → Grows w u
grows_alike w t u grows alike = grown w u
    (extends_same (classes_of w.heap) (classes_of t.heap) (classes_of u.heap) grows.classes (same_classes t.heap u.heap alike.heap))
    (extends_same (handed_places w.handed) (handed_places t.handed) (handed_places u.handed) grows.handed alike.handed)

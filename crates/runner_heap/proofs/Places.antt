-- Objects by place.
use Rattle.std.proofs.Common.{◌≡◌, ◌≢◌, ◌≤◌, ◌+◌, ◌-◌, ℕ, zero, suc, List, [], ◌∷◌, map, reverse, length, Option, Some, None, option_map, slice_get, refl, sym, ap, ◌∙◌, subst, arith}
use Rattle.std.specs.Prelude.{slice_set}
use Rattle.std.proofs.lemmas.Option.{slice_get-map}
use Rattle.vet_base.specs.declared.key_id.KeyId.{KeyId}
use Rattle.app_machine.specs.Heap.{Value, Object, put_at}
use Rattle.app_machine.specs.Lookups.{elem_key}
use Rattle.played_machine.proofs.Reached.{same_key}
use Rattle.played_machine.specs.Reading.{class_at, entries_of, entries_at, values_at}
use Rattle.played_alike.specs.Alike.{values_under, AlikeObject, AlikeHeap}
use Rattle.played_alike.proofs.Heaps.{alike_object}
use Rattle.played_alike.proofs.Pairs.{pair_same}
use Rattle.runner_heap.specs.declared.entity.Entity.{Entity}
use Rattle.runner_heap.specs.Shown.{field_key, object_of, put_on}

-- what is read of the objects
module _ (os : List Entity) (p : ℕ) where
  pub class_of_place : (o : Option Entity) → o ≡ slice_get os p → option_map (λ (e : Entity). (object_of e).class) o ≡ class_at (map object_of os) p
  unfolding class_at
  class_of_place o is =
      ap (option_map (λ (e : Entity). (object_of e).class)) is
      ∙ (by_object (slice_get os p) ∙ ap (option_map (λ (x : Object). x.class)) (sym (slice_get-map object_of os p)))
    where
      by_object : (o : Option Entity) → option_map (λ (e : Entity). (object_of e).class) o ≡ option_map (λ (x : Object). x.class) (option_map object_of o)
      by_object None = refl
      by_object (Some e) = refl

  pub values_of_place : (e : Entity) → Some e ≡ slice_get os p → (k : KeyId) → reverse (values_under k (object_of e).entries) ≡ values_at (map object_of os) p k
  unfolding values_at entries_at
  values_of_place e is k = ap (λ (o : Option Object). reverse (values_under k (entries_of o))) (ap (option_map object_of) is ∙ sym (slice_get-map object_of os p))

  pub no_values : None ≡ slice_get os p → (k : KeyId) → values_at (map object_of os) p k ≡ []
  unfolding values_at entries_at
  no_values is k = sym (ap (λ (o : Option Object). reverse (values_under k (entries_of o))) (ap (option_map object_of) is ∙ sym (slice_get-map object_of os p)))

-- what is put
pub put_there : (os : List Entity) (p : ℕ) (o new : Entity) (k : KeyId) (v : Value) → slice_get os p ≡ Some o → object_of new ≡ put_on k v (object_of o) → map object_of (slice_set os p new) ≡ put_at (map object_of os) p k v
put_there [] p o new k v at is = absurd cc
put_there (x ∷ os) zero o new k v at is = ap (λ z. z ∷ map object_of os) (is ∙ ap (λ (z : Entity). put_on k v (object_of z)) (sym (first x o at)))
  where
    first : (x o : Entity) → Some x ≡ Some o → x ≡ o
    first x o same = cc
put_there (x ∷ os) (suc p) o new k v at is = ap (λ zs. object_of x ∷ zs) (put_there os p o new k v at is)

pub alike_all : (os : List Entity) → AlikeHeap (map object_of os) (map object_of os)
alike_all os = pair_same AlikeObject alike_object (map object_of os)

pub alike_there : (os : List Entity) (p : ℕ) (o new : Entity) (k : KeyId) (v : Value) → slice_get os p ≡ Some o → AlikeObject (put_on k v (object_of o)) (object_of new) → AlikeHeap (put_at (map object_of os) p k v) (map object_of (slice_set os p new))
alike_there [] p o new k v at is = absurd cc
alike_there (x ∷ os) zero o new k v at is = (one x o at is, alike_all os)
  where
    one : (x o : Entity) → Some x ≡ Some o → AlikeObject (put_on k v (object_of o)) (object_of new) → AlikeObject (put_on k v (object_of x)) (object_of new)
    one x o same is = let e : x ≡ o = cc in rw e is
alike_there (x ∷ os) (suc p) o new k v at is = (alike_object (object_of x), alike_there os p o new k v at is)

pub put_past : (os : List Entity) (p : ℕ) (k : KeyId) (v : Value) → length os ≤ p → map object_of os ≡ put_at (map object_of os) p k v
put_past [] p k v past = refl
put_past (x ∷ os) zero k v past = absurd (omega (arith, past))
put_past (x ∷ os) (suc p) k v past = ap (λ zs. object_of x ∷ zs) (put_past os p k v (omega (arith, past)))

pub alike_past : (os : List Entity) (p : ℕ) (k : KeyId) (v : Value) → length os ≤ p → AlikeHeap (put_at (map object_of os) p k v) (map object_of os)
alike_past os p k v past = rw (← put_past os p k v past) (alike_all os)

pub kept_there : (os : List Entity) (p : ℕ) (o new : Entity) → slice_get os p ≡ Some o → object_of new ≡ object_of o → map object_of (slice_set os p new) ≡ map object_of os
kept_there [] p o new at is = refl
kept_there (x ∷ os) zero o new at is = ap (λ z. z ∷ map object_of os) (is ∙ ap object_of (sym (first x o at)))
  where
    first : (x o : Entity) → Some x ≡ Some o → x ≡ o
    first x o same = cc
kept_there (x ∷ os) (suc p) o new at is = ap (λ zs. object_of x ∷ zs) (kept_there os p o new at is)

-- by the key
pub alike_element : (os : List Entity) (new : List Object) (p : ℕ) (k : KeyId) (v : Value) → k.0 ≡ 0 → new ≡ put_at (map object_of os) p elem_key v → AlikeHeap (put_at (map object_of os) p k v) new
alike_element os new p k v first_key is =
    subst (λ j. AlikeHeap (put_at (map object_of os) p j v) new) (sym (same_key k elem_key first_key))
    (subst (AlikeHeap (put_at (map object_of os) p elem_key v)) (sym is) (pair_same AlikeObject alike_object (put_at (map object_of os) p elem_key v)))

pub alike_field : (os : List Entity) (new : List Object) (p : ℕ) (k : KeyId) (v : Value) → k.0 ≢ 0 → AlikeHeap (put_at (map object_of os) p (field_key (k.0 - 1)) v) new → AlikeHeap (put_at (map object_of os) p k v) new
alike_field os new p k v other alike =
    let same : k.0 - 1 + 1 ≡ k.0 = omega (arith, other) in
    subst (λ j. AlikeHeap (put_at (map object_of os) p j v) new) (same_key (field_key (k.0 - 1)) k same) alike

-- Alike heaps: what is read of them, and what is put into them.
use Rattle.std.proofs.Common.{◌≡◌, ◌==◌, ℕ, zero, suc, Bool, true, false, cond, List, [], ◌∷◌, ◌++◌, flat_map, filter_map, length, Option, Some, None, option_map, slice_get, inl, inr, refl, sym, ap, ◌∙◌, subst, eqb-true, eq-eqb}
use Rattle.std.specs.List.{cons_option}
use Rattle.vet_base.specs.declared.key_id.KeyId.{KeyId}
use Rattle.vet_base.specs.Members.{In}
use Rattle.vet_base.proofs.Members.{in_flat, from_flat}
use Rattle.app_machine.specs.Heap.{Value, Object, Reaches, without, put_entry, put_at, put_to, add_all}
use Rattle.app_machine.specs.Lookups.{elem_key}
use Rattle.app_machine.specs.State.{holds, write, write_all, Frame}
use Rattle.played_machine.specs.Local.{own_labels}
use Rattle.played_machine.specs.Reading.{class_at, entries_of, entries_at, under, values_at, labels_behind, reached}
use Rattle.played_machine.proofs.Ordered.{false_true}
use Rattle.played_machine.proofs.Reached.{value_there, value_read, reached_so, reached_all}
use Rattle.played_alike.specs.Alike.{Pairwise, AlikeValue, values_under, AlikeEntries, AlikeObject, AlikeHeap, AlikeValues}
use Rattle.played_alike.proofs.Orders.{same_ascending, same_by_elements}
use Rattle.played_alike.proofs.Pairs.{AlikeOption, pair_append, pair_reverse, pair_get, pair_same}

-- values
pub alike_itself : (v : Value) → AlikeValue v v
alike_itself v = record { place = refl; labels = λ l. (λ h. h, λ h. h) }

pub alike_back : (v w : Value) → AlikeValue v w → AlikeValue w v
alike_back v w alike = record { place = sym alike.place; labels = λ l. ((alike.labels l).1, (alike.labels l).0) }

pub alike_cond : (b : Bool) (v w v' w' : Value) → AlikeValue v w → AlikeValue v' w' → AlikeValue (cond b v v') (cond b w w')
alike_cond true v w v' w' one other = one
alike_cond false v w v' w' one other = other

pub alike_write : (one other : ℕ → Value) (d : ℕ) (v w : Value) → AlikeValues one other → AlikeValue v w → AlikeValues (write one d v) (write other d w)
alike_write one other d v w alike value r = alike_cond (r == d) v w (one r) (other r) value (alike r)

pub alike_write_all : (one other : ℕ → Value) (ds : List ℕ) (v w : Value) → AlikeValues one other → AlikeValue v w → AlikeValues (write_all one ds v) (write_all other ds w)
alike_write_all one other ds v w alike value r = alike_cond (holds ds r) v w (one r) (other r) value (alike r)

-- turned round
module _ {A : Type 0} (R : A → A → Type 0) (back : (x y : A) → R x y → R y x) where
  pub pair_back : (xs ys : List A) → Pairwise R xs ys → Pairwise R ys xs
  pair_back [] [] pairs = tt
  pair_back [] (y ∷ ys) pairs = absurd pairs
  pair_back (x ∷ xs) [] pairs = absurd pairs
  pair_back (x ∷ xs) (y ∷ ys) pairs = (back x y pairs.0, pair_back xs ys pairs.1)

object_back : (o p : Object) → AlikeObject o p → AlikeObject p o
object_back o p alike = record { class = sym alike.class; entries = λ k. pair_back AlikeValue alike_back (values_under k o.entries) (values_under k p.entries) (alike.entries k) }

heap_back : (heap heap' : List Object) → AlikeHeap heap heap' → AlikeHeap heap' heap
heap_back heap heap' alike = pair_back AlikeObject object_back heap heap' alike

-- an element on the one side has one like it on the other
pub record Partner {A : Type 0} (R : A → A → Type 0) (x : A) (ys : List A) : Type 0 where
  pub other : A
  pub is_one : In other ys
  pub alike : R x other

partner : {A : Type 0} (R : A → A → Type 0) (xs ys : List A) (x : A) → Pairwise R xs ys → In x xs → Partner R x ys
partner R [] ys x pairs h = absurd h
partner R (z ∷ xs) [] x pairs h = absurd pairs
partner R (z ∷ xs) (y ∷ ys) x pairs (inl same) = record { other = y; is_one = inl refl; alike = subst (λ w. R w y) (sym same) pairs.0 }
partner R (z ∷ xs) (y ∷ ys) x pairs (inr h) = let rest = partner R xs ys x pairs.1 h in record { other = rest.other; is_one = inr rest.is_one; alike = rest.alike }

-- what is read
module _ (heap heap' : List Object) (alike : AlikeHeap heap heap') (p : ℕ) where
  pub same_class : class_at heap p ≡ class_at heap' p
  unfolding class_at
  same_class = by_object (slice_get heap p) (slice_get heap' p) (pair_get AlikeObject heap heap' p alike)
    where
      by_object : (o q : Option Object) → AlikeOption AlikeObject o q → option_map (λ (x : Object). x.class) o ≡ option_map (λ (x : Object). x.class) q
      by_object None None one = refl
      by_object None (Some y) one = absurd one
      by_object (Some x) None one = absurd one
      by_object (Some x) (Some y) one = ap (λ c. Some c) one.class

  alike_entries : AlikeEntries (entries_at heap p) (entries_at heap' p)
  unfolding entries_at
  alike_entries k = by_object (slice_get heap p) (slice_get heap' p) (pair_get AlikeObject heap heap' p alike)
    where
      by_object : (o q : Option Object) → AlikeOption AlikeObject o q → Pairwise AlikeValue (values_under k (entries_of o)) (values_under k (entries_of q))
      by_object None None one = tt
      by_object None (Some y) one = absurd one
      by_object (Some x) None one = absurd one
      by_object (Some x) (Some y) one = one.entries k

  pub alike_values : (k : KeyId) → Pairwise AlikeValue (values_at heap p k) (values_at heap' p k)
  unfolding values_at
  alike_values k = pair_reverse AlikeValue (filter_map (under k) (entries_at heap p)) (filter_map (under k) (entries_at heap' p)) (alike_entries k)

module _ (heap heap' : List Object) (alike : AlikeHeap heap heap') where
  walks_alike : (ks : List KeyId) (v w : Value) (l : ℕ) → AlikeValue v w → Reaches heap v ks l → Reaches heap' w ks l
  walks_alike [] v w l value walk = (value.labels l).0 walk
  walks_alike (k ∷ ks) v w l value walk =
      let p : ℕ = walk.0 in
      let next = partner AlikeValue (values_at heap p k) (values_at heap' p k) walk.2.0 (alike_values heap heap' alike p k) (value_read heap p k walk.2.0 walk.2.1) in
      (p, sym value.place ∙ walk.1, (next.other, value_there heap' p k next.other next.is_one, walks_alike ks walk.2.0 next.other l next.alike walk.2.2))

  reached_in : (v w : Value) → AlikeValue v w → (l : ℕ) → In l (reached heap v) → In l (reached heap' w)
  reached_in v w value l h = let walk = reached_so heap v l h in reached_all heap' w l walk.0 (walks_alike walk.0 v w l value walk.1)

reached_by : (heap heap' : List Object) (v w : Value) → ((l : ℕ) → In l (reached heap v) → In l (reached heap' w)) → ((l : ℕ) → In l (reached heap' w) → In l (reached heap v)) → reached heap v ≡ reached heap' w
unfolding reached
reached_by heap heap' v w to from = same_by_elements (v.labels ++ labels_behind (length heap) heap v.place) (w.labels ++ labels_behind (length heap') heap' w.place) to from

pub same_reached : (heap heap' : List Object) → AlikeHeap heap heap' → (v w : Value) → AlikeValue v w → reached heap v ≡ reached heap' w
same_reached heap heap' alike v w value =
    reached_by heap heap' v w (λ l h. reached_in heap heap' alike v w value l h) (λ l h. reached_in heap' heap (heap_back heap heap' alike) w v (alike_back v w value) l h)

pub same_own_labels : (f g : Frame) → AlikeValues f.registers g.registers → (xs : List ℕ) → own_labels f xs ≡ own_labels g xs
same_own_labels f g alike xs = same_ascending (flat_map (λ x. (f.registers x).labels) xs) (flat_map (λ x. (g.registers x).labels) xs) to from
  where
    to : (l : ℕ) → In l (flat_map (λ x. (f.registers x).labels) xs) → In l (flat_map (λ x. (g.registers x).labels) xs)
    to l h = let at = from_flat (λ x. (f.registers x).labels) xs l h in in_flat (λ x. (g.registers x).labels) xs at.0 l at.1 (((alike at.0).labels l).0 at.2)

    from : (l : ℕ) → In l (flat_map (λ x. (g.registers x).labels) xs) → In l (flat_map (λ x. (f.registers x).labels) xs)
    from l h = let at = from_flat (λ x. (g.registers x).labels) xs l h in in_flat (λ x. (f.registers x).labels) xs at.0 l at.1 (((alike at.0).labels l).1 at.2)

-- what is put
alike_cons : (j k : KeyId) (v w : Value) (es ds : List (KeyId × Value)) → AlikeValue v w → Pairwise AlikeValue (values_under j es) (values_under j ds) → Pairwise AlikeValue (values_under j ((k, v) ∷ es)) (values_under j ((k, w) ∷ ds))
alike_cons j k v w es ds value rest = by_key (k.0 == j.0)
  where
    by_key : (b : Bool) → Pairwise AlikeValue (cons_option (cond b (Some v) None) (values_under j es)) (cons_option (cond b (Some w) None) (values_under j ds))
    by_key true = (value, rest)
    by_key false = rest

-- of entries without a key, none is under it, and all are under the others
pub values_without : (j k : KeyId) (es : List (KeyId × Value)) → values_under j (without k es) ≡ cond (j.0 == k.0) [] (values_under j es)
values_without j k [] = by_key (j.0 == k.0)
  where
    by_key : (b : Bool) → ◌≡◌ {A = List Value} [] (cond b [] [])
    by_key true = refl
    by_key false = refl
values_without j k (e ∷ es) = by_keys (e.0.0 == k.0) (j.0 == k.0) (e.0.0 == j.0) refl refl refl (values_without j k es)
  where
    all_same : (e.0.0 == k.0) ≡ true → (j.0 == k.0) ≡ true → (e.0.0 == j.0) ≡ false → ⊥
    all_same a b c = false_true (sym c ∙ eq-eqb e.0.0 j.0 (eqb-true e.0.0 k.0 a ∙ sym (eqb-true j.0 k.0 b)))

    first_apart : (e.0.0 == k.0) ≡ true → (j.0 == k.0) ≡ false → (e.0.0 == j.0) ≡ true → ⊥
    first_apart a b c = false_true (sym b ∙ eq-eqb j.0 k.0 (sym (eqb-true e.0.0 j.0 c) ∙ eqb-true e.0.0 k.0 a))

    second_apart : (e.0.0 == k.0) ≡ false → (j.0 == k.0) ≡ true → (e.0.0 == j.0) ≡ true → ⊥
    second_apart a b c = false_true (sym a ∙ eq-eqb e.0.0 k.0 (eqb-true e.0.0 j.0 c ∙ eqb-true j.0 k.0 b))

    by_keys : (a b c : Bool) → (e.0.0 == k.0) ≡ a → (j.0 == k.0) ≡ b → (e.0.0 == j.0) ≡ c → values_under j (without k es) ≡ cond (j.0 == k.0) [] (values_under j es) →
        values_under j (without k (e ∷ es)) ≡ cond (j.0 == k.0) [] (values_under j (e ∷ es))
    by_keys true true true a b c later = simp (a, b, c, later)
    by_keys true true false a b c later = absurd (all_same a b c)
    by_keys true false true a b c later = absurd (first_apart a b c)
    by_keys true false false a b c later = simp (a, b, c, later)
    by_keys false true true a b c later = absurd (second_apart a b c)
    by_keys false true false a b c later = simp (a, b, c, later)
    by_keys false false true a b c later = simp (a, b, c, later)
    by_keys false false false a b c later = simp (a, b, c, later)

alike_without : (k : KeyId) (es ds : List (KeyId × Value)) → AlikeEntries es ds → AlikeEntries (without k es) (without k ds)
alike_without k es ds alike j =
    subst (λ vs. Pairwise AlikeValue vs (values_under j (without k ds))) (sym (values_without j k es))
    (subst (λ vs. Pairwise AlikeValue (cond (j.0 == k.0) [] (values_under j es)) vs) (sym (values_without j k ds)) (by_key (j.0 == k.0)))
  where
    by_key : (b : Bool) → Pairwise AlikeValue (cond b [] (values_under j es)) (cond b [] (values_under j ds))
    by_key true = tt
    by_key false = alike j

alike_put_entry : (k : KeyId) (v w : Value) (es ds : List (KeyId × Value)) → AlikeValue v w → AlikeEntries es ds → AlikeEntries (put_entry k v es) (put_entry k w ds)
alike_put_entry k v w es ds value alike j = by_key (k.0 == 0)
  where
    by_key : (b : Bool) → Pairwise AlikeValue (values_under j (cond b ((k, v) ∷ es) ((k, v) ∷ without k es))) (values_under j (cond b ((k, w) ∷ ds) ((k, w) ∷ without k ds)))
    by_key true = alike_cons j k v w es ds value (alike j)
    by_key false = alike_cons j k v w (without k es) (without k ds) value (alike_without k es ds alike j)

pub alike_put_at : (heap heap' : List Object) (p : ℕ) (k : KeyId) (v w : Value) → AlikeHeap heap heap' → AlikeValue v w → AlikeHeap (put_at heap p k v) (put_at heap' p k w)
alike_put_at [] [] p k v w alike value = tt
alike_put_at [] (o ∷ os) p k v w alike value = absurd alike
alike_put_at (o ∷ os) [] p k v w alike value = absurd alike
alike_put_at (o ∷ os) (q ∷ qs) zero k v w alike value = (record { class = alike.0.class; entries = alike_put_entry k v w o.entries q.entries value alike.0.entries }, alike.1)
alike_put_at (o ∷ os) (q ∷ qs) (suc p) k v w alike value = (alike.0, alike_put_at os qs p k v w alike.1 value)

pub alike_put_to : (heap heap' : List Object) (o q : Option ℕ) (k : KeyId) (v w : Value) → AlikeHeap heap heap' → o ≡ q → AlikeValue v w → AlikeHeap (put_to heap o k v) (put_to heap' q k w)
alike_put_to heap heap' o q k v w alike same value = subst (λ z. AlikeHeap (put_to heap o k v) (put_to heap' z k w)) same (by_place o)
  where
    by_place : (z : Option ℕ) → AlikeHeap (put_to heap z k v) (put_to heap' z k w)
    by_place None = alike
    by_place (Some p) = alike_put_at heap heap' p k v w alike value

-- what is added
pub record AlikeAdded (a b : ℕ × Value) : Type 0 where
  pub place : a.0 ≡ b.0
  pub value : AlikeValue a.1 b.1

pub alike_add_all : (added added' : List (ℕ × Value)) (heap heap' : List Object) → Pairwise AlikeAdded added added' → AlikeHeap heap heap' → AlikeHeap (add_all heap added) (add_all heap' added')
alike_add_all [] [] heap heap' pairs alike = alike
alike_add_all [] (b ∷ bs) heap heap' pairs alike = absurd pairs
alike_add_all (a ∷ more) [] heap heap' pairs alike = absurd pairs
alike_add_all (a ∷ more) (b ∷ bs) heap heap' pairs alike =
    alike_add_all more bs (put_at heap a.0 elem_key a.1) (put_at heap' b.0 elem_key b.1) pairs.1
    (subst (λ p. AlikeHeap (put_at heap a.0 elem_key a.1) (put_at heap' p elem_key b.1)) pairs.0.place (alike_put_at heap heap' a.0 elem_key a.1 b.1 alike pairs.0.value))

pub alike_object : (o : Object) → AlikeObject o o
alike_object o = record { class = refl; entries = λ k. pair_same AlikeValue alike_itself (values_under k o.entries) }

pub alike_more : (heap heap' : List Object) (o q : Object) → AlikeHeap heap heap' → AlikeObject o q → AlikeHeap (heap ++ o ∷ []) (heap' ++ q ∷ [])
alike_more heap heap' o q alike one = pair_append AlikeObject heap heap' (o ∷ []) (q ∷ []) alike (one, tt)

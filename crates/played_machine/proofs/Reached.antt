-- What is read of a heap in order is what the machine's relations say of it.
use Rattle.std.proofs.Common.{◌≡◌, ◌==◌, ◌⊎◌, inl, inr, ℕ, zero, suc, ◌<◌, ◌≤◌, Bool, true, false, cond, List, [], ◌∷◌, ◌++◌, length, Option, Some, None, filter_map, refl, sym, ap, ◌∙◌, subst, arith, eqb-true, eq-eqb, leb-true, leb-false}
use Rattle.std.specs.Prelude.{nat_le}
use Rattle.std.proofs.lemmas.Option.{none-some, same_Some}
use Rattle.vet_base.specs.declared.key_id.KeyId.{KeyId}
use Rattle.vet_base.specs.Members.{In}
use Rattle.vet_base.proofs.Members.{in_front, in_back, in_either, in_flat, from_flat, in_filter_map, from_filter_map, passes_if, one_passes}
use Rattle.app_machine.specs.Names.{Name}
use Rattle.app_machine.specs.Heap.{Value, Object, EntryAt, ClassAt, Reaches}
use Rattle.app_machine.specs.State.{holds}
use Rattle.played_machine.specs.Reading.{class_at, entries_at, under, values_at, handed_places, entries_from, labels_behind, reached}
use Rattle.played_machine.proofs.Counting.{Newcomer, newcomer, counted, counted_most, counted_beyond}
use Rattle.played_machine.proofs.Ordered.{in_reverse, from_reverse, in_once, from_once, in_ascending, from_ascending}

pub class_there : (heap : List Object) (p : ℕ) (class : Name) → class_at heap p ≡ Some class → ClassAt heap p class
unfolding class_at
class_there [] p class e = absurd (none-some class e)
class_there (o ∷ os) zero class e = same_Some o.class class e
class_there (o ∷ os) (suc p) class e = class_there os p class e

pub class_read : (heap : List Object) (p : ℕ) (class : Name) → ClassAt heap p class → class_at heap p ≡ Some class
unfolding class_at
class_read [] p class h = absurd h
class_read (o ∷ os) zero class h = ap (λ c. Some c) h
class_read (o ∷ os) (suc p) class h = class_read os p class h

entry_there : (heap : List Object) (p : ℕ) (k : KeyId) (w : Value) → In (k, w) (entries_at heap p) → EntryAt heap p k w
unfolding entries_at
entry_there [] p k w h = absurd h
entry_there (o ∷ os) zero k w h = h
entry_there (o ∷ os) (suc p) k w h = entry_there os p k w h

entry_read : (heap : List Object) (p : ℕ) (k : KeyId) (w : Value) → EntryAt heap p k w → In (k, w) (entries_at heap p)
unfolding entries_at
entry_read [] p k w h = absurd h
entry_read (o ∷ os) zero k w h = h
entry_read (o ∷ os) (suc p) k w h = entry_read os p k w h

entry_within : (heap : List Object) (p : ℕ) (k : KeyId) (w : Value) → EntryAt heap p k w → p < length heap
entry_within [] p k w h = absurd h
entry_within (o ∷ os) zero k w h = omega arith
entry_within (o ∷ os) (suc p) k w h = let below : p < length os = entry_within os p k w h in omega (arith, below)

-- the values under a key
pub same_key : (j k : KeyId) → j.0 ≡ k.0 → j ≡ k
same_key j k e = ap {B = KeyId} (λ n. record { 0 = n }) e

has_key : (k : KeyId) (e : KeyId × Value) (w : Value) → under k e ≡ Some w → e ≡ (k, w)
has_key k e w is = by_key (e.0.0 == k.0) refl is
  where
    by_key : (b : Bool) → (e.0.0 == k.0) ≡ b → cond b (Some e.1) None ≡ Some w → e ≡ (k, w)
    by_key true same is = ap (λ (j : KeyId). (j, e.1)) (same_key e.0 k (eqb-true e.0.0 k.0 same)) ∙ ap (λ (x : Value). (k, x)) (same_Some e.1 w is)
    by_key false same is = absurd (none-some w is)

under_itself : (k : KeyId) (w : Value) → under k (k, w) ≡ Some w
under_itself k w = ap (λ (b : Bool). cond b (Some w) None) (eq-eqb k.0 k.0 refl)

pub value_there : (heap : List Object) (p : ℕ) (k : KeyId) (w : Value) → In w (values_at heap p k) → EntryAt heap p k w
unfolding values_at
value_there heap p k w h =
    let found = from_filter_map (under k) (entries_at heap p) w (from_reverse (filter_map (under k) (entries_at heap p)) w h) in
    entry_there heap p k w (subst (λ e. In e (entries_at heap p)) (has_key k found.0 w found.2) found.1)

pub value_read : (heap : List Object) (p : ℕ) (k : KeyId) (w : Value) → EntryAt heap p k w → In w (values_at heap p k)
unfolding values_at
value_read heap p k w h =
    in_reverse (filter_map (under k) (entries_at heap p)) w (in_filter_map (under k) (entries_at heap p) (k, w) w (entry_read heap p k w h) (under_itself k w))

-- the handed places
pub was_handed : (handed : List ℕ) (p : ℕ) → In p (handed_places handed) → In p handed
unfolding handed_places
was_handed handed p h = from_reverse handed p (from_once _ p h)

pub is_handed_place : (handed : List ℕ) (p : ℕ) → In p handed → In p (handed_places handed)
unfolding handed_places
is_handed_place handed p h = in_once _ p (in_reverse handed p h)

-- the labels that are reached
module _ (heap : List Object) where
  abbrev beyond : ℕ → KeyId × Value → List ℕ
  beyond n e = e.1.labels ++ labels_behind n heap e.1.place

  through : (v : Value) (e : KeyId × Value) (ks : List KeyId) (l : ℕ) → In e (entries_from heap v.place) → Reaches heap e.1 ks l → Reaches heap v (e.0 ∷ ks) l
  through v e ks l at walk = by_place v.place refl at
    where
      by_place : (o : Option ℕ) → v.place ≡ o → In e (entries_from heap o) → Reaches heap v (e.0 ∷ ks) l
      by_place None is at = absurd at
      by_place (Some p) is at = (p, is, (e.1, entry_there heap p e.0 e.1 at, walk))

  behind_so : (n : ℕ) (v : Value) (l : ℕ) → In l (labels_behind n heap v.place) → (ks : List KeyId) × Reaches heap v ks l
  behind_so zero v l h = absurd h
  behind_so (suc n) v l h =
      let at = from_flat (beyond n) (entries_from heap v.place) l h in
      elim (in_either l at.0.1.labels (labels_behind n heap at.0.1.place) at.2) [
        | inl own ↦ (at.0.0 ∷ [], through v at.0 [] l at.1 own)
        | inr more ↦ let rest = behind_so n at.0.1 l more in (at.0.0 ∷ rest.0, through v at.0 rest.0 l at.1 rest.1)
      ]

  walk_within : (ks : List KeyId) (v : Value) (l : ℕ) → Reaches heap v ks l → In l (v.labels ++ labels_behind (length ks) heap v.place)
  walk_within [] v l walk = in_front l v.labels [] walk
  walk_within (k ∷ ks) v l walk =
      in_back l v.labels (labels_behind (length (k ∷ ks)) heap v.place)
      (subst (λ o. In l (labels_behind (length (k ∷ ks)) heap o)) (sym walk.1)
      (in_flat (beyond (length ks)) (entries_at heap walk.0) (k, walk.2.0) l (entry_read heap walk.0 k walk.2.0 walk.2.1) (walk_within ks walk.2.0 l walk.2.2)))

  module _ (l : ℕ) where
    further : (n m : ℕ) (e : KeyId × Value) → (In l (labels_behind n heap e.1.place) → In l (labels_behind m heap e.1.place)) → In l (beyond n e) → In l (beyond m e)
    further n m e wider h = elim (in_either l e.1.labels (labels_behind n heap e.1.place) h) [
      | inl own ↦ in_front l e.1.labels (labels_behind m heap e.1.place) own
      | inr more ↦ in_back l e.1.labels (labels_behind m heap e.1.place) (wider more)
    ]

    grows : (n : ℕ) (place : Option ℕ) → In l (labels_behind n heap place) → In l (labels_behind (suc n) heap place)
    grows zero place h = absurd h
    grows (suc n) place h =
        let at = from_flat (beyond n) (entries_from heap place) l h in
        in_flat (beyond (suc n)) (entries_from heap place) at.0 l at.1 (further n (suc n) at.0 (λ more. grows n at.0.1.place more) at.2)

    -- one key more leads to no label more
    abbrev Settled : ℕ → Type 0
    Settled n = (place : Option ℕ) → In l (labels_behind (suc n) heap place) → In l (labels_behind n heap place)

    settled_next : (n : ℕ) → Settled n → Settled (suc n)
    settled_next n settled place h =
        let at = from_flat (beyond (suc n)) (entries_from heap place) l h in
        in_flat (beyond n) (entries_from heap place) at.0 l at.1 (further (suc n) n at.0 (λ more. settled at.0.1.place more) at.2)

    abbrev meets : ℕ → ℕ → Bool
    meets n p = holds (labels_behind n heap (Some p)) l

    meets_in : (n p : ℕ) → meets n p ≡ true → In l (labels_behind n heap (Some p))
    meets_in n p h = let one = one_passes (λ d. l == d) (labels_behind n heap (Some p)) h in subst (λ z. In z (labels_behind n heap (Some p))) (sym (eqb-true l one.0 one.2)) one.1

    in_meets : (n p : ℕ) → In l (labels_behind n heap (Some p)) → meets n p ≡ true
    in_meets n p h = passes_if (λ d. l == d) (labels_behind n heap (Some p)) l h (eq-eqb l l refl)

    wider : (n p : ℕ) → meets n p ≡ true → meets (suc n) p ≡ true
    wider n p h = in_meets (suc n) p (grows n (Some p) (meets_in n p h))

    settled_if : (n : ℕ) → ((p : ℕ) → p < length heap → meets (suc n) p ≡ true → meets n p ≡ true) → Settled n
    settled_if n none None h = absurd h
    settled_if n none (Some p) h =
        let at = from_flat (beyond n) (entries_at heap p) l h in
        let below : p < length heap = entry_within heap p at.0.0 at.0.1 (entry_there heap p at.0.0 at.0.1 at.1) in
        meets_in n p (none p below (in_meets (suc n) p h))

    more_or_settled : (n : ℕ) → Settled n ⊎ (n ≤ counted (meets n) (length heap))
    more_or_settled zero = inr (omega arith)
    more_or_settled (suc n) = by_before (more_or_settled n) (newcomer (meets n) (meets (suc n)) (length heap))
      where
        by_before : Settled n ⊎ (n ≤ counted (meets n) (length heap)) → Newcomer (meets n) (meets (suc n)) (length heap) ⊎ ((p : ℕ) → p < length heap → meets (suc n) p ≡ true → meets n p ≡ true) →
            Settled (suc n) ⊎ (suc n ≤ counted (meets (suc n)) (length heap))
        by_before (inl settled) new = inl (settled_next n settled)
        by_before (inr most) (inr none) = inl (settled_next n (settled_if n none))
        by_before (inr most) (inl one) =
            let more : suc (counted (meets n) (length heap)) ≤ counted (meets (suc n)) (length heap) = counted_beyond (meets n) (meets (suc n)) (wider n) (length heap) one.number one.below one.fails one.passes in
            inr (omega (arith, most, more))

    settled_at_last : Settled (length heap)
    settled_at_last = by_before (more_or_settled (length heap)) (newcomer (meets (length heap)) (meets (suc (length heap))) (length heap))
      where
        by_before : Settled (length heap) ⊎ (length heap ≤ counted (meets (length heap)) (length heap)) →
            Newcomer (meets (length heap)) (meets (suc (length heap))) (length heap) ⊎ ((p : ℕ) → p < length heap → meets (suc (length heap)) p ≡ true → meets (length heap) p ≡ true) →
            Settled (length heap)
        by_before (inl settled) new = settled
        by_before (inr most) (inr none) = settled_if (length heap) none
        by_before (inr most) (inl one) =
            let more : suc (counted (meets (length heap)) (length heap)) ≤ counted (meets (suc (length heap))) (length heap) = counted_beyond (meets (length heap)) (meets (suc (length heap))) (wider (length heap)) (length heap) one.number one.below one.fails one.passes in
            let bound : counted (meets (suc (length heap))) (length heap) ≤ length heap = counted_most (meets (suc (length heap))) (length heap) in
            absurd (omega (arith, most, more, bound))

    settled_from : (m : ℕ) → length heap ≤ m → Settled m
    settled_from zero most = let same : length heap ≡ 0 = omega (arith, most) in subst Settled same settled_at_last
    settled_from (suc m) most = by_order (nat_le (length heap) m) refl (settled_from m)
      where
        by_order : (b : Bool) → nat_le (length heap) m ≡ b → (length heap ≤ m → Settled m) → Settled (suc m)
        by_order true e before = settled_next m (before (leb-true (length heap) m e))
        by_order false e before = let same : length heap ≡ suc m = omega (arith, most, leb-false (length heap) m e) in subst Settled same settled_at_last

    upward : (m n : ℕ) (place : Option ℕ) → m ≤ n → In l (labels_behind m heap place) → In l (labels_behind n heap place)
    upward m zero place most h = let same : m ≡ 0 = omega (arith, most) in subst (λ k. In l (labels_behind k heap place)) same h
    upward m (suc n) place most h = by_order (nat_le m n) refl (λ le. upward m n place le h)
      where
        by_order : (b : Bool) → nat_le m n ≡ b → (m ≤ n → In l (labels_behind n heap place)) → In l (labels_behind (suc n) heap place)
        by_order true e before = grows n place (before (leb-true m n e))
        by_order false e before = let same : m ≡ suc n = omega (arith, most, leb-false m n e) in subst (λ k. In l (labels_behind k heap place)) same h

    all_within : (m : ℕ) (place : Option ℕ) → In l (labels_behind m heap place) → In l (labels_behind (length heap) heap place)
    all_within zero place h = absurd h
    all_within (suc m) place h = by_order (nat_le (length heap) m) refl (all_within m place)
      where
        by_order : (b : Bool) → nat_le (length heap) m ≡ b → (In l (labels_behind m heap place) → In l (labels_behind (length heap) heap place)) → In l (labels_behind (length heap) heap place)
        by_order true e before = before (settled_from m (leb-true (length heap) m e) place h)
        by_order false e before = upward (suc m) (length heap) place (leb-false (length heap) m e) h

  pub reached_so : (v : Value) (l : ℕ) → In l (reached heap v) → (ks : List KeyId) × Reaches heap v ks l
  unfolding reached
  reached_so v l h = elim (in_either l v.labels (labels_behind (length heap) heap v.place) (from_ascending (v.labels ++ labels_behind (length heap) heap v.place) l h)) [
    | inl own ↦ ([], own)
    | inr more ↦ behind_so (length heap) v l more
  ]

  pub reached_all : (v : Value) (l : ℕ) (ks : List KeyId) → Reaches heap v ks l → In l (reached heap v)
  unfolding reached
  reached_all v l ks walk = in_ascending (v.labels ++ labels_behind (length heap) heap v.place) l
      (elim (in_either l v.labels (labels_behind (length ks) heap v.place) (walk_within ks v l walk)) [
        | inl own ↦ in_front l v.labels (labels_behind (length heap) heap v.place) own
        | inr more ↦ in_back l v.labels (labels_behind (length heap) heap v.place) (all_within l (length ks) v.place more)
      ])

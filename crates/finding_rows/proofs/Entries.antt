-- Entries of a map that rise by their keys: their keys, and what is in them.
use Rattle.std.proofs.Common.{◌≡◌, ◌⊎◌, List, [], ◌∷◌, refl, sym, ap, subst, ◌∙◌, inl, inr}
use Rattle.std.specs.Prelude.{fold}
use Rattle.std.specs.BTreeMap.{insert_entry}
use Rattle.std.specs.BTreeSet.{insert_key}
use Rattle.std.specs.Cmp.{IsTotalOrder}
use Rattle.std.specs.List.{AllByRecursion}
use Rattle.std.specs.List.Sorted.{IsStrictlySortedBy}
use Rattle.std.specs.Map.{keys_of}
use Rattle.std.specs.Ordering.{match_ordering}
use Rattle.std.specs.declared.cmp.Ordering.{Ordering}
use Rattle.std.specs.declared.cmp.Ordering.TheVariants.{Less, Equal, Greater}
use Rattle.std.proofs.lemmas.Cmp.{tied_itself}
use Rattle.std.proofs.lemmas.Map.Lookups.{CmpEqualImpliesEq}
use Rattle.outcomes.specs.Ascending.{ascending}
use Rattle.vet_base.specs.Members.{In}
use Rattle.vet_base.proofs.Members.{each_in, in_map}
use Rattle.vet_base.proofs.Orders.{turned_back, not_below_itself}

module _ {K V : Type 0} (order : K → K → Ordering) where
  -- the keys of one entry more
  pub keys_inserted : (es : List (K × V)) (k : K) (v : V) → keys_of (insert_entry order es k v) ≡ insert_key order (keys_of es) k
  keys_inserted [] k v = refl
  keys_inserted (e ∷ es) k v = at_order (order k e.0) (keys_inserted es k v)
    where
      at_order : (o : Ordering) → keys_of (insert_entry order es k v) ≡ insert_key order (keys_of es) k →
          keys_of (match_ordering o ((k, v) ∷ e ∷ es) ((e.0, v) ∷ es) (e ∷ insert_entry order es k v)) ≡ match_ordering o (k ∷ e.0 ∷ keys_of es) (e.0 ∷ keys_of es) (e.0 ∷ insert_key order (keys_of es) k)
      at_order Less later = refl
      at_order Equal later = refl
      at_order Greater later = ap (λ (ks : List K). e.0 ∷ ks) later

module _ {K : Type 0} (order : K → K → Ordering) (total : IsTotalOrder order) (exact : CmpEqualImpliesEq order) where
  below_all : (k x : K) (xs : List K) → order k x ≡ Less → AllByRecursion (λ y. order x y ≡ Less) xs → AllByRecursion (λ y. order k y ≡ Less) xs
  below_all k x [] below each = tt
  below_all k x (y ∷ xs) below each = (total.trans k x y below each.0, below_all k x xs below each.1)

  each_inserted : (P : K → Type 0) (ks : List K) (k : K) → AllByRecursion P ks → P k → AllByRecursion P (insert_key order ks k)
  each_inserted P [] k each is = (is, tt)
  each_inserted P (x ∷ xs) k each is = at_order (order k x) (each_inserted P xs k each.1 is)
    where
      at_order : (o : Ordering) → AllByRecursion P (insert_key order xs k) → AllByRecursion P (match_ordering o (k ∷ x ∷ xs) (x ∷ xs) (x ∷ insert_key order xs k))
      at_order Less later = (is, each)
      at_order Equal later = each
      at_order Greater later = (each.0, later)

  -- keys rise with one more
  pub rises_more : (ks : List K) (k : K) → IsStrictlySortedBy order ks → IsStrictlySortedBy order (insert_key order ks k)
  unfolding IsStrictlySortedBy
  rises_more [] k rises = (tt, tt)
  rises_more (x ∷ xs) k rises = at_order (order k x) refl (rises_more xs k rises.1)
    where
      at_order : (o : Ordering) → order k x ≡ o → IsStrictlySortedBy order (insert_key order xs k) → IsStrictlySortedBy order (match_ordering o (k ∷ x ∷ xs) (x ∷ xs) (x ∷ insert_key order xs k))
      at_order Less is later = ((is, below_all k x xs is rises.0), rises)
      at_order Equal is later = rises
      at_order Greater is later = (each_inserted (λ y. order x y ≡ Less) xs k rises.0 (turned_back total k x is), later)

  rises_folded : (ks xs : List K) → IsStrictlySortedBy order ks → IsStrictlySortedBy order (fold (insert_key order) ks xs)
  rises_folded ks [] rises = rises
  rises_folded ks (x ∷ xs) rises = rises_folded (insert_key order ks x) xs (rises_more ks x rises)

  pub ascending_rises : (xs : List K) → IsStrictlySortedBy order (ascending order xs)
  unfolding ascending IsStrictlySortedBy
  ascending_rises xs = rises_folded [] xs tt

  -- what is in them
  pub in_inserted : (ks : List K) (k : K) → In k (insert_key order ks k)
  in_inserted [] k = inl refl
  in_inserted (x ∷ xs) k = at_order (order k x) refl (in_inserted xs k)
    where
      at_order : (o : Ordering) → order k x ≡ o → In k (insert_key order xs k) → In k (match_ordering o (k ∷ x ∷ xs) (x ∷ xs) (x ∷ insert_key order xs k))
      at_order Less is later = inl refl
      at_order Equal is later = inl (exact k x is)
      at_order Greater is later = inr later

  pub in_older : (ks : List K) (k y : K) → In y ks → In y (insert_key order ks k)
  in_older [] k y there = absurd there
  in_older (x ∷ xs) k y there = at_order (order k x) (in_older xs k y) there
    where
      at_order : (o : Ordering) → (In y xs → In y (insert_key order xs k)) → In y (x ∷ xs) → In y (match_ordering o (k ∷ x ∷ xs) (x ∷ xs) (x ∷ insert_key order xs k))
      at_order Less later is = inr is
      at_order Equal later is = is
      at_order Greater later (inl same) = inl same
      at_order Greater later (inr is) = inr (later is)

  pub from_inserted : (ks : List K) (k y : K) → In y (insert_key order ks k) → (y ≡ k) ⊎ In y ks
  from_inserted [] k y there = there
  from_inserted (x ∷ xs) k y there = at_order (order k x) (from_inserted xs k y) there
    where
      at_order : (o : Ordering) → (In y (insert_key order xs k) → (y ≡ k) ⊎ In y xs) → In y (match_ordering o (k ∷ x ∷ xs) (x ∷ xs) (x ∷ insert_key order xs k)) → (y ≡ k) ⊎ In y (x ∷ xs)
      at_order Less later is = is
      at_order Equal later is = inr is
      at_order Greater later (inl same) = inr (inl same)
      at_order Greater later (inr is) = elim (later is) [ inl new ↦ inl new | inr old ↦ inr (inr old) ]

  from_folded : (ks xs : List K) (y : K) → In y (fold (insert_key order) ks xs) → In y ks ⊎ In y xs
  from_folded ks [] y there = inl there
  from_folded ks (x ∷ xs) y there = elim (from_folded (insert_key order ks x) xs y there) [
    | inl front ↦ elim (from_inserted ks x y front) [ inl new ↦ inr (inl new) | inr old ↦ inl old ]
    | inr later ↦ inr (inr later)
  ]

  pub from_ascending : (xs : List K) (y : K) → In y (ascending order xs) → In y xs
  unfolding ascending
  from_ascending xs y there = elim (from_folded [] xs y there) [ inl none ↦ absurd none | inr is ↦ is ]

  not_itself : (k : K) → order k k ≡ Greater → ⊥
  not_itself k is = let e : Equal ≡ Greater = sym (tied_itself total k) ∙ is in absurd cc

  -- an entry is the new one, or an old one of another key
  pub from_entry : {V : Type 0} (es : List (K × V)) (k : K) (v : V) → IsStrictlySortedBy order (keys_of es) → (j : K) (w : V) → In (j, w) (insert_entry order es k v) →
      ((j ≡ k) × (w ≡ v)) ⊎ (In (j, w) es × (k ≡ j → ⊥))
  unfolding IsStrictlySortedBy
  from_entry {V} [] k v rises j w (inl same) = inl (ap (λ (p : K × V). p.0) same, ap (λ (p : K × V). p.1) same)
  from_entry {V} [] k v rises j w (inr none) = absurd none
  from_entry {V} (e ∷ es) k v rises j w there = at_order (order k e.0) refl (from_entry es k v rises.1 j w) there
    where
      above : In (j, w) es → order e.0 j ≡ Less
      above is = each_in (λ y. order e.0 y ≡ Less) (keys_of es) j rises.0 (in_map (λ (p : K × V). p.0) es (j, w) is)

      at_order : (o : Ordering) → order k e.0 ≡ o → (In (j, w) (insert_entry order es k v) → ((j ≡ k) × (w ≡ v)) ⊎ (In (j, w) es × (k ≡ j → ⊥))) →
          In (j, w) (match_ordering o ((k, v) ∷ e ∷ es) ((e.0, v) ∷ es) (e ∷ insert_entry order es k v)) → ((j ≡ k) × (w ≡ v)) ⊎ (In (j, w) (e ∷ es) × (k ≡ j → ⊥))
      at_order Less is later (inl same) = inl (ap (λ (p : K × V). p.0) same, ap (λ (p : K × V). p.1) same)
      at_order Less is later (inr (inl same)) = inr (inl same, λ here. not_below_itself total k e.0 (here ∙ ap (λ (p : K × V). p.0) same) is)
      at_order Less is later (inr (inr old)) = inr (inr old, λ here. not_below_itself total k j here (total.trans k e.0 j is (above old)))
      at_order Equal is later (inl same) = inl (ap (λ (p : K × V). p.0) same ∙ sym (exact k e.0 is), ap (λ (p : K × V). p.1) same)
      at_order Equal is later (inr old) = inr (inr old, λ here. not_below_itself total e.0 j (sym (exact k e.0 is) ∙ here) (above old))
      at_order Greater is later (inl same) = inr (inl same, λ here. not_itself k (subst (λ x. order k x ≡ Greater) (sym (here ∙ ap (λ (p : K × V). p.0) same)) is))
      at_order Greater is later (inr there) = elim (later there) [ inl new ↦ inl new | inr old ↦ inr (inr old.0, old.1) ]

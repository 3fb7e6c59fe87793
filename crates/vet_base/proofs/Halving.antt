-- Halving over an ascending list finds the first element that passes a test, where every element that passes it ties with what
-- is looked for.
use Rattle.std.proofs.Common.{◌≡◌, ◌≢◌, ℕ, ◌<◌, ◌≤◌, Bool, true, false, List, length, get_or, Some, None, Err, refl, sym, ◌⊎◌, inl, inr, ◌∙◌, ap, arith}
use Rattle.std.specs.Prelude.{find}
use Rattle.std.specs.Ordering.{ordering_index}
use Rattle.std.specs.declared.cmp.Ordering.{Ordering}
use Rattle.std.specs.declared.cmp.Ordering.TheVariants.{Less, Equal, Greater}
use Rattle.std.specs.Cmp.{IsTotalOrder}
use Rattle.std.specs.List.Sorted.{IsBinarySearchResult, IsNonDecreasingBy}
use Rattle.std.proofs.lemmas.Bool.{cases_lt, false_from_ne_true}
use Rattle.std.proofs.lemmas.Cmp.{alike_right, on_total}
use Rattle.std.proofs.lemmas.List.{get_or_default}
use Rattle.vet_base.specs.Ascending.{Ascends}
use Rattle.vet_base.specs.Members.{first_index}
use Rattle.vet_base.proofs.Ascending.{ascends_pairs}
use Rattle.vet_base.proofs.Firsts.{first_is, first_is_none}

place_beside : (j i : ℕ) → (j < i) ⊎ ((j ≡ i) ⊎ (i < j))
place_beside j i = elim (cases_lt j i) [ inl below ↦ inl below | inr above ↦ elim (cases_lt i j) [ inl beyond ↦ inr (inr beyond) | inr same ↦ inr (inl (omega arith)) ] ]

module _ {A K : Type 0} (key : A → K) {cmp : K → K → Ordering} (total : IsTotalOrder cmp) where
  pub later : (xs : List A) → Ascends (λ a b. cmp (key a) (key b)) xs → (i j : ℕ) (d : A) → i < j → j < length xs → cmp (key (get_or xs i d)) (key (get_or xs j d)) ≡ Less
  later xs sorted i j d below within = ascends_pairs (λ a b. cmp (key a) (key b)) (on_total key total) xs sorted i j d below within

  module _ (xs : List A) (sorted : Ascends (λ a b. cmp (key a) (key b)) xs) (sought : K) where
    -- an element that ties with what is looked for: those before it are below, and those after it above
    before_tie : (i j : ℕ) (d : A) → i < length xs → cmp (key (get_or xs i d)) sought ≡ Equal → j < i → cmp (key (get_or xs j d)) sought ≡ Less
    before_tie i j d within ties below = sym (alike_right total (key (get_or xs i d)) sought (key (get_or xs j d)) ties) ∙ later xs sorted j i d below within

    after_tie : (i j : ℕ) (d : A) → cmp (key (get_or xs i d)) sought ≡ Equal → i < j → j < length xs → cmp (key (get_or xs j d)) sought ≡ Greater
    after_tie i j d ties above within =
        let back : cmp sought (key (get_or xs j d)) ≡ Less = sym (total.congr (key (get_or xs i d)) sought (key (get_or xs j d)) ties) ∙ later xs sorted i j d above within in
        rw (total.antisymm (key (get_or xs j d)) sought, back)

    after_greater : (i j : ℕ) (d : A) → cmp (key (get_or xs i d)) sought ≡ Greater → i < j → j < length xs → cmp (key (get_or xs j d)) sought ≡ Greater
    after_greater i j d greater above within =
        let less : cmp sought (key (get_or xs i d)) ≡ Less = rw (total.antisymm sought (key (get_or xs i d)), greater) in
        let back : cmp sought (key (get_or xs j d)) ≡ Less = total.trans sought (key (get_or xs i d)) (key (get_or xs j d)) less (later xs sorted i j d above within) in
        rw (total.antisymm (key (get_or xs j d)) sought, back)

    index_at_least : (o p : Ordering) → (o ≡ Equal → p ≡ Greater) → (o ≡ Greater → p ≡ Greater) → ordering_index o ≤ ordering_index p
    index_at_least Less p tie greater = omega arith
    index_at_least Equal p tie greater = rw (tie refl) (omega arith)
    index_at_least Greater p tie greater = rw (greater refl) (omega arith)

    index_upward : (i j : ℕ) (d : A) → j < length xs → (i ≡ j) ⊎ (i < j) → ordering_index (cmp (key (get_or xs i d)) sought) ≤ ordering_index (cmp (key (get_or xs j d)) sought)
    index_upward i j d within (inl same) = rw same (omega arith)
    index_upward i j d within (inr below) = index_at_least (cmp (key (get_or xs i d)) sought) (cmp (key (get_or xs j d)) sought) (λ ties. after_tie i j d ties below within) (λ greater. after_greater i j d greater below within)

    rises : IsNonDecreasingBy (λ y. ordering_index (cmp (key y) sought)) xs
    rises i j d upto within = index_upward i j d within ((elim (cases_lt i j) [ inl below ↦ inr below | inr above ↦ inl (omega arith) ]))

    module _ (test : A → Bool) (implies : (x : A) → test x ≡ true → cmp (key x) sought ≡ Equal) where
      fails_unless : (x : A) → cmp (key x) sought ≢ Equal → test x ≡ false
      fails_unless x differs = false_from_ne_true (test x) (λ passes. differs (implies x passes))

      fails_before : (i : ℕ) (d : A) → i < length xs → cmp (key (get_or xs i d)) sought ≡ Equal → (j : ℕ) → j < i → test (get_or xs j d) ≡ false
      fails_before i d within ties j below = let less : cmp (key (get_or xs j d)) sought ≡ Less = before_tie i j d within ties below in fails_unless (get_or xs j d) (λ same. cc)

      fails_after : (i : ℕ) (d : A) → cmp (key (get_or xs i d)) sought ≡ Equal → (j : ℕ) → i < j → j < length xs → test (get_or xs j d) ≡ false
      fails_after i d ties j above within = let greater : cmp (key (get_or xs j d)) sought ≡ Greater = after_tie i j d ties above within in fails_unless (get_or xs j d) (λ same. cc)

      -- the one that ties passes
      pub found_at : (i : ℕ) (x : A) → i < length xs → x ≡ get_or xs i x → cmp (key (get_or xs i x)) sought ≡ Equal → test x ≡ true → (first_index test xs ≡ Some i) × (find test xs ≡ Some x)
      found_at i x within is ties passes =
          let first : (first_index test xs ≡ Some i) × (find test xs ≡ Some (get_or xs i x)) = first_is test xs i x within (ap test (sym is) ∙ passes) (fails_before i x within ties) in
          (first.0, first.1 ∙ ap (λ y. Some y) (sym is))

      fails_at : (i : ℕ) (x : A) → i < length xs → x ≡ get_or xs i x → cmp (key (get_or xs i x)) sought ≡ Equal → test x ≡ false → (j : ℕ) → j < length xs → (j < i) ⊎ ((j ≡ i) ⊎ (i < j)) → test (get_or xs j x) ≡ false
      fails_at i x within is ties fails j below (inl before) = fails_before i x within ties j before
      fails_at i x within is ties fails j below (inr (inl same)) = ap (λ k. test (get_or xs k x)) same ∙ (ap test (sym is) ∙ fails)
      fails_at i x within is ties fails j below (inr (inr after)) = fails_after i x ties j after below

      -- the one that ties fails
      pub found_none : (i : ℕ) (x : A) → i < length xs → x ≡ get_or xs i x → cmp (key (get_or xs i x)) sought ≡ Equal → test x ≡ false → (first_index test xs ≡ None) × (find test xs ≡ None)
      found_none i x within is ties fails = first_is_none test xs (λ j d below. ap test (get_or_default xs j d x below) ∙ fails_at i x within is ties fails j below (place_beside j i))

      -- none ties
      pub found_nowhere : (i : ℕ) → i ≤ length xs → IsBinarySearchResult (λ y. cmp (key y) sought) xs (Err i) → (first_index test xs ≡ None) × (find test xs ≡ None)
      found_nowhere i within parted = first_is_none test xs (λ j d below. fails_beside i parted j d below (cases_lt j i))
        where
          fails_beside : (i : ℕ) → IsBinarySearchResult (λ y. cmp (key y) sought) xs (Err i) → (j : ℕ) (d : A) → j < length xs → (j < i) ⊎ (i ≤ j) → test (get_or xs j d) ≡ false
          fails_beside i parted j d below (inl before) = let less : cmp (key (get_or xs j d)) sought ≡ Less = (parted rises).0 j d (omega arith) before in fails_unless (get_or xs j d) (λ same. cc)
          fails_beside i parted j d below (inr from) = let greater : cmp (key (get_or xs j d)) sought ≡ Greater = (parted rises).1 j d from below in fails_unless (get_or xs j d) (λ same. cc)

-- An index with one key more has the places of the longer list.
use Rattle.std.proofs.Common.{◌≡◌, ℕ, suc, Bool, true, false, cond, List, [], ◌∷◌, ◌++◌, length, Option, Some, None, option_map, refl, ap, sym, ◌∙◌, ⊎_elim, Bor, option_copied, is_some, subst, IfSome, ◌<◌, arith}
use Rattle.std.specs.Option.{option_or}
use Rattle.std.specs.declared.cmp.Ordering.{Ordering}
use Rattle.std.specs.Ordering.{is_eq}
use Rattle.std.specs.Cmp.{IsEquivalence}
use Rattle.std.specs.BTreeMap.{BTreeMap, get, Updates}
use Rattle.form_fields.specs.Places.{place_of, HasPlaces}
use Rattle.std.proofs.lemmas.Bool.{cases_Bool}

module _ {K : Type 0} (same : K → K → Bool) where
  -- where x stands in a list with one key more
  last_place : Bool → ℕ → Option ℕ
  last_place true n = Some n
  last_place false n = None

  step_or : (o : Option ℕ) (b : Bool) (n : ℕ) → option_map suc (option_or o (last_place b n)) ≡ option_or (option_map suc o) (last_place b (suc n))
  unfolding last_place
  step_or None true n = refl
  step_or None false n = refl
  step_or (Some x) b n = refl

  place_step : (x : K) (k : K) (ks : List K) (b : Bool) → same x k ≡ b → place_of same x (k ∷ ks) ≡ cond b (Some 0) (option_map suc (place_of same x ks))
  unfolding place_of
  place_step x k ks b e = rw e refl

  place_last : (x : K) (keys : List K) (k : K) → place_of same x (keys ++ k ∷ []) ≡ option_or (place_of same x keys) (last_place (same x k) (length keys))
  unfolding place_of last_place
  place_last x [] k = elim (same x k) as (λ b. cond b (Some 0) (option_map suc None) ≡ last_place b 0) [ true ↦ refl | false ↦ refl ]
  place_last x (j ∷ keys) k =
      let after = last_place (same x k) (length (j ∷ keys)) in
      ⊎_elim
      (λ e. place_step x j (keys ++ k ∷ []) true e ∙ sym (ap (λ o. option_or o after) (place_step x j keys true e)))
      (λ e. place_step x j (keys ++ k ∷ []) false e ∙ ap (option_map suc) (place_last x keys k) ∙ step_or (place_of same x keys) (same x k) (length keys)
      ∙ sym (ap (λ o. option_or o after) (place_step x j keys false e)))
      (cases_Bool (same x j))

  -- a place is below the length
  below_suc : (o : Option ℕ) (n : ℕ) → IfSome o (λ i. i < n) → IfSome (option_map suc o) (λ i. i < suc n)
  below_suc None n h = tt
  below_suc (Some i) n h = omega (arith, h)

  pub place_is_within : (x : K) (keys : List K) → IfSome (place_of same x keys) (λ i. i < length keys)
  unfolding place_of
  place_is_within x [] = tt
  place_is_within x (k ∷ keys) =
      elim (same x k) as (λ b. IfSome (cond b (Some 0) (option_map suc (place_of same x keys))) (λ i. i < suc (length keys))) [
        | true ↦ omega arith
        | false ↦ below_suc (place_of same x keys) (length keys) (place_is_within x keys)
      ]

  pub is_within : (o : Option ℕ) (x : K) (keys : List K) → o ≡ place_of same x keys → IfSome o (λ i. i < length keys)
  is_within o x keys e = rw e (place_is_within x keys)

  -- two keys that are the same stand at the same place
  place_same : IsEquivalence same → (q k : K) (keys : List K) → same q k ≡ true → place_of same q keys ≡ place_of same k keys
  unfolding place_of
  place_same laws q k [] e = refl
  place_same laws q k (j ∷ keys) e = rw (laws.congr q k j e, place_same laws q k keys e) refl

  or_None : (o : Option ℕ) → option_or o None ≡ o
  or_None None = refl
  or_None (Some x) = refl

  -- the key is not there yet
  pub more_absent : (cmp : K → K → Ordering) → IsEquivalence same → ((x y : K) → same x y ≡ is_eq (cmp x y))
      → (m n : BTreeMap K ℕ) (keys : List K) (k : K) → HasPlaces cmp same m keys → get cmp m k ≡ None → Updates cmp m n k (Some (length keys))
      → HasPlaces cmp same n (keys ++ k ∷ [])
  unfolding last_place
  more_absent cmp laws agree m n keys k has none updates = record {
    at = λ q.
        let there = updates.0 q in
        let tested : is_eq (cmp k q) ≡ same q k = sym (agree k q) ∙ laws.symm k q in
        ⊎_elim
        (λ e. let gone : place_of same q keys ≡ None = place_same laws q k keys e ∙ sym (has.at k) ∙ none in
        there ∙ ap (λ b. cond b (Some (length keys)) (get cmp m q)) (tested ∙ e)
        ∙ sym (place_last q keys k ∙ ap (λ b. option_or (place_of same q keys) (last_place b (length keys))) e ∙ ap (λ o. option_or o (Some (length keys))) gone))
        (λ e. there ∙ ap (λ b. cond b (Some (length keys)) (get cmp m q)) (tested ∙ e) ∙ has.at q
        ∙ sym (place_last q keys k ∙ ap (λ b. option_or (place_of same q keys) (last_place b (length keys))) e ∙ or_None (place_of same q keys)))
        (cases_Bool (same q k));
  }

  keeps : (o : Option ℕ) (p : Option ℕ) (n : ℕ) → o ≡ Some n → option_or o p ≡ o
  keeps (Some x) p n e = refl
  keeps None p n e = cc

  -- the key is there already
  pub more_present : (cmp : K → K → Ordering) → IsEquivalence same
      → (m : BTreeMap K ℕ) (keys : List K) (k : K) (place : ℕ) → HasPlaces cmp same m keys → get cmp m k ≡ Some place
      → HasPlaces cmp same m (keys ++ k ∷ [])
  unfolding last_place
  more_present cmp laws m keys k place has there = record {
    at = λ q.
        ⊎_elim
        (λ e. let found : place_of same q keys ≡ Some place = place_same laws q k keys e ∙ sym (has.at k) ∙ there in
        has.at q ∙ sym (place_last q keys k ∙ keeps (place_of same q keys) (last_place (same q k) (length keys)) place found))
        (λ e. has.at q ∙ sym (place_last q keys k ∙ ap (λ b. option_or (place_of same q keys) (last_place b (length keys))) e ∙ or_None (place_of same q keys)))
        (cases_Bool (same q k));
  }

pub is_not_there : (r : Option (Bor ℕ)) (o : Option ℕ) → option_copied r ≡ o → is_some r ≡ false → o ≡ None
is_not_there None o e h = sym e
is_not_there (Some x) o e h = cc

pub is_there : (r : Option (Bor ℕ)) (o : Option ℕ) → option_copied r ≡ o → is_some r ≡ true → (n : ℕ) × (o ≡ Some n)
is_there (Some x) o e h = (x.now, sym e)
is_there None o e h = absurd cc

pub more_absent_at : {K : Type 0} (same : K → K → Bool) (cmp : K → K → Ordering) → IsEquivalence same → ((x y : K) → same x y ≡ is_eq (cmp x y))
    → (m n : BTreeMap K ℕ) (keys : List K) (k : K) (place : ℕ) → place ≡ length keys → HasPlaces cmp same m keys → get cmp m k ≡ None → Updates cmp m n k (Some place)
    → HasPlaces cmp same n (keys ++ k ∷ [])
more_absent_at same cmp laws agree m n keys k place is has none updates =
    more_absent same cmp laws agree m n keys k has none (subst (λ (p : ℕ). Updates cmp m n k (Some p)) is updates)

-- Numbers of first elements, as they are put in from the last element to the first.
use Rattle.std.proofs.Common.{◌≡◌, ℕ, suc, ◌+◌, ◌<◌, ◌≤◌, Bool, true, false, cond, List, length, get_or, drop, Option, Some, None, option_map, refl, sym, ◌∙◌, ap, arith}
use Rattle.std.specs.HashMap.{HashMap, get, IsEmpty, Updates}
use Rattle.std.specs.Map.{lookup}
use Rattle.std.proofs.lemmas.List.{drop_all}
use Rattle.app_index.specs.Numbers.{HasFirst}
use Rattle.vet_base.specs.Members.{first_index}
use Rattle.vet_base.proofs.Lists.{drop_read}
use Rattle.vet_base.proofs.Options.{map_itself}

-- the map has the numbers of the elements from this one on
pub record HasFrom {A K S : Type 0} (same : K → K → Bool) (is_of : K → A → Bool) (numbers : HashMap K ℕ S) (from : ℕ) (xs : List A) : Type 0 where
  pub at : (q : K) → get same numbers q ≡ option_map (λ k. from + k) (first_index (is_of q) (drop from xs))

shifted : (to : ℕ) (o : Option ℕ) → option_map (λ k. to + k) (option_map suc o) ≡ option_map (λ k. to + 1 + k) o
shifted to None = refl
shifted to (Some k) = let same : to + suc k ≡ to + 1 + k = omega arith in ap (λ y. Some y) same

at_front : (to : ℕ) (b : Bool) (o : Option ℕ) → option_map (λ k. to + k) (cond b (Some 0) (option_map suc o)) ≡ cond b (Some to) (option_map (λ k. to + 1 + k) o)
at_front to true o = let same : to + 0 ≡ to = omega arith in ap (λ y. Some y) same
at_front to false o = shifted to o

front_is : {A K : Type 0} (is_of : K → A → Bool) (to : ℕ) (x : A) (xs : List A) (q : K) → to < length xs → x ≡ get_or xs to x →
    option_map (λ k. to + k) (first_index (is_of q) (drop to xs)) ≡ cond (is_of q x) (Some to) (option_map (λ k. to + 1 + k) (first_index (is_of q) (drop (to + 1) xs)))
front_is is_of to x xs q within is =
    ap (λ ys. option_map (λ k. to + k) (first_index (is_of q) ys)) (drop_read xs to x within is) ∙ at_front to (is_of q x) (first_index (is_of q) (drop (to + 1) xs))

module _ {A K S : Type 0} (same : K → K → Bool) (is_of : K → A → Bool) where
  pub none_yet : (numbers : HashMap K ℕ S) (from : ℕ) (xs : List A) → IsEmpty numbers → length xs ≤ from → HasFrom same is_of numbers from xs
  none_yet numbers from xs empty past = record { at = λ q. ap (λ es. lookup (same q) es) empty ∙ sym (ap (λ ys. option_map (λ k. from + k) (first_index (is_of q) ys)) (drop_all from xs past)) }

  pub all_there : (numbers : HashMap K ℕ S) (xs : List A) → HasFrom same is_of numbers 0 xs → HasFirst same is_of numbers xs
  all_there numbers xs has = record { at = λ q. has.at q ∙ map_itself (λ k. 0 + k) (λ k. omega arith) (first_index (is_of q) xs) }

  module _ (to from : ℕ) (x : A) (xs : List A) (within : to < length xs) (is : x ≡ get_or xs to x) (next : to + 1 ≡ from) where
    -- the element is numbered
    pub one_more : (old new : HashMap K ℕ S) (key : K) → ((q : K) → same key q ≡ is_of q x) → Updates same old new key (Some to) → HasFrom same is_of old from xs → HasFrom same is_of new to xs
    one_more old new key of updates has = record {
      at = λ q. updates.0 q ∙ (ap (λ b. cond b (Some to) (get same old q)) (of q)
          ∙ (ap (λ o. cond (is_of q x) (Some to) o) (has.at q ∙ ap (λ n. option_map (λ k. n + k) (first_index (is_of q) (drop n xs))) (sym next))
          ∙ sym (front_is is_of to x xs q within is)));
    }

    -- the element has no key
    pub passed_by : (old : HashMap K ℕ S) → ((q : K) → is_of q x ≡ false) → HasFrom same is_of old from xs → HasFrom same is_of old to xs
    passed_by old of has = record {
      at = λ q. has.at q ∙ (ap (λ n. option_map (λ k. n + k) (first_index (is_of q) (drop n xs))) (sym next)
          ∙ (ap (λ b. cond b (Some to) (option_map (λ k. to + 1 + k) (first_index (is_of q) (drop (to + 1) xs)))) (sym (of q))
          ∙ sym (front_is is_of to x xs q within is)));
    }

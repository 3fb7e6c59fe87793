-- Handlers that begin one behind the other, and the search for one by halving.
use Rattle.std.proofs.Common.{◌≡◌, ℕ, zero, suc, ◌+◌, ◌<◌, ◌≤◌, true, false, List, [], ◌∷◌, inl, inr, ◌++◌, length, get_or, refl, subst, arith, Result, Ok, Err, below_more, length-append}
use Rattle.std.specs.Prelude.{Some, None, AllPairs, MatchResult, nat_eq}
use Rattle.std.specs.List.Sorted.{IsBinarySearchResult, IsNonDecreasingBy, IsSearchInRange}
use Rattle.std.specs.Ordering.{nat_cmp, ordering_index}
use Rattle.std.specs.declared.cmp.Ordering.TheVariants.{Less, Equal, Greater}
use Rattle.std.proofs.lemmas.List.{get_or_append_left, get_or_push}
use Rattle.std.proofs.lemmas.List.Quantifiers.{all_pairs_push}
use Rattle.std.proofs.Math.Nat.{eq-or-lt_of_le}
use Rattle.std.proofs.lemmas.Bool.Decides.{nat_tests}
use Rattle.dex_bodies.specs.declared.handlers.Handler.{Handler}
use Rattle.dex_bodies.specs.Handlers.{handler_at}
use Rattle.dex_bodies.specs.Rising.{AreRising}
use Rattle.std.proofs.lemmas.Bool.{cases_lt}

pub none_rise : (end : ℕ) → AreRising [] end
none_rise end = record { pairs = λ i j d lt below. absurd (omega arith); below = λ k d lt. absurd (omega arith) }

-- one more handler, which begins at the end of those before it
pub rising_push : (hs : List Handler) (end : ℕ) (h : Handler) (next : ℕ) → AreRising hs end → h.at ≡ end → end < next → AreRising (hs ++ h ∷ []) next
rising_push hs end h next are begins ahead = record {
  pairs = all_pairs_push (λ (h k : Handler). h.at < k.at) hs h are.pairs (λ k d lt. let b : (get_or hs k d).at < end = are.below k d lt in omega arith);
  below = λ k d lt. below_more (λ (i : ℕ). (get_or (hs ++ h ∷ []) i d).at < next) (length hs)
      (λ i under. let b : (get_or hs i d).at < end = are.below i d under in rw get_or_append_left (omega arith))
      (let here : get_or (hs ++ h ∷ []) (length hs) d ≡ h = get_or_push hs h d (length hs) refl in rw here (omega arith))
      k (let len : length (hs ++ h ∷ []) ≡ length hs + 1 = length-append hs (h ∷ []) in omega arith);
}

-- how the number of an answer goes with what is compared
index_rises : (a b c : ℕ) → a ≤ b → ordering_index (nat_cmp a c) ≤ ordering_index (nat_cmp b c)
index_rises a b c le = grind (arith, nat_tests)

equal_is : (a b : ℕ) → nat_cmp a b ≡ Equal → a ≡ b
equal_is a b e = grind (arith, nat_tests)

less_is_not : (a b : ℕ) → nat_cmp a b ≡ Less → a ≡ b → ⊥
less_is_not a b e same = grind (arith, nat_tests)

greater_is_not : (a b : ℕ) → nat_cmp a b ≡ Greater → a ≡ b → ⊥
greater_is_not a b e same = grind (arith, nat_tests)

-- the handler at an index begins where it begins, and no other does
found_at : (hs : List Handler) (i at : ℕ) (d : Handler) → i < length hs → AllPairs (λ (h k : Handler). h.at < k.at) hs → (get_or hs i d).at ≡ at → handler_at at hs ≡ Some (get_or hs i d)
unfolding handler_at
found_at [] i at d lt pairs e = absurd (omega arith)
found_at (h ∷ hs) zero at d lt pairs e = let t : nat_eq h.at at ≡ true = grind (arith, nat_tests) in rw t refl
found_at (h ∷ hs) (suc i) at d lt pairs e =
    let before : h.at < (get_or hs i d).at = pairs 0 (suc i) d (omega arith) lt in
    let t : nat_eq h.at at ≡ false = grind (arith, nat_tests) in
    rw t (found_at hs i at d (omega arith) (λ j k d' jk below. pairs (suc j) (suc k) d' (omega arith) (omega arith)) e)

none_at : (hs : List Handler) (at : ℕ) → ((k : ℕ) (d : Handler) → k < length hs → (get_or hs k d).at ≡ at → ⊥) → handler_at at hs ≡ None
unfolding handler_at
none_at [] at none = refl
none_at (h ∷ hs) at none =
    let other : h.at ≡ at → ⊥ = none 0 h (omega arith) in
    let t : nat_eq h.at at ≡ false = grind (arith, nat_tests) in
    rw t (none_at hs at (λ k d lt. none (suc k) d (omega arith)))

answers_rise : (hs : List Handler) (end at : ℕ) → AreRising hs end → IsNonDecreasingBy (λ (h : Handler). ordering_index (nat_cmp h.at at)) hs
answers_rise hs end at are i j d le lt =
    let not_before : (get_or hs i d).at ≤ (get_or hs j d).at = elim (eq-or-lt_of_le {n = i} {m = j} le) [
      | inr below ↦ (let b : (get_or hs i d).at < (get_or hs j d).at = are.pairs i j d below lt in omega arith)
      | inl same ↦ subst (λ (k : ℕ). (get_or hs i d).at ≤ (get_or hs k d).at) same (omega arith)
    ] in
    index_rises (get_or hs i d).at (get_or hs j d).at at not_before

-- what the search by halving says, once the handlers begin one behind the other
pub searched : (hs : List Handler) (end at : ℕ) (r : Result ℕ ℕ) → AreRising hs end → IsSearchInRange r (length hs) → IsBinarySearchResult (λ (h : Handler). nat_cmp h.at at) hs r
    → MatchResult r (λ i. (d : Handler) → handler_at at hs ≡ Some (get_or hs i d)) (λ _. handler_at at hs ≡ None)
searched hs end at (Ok i) are range is = λ d. found_at hs i at d range are.pairs (equal_is _ _ (is d))
searched hs end at (Err i) are range is =
    let split = is (answers_rise hs end at are) in
    none_at hs at (λ k d lt same. elim (cases_lt k i) [
      | inl under ↦ less_is_not (get_or hs k d).at at (split.0 k d (omega arith) under) same
      | inr over ↦ greater_is_not (get_or hs k d).at at (split.1 k d over lt) same
    ])

-- Places that a search meets, each once.
use Rattle.std.proofs.Common.{◌≡◌, ◌⊎◌, inl, inr, ℕ, ◌+◌, ◌*◌, ◌-◌, ◌<◌, ◌≤◌, Bool, true, false, not, cond, List, ◌∷◌, ◌++◌, [], length, refl, sym, ap, ◌∙◌, subst, arith, eqb-true}
use Rattle.std.specs.BTreeSet.{BTreeSet, insert_key}
use Rattle.std.specs.BTreeMap.{is_at}
use Rattle.std.specs.List.{All, list_any}
use Rattle.std.specs.List.Sorted.{IsStrictlySortedBy}
use Rattle.std.specs.Ordering.{is_eq, nat_cmp}
use Rattle.std.proofs.lemmas.Map.Views.{All-insert_key, length-le_from_below}
use Rattle.app_machine.specs.Heap.{Value, Object}
use Rattle.played_machine.specs.Reading.{labels_behind, reached}
use Rattle.played_machine.proofs.Ordered.{false_true, in_ascending, from_ascending}
use Rattle.runner_heap.proofs.Under.{order_test}
use Rattle.std.specs.Prelude.{◌↔◌}
use Rattle.std.specs.Bool.{OnFalse}
use Rattle.vet_base.specs.Members.{In}
use Rattle.vet_base.proofs.Members.{all_from_in}
use Rattle.runner_reach.specs.Search.{IsMet, has_met, MeetsNow, Meets, AddsObject}
use Rattle.runner_reach.proofs.Searching.{Searched, goes_on, meets}
use Rattle.runner_state.specs.declared.value.Held.{Held}
use Rattle.runner_state.specs.declared.labels.Labels.{Labels}
use Rattle.runner_state.specs.Shown.{labels_of, value_of}
use Rattle.runner_state.proofs.Marks.{labels_ascend}

pub none_met : (met : BTreeSet ℕ) → met.keys ≡ [] → (p : ℕ) → has_met met p ≡ false
none_met met empty p = ap (list_any (is_at (nat_cmp p))) empty

pub met_none : (n : ℕ) (met : BTreeSet ℕ) → met.keys ≡ [] → IsStrictlySortedBy nat_cmp met.keys → IsMet n met
met_none n met empty ascend = record { below = subst (All (λ p. p < n)) (sym empty) (all_from_in (λ p. p < n) [] (λ p h. absurd h)); ascend = ascend }

pub same_met : (n : ℕ) (old new : BTreeSet ℕ) → new.keys ≡ old.keys → IsMet n old → IsMet n new
same_met n old new same is = record { below = subst (All (λ p. p < n)) (sym same) is.below; ascend = subst (IsStrictlySortedBy nat_cmp) (sym same) is.ascend }

module _ (n place : ℕ) (old new : BTreeSet ℕ) (within : place < n) (was : IsMet n old)
    (updates : (q : ℕ) → has_met new q ≡ cond (is_eq (nat_cmp place q)) true (has_met old q)) (at_place : has_met new place ≡ true)
    (keys : new.keys ≡ insert_key nat_cmp old.keys place) (ordered : IsStrictlySortedBy nat_cmp new.keys) where
  meets_now : length new.keys ≡ length old.keys + 1 → MeetsNow n place old new
  meets_now more = record {
    within = within;
    one_more = more;
    kept = λ p h. updates p ∙ by_test (is_eq (nat_cmp place p)) (has_met old p) h;
    there = at_place;
    comes = λ p h. from_test p (is_eq (nat_cmp place p)) refl (sym (updates p) ∙ h);
    is_met = record { below = subst (All (λ p. p < n)) (sym keys) (All-insert_key nat_cmp place (λ p. p < n) old.keys was.below within); ascend = ordered };
  }
    where
      by_test : (b c : Bool) → c ≡ true → cond b true c ≡ true
      by_test true c h = refl
      by_test false c h = h

      from_test : (p : ℕ) (b : Bool) → is_eq (nat_cmp place p) ≡ b → cond b true (has_met old p) ≡ true → (p ≡ place) ⊎ (has_met old p ≡ true)
      from_test p true e h = inl (sym (eqb-true place p (sym (order_test place p) ∙ e)))
      from_test p false e h = inr h

  pub meets_if : (b : Bool) → b ≡ not (has_met old place) → OnFalse b (new.keys ≡ old.keys) → length new.keys ≡ length old.keys + cond b 1 0 → Meets n place old new b
  meets_if true is unchanged more = meets_now more
  meets_if false is unchanged more = record { same = unchanged; past = inr (was_there (has_met old place) is) }
    where
      was_there : (c : Bool) → false ≡ not c → c ≡ true
      was_there true e = refl
      was_there false e = absurd (false_true e)

-- a turn of the search
module _ (heap : List Object) (from : Value) (labels new_labels : List ℕ) (met new_met : BTreeSet ℕ) (waiting rest left : List Held) (v : Held)
    (joins : (l : ℕ) → In l new_labels ↔ (In l labels ⊎ In l (value_of v).labels)) (taken : waiting ≡ rest ++ v ∷ []) (searched : Searched heap from labels (has_met met) waiting) where
  pub turn_searches : AddsObject heap (value_of v) met new_met rest left → Searched heap from new_labels (has_met new_met) left
  turn_searches (inl stays) = goes_on heap from labels new_labels (has_met met) (has_met new_met) waiting rest left v joins taken searched stays.rest (λ p. ap (list_any (is_at (nat_cmp p))) (sym stays.same)) stays.past
  turn_searches (inr new) = meets heap from labels new_labels (has_met met) (has_met new_met) waiting rest left v joins taken searched new.place new.is_place new.adds new.meets.kept new.meets.there new.meets.comes

pub turn_is_met : (heap : List Object) (v : Value) (met new_met : BTreeSet ℕ) (rest left : List Held) → IsMet (length heap) met → AddsObject heap v met new_met rest left → IsMet (length heap) new_met
turn_is_met heap v met new_met rest left is (inl stays) = same_met (length heap) met new_met stays.same is
turn_is_met heap v met new_met rest left is (inr new) = new.meets.is_met

-- how much is left to do: each turn takes a value from those that wait, or meets an object
abbrev pub left_to_do : ℕ → BTreeSet ℕ → List Held → ℕ
left_to_do n met waiting = (n - length met.keys) * 18446744073709551616 + length waiting

one_longer : (xs : List Held) (v : Held) → length (xs ++ v ∷ []) ≡ length xs + 1
one_longer [] v = refl
one_longer (x ∷ xs) v = let later : length (xs ++ v ∷ []) ≡ length xs + 1 = one_longer xs v in omega (arith, later)

pub turn_takes : (heap : List Object) (v : Value) (met new_met : BTreeSet ℕ) (waiting rest left : List Held) (held : Held) → waiting ≡ rest ++ held ∷ [] → IsMet (length heap) met → AddsObject heap v met new_met rest left →
    left_to_do (length heap) new_met left < left_to_do (length heap) met waiting
turn_takes heap v met new_met waiting rest left held taken is (inl stays) =
    let one : length waiting ≡ length rest + 1 = ap length taken ∙ one_longer rest held in
    let same : length new_met.keys ≡ length met.keys = ap length stays.same in
    let kept : length left ≡ length rest = ap length stays.rest in
    subst (λ k. (length heap - k) * 18446744073709551616 + length left < left_to_do (length heap) met waiting) (sym same) (omega (arith, kept, one))
turn_takes heap v met new_met waiting rest left held taken is (inr new) =
    let more : length new_met.keys ≡ length met.keys + 1 = new.meets.one_more in
    let most : length new_met.keys ≤ length heap = length-le_from_below (length heap) new_met.keys new.meets.is_met.ascend new.meets.is_met.below in
    let short : length left < 18446744073709551616 = new.short in
    omega (arith, more, most, short)

-- all labels that were found, and no others, are those that are reached
pub labels_are : (heap : List Object) (v : Value) (labels : Labels) → ((l : ℕ) → In l (labels_of labels) → In l (reached heap v)) → ((l : ℕ) → In l (reached heap v) → In l (labels_of labels)) → labels_of labels ≡ reached heap v
unfolding reached
labels_are heap v labels to from =
    labels_ascend labels (v.labels ++ labels_behind (length heap) heap v.place)
    (λ l h. from_ascending (v.labels ++ labels_behind (length heap) heap v.place) l (to l h)) (λ l h. from l (in_ascending (v.labels ++ labels_behind (length heap) heap v.place) l h))

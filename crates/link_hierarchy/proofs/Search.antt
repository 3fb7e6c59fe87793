-- A search of all that is above a class.
use Rattle.std.proofs.Common.{◌≡◌, ℕ, ◌+◌, ◌<◌, ◌≤◌, Bool, true, false, cond, List, [], ◌∷◌, ◌++◌, length, length-append, Option, Some, None, refl, sym, ◌∙◌, ap, subst, arith, ◌⊎◌, inl, inr}
use Rattle.std.specs.Prelude.{IsTrue}
use Rattle.std.specs.BTreeMap.{is_at}
use Rattle.std.proofs.lemmas.Map.Entries.{lookup_head, lookup_tail}
use Rattle.app_machine.specs.declared.app.Class.{Class}
use Rattle.vet_base.specs.Members.{In}
use Rattle.app_machine.specs.Names.{Name}
use Rattle.app_machine.specs.Sound.{name_order}
use Rattle.app_machine.specs.Lookups.{directly_above}
use Rattle.link_hierarchy.specs.Circle.{above_named, newly}
use Rattle.link_hierarchy.specs.Hierarchy.{Above, directly, beyond, is_among}
use Rattle.link_listing.specs.Orders.{named}
use Rattle.link_listing.proofs.Lookups.{at_itself}
use Rattle.std.proofs.lemmas.Bool.{cond-true, cond-false, cases_Bool}
use Rattle.vet_base.proofs.Texts.{tied_equal}
use Rattle.vet_base.proofs.Members.{in_front, in_back, in_either}

above_by : (classes : List (Name × Class)) (name above : Name) (o : Option Class) → named classes name ≡ o → In above (elim o [ None ↦ [] | Some c ↦ directly_above c ]) → Above classes name above
above_by classes name above None is k = absurd k
above_by classes name above (Some c) is k = directly c is k

from_named : (classes : List (Name × Class)) (name above : Name) → In above (above_named classes name) → Above classes name above
unfolding above_named
from_named classes name above k = above_by classes name above (named classes name) refl k

to_named : (classes : List (Name × Class)) (name above : Name) (class : Class) → named classes name ≡ Some class → In above (directly_above class) → In above (above_named classes name)
unfolding above_named
to_named classes name above class is k = subst (λ (o : Option Class). In above (elim o [ None ↦ [] | Some c ↦ directly_above c ])) (sym is) k

module _ (classes : List (Name × Class)) (root : Name) where
  -- all that is above is seen or queue, and so far the class was not met
  pub record Searching (seen queue : List Name) : Type 0 where
    pub reached : (name : Name) → In name queue → Above classes root name
    pub closed : (name above : Name) → IsTrue (is_among seen name) → In above (above_named classes name) → In above queue ⊎ IsTrue (is_among seen above)
    pub first : (above : Name) → In above (above_named classes root) → In above queue ⊎ IsTrue (is_among seen above)
    pub away : is_among seen root ≡ false

  pub search_begins : (queue : List Name) → queue ≡ above_named classes root → Searching [] queue
  search_begins queue is = record {
    reached = λ n k. from_named classes root n (subst (λ (ns : List Name). In n ns) is k);
    closed = λ n a h k. absurd cc;
    first = λ a k. inl (subst (λ (ns : List Name). In a ns) (sym is) k);
    away = refl;
  }

  pub search_finds : (seen queue rest : List Name) (name : Name) → queue ≡ rest ++ name ∷ [] → is_at (name_order name) root ≡ true → Searching seen queue → (IsTrue true → Above classes root root) × (Above classes root root → IsTrue true)
  search_finds seen queue rest name split_at same search =
      let k : In name queue = subst (λ (ns : List Name). In name ns) (sym split_at) (in_back name rest (name ∷ []) (inl refl)) in
      (λ _. subst (λ (n : Name). Above classes root n) (tied_equal name root same) (search.reached name k), λ _. refl)

  ends : (seen queue : List Name) → queue ≡ [] → Searching seen queue → Above classes root root → ⊥
  ends seen queue none search p = let there : is_among seen root ≡ true = begins root root p refl in let away : is_among seen root ≡ false = search.away in absurd cc
    where
      is_seen : (a : Name) → In a queue ⊎ IsTrue (is_among seen a) → IsTrue (is_among seen a)
      is_seen a (inl k) = absurd (subst (λ (ns : List Name). In a ns) none k)
      is_seen a (inr h) = h

      inside : (n m : Name) → Above classes n m → IsTrue (is_among seen n) → IsTrue (is_among seen m)
      inside n m (directly class is k) h = is_seen m (search.closed n m h (to_named classes n m class is k))
      inside n m (beyond p q) h = inside _ _ q (inside _ _ p h)

      begins : (n m : Name) → Above classes n m → n ≡ root → IsTrue (is_among seen m)
      begins n m (directly class is k) e = is_seen m (search.first m (subst (λ (x : Name). In m (above_named classes x)) e (to_named classes n m class is k)))
      begins n m (beyond p q) e = inside _ _ q (begins _ _ p e)

  pub search_ends : (seen queue : List Name) → length queue ≡ 0 → Searching seen queue → (IsTrue false → Above classes root root) × (Above classes root root → IsTrue false)
  search_ends seen [] none search = (λ h. absurd cc, λ p. absurd (ends seen [] refl search p))
  search_ends seen (x ∷ xs) none search = absurd (omega (arith, none))

  module _ (seen seen_then queue rest queue_then : List Name) (name : Name) (split_at : queue ≡ rest ++ name ∷ []) (more : queue_then ≡ rest ++ newly classes seen name)
      (adds : (q : Name) → is_among seen_then q ≡ cond (is_at (name_order name) q) true (is_among seen q)) where
    seen_still : (q : Name) → IsTrue (is_among seen q) → IsTrue (is_among seen_then q)
    seen_still q h = adds q ∙ kept (is_at (name_order name) q) (is_among seen q) h
      where
        kept : (a b : Bool) → b ≡ true → cond a true b ≡ true
        kept true b e = refl
        kept false b e = e

    seen_now : (q : Name) → q ≡ name → IsTrue (is_among seen_then q)
    seen_now q e = adds q ∙ cond-true (is_at (name_order name) q) true (is_among seen q) (subst (λ (n : Name). is_at (name_order name) n ≡ true) (sym e) (at_itself name))

    in_rest : (a : Name) → In a rest → In a queue_then
    in_rest a k = subst (λ (ns : List Name). In a ns) (sym more) (in_front a rest (newly classes seen name) k)

    moved : (a : Name) → In a queue ⊎ IsTrue (is_among seen a) → In a queue_then ⊎ IsTrue (is_among seen_then a)
    moved a (inl k) = elim (in_either a rest (name ∷ []) (subst (λ (ns : List Name). In a ns) split_at k)) [
      | inl j ↦ inl (in_rest a j)
      | inr (inl e) ↦ inr (seen_now a e)
      | inr (inr j) ↦ absurd j
    ]
    moved a (inr h) = inr (seen_still a h)

    newly_in : is_among seen name ≡ false → newly classes seen name ≡ above_named classes name
    unfolding newly
    newly_in fresh = cond-false (is_among seen name) [] (above_named classes name) fresh

    newly_none : is_among seen name ≡ true → newly classes seen name ≡ []
    unfolding newly
    newly_none old = cond-true (is_among seen name) [] (above_named classes name) old

    in_new : (a : Name) → In a (newly classes seen name) → In a (above_named classes name)
    in_new a k = elim (cases_Bool (is_among seen name)) [
      | inl old ↦ absurd (subst (λ (ns : List Name). In a ns) (newly_none old) k)
      | inr fresh ↦ subst (λ (ns : List Name). In a ns) (newly_in fresh) k
    ]

    module _ (other : is_at (name_order name) root ≡ false) (search : Searching seen queue) where
      reached_then : (a : Name) → In a rest ⊎ In a (newly classes seen name) → Above classes root a
      reached_then a (inl k) = search.reached a (subst (λ (ns : List Name). In a ns) (sym split_at) (in_front a rest (name ∷ []) k))
      reached_then a (inr k) = beyond (search.reached name (subst (λ (ns : List Name). In name ns) (sym split_at) (in_back name rest (name ∷ []) (inl refl)))) (from_named classes name a (in_new a k))

      of_name : (a : Name) → In a (above_named classes name) → In a queue_then ⊎ IsTrue (is_among seen_then a)
      of_name a k = elim (cases_Bool (is_among seen name)) [
        | inl old ↦ moved a (search.closed name a old k)
        | inr fresh ↦ inl (subst (λ (ns : List Name). In a ns) (sym more) (in_back a rest (newly classes seen name) (subst (λ (ns : List Name). In a ns) (sym (newly_in fresh)) k)))
      ]

      closed_then : (n a : Name) → IsTrue (is_among seen_then n) → In a (above_named classes n) → In a queue_then ⊎ IsTrue (is_among seen_then a)
      closed_then n a h k = elim (cases_Bool (is_at (name_order name) n)) [
        | inl same ↦ of_name a (subst (λ (x : Name). In a (above_named classes x)) (sym (tied_equal name n same)) k)
        | inr elsewhere ↦ (let old : is_among seen n ≡ true = sym (adds n ∙ cond-false (is_at (name_order name) n) true (is_among seen n) elsewhere) ∙ h in moved a (search.closed n a old k))
      ]

      pub search_goes_on : Searching seen_then queue_then
      search_goes_on = record {
        reached = λ a k. reached_then a (in_either a rest (newly classes seen name) (subst (λ (ns : List Name). In a ns) more k));
        closed = closed_then;
        first = λ a k. moved a (search.first a k);
        away = adds root ∙ (cond-false (is_at (name_order name) root) true (is_among seen root) other ∙ search.away);
      }

-- how much is directly above the classes that were not seen
abbrev pub weight : List (Name × Class) → List Name → ℕ
weight [] seen = 0
weight (e ∷ es) seen = cond (is_among seen e.0) 0 (length (directly_above e.1)) + weight es seen

module _ (seen seen_then : List Name) (name : Name) (adds : (q : Name) → is_among seen_then q ≡ cond (is_at (name_order name) q) true (is_among seen q)) where
  less_by : (a b new : Bool) (n : ℕ) → new ≡ cond a true b → cond new 0 n ≤ cond b 0 n
  less_by true b new n e = rw e (omega arith)
  less_by false b new n e = rw e (omega arith)

  weighs_less : (es : List (Name × Class)) → weight es seen_then ≤ weight es seen
  weighs_less [] = omega arith
  weighs_less (e ∷ es) =
      let here : cond (is_among seen_then e.0) 0 (length (directly_above e.1)) ≤ cond (is_among seen e.0) 0 (length (directly_above e.1)) = less_by (is_at (name_order name) e.0) (is_among seen e.0) (is_among seen_then e.0) (length (directly_above e.1)) (adds e.0) in
      let others : weight es seen_then ≤ weight es seen = weighs_less es in
      omega (arith, here, others)

  none_left : (b : Bool) (n : ℕ) → b ≡ true → cond b 0 n ≡ 0
  none_left b n e = rw e refl

  all_left : (b : Bool) (n : ℕ) → b ≡ false → cond b 0 n ≡ n
  all_left b n e = rw e refl

  weighs_found : (es : List (Name × Class)) (class : Class) → named es name ≡ Some class → is_among seen name ≡ false → weight es seen_then + length (directly_above class) ≤ weight es seen
  unfolding named
  weighs_found [] class is fresh = absurd cc
  weighs_found (e ∷ es) class is fresh = elim (cases_Bool (is_at (name_order name) e.0)) [
    | inl same ↦ (
        let k : name ≡ e.0 = tied_equal name e.0 same in
        let both : Some e.1 ≡ Some class = sym (lookup_head (is_at (name_order name)) e es same) ∙ is in
        let class_is : e.1 ≡ class = cc in
        let long : length (directly_above e.1) ≡ length (directly_above class) = ap (λ (c : Class). length (directly_above c)) class_is in
        let seen_e : is_among seen_then e.0 ≡ true = adds e.0 ∙ cond-true (is_at (name_order name) e.0) true (is_among seen e.0) same in
        let fresh_e : is_among seen e.0 ≡ false = subst (λ (n : Name). is_among seen n ≡ false) k fresh in
        let one : cond (is_among seen_then e.0) 0 (length (directly_above e.1)) ≡ 0 = none_left (is_among seen_then e.0) (length (directly_above e.1)) seen_e in
        let two : cond (is_among seen e.0) 0 (length (directly_above e.1)) ≡ length (directly_above e.1) = all_left (is_among seen e.0) (length (directly_above e.1)) fresh_e in
        let others : weight es seen_then ≤ weight es seen = weighs_less es in
        omega (arith, one, two, others, long))
    | inr other ↦ (
        let tail : named es name ≡ Some class = sym (lookup_tail (is_at (name_order name)) e es other) ∙ is in
        let here : cond (is_among seen_then e.0) 0 (length (directly_above e.1)) ≤ cond (is_among seen e.0) 0 (length (directly_above e.1)) = less_by (is_at (name_order name) e.0) (is_among seen e.0) (is_among seen_then e.0) (length (directly_above e.1)) (adds e.0) in
        let others : weight es seen_then + length (directly_above class) ≤ weight es seen = weighs_found es class tail fresh in
        omega (arith, here, others))
  ]

  weighs_new : (classes : List (Name × Class)) → weight classes seen_then + length (newly classes seen name) ≤ weight classes seen
  unfolding newly above_named
  weighs_new classes = elim (cases_Bool (is_among seen name)) [
    | inl old ↦ (
        let none : length (newly classes seen name) ≡ 0 = ap (λ (ns : List Name). length ns) (cond-true (is_among seen name) [] (above_named classes name) old) in
        let less : weight classes seen_then ≤ weight classes seen = weighs_less classes in
        omega (arith, none, less))
    | inr fresh ↦ (
        let same : length (newly classes seen name) ≡ length (above_named classes name) = ap (λ (ns : List Name). length ns) (cond-false (is_among seen name) [] (above_named classes name) fresh) in
        let less : weight classes seen_then + length (above_named classes name) ≤ weight classes seen = by_class (named classes name) refl fresh in
        omega (arith, same, less))
  ]
    where
      by_class : (o : Option Class) → named classes name ≡ o → is_among seen name ≡ false → weight classes seen_then + length (above_named classes name) ≤ weight classes seen
      by_class None is fresh =
          let none : length (above_named classes name) ≡ 0 = ap (λ (o : Option Class). length (elim o as (λ (o : Option Class). List Name) [ None ↦ [] | Some c ↦ directly_above c ])) is in
          let less : weight classes seen_then ≤ weight classes seen = weighs_less classes in
          omega (arith, none, less)
      by_class (Some c) is fresh =
          let long : length (above_named classes name) ≡ length (directly_above c) = ap (λ (o : Option Class). length (elim o as (λ (o : Option Class). List Name) [ None ↦ [] | Some c ↦ directly_above c ])) is in
          let less : weight classes seen_then + length (directly_above c) ≤ weight classes seen = weighs_found classes c is fresh in
          omega (arith, long, less)

  -- a visit leaves less to do
  pub search_shrinks : (classes : List (Name × Class)) (queue rest queue_then : List Name) → queue ≡ rest ++ name ∷ [] → queue_then ≡ rest ++ newly classes seen name → weight classes seen_then + length queue_then < weight classes seen + length queue
  search_shrinks classes queue rest queue_then split_at more =
      let one : length queue ≡ length rest + 1 = ap (λ (ns : List Name). length ns) split_at ∙ length-append rest (name ∷ []) in
      let two : length queue_then ≡ length rest + length (newly classes seen name) = ap (λ (ns : List Name). length ns) more ∙ length-append rest (newly classes seen name) in
      let less : weight classes seen_then + length (newly classes seen name) ≤ weight classes seen = weighs_new classes in
      omega (arith, one, two, less)

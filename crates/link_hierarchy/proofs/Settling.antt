-- Classes that are settled one after the other.
use Rattle.std.proofs.Common.{◌≡◌, ℕ, ◌+◌, ◌<◌, Bool, true, false, cond, List, [], ◌∷◌, ◌++◌, Option, Some, None, refl, sym, ◌∙◌, ap, subst, arith, inl, inr}
use Rattle.std.specs.Prelude.{IsTrue, is_some, option_to_list}
use Rattle.std.specs.BTreeMap.{is_at}
use Rattle.app_machine.specs.declared.app.Class.{Class}
use Rattle.vet_base.specs.Members.{In}
use Rattle.app_machine.specs.Names.{Name}
use Rattle.app_machine.specs.Sound.{name_order}
use Rattle.app_machine.specs.Lookups.{directly_above}
use Rattle.link_hierarchy.specs.Hierarchy.{firsts}
use Rattle.link_listing.specs.Orders.{named, has_name}
use Rattle.link_hierarchy.specs.Settled.{Entries, Outers, Settled, Turn, is_settled, all_settled, one_settled, is_ready, gives, given_to, listed}
use Rattle.link_listing.proofs.Lookups.{at_itself}
use Rattle.vet_base.proofs.Bools.{implied, implies_if}
use Rattle.std.proofs.lemmas.Bool.{and_parts, cond-true, cond-false, cases_Bool}
use Rattle.vet_base.proofs.Members.{flat_map_agree}
use Rattle.vet_base.proofs.Texts.{tied_equal}

in_all : (classes : Entries) (outers : Outers) (names : List Name) (above : Name) → all_settled classes outers names ≡ true → In above names → is_settled classes outers above ≡ true
in_all classes outers [] above h k = absurd k
in_all classes outers (x ∷ xs) above h (inl e) = ap (is_settled classes outers) e ∙ (and_parts (is_settled classes outers x) (all_settled classes outers xs) h).0
in_all classes outers (x ∷ xs) above h (inr k) = in_all classes outers xs above ((and_parts (is_settled classes outers x) (all_settled classes outers xs) h).1) k

in_above : (classes : Entries) (outers : Outers) (superclass : Option Name) (names : List Name) (above : Name) → one_settled classes outers superclass ≡ true → all_settled classes outers names ≡ true
    → In above (option_to_list superclass ++ names) → is_settled classes outers above ≡ true
in_above classes outers None names above one all k = in_all classes outers names above all k
in_above classes outers (Some s) names above one all (inl e) = ap (is_settled classes outers) e ∙ one
in_above classes outers (Some s) names above one all (inr k) = in_all classes outers names above all k

-- all that is directly above a ready class is settled
pub ready_above : (classes : Entries) (outers : Outers) (class : Class) (above : Name) → is_ready classes outers class ≡ true → In above (directly_above class) → is_settled classes outers above ≡ true
unfolding is_ready
ready_above classes outers class above ready k =
    let one : one_settled classes outers class.superclass ≡ true = (and_parts (one_settled classes outers class.superclass) (all_settled classes outers class.interfaces) ready).0 in
    let all : all_settled classes outers class.interfaces ≡ true = (and_parts (one_settled classes outers class.superclass) (all_settled classes outers class.interfaces) ready).1 in
    in_above classes outers class.superclass class.interfaces above one all k

pub known_settled : (classes : Entries) (outers : Outers) (above : Name) → is_settled classes outers above ≡ true → IsTrue (has_name classes above) → IsTrue (has_name outers above)
unfolding is_settled
known_settled classes outers above is known = implied (has_name classes above) (has_name outers above) is known

pub settled_if : (classes : Entries) (outers : Outers) (above : Name) → (IsTrue (has_name classes above) → IsTrue (has_name outers above)) → is_settled classes outers above ≡ true
unfolding is_settled
settled_if classes outers above f = implies_if (has_name classes above) (has_name outers above) f

gives_same : (classes : Entries) (old new : Outers) (above : Name) → (IsTrue (has_name classes above) → named new above ≡ named old above) → gives classes new above ≡ gives classes old above
unfolding gives
gives_same classes old new above same = elim (cases_Bool (has_name classes above)) [
  | inl known ↦ ap (λ o. cond (has_name classes above) (listed o) (above ∷ [])) (same known)
  | inr unknown ↦ cond-false (has_name classes above) (listed (named new above)) (above ∷ []) unknown ∙ sym (cond-false (has_name classes above) (listed (named old above)) (above ∷ []) unknown)
]

module _ (classes : Entries) (old new : Outers) (name : Name) (class : Class)
    (updates : (q : Name) → named new q ≡ cond (is_at (name_order name) q) (Some (given_to classes old class)) (named old q))
    (fresh : has_name old name ≡ false) (there : named classes name ≡ Some class) (ready : is_ready classes old class ≡ true)
    (before : Settled classes old) where
  abbrev here : Name → Bool
  here q = is_at (name_order name) q

  elsewhere : (q : Name) → here q ≡ false → named new q ≡ named old q
  elsewhere q other = updates q ∙ cond-false (here q) (Some (given_to classes old class)) (named old q) other

  away : (q : Name) → IsTrue (has_name old q) → here q ≡ false
  away q had = elim (cases_Bool (here q)) [
    | inl same ↦ (let e : name ≡ q = tied_equal name q same in let none : has_name old q ≡ false = subst (λ (n : Name). has_name old n ≡ false) e fresh in absurd cc)
    | inr other ↦ other
  ]

  stays : (q : Name) → IsTrue (has_name old q) → named new q ≡ named old q
  stays q had = elsewhere q (away q had)

  has_still : (q : Name) → IsTrue (has_name old q) → IsTrue (has_name new q)
  has_still q had = ap (λ (o : Option (List Name)). is_some o) (stays q had) ∙ had

  now_there : (q : Name) → here q ≡ true → named new q ≡ Some (given_to classes old class)
  now_there q same = updates q ∙ cond-true (here q) (Some (given_to classes old class)) (named old q) same

  given_same : (c : Class) → ((above : Name) → In above (directly_above c) → IsTrue (has_name classes above) → IsTrue (has_name old above)) → given_to classes new c ≡ given_to classes old c
  given_same c all = ap firsts (flat_map_agree (gives classes new) (gives classes old) (directly_above c) (λ x k. gives_same classes old new x (λ known. stays x (all x k known))))

  ready_has : (above : Name) → In above (directly_above class) → IsTrue (has_name classes above) → IsTrue (has_name old above)
  ready_has above k known = known_settled classes old above (ready_above classes old class above ready k) known

  abbrev new_rank : Name → ℕ
  new_rank q = cond (here q) before.limit (before.rank q)

  rank_here : (q : Name) → here q ≡ true → new_rank q ≡ before.limit
  rank_here q same = cond-true (here q) before.limit (before.rank q) same

  rank_elsewhere : (q : Name) → here q ≡ false → new_rank q ≡ before.rank q
  rank_elsewhere q other = cond-false (here q) before.limit (before.rank q) other

  new_below : (q : Name) → new_rank q < before.limit + 1
  new_below q = elim (cases_Bool (here q)) [
    | inl same ↦ (let e : new_rank q ≡ before.limit = rank_here q same in omega (arith, e))
    | inr other ↦ (let e : new_rank q ≡ before.rank q = rank_elsewhere q other in let lt : before.rank q < before.limit = before.below q in omega (arith, e, lt))
  ]

  had_before : (q : Name) → here q ≡ false → IsTrue (has_name new q) → IsTrue (has_name old q)
  had_before q other had = ap (λ (o : Option (List Name)). is_some o) (sym (elsewhere q other)) ∙ had

  is_class : (q : Name) (c : Class) → here q ≡ true → named classes q ≡ Some c → class ≡ c
  is_class q c same is =
      let e : name ≡ q = tied_equal name q same in
      let one : named classes q ≡ Some class = subst (λ (n : Name). named classes n ≡ Some class) e there in
      let both : Some class ≡ Some c = sym one ∙ is in
      cc

  new_above : (q above : Name) (c : Class) → named classes q ≡ Some c → IsTrue (has_name new q) → In above (directly_above c) → IsTrue (has_name classes above) → IsTrue (has_name new above) × (new_rank above < new_rank q)
  new_above q above c is had k known = elim (cases_Bool (here q)) [
    | inl same ↦ (
        let k' : In above (directly_above class) = subst (λ (d : Class). In above (directly_above d)) (sym (is_class q c same is)) k in
        let had' : IsTrue (has_name old above) = ready_has above k' known in
        let low : new_rank above ≡ before.rank above = rank_elsewhere above (away above had') in
        let lt : before.rank above < before.limit = before.below above in
        let high : new_rank q ≡ before.limit = rank_here q same in
        (has_still above had', omega (arith, low, lt, high)))
    | inr other ↦ (
        let below = before.above q above c is (had_before q other had) k known in
        let low : new_rank above ≡ before.rank above = rank_elsewhere above (away above below.0) in
        let high : new_rank q ≡ before.rank q = rank_elsewhere q other in
        (has_still above below.0, omega (arith, low, high, below.1)))
  ]

  new_lists : (q : Name) (c : Class) → named classes q ≡ Some c → IsTrue (has_name new q) → named new q ≡ Some (given_to classes new c)
  new_lists q c is had = elim (cases_Bool (here q)) [
    | inl same ↦ (
        let e : Some (given_to classes old class) ≡ Some (given_to classes new class) = ap (λ (ns : List Name). Some ns) (sym (given_same class ready_has)) in
        let f : Some (given_to classes new class) ≡ Some (given_to classes new c) = ap (λ (d : Class). Some (given_to classes new d)) (is_class q c same is) in
        now_there q same ∙ (e ∙ f))
    | inr other ↦ (
        let had' : IsTrue (has_name old q) = had_before q other had in
        let e : Some (given_to classes old c) ≡ Some (given_to classes new c) = ap (λ (ns : List Name). Some ns) (sym (given_same c (λ a k known. (before.above q a c is had' k known).0))) in
        elsewhere q other ∙ (before.lists q c is had' ∙ e))
  ]

  pub settles : Turn classes old new name false
  settles = record {
    settled = record { rank = new_rank; limit = before.limit + 1; below = new_below; above = new_above; lists = new_lists };
    stay = has_still;
    done = λ _. settled_if classes new name (λ _. ap (λ (o : Option (List Name)). is_some o) (now_there name (at_itself name)));
    stuck = λ e. absurd cc;
  }

pub settled_before : (classes : Entries) (outers : Outers) (name : Name) → Settled classes outers → has_name outers name ≡ true → Turn classes outers outers name false
settled_before classes outers name before had = record { settled = before; stay = λ q h. h; done = λ _. settled_if classes outers name (λ _. had); stuck = λ e. absurd cc }

pub no_class : (classes : Entries) (outers : Outers) (name : Name) → Settled classes outers → named classes name ≡ None → Turn classes outers outers name false
no_class classes outers name before none = record {
  settled = before;
  stay = λ q h. h;
  done = λ _. settled_if classes outers name (λ known. let not_known : has_name classes name ≡ false = ap (λ (o : Option Class). is_some o) none in absurd cc);
  stuck = λ e. absurd cc;
}

pub waits : (classes : Entries) (outers : Outers) (name : Name) (class : Class) → Settled classes outers → has_name outers name ≡ false → named classes name ≡ Some class → is_ready classes outers class ≡ false → Turn classes outers outers name true
waits classes outers name class before fresh there unready = record {
  settled = before;
  stay = λ q h. h;
  done = λ e. absurd cc;
  stuck = λ _. (refl, record { class = class; there = there; unsettled = fresh; unready = unready });
}

pub none_settled : (classes : Entries) → Settled classes []
unfolding named
none_settled classes = record { rank = λ q. 0; limit = 1; below = λ q. omega arith; above = λ name above class is had k known. absurd cc; lists = λ name class is had. absurd cc }

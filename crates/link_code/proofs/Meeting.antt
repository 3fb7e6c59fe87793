-- A list that grows by the own interfaces of its names, one after the other: at its end it has all interfaces met.
use Rattle.std.proofs.Common.{◌≡◌, ℕ, zero, suc, ◌+◌, ◌-◌, ◌<◌, ◌≤◌, List, [], ◌∷◌, ◌++◌, append_assoc, add-one, length, length-append, take, drop, get_or, Option, Some, None, refl, sym, ◌∙◌, ap, subst, inl, inr, arith}
use Rattle.std.specs.Prelude.{fold, flat_map}
use Rattle.std.proofs.lemmas.List.{append-nil, flat_map_more, take_all, take_more, take-append-le, take-append-drop}
use Rattle.std.proofs.lemmas.List.Concat.{flat_map-append}
use Rattle.app_machine.specs.declared.app.App.{App}
use Rattle.app_machine.specs.declared.app.Class.{Class}
use Rattle.vet_base.specs.Members.{In}
use Rattle.app_machine.specs.Names.{Name, same_name}
use Rattle.app_machine.specs.Lookups.{class_among, class_named, up_within, up}
use Rattle.link_hierarchy.specs.Hierarchy.{add_once, firsts}
use Rattle.link_code.specs.Statics.{own_interfaces, first_interfaces, interfaces_named, met_within, met}
use Rattle.link_hierarchy.proofs.Firsts.{Begins, begins_itself, begins_on, begins_both, adding_begins, firsts_begin, firsts_joined, firsts_apart, in_firsts}
use Rattle.vet_base.proofs.Members.{in_either, in_flat, from_flat, in_found}
use Rattle.vet_base.specs.Apart.{Apart}
use Rattle.vet_base.proofs.Apart.{no_more}

in_up_within : (n : ℕ) (classes : List Class) (name : Option Name) (c : Class) → In c (up_within n classes name) → In c classes
in_up_within zero classes name c k = absurd k
in_up_within (suc n) classes None c k = absurd k
in_up_within (suc n) classes (Some name) c k = by_class (class_among classes name) refl (λ above j. in_up_within n classes above c j) k
  where
    by_class : (o : Option Class) → class_among classes name ≡ o → ((above : Option Name) → In c (up_within n classes above) → In c classes) → In c (elim o as (λ (o : Option Class). List Class) [ None ↦ [] | Some d ↦ d ∷ up_within n classes d.superclass ]) → In c classes
    by_class None there higher j = absurd j
    by_class (Some d) there higher (inl e) = subst (λ (x : Class). In x classes) (sym e) (in_found (λ (x : Class). same_name x.name name) classes d there)
    by_class (Some d) there higher (inr j) = higher d.superclass j

module _ (app : App) where
  abbrev all_named : List Name
  all_named = flat_map own_interfaces app.classes

  in_first : (class x : Name) → In x (first_interfaces app class) → In x all_named
  unfolding first_interfaces up
  in_first class x k =
      let of_class = from_flat own_interfaces (up_within (length app.classes) app.classes (Some class)) x k in
      in_flat own_interfaces app.classes of_class.0 x (in_up_within (length app.classes) app.classes (Some class) of_class.0 of_class.1) of_class.2

  in_named : (name x : Name) → In x (interfaces_named app name) → In x all_named
  unfolding interfaces_named class_named
  in_named name x k = by_class (class_among app.classes name) refl k
    where
      by_class : (o : Option Class) → class_among app.classes name ≡ o → In x (elim o as (λ (o : Option Class). List Name) [ None ↦ [] | Some c ↦ c.interfaces ]) → In x all_named
      by_class None there j = absurd j
      by_class (Some c) there j = in_flat own_interfaces app.classes c x (in_found (λ (d : Class). same_name d.name name) app.classes c there) j

module _ (app : App) (class : Name) where
  abbrev first : List Name
  first = first_interfaces app class

  abbrev turn : List Name → List Name
  turn names = firsts (first ++ flat_map (interfaces_named app) names)

  abbrev turns : ℕ → List Name
  turns n = met_within app first n

  turn_begins : (xs ys : List Name) → Begins xs ys → Begins (turn xs) (turn ys)
  turn_begins xs ys begins = firsts_begin (first ++ flat_map (interfaces_named app) xs) (first ++ flat_map (interfaces_named app) ys) (record {
    rest = flat_map (interfaces_named app) begins.rest;
    is = ap (λ (ns : List Name). first ++ flat_map (interfaces_named app) ns) begins.is
        ∙ (ap (λ (ns : List Name). first ++ ns) (flat_map-append (interfaces_named app) xs begins.rest) ∙ sym (append_assoc first (flat_map (interfaces_named app) xs) (flat_map (interfaces_named app) begins.rest)));
  })

  one_further : (n : ℕ) → Begins (turns n) (turns (suc n))
  unfolding met_within
  one_further zero = record { rest = turn []; is = refl }
  one_further (suc n) = turn_begins (turns n) (turns (suc n)) (one_further n)

  further : (k n m : ℕ) → m ≡ k + n → Begins (turns n) (turns m)
  further zero n m e = let same : m ≡ n = omega (arith, e) in subst (λ (j : ℕ). Begins (turns n) (turns j)) (sym same) (begins_itself (turns n))
  further (suc k) n m e =
      let same : m ≡ suc (k + n) = omega (arith, e) in
      subst (λ (j : ℕ). Begins (turns n) (turns j)) (sym same) (begins_on (turns n) (turns (k + n)) (turns (suc (k + n))) (further k n (k + n) refl) (one_further (k + n)))

  -- the own interfaces of the first i stand in the list, each new one behind the others, and so many turns have met the first i
  pub record Meets (i : ℕ) (names : List Name) : Type 0 where
    pub within : i ≤ length names
    pub reached : Begins (take i names) (turns i)
    pub is : names ≡ turn (take i names)

  pub meets_first : (none given names : List Name) → none ≡ [] → given ≡ first → names ≡ fold add_once none given → Meets 0 names
  unfolding firsts met_within
  meets_first none given names empty is are = record {
    within = omega arith;
    reached = record { rest = []; is = refl };
    is = are ∙ (ap (λ (ns : List Name). fold add_once ns given) empty ∙ (ap (λ (ns : List Name). fold add_once [] ns) is ∙ ap firsts (sym (append-nil first))));
  }

  module _ (i : ℕ) (names : List Name) (meets : Meets i names) where
    pub meets_next : (x : Name) (more : List Name) → i < length names → x ≡ get_or names i x → more ≡ fold add_once names (interfaces_named app x) → Meets (i + 1) more
    unfolding met_within
    meets_next x more lt item grown =
        let longer : Begins names more = subst (λ (ns : List Name). Begins names ns) (sym grown) (adding_begins names (interfaces_named app x)) in
        let le : i + 1 ≤ length names = omega (arith, lt) in
        let same : take (i + 1) more ≡ take (i + 1) names = ap (λ (ns : List Name). take (i + 1) ns) longer.is ∙ take-append-le (i + 1) names longer.rest le in
        let split_at : take (i + 1) more ≡ take i names ++ x ∷ [] = same ∙ (take_more names i x lt ∙ ap (λ (n : Name). take i names ++ n ∷ []) (sym item)) in
        let turned : turn (take i names ++ x ∷ []) ≡ fold add_once (turn (take i names)) (interfaces_named app x) =
        ap firsts (sym (flat_map_more (interfaces_named app) first (take i names) x)) ∙ firsts_joined (first ++ flat_map (interfaces_named app) (take i names)) (interfaces_named app x) in
        let there : Begins names (turns (suc i)) = subst (λ (ns : List Name). Begins ns (turns (suc i))) (sym meets.is) (turn_begins (take i names) (turns i) meets.reached) in
        let front : Begins (take (i + 1) names) names = record { rest = drop (i + 1) names; is = sym (take-append-drop (i + 1) names) } in
        let so_far : Begins (take (i + 1) more) (turns (suc i)) = subst (λ (ns : List Name). Begins ns (turns (suc i))) (sym same) (begins_on (take (i + 1) names) names (turns (suc i)) front there) in
        let count : length more ≡ length names + length longer.rest = ap length longer.is ∙ length-append names longer.rest in
        record {
          within = omega (arith, le, count);
          reached = subst (λ (n : ℕ). Begins (take (i + 1) more) (turns n)) (sym (add-one i)) so_far;
          is = grown ∙ (ap (λ (ns : List Name). fold add_once ns (interfaces_named app x)) meets.is ∙ (sym turned ∙ ap turn (sym split_at)));
        }

    -- no more are met than the classes name
    pub few_met : length names ≤ length (flat_map own_interfaces app.classes)
    few_met = no_more names (all_named app) (subst (λ (ns : List Name). Apart ns) (sym meets.is) (firsts_apart (first ++ flat_map (interfaces_named app) (take i names))))
        (λ x k. of_turn x (in_firsts (first ++ flat_map (interfaces_named app) (take i names)) x (subst (λ (ns : List Name). In x ns) meets.is k)))
      where
        of_turn : (x : Name) → In x (first ++ flat_map (interfaces_named app) (take i names)) → In x (all_named app)
        of_turn x k = elim (in_either x first (flat_map (interfaces_named app) (take i names)) k) [
          | inl j ↦ in_first app class x j
          | inr j ↦ (let from : (y : Name) × In y (take i names) × In x (interfaces_named app y) = from_flat (interfaces_named app) (take i names) x j in in_named app from.0 x from.2)
        ]

    none_beyond : names ≡ turn names → (n : ℕ) → Begins (turns n) names
    unfolding met_within
    none_beyond fixed zero = record { rest = names; is = refl }
    none_beyond fixed (suc n) = subst (λ (ns : List Name). Begins (turns (suc n)) ns) (sym fixed) (turn_begins (turns n) names (none_beyond fixed n))

    pub meets_no_more : length names ≤ i → names ≡ turn names
    meets_no_more past = meets.is ∙ ap turn (take_all i names past)

    pub meets_all : length names ≤ i → names ≡ met app class
    unfolding met
    meets_all past =
        let most : ℕ = length (all_named app) in
        let whole : take i names ≡ names = take_all i names past in
        let few : length names ≤ most = few_met in
        let fixed : names ≡ turn names = meets_no_more past in
        let there : Begins names (turns i) = subst (λ (ns : List Name). Begins ns (turns i)) whole meets.reached in
        let within : i ≤ length names = meets.within in
        let left : most ≡ (most - i) + i = omega (arith, few, within) in
        begins_both names (turns most) (begins_on names (turns i) (turns most) there (further (most - i) i most left)) (none_beyond fixed most)

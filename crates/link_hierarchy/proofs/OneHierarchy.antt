-- There is one way to list the library classes above each class, and one least circle.
use Rattle.std.proofs.Common.{◌≡◌, ℕ, zero, suc, ◌<◌, true, false, List, [], ◌∷◌, map, Option, Some, None, refl, sym, ◌∙◌, ap, subst, arith, inl, inr}
use Rattle.std.specs.Prelude.{IsTrue, is_some, flat_map}
use Rattle.std.specs.List.Sorted.{IsStrictlySortedBy}
use Rattle.std.specs.Map.{lookup, keys_of}
use Rattle.std.specs.BTreeMap.{is_at}
use Rattle.std.specs.Ordering.{is_eq}
use Rattle.std.specs.declared.cmp.Ordering.{Ordering}
use Rattle.std.specs.declared.cmp.Ordering.TheVariants.{Less, Equal, Greater}
use Rattle.std.proofs.lemmas.Cmp.{nat_list_cmp_total}
use Rattle.std.proofs.lemmas.Map.Entries.{lookup_head, lookup_tail}
use Rattle.app_machine.specs.declared.app.Class.{Class}
use Rattle.vet_base.specs.Members.{In}
use Rattle.app_machine.specs.Names.{Name, same_name}
use Rattle.app_machine.specs.Sound.{name_order}
use Rattle.app_machine.specs.Lookups.{directly_above, class_among}
use Rattle.link_hierarchy.specs.Hierarchy.{HasOuters, IsLeastCircle, firsts, given_by, outer_of, without_outer, renamed}
use Rattle.link_listing.specs.Orders.{named, has_name}
use Rattle.link_hierarchy.specs.Settled.{Entries, Outers, AllSettled, filled_by, gives, given_to, listed}
use Rattle.link_hierarchy.proofs.Filling.{outer_if, test_same, gives_as}
use Rattle.link_hierarchy.proofs.Entries.{entry_of, found_in}
use Rattle.std.proofs.lemmas.Bool.{cond-true, cond-false, cases_Bool}
use Rattle.vet_base.proofs.Members.{flat_map_agree}
use Rattle.vet_base.proofs.Texts.{tied_equal}

abbrev given_from : Name → Option Class → List Name
given_from name None = name ∷ []
given_from name (Some c) = c.outer

module _ (outers : Outers) (name : Name) where
  -- what a name gives among classes that list what is settled for them
  given_as : (list : List Class) (entries : Entries) → map without_outer list ≡ map renamed entries → ((c : Class) → In c list → c.name ≡ name → c.outer ≡ listed (named outers name))
      → given_from name (class_among list name) ≡ outer_if outers name (lookup (is_at (name_order name)) entries)
  given_as [] [] same lists = refl
  given_as [] (e ∷ es) same lists = absurd cc
  given_as (c ∷ cs) [] same lists = absurd cc
  given_as (c ∷ cs) (e ∷ es) same lists =
      let first : without_outer c ≡ renamed e = cc in
      let others : map without_outer cs ≡ map renamed es = cc in
      let k : c.name ≡ e.0 = ap (λ (d : Class). d.name) first in
      elim (cases_Bool (same_name c.name name)) [
        | inl here ↦ (
            let at : is_at (name_order name) e.0 ≡ true = ap (λ (n : Name). is_at (name_order name) n) (sym k) ∙ (sym (test_same c.name name) ∙ here) in
            let is : name ≡ e.0 = tied_equal name e.0 at in
            let one : class_among (c ∷ cs) name ≡ Some c = cond-true (same_name c.name name) (Some c) (class_among cs name) here in
            let two : lookup (is_at (name_order name)) (e ∷ es) ≡ Some e.1 = lookup_head (is_at (name_order name)) e es at in
            let three : given_from name (class_among (c ∷ cs) name) ≡ c.outer = ap (given_from name) one in
            let four : outer_if outers name (lookup (is_at (name_order name)) (e ∷ es)) ≡ listed (named outers name) = ap (outer_if outers name) two in
            three ∙ (lists c (inl refl) (k ∙ sym is) ∙ sym four))
        | inr other ↦ (
            let at : is_at (name_order name) e.0 ≡ false = ap (λ (n : Name). is_at (name_order name) n) (sym k) ∙ (sym (test_same c.name name) ∙ other) in
            let one : class_among (c ∷ cs) name ≡ class_among cs name = cond-false (same_name c.name name) (Some c) (class_among cs name) other in
            let two : lookup (is_at (name_order name)) (e ∷ es) ≡ lookup (is_at (name_order name)) es = lookup_tail (is_at (name_order name)) e es at in
            let three : given_from name (class_among (c ∷ cs) name) ≡ given_from name (class_among cs name) = ap (given_from name) one in
            let four : outer_if outers name (lookup (is_at (name_order name)) (e ∷ es)) ≡ outer_if outers name (lookup (is_at (name_order name)) es) = ap (outer_if outers name) two in
            let five : given_from name (class_among cs name) ≡ outer_if outers name (lookup (is_at (name_order name)) es) = given_as cs es others (λ d j n. lists d (inr j) n) in
            three ∙ (five ∙ sym four))
      ]

one_filled : (outers : Outers) (c : Class) (e : Name × Class) → without_outer c ≡ renamed e → c.outer ≡ listed (named outers c.name) → c ≡ filled_by outers e
one_filled outers c e same lists =
    let k : c.name ≡ e.0 = ap (λ (d : Class). d.name) same in
    let one : c.outer ≡ listed (named outers e.0) = lists ∙ ap (λ (n : Name). listed (named outers n)) k in
    let whole : record (without_outer c) { outer = c.outer } ≡ record (renamed e) { outer = c.outer } = ap (λ (d : Class). record d { outer = c.outer }) same in
    whole ∙ ap (λ (ns : List Name). record (renamed e) { outer = ns }) one

all_filled : (outers : Outers) (list : List Class) (entries : Entries) → map without_outer list ≡ map renamed entries → ((c : Class) → In c list → c.outer ≡ listed (named outers c.name)) → list ≡ map (filled_by outers) entries
all_filled outers [] [] same lists = refl
all_filled outers [] (e ∷ es) same lists = absurd cc
all_filled outers (c ∷ cs) [] same lists = absurd cc
all_filled outers (c ∷ cs) (e ∷ es) same lists =
    let first : without_outer c ≡ renamed e = cc in
    let others : map without_outer cs ≡ map renamed es = cc in
    let one : c ≡ filled_by outers e = one_filled outers c e first (lists c (inl refl)) in
    let rest : cs ≡ map (filled_by outers) es = all_filled outers cs es others (λ d j. lists d (inr j)) in
    ap (λ (d : Class). d ∷ cs) one ∙ ap (λ (ds : List Class). filled_by outers e ∷ ds) rest

module _ (entries : Entries) (outers : Outers) (sorted : IsStrictlySortedBy name_order (keys_of entries)) (all : AllSettled entries outers) (list : List Class) (same : map without_outer list ≡ map renamed entries) (has : HasOuters list) where
  known : (c : Class) → In c list → IsTrue (has_name entries c.name)
  known c k = let e = entry_of list entries c same k in ap (λ (o : Option Class). is_some o) (found_in entries c.name e.class sorted e.there)

  given_is : (name : Name) → ((c : Class) → In c list → c.name ≡ name → c.outer ≡ listed (named outers name)) → given_by list name ≡ gives entries outers name
  unfolding given_by named
  given_is name lists = given_as outers name list entries same lists ∙ gives_as entries outers name (named entries name) refl

  -- by the rank: what stands directly above a class has a lower one
  outer_is : (n : ℕ) (c : Class) → In c list → all.settled.rank c.name < n → c.outer ≡ listed (named outers c.name)
  unfolding outer_of
  outer_is zero c k lt = absurd (omega arith)
  outer_is (suc n) c k lt =
      let e = entry_of list entries c same k in
      let there : named entries c.name ≡ Some e.class = found_in entries c.name e.class sorted e.there in
      let settled : IsTrue (has_name outers c.name) = all.all c.name (known c k) in
      let lists : named outers c.name ≡ Some (given_to entries outers e.class) = all.settled.lists c.name e.class there settled in
      let each : (x : Name) → In x (directly_above e.class) → given_by list x ≡ gives entries outers x =
      λ x j. given_is x (λ d i is.
      let lower : all.settled.rank x < all.settled.rank c.name = (all.settled.above c.name x e.class there settled j (subst (λ (m : Name). IsTrue (has_name entries m)) is (known d i))).1 in
      let less : all.settled.rank d.name < n = subst (λ (m : Name). all.settled.rank m < n) (sym is) (omega arith) in
      outer_is n d i less ∙ ap (λ (m : Name). listed (named outers m)) is) in
      let one : c.outer ≡ firsts (flat_map (given_by list) (directly_above c)) = has.each c k in
      let two : firsts (flat_map (given_by list) (directly_above c)) ≡ firsts (flat_map (given_by list) (directly_above e.class)) = ap (λ (ns : List Name). firsts (flat_map (given_by list) ns)) (sym e.above) in
      let three : firsts (flat_map (given_by list) (directly_above e.class)) ≡ given_to entries outers e.class = ap firsts (flat_map_agree (given_by list) (gives entries outers) (directly_above e.class) each) in
      one ∙ (two ∙ (three ∙ sym (ap listed lists)))

  -- the classes are these
  pub classes_are : list ≡ map (filled_by outers) entries
  classes_are = all_filled outers list entries same (λ c k. outer_is (suc (all.settled.rank c.name)) c k (omega arith))

by_order : (a b : Name) (o : Ordering) → name_order a b ≡ o → (name_order a b ≡ Less → ⊥) → (name_order b a ≡ Less → ⊥) → a ≡ b
by_order a b Less is first second = absurd (first is)
by_order a b Equal is first second = tied_equal a b (ap is_eq is)
by_order a b Greater is first second = absurd (second (rw (nat_list_cmp_total.antisymm b a, is) refl))

-- there is one least circle
pub one_circle : (entries : Entries) (a b : Name) → IsLeastCircle entries a → IsLeastCircle entries b → a ≡ b
one_circle entries a b first second = by_order a b (name_order a b) refl (second.least a first.circle) (first.least b second.circle)

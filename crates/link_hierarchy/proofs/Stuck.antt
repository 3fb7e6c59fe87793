-- Where classes wait for one another, one of them is above itself.
use Rattle.std.proofs.Common.{◌≡◌, ◌<◌, true, false, List, [], ◌∷◌, ◌++◌, length, Option, Some, None, refl, ap, subst, arith, inl, inr}
use Rattle.std.specs.Prelude.{IsTrue, is_some, option_to_list, ◌&&◌}
use Rattle.app_machine.specs.declared.app.Class.{Class}
use Rattle.vet_base.specs.Members.{In}
use Rattle.app_machine.specs.Names.{Name}
use Rattle.app_machine.specs.Lookups.{directly_above}
use Rattle.link_hierarchy.specs.Circle.{LeastAmong}
use Rattle.link_hierarchy.specs.Hierarchy.{Above, directly, beyond, NoCircle, IsLeastCircle}
use Rattle.link_listing.specs.Orders.{has_name}
use Rattle.link_hierarchy.specs.Settled.{Entries, Outers, Settled, Covers, AreStuck, AllSettled, is_settled, all_settled, one_settled, is_ready}
use Rattle.std.proofs.lemmas.Bool.{and_cases}
use Rattle.vet_base.proofs.Bools.{implies_fails}

-- what has something above it is a class
pub starts : (classes : Entries) (name above : Name) → Above classes name above → IsTrue (has_name classes name)
starts classes name above (directly class is k) = ap (λ (o : Option Class). is_some o) is
starts classes name above (beyond p q) = starts classes _ _ p

module _ (classes : Entries) (outers : Outers) (settled : Settled classes outers) where
  climbs : (name above : Name) → Above classes name above → IsTrue (has_name outers name) → IsTrue (has_name classes above) → IsTrue (has_name outers above) × (settled.rank above < settled.rank name)
  climbs name above (directly class is k) had known = settled.above name above class is had k known
  climbs name above (beyond p q) had known =
      let low = climbs _ _ p had (starts classes _ _ q) in
      let lower = climbs _ _ q low.0 known in
      (lower.0, omega (arith, low.1, lower.1))

  -- a settled class is not above itself
  pub not_above : (name : Name) → IsTrue (has_name outers name) → Above classes name name → ⊥
  not_above name had p = let low = climbs name name p had (starts classes name name p) in omega (arith, low.1)

pub no_circle : (classes : Entries) (outers : Outers) → AllSettled classes outers → NoCircle classes
no_circle classes outers all = record { none = λ name p. not_above classes outers all.settled name (all.all name (starts classes name name p)) p }

-- a class above itself is left
circle_left : (classes : Entries) (outers : Outers) (left : List Name) → Settled classes outers → Covers classes outers left → (name : Name) → Above classes name name → In name left
circle_left classes outers left settled covers name p = elim (covers.each name (starts classes name name p)) [
  | inl had ↦ absurd (not_above classes outers settled name had p)
  | inr k ↦ k
]

pub least_of_all : (classes : Entries) (outers : Outers) (left : List Name) (name : Name) → Settled classes outers → Covers classes outers left → LeastAmong classes left (Some name) → IsLeastCircle classes name
least_of_all classes outers left name settled covers among = record { circle = among.0; least = λ other p less. among.1 other (circle_left classes outers left settled covers other p) p less }

-- a name of the list to which a way leads back, where from each a way leads to one of the list
module _ (R : Name → Name → Type 0) (joined : (x y z : Name) → R x y → R y z → R x z) where
  loops : (first : Name) (others : List Name) → ((x : Name) → In x (first ∷ others) → (t : Name) × In t (first ∷ others) × R x t) → (x : Name) × In x (first ∷ others) × R x x
  loops first [] next = let t = next first (inl refl) in at_first t.0 t.1 t.2
    where
      at_first : (t : Name) → In t (first ∷ []) → R first t → (x : Name) × In x (first ∷ []) × R x x
      at_first t (inl e) r = (first, inl refl, subst (λ (n : Name). R first n) e r)
      at_first t (inr k) r = absurd k
  loops first (second ∷ others) next =
      let u = next first (inl refl) in
      at_first u.0 u.1 u.2 (λ k. loops second others (λ x j. let t = next x (inr j) in around u.0 k u.2 x t.0 t.1 t.2))
    where
      around : (u : Name) → In u (second ∷ others) → R first u → (x t : Name) → In t (first ∷ second ∷ others) → R x t → (s : Name) × In s (second ∷ others) × R x s
      around u k r x t (inl e) way = (u, k, joined x first u (subst (λ (n : Name). R x n) e way) r)
      around u k r x t (inr j) way = (t, j, way)

      at_first : (u : Name) → In u (first ∷ second ∷ others) → R first u → (In u (second ∷ others) → (x : Name) × In x (second ∷ others) × R x x) → (x : Name) × In x (first ∷ second ∷ others) × R x x
      at_first u (inl e) r more = (first, inl refl, subst (λ (n : Name). R first n) e r)
      at_first u (inr k) r more = let found = more k in (found.0, inr found.1, found.2)

-- what an unready class waits for
record Waits (classes : Entries) (outers : Outers) (names : List Name) : Type 0 where
  above : Name
  there : In above names
  unsettled : is_settled classes outers above ≡ false

waits_among : (classes : Entries) (outers : Outers) (names : List Name) → all_settled classes outers names ≡ false → Waits classes outers names
waits_among classes outers [] e = absurd cc
waits_among classes outers (x ∷ xs) e = elim (and_cases (is_settled classes outers x) (all_settled classes outers xs) e) [
  | inl here ↦ record { above = x; there = inl refl; unsettled = here }
  | inr others ↦ (let w = waits_among classes outers xs others in record { above = w.above; there = inr w.there; unsettled = w.unsettled })
]

waits_above : (classes : Entries) (outers : Outers) (superclass : Option Name) (names : List Name) → (one_settled classes outers superclass && all_settled classes outers names) ≡ false → Waits classes outers (option_to_list superclass ++ names)
waits_above classes outers None names e = waits_among classes outers names e
waits_above classes outers (Some s) names e = elim (and_cases (is_settled classes outers s) (all_settled classes outers names) e) [
  | inl here ↦ record { above = s; there = inl refl; unsettled = here }
  | inr others ↦ (let w = waits_among classes outers names others in record { above = w.above; there = inr w.there; unsettled = w.unsettled })
]

waits_for : (classes : Entries) (outers : Outers) (class : Class) → is_ready classes outers class ≡ false → Waits classes outers (directly_above class)
unfolding is_ready
waits_for classes outers class unready = waits_above classes outers class.superclass class.interfaces unready

unsettled_is : (classes : Entries) (outers : Outers) (name : Name) → is_settled classes outers name ≡ false → (has_name classes name ≡ true) × (has_name outers name ≡ false)
unfolding is_settled
unsettled_is classes outers name e = implies_fails (has_name classes name) (has_name outers name) e

module _ (classes : Entries) (outers : Outers) (left : List Name) (covers : Covers classes outers left) (stuck : AreStuck classes outers left) where
  next : (x : Name) → In x left → (t : Name) × In t left × Above classes x t
  next x k =
      let one = stuck.each x k in
      let w = waits_for classes outers one.class one.unready in
      let is = unsettled_is classes outers w.above w.unsettled in
      let j : In w.above left = elim (covers.each w.above is.0) [ inl had ↦ (let no : has_name outers w.above ≡ false = is.1 in absurd cc) | inr j ↦ j ] in
      (w.above, j, directly one.class one.there w.there)

-- one of classes that wait for one another is above itself
pub one_is : (classes : Entries) (outers : Outers) (left : List Name) → Covers classes outers left → AreStuck classes outers left → 0 < length left → LeastAmong classes left None → ⊥
one_is classes outers [] covers stuck some none = omega (arith, some)
one_is classes outers (x ∷ xs) covers stuck some none =
    let found = loops (Above classes) (λ a b c p q. beyond p q) x xs (next classes outers (x ∷ xs) covers stuck) in
    none found.0 found.1 found.2

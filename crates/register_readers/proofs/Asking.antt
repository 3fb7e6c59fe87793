-- Places that are asked at: what stands there, and which are.
use Rattle.std.proofs.Common.{◌≡◌, ◌⊎◌, ◌↔◌, ℕ, zero, suc, ◌+◌, ◌-◌, ◌<◌, ◌≤◌, Bool, true, false, cond, List, [], length, take, get_or, Option, Some, refl, sym, ap, subst, ◌∙◌, inl, inr, arith}
use Rattle.std.specs.Prelude.{is_some}
use Rattle.std.specs.Ordering.{nat_cmp, is_eq}
use Rattle.std.specs.BTreeMap.{BTreeMap, get, is_at, IsEmpty, Updates}
use Rattle.std.specs.Map.{lookup}
use Rattle.std.specs.declared.vec.Vec.{Vec}
use Rattle.std.proofs.lemmas.Cmp.{nat_cmp_total, tied_itself}
use Rattle.std.proofs.lemmas.List.{take_all}
use Rattle.std.proofs.lemmas.Map.Lookups.{CmpEqualImpliesEq, exact_unsigned, exact_pairs}
use Rattle.std.proofs.lemmas.Option.{none-some, same_Some}
use Rattle.app_machine.specs.declared.method.Step.{Step}
use Rattle.app_machine.specs.declared.app.App.{App}
use Rattle.app_machine.specs.State.{exception_register}
use Rattle.vet_base.specs.Members.{In}
use Rattle.vet_base.proofs.Orders.{is_equal, then_equal}
use Rattle.cell_rules.specs.Reading.{ReadAt}
use Rattle.register_readers.specs.declared.places.Place.{Place}
use Rattle.register_readers.specs.contracts.places.PlaceOrd.TheImpl.{ghosts as place_order}
use Rattle.register_readers.specs.Asked.{given_to}
use Rattle.register_readers.specs.Bounds.{most_of_one}
use Rattle.register_readers.specs.Found.{held, IsRight, Asks, IsOfStep, IsOfOne, IsArgument}
use Rattle.register_readers.proofs.Adding.{in_more}

exact_place : CmpEqualImpliesEq place_order.cmp
exact_place a b e = ap (λ (p : ℕ × ℕ). record { register = p.0; pc = p.1 }) (exact_pairs nat_cmp nat_cmp exact_unsigned exact_unsigned (a.register, a.pc) (b.register, b.pc) e)

place_at : (p q : Place) → is_at (place_order.cmp p) q ≡ true → p ≡ q
place_at p q h = exact_place p q (is_equal (place_order.cmp p q) h)

at_itself : (p : Place) → is_at (place_order.cmp p) p ≡ true
at_itself p = ap is_eq (then_equal (nat_cmp p.register p.register) (nat_cmp p.pc p.pc) (tied_itself nat_cmp_total p.register) (tied_itself nat_cmp_total p.pc))

module _ {A : Type 0} where
  pub right_none : (app : App) (method : ℕ) (found : BTreeMap Place (Vec ℕ A)) → IsEmpty found → IsRight app method found
  right_none app method found empty = record {
    at = λ r pc own there. absurd (nothing_there r pc own there);
    few = λ r pc own there. absurd (nothing_there r pc own there);
  }
    where
      nothing_there : (r pc : ℕ) (own : Vec ℕ A) → held found r pc ≡ Some own → ⊥
      nothing_there r pc own there = none-some own (sym (ap (λ es. lookup (is_at (place_order.cmp (record { register = r; pc = pc }))) es) empty) ∙ there)

  -- what stands at an address once the readers of a place are put there: those, or what stood before
  stands : (old new : BTreeMap Place (Vec ℕ A)) (place : Place) (own : Vec ℕ A) → Updates place_order.cmp old new place (Some own) →
      (r pc : ℕ) (other : Vec ℕ A) → held new r pc ≡ Some other → ((place ≡ record { register = r; pc = pc }) × (own ≡ other)) ⊎ (held old r pc ≡ Some other)
  stands old new place own updates r pc other there = by_test (is_at (place_order.cmp place) (record { register = r; pc = pc })) refl
    where
      as_updated : (b : Bool) → is_at (place_order.cmp place) (record { register = r; pc = pc }) ≡ b → cond b (Some own) (held old r pc) ≡ Some other
      as_updated b is = sym (updates.0 (record { register = r; pc = pc }) ∙ ap (λ b. cond b (Some own) (held old r pc)) is) ∙ there

      by_test : (b : Bool) → is_at (place_order.cmp place) (record { register = r; pc = pc }) ≡ b → ((place ≡ record { register = r; pc = pc }) × (own ≡ other)) ⊎ (held old r pc ≡ Some other)
      by_test true is = inl (place_at place (record { register = r; pc = pc }) is, same_Some own other (as_updated true is))
      by_test false is = inr (as_updated false is)

  pub right_more : (app : App) (method : ℕ) (old new : BTreeMap Place (Vec ℕ A)) (place : Place) (own : Vec ℕ A) → Updates place_order.cmp old new place (Some own) →
      ((u : ℕ) → In u own.items ↔ ReadAt app method place.register place.pc u) → length own.items ≤ most_of_one → IsRight app method old → IsRight app method new
  right_more app method old new place own updates exact few right = record {
    at = λ r pc other there u. elim (stands old new place own updates r pc other there) [
      | inl now ↦ subst (λ (v : Vec ℕ A). In u v.items ↔ ReadAt app method r pc u) now.1 (subst (λ (p : Place). In u own.items ↔ ReadAt app method p.register p.pc u) now.0 (exact u))
      | inr before ↦ right.at r pc other before u
    ];
    few = λ r pc other there. elim (stands old new place own updates r pc other there) [
      | inl now ↦ subst (λ (v : Vec ℕ A). length v.items ≤ most_of_one) now.1 few
      | inr before ↦ right.few r pc other before
    ];
  }

  pub asks_again : (found : BTreeMap Place (Vec ℕ A)) (place : Place) → is_some (get place_order.cmp found place) ≡ true → Asks (λ r pc. (r ≡ place.register) × (pc ≡ place.pc)) found found
  asks_again found place there = record {
    kept = λ r pc at. at;
    asked = λ r pc is. subst (λ (p : Place). is_some (get place_order.cmp found p) ≡ true) (λ i. record { register = sym is.0 i; pc = sym is.1 i }) there;
  }

  pub asks_anew : (old new : BTreeMap Place (Vec ℕ A)) (place : Place) (own : Vec ℕ A) → Updates place_order.cmp old new place (Some own) →
      Asks (λ r pc. (r ≡ place.register) × (pc ≡ place.pc)) old new
  asks_anew old new place own updates = record {
    kept = λ r pc at. subst (λ o. is_some o ≡ true) (sym (updates.0 (record { register = r; pc = pc }))) (some_still (is_at (place_order.cmp place) (record { register = r; pc = pc })) (held old r pc) at);
    asked = λ r pc is. subst (λ (p : Place). is_some (get place_order.cmp new p) ≡ true) (λ i. record { register = sym is.0 i; pc = sym is.1 i })
        (ap is_some (updates.0 place ∙ ap (λ b. cond b (Some own) (get place_order.cmp old place)) (at_itself place)));
  }
    where
      some_still : (b : Bool) (o : Option (Vec ℕ A)) → is_some o ≡ true → is_some (cond b (Some own) o) ≡ true
      some_still true o at = refl
      some_still false o at = at

  pub asks_both : (P Q : ℕ → ℕ → Type 0) (a b c : BTreeMap Place (Vec ℕ A)) → Asks P a b → Asks Q b c → Asks (λ r pc. P r pc ⊎ Q r pc) a c
  asks_both P Q a b c first after = record {
    kept = λ r pc at. after.kept r pc (first.kept r pc at);
    asked = λ r pc is. elim is [ inl p ↦ after.kept r pc (first.asked r pc p) | inr q ↦ after.asked r pc q ];
  }

  pub asks_as : (P Q : ℕ → ℕ → Type 0) (a b : BTreeMap Place (Vec ℕ A)) → ((r pc : ℕ) → Q r pc → P r pc) → Asks P a b → Asks Q a b
  asks_as P Q a b from asks = record { kept = asks.kept; asked = λ r pc q. asks.asked r pc (from r pc q) }

  pub asks_nothing : (P : ℕ → ℕ → Type 0) (found : BTreeMap Place (Vec ℕ A)) → ((r pc : ℕ) → P r pc → ⊥) → Asks P found found
  asks_nothing P found none = record { kept = λ r pc at. at; asked = λ r pc p. absurd (none r pc p) }

  -- of a register at each of a list of addresses
  pub at_none : (found : BTreeMap Place (Vec ℕ A)) (r : ℕ) (pcs : List ℕ) → Asks (λ q pc. (q ≡ r) × In pc (take 0 pcs)) found found
  at_none found r pcs = asks_nothing (λ q pc. (q ≡ r) × In pc (take 0 pcs)) found (λ q pc h. h.1)

  pub at_more : (a b c : BTreeMap Place (Vec ℕ A)) (r : ℕ) (pcs : List ℕ) (i : ℕ) → i < length pcs → Asks (λ q v. (q ≡ r) × In v (take i pcs)) a b →
      Asks (λ q v. (q ≡ r) × (v ≡ get_or pcs i 0)) b c → Asks (λ q v. (q ≡ r) × In v (take (i + 1) pcs)) a c
  at_more a b c r pcs i within so_far one =
      asks_as (λ q v. ((q ≡ r) × In v (take i pcs)) ⊎ ((q ≡ r) × (v ≡ get_or pcs i 0))) (λ q v. (q ≡ r) × In v (take (i + 1) pcs)) a c
      (λ q v h. elim (in_more pcs i 0 within v h.1) [ inl before ↦ inl (h.0, before) | inr same ↦ inr (h.0, same) ])
      (asks_both (λ q v. (q ≡ r) × In v (take i pcs)) (λ q v. (q ≡ r) × (v ≡ get_or pcs i 0)) a b c so_far one)

  pub at_all : (a b : BTreeMap Place (Vec ℕ A)) (r : ℕ) (pcs : List ℕ) (i : ℕ) → length pcs ≤ i → Asks (λ q v. (q ≡ r) × In v (take i pcs)) a b → Asks (λ q v. (q ≡ r) × In v pcs) a b
  at_all a b r pcs i past asks = subst (λ xs. Asks (λ q v. (q ≡ r) × In v xs) a b) (take_all i pcs past) asks

  -- of each of a list of registers
  pub of_none : (found : BTreeMap Place (Vec ℕ A)) (rs pcs : List ℕ) → Asks (λ q pc. In q (take 0 rs) × In pc pcs) found found
  of_none found rs pcs = asks_nothing (λ q pc. In q (take 0 rs) × In pc pcs) found (λ q pc h. h.0)

  pub of_more : (a b c : BTreeMap Place (Vec ℕ A)) (rs pcs : List ℕ) (i : ℕ) → i < length rs → Asks (λ q v. In q (take i rs) × In v pcs) a b →
      Asks (λ q v. (q ≡ get_or rs i 0) × In v pcs) b c → Asks (λ q v. In q (take (i + 1) rs) × In v pcs) a c
  of_more a b c rs pcs i within so_far one =
      asks_as (λ q v. (In q (take i rs) × In v pcs) ⊎ ((q ≡ get_or rs i 0) × In v pcs)) (λ q v. In q (take (i + 1) rs) × In v pcs) a c
      (λ q v h. elim (in_more rs i 0 within q h.0) [ inl before ↦ inl (before, h.1) | inr same ↦ inr (same, h.1) ])
      (asks_both (λ q v. In q (take i rs) × In v pcs) (λ q v. (q ≡ get_or rs i 0) × In v pcs) a b c so_far one)

  pub of_all : (a b : BTreeMap Place (Vec ℕ A)) (rs pcs : List ℕ) (i : ℕ) → length rs ≤ i → Asks (λ q v. In q (take i rs) × In v pcs) a b → Asks (λ q v. In q rs × In v pcs) a b
  of_all a b rs pcs i past asks = subst (λ xs. Asks (λ q v. In q xs × In v pcs) a b) (take_all i rs past) asks

  -- of a step, and of each of a list
  pub of_step : (a b c : BTreeMap Place (Vec ℕ A)) (step : Step) → Asks (λ q v. In q (given_to step.act) × In v step.next) a b →
      Asks (λ q v. (q ≡ exception_register) × In v step.catches) b c → Asks (IsOfStep step) a c
  of_step a b c step next caught = asks_both (λ q v. In q (given_to step.act) × In v step.next) (λ q v. (q ≡ exception_register) × In v step.catches) a b c next caught

  pub steps_none : (found : BTreeMap Place (Vec ℕ A)) (steps : List Step) → Asks (IsOfOne (take 0 steps)) found found
  steps_none found steps = asks_nothing (IsOfOne (take 0 steps)) found (λ q pc h. h.1)

  pub steps_more : (a b c : BTreeMap Place (Vec ℕ A)) (steps : List Step) (i : ℕ) (step : Step) → i < length steps → step ≡ get_or steps i step → Asks (IsOfOne (take i steps)) a b →
      Asks (IsOfStep step) b c → Asks (IsOfOne (take (i + 1) steps)) a c
  steps_more a b c steps i step within is so_far one =
      asks_as (λ q v. IsOfOne (take i steps) q v ⊎ IsOfStep step q v) (IsOfOne (take (i + 1) steps)) a c
      (λ q v h. elim (in_more steps i step within h.0 h.1) [ inl before ↦ inl (h.0, before, h.2) | inr same ↦ inr (subst (λ s. IsOfStep s q v) (same ∙ sym is) h.2) ])
      (asks_both (IsOfOne (take i steps)) (IsOfStep step) a b c so_far one)

  pub steps_all : (a b : BTreeMap Place (Vec ℕ A)) (steps : List Step) (i : ℕ) → length steps ≤ i → Asks (IsOfOne (take i steps)) a b → Asks (IsOfOne steps) a b
  steps_all a b steps i past asks = subst (λ xs. Asks (IsOfOne xs) a b) (take_all i steps past) asks

  -- of the arguments
  pub no_argument : (found : BTreeMap Place (Vec ℕ A)) (first : ℕ) → Asks (IsArgument first 0) found found
  no_argument found first = asks_nothing (IsArgument first 0) found (λ q pc h. omega (arith, h.1))

  pub argument_more : (a b c : BTreeMap Place (Vec ℕ A)) (first i : ℕ) → Asks (IsArgument first i) a b → Asks (λ q v. (q ≡ first + i) × (v ≡ 0)) b c → Asks (IsArgument first (i + 1)) a c
  argument_more a b c first i so_far one =
      asks_as (λ q v. IsArgument first i q v ⊎ ((q ≡ first + i) × (v ≡ 0))) (IsArgument first (i + 1)) a c (λ q v h. last_or_before h.0 q v h.1 h.2 h.3)
      (asks_both (IsArgument first i) (λ q v. (q ≡ first + i) × (v ≡ 0)) a b c so_far one)
    where
      below_or_last : (k n : ℕ) → k < n + 1 → (k < n) ⊎ (k ≡ n)
      below_or_last zero zero lt = inr refl
      below_or_last zero (suc n) lt = inl (omega arith)
      below_or_last (suc k) zero lt = absurd (omega (arith, lt))
      below_or_last (suc k) (suc n) lt = elim (below_or_last k n (omega (arith, lt))) [ inl less ↦ inl (omega (arith, less)) | inr same ↦ inr (ap suc same) ]

      last_or_before : (k q v : ℕ) → k < i + 1 → q ≡ first + k → v ≡ 0 → IsArgument first i q v ⊎ ((q ≡ first + i) × (v ≡ 0))
      last_or_before k q v lt is zero_pc = elim (below_or_last k i lt) [ inl less ↦ inl (k, less, is, zero_pc) | inr same ↦ inr (subst (λ z. q ≡ first + z) same is, zero_pc) ]

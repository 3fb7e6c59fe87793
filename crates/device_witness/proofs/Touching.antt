-- The instructions that touch static fields of the library stand by method and address.
use Rattle.std.proofs.Common.{◌≡◌, ℕ, ◌+◌, ◌<◌, ◌≤◌, List, [], ◌∷◌, length, refl, sym, ap, subst, inl, inr, arith}
use Rattle.std.specs.Prelude.{filter}
use Rattle.std.specs.List.Sorted.{IsStrictlySortedBy}
use Rattle.std.specs.Ordering.{nat_cmp}
use Rattle.std.specs.declared.cmp.Ordering.{Ordering}
use Rattle.std.specs.declared.cmp.Ordering.TheVariants.{Less}
use Rattle.std.proofs.lemmas.Bool.{cases_Bool}
use Rattle.std.proofs.lemmas.Cmp.{on_total, nat_cmp_total, tied_itself}
use Rattle.std.proofs.lemmas.List.Kept.{IsStrictlySortedBy-filter}
use Rattle.app_machine.specs.declared.app.App.{App}
use Rattle.app_machine.specs.declared.method.Method.{Method}
use Rattle.app_machine.specs.declared.method.Step.{Step}
use Rattle.app_machine.specs.Sound.{SoundApp, SoundMethod}
use Rattle.app_machine.specs.declared.lists.Lists.{Lists}
use Rattle.link_access.specs.Access.{Accesses}
use Rattle.outcomes.specs.Places.{place_order}
use Rattle.outcomes.specs.Spots.{Spot, at_spot, spot_order}
use Rattle.outcomes.proofs.Spots.{spots_in_order}
use Rattle.device_causes.specs.Libraries.{is_touching, spot_of, spots_from, spots_in, static_spots}
use Rattle.vet_base.specs.Members.{In}
use Rattle.vet_base.proofs.Ascending.{strictly_sorted}
use Rattle.vet_base.proofs.Members.{from_map, in_either}
use Rattle.vet_base.proofs.Orders.{less_cmp}
use Rattle.device_witness.proofs.Rising.{joined, mapped}

abbrev by_pc : Step → Step → Ordering
by_pc a b = nat_cmp a.pc b.pc

no_steps : IsStrictlySortedBy by_pc []
unfolding IsStrictlySortedBy
no_steps = tt

steps_rise : (app : App) (m : Method) → SoundMethod app m → IsStrictlySortedBy by_pc m.steps
steps_rise app m sound = elim (cases_Bool m.is_native) [
  | inl is_native ↦ subst (IsStrictlySortedBy by_pc) (sym (sound.of_native is_native)) no_steps
  | inr has_code ↦ strictly_sorted by_pc (on_total (λ (s : Step). s.pc) nat_cmp_total) m.steps (sound.of_code has_code).order
]

at_number : (i p q : ℕ) → spot_order (i, p) (i, q) ≡ nat_cmp p q
at_number i p q = rw (tied_itself nat_cmp_total i) refl

module _ (app : App) (access : Accesses) (lists : Lists) where
  in_method : (i : ℕ) (m : Method) → SoundMethod app m → IsStrictlySortedBy spot_order (spots_in app access lists i m)
  unfolding spots_in
  in_method i m sound = mapped spot_order by_pc (spot_of i) (filter (is_touching app access lists) m.steps) (λ a b of_a of_b. at_number i a.pc b.pc)
      (IsStrictlySortedBy-filter by_pc (is_touching app access lists) m.steps (steps_rise app m sound))

  of_number : (i : ℕ) (m : Method) (spot : Spot) → In spot (spots_in app access lists i m) → spot.0 ≡ i
  unfolding spots_in
  of_number i m spot there = ap (λ (s : Spot). s.0) (from_map (spot_of i) (filter (is_touching app access lists) m.steps) spot there).2

  within : (i n : ℕ) (ms : List Method) → i + length ms ≡ n → (spot : Spot) → In spot (spots_from app access lists i ms) → (i ≤ spot.0) × (spot.0 < n)
  unfolding spots_from
  within i n [] all spot there = absurd there
  within i n (m ∷ ms) all spot there = elim (in_either spot (spots_in app access lists i m) (spots_from app access lists (i + 1) ms) there) [
    | inl here ↦ let is : spot.0 ≡ i = of_number i m spot here in (omega (arith, is), omega (arith, is, all))
    | inr later ↦
        let rest = within (i + 1) n ms (omega (arith, all)) spot later in
        let least : i + 1 ≤ spot.0 = rest.0 in
        (omega (arith, least), rest.1)
  ]

  from_rises : (i : ℕ) (ms : List Method) → ((m : Method) → In m ms → SoundMethod app m) → IsStrictlySortedBy spot_order (spots_from app access lists i ms)
  unfolding spots_from IsStrictlySortedBy
  from_rises i [] sound = tt
  from_rises i (m ∷ ms) sound =
      joined spot_order (spots_in app access lists i m) (spots_from app access lists (i + 1) ms) (in_method i m (sound m (inl refl))) (from_rises (i + 1) ms (λ n there. sound n (inr there))) below
    where
      below : (a b : Spot) → In a (spots_in app access lists i m) → In b (spots_from app access lists (i + 1) ms) → spot_order a b ≡ Less
      below a b of_a of_b =
          let is : a.0 ≡ i = of_number i m a of_a in
          let least : i + 1 ≤ b.0 = (within (i + 1) (i + 1 + length ms) ms refl b of_b).0 in
          let less : a.0 < b.0 = omega (arith, is, least) in
          rw (less_cmp a.0 b.0 less) refl

  module _ (sound : SoundApp app) where
    pub spots_rise : IsStrictlySortedBy spot_order (static_spots app access lists)
    unfolding static_spots
    spots_rise = from_rises 0 app.methods sound.bodies

    pub places_same : (a b : Spot) → In a (static_spots app access lists) → In b (static_spots app access lists) → place_order (at_spot app a) (at_spot app b) ≡ spot_order a b
    unfolding static_spots
    places_same a b of_a of_b = spots_in_order app sound a b (within 0 (length app.methods) app.methods (omega arith) a of_a).1 (within 0 (length app.methods) app.methods (omega arith) b of_b).1

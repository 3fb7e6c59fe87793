-- Places stand as the numbers of their methods and their addresses do.
use Rattle.std.proofs.Common.{◌≡◌, ◌<◌, ℕ, get_or, refl, sym, ◌∙◌, ap, inl, inr, arith}
use Rattle.std.specs.Prelude.{length}
use Rattle.std.specs.Cmp.{IsTotalOrder}
use Rattle.std.specs.Cmp.Lexicographic.{nat_list_cmp_total}
use Rattle.std.specs.Ordering.{nat_cmp, ordering_then}
use Rattle.std.specs.declared.cmp.Ordering.{Ordering}
use Rattle.std.specs.declared.cmp.Ordering.TheVariants.{Less}
use Rattle.std.proofs.lemmas.Bool.{cases_lt}
use Rattle.std.proofs.lemmas.Cmp.{on_total, then_total, tied_itself, nat_cmp_total}
use Rattle.std.proofs.lemmas.Option.{slice_get-get_or}
use Rattle.app_machine.specs.declared.app.App.{App}
use Rattle.app_machine.specs.declared.method.Method.{Method}
use Rattle.app_machine.specs.Names.{descriptor_of}
use Rattle.app_machine.specs.Sound.{SoundApp, method_order, name_order}
use Rattle.vet_base.proofs.Ascending.{ascends_pairs}
use Rattle.vet_base.proofs.Lists.{element_at}
use Rattle.vet_base.proofs.Orders.{less_cmp, then_assoc, turned}
use Rattle.outcomes.specs.Places.{place_at, place_in, place_order}
use Rattle.outcomes.specs.Spots.{Spot, at_spot, spot_order}

method_total : IsTotalOrder method_order
method_total = then_total
    (on_total (λ (m : Method). m.at.class) nat_list_cmp_total)
    (then_total (on_total (λ (m : Method). m.at.name) nat_list_cmp_total) (on_total (λ (m : Method). descriptor_of m.at.proto) nat_list_cmp_total))

-- places in methods stand as the methods do, and then as their addresses
in_methods : (x y : Method) (p q : ℕ) → place_order (place_at x.at p) (place_at y.at q) ≡ ordering_then (method_order x y) (nat_cmp p q)
unfolding place_order
in_methods x y p q =
    let class : Ordering = name_order x.at.class y.at.class in
    let name : Ordering = name_order x.at.name y.at.name in
    let descriptor : Ordering = name_order (descriptor_of x.at.proto) (descriptor_of y.at.proto) in
    ap (λ o. ordering_then class o) (then_assoc name descriptor (nat_cmp p q)) ∙ then_assoc class (ordering_then name descriptor) (nat_cmp p q)

module _ (app : App) (sound : SoundApp app) where
  -- methods stand as their numbers do
  by_number : (i j : ℕ) (d : Method) → i < length app.methods → j < length app.methods → method_order (get_or app.methods i d) (get_or app.methods j d) ≡ nat_cmp i j
  by_number i j d of_i of_j = elim (cases_lt i j) [
    | inl less ↦ ascends_pairs method_order method_total app.methods sound.methods i j d less of_j ∙ sym (less_cmp i j less)
    | inr more ↦ elim (cases_lt j i) [
      | inl greater ↦
          let below : method_order (get_or app.methods j d) (get_or app.methods i d) ≡ Less = ascends_pairs method_order method_total app.methods sound.methods j i d greater of_i in
          turned method_total (get_or app.methods j d) (get_or app.methods i d) below ∙ sym (turned nat_cmp_total j i (less_cmp j i greater))
      | inr no_more ↦
          let same : i ≡ j = omega arith in
          rw same (tied_itself method_total (get_or app.methods j d) ∙ sym (tied_itself nat_cmp_total j))
    ]
  ]

  there : (i : ℕ) (d : Method) (p : ℕ) → i < length app.methods → place_in app i p ≡ place_at (get_or app.methods i d).at p
  unfolding place_in
  there i d p within = rw (slice_get-get_or app.methods i d within) refl

  pub spots_in_order : (a b : Spot) → a.0 < length app.methods → b.0 < length app.methods → place_order (at_spot app a) (at_spot app b) ≡ spot_order a b
  spots_in_order a b of_a of_b =
      let d : Method = (element_at app.methods a.0 of_a).0 in
      ap (λ p. place_order p (at_spot app b)) (there a.0 d a.1 of_a) ∙ (ap (λ p. place_order (place_at (get_or app.methods a.0 d).at a.1) p) (there b.0 d b.1 of_b)
      ∙ (in_methods (get_or app.methods a.0 d) (get_or app.methods b.0 d) a.1 b.1
      ∙ ap (λ o. ordering_then o (nat_cmp a.1 b.1)) (by_number a.0 b.0 d of_a of_b)))

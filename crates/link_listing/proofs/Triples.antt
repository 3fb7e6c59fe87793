-- The order of three names.
use Rattle.std.proofs.Common.{◌≡◌, ap, ◌∙◌}
use Rattle.std.specs.Cmp.{IsTotalOrder}
use Rattle.std.specs.Ordering.{ordering_then}
use Rattle.std.specs.declared.cmp.Ordering.TheVariants.{Equal}
use Rattle.std.proofs.lemmas.Cmp.{nat_list_cmp_total, then_total, on_total}
use Rattle.app_machine.specs.Names.{Name}
use Rattle.app_machine.specs.Sound.{name_order}
use Rattle.link_listing.specs.Texts.{Triple}
use Rattle.link_listing.specs.Orders.{triple_order}
use Rattle.vet_base.proofs.Orders.{both_equal}
use Rattle.vet_base.proofs.Texts.{tied_same, same_equal}

pub triple_total : IsTotalOrder triple_order
triple_total = then_total (then_total (on_total (λ (t : Triple). t.0) nat_list_cmp_total) (on_total (λ (t : Triple). t.1) nat_list_cmp_total)) (on_total (λ (t : Triple). t.2) nat_list_cmp_total)

pub tied_triples_equal : (a b : Triple) → triple_order a b ≡ Equal → a ≡ b
tied_triples_equal a b tie =
    let outer = both_equal (ordering_then (name_order a.0 b.0) (name_order a.1 b.1)) (name_order a.2 b.2) tie in
    let inner = both_equal (name_order a.0 b.0) (name_order a.1 b.1) outer.0 in
    let first : a.0 ≡ b.0 = same_equal a.0 b.0 (tied_same a.0 b.0 inner.0) in
    let second : a.1 ≡ b.1 = same_equal a.1 b.1 (tied_same a.1 b.1 inner.1) in
    let third : a.2 ≡ b.2 = same_equal a.2 b.2 (tied_same a.2 b.2 outer.1) in
    ap (λ (n : Name). (n, a.1, a.2)) first ∙ (ap (λ (n : Name). (b.0, n, a.2)) second ∙ ap (λ (n : Name). (b.0, b.1, n)) third)

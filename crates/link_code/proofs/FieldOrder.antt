-- Fields are ordered as their three names are.
use Rattle.std.proofs.Common.{◌≡◌, List, [], ◌∷◌, sym, ◌∙◌}
use Rattle.vet_base.specs.Ascending.{Ascends}
use Rattle.app_machine.specs.Sound.{name_order, field_order}
use Rattle.link_listing.specs.Texts.{Triple}
use Rattle.link_listing.specs.Orders.{triple_order}
use Rattle.vet_base.proofs.Orders.{then_assoc}

pub same_order : (a b : Triple) → triple_order a b ≡ field_order a b
same_order a b = sym (then_assoc (name_order a.0 b.0) (name_order a.1 b.1) (name_order a.2 b.2))

pub ascends_as_fields : (ts : List Triple) → Ascends triple_order ts → Ascends field_order ts
ascends_as_fields [] sorted = tt
ascends_as_fields (x ∷ []) sorted = tt
ascends_as_fields (x ∷ y ∷ ys) sorted = (sym (same_order x y) ∙ sorted.0, ascends_as_fields (y ∷ ys) sorted.1)

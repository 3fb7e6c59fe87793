-- Lists whose elements rise by an order.
use Rattle.std.specs.Prelude.{◌≡◌, List, [], ◌∷◌}
use Rattle.std.specs.declared.cmp.Ordering.{Ordering}
use Rattle.std.specs.declared.cmp.Ordering.TheVariants.{Less}

-- each element stands before the next, so that none stands twice
abbrev pub Ascends : {A : Type 0} → (A → A → Ordering) → List A → Type 0
Ascends order [] = Unit {0}
Ascends order (x ∷ []) = Unit {0}
Ascends order (x ∷ y ∷ ys) = (order x y ≡ Less) × Ascends order (y ∷ ys)

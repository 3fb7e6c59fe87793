-- Lists in which no element stands twice.
use Rattle.std.specs.Prelude.{List, [], ◌∷◌}
use Rattle.vet_base.specs.Members.{In}

-- no element stands twice
abbrev pub Apart : {A : Type 0} → List A → Type 0
Apart [] = Unit {0}
Apart (x ∷ xs) = (In x xs → ⊥) × Apart xs

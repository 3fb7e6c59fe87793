-- The keys of a path, as a list and from one.
use Rattle.std.specs.Prelude.{◌≡◌, List, [], ◌∷◌, Option, Some, None}
use Rattle.vet_base.specs.declared.key_id.KeyId.{KeyId}
use Rattle.access_path.specs.declared.keys.Keys.{Keys}
use Rattle.access_path.specs.declared.keys.Keys.TheVariants.{Zero, One, Two, Three, Four, Five}

abbrev pub keys_in : Keys → List KeyId
keys_in Zero = []
keys_in (One a) = a ∷ []
keys_in (Two a b) = a ∷ b ∷ []
keys_in (Three a b c) = a ∷ b ∷ c ∷ []
keys_in (Four a b c d) = a ∷ b ∷ c ∷ d ∷ []
keys_in (Five a b c d e) = a ∷ b ∷ c ∷ d ∷ e ∷ []

-- the first keys of a list, as many as a path has
abbrev pub first_keys : List KeyId → Keys
first_keys [] = Zero
first_keys (a ∷ []) = One a
first_keys (a ∷ b ∷ []) = Two a b
first_keys (a ∷ b ∷ c ∷ []) = Three a b c
first_keys (a ∷ b ∷ c ∷ d ∷ []) = Four a b c d
first_keys (a ∷ b ∷ c ∷ d ∷ e ∷ more) = Five a b c d e

-- the first key, and those behind it
abbrev pub first_and_rest : List KeyId → Option (KeyId × Keys)
first_and_rest [] = None
first_and_rest (k ∷ more) = Some (k, first_keys more)

-- the list begins with these keys
abbrev pub Begins : List KeyId → List KeyId → Type 0
Begins [] ks = Unit {0}
Begins (a ∷ more) [] = ⊥
Begins (a ∷ more) (k ∷ ks) = (a ≡ k) × Begins more ks

-- The laws of paths, by which alone others know how many keys a path has.
use Rattle.std.specs.Prelude.{◌≡◌, ◌⊎◌, List, [], ◌∷◌, Some}
use Rattle.vet_base.specs.declared.key_id.KeyId.{KeyId}
use Rattle.vet_base.specs.Members.{In}
use Rattle.access_path.specs.declared.path.Path.{Path}
use Rattle.access_path.specs.Paths.{Covers, keys_of, cut, rest, empty_path}

pub record PathLaws : Type 0 where
  -- a key in front is the one key more, and without the first key there are no others
  pub keys_of_cut : (k j : KeyId) (p : Path) → In j (keys_of (cut k p)) → (j ≡ k) ⊎ In j (keys_of p)
  pub keys_of_rest : (k j : KeyId) (p q : Path) → rest p k ≡ Some q → In j (keys_of q) → In j (keys_of p)
  pub cut : (k : KeyId) (p : Path) (ks : List KeyId) → Covers p ks → Covers (cut k p) (k ∷ ks)
  pub rest : (k : KeyId) (p : Path) (ks : List KeyId) → Covers p (k ∷ ks) → (q : Path) × (rest p k ≡ Some q) × Covers q ks
  pub empty : Covers empty_path []
  pub without_keys : (p : Path) → Covers p [] → keys_of p ≡ []

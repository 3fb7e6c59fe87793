-- A loop that puts names one after the other.
use Rattle.std.proofs.Common.{◌≡◌, ℕ, ◌+◌, ◌<◌, ◌≤◌, List, [], ◌∷◌, ◌++◌, append_assoc, length, drop, get_or, refl, sym, ◌∙◌}
use Rattle.std.proofs.lemmas.List.{append-nil, drop_all}
use Rattle.app_machine.specs.Names.{Name, joined}
use Rattle.vet_base.proofs.Lists.{drop_read}

-- these bytes, and then the names from i on, make the whole
pub record Joins (names : List Name) (i : ℕ) (bytes whole : List ℕ) : Type 0 where
  pub is : bytes ++ joined (drop i names) ≡ whole

pub joined_begins : (names : List Name) (bytes : List ℕ) → Joins names 0 bytes (bytes ++ joined names)
joined_begins names bytes = record { is = refl }

pub joined_goes_on : (names : List Name) (i : ℕ) (x : Name) (bytes whole : List ℕ) → i < length names → x ≡ get_or names i x → Joins names i bytes whole → Joins names (i + 1) (bytes ++ x) whole
joined_goes_on names i x bytes whole lt item so_far =
    let k : drop i names ≡ x ∷ drop (i + 1) names = drop_read names i x lt item in
    let h : bytes ++ joined (x ∷ drop (i + 1) names) ≡ whole = rw k at so_far.is in
    record { is = append_assoc bytes x (joined (drop (i + 1) names)) ∙ h }

pub joined_is_done : (names : List Name) (i : ℕ) (bytes whole : List ℕ) → length names ≤ i → Joins names i bytes whole → bytes ≡ whole
joined_is_done names i bytes whole le so_far =
    let k : drop i names ≡ [] = drop_all i names le in
    let h : bytes ++ joined [] ≡ whole = rw k at so_far.is in
    sym (append-nil bytes) ∙ h

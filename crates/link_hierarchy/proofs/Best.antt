-- The least name above itself, of names looked at one after the other.
use Rattle.std.proofs.Common.{◌≡◌, ℕ, ◌+◌, ◌<◌, length, take, get_or, true, false, List, [], ◌∷◌, ◌++◌, Option, Some, None, sym, ◌∙◌, ap, subst, inl, inr}
use Rattle.std.specs.declared.cmp.Ordering.TheVariants.{Less, Equal}
use Rattle.std.proofs.lemmas.List.{take_more}
use Rattle.std.proofs.lemmas.Cmp.{nat_list_cmp_total, tied_itself}
use Rattle.app_machine.specs.declared.app.Class.{Class}
use Rattle.app_machine.specs.Names.{Name}
use Rattle.app_machine.specs.Sound.{name_order}
use Rattle.link_hierarchy.specs.Circle.{LeastAmong, comes_first}
use Rattle.link_hierarchy.specs.Hierarchy.{Above}
use Rattle.vet_base.proofs.Orders.{is_less, not_less}
use Rattle.vet_base.proofs.Members.{in_either}

-- one more of the names
pub front_grows : (names : List Name) (i : ℕ) (name : Name) → i < length names → name ≡ get_or names i name → take (i + 1) names ≡ take i names ++ name ∷ []
front_grows names i name lt item = take_more names i name lt ∙ ap (λ (n : Name). take i names ++ n ∷ []) (sym item)

not_itself : (name : Name) → name_order name name ≡ Less → ⊥
not_itself name less = let e : name_order name name ≡ Equal = tied_itself nat_list_cmp_total name in let both : Less ≡ Equal = sym less ∙ e in absurd cc

module _ (classes : List (Name × Class)) (name : Name) where
  -- a name behind the best so far
  pub passed_by : (best : Option Name) → comes_first name best ≡ false → (before : List Name) → LeastAmong classes before best → LeastAmong classes (before ++ name ∷ []) best
  passed_by None behind before among = absurd cc
  passed_by (Some best) behind before among = (
    among.0,
    λ n k p less. elim (in_either n before (name ∷ []) k) [
      | inl j ↦ among.1 n j p less
      | inr (inl e) ↦ not_less (name_order name best) behind (subst (λ (m : Name). name_order m best ≡ Less) e less)
      | inr (inr j) ↦ absurd j
    ],
  )

  -- a better one
  pub better : (best : Option Name) → comes_first name best ≡ true → Above classes name name → (before : List Name) → LeastAmong classes before best → LeastAmong classes (before ++ name ∷ []) (Some name)
  better None first above before among = (
    above,
    λ n k p less. elim (in_either n before (name ∷ []) k) [
      | inl j ↦ among n j p
      | inr (inl e) ↦ not_itself name (subst (λ (m : Name). name_order m name ≡ Less) e less)
      | inr (inr j) ↦ absurd j
    ],
  )
  better (Some best) first above before among = (
    above,
    λ n k p less. elim (in_either n before (name ∷ []) k) [
      | inl j ↦ among.1 n j p (nat_list_cmp_total.trans n name best less (is_less (name_order name best) first))
      | inr (inl e) ↦ not_itself name (subst (λ (m : Name). name_order m name ≡ Less) e less)
      | inr (inr j) ↦ absurd j
    ],
  )

  -- one that is not above itself
  pub no_better : (best : Option Name) → (Above classes name name → ⊥) → (before : List Name) → LeastAmong classes before best → LeastAmong classes (before ++ name ∷ []) best
  no_better None none before among = λ n k p. elim (in_either n before (name ∷ []) k) [
    | inl j ↦ among n j p
    | inr (inl e) ↦ none (subst (λ (m : Name). Above classes m m) e p)
    | inr (inr j) ↦ absurd j
  ]
  no_better (Some best) none before among = (
    among.0,
    λ n k p less. elim (in_either n before (name ∷ []) k) [
      | inl j ↦ among.1 n j p less
      | inr (inl e) ↦ none (subst (λ (m : Name). Above classes m m) e p)
      | inr (inr j) ↦ absurd j
    ],
  )

-- Rows that are put among others, one after the other.
use Rattle.std.proofs.Common.{◌≡◌, ℕ, ◌+◌, ◌<◌, Bool, true, false, MatchBool, List, [], ◌∷◌, ◌++◌, length, take, get_or, sym, ap, subst, ◌∙◌, inl, inr}
use Rattle.std.proofs.lemmas.List.{take_more}
use Rattle.vet_base.specs.Members.{In}
use Rattle.vet_base.proofs.Members.{in_either, in_front, in_back}
use Rattle.fact_rows.specs.declared.row.Row.{Row}
use Rattle.rule_sets.specs.Growing.{IsNew}
use Rattle.flow_trail.specs.Trails.{AreSame}

grown : (old new front : List Row) (row : Row) (fresh : Bool) → AreSame old front → MatchBool fresh (IsNew old row new) (In row old × (new ≡ old)) → AreSame new (front ++ row ∷ [])
grown old new front row true same n = record {
  each = λ x. (
    λ i. elim (in_either x old (row ∷ []) (subst (λ z. In x z) n.is i)) [
      | inl before ↦ in_front x front (row ∷ []) ((same.each x).0 before)
      | inr last ↦ in_back x front (row ∷ []) last
    ],
    λ i. subst (λ z. In x z) (sym n.is) (elim (in_either x front (row ∷ []) i) [
      | inl before ↦ in_front x old (row ∷ []) ((same.each x).1 before)
      | inr last ↦ in_back x old (row ∷ []) last
    ]),
  );
}
grown old new front row false same n = record {
  each = λ x. (
    λ i. in_front x front (row ∷ []) ((same.each x).0 (subst (λ z. In x z) n.1 i)),
    λ i. subst (λ z. In x z) (sym n.1) (elim (in_either x front (row ∷ []) i) [
      | inl before ↦ (same.each x).1 before
      | inr last ↦ elim last [ inl is ↦ subst (λ z. In z old) (sym is) n.0 | inr none ↦ absurd none ]
    ]),
  );
}

pub one_keyed : (rows : List Row) (i : ℕ) (row : Row) (old new : List Row) (fresh : Bool) → i < length rows → row ≡ get_or rows i row →
    MatchBool fresh (IsNew old row new) (In row old × (new ≡ old)) → AreSame old (take i rows) → AreSame new (take (i + 1) rows)
one_keyed rows i row old new fresh within is added same =
    let front : take (i + 1) rows ≡ take i rows ++ row ∷ [] = take_more rows i row within ∙ ap (λ y. take i rows ++ y ∷ []) (sym is) in
    subst (AreSame new) (sym front) (grown old new (take i rows) row fresh same added)

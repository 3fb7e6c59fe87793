-- Contents with the same bytes are one, and what is left of a list was in it.
use Rattle.std.proofs.Common.{◌≡◌, ◌++◌, ◌∷◌, ◌&&◌, ℕ, suc, Bool, true, false, cond, List, [], take, drop, ap, subst, ◌∙◌, ◌⊎◌, inl, inr}
use Rattle.std.proofs.lemmas.Bool.{and_parts}
use Rattle.std.proofs.lemmas.List.{take-append-drop}
use Rattle.vet_base.specs.Members.{In}
use Rattle.vet_base.proofs.Fronts.{in_take}
use Rattle.vet_base.proofs.Members.{in_back, in_either}
use Rattle.vet_base.proofs.Texts.{same_equal, all_equal}
use Rattle.case_rules.specs.declared.case.Content.{Content}
use Rattle.case_rules.specs.Cases.{same, same_content}

abbrev content_of : List ℕ → List ℕ → List ℕ → List (List ℕ) → Content
content_of m l d x = record { manifest = m; layouts = l; declaration = d; dex = x }

pub content_equal : (a b : Content) → same_content a b ≡ true → a ≡ b
content_equal a b is =
    let last = and_parts (same a.manifest b.manifest && same a.layouts b.layouts && same a.declaration b.declaration) _ is in
    let third = and_parts (same a.manifest b.manifest && same a.layouts b.layouts) (same a.declaration b.declaration) last.0 in
    let second = and_parts (same a.manifest b.manifest) (same a.layouts b.layouts) third.0 in
    ap (λ (z : List ℕ). content_of z a.layouts a.declaration a.dex) (same_equal a.manifest b.manifest second.0)
    ∙ ap (λ (z : List ℕ). content_of b.manifest z a.declaration a.dex) (same_equal a.layouts b.layouts second.1)
    ∙ ap (λ (z : List ℕ). content_of b.manifest b.layouts z a.dex) (same_equal a.declaration b.declaration third.1)
    ∙ ap (λ (z : List (List ℕ)). content_of b.manifest b.layouts b.declaration z) (all_equal a.dex b.dex last.1)

module _ {A : Type 0} where
  pub in_drop : (n : ℕ) (xs : List A) (x : A) → In x (drop n xs) → In x xs
  in_drop n xs x is = subst (λ z. In x z) (take-append-drop n xs) (in_back x (take n xs) (drop n xs) is)

  -- what is left where one was taken out
  pub in_removed : (i : ℕ) (xs : List A) (x : A) → In x (take i xs ++ drop (suc i) xs) → In x xs
  in_removed i xs x is = elim (in_either x (take i xs) (drop (suc i) xs) is) [
    | inl front ↦ in_take i xs x front
    | inr back ↦ in_drop (suc i) xs x back
  ]

  -- what is there where one was added, or there was no memory for it
  pub in_pushed : (b : Bool) (xs : List A) (one x : A) → In x (cond b (xs ++ one ∷ []) xs) → In x xs ⊎ (x ≡ one)
  in_pushed true xs one x is = elim (in_either x xs (one ∷ []) is) [
    | inl front ↦ inl front
    | inr back ↦ elim back [ inl same ↦ inr same | inr none ↦ absurd none ]
  ]
  in_pushed false xs one x is = inl is

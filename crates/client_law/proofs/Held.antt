-- What the desk has of a developer, as cases change.
use Rattle.std.proofs.Common.{◌≡◌, ◌≢◌, ℕ, ◌⊎◌, Bool, true, false, cond, List, [], ◌∷◌, ◌++◌, map, Some, None, find, refl, ap, ap₂, sym, subst, ◌∙◌, inl, inr}
use Rattle.std.proofs.lemmas.Bool.{cond-true, cond-false, and_from, and_parts, false_from_ne_true}
use Rattle.std.proofs.lemmas.List.{map_push, append-nil}
use Rattle.std.proofs.lemmas.List.Elements.{filter-append}
use Rattle.vet_base.proofs.Texts.{same_equal, same_itself}
use Rattle.case_rules.specs.declared.case.Case.{Case}
use Rattle.case_rules.specs.declared.case.Content.{Content}
use Rattle.case_rules.specs.Cases.{same, is_of, is_named, rows_of, amended}
use Rattle.client_law.specs.Tried.{HandedIn, handed_in, held_of, IsAmong}

-- a change leaves party, reference and app
pub record Keeps (f : Case → Case) : Type 0 where
  pub party : (case : Case) → (f case).party ≡ case.party
  pub reference : (case : Case) → (f case).reference ≡ case.reference
  pub content : (case : Case) → (f case).content ≡ case.content

changed_first : (party : List ℕ) (f : Case → Case) (case : Case) (cases : List Case) → Keeps f → held_of party (f case ∷ cases) ≡ held_of party (case ∷ cases)
changed_first party f case cases keeps =
    let test : is_of party (f case) ≡ is_of party case = ap (λ (x : List ℕ). same x party) (keeps.party case) in
    let row : handed_in (f case) ≡ handed_in case = ap₂ (λ (r : List ℕ) (c : Content). (r, c)) (keeps.reference case) (keeps.content case) in
    by (is_of party case) (is_of party (f case)) test row
  where
    by : (b c : Bool) → c ≡ b → handed_in (f case) ≡ handed_in case
        → map handed_in (cond c (f case ∷ rows_of party cases) (rows_of party cases)) ≡ map handed_in (cond b (case ∷ rows_of party cases) (rows_of party cases))
    by true true is row = ap (λ (x : HandedIn). x ∷ map handed_in (rows_of party cases)) row
    by false false is row = refl
    by true false is row = cc
    by false true is row = cc

same_first : (party : List ℕ) (case : Case) (xs ys : List Case) → held_of party xs ≡ held_of party ys → held_of party (case ∷ xs) ≡ held_of party (case ∷ ys)
same_first party case xs ys is = by (is_of party case)
  where
    by : (b : Bool) → map handed_in (cond b (case ∷ rows_of party xs) (rows_of party xs)) ≡ map handed_in (cond b (case ∷ rows_of party ys) (rows_of party ys))
    by true = ap (λ zs. handed_in case ∷ zs) is
    by false = is

pub held_amended : (party : List ℕ) (test : Case → Bool) (f : Case → Case) (cases : List Case) → Keeps f → held_of party (amended test f cases) ≡ held_of party cases
held_amended party test f [] keeps = refl
held_amended party test f (case ∷ cases) keeps = by (test case) (held_amended party test f cases keeps)
  where
    by : (b : Bool) → held_of party (amended test f cases) ≡ held_of party cases
        → held_of party (cond b (f case ∷ cases) (case ∷ amended test f cases)) ≡ held_of party (case ∷ cases)
    by true later = changed_first party f case cases keeps
    by false later = same_first party case (amended test f cases) cases later

pub held_with : (party : List ℕ) (case : Case) (cases : List Case) → case.party ≡ party → held_of party (cases ++ case ∷ []) ≡ held_of party cases ++ handed_in case ∷ []
held_with party case cases own =
    let row : rows_of party (case ∷ []) ≡ case ∷ [] = cond-true (is_of party case) (case ∷ []) [] (ap (λ (x : List ℕ). same x party) own ∙ same_itself party) in
    ap (map handed_in) (filter-append (is_of party) cases (case ∷ []) ∙ ap (λ zs. rows_of party cases ++ zs) row) ∙ map_push handed_in (rows_of party cases) case

pub held_without : (party : List ℕ) (case : Case) (cases : List Case) → case.party ≢ party → held_of party (cases ++ case ∷ []) ≡ held_of party cases
held_without party case cases apart =
    let row : rows_of party (case ∷ []) ≡ [] = cond-false (is_of party case) (case ∷ []) [] (false_from_ne_true (is_of party case) (λ is. apart (same_equal case.party party is))) in
    ap (map handed_in) (filter-append (is_of party) cases (case ∷ []) ∙ ap (λ zs. rows_of party cases ++ zs) row ∙ append-nil (rows_of party cases))

pub among_last : (x : HandedIn) (xs : List HandedIn) → IsAmong x (xs ++ x ∷ [])
among_last x [] = inl refl
among_last x (y ∷ xs) = inr (among_last x xs)

pub among_more : (x y : HandedIn) (xs : List HandedIn) → IsAmong x xs → IsAmong x (xs ++ y ∷ [])
among_more x y [] is = absurd is
among_more x y (z ∷ xs) (inl here) = inl here
among_more x y (z ∷ xs) (inr later) = inr (among_more x y xs later)

-- a case that is found by its name is among what is held
pub found_among : (party reference : List ℕ) (cases : List Case) (case : Case) → find (is_named party reference) cases ≡ Some case → IsAmong (reference, case.content) (held_of party cases)
found_among party reference [] case is = cc
found_among party reference (c ∷ cases) case is = by_name (is_named party reference c) refl is (found_among party reference cases case)
  where
    here : is_named party reference c ≡ true → c ≡ case → IsAmong (reference, case.content) (held_of party (c ∷ cases))
    here named it =
        let parts = and_parts (same c.party party) (same c.reference reference) named in
        let row : (reference, case.content) ≡ handed_in c = ap₂ (λ (r : List ℕ) (x : Content). (r, x)) (sym (same_equal c.reference reference parts.1)) (ap (λ (k : Case). k.content) (sym it)) in
        subst (λ (b : Bool). IsAmong (reference, case.content) (map handed_in (cond b (c ∷ rows_of party cases) (rows_of party cases)))) (sym parts.0) (inl row)

    later : IsAmong (reference, case.content) (held_of party cases) → (b : Bool) → IsAmong (reference, case.content) (map handed_in (cond b (c ∷ rows_of party cases) (rows_of party cases)))
    later among true = inr among
    later among false = among

    by_name : (t : Bool) → is_named party reference c ≡ t → cond t (Some c) (find (is_named party reference) cases) ≡ Some case
        → (find (is_named party reference) cases ≡ Some case → IsAmong (reference, case.content) (held_of party cases))
        → IsAmong (reference, case.content) (held_of party (c ∷ cases))
    by_name true named it behind = here named (let same_case : c ≡ case = cc in same_case)
    by_name false other it behind = later (behind it) (is_of party c)

-- what is held has a case of this reference
abbrev pub HasReference : List ℕ → List HandedIn → Type 0
HasReference reference [] = ⊥
HasReference reference (y ∷ ys) = (reference ≡ y.0) ⊎ HasReference reference ys

pub last_has : (reference : List ℕ) (content : Content) (xs : List HandedIn) → HasReference reference (xs ++ (reference, content) ∷ [])
last_has reference content [] = inl refl
last_has reference content (y ∷ xs) = inr (last_has reference content xs)

-- where no case is found by the name, what is held has none of this reference
pub missed_has_none : (party reference : List ℕ) (cases : List Case) → find (is_named party reference) cases ≡ None → HasReference reference (held_of party cases) → ⊥
missed_has_none party reference [] none has = has
missed_has_none party reference (c ∷ cases) none has = by_party (is_of party c) refl has (missed_has_none party reference cases)
  where
    by_name : (t : Bool) → is_named party reference c ≡ t → cond t (Some c) (find (is_named party reference) cases) ≡ None → (is_named party reference c ≡ false) × (find (is_named party reference) cases ≡ None)
    by_name true named it = absurd (let clash : Some c ≡ None = it in cc)
    by_name false other it = (other, it)

    by_party : (b : Bool) → is_of party c ≡ b → HasReference reference (map handed_in (cond b (c ∷ rows_of party cases) (rows_of party cases)))
        → (find (is_named party reference) cases ≡ None → HasReference reference (held_of party cases) → ⊥) → ⊥
    by_party true own (inl here) behind =
        let named : is_named party reference c ≡ true = and_from (same c.party party) (same c.reference reference) own (ap (λ (x : List ℕ). same x reference) (sym here) ∙ same_itself reference) in
        let clash : true ≡ false = sym named ∙ (by_name (is_named party reference c) refl none).0 in
        absurd cc
    by_party true own (inr more) behind = behind (by_name (is_named party reference c) refl none).1 more
    by_party false other more behind = behind (by_name (is_named party reference c) refl none).1 more

-- Where a row stands once another stands at the end.
use Rattle.std.proofs.Common.{◌≡◌, ℕ, suc, ◌+◌, Bool, true, false, cond, List, [], ◌∷◌, ◌++◌, length, Option, Some, None, refl, sym, ap, ◌∙◌, arith, inl, inr}
use Rattle.std.specs.Prelude.{is_some}
use Rattle.std.specs.Option.{option_map}
use Rattle.std.specs.declared.cmp.Ordering.{Ordering}
use Rattle.std.specs.declared.cmp.Ordering.TheVariants.{Equal}
use Rattle.std.specs.Ordering.{is_eq}
use Rattle.std.specs.Cmp.{IsTotalOrder}
use Rattle.std.specs.BTreeMap.{BTreeMap, get, Updates}
use Rattle.std.proofs.lemmas.Cmp.{eq_by_cmp_equiv}
use Rattle.dex_writer.specs.Rows.{place, IsIndexOf}
use Rattle.vet_base.proofs.Options.{none_of}
use Rattle.std.proofs.lemmas.Bool.{cases_Bool}
use Rattle.vet_base.proofs.Orders.{is_equal}

-- where it stands among the first rows, else at the end if it is the last
abbrev pub place_or_end : Option ℕ → Bool → ℕ → Option ℕ
place_or_end (Some n) same end = Some n
place_or_end None same end = cond same (Some end) None

next_place : (o : Option ℕ) (same : Bool) (end : ℕ) → option_map (λ n. n + 1) (place_or_end o same end) ≡ place_or_end (option_map (λ n. n + 1) o) same (end + 1)
next_place (Some n) same end = refl
next_place None true end = refl
next_place None false end = refl

pub place_push : {K : Type 0} (cmp : K → K → Ordering) (xs : List K) (x q : K) → place cmp (xs ++ x ∷ []) q ≡ place_or_end (place cmp xs q) (is_eq (cmp q x)) (length xs)
place_push cmp [] x q = elim (is_eq (cmp q x)) as (λ b. cond b (Some 0) None ≡ place_or_end None b 0) [ true ↦ refl | false ↦ refl ]
place_push {K = K} cmp (y ∷ xs) x q =
    let e : length xs + 1 ≡ suc (length xs) = omega arith in
    elim (is_eq (cmp q y)) as (λ b. cond b (Some 0) (option_map (λ n. n + 1) (place cmp (xs ++ x ∷ []) q)) ≡ place_or_end (cond b (Some 0) (option_map (λ n. n + 1) (place cmp xs q))) (is_eq (cmp q x)) (suc (length xs))) [
      | true ↦ refl
      | false ↦ ap (option_map (λ n. n + 1)) (place_push cmp xs x q) ∙ next_place (place cmp xs q) (is_eq (cmp q x)) (length xs) ∙ ap (place_or_end (option_map (λ n. n + 1) (place cmp xs q)) (is_eq (cmp q x))) e
    ]

-- rows that compare alike stand at one place
pub place_alike : {K : Type 0} (cmp : K → K → Ordering) → IsTotalOrder cmp → (xs : List K) (p q : K) → cmp p q ≡ Equal → place cmp xs p ≡ place cmp xs q
place_alike cmp total [] p q e = refl
place_alike cmp total (x ∷ xs) p q e = rw (total.congr p q x e, place_alike cmp total xs p q e) refl

same_place : (o : Option ℕ) (end : ℕ) → place_or_end o false end ≡ o
same_place None end = refl
same_place (Some n) end = refl

-- the index with the place of a row that was not there
pub index_pushed : {K : Type 0} (cmp : K → K → Ordering) → IsTotalOrder cmp → (rows : List K) (m n : BTreeMap K ℕ) (row : K) (at : ℕ)
    → at ≡ length rows → IsIndexOf cmp rows m → is_some (get cmp m row) ≡ false → Updates cmp m n row (Some at) → IsIndexOf cmp (rows ++ row ∷ []) n
index_pushed cmp total rows m n row at at-is old absent updates = record {
  at = λ q.
      let alike : is_eq (cmp row q) ≡ is_eq (cmp q row) = (eq_by_cmp_equiv total).symm row q in
      let none : place cmp rows row ≡ None = sym (old.at row) ∙ none_of (get cmp m row) absent in
      rw (updates.0 q, old.at q, place_push cmp rows row q, ← alike, at-is)
      (elim (cases_Bool (is_eq (cmp row q))) [
        | inl so ↦ rw (so, ← place_alike cmp total rows row q (is_equal (cmp row q) so), none) refl
        | inr not ↦ rw not (sym (same_place (place cmp rows q) (length rows)))
      ]);
}

found_before : {K : Type 0} (cmp : K → K → Ordering) → IsTotalOrder cmp → (rows : List K) (row q : K) (o : Option ℕ) (b : Bool) → o ≡ place cmp rows q → b ≡ is_eq (cmp q row) → is_some (place cmp rows row) ≡ true → place_or_end o b (length rows) ≡ o
found_before cmp total rows row q (Some n) b o-is b-is present = refl
found_before cmp total rows row q None false o-is b-is present = refl
found_before cmp total rows row q None true o-is b-is present =
    let e : place cmp rows q ≡ place cmp rows row = place_alike cmp total rows q row (is_equal (cmp q row) (sym b-is)) in
    absurd cc

-- the index stays where a row was there
pub index_kept : {K : Type 0} (cmp : K → K → Ordering) → IsTotalOrder cmp → (rows : List K) (m : BTreeMap K ℕ) (row : K)
    → IsIndexOf cmp rows m → is_some (get cmp m row) ≡ true → IsIndexOf cmp (rows ++ row ∷ []) m
index_kept cmp total rows m row old present = record {
  at = λ q.
      let here : is_some (place cmp rows row) ≡ true = ap is_some (sym (old.at row)) ∙ present in
      rw (old.at q, place_push cmp rows row q) (sym (found_before cmp total rows row q (place cmp rows q) (is_eq (cmp q row)) refl refl here));
}

-- The elements of lists in order are those of the lists.
use Rattle.std.proofs.Common.{◌≡◌, ◌==◌, inl, inr, ℕ, suc, Bool, true, false, not, cond, List, [], ◌∷◌, ◌++◌, reverse, Some, slice_get, refl, sym, ap, ◌∙◌, subst}
use Rattle.std.specs.Prelude.{filter, nat_le}
use Rattle.std.proofs.lemmas.Bool.{eqb-true}
use Rattle.std.proofs.lemmas.List.{reverse-append}
use Rattle.vet_base.specs.Members.{In}
use Rattle.vet_base.proofs.Members.{in_front, in_back, in_either}
use Rattle.played_machine.specs.Ordered.{once, inserted, sorted, ascending}

pub false_true : false ≡ true → ⊥
false_true h = absurd cc

module _ {A : Type 0} (p : A → Bool) where
  pub in_filter : (xs : List A) (x : A) → In x xs → p x ≡ true → In x (filter p xs)
  in_filter [] x is_in passes = absurd is_in
  in_filter (y ∷ xs) x is_in passes = by_test (p y) refl (λ h. in_filter xs x h passes) is_in
    where
      by_test : (b : Bool) → p y ≡ b → (In x xs → In x (filter p xs)) → In x (y ∷ xs) → In x (cond b (y ∷ filter p xs) (filter p xs))
      by_test true e later (inl same) = inl same
      by_test true e later (inr h) = inr (later h)
      by_test false e later (inl same) = absurd (false_true (sym e ∙ (ap p (sym same) ∙ passes)))
      by_test false e later (inr h) = later h

  pub from_filter : (xs : List A) (x : A) → In x (filter p xs) → In x xs × (p x ≡ true)
  from_filter [] x h = absurd h
  from_filter (y ∷ xs) x h = by_test (p y) refl (from_filter xs x) h
    where
      by_test : (b : Bool) → p y ≡ b → (In x (filter p xs) → In x xs × (p x ≡ true)) → In x (cond b (y ∷ filter p xs) (filter p xs)) → In x (y ∷ xs) × (p x ≡ true)
      by_test true e later (inl same) = (inl same, ap p same ∙ e)
      by_test true e later (inr h) = let r = later h in (inr r.0, r.1)
      by_test false e later h = let r = later h in (inr r.0, r.1)

pub reverse-cons : {A : Type 0} (x : A) (xs : List A) → reverse (x ∷ xs) ≡ reverse xs ++ x ∷ []
reverse-cons x xs = reverse-append (x ∷ []) xs

module _ {A : Type 0} where
  pub in_reverse : (xs : List A) (x : A) → In x xs → In x (reverse xs)
  in_reverse [] x h = absurd h
  in_reverse (y ∷ xs) x (inl same) = subst (In x) (sym (reverse-cons y xs)) (in_back x (reverse xs) (y ∷ []) (inl same))
  in_reverse (y ∷ xs) x (inr h) = subst (In x) (sym (reverse-cons y xs)) (in_front x (reverse xs) (y ∷ []) (in_reverse xs x h))

  pub from_reverse : (xs : List A) (x : A) → In x (reverse xs) → In x xs
  from_reverse [] x h = h
  from_reverse (y ∷ xs) x h = elim (in_either x (reverse xs) (y ∷ []) (subst (In x) (reverse-cons y xs) h)) [
    | inl front ↦ inr (from_reverse xs x front)
    | inr back ↦ elim back [ inl same ↦ inl same | inr none ↦ absurd none ]
  ]

  pub index_of : (xs : List A) (x : A) → In x xs → (i : ℕ) × (slice_get xs i ≡ Some x)
  index_of [] x h = absurd h
  index_of (y ∷ xs) x (inl same) = (0, ap (λ z. Some z) (sym same))
  index_of (y ∷ xs) x (inr h) = let r = index_of xs x h in (suc r.0, r.1)

pub in_once : (xs : List ℕ) (x : ℕ) → In x xs → In x (once xs)
in_once [] x h = absurd h
in_once (y ∷ ys) x (inl same) = inl same
in_once (y ∷ ys) x (inr later) = by_same (x == y) refl (in_once ys x later)
  where
    by_same : (b : Bool) → (x == y) ≡ b → In x (once ys) → In x (once (y ∷ ys))
    by_same true e h = inl (eqb-true x y e)
    by_same false e h = inr (in_filter (λ z. not (z == y)) (once ys) x h (ap not e))

pub from_once : (xs : List ℕ) (x : ℕ) → In x (once xs) → In x xs
from_once [] x h = h
from_once (y ∷ ys) x (inl same) = inl same
from_once (y ∷ ys) x (inr h) = inr (from_once ys x (from_filter (λ z. not (z == y)) (once ys) x h).0)

in_inserted : (x : ℕ) (ys : List ℕ) (z : ℕ) → In z (x ∷ ys) → In z (inserted x ys)
in_inserted x [] z h = h
in_inserted x (y ∷ ys) z h = by_order (nat_le x y) (in_inserted x ys z) h
  where
    by_order : (b : Bool) → (In z (x ∷ ys) → In z (inserted x ys)) → In z (x ∷ y ∷ ys) → In z (cond b (x ∷ y ∷ ys) (y ∷ inserted x ys))
    by_order true later h = h
    by_order false later (inl same) = inr (later (inl same))
    by_order false later (inr (inl same)) = inl same
    by_order false later (inr (inr h)) = inr (later (inr h))

pub from_inserted : (x : ℕ) (ys : List ℕ) (z : ℕ) → In z (inserted x ys) → In z (x ∷ ys)
from_inserted x [] z h = h
from_inserted x (y ∷ ys) z h = by_order (nat_le x y) (from_inserted x ys z) h
  where
    by_order : (b : Bool) → (In z (inserted x ys) → In z (x ∷ ys)) → In z (cond b (x ∷ y ∷ ys) (y ∷ inserted x ys)) → In z (x ∷ y ∷ ys)
    by_order true later h = h
    by_order false later (inl same) = inr (inl same)
    by_order false later (inr h) = elim (later h) [ inl same ↦ inl same | inr beyond ↦ inr (inr beyond) ]

pub in_sorted : (xs : List ℕ) (x : ℕ) → In x xs → In x (sorted xs)
in_sorted [] x h = h
in_sorted (y ∷ ys) x (inl same) = in_inserted y (sorted ys) x (inl same)
in_sorted (y ∷ ys) x (inr h) = in_inserted y (sorted ys) x (inr (in_sorted ys x h))

pub from_sorted : (xs : List ℕ) (x : ℕ) → In x (sorted xs) → In x xs
from_sorted [] x h = h
from_sorted (y ∷ ys) x h = elim (from_inserted y (sorted ys) x h) [ inl same ↦ inl same | inr later ↦ inr (from_sorted ys x later) ]

pub in_ascending : (xs : List ℕ) (x : ℕ) → In x xs → In x (ascending xs)
unfolding ascending
in_ascending xs x h = in_once (sorted xs) x (in_sorted xs x h)

pub from_ascending : (xs : List ℕ) (x : ℕ) → In x (ascending xs) → In x xs
unfolding ascending
from_ascending xs x h = from_sorted xs x (from_once (sorted xs) x h)

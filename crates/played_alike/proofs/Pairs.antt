-- Lists, options and draws that are alike.
use Rattle.std.proofs.Common.{◌≡◌, ℕ, zero, suc, Bool, true, false, cond, List, [], ◌∷◌, ◌++◌, map, reverse, length, Option, Some, None, slice_get, flat_map, filter_map, refl, sym, ap, subst}
use Rattle.std.specs.Prelude.{◌%◌}
use Rattle.std.specs.List.{cons_option}
use Rattle.played_machine.specs.Drawing.{Drawing, give, continue, ◌>>=◌, given, one_of}
use Rattle.played_machine.proofs.Ordered.{reverse-cons}
use Rattle.played_alike.specs.Alike.{Pairwise, AlikeDrawn}

-- neither, or both and one like the other
abbrev pub AlikeOption : {A : Type 0} → (A → A → Type 0) → Option A → Option A → Type 0
AlikeOption R None None = Unit {0}
AlikeOption R None (Some y) = ⊥
AlikeOption R (Some x) None = ⊥
AlikeOption R (Some x) (Some y) = R x y

module _ {A : Type 0} (R : A → A → Type 0) where
  pub pair_append : (xs ys us vs : List A) → Pairwise R xs ys → Pairwise R us vs → Pairwise R (xs ++ us) (ys ++ vs)
  pair_append [] [] us vs front back = back
  pair_append [] (y ∷ ys) us vs front back = absurd front
  pair_append (x ∷ xs) [] us vs front back = absurd front
  pair_append (x ∷ xs) (y ∷ ys) us vs front back = (front.0, pair_append xs ys us vs front.1 back)

  pub pair_length : (xs ys : List A) → Pairwise R xs ys → length xs ≡ length ys
  pair_length [] [] pairs = refl
  pair_length [] (y ∷ ys) pairs = absurd pairs
  pair_length (x ∷ xs) [] pairs = absurd pairs
  pair_length (x ∷ xs) (y ∷ ys) pairs = ap suc (pair_length xs ys pairs.1)

  pub pair_reverse : (xs ys : List A) → Pairwise R xs ys → Pairwise R (reverse xs) (reverse ys)
  pair_reverse [] [] pairs = tt
  pair_reverse [] (y ∷ ys) pairs = absurd pairs
  pair_reverse (x ∷ xs) [] pairs = absurd pairs
  pair_reverse (x ∷ xs) (y ∷ ys) pairs =
      subst (λ zs. Pairwise R zs (reverse (y ∷ ys))) (sym (reverse-cons x xs)) (subst (λ zs. Pairwise R (reverse xs ++ x ∷ []) zs) (sym (reverse-cons y ys))
      (pair_append (reverse xs) (reverse ys) (x ∷ []) (y ∷ []) (pair_reverse xs ys pairs.1) (pairs.0, tt)))

  pub pair_get : (xs ys : List A) (i : ℕ) → Pairwise R xs ys → AlikeOption R (slice_get xs i) (slice_get ys i)
  pair_get [] [] i pairs = tt
  pair_get [] (y ∷ ys) i pairs = absurd pairs
  pair_get (x ∷ xs) [] i pairs = absurd pairs
  pair_get (x ∷ xs) (y ∷ ys) zero pairs = pairs.0
  pair_get (x ∷ xs) (y ∷ ys) (suc i) pairs = pair_get xs ys i pairs.1

  pub pair_same : ((x : A) → R x x) → (xs : List A) → Pairwise R xs xs
  pair_same itself [] = tt
  pair_same itself (x ∷ xs) = (itself x, pair_same itself xs)

module _ {A B : Type 0} (R : B → B → Type 0) where
  pub pair_map : (f g : A → B) → ((x : A) → R (f x) (g x)) → (xs : List A) → Pairwise R (map f xs) (map g xs)
  pair_map f g alike [] = tt
  pair_map f g alike (x ∷ xs) = (alike x, pair_map f g alike xs)

  pub pair_filter_map : (f g : A → Option B) → ((x : A) → AlikeOption R (f x) (g x)) → (xs : List A) → Pairwise R (filter_map f xs) (filter_map g xs)
  pair_filter_map f g alike [] = tt
  pair_filter_map f g alike (x ∷ xs) = by_head (f x) (g x) (alike x) (pair_filter_map f g alike xs)
    where
      by_head : (o p : Option B) → AlikeOption R o p → Pairwise R (filter_map f xs) (filter_map g xs) → Pairwise R (cons_option o (filter_map f xs)) (cons_option p (filter_map g xs))
      by_head None None head rest = rest
      by_head None (Some y) head rest = absurd head
      by_head (Some x) None head rest = absurd head
      by_head (Some x) (Some y) head rest = (head, rest)

  pub pair_flat_map : (f g : A → List B) → ((x : A) → Pairwise R (f x) (g x)) → (xs : List A) → Pairwise R (flat_map f xs) (flat_map g xs)
  pair_flat_map f g alike [] = tt
  pair_flat_map f g alike (x ∷ xs) = pair_append R (f x) (g x) (flat_map f xs) (flat_map g xs) (alike x) (pair_flat_map f g alike xs)

-- of two lists that are alike
module _ {A B : Type 0} (R : A → A → Type 0) (S : B → B → Type 0) where
  pub pair_map_two : (f g : A → B) → ((x y : A) → R x y → S (f x) (g y)) → (xs ys : List A) → Pairwise R xs ys → Pairwise S (map f xs) (map g ys)
  pair_map_two f g alike [] [] pairs = tt
  pair_map_two f g alike [] (y ∷ ys) pairs = absurd pairs
  pair_map_two f g alike (x ∷ xs) [] pairs = absurd pairs
  pair_map_two f g alike (x ∷ xs) (y ∷ ys) pairs = (alike x y pairs.0, pair_map_two f g alike xs ys pairs.1)

  pub pair_flat_two : (f g : A → List B) → ((x y : A) → R x y → Pairwise S (f x) (g y)) → (xs ys : List A) → Pairwise R xs ys → Pairwise S (flat_map f xs) (flat_map g ys)
  pair_flat_two f g alike [] [] pairs = tt
  pair_flat_two f g alike [] (y ∷ ys) pairs = absurd pairs
  pair_flat_two f g alike (x ∷ xs) [] pairs = absurd pairs
  pair_flat_two f g alike (x ∷ xs) (y ∷ ys) pairs = pair_append S (f x) (g y) (flat_map f xs) (flat_map g ys) (alike x y pairs.0) (pair_flat_two f g alike xs ys pairs.1)

-- draws
abbrev pub AlikeDrawings : {A : Type 0} → (A → A → Type 0) → Drawing A → Drawing A → Type 0
AlikeDrawings R d e = (bytes : List ℕ) → AlikeDrawn R (d bytes) (e bytes)

module _ {A : Type 0} (R : A → A → Type 0) where
  pub alike_give : (x y : A) → R x y → AlikeDrawings R (give x) (give y)
  alike_give x y alike bytes = (alike, refl)

  pub alike_if : (b : Bool) (d e d' e' : Drawing A) → AlikeDrawings R d e → AlikeDrawings R d' e' → AlikeDrawings R (cond b d d') (cond b e e')
  alike_if true d e d' e' one other = one
  alike_if false d e d' e' one other = other

  alike_given : (o p : Option A) → AlikeOption R o p → AlikeDrawings R (given o) (given p)
  alike_given None None alike bytes = tt
  alike_given None (Some y) alike bytes = absurd alike
  alike_given (Some x) None alike bytes = absurd alike
  alike_given (Some x) (Some y) alike bytes = (alike, refl)

  pub alike_one : (xs ys : List A) → Pairwise R xs ys → AlikeDrawings R (one_of xs) (one_of ys)
  unfolding one_of
  alike_one xs ys pairs [] = tt
  alike_one xs ys pairs (b ∷ bytes) =
      subst (λ n. AlikeDrawn R (given (slice_get xs (b % length xs)) bytes) (given (slice_get ys (b % n)) bytes)) (pair_length R xs ys pairs)
      (alike_given (slice_get xs (b % length xs)) (slice_get ys (b % length xs)) (pair_get R xs ys (b % length xs) pairs) bytes)

module _ {A B : Type 0} (R : A → A → Type 0) (S : B → B → Type 0) where
  pub alike_after : (d e : Drawing A) (k l : A → Drawing B) → AlikeDrawings R d e → ((x y : A) → R x y → AlikeDrawings S (k x) (l y)) → AlikeDrawings S (d >>= k) (e >>= l)
  alike_after d e k l first later bytes = by_first (d bytes) (e bytes) (first bytes)
    where
      by_first : (o p : Option (A × List ℕ)) → AlikeDrawn R o p → AlikeDrawn S (continue k o) (continue l p)
      by_first None None alike = tt
      by_first None (Some q) alike = absurd alike
      by_first (Some p) None alike = absurd alike
      by_first (Some p) (Some q) alike = subst (λ rest. AlikeDrawn S (k p.0 p.1) (l q.0 rest)) alike.1 (later p.0 q.0 alike.0 p.1)

-- what follows from the very same draw
pub alike_then : {A B : Type 0} (S : B → B → Type 0) (d : Drawing A) (k l : A → Drawing B) → ((x : A) → AlikeDrawings S (k x) (l x)) → AlikeDrawings S (d >>= k) (d >>= l)
alike_then {A} {B} S d k l later bytes = by_first (d bytes)
  where
    by_first : (o : Option (A × List ℕ)) → AlikeDrawn S (continue k o) (continue l o)
    by_first None = tt
    by_first (Some p) = later p.0 p.1

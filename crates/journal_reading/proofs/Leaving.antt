-- Moments one after another, and what a crash leaves at each.
use Rattle.std.proofs.Common.{◌≡◌, ◌⊎◌, inl, inr, ℕ, zero, suc, List, [], ◌∷◌, ◌++◌, append_assoc, refl, sym, ◌∙◌, ap, subst, Some}
use Rattle.std.specs.List.{slice_get}
use Rattle.disks.specs.Disks.{Moment, Told, MayLeave, LeavesOnly, after}

some_same : {m n : Moment} → Some m ≡ Some n → m ≡ n
some_same e = cc

-- what is left is such, so it is also such as follows from that
pub leaves_so : (P Q : List ℕ → Type 0) (t u : Told) → ((left : List ℕ) → P left → Q left) → LeavesOnly P t u → LeavesOnly Q t u
leaves_so P Q t u f run = record {
  later = run.later;
  grown = run.grown;
  first = λ left may. f left (run.first left may);
  each = λ i m at left may. f left (run.each i m at left may);
}

-- an item of two lists is one of either
in_either : (xs ys : List Moment) (i : ℕ) (m : Moment) → slice_get (xs ++ ys) i ≡ Some m
    → ((j : ℕ) × (slice_get xs j ≡ Some m)) ⊎ ((j : ℕ) × (slice_get ys j ≡ Some m))
in_either [] ys i m at = inr (i, at)
in_either (x ∷ xs) ys zero m at = inl (0, at)
in_either (x ∷ xs) ys (suc i) m at = shifted (in_either xs ys i m at)
  where
    shifted : ((j : ℕ) × (slice_get xs j ≡ Some m)) ⊎ ((j : ℕ) × (slice_get ys j ≡ Some m))
        → ((j : ℕ) × (slice_get (x ∷ xs) j ≡ Some m)) ⊎ ((j : ℕ) × (slice_get ys j ≡ Some m))
    shifted (inl p) = inl (suc p.0, p.1)
    shifted (inr p) = inr p

-- one run behind another
pub leaves_on : (P : List ℕ → Type 0) (t u v : Told) → LeavesOnly P t u → LeavesOnly P u v → LeavesOnly P t v
leaves_on P t u v one other = record {
  later = other.later ++ one.later;
  grown = other.grown ∙ ap (λ (l : List Moment). other.later ++ l) one.grown ∙ sym (append_assoc other.later one.later (t.now ∷ t.past));
  first = one.first;
  each = λ i m at left may. by_part m left may (in_either other.later one.later i m at);
}
  where
    by_part : (m : Moment) (left : List ℕ) → MayLeave m left
        → ((j : ℕ) × (slice_get other.later j ≡ Some m)) ⊎ ((j : ℕ) × (slice_get one.later j ≡ Some m)) → P left
    by_part m left may (inl p) = other.each p.0 m p.1 left may
    by_part m left may (inr p) = one.each p.0 m p.1 left may

-- the last moment is one of them
pub last_leaves : (P : List ℕ → Type 0) (t u : Told) → LeavesOnly P t u → (left : List ℕ) → MayLeave u.now left → P left
last_leaves P t u run left may = by_later run.later run.grown (λ i m at. run.each i m at left)
  where
    by_later : (later : List Moment) → (u.now ∷ u.past) ≡ later ++ (t.now ∷ t.past)
        → ((i : ℕ) (m : Moment) → slice_get later i ≡ Some m → MayLeave m left → P left) → P left
    by_later [] grown each =
        let same : u.now ≡ t.now = some_same (ap (λ (ms : List Moment). slice_get ms 0) grown) in
        run.first left (subst (λ (m : Moment). MayLeave m left) same may)
    by_later (k ∷ later) grown each =
        let same : u.now ≡ k = some_same (ap (λ (ms : List Moment). slice_get ms 0) grown) in
        each 0 k refl (subst (λ (m : Moment). MayLeave m left) same may)

-- no moment came
pub leaves_none : (P : List ℕ → Type 0) (t : Told) → ((left : List ℕ) → MayLeave t.now left → P left) → LeavesOnly P t t
leaves_none P t first = record { later = []; grown = refl; first = first; each = λ i m at left. absurd cc }

-- one moment came
pub leaves_one : (P : List ℕ → Type 0) (t : Told) (m : Moment) → ((left : List ℕ) → MayLeave t.now left → P left)
    → ((left : List ℕ) → MayLeave m left → P left) → LeavesOnly P t (after t m)
leaves_one P t m first here = record { later = m ∷ []; grown = refl; first = first; each = each }
  where
    each : (i : ℕ) (n : Moment) → slice_get (m ∷ []) i ≡ Some n → (left : List ℕ) → MayLeave n left → P left
    each zero n at left may = here left (subst (λ (z : Moment). MayLeave z left) (sym (some_same at)) may)
    each (suc i) n at left may = absurd cc

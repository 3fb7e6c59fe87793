-- Orders of values, and of the lists that the values are written as.
use Rattle.std.proofs.Common.{sym, ap, ◌∙◌, append_assoc}
use Rattle.std.specs.Prelude.{◌≡◌, ◌++◌, List}
use Rattle.std.specs.Ordering.{ordering_then}
use Rattle.std.specs.Cmp.Lexicographic.{slice_cmp}
use Rattle.std.specs.declared.cmp.Ordering.{Ordering}
use Rattle.vet_base.proofs.Orders.{then_assoc}

-- the first parts decide, and else the second
abbrev pub then_by : {A B : Type 0} → (A → A → Ordering) → (B → B → Ordering) → A × B → A × B → Ordering
then_by R S p q = ordering_then (R p.0 q.0) (S p.1 q.1)

-- Lists that are written one behind the other compare as the values do, the first value first.
pub record ComparesAs {A E : Type 0} (S : E → E → Ordering) (R : A → A → Ordering) (written : A → List E) : Type 0 where
  pub is : (a b : A) (xs ys : List E) → slice_cmp S (written a ++ xs) (written b ++ ys) ≡ ordering_then (R a b) (slice_cmp S xs ys)

-- and so do pairs of them
pub compares_pair : {A B E : Type 0} {S : E → E → Ordering} {P : A → A → Ordering} {Q : B → B → Ordering} {f : A → List E} {g : B → List E}
    → ComparesAs S P f → ComparesAs S Q g → ComparesAs S (then_by P Q) (λ (p : A × B). f p.0 ++ g p.1)
compares_pair {S = S} {P = P} {Q = Q} {f = f} {g = g} first second = record {
  is = λ p q xs ys.
      (λ i. slice_cmp S (append_assoc (f p.0) (g p.1) xs i) (append_assoc (f q.0) (g q.1) ys i))
      ∙ (first.is p.0 q.0 (g p.1 ++ xs) (g q.1 ++ ys)
      ∙ (ap (ordering_then (P p.0 q.0)) (second.is p.1 q.1 xs ys)
      ∙ then_assoc (P p.0 q.0) (Q p.1 q.1) (slice_cmp S xs ys)));
}

-- and values that are written the same
pub compares_same : {A E : Type 0} {S : E → E → Ordering} {R : A → A → Ordering} {f g : A → List E}
    → ((a : A) → f a ≡ g a) → ComparesAs S R f → ComparesAs S R g
compares_same {S = S} same first = record {
  is = λ a b xs ys. sym (λ i. slice_cmp S (same a i ++ xs) (same b i ++ ys)) ∙ first.is a b xs ys;
}

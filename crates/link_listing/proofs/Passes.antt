-- Going through a list is one pass over all that its items give, and a pass over two lists at once is a pass over each.
use Rattle.std.proofs.Common.{◌≡◌, ℕ, ◌+◌, Ok, List, [], ◌∷◌, ◌++◌, refl, sym, ap, subst, ◌∙◌}
use Rattle.vet_base.specs.Script.{Script, Value, ◌>>=◌, run, each, through}
use Rattle.vet_base.proofs.Runs.{value_is, bind_agree, bind_ok, bind_runs}
use Rattle.vet_base.proofs.Throughs.{through_is_each}

-- a pass over a list is one over its front and then one over its back
pub record IsPass {F S E : Type 0} (pass : List E → S → Script F S) : Type 0 where
  pub none : (s : S) → pass [] s ≡ Value s
  pub joined : (xs ys : List E) (s : S) → pass (xs ++ ys) s ≡ (pass xs s >>= pass ys)

-- a pass and then another are one over both lists
pub pass_on : {F S E : Type 0} (pass : List E → S → Script F S) → IsPass pass → (xs ys : List E) (s : S) (m : Script F S) (f : S → Script F S) → m ≡ pass xs s → ((t : S) → f t ≡ pass ys t) → (m >>= f) ≡ pass (xs ++ ys) s
pass_on {F = F} {S = S} pass is xs ys s m f first then =
    let one : (m >>= f) ≡ (pass xs s >>= f) = ap (λ (n : Script F S). n >>= f) first in
    let two : (pass xs s >>= f) ≡ (pass xs s >>= pass ys) = bind_agree (pass xs s) f (pass ys) then in
    one ∙ (two ∙ sym (is.joined xs ys s))

-- where each item is a pass over what it gives, going through the list is a pass over the whole that they give
pub through_pass : {F S X E : Type 0} (pass : List E → S → Script F S) → IsPass pass → (row : ℕ → X → S → Script F S) (items : ℕ → X → List E) (whole : ℕ → List X → List E)
    → ((i : ℕ) → whole i [] ≡ []) → ((i : ℕ) (x : X) (xs : List X) → whole i (x ∷ xs) ≡ items i x ++ whole (i + 1) xs) → ((i : ℕ) (x : X) (s : S) → row i x s ≡ pass (items i x) s)
    → (i : ℕ) (xs : List X) (s : S) → through row i xs s ≡ pass (whole i xs) s
unfolding through
through_pass pass is row items whole ends steps same i [] s = sym (ap (λ es. pass es s) (ends i) ∙ is.none s)
through_pass {S = S} pass is row items whole ends steps same i (x ∷ xs) s =
    let later : (t : S) → through row (i + 1) xs t ≡ pass (whole (i + 1) xs) t = through_pass pass is row items whole ends steps same (i + 1) xs in
    pass_on pass is (items i x) (whole (i + 1) xs) s (row i x s) (λ t. through row (i + 1) xs t) (same i x s) later ∙ ap (λ es. pass es s) (sym (steps i x xs))

pub each_pass : {F S X E : Type 0} (pass : List E → S → Script F S) → IsPass pass → (row : X → S → Script F S) (items : X → List E) (whole : List X → List E)
    → whole [] ≡ [] → ((x : X) (xs : List X) → whole (x ∷ xs) ≡ items x ++ whole xs) → ((x : X) (s : S) → row x s ≡ pass (items x) s)
    → (xs : List X) (s : S) → each row xs s ≡ pass (whole xs) s
each_pass pass is row items whole ends steps same xs s =
    sym (through_is_each row 0 xs s) ∙ through_pass pass is (λ _. row) (λ _. items) (λ _. whole) (λ _. ends) (λ _. steps) (λ _. same) 0 xs s

-- the script of a pair is one of each of its parts
pub record AreBoth {F A B : Type 0} (whole : Script F (A × B)) (one : Script F A) (other : Script F B) : Type 0 where
  pub parted : (x : A) (y : B) → run whole ≡ Ok (x, y) → (run one ≡ Ok x) × (run other ≡ Ok y)
  pub made : (x : A) (y : B) → run one ≡ Ok x → run other ≡ Ok y → run whole ≡ Ok (x, y)

pub both_as : {F A B : Type 0} (whole : Script F (A × B)) (one one_too : Script F A) (other other_too : Script F B) → AreBoth whole one other → one ≡ one_too → other ≡ other_too → AreBoth whole one_too other_too
both_as whole one one_too other other_too both same same_too = subst (λ s. AreBoth whole one_too s) same_too (subst (λ s. AreBoth whole s other) same both)

-- two steps for the one part and then two for the other
pub two_and_two : {F A B : Type 0} (a : Script F A) (f : A → Script F A) (b : Script F B) (g : B → Script F B)
    → AreBoth (a >>= (λ p. f p >>= (λ q. b >>= (λ r. g r >>= (λ s. Value (q, s)))))) (a >>= f) (b >>= g)
two_and_two {F = F} {A = A} {B = B} a f b g = record {
  parted = λ x y e.
      let p = bind_ok a (λ p. f p >>= (λ q. b >>= (λ r. g r >>= (λ s. Value (q, s))))) (x, y) e in
      let q = bind_ok (f p.0) (λ q. b >>= (λ r. g r >>= (λ s. Value (q, s)))) (x, y) p.2 in
      let r = bind_ok b (λ r. g r >>= (λ s. Value (q.0, s))) (x, y) q.2 in
      let s = bind_ok (g r.0) (λ s. Value (q.0, s)) (x, y) r.2 in
      let same : (q.0, s.0) ≡ (x, y) = value_is {F = F} (q.0, s.0) (x, y) s.2 in
      (bind_runs a p.0 f (Ok x) p.1 (q.1 ∙ ap (λ (z : A × B). Ok z.0) same), bind_runs b r.0 g (Ok y) r.1 (s.1 ∙ ap (λ (z : A × B). Ok z.1) same));
  made = λ x y e k.
      let p = bind_ok a f x e in
      let r = bind_ok b g y k in
      bind_runs a p.0 (λ p. f p >>= (λ q. b >>= (λ r. g r >>= (λ s. Value (q, s))))) (Ok (x, y)) p.1
      (bind_runs (f p.0) x (λ q. b >>= (λ r. g r >>= (λ s. Value (q, s)))) (Ok (x, y)) p.2
      (bind_runs b r.0 (λ r. g r >>= (λ s. Value (x, s))) (Ok (x, y)) r.1
      (bind_runs (g r.0) y (λ s. Value (x, s)) (Ok (x, y)) r.2 refl)));
}

-- where each item is one of each, going through the list is going through each
pub through_both : {F A B X : Type 0} (row : ℕ → X → A × B → Script F (A × B)) (one : ℕ → X → A → Script F A) (other : ℕ → X → B → Script F B)
    → ((i : ℕ) (x : X) (a : A) (b : B) → AreBoth (row i x (a, b)) (one i x a) (other i x b))
    → (i : ℕ) (xs : List X) (a : A) (b : B) → AreBoth (through row i xs (a, b)) (through one i xs a) (through other i xs b)
unfolding through
through_both {F = F} {A = A} {B = B} row one other parts i [] a b = record {
  parted = λ x y e. let same : (a, b) ≡ (x, y) = value_is {F = F} (a, b) (x, y) e in (ap (λ (p : A × B). Ok p.0) same, ap (λ (p : A × B). Ok p.1) same);
  made = λ x y e k. let same : a ≡ x = value_is {F = F} a x e in let same_too : b ≡ y = value_is {F = F} b y k in ap (λ (z : A). Ok (z, b)) same ∙ ap (λ (z : B). Ok (x, z)) same_too;
}
through_both row one other parts i (item ∷ items) a b = record {
  parted = λ x y e.
      let first = bind_ok (row i item (a, b)) (λ next. through row (i + 1) items next) (x, y) e in
      let both = (parts i item a b).parted first.0.0 first.0.1 first.1 in
      let rest = (through_both row one other parts (i + 1) items first.0.0 first.0.1).parted x y first.2 in
      (bind_runs (one i item a) first.0.0 (λ next. through one (i + 1) items next) (Ok x) both.0 rest.0, bind_runs (other i item b) first.0.1 (λ next. through other (i + 1) items next) (Ok y) both.1 rest.1);
  made = λ x y e k.
      let first = bind_ok (one i item a) (λ next. through one (i + 1) items next) x e in
      let second = bind_ok (other i item b) (λ next. through other (i + 1) items next) y k in
      bind_runs (row i item (a, b)) (first.0, second.0) (λ next. through row (i + 1) items next) (Ok (x, y)) ((parts i item a b).made first.0 second.0 first.1 second.1) ((through_both row one other parts (i + 1) items first.0 second.0).made x y first.2 second.2);
}

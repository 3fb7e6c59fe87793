-- What holds of the value of a script wherever all its tests hold.
use Rattle.std.proofs.Common.{◌≡◌, ℕ, zero, suc, ◌+◌, Bool, true, false, cond, Result, Ok, Err, List, [], ◌∷◌, length, refl, sym, ap, subst, ◌∙◌, arith}
use Rattle.std.specs.Prelude.{IsTrue}
use Rattle.std.specs.List.{All}
use Rattle.std.proofs.lemmas.List.Elements.{All-nil, All-cons}
use Rattle.vet_base.specs.Script.{Script, Value, Test, ◌>>=◌, run, then_run, test, sweep, walk, each}
use Rattle.vet_base.proofs.Scripts.{run_bind}

pub record Yields {F A : Type 0} (P : A → Type 0) (s : Script F A) : Type 0 where
  pub at : (x : A) → run s ≡ Ok x → P x

pub yields_value : {F A : Type 0} (P : A → Type 0) (x : A) → P x → Yields {F = F} P (Value x)
yields_value P x h = record { at = λ y e. let same : x ≡ y = cc in subst P same h }

pub yields_test : {F : Type 0} (b : Bool) (f : F) → Yields (λ _. IsTrue b) (test b f)
yields_test true f = record { at = λ y e. refl }
yields_test false f = record { at = λ y e. absurd cc }

-- a test and then a value
pub yields_tested : {F A : Type 0} (P : A → Type 0) (b : Bool) (f : F) (x : A) → (IsTrue b → P x) → Yields P (Test b f (Value x))
yields_tested P true f x h = record { at = λ y e. let same : x ≡ y = cc in subst P same (h refl) }
yields_tested P false f x h = record { at = λ y e. absurd cc }

after : {F A B : Type 0} (Q : A → Type 0) (P : B → Type 0) (r : Result A F) (f : A → Script F B) (y : B)
    → ((x : A) → r ≡ Ok x → Q x) → ((x : A) → Q x → Yields P (f x)) → then_run r f ≡ Ok y → P y
after Q P (Ok x) f y first next e = (next x (first x refl)).at y e
after Q P (Err x) f y first next e = absurd cc

-- a test that never holds
pub yields_never : {F A : Type 0} (P : A → Type 0) (f : F) (s : Script F A) → Yields P (Test false f s)
yields_never P f s = record { at = λ y e. absurd cc }

-- one script after another
pub yields_then : {F A B : Type 0} (Q : A → Type 0) (P : B → Type 0) (m : Script F A) (f : A → Script F B)
    → Yields Q m → ((x : A) → Q x → Yields P (f x)) → Yields P (m >>= f)
yields_then Q P m f first next = record { at = λ y e. after Q P (run m) f y first.at next (sym (run_bind m f) ∙ e) }

-- of the first of them nothing is said
pub yields_past : {F A B : Type 0} (P : B → Type 0) (m : Script F A) (f : A → Script F B) → ((x : A) → Yields P (f x)) → Yields P (m >>= f)
yields_past P m f next = yields_then (λ _. Unit {0}) P m f (record { at = λ x e. tt }) (λ x _. next x)

pub yields_weaker : {F A : Type 0} (Q P : A → Type 0) (s : Script F A) → ((x : A) → Q x → P x) → Yields Q s → Yields P s
yields_weaker Q P s weaker h = record { at = λ x e. weaker x (h.at x e) }

pub yields_both : {F A : Type 0} (P Q : A → Type 0) (s : Script F A) → Yields P s → Yields Q s → Yields (λ x. P x × Q x) s
yields_both P Q s p q = record { at = λ x e. (p.at x e, q.at x e) }

-- what holds of the state with each row counted, over the rows of a list
pub yields_each : {F S X : Type 0} (Inv : ℕ → S → Type 0) (row : X → S → Script F S) → ((n : ℕ) (x : X) (s : S) → Inv n s → Yields (Inv (n + 1)) (row x s))
    → (xs : List X) (n : ℕ) (s : S) → Inv n s → Yields (Inv (n + length xs)) (each row xs s)
unfolding each
yields_each Inv row step [] n s h = yields_value (Inv (n + 0)) s (let e : n + 0 ≡ n = omega arith in subst (λ (k : ℕ). Inv k s) (sym e) h)
yields_each Inv row step (x ∷ xs) n s h =
    let e : n + length (x ∷ xs) ≡ (n + 1) + length xs = omega arith in
    yields_then (Inv (n + 1)) (Inv (n + length (x ∷ xs))) (row x s) (each row xs) (step n x s h)
    (λ t i. subst (λ (k : ℕ). Yields (Inv k) (each row xs t)) (sym e) (yields_each Inv row step xs (n + 1) t i))

-- the same over rows that each give something, which is counted: what holds of all that is given and of the state
pub yields_walk : {F S X Y : Type 0} (Inv : ℕ → S → Type 0) (row : X → S → Script F (Y × S)) → ((n : ℕ) (x : X) (s : S) → Inv n s → Yields (λ r. Inv (n + 1) r.1) (row x s))
    → (xs : List X) (n : ℕ) (s : S) → Inv n s → Yields (λ r. (length r.0 ≡ length xs) × Inv (n + length xs) r.1) (walk row xs s)
unfolding walk
yields_walk Inv row step [] n s h = yields_value _ ([], s) (let e : n + 0 ≡ n = omega arith in (refl, subst (λ (k : ℕ). Inv k s) (sym e) h))
yields_walk {F = F} {S = S} {X = X} {Y = Y} Inv row step (x ∷ xs) n s h =
    let e : n + length (x ∷ xs) ≡ (n + 1) + length xs = omega arith in
    let P : (List Y × S) → Type 0 = λ r. (length r.0 ≡ length (x ∷ xs)) × Inv (n + length (x ∷ xs)) r.1 in
    yields_then (λ r. Inv (n + 1) r.1) P (row x s) _ (step n x s h)
    (λ first i. yields_then (λ r. (length r.0 ≡ length xs) × Inv ((n + 1) + length xs) r.1) P (walk row xs first.1) _ (yields_walk Inv row step xs (n + 1) first.1 i)
    (λ others j. yields_value P _ (ap suc j.0, subst (λ (k : ℕ). Inv k others.1) (sym e) j.1)))

-- what each row gives holds of all that is given
pub yields_walk_all : {F S X Y : Type 0} (P : Y → Type 0) (row : X → S → Script F (Y × S)) → ((x : X) (s : S) → Yields (λ r. P r.0) (row x s))
    → (xs : List X) (s : S) → Yields (λ r. All P r.0) (walk row xs s)
unfolding walk
yields_walk_all P row step [] s = yields_value _ ([], s) (All-nil P)
yields_walk_all {F = F} {S = S} {X = X} {Y = Y} P row step (x ∷ xs) s =
    let Q : (List Y × S) → Type 0 = λ r. All P r.0 in
    yields_then (λ r. P r.0) Q (row x s) _ (step x s)
    (λ first h. yields_then Q Q (walk row xs first.1) _ (yields_walk_all P row step xs first.1)
    (λ others all. yields_value Q _ (All-cons P first.0 others.0 h all)))

-- one script or the other
yields_if : {F A : Type 0} (P : A → Type 0) (b : Bool) (s t : Script F A) → Yields P s → Yields P t → Yields P (cond b s t)
yields_if P true s t one other = one
yields_if P false s t one other = other

-- what each row gives holds of all that is given, while there are more
pub yields_sweep_all : {F S X : Type 0} (P : X → Type 0) (more : S → Bool) (row : S → Script F (X × S)) → ((s : S) → Yields (λ r. P r.0) (row s))
    → (n : ℕ) (s : S) → Yields (λ r. All P r.0) (sweep n more row s)
unfolding sweep
yields_sweep_all P more row step zero s = yields_value _ ([], s) (All-nil P)
yields_sweep_all {F = F} {S = S} {X = X} P more row step (suc n) s =
    let Q : (List X × S) → Type 0 = λ r. All P r.0 in
    yields_if Q (more s) _ _
    (yields_then (λ r. P r.0) Q (row s) _ (step s)
    (λ first h. yields_then Q Q (sweep n more row first.1) _ (yields_sweep_all P more row step n first.1)
    (λ others all. yields_value Q _ (All-cons P first.0 others.0 h all))))
    (yields_value Q ([], s) (All-nil P))

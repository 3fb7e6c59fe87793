-- A loop over the items of a list by their numbers, as `through` says it: its invariant, and what each row keeps. A row that
-- does not ask for its number is one of `each`.
use Rattle.std.proofs.Common.{◌≡◌, ℕ, ◌+◌, ◌<◌, ◌≤◌, Result, Ok, Err, List, [], ◌∷◌, length, drop, get_or, refl, sym, subst, ◌∙◌}
use Rattle.std.proofs.lemmas.List.{drop_all, get_or_default}
use Rattle.vet_base.specs.declared.stop.Stop.{Stop}
use Rattle.vet_base.specs.declared.stop.Stop.TheVariants as stops
use Rattle.vet_base.specs.Script.{Script, run, each, through, Fails}
use Rattle.vet_base.proofs.Lists.{drop_read}
use Rattle.vet_base.proofs.Runs.{value_is, bind_ok, bind_agree}
use Rattle.vet_base.proofs.Scripts.{run_bind}

-- the items before i led to s, and going on from there makes the whole
pub record Through {F S X : Type 0} (items : List X) (i : ℕ) (row : ℕ → X → S → Script F S) (s : S) (whole : Result S F) : Type 0 where
  pub is : run (through row i (drop i items) s) ≡ whole

pub through_begins : {F S X : Type 0} (items : List X) (row : ℕ → X → S → Script F S) (s : S) → Through items 0 row s (run (through row 0 items s))
through_begins items row s = record { is = refl }

pub through_goes_on : {F S X : Type 0} (items : List X) (i : ℕ) (row : ℕ → X → S → Script F S) (s : S) (x : X) (t : S) (whole : Result S F)
    → i < length items → x ≡ get_or items i x → run (row i x s) ≡ Ok t → Through items i row s whole → Through items (i + 1) row t whole
unfolding through
through_goes_on items i row s x t whole lt item one so_far =
    let step : run (through row i (drop i items) s) ≡ run (through row (i + 1) (drop (i + 1) items) t) = rw (drop_read items i x lt item, run_bind, one) refl in
    record { is = sym step ∙ so_far.is }

pub through_fails : {F S X : Type 0} (e : Stop F) (items : List X) (i : ℕ) (row : ℕ → X → S → Script F S) (s : S) (x : X) (whole : Result S F)
    → i < length items → x ≡ get_or items i x → Fails e (run (row i x s)) → Through items i row s whole → Fails e whole
unfolding through
through_fails stops.Memory items i row s x whole lt item one so_far = tt
through_fails (stops.Fault f) items i row s x whole lt item one so_far =
    let step : run (through row i (drop i items) s) ≡ Err f = rw (drop_read items i x lt item, run_bind, one) refl in
    sym so_far.is ∙ step

pub through_is_done : {F S X : Type 0} (items : List X) (i : ℕ) (row : ℕ → X → S → Script F S) (s : S) (whole : Result S F)
    → length items ≤ i → Through items i row s whole → whole ≡ Ok s
unfolding through
through_is_done items i row s whole le so_far =
    let k : drop i items ≡ [] = drop_all i items le in
    let step : run (through row i (drop i items) s) ≡ Ok s = rw k refl in
    sym so_far.is ∙ step

-- the same at an item that is read by its index, with any default
pub through_goes_on_at : {F S X : Type 0} (items : List X) (i : ℕ) (row : ℕ → X → S → Script F S) (s : S) (d : X) (t : S) (whole : Result S F)
    → i < length items → run (row i (get_or items i d) s) ≡ Ok t → Through items i row s whole → Through items (i + 1) row t whole
through_goes_on_at items i row s d t whole lt one so_far = through_goes_on items i row s (get_or items i d) t whole lt (get_or_default items i d (get_or items i d) lt) one so_far

pub through_fails_at : {F S X : Type 0} (e : Stop F) (items : List X) (i : ℕ) (row : ℕ → X → S → Script F S) (s : S) (d : X) (whole : Result S F)
    → i < length items → Fails e (run (row i (get_or items i d) s)) → Through items i row s whole → Fails e whole
through_fails_at e items i row s d whole lt one so_far = through_fails e items i row s (get_or items i d) whole lt (get_or_default items i d (get_or items i d) lt) one so_far

-- what each row keeps, going through the list keeps
pub through_keeps : {F S X : Type 0} (P : S → Type 0) (row : ℕ → X → S → Script F S) → ((i : ℕ) (x : X) (s t : S) → run (row i x s) ≡ Ok t → P s → P t)
    → (i : ℕ) (items : List X) (s t : S) → run (through row i items s) ≡ Ok t → P s → P t
unfolding through
through_keeps {F = F} P row step i [] s t e p = subst P (value_is {F = F} s t e) p
through_keeps P row step i (x ∷ xs) s t e p =
    let first = bind_ok (row i x s) (λ next. through row (i + 1) xs next) t e in
    through_keeps P row step (i + 1) xs first.0 t first.2 (step i x s first.0 first.1 p)

-- where no row asks for its number, this is `each`
pub through_is_each : {F S X : Type 0} (row : X → S → Script F S) (i : ℕ) (items : List X) (s : S) → through (λ _. row) i items s ≡ each row items s
unfolding through each
through_is_each row i [] s = refl
through_is_each row i (x ∷ xs) s = bind_agree (row x s) (λ next. through (λ _. row) (i + 1) xs next) (λ next. each row xs next) (λ next. through_is_each row (i + 1) xs next)

-- A loop over the items of a list that keeps a state alone, as `each` says it: its invariant, and what each row keeps.
use Rattle.std.proofs.Common.{◌≡◌, ℕ, ◌+◌, ◌<◌, ◌≤◌, Result, Ok, Err, List, [], ◌∷◌, length, drop, get_or, refl, sym, subst, ◌∙◌}
use Rattle.std.proofs.lemmas.List.{drop_all, get_or_default}
use Rattle.vet_base.specs.declared.stop.Stop.{Stop}
use Rattle.vet_base.specs.declared.stop.Stop.TheVariants as stops
use Rattle.vet_base.specs.Script.{Script, run, each, Fails}
use Rattle.vet_base.proofs.Lists.{drop_read}
use Rattle.vet_base.proofs.Runs.{value_is, bind_ok}
use Rattle.vet_base.proofs.Scripts.{run_bind}

-- the items before i led to s, and going on from there makes the whole
pub record Eaches {F S X : Type 0} (items : List X) (i : ℕ) (row : X → S → Script F S) (s : S) (whole : Result S F) : Type 0 where
  pub is : run (each row (drop i items) s) ≡ whole

pub each_begins : {F S X : Type 0} (items : List X) (row : X → S → Script F S) (s : S) → Eaches items 0 row s (run (each row items s))
each_begins items row s = record { is = refl }

pub each_goes_on : {F S X : Type 0} (items : List X) (i : ℕ) (row : X → S → Script F S) (s : S) (x : X) (t : S) (whole : Result S F)
    → i < length items → x ≡ get_or items i x → run (row x s) ≡ Ok t → Eaches items i row s whole → Eaches items (i + 1) row t whole
unfolding each
each_goes_on items i row s x t whole lt item one so_far =
    let step : run (each row (drop i items) s) ≡ run (each row (drop (i + 1) items) t) = rw (drop_read items i x lt item, run_bind, one) refl in
    record { is = sym step ∙ so_far.is }

pub each_fails : {F S X : Type 0} (e : Stop F) (items : List X) (i : ℕ) (row : X → S → Script F S) (s : S) (x : X) (whole : Result S F)
    → i < length items → x ≡ get_or items i x → Fails e (run (row x s)) → Eaches items i row s whole → Fails e whole
unfolding each
each_fails stops.Memory items i row s x whole lt item one so_far = tt
each_fails (stops.Fault f) items i row s x whole lt item one so_far =
    let step : run (each row (drop i items) s) ≡ Err f = rw (drop_read items i x lt item, run_bind, one) refl in
    sym so_far.is ∙ step

pub each_is_done : {F S X : Type 0} (items : List X) (i : ℕ) (row : X → S → Script F S) (s : S) (whole : Result S F)
    → length items ≤ i → Eaches items i row s whole → whole ≡ Ok s
unfolding each
each_is_done items i row s whole le so_far =
    let k : drop i items ≡ [] = drop_all i items le in
    let step : run (each row (drop i items) s) ≡ Ok s = rw k refl in
    sym so_far.is ∙ step

-- the same at an item that is read by its index, with any default
pub each_goes_on_at : {F S X : Type 0} (items : List X) (i : ℕ) (row : X → S → Script F S) (s : S) (d : X) (t : S) (whole : Result S F)
    → i < length items → run (row (get_or items i d) s) ≡ Ok t → Eaches items i row s whole → Eaches items (i + 1) row t whole
each_goes_on_at items i row s d t whole lt one so_far = each_goes_on items i row s (get_or items i d) t whole lt (get_or_default items i d (get_or items i d) lt) one so_far

pub each_fails_at : {F S X : Type 0} (e : Stop F) (items : List X) (i : ℕ) (row : X → S → Script F S) (s : S) (d : X) (whole : Result S F)
    → i < length items → Fails e (run (row (get_or items i d) s)) → Eaches items i row s whole → Fails e whole
each_fails_at e items i row s d whole lt one so_far = each_fails e items i row s (get_or items i d) whole lt (get_or_default items i d (get_or items i d) lt) one so_far

-- what each row keeps, going through the list keeps
pub each_keeps : {F S X : Type 0} (P : S → Type 0) (row : X → S → Script F S) → ((x : X) (s t : S) → run (row x s) ≡ Ok t → P s → P t)
    → (items : List X) (s t : S) → run (each row items s) ≡ Ok t → P s → P t
unfolding each
each_keeps {F = F} P row step [] s t e p = subst P (value_is {F = F} s t e) p
each_keeps P row step (x ∷ xs) s t e p =
    let first = bind_ok (row x s) (λ next. each row xs next) t e in
    each_keeps P row step xs first.0 t first.2 (step x s first.0 first.1 p)

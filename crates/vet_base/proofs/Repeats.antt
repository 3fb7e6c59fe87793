-- A loop over so many rows that do not ask for their numbers, as `repeat` says it: its invariant.
use Rattle.std.proofs.Common.{◌≡◌, ℕ, zero, suc, ◌+◌, ◌-◌, ◌<◌, ◌≤◌, Result, Ok, Err, List, [], ◌∷◌, ◌++◌, refl, sym, ap, ◌∙◌, arith}
use Rattle.std.proofs.lemmas.List.{append-nil}
use Rattle.vet_base.specs.declared.stop.Stop.{Stop}
use Rattle.vet_base.specs.declared.stop.Stop.TheVariants as stops
use Rattle.vet_base.specs.Script.{Script, Value, ◌>>=◌, run, rows, repeat, Fails}
use Rattle.vet_base.proofs.Scripts.{run_bind, with_front, with_none, regroup}
use Rattle.vet_base.proofs.Runs.{bind_agree}

-- these were read, and with what is still read from here they make the whole
pub record Repeats {F S X : Type 0} (size i : ℕ) (row : S → Script F (X × S)) (front : List X) (s : S) (whole : Result (List X × S) F) : Type 0 where
  pub is : with_front front (run (repeat (size - i) row s)) ≡ whole

pub repeat_begins : {F S X : Type 0} (size : ℕ) (row : S → Script F (X × S)) (s : S) → Repeats size 0 row [] s (run (repeat size row s))
repeat_begins size row s = let k : size - 0 ≡ size = omega arith in record { is = rw k (with_none (run (repeat size row s))) }

pub repeat_goes_on : {F S X : Type 0} (size i : ℕ) (row : S → Script F (X × S)) (front : List X) (s : S) (x : X) (t : S) (whole : Result (List X × S) F)
    → i < size → run (row s) ≡ Ok (x, t) → Repeats size i row front s whole → Repeats size (i + 1) row (front ++ x ∷ []) t whole
unfolding repeat
repeat_goes_on size i row front s x t whole lt one so_far =
    let k : size - i ≡ suc (size - (i + 1)) = omega arith in
    let step : with_front front (run (repeat (size - i) row s)) ≡ with_front (front ++ x ∷ []) (run (repeat (size - (i + 1)) row t)) = rw (k, run_bind, one, run_bind) (regroup front x (run (repeat (size - (i + 1)) row t))) in
    record { is = sym step ∙ so_far.is }

pub repeat_fails : {F S X : Type 0} (e : Stop F) (size i : ℕ) (row : S → Script F (X × S)) (front : List X) (s : S) (whole : Result (List X × S) F)
    → i < size → Fails e (run (row s)) → Repeats size i row front s whole → Fails e whole
unfolding repeat
repeat_fails stops.Memory size i row front s whole lt one so_far = tt
repeat_fails (stops.Fault f) size i row front s whole lt one so_far =
    let k : size - i ≡ suc (size - (i + 1)) = omega arith in
    let step : with_front front (run (repeat (size - i) row s)) ≡ Err f = rw (k, run_bind, one) refl in
    sym so_far.is ∙ step

pub repeat_is_done : {F S X : Type 0} (size i : ℕ) (row : S → Script F (X × S)) (front : List X) (s : S) (whole : Result (List X × S) F)
    → size ≤ i → Repeats size i row front s whole → whole ≡ Ok (front, s)
unfolding repeat
repeat_is_done size i row front s whole le so_far =
    let k : size - i ≡ 0 = omega arith in
    let step : with_front front (run (repeat (size - i) row s)) ≡ Ok (front, s) = rw k (ap (λ (xs : List _). Ok (xs, s)) (append-nil front)) in
    sym so_far.is ∙ step

-- where no row asks for its number, `rows` is this
pub rows_is_repeat : {F S X : Type 0} (row : S → Script F (X × S)) (n i : ℕ) (s : S) → rows n i (λ _. row) s ≡ repeat n row s
unfolding rows repeat
rows_is_repeat row zero i s = refl
rows_is_repeat row (suc n) i s =
    bind_agree (row s) (λ first. rows n (i + 1) (λ _. row) first.1 >>= λ others. Value (first.0 ∷ others.0, others.1)) (λ first. repeat n row first.1 >>= λ others. Value (first.0 ∷ others.0, others.1))
    (λ first. ap (λ (rest : Script _ _). rest >>= λ others. Value (first.0 ∷ others.0, others.1)) (rows_is_repeat row n (i + 1) first.1))

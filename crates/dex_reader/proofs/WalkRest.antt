-- The laws of a loop that takes the items of a list out of it.
use Rattle.std.proofs.Common.{◌≡◌, List, [], ◌∷◌, ◌++◌, length, arith, Result, Ok, Err, refl, sym, ap, ◌∙◌}
use Rattle.std.proofs.lemmas.List.{append-nil}
use Rattle.vet_base.specs.declared.stop.Stop.{Stop}
use Rattle.vet_base.specs.declared.stop.Stop.TheVariants as stops
use Rattle.vet_base.specs.Script.{Script, run, walk, Fails}
use Rattle.vet_base.proofs.Scripts.{run_bind, with_front, with_none, regroup}

-- these were read, and with what is still read from the rest they make the whole
pub record WalksRest {F S X Y : Type 0} (rest : List X) (row : X → S → Script F (Y × S)) (front : List Y) (s : S) (whole : Result (List Y × S) F) : Type 0 where
  pub is : with_front front (run (walk row rest s)) ≡ whole

pub rest_begins : {F S X Y : Type 0} (items : List X) (row : X → S → Script F (Y × S)) (s : S) → WalksRest items row [] s (run (walk row items s))
rest_begins items row s = record { is = with_none (run (walk row items s)) }

pub rest_goes_on : {F S X Y : Type 0} (x : X) (rest : List X) (row : X → S → Script F (Y × S)) (front : List Y) (s : S) (y : Y) (t : S) (whole : Result (List Y × S) F)
    → run (row x s) ≡ Ok (y, t) → WalksRest (x ∷ rest) row front s whole → WalksRest rest row (front ++ y ∷ []) t whole
unfolding walk
rest_goes_on x rest row front s y t whole one so_far =
    let step : with_front front (run (walk row (x ∷ rest) s)) ≡ with_front (front ++ y ∷ []) (run (walk row rest t)) = rw (run_bind, one, run_bind) (regroup front y (run (walk row rest t))) in
    record { is = sym step ∙ so_far.is }

pub rest_fails : {F S X Y : Type 0} (e : Stop F) (x : X) (rest : List X) (row : X → S → Script F (Y × S)) (front : List Y) (s : S) (whole : Result (List Y × S) F)
    → Fails e (run (row x s)) → WalksRest (x ∷ rest) row front s whole → Fails e whole
unfolding walk
rest_fails stops.Memory x rest row front s whole one so_far = tt
rest_fails (stops.Fault f) x rest row front s whole one so_far =
    let step : with_front front (run (walk row (x ∷ rest) s)) ≡ Err f = rw (run_bind, one) refl in
    sym so_far.is ∙ step

pub rest_is_done : {F S X Y : Type 0} (rest : List X) (row : X → S → Script F (Y × S)) (front : List Y) (s : S) (whole : Result (List Y × S) F)
    → length rest ≡ 0 → WalksRest rest row front s whole → whole ≡ Ok (front, s)
unfolding walk
rest_is_done [] row front s whole none so_far =
    let step : with_front front (run (walk row [] s)) ≡ Ok (front, s) = ap (λ (ys : List _). Ok (ys, s)) (append-nil front) in
    sym so_far.is ∙ step
rest_is_done (x ∷ rest) row front s whole none so_far = absurd (omega arith)

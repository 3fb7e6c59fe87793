-- Laws of scripts: running one after another, the first test that fails, and one invariant for each of the three loops
-- (`begins`, `goes_on`, a failure, `is_done`).
use Rattle.std.proofs.Common.{◌≡◌, ℕ, zero, suc, ◌+◌, ◌-◌, ◌<◌, ◌≤◌, true, false, Result, Ok, Err, List, [], ◌∷◌, ◌++◌, append_assoc, length, drop, get_or, add-one, refl, sym, ap, ◌∙◌, arith, Bool}
use Rattle.std.specs.Prelude.{IsTrue}
use Rattle.std.proofs.lemmas.List.{append-nil, drop_all, get_or_default}
use Rattle.std.proofs.Math.Seq.{drop-cons}
use Rattle.vet_base.specs.declared.stop.Stop.{Stop}
use Rattle.vet_base.specs.declared.stop.Stop.TheVariants as stops
use Rattle.vet_base.specs.Script.{Script, Value, Test, ◌>>=◌, run, then_run, rows, sweep, walk, Fails, tests, value_of, AllHold, IsFirst}

pub run_bind : {F A B : Type 0} (m : Script F A) (f : A → Script F B) → run (m >>= f) ≡ then_run (run m) f
run_bind (Value x) f = refl
run_bind (Test true fault rest) f = run_bind rest f
run_bind (Test false fault rest) f = refl

-- what was read before, and what is still read
abbrev pub with_front : {F S X : Type 0} → List X → Result (List X × S) F → Result (List X × S) F
with_front front (Ok r) = Ok (front ++ r.0, r.1)
with_front front (Err e) = Err e

-- A loop over rows: these were read, and with what is still read from here they make the whole.
pub record Continues {F S X : Type 0} (size i : ℕ) (row : ℕ → S → Script F (X × S)) (front : List X) (s : S) (whole : Result (List X × S) F) : Type 0 where
  pub is : with_front front (run (rows (size - i) i row s)) ≡ whole

pub with_none : {F S X : Type 0} (r : Result (List X × S) F) → with_front [] r ≡ r
with_none (Ok r) = refl
with_none (Err e) = refl

pub begins : {F S X : Type 0} (size : ℕ) (row : ℕ → S → Script F (X × S)) (s : S) → Continues size 0 row [] s (run (rows size 0 row s))
begins size row s = let k : size - 0 ≡ size = omega arith in record { is = rw k (with_none (run (rows size 0 row s))) }

pub regroup : {F S X : Type 0} (front : List X) (x : X) (r : Result (List X × S) F) → with_front front (then_run r (λ others. Value (x ∷ others.0, others.1))) ≡ with_front (front ++ x ∷ []) r
regroup front x (Ok r) = ap (λ (xs : List _). Ok (xs, r.1)) (simp append_assoc)
regroup front x (Err e) = refl

pub goes_on : {F S X : Type 0} (size i : ℕ) (row : ℕ → S → Script F (X × S)) (front : List X) (s : S) (x : X) (t : S) (whole : Result (List X × S) F)
    → i < size → run (row i s) ≡ Ok (x, t) → Continues size i row front s whole → Continues size (i + 1) row (front ++ x ∷ []) t whole
unfolding rows
goes_on size i row front s x t whole lt one so_far =
    let k : size - i ≡ suc (size - (i + 1)) = omega arith in
    let step : with_front front (run (rows (size - i) i row s)) ≡ with_front (front ++ x ∷ []) (run (rows (size - (i + 1)) (i + 1) row t)) = rw (k, run_bind, one, run_bind) (regroup front x (run (rows (size - (i + 1)) (i + 1) row t))) in
    record { is = sym step ∙ so_far.is }

pub ends : {F S X : Type 0} (e : Stop F) (size i : ℕ) (row : ℕ → S → Script F (X × S)) (front : List X) (s : S) (whole : Result (List X × S) F)
    → i < size → Fails e (run (row i s)) → Continues size i row front s whole → Fails e whole
unfolding rows
ends stops.Memory size i row front s whole lt one so_far = tt
ends (stops.Fault f) size i row front s whole lt one so_far =
    let k : size - i ≡ suc (size - (i + 1)) = omega arith in
    let step : with_front front (run (rows (size - i) i row s)) ≡ Err f = rw (k, run_bind, one) refl in
    sym so_far.is ∙ step

pub is_done : {F S X : Type 0} (size i : ℕ) (row : ℕ → S → Script F (X × S)) (front : List X) (s : S) (whole : Result (List X × S) F)
    → size ≤ i → Continues size i row front s whole → whole ≡ Ok (front, s)
unfolding rows
is_done size i row front s whole le so_far =
    let k : size - i ≡ 0 = omega arith in
    let step : with_front front (run (rows (size - i) i row s)) ≡ Ok (front, s) = rw k (ap (λ (xs : List _). Ok (xs, s)) (append-nil front)) in
    sym so_far.is ∙ step

-- A fault of the first script, and one of what comes behind it.
pub first_fails : {F A B : Type 0} (e : Stop F) (m : Script F A) (f : A → Script F B) → Fails e (run m) → Fails e (run (m >>= f))
first_fails stops.Memory m f h = tt
first_fails (stops.Fault d) m f h = rw (run_bind, h) refl

pub later_fails : {F A B : Type 0} (e : Stop F) (m : Script F A) (x : A) (f : A → Script F B) → run m ≡ Ok x → Fails e (run (f x)) → Fails e (run (m >>= f))
later_fails e m x f ok h = rw (run_bind, ok) h

pub all_hold : {F A : Type 0} (s : Script F A) (x : A) → run s ≡ Ok x → AllHold (tests s) × (x ≡ value_of s)
all_hold (Value y) x e = (tt, cc)
all_hold (Test true fault rest) x e = let h = all_hold rest x e in ((refl, h.0), h.1)
all_hold (Test false fault rest) x e = absurd cc

pub is_first : {F A : Type 0} (s : Script F A) (f : F) → run s ≡ Err f → IsFirst (tests s) f
is_first (Value y) f e = absurd cc
is_first (Test true fault rest) f e =
    let h = is_first rest f e in
    record { before = (true, fault) ∷ h.before; after = h.after; stands = ap (λ (ts : List (Bool × _)). (true, fault) ∷ ts) h.stands; hold = (refl, h.hold) }
is_first (Test false fault rest) f e =
    let same : fault ≡ f = cc in
    record { before = []; after = tests rest; stands = rw same refl; hold = tt }

-- where all tests hold, running gives the value
pub runs : {F A : Type 0} (s : Script F A) → AllHold (tests s) → run s ≡ Ok (value_of s)
runs (Value y) h = refl
runs (Test true fault rest) h = runs rest h.1
runs (Test false fault rest) h = absurd cc

-- no fault is first where all tests hold, and no two faults are
hold_or_not : {F : Type 0} (ts before after : List (Bool × F)) (f : F) → AllHold ts → ts ≡ before ++ (false, f) ∷ after → ⊥
hold_or_not [] [] after f h e = absurd cc
hold_or_not [] (b ∷ before) after f h e = absurd cc
hold_or_not {F = F} (t ∷ ts) [] after f h e = let k : t ≡ (false, f) = cc in let j : IsTrue t.0 = h.0 in let i : t.0 ≡ false = ap (λ (x : Bool × F). x.0) k in absurd cc
hold_or_not (t ∷ ts) (b ∷ before) after f h e = hold_or_not ts before after f h.1 cc

pub exclusive : {F : Type 0} (ts : List (Bool × F)) (f : F) → AllHold ts → IsFirst ts f → ⊥
exclusive ts f h first = hold_or_not ts first.before first.after f h first.stands

-- A loop over rows while there are more: these were read, and with what is still read from here they make the whole.
pub record Sweeps {F S X : Type 0} (size i : ℕ) (more : S → Bool) (row : S → Script F (X × S)) (front : List X) (s : S) (whole : Result (List X × S) F) : Type 0 where
  pub is : with_front front (run (sweep (size - i) more row s)) ≡ whole

pub sweep_begins : {F S X : Type 0} (size : ℕ) (more : S → Bool) (row : S → Script F (X × S)) (s : S) → Sweeps size 0 more row [] s (run (sweep size more row s))
sweep_begins size more row s = let k : size - 0 ≡ size = omega arith in record { is = rw k (with_none (run (sweep size more row s))) }

pub sweep_goes_on : {F S X : Type 0} (size i : ℕ) (more : S → Bool) (row : S → Script F (X × S)) (front : List X) (s : S) (x : X) (t : S) (whole : Result (List X × S) F)
    → i < size → more s ≡ true → run (row s) ≡ Ok (x, t) → Sweeps size i more row front s whole → Sweeps size (i + 1) more row (front ++ x ∷ []) t whole
unfolding sweep
sweep_goes_on size i more row front s x t whole lt has one so_far =
    let k : size - i ≡ suc (size - (i + 1)) = omega arith in
    let step : with_front front (run (sweep (size - i) more row s)) ≡ with_front (front ++ x ∷ []) (run (sweep (size - (i + 1)) more row t)) = rw (k, has, run_bind, one, run_bind) (regroup front x (run (sweep (size - (i + 1)) more row t))) in
    record { is = sym step ∙ so_far.is }

pub sweep_fails : {F S X : Type 0} (e : Stop F) (size i : ℕ) (more : S → Bool) (row : S → Script F (X × S)) (front : List X) (s : S) (whole : Result (List X × S) F)
    → i < size → more s ≡ true → Fails e (run (row s)) → Sweeps size i more row front s whole → Fails e whole
unfolding sweep
sweep_fails stops.Memory size i more row front s whole lt has one so_far = tt
sweep_fails (stops.Fault f) size i more row front s whole lt has one so_far =
    let k : size - i ≡ suc (size - (i + 1)) = omega arith in
    let step : with_front front (run (sweep (size - i) more row s)) ≡ Err f = rw (k, has, run_bind, one) refl in
    sym so_far.is ∙ step

sweep_stops : {F S X : Type 0} (n : ℕ) (more : S → Bool) (row : S → Script F (X × S)) (s : S) → more s ≡ false → run (sweep n more row s) ≡ Ok ([], s)
unfolding sweep
sweep_stops zero more row s none = refl
sweep_stops (suc n) more row s none = rw none refl

pub sweep_is_done : {F S X : Type 0} (size i : ℕ) (more : S → Bool) (row : S → Script F (X × S)) (front : List X) (s : S) (whole : Result (List X × S) F)
    → more s ≡ false → Sweeps size i more row front s whole → whole ≡ Ok (front, s)
sweep_is_done size i more row front s whole none so_far =
    let step : with_front front (run (sweep (size - i) more row s)) ≡ Ok (front, s) = rw (sweep_stops (size - i) more row s none) (ap (λ (xs : List _). Ok (xs, s)) (append-nil front)) in
    sym so_far.is ∙ step

-- A loop over the items of a list: these were read, and with what is still read from here they make the whole.
pub record Walks {F S X Y : Type 0} (items : List X) (i : ℕ) (row : X → S → Script F (Y × S)) (front : List Y) (s : S) (whole : Result (List Y × S) F) : Type 0 where
  pub is : with_front front (run (walk row (drop i items) s)) ≡ whole

pub walk_begins : {F S X Y : Type 0} (items : List X) (row : X → S → Script F (Y × S)) (s : S) → Walks items 0 row [] s (run (walk row items s))
walk_begins items row s = record { is = with_none (run (walk row items s)) }

pub walk_goes_on : {F S X Y : Type 0} (items : List X) (i : ℕ) (row : X → S → Script F (Y × S)) (front : List Y) (s : S) (x : X) (y : Y) (t : S) (whole : Result (List Y × S) F)
    → i < length items → x ≡ get_or items i x → run (row x s) ≡ Ok (y, t) → Walks items i row front s whole → Walks items (i + 1) row (front ++ y ∷ []) t whole
unfolding walk
walk_goes_on items i row front s x y t whole lt item one so_far =
    let k : drop i items ≡ x ∷ drop (i + 1) items = rw (drop-cons items i x, ← item, add-one) refl in
    let step : with_front front (run (walk row (drop i items) s)) ≡ with_front (front ++ y ∷ []) (run (walk row (drop (i + 1) items) t)) = rw (k, run_bind, one, run_bind) (regroup front y (run (walk row (drop (i + 1) items) t))) in
    record { is = sym step ∙ so_far.is }

pub walk_fails : {F S X Y : Type 0} (e : Stop F) (items : List X) (i : ℕ) (row : X → S → Script F (Y × S)) (front : List Y) (s : S) (x : X) (whole : Result (List Y × S) F)
    → i < length items → x ≡ get_or items i x → Fails e (run (row x s)) → Walks items i row front s whole → Fails e whole
unfolding walk
walk_fails stops.Memory items i row front s x whole lt item one so_far = tt
walk_fails (stops.Fault f) items i row front s x whole lt item one so_far =
    let k : drop i items ≡ x ∷ drop (i + 1) items = rw (drop-cons items i x, ← item, add-one) refl in
    let step : with_front front (run (walk row (drop i items) s)) ≡ Err f = rw (k, run_bind, one) refl in
    sym so_far.is ∙ step

pub walk_is_done : {F S X Y : Type 0} (items : List X) (i : ℕ) (row : X → S → Script F (Y × S)) (front : List Y) (s : S) (whole : Result (List Y × S) F)
    → length items ≤ i → Walks items i row front s whole → whole ≡ Ok (front, s)
unfolding walk
walk_is_done items i row front s whole le so_far =
    let k : drop i items ≡ [] = drop_all i items le in
    let step : with_front front (run (walk row (drop i items) s)) ≡ Ok (front, s) = rw k (ap (λ (xs : List _). Ok (xs, s)) (append-nil front)) in
    sym so_far.is ∙ step

-- the same at an item that is read by its index, with any default
pub walk_goes_on_at : {F S X Y : Type 0} (items : List X) (i : ℕ) (row : X → S → Script F (Y × S)) (front : List Y) (s : S) (d : X) (y : Y) (t : S) (whole : Result (List Y × S) F)
    → i < length items → run (row (get_or items i d) s) ≡ Ok (y, t) → Walks items i row front s whole → Walks items (i + 1) row (front ++ y ∷ []) t whole
walk_goes_on_at items i row front s d y t whole lt one so_far =
    walk_goes_on items i row front s (get_or items i d) y t whole lt (get_or_default items i d (get_or items i d) lt) one so_far

pub walk_fails_at : {F S X Y : Type 0} (e : Stop F) (items : List X) (i : ℕ) (row : X → S → Script F (Y × S)) (front : List Y) (s : S) (d : X) (whole : Result (List Y × S) F)
    → i < length items → Fails e (run (row (get_or items i d) s)) → Walks items i row front s whole → Fails e whole
walk_fails_at e items i row front s d whole lt one so_far =
    walk_fails e items i row front s (get_or items i d) whole lt (get_or_default items i d (get_or items i d) lt) one so_far

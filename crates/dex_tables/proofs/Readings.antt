-- Parts of a reading that did not fail, and readings of rows one behind the other.
use Rattle.std.proofs.Common.{◌≡◌, ℕ, zero, suc, ◌+◌, List, [], ◌∷◌, length, Option, Some, None, Ok, refl, sym, ap, subst, ◌∙◌}
use Rattle.vet_base.specs.Script.{Script, Value, ◌>>=◌, run, rows, repeat}
use Rattle.vet_base.proofs.Scripts.{run_bind}
use Rattle.dex_tables.specs.declared.fault.Fault.{Fault}
use Rattle.dex_tables.specs.Parts.{there}
use Rattle.dex_tables.specs.Sequences.{RowsStand, Follow}
use Rattle.vet_base.proofs.Runs.{bind_ok, value_is}
use Rattle.vet_base.proofs.Repeats.{rows_is_repeat}

pub there_ok : {A B : Type 0} (o : Option A) (d : A) (fault : Fault) (f : A → Script Fault B) (y : B) → run (there o d fault >>= f) ≡ Ok y → (x : A) × (o ≡ Some x) × (run (f x) ≡ Ok y)
there_ok (Some x) d fault f y e = (x, refl, e)
there_ok None d fault f y e = absurd cc

-- Rows of one width that are read one behind the other.
pub rows_stand : {F X : Type 0} (IsAt : ℕ → X → Type 0) (width : ℕ) (row : ℕ → ℕ → Script F (X × ℕ))
    → ((i at : ℕ) (x : X) (next : ℕ) → run (row i at) ≡ Ok (x, next) → IsAt at x × (next ≡ at + width))
    → (n i at : ℕ) (xs : List X) (end : ℕ) → run (rows n i row at) ≡ Ok (xs, end) → (length xs ≡ n) × RowsStand IsAt width at xs
unfolding rows
rows_stand {X = X} IsAt width row one zero i at xs end e =
    subst (λ (ys : List X). (length ys ≡ 0) × RowsStand IsAt width at ys) (ap (λ (p : List X × ℕ). p.0) (value_is ([], at) (xs, end) e)) (refl, tt)
rows_stand {X = X} IsAt width row one (suc n) i at xs end e =
    let a = bind_ok (row i at) (λ first. rows n (i + 1) row first.1 >>= λ others. Value (first.0 ∷ others.0, others.1)) (xs, end) e in
    let b = bind_ok (rows n (i + 1) row a.0.1) (λ others. Value (a.0.0 ∷ others.0, others.1)) (xs, end) a.2 in
    let here = one i at a.0.0 a.0.1 a.1 in
    let rest = rows_stand IsAt width row one n (i + 1) a.0.1 b.0.0 b.0.1 b.1 in
    let xs-is : a.0.0 ∷ b.0.0 ≡ xs = ap (λ (p : List X × ℕ). p.0) (value_is (a.0.0 ∷ b.0.0, b.0.1) (xs, end) b.2) in
    subst (λ (ys : List X). (length ys ≡ suc n) × RowsStand IsAt width at ys) xs-is (ap (λ (k : ℕ). suc k) rest.0, (here.0, subst (λ (o : ℕ). RowsStand IsAt width o b.0.0) here.1 rest.1))

pub rows_again : {F X : Type 0} (IsAt : ℕ → X → Type 0) (width : ℕ) (row : ℕ → ℕ → Script F (X × ℕ))
    → ((i at : ℕ) (x : X) → IsAt at x → run (row i at) ≡ Ok (x, at + width))
    → (i at : ℕ) (xs : List X) → RowsStand IsAt width at xs → (end : ℕ) × (run (rows (length xs) i row at) ≡ Ok (xs, end))
unfolding rows
rows_again IsAt width row one i at [] stand = (at, refl)
rows_again IsAt width row one i at (x ∷ xs) stand =
    let rest = rows_again IsAt width row one (i + 1) (at + width) xs stand.1 in
    (rest.0, rw (run_bind, one i at x stand.0, run_bind, rest.1) refl)

-- What was read of an item: where it ends, and what it adds to the running total, which still fits.
pub record OneRead {Q X T S : Type 0} (plus : T → T → T) (Fits : T → Type 0) (IsAt : Q → X → T → Q → Type 0) (state : Q → T → S) (from : Q) (t : T) (x : X) (s : S) : Type 0 where
  pub to : Q
  pub adds : T
  pub stands : IsAt from x adds to
  pub is : s ≡ state to (plus t adds)
  pub fits : Fits (plus t adds)

pub record ManyRead {Q X T S : Type 0} (none : T) (plus : T → T → T) (Fits : T → Type 0) (IsAt : Q → X → T → Q → Type 0) (state : Q → T → S) (n : ℕ) (from : Q) (t : T) (xs : List X) (s : S) : Type 0 where
  pub to : Q
  pub adds : T
  pub stand : Follow none plus IsAt from xs adds to
  pub is : s ≡ state to (plus t adds)
  pub fits : Fits (plus t adds)
  pub count : length xs ≡ n

-- how totals are added up
pub record Adds {T : Type 0} (none : T) (plus : T → T → T) (Fits : T → Type 0) : Type 0 where
  pub regroup : (a b c : T) → plus (plus a b) c ≡ plus a (plus b c)
  pub right_none : (a : T) → plus a none ≡ a
  pub smaller : (a b : T) → Fits (plus a b) → Fits a

pub follow_read : {F Q X T S : Type 0} (none : T) (plus : T → T → T) (Fits : T → Type 0) (IsAt : Q → X → T → Q → Type 0) (state : Q → T → S) (row : ℕ → S → Script F (X × S))
    → Adds none plus Fits
    → ((i : ℕ) (q : Q) (t : T) (x : X) (s : S) → Fits t → run (row i (state q t)) ≡ Ok (x, s) → OneRead plus Fits IsAt state q t x s)
    → (n i : ℕ) (q : Q) (t : T) (xs : List X) (s : S) → Fits t → run (rows n i row (state q t)) ≡ Ok (xs, s) → ManyRead none plus Fits IsAt state n q t xs s
unfolding rows
follow_read {X = X} {S = S} none plus Fits IsAt state row laws one zero i q t xs s fit e =
    let same : ([], state q t) ≡ (xs, s) = value_is ([], state q t) (xs, s) e in
    let none-is : [] ≡ xs = ap (λ (p : List X × S). p.0) same in
    let s-is : state q t ≡ s = ap (λ (p : List X × S). p.1) same in
    subst (λ (ys : List X). ManyRead none plus Fits IsAt state 0 q t ys s) none-is
    (record { to = q; adds = none; stand = (refl, refl); is = sym s-is ∙ ap (λ u. state q u) (sym (laws.right_none t)); fits = subst Fits (sym (laws.right_none t)) fit; count = refl })
follow_read {X = X} {S = S} none plus Fits IsAt state row laws one (suc n) i q t xs s fit e =
    let a = bind_ok (row i (state q t)) (λ first. rows n (i + 1) row first.1 >>= λ others. Value (first.0 ∷ others.0, others.1)) (xs, s) e in
    let b = bind_ok (rows n (i + 1) row a.0.1) (λ others. Value (a.0.0 ∷ others.0, others.1)) (xs, s) a.2 in
    let here = one i q t a.0.0 a.0.1 fit a.1 in
    let after : run (rows n (i + 1) row (state here.to (plus t here.adds))) ≡ Ok b.0 = subst (λ (u : S). run (rows n (i + 1) row u) ≡ Ok b.0) here.is b.1 in
    let rest = follow_read none plus Fits IsAt state row laws one n (i + 1) here.to (plus t here.adds) b.0.0 b.0.1 here.fits after in
    let same : (a.0.0 ∷ b.0.0, b.0.1) ≡ (xs, s) = value_is (a.0.0 ∷ b.0.0, b.0.1) (xs, s) b.2 in
    let xs-is : a.0.0 ∷ b.0.0 ≡ xs = ap (λ (p : List X × S). p.0) same in
    let s-is : b.0.1 ≡ s = ap (λ (p : List X × S). p.1) same in
    let grouped = laws.regroup t here.adds rest.adds in
    subst (λ (ys : List X). ManyRead none plus Fits IsAt state (suc n) q t ys s) xs-is
    (record {
      to = rest.to;
      adds = plus here.adds rest.adds;
      stand = (here.to, here.adds, rest.adds, here.stands, rest.stand, refl);
      is = sym s-is ∙ rest.is ∙ ap (λ u. state rest.to u) grouped;
      fits = subst Fits grouped rest.fits;
      count = ap (λ (k : ℕ). suc k) rest.count;
    })

pub follow_again : {F Q X T S : Type 0} (none : T) (plus : T → T → T) (Fits : T → Type 0) (IsAt : Q → X → T → Q → Type 0) (state : Q → T → S) (row : ℕ → S → Script F (X × S))
    → Adds none plus Fits
    → ((i : ℕ) (q : Q) (t : T) (x : X) (adds : T) (to : Q) → IsAt q x adds to → Fits (plus t adds) → run (row i (state q t)) ≡ Ok (x, state to (plus t adds)))
    → (i : ℕ) (q : Q) (t : T) (xs : List X) (adds : T) (to : Q) → Follow none plus IsAt q xs adds to → Fits (plus t adds) → run (rows (length xs) i row (state q t)) ≡ Ok (xs, state to (plus t adds))
unfolding rows
follow_again {X = X} {S = S} none plus Fits IsAt state row laws one i q t [] adds to stand fit =
    let end : state q t ≡ state to (plus t adds) = ap (λ u. state u t) stand.0 ∙ ap (λ u. state to u) (sym (laws.right_none t) ∙ ap (λ u. plus t u) (sym stand.1)) in
    ap (λ (u : S). Ok ([], u)) end
follow_again {X = X} {S = S} none plus Fits IsAt state row laws one i q t (x ∷ xs) adds to stand fit =
    let grouped : plus (plus t stand.1) stand.2 ≡ plus t adds = laws.regroup t stand.1 stand.2 ∙ ap (λ u. plus t u) (sym stand.5) in
    let all : Fits (plus (plus t stand.1) stand.2) = subst Fits (sym grouped) fit in
    let here = one i q t x stand.1 stand.0 stand.3 (laws.smaller (plus t stand.1) stand.2 all) in
    let rest = follow_again none plus Fits IsAt state row laws one (i + 1) stand.0 (plus t stand.1) xs stand.2 to stand.4 all in
    rw (run_bind, here, run_bind, rest) (ap (λ u. Ok (x ∷ xs, state to u)) grouped)

-- The same of rows that do not ask for their numbers.
pub repeat_read : {F Q X T S : Type 0} (none : T) (plus : T → T → T) (Fits : T → Type 0) (IsAt : Q → X → T → Q → Type 0) (state : Q → T → S) (row : S → Script F (X × S))
    → Adds none plus Fits
    → ((q : Q) (t : T) (x : X) (s : S) → Fits t → run (row (state q t)) ≡ Ok (x, s) → OneRead plus Fits IsAt state q t x s)
    → (n : ℕ) (q : Q) (t : T) (xs : List X) (s : S) → Fits t → run (repeat n row (state q t)) ≡ Ok (xs, s) → ManyRead none plus Fits IsAt state n q t xs s
repeat_read none plus Fits IsAt state row laws one n q t xs s fit e =
    follow_read none plus Fits IsAt state (λ _. row) laws (λ _. one) n 0 q t xs s fit (ap run (rows_is_repeat row n 0 (state q t)) ∙ e)

pub repeat_again : {F Q X T S : Type 0} (none : T) (plus : T → T → T) (Fits : T → Type 0) (IsAt : Q → X → T → Q → Type 0) (state : Q → T → S) (row : S → Script F (X × S))
    → Adds none plus Fits
    → ((q : Q) (t : T) (x : X) (adds : T) (to : Q) → IsAt q x adds to → Fits (plus t adds) → run (row (state q t)) ≡ Ok (x, state to (plus t adds)))
    → (q : Q) (t : T) (xs : List X) (adds : T) (to : Q) → Follow none plus IsAt q xs adds to → Fits (plus t adds) → run (repeat (length xs) row (state q t)) ≡ Ok (xs, state to (plus t adds))
repeat_again none plus Fits IsAt state row laws one q t xs adds to stand fit =
    ap run (sym (rows_is_repeat row (length xs) 0 (state q t))) ∙ follow_again none plus Fits IsAt state (λ _. row) laws (λ _. one) 0 q t xs adds to stand fit

-- What the tries list is what they list line by line.
use Rattle.std.proofs.Common.{◌≡◌, ℕ, zero, suc, ◌+◌, ◌-◌, ◌*◌, ◌<◌, ◌≤◌, Bool, true, false, cond, List, [], ◌∷◌, length, get_or, nat_lt, refl, ap, ◌∙◌, arith}
use Rattle.std.specs.Prelude.{◌==◌, if◌then◌else◌, count_by}
use Rattle.std.specs.List.{sum_by}
use Rattle.std.specs.List.Sorted.{IsNonDecreasingBy}
use Rattle.std.proofs.lemmas.Bool.Decides.{nat_tests}
use Rattle.std.proofs.lemmas.List.{length-append}
use Rattle.std.proofs.lemmas.List.Sorted.{IsNonDecreasingBy-from_default}
use Rattle.std.proofs.lemmas.List.Sums.{sum_by-cons}
use Rattle.dex_tables.specs.declared.dex.RawTry.{RawTry}
use Rattle.dex_code.specs.Find.{Ascend}
use Rattle.dex_code.specs.Handled.{catches_listed, handled_by, handled_by_all}
use Rattle.dex_code.specs.Lines.{Line}
use Rattle.dex_code.specs.Next.{addresses, catches_of, covered, covering, covers, in_order, insert_once}
use Rattle.dex_code.proofs.Halving.{no_line, pc_at, rise}

pub pcs_rise : (lines : List Line) → Ascend lines → IsNonDecreasingBy (λ (line : Line). line.0) lines
pcs_rise lines up = IsNonDecreasingBy-from_default (λ (line : Line). line.0) lines no_line (λ i j le within. grind (arith, rise lines i j up, λ (same : i ≡ j). ap (pc_at lines) same))

module _ {X : Type 0} (p : X → Bool) where
  count_cons : (x : X) (xs : List X) → count_by p (x ∷ xs) ≡ cond (p x) 1 0 + count_by p xs
  count_cons x xs = sum_by-cons (λ y. cond (p y) 1 0) x xs

  -- where the test parts the list at a place, so many pass it
  pub count_at_point : (xs : List X) (i : ℕ) (d : X) → i ≤ length xs → ((k : ℕ) → k < i → p (get_or xs k d) ≡ true) → ((k : ℕ) → i ≤ k → k < length xs → p (get_or xs k d) ≡ false) → i ≡ count_by p xs
  count_at_point [] i d le below above = omega arith
  count_at_point (x ∷ xs) zero d le below above =
      let rest : 0 ≡ count_by p xs = count_at_point xs zero d (omega arith) (λ k lt. absurd (omega arith)) (λ k ge lt. above (suc k) (omega arith) (omega arith)) in
      let none : cond {A = ℕ} (p x) 1 0 ≡ 0 = ap (λ (b : Bool). cond b 1 0) (above 0 (omega arith) (omega arith)) in
      omega (arith, rest, none, count_cons x xs)
  count_at_point (x ∷ xs) (suc i) d le below above =
      let rest : i ≡ count_by p xs = count_at_point xs i d (omega arith) (λ k lt. below (suc k) (omega arith)) (λ k ge lt. above (suc k) (omega arith) (omega arith)) in
      let one : cond {A = ℕ} (p x) 1 0 ≡ 1 = ap (λ (b : Bool). cond b 1 0) (below 0 (omega arith)) in
      omega (arith, rest, one, count_cons x xs)

-- a line before the end of a try stands before its start or is covered
one_line : (t : RawTry) (pc : ℕ) → cond (nat_lt pc t.start) 1 0 + cond (covers t pc) 1 0 ≡ cond (nat_lt pc (t.start + t.count)) 1 0
one_line t pc = grind (arith, nat_tests)

abbrev pub lines_before : ℕ → List Line → ℕ
lines_before pc lines = count_by (λ (line : Line). nat_lt line.0 pc) lines

covered_lines : (t : RawTry) (lines : List Line) → lines_before t.start lines + count_by (λ (line : Line). covers t line.0) lines ≡ lines_before (t.start + t.count) lines
covered_lines t [] = refl
covered_lines t (line ∷ lines) =
    let a = count_cons (λ (l : Line). nat_lt l.0 t.start) line lines in
    let b = count_cons (λ (l : Line). covers t l.0) line lines in
    let c = count_cons (λ (l : Line). nat_lt l.0 (t.start + t.count)) line lines in
    omega (arith, a, b, c, one_line t line.0, covered_lines t lines)

-- as many stand before its start and its end
pub covered_between : (t : RawTry) (lines : List Line) (start count before after : ℕ) → start ≡ t.start → count ≡ t.count → before ≡ lines_before start lines → after ≡ lines_before (start + count) lines
    → (before ≤ after) × (after - before ≡ count_by (λ (line : Line). covers t line.0) lines)
covered_between t lines start count before after s c b a =
    let first : before ≡ lines_before t.start lines = b ∙ ap (λ n. lines_before n lines) s in
    let last : after ≡ lines_before (t.start + t.count) lines = a ∙ ap (λ n. lines_before n lines) (omega (arith, s, c)) in
    let all = covered_lines t lines in
    (omega (arith, first, last, all), omega (arith, first, last, all))

-- a line more: it lists what covers it
handled_line : (line : Line) (lines : List Line) (t : RawTry) → handled_by (line ∷ lines) t ≡ length (covered t line.0) + handled_by lines t
unfolding handled_by
handled_line line lines t = ap (λ n. n * length (addresses t)) (count_cons (λ (l : Line). covers t l.0) line lines) ∙ by_test (covers t line.0)
  where
    by_test : (b : Bool) → (cond b 1 0 + count_by (λ (l : Line). covers t l.0) lines) * length (addresses t) ≡ length (if b then addresses t else []) + count_by (λ (l : Line). covers t l.0) lines * length (addresses t)
    by_test true = omega arith
    by_test false = omega arith

handled_cons : (line : Line) (lines : List Line) (ts : List RawTry) → handled_by_all (line ∷ lines) ts ≡ length (covering ts line.0) + handled_by_all lines ts
unfolding handled_by_all covering
handled_cons line lines [] = refl
handled_cons line lines (t ∷ ts) =
    let a = sum_by-cons (handled_by (line ∷ lines)) t ts in
    let b = sum_by-cons (handled_by lines) t ts in
    let c = length-append (covered t line.0) (covering ts line.0) in
    omega (arith, a, b, c, handled_line line lines t, handled_cons line lines ts)

-- each once, numbers are no more than before
insert_once-length : (x : ℕ) (xs : List ℕ) → length (insert_once x xs) ≤ suc (length xs)
insert_once-length x [] = omega arith
insert_once-length x (y ∷ ys) = by_tests (nat_lt x y) (x == y) (insert_once-length x ys)
  where
    by_tests : (a b : Bool) → length (insert_once x ys) ≤ suc (length ys) → length (if a then x ∷ y ∷ ys else if b then y ∷ ys else y ∷ insert_once x ys) ≤ suc (suc (length ys))
    by_tests true b rest = omega arith
    by_tests false true rest = omega arith
    by_tests false false rest = omega (arith, rest)

in_order-length : (xs : List ℕ) → length (in_order xs) ≤ length xs
unfolding in_order
in_order-length [] = omega arith
in_order-length (x ∷ xs) = omega (arith, insert_once-length x (in_order xs), in_order-length xs)

-- so the lines list no more than is counted
pub catches_counted : (ts : List RawTry) (lines : List Line) → catches_listed ts lines ≤ handled_by_all lines ts
unfolding catches_listed catches_of
catches_counted ts [] = omega arith
catches_counted ts (line ∷ lines) =
    let a = sum_by-cons (λ (l : Line). length (in_order (covering ts l.0))) line lines in
    omega (arith, a, handled_cons line lines ts, in_order-length (covering ts line.0), catches_counted ts lines)

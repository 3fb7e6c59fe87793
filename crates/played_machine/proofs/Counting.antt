-- How many numbers below a bound pass a test.
use Rattle.std.proofs.Common.{◌≡◌, ◌==◌, ◌⊎◌, inl, inr, ℕ, zero, suc, ◌+◌, ◌<◌, ◌≤◌, Bool, true, false, cond, refl, sym, ap, ◌∙◌, subst, arith}
use Rattle.std.proofs.lemmas.Bool.{eqb-true, eq-eqb}
use Rattle.played_machine.proofs.Ordered.{false_true}

-- a test for equality that fails
ne_eqb_false : (a b : ℕ) → (a == b) ≡ false → a ≡ b → ⊥
ne_eqb_false a b e same = false_true (sym e ∙ eq-eqb a b same)

abbrev pub one_if : Bool → ℕ
one_if b = cond b 1 0

-- how many of the first n numbers pass
abbrev pub counted : (ℕ → Bool) → ℕ → ℕ
counted t zero = 0
counted t (suc n) = one_if (t n) + counted t n

one_at_most : (b : Bool) → one_if b ≤ 1
one_at_most true = omega arith
one_at_most false = omega arith

pub counted_most : (t : ℕ → Bool) (n : ℕ) → counted t n ≤ n
counted_most t zero = omega arith
counted_most t (suc n) = omega (arith, one_at_most (t n), counted_most t n)

module _ (s t : ℕ → Bool) (wider : (p : ℕ) → s p ≡ true → t p ≡ true) where
  one_more : (p : ℕ) → one_if (s p) ≤ one_if (t p)
  one_more p = by_first (s p) refl
    where
      by_first : (b : Bool) → s p ≡ b → one_if b ≤ one_if (t p)
      by_first false e = omega arith
      by_first true e = subst (λ c. 1 ≤ one_if c) (sym (wider p e)) (omega arith)

  pub counted_more : (n : ℕ) → counted s n ≤ counted t n
  counted_more zero = omega arith
  counted_more (suc n) = omega (arith, one_more n, counted_more n)

  -- one number more passes
  pub counted_beyond : (n p : ℕ) → p < n → s p ≡ false → t p ≡ true → suc (counted s n) ≤ counted t n
  counted_beyond zero p below fails passes = absurd (omega (arith, below))
  counted_beyond (suc n) p below fails passes = by_here (p == n) refl (counted_beyond n p)
    where
      here : p ≡ n → suc (counted s (suc n)) ≤ counted t (suc n)
      here same =
          let none : one_if (s n) ≡ 0 = ap one_if (ap s (sym same) ∙ fails) in
          let one : one_if (t n) ≡ 1 = ap one_if (ap t (sym same) ∙ passes) in
          omega (arith, none, one, counted_more n)

      by_here : (b : Bool) → (p == n) ≡ b → (p < n → s p ≡ false → t p ≡ true → suc (counted s n) ≤ counted t n) → suc (counted s (suc n)) ≤ counted t (suc n)
      by_here true e later = here (eqb-true p n e)
      by_here false e later = omega (arith, one_more n, later (omega (arith, below, ne_eqb_false p n e)) fails passes)

-- a number that passes the second test and not the first, or there is none
pub record Newcomer (s t : ℕ → Bool) (n : ℕ) : Type 0 where
  pub number : ℕ
  pub below : number < n
  pub fails : s number ≡ false
  pub passes : t number ≡ true

pub newcomer : (s t : ℕ → Bool) (n : ℕ) → Newcomer s t n ⊎ ((p : ℕ) → p < n → t p ≡ true → s p ≡ true)
newcomer s t zero = inr (λ p below. absurd (omega (arith, below)))
newcomer s t (suc n) = by_later (newcomer s t n)
  where
    none_here : ((p : ℕ) → p < n → t p ≡ true → s p ≡ true) → (t n ≡ true → s n ≡ true) → (p : ℕ) → p < suc n → t p ≡ true → s p ≡ true
    none_here later here p below passes = by_here (p == n) refl
      where
        by_here : (b : Bool) → (p == n) ≡ b → s p ≡ true
        by_here true e = let same : p ≡ n = eqb-true p n e in ap s same ∙ here (ap t (sym same) ∙ passes)
        by_here false e = later p (omega (arith, below, ne_eqb_false p n e)) passes

    by_both : (b c : Bool) → s n ≡ b → t n ≡ c → ((p : ℕ) → p < n → t p ≡ true → s p ≡ true) → Newcomer s t (suc n) ⊎ ((p : ℕ) → p < suc n → t p ≡ true → s p ≡ true)
    by_both true c e d later = inr (none_here later (λ passes. e))
    by_both false false e d later = inr (none_here later (λ passes. absurd (false_true (sym d ∙ passes))))
    by_both false true e d later = inl (record { number = n; below = omega arith; fails = e; passes = d })

    by_later : Newcomer s t n ⊎ ((p : ℕ) → p < n → t p ≡ true → s p ≡ true) → Newcomer s t (suc n) ⊎ ((p : ℕ) → p < suc n → t p ≡ true → s p ≡ true)
    by_later (inl one) = inl (record { number = one.number; below = omega (arith, one.below); fails = one.fails; passes = one.passes })
    by_later (inr none) = by_both (s n) (t n) refl refl none

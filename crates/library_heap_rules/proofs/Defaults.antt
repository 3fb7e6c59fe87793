-- The puts of a default, each by its first position.
use Rattle.std.proofs.Common.{◌≡◌, ◌==◌, ◌+◌, ◌<◌, ◌||◌, ℕ, zero, suc, Bool, true, false, cond, List, [], ◌∷◌, ◌++◌, map, length, refl, sym, ap, ◌∙◌, arith, append-nil, eqb-true, ne_eqb}
use Rattle.app_machine.specs.declared.call.MethodRef.{MethodRef}
use Rattle.app_machine.specs.declared.lists.FallbackWord.{FallbackWord}
use Rattle.app_machine.specs.declared.lists.FallbackWord.TheVariants.{Blank, Joined, Mixed}
use Rattle.app_machine.specs.Summaries.{default_puts, default_summary, numbers_from}
use Rattle.app_parts.specs.Views.{puts_from}
use Rattle.rule_ground.specs.declared.conclusion.Conclusion.{Conclusion}
use Rattle.library_heap_rules.specs.HeapGiven.{pairs_from}

abbrev to_receiver : ℕ → ℕ × ℕ
to_receiver k = (k, 0)

module _ (i : ℕ) (f : ℕ → List Conclusion) where
  -- no pair begins with the position
  none_from : (pairs : List (ℕ × ℕ)) → puts_from pairs i ≡ false → pairs_from i f pairs ≡ []
  none_from [] e = refl
  none_from (pair ∷ pairs) e = by_test (pair.0 == i) (none_from pairs) e
    where
      by_test : (b : Bool) → (puts_from pairs i ≡ false → pairs_from i f pairs ≡ []) → b || puts_from pairs i ≡ false → cond b (f pair.1) [] ++ pairs_from i f pairs ≡ []
      by_test true rest k = absurd cc
      by_test false rest k = rest k

  later : (a n : ℕ) → i < a → pairs_from i f (map to_receiver (numbers_from a n)) ≡ []
  later a zero past = refl
  later a (suc n) past =
      let differs : a == i ≡ false = ne_eqb a i (λ same. omega arith) in
      ap (λ b. cond b (f 0) [] ++ pairs_from i f (map to_receiver (numbers_from (a + 1) n))) differs ∙ later (a + 1) n (omega arith)

  one_from : (a n : ℕ) → puts_from (map to_receiver (numbers_from a n)) i ≡ true → pairs_from i f (map to_receiver (numbers_from a n)) ≡ f 0
  one_from a zero e = absurd cc
  one_from a (suc n) e = by_test (a == i) refl (one_from (a + 1) n) e
    where
      by_test : (b : Bool) → a == i ≡ b →
          (puts_from (map to_receiver (numbers_from (a + 1) n)) i ≡ true → pairs_from i f (map to_receiver (numbers_from (a + 1) n)) ≡ f 0) → b || puts_from (map to_receiver (numbers_from (a + 1) n)) i ≡ true →
          cond b (f 0) [] ++ pairs_from i f (map to_receiver (numbers_from (a + 1) n)) ≡ f 0
      by_test true t rest k = let same : a ≡ i = eqb-true a i t in ap (λ xs. f 0 ++ xs) (later (a + 1) n (omega arith)) ∙ append-nil (f 0)
      by_test false t rest k = rest k

  of_default : (word : FallbackWord) (at : MethodRef) (is_static : Bool) → puts_from (default_puts word is_static at.proto) i ≡ true →
      pairs_from i f (default_puts word is_static at.proto) ≡ f 0
  of_default Blank at is_static e = absurd cc
  of_default Joined at is_static e = absurd cc
  of_default Mixed at true e = absurd cc
  of_default Mixed at false e = one_from 1 (length at.proto.params) e

pub default_put : (word : FallbackWord) (at : MethodRef) (is_static : Bool) (i : ℕ) (f : ℕ → List Conclusion) (b : Bool) →
    b ≡ puts_from (default_summary word at is_static).puts i → b ≡ true → f 0 ≡ pairs_from i f (default_summary word at is_static).puts
default_put word at is_static i f b told e = sym (of_default i f word at is_static (sym told ∙ e))

pub no_put : (word : FallbackWord) (at : MethodRef) (is_static : Bool) (i : ℕ) (f : ℕ → List Conclusion) (b : Bool) →
    b ≡ puts_from (default_summary word at is_static).puts i → b ≡ false → [] ≡ pairs_from i f (default_summary word at is_static).puts
no_put word at is_static i f b told e = sym (none_from i f (default_summary word at is_static).puts (sym told ∙ e))

-- What is got from a value.
use Rattle.std.proofs.Common.{◌≡◌, ◌≢◌, ◌==◌, ◌<◌, ◌+◌, ◌-◌, ℕ, zero, suc, Bool, true, false, cond, List, [], ◌∷◌, ◌++◌, map, length, Option, Some, None, slice_get, refl, sym, ap, ◌∙◌, arith, eqb-true, eq-eqb}
use Rattle.vet_base.specs.declared.key_id.KeyId.{KeyId}
use Rattle.app_machine.specs.Heap.{Value, Object, blank}
use Rattle.app_machine.specs.Lookups.{elem_key}
use Rattle.app_machine.specs.State.{value_or_blank}
use Rattle.played_machine.specs.Drawing.{Drawing, give, draw, given, continue, one_of}
use Rattle.played_machine.specs.Local.{first_or_blank, got_at, got}
use Rattle.played_machine.specs.Reading.{values_at}
use Rattle.played_machine.proofs.Reached.{same_key}
use Rattle.runner_heap.specs.Shown.{field_key}
use Rattle.runner_state.specs.declared.value.Held.{Held}
use Rattle.runner_state.specs.Shown.{value_of}

module _ (heap : List Object) (v : Value) (k : KeyId) (bytes : List ℕ) where
  by_place : (o : Option ℕ) → v.place ≡ o → got_at heap o k bytes ≡ got heap v k bytes
  unfolding got
  by_place o is = ap (λ z. got_at heap z k bytes) (sym is)

  pub got_none : (b : Value) → v.place ≡ None → b ≡ blank → Some (b, bytes) ≡ got heap v k bytes
  got_none b is same = ap (λ z. Some (z, bytes)) same ∙ by_place None is

  abbrev by_key : ℕ → Bool → Drawing Value
  by_key p b = cond b (one_of (values_at heap p k ++ blank ∷ [])) (give (first_or_blank (values_at heap p k)))

  key_test : (p : ℕ) (b : Bool) → (k.0 == 0) ≡ b → cond b (one_of (values_at heap p k ++ blank ∷ []) bytes) (Some (first_or_blank (values_at heap p k), bytes)) ≡ got_at heap (Some p) k bytes
  key_test p true is = ap (λ b. by_key p b bytes) (sym is)
  key_test p false is = ap (λ b. by_key p b bytes) (sym is)

  pub got_element : (p : ℕ) (o : Option (Value × List ℕ)) → v.place ≡ Some p → k.0 ≡ 0 → o ≡ one_of (values_at heap p elem_key ++ blank ∷ []) bytes → o ≡ got heap v k bytes
  got_element p o is key drawn =
      drawn
      ∙ (ap (λ j. one_of (values_at heap p j ++ blank ∷ []) bytes) (sym (same_key k elem_key key))
      ∙ (key_test p true (eq-eqb k.0 0 key) ∙ by_place (Some p) is))

  pub got_field : (p : ℕ) (w : Value) → v.place ≡ Some p → k.0 ≢ 0 → w ≡ first_or_blank (values_at heap p (field_key (k.0 - 1))) → Some (w, bytes) ≡ got heap v k bytes
  got_field p w is other value =
      let same : k.0 - 1 + 1 ≡ k.0 = omega (arith, other) in
      ap (λ z. Some (z, bytes)) (value ∙ ap (λ j. first_or_blank (values_at heap p j)) (same_key (field_key (k.0 - 1)) k same))
      ∙ (key_test p false (apart (k.0 == 0) refl) ∙ by_place (Some p) is)
    where
      apart : (b : Bool) → (k.0 == 0) ≡ b → (k.0 == 0) ≡ false
      apart true e = absurd (other (eqb-true k.0 0 e))
      apart false e = e

-- one of a list
module _ {A : Type 0} (xs : List A) (n : ℕ) (bytes : List ℕ) (long : n ≡ length xs) where
  pub one_none : None ≡ draw n bytes → None ≡ one_of xs bytes
  unfolding one_of
  one_none drawn = ap (continue (λ i. given (slice_get xs i))) (drawn ∙ ap (λ m. draw m bytes) long)

  pub one_some : (i : ℕ) (rest : List ℕ) (x : A) → Some (i, rest) ≡ draw n bytes → slice_get xs i ≡ Some x → Some (x, rest) ≡ one_of xs bytes
  unfolding one_of
  one_some i rest x drawn at = sym (ap (λ o. given o rest) at) ∙ ap (continue (λ i. given (slice_get xs i))) (drawn ∙ ap (λ m. draw m bytes) long)

pub one_longer : (xs : List Value) → length xs + 1 ≡ length (xs ++ blank ∷ [])
one_longer [] = refl
one_longer (x ∷ xs) = let later : length xs + 1 ≡ length (xs ++ blank ∷ []) = one_longer xs in omega (arith, later)

pub value_here : (xs : List Value) (i : ℕ) → i < length xs + 1 → slice_get (xs ++ blank ∷ []) i ≡ Some (value_or_blank xs i)
value_here [] zero below = refl
value_here [] (suc i) below = absurd (omega (arith, below))
value_here (x ∷ xs) zero below = refl
value_here (x ∷ xs) (suc i) below = value_here xs i (omega (arith, below))

as_many : (xs : List Held) → length (map value_of xs) ≡ length xs
as_many [] = refl
as_many (x ∷ xs) = ap suc (as_many xs)

pub longer_map : (xs : List Held) → length xs + 1 ≡ length (map value_of xs ++ blank ∷ [])
longer_map xs = ap (λ n. n + 1) (sym (as_many xs)) ∙ one_longer (map value_of xs)

pub below_map : (xs : List Held) (i : ℕ) → i < length xs + 1 → i < length (map value_of xs) + 1
below_map xs i below = let many : length (map value_of xs) ≡ length xs = as_many xs in omega (arith, below, many)

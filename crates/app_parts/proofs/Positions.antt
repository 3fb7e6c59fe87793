-- The first registers of positions, from one to the next.
use Rattle.std.proofs.Common.{◌≡◌, ℕ, zero, suc, ◌+◌, ◌-◌, ◌<◌, ◌≤◌, Bool, true, false, List, [], ◌∷◌, length, get_or, drop, drop-cons, Option, Some, None, slice_get, refl, sym, ap, ◌∙◌, arith, add-one, if◌then◌else◌}
use Rattle.std.specs.Prelude.{IsSome}
use Rattle.std.proofs.lemmas.List.{drop_all}
use Rattle.std.proofs.lemmas.Option.{slice_get_within}
use Rattle.app_machine.specs.Library.{first_registers}
use Rattle.app_machine.specs.Names.{Name, is_wide}

-- what is left to look for behind the first types
pub record Passes (types : List Name) (registers : List ℕ) (position at : ℕ) (left : List ℕ) (before : ℕ) : Type 0 where
  pub rest : slice_get (first_registers (drop at types) left) before ≡ slice_get (first_registers types registers) position

module _ (types : List Name) (registers : List ℕ) (position : ℕ) where
  pub passes_none : Passes types registers position 0 registers position
  passes_none = record { rest = refl }

  module _ (at : ℕ) (left : List ℕ) (before : ℕ) (passes : Passes types registers position at left before) where
    pub no_more_types : length types ≤ at → slice_get (first_registers types registers) position ≡ None
    no_more_types past = sym passes.rest ∙ ap (λ ts. slice_get (first_registers ts left) before) (drop_all at types past)

    module _ (type : Name) (below : at < length types) (is : type ≡ get_or types at type) where
      front : drop at types ≡ type ∷ drop (at + 1) types
      front = drop-cons types at type below ∙ (ap (λ t. t ∷ drop (suc at) types) (sym is) ∙ ap (λ k. type ∷ drop k types) (sym (add-one at)))

      pub no_more_registers : left ≡ [] → slice_get (first_registers types registers) position ≡ None
      no_more_registers none = sym passes.rest ∙ (ap (λ ts. slice_get (first_registers ts left) before) front ∙ ap (λ xs. slice_get (first_registers (type ∷ drop (at + 1) types) xs) before) none)

      pub here : (x : ℕ) (xs : List ℕ) → left ≡ x ∷ xs → before ≡ 0 → slice_get (first_registers types registers) position ≡ Some x
      here x xs some first =
          sym passes.rest ∙ (ap (λ ts. slice_get (first_registers ts left) before) front
          ∙ (ap (λ ys. slice_get (first_registers (type ∷ drop (at + 1) types) ys) before) some ∙ ap (λ k. slice_get (first_registers (type ∷ drop (at + 1) types) (x ∷ xs)) k) first))

      pub further : (x : ℕ) (xs more : List ℕ) → left ≡ x ∷ xs → (before ≡ 0 → ⊥) → more ≡ (if is_wide type then drop 1 xs else xs) → Passes types registers position (at + 1) more (before - 1)
      further x xs more some later is_more = record {
        rest =
            ap (λ ys. slice_get (first_registers (drop (at + 1) types) ys) (before - 1)) is_more
            ∙ (sym (one_on before later)
            ∙ (sym (ap (λ ys. slice_get (first_registers (type ∷ drop (at + 1) types) ys) before) some)
            ∙ (sym (ap (λ ts. slice_get (first_registers ts left) before) front) ∙ passes.rest)));
      }
        where
          one_on : (k : ℕ) → (k ≡ 0 → ⊥) → slice_get (first_registers (type ∷ drop (at + 1) types) (x ∷ xs)) k ≡ slice_get (first_registers (drop (at + 1) types) (if is_wide type then drop 1 xs else xs)) (k - 1)
          one_on zero later = absurd (later refl)
          one_on (suc k) later = let same : k ≡ suc k - 1 = omega arith in ap (slice_get (first_registers (drop (at + 1) types) (if is_wide type then drop 1 xs else xs))) same

dropped : (ys : List ℕ) → length (drop 1 ys) ≤ length ys
dropped [] = omega arith
dropped (y ∷ ys) = omega arith

narrowed : (b : Bool) (xs : List ℕ) → length (if b then drop 1 xs else xs) ≤ length xs
narrowed true xs = dropped xs
narrowed false xs = omega arith

-- no more positions than registers
fewer : (types : List Name) (xs : List ℕ) → length (first_registers types xs) ≤ length xs
fewer [] xs = omega arith
fewer (type ∷ types) [] = omega arith
fewer (type ∷ types) (x ∷ xs) =
    let rest : length (first_registers types (if is_wide type then drop 1 xs else xs)) ≤ length (if is_wide type then drop 1 xs else xs) = fewer types (if is_wide type then drop 1 xs else xs) in
    let less : length (if is_wide type then drop 1 xs else xs) ≤ length xs = narrowed (is_wide type) xs in
    omega arith

pub argument_within : (types : List Name) (xs : List ℕ) (position : ℕ) (o : Option ℕ) → o ≡ slice_get (first_registers types xs) position → IsSome o → position < length xs
argument_within types xs position None is some = absurd (cc)
argument_within types xs position (Some x) is some =
    let within : position < length (first_registers types xs) = slice_get_within (first_registers types xs) position x (sym is) in
    let few : length (first_registers types xs) ≤ length xs = fewer types xs in
    omega arith

-- The positions of a call, one after the other, are no more than its registers.
use Rattle.std.proofs.Common.{◌≡◌, ◌≤◌, ℕ, Bool, true, false, List, [], ◌∷◌, length, drop, if◌then◌else◌, refl, sym, ap, ◌∙◌, arith}
use Rattle.std.specs.List.{IsFirstAndRest}
use Rattle.app_machine.specs.Library.{first_registers}
use Rattle.app_machine.specs.Names.{Name, is_wide}

dropped : (ys : List ℕ) → length (drop 1 ys) ≤ length ys
dropped [] = omega arith
dropped (y ∷ ys) = omega arith

narrowed : (b : Bool) (xs : List ℕ) → length (if b then drop 1 xs else xs) ≤ length xs
narrowed true xs = dropped xs
narrowed false xs = omega arith

pub few_places : (types : List Name) (xs : List ℕ) → length (first_registers types xs) ≤ length xs
few_places [] xs = omega arith
few_places (type ∷ types) [] = omega arith
few_places (type ∷ types) (x ∷ xs) =
    let more : List ℕ = if is_wide type then drop 1 xs else xs in
    let rest : length (first_registers types more) ≤ length more = few_places types more in
    let less : length more ≤ length xs = narrowed (is_wide type) xs in
    omega arith

pub no_types : (types : List Name) (xs : List ℕ) → length types ≡ 0 → first_registers types xs ≡ []
no_types [] xs e = refl
no_types (type ∷ types) xs e = absurd (omega arith)

pub no_registers : (types : List Name) (xs : List ℕ) → length xs ≡ 0 → first_registers types xs ≡ []
no_registers [] xs e = refl
no_registers (type ∷ types) [] e = refl
no_registers (type ∷ types) (x ∷ xs) e = absurd (omega arith)

pub one_more : (types rest : List Name) (type : Name) (xs more behind : List ℕ) (x : ℕ) → IsFirstAndRest types type rest →
    IsFirstAndRest xs x more → behind ≡ (if is_wide type then drop 1 more else more) →
    first_registers types xs ≡ x ∷ first_registers rest behind
one_more types rest type xs more behind x t r e =
    ap (λ z. first_registers z xs) t.0 ∙ (ap (first_registers (type ∷ rest)) r.0 ∙ ap (λ z. x ∷ first_registers rest z) (sym e))

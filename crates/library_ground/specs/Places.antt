-- What is concluded of each position of a call.
use Rattle.std.proofs.Common.{◌≡◌, ◌+◌, ℕ, zero, suc, List, [], ◌∷◌, ◌++◌, Option, Some, None, slice_get, refl, sym, subst, arith}
use Rattle.std.specs.List.{AllByRecursion}
use Rattle.std.proofs.lemmas.Option.{none-some, same_Some}
use Rattle.vet_base.specs.Members.{In, IsAt}
use Rattle.vet_base.proofs.Members.{in_front, in_back}
use Rattle.vet_base.proofs.Every.{each_append}
use Rattle.app_machine.specs.Library.{first_registers}
use Rattle.rule_ground.specs.declared.conclusion.Conclusion.{Conclusion}
use Rattle.library_ground.specs.declared.places.Places.{Places}

abbrev pub at_places : (ℕ → ℕ → List Conclusion) → ℕ → List ℕ → List Conclusion
at_places f i [] = []
at_places f i (x ∷ xs) = f i x ++ at_places f (suc i) xs

-- the first registers of the positions that are left
abbrev pub perhaps_first : Option ℕ → List ℕ → List ℕ
perhaps_first None xs = xs
perhaps_first (Some x) xs = x ∷ xs

abbrev pub places_left : Places → List ℕ
places_left p = perhaps_first p.receiver (first_registers p.types.now p.registers.now)

each_from : (P : Conclusion → Type 0) (f : ℕ → ℕ → List Conclusion) (k : ℕ) (xs : List ℕ) →
    ((i x : ℕ) → slice_get xs i ≡ Some x → AllByRecursion P (f (k + i) x)) → AllByRecursion P (at_places f k xs)
each_from P f k [] h = tt
each_from P f k (x ∷ xs) h =
    let here : k + 0 ≡ k = omega arith in
    each_append P (f k x) (at_places f (suc k) xs) (subst (λ z. AllByRecursion P (f z x)) here (h 0 x refl))
    (each_from P f (suc k) xs (λ i y e. let later : k + suc i ≡ suc k + i = omega arith in subst (λ z. AllByRecursion P (f z y)) later (h (suc i) y e)))

pub each_place : (P : Conclusion → Type 0) (f : ℕ → ℕ → List Conclusion) (xs : List ℕ) →
    ((i x : ℕ) → IsAt xs i x → AllByRecursion P (f i x)) → AllByRecursion P (at_places f 0 xs)
each_place P f xs h =
    each_from P f 0 xs (λ i x e. let here : i ≡ 0 + i = omega arith in subst (λ z. AllByRecursion P (f z x)) here (h i x (record { there = e })))

in_from : (c : Conclusion) (f : ℕ → ℕ → List Conclusion) (k i : ℕ) (xs : List ℕ) (x : ℕ) → slice_get xs i ≡ Some x → In c (f (k + i) x) →
    In c (at_places f k xs)
in_from c f k i [] x e h = absurd (none-some x e)
in_from c f k zero (y ∷ xs) x e h =
    let here : k + 0 ≡ k = omega arith in
    in_front c (f k y) (at_places f (suc k) xs) (subst (λ z. In c (f k z)) (sym (same_Some y x e)) (subst (λ z. In c (f z x)) here h))
in_from c f k (suc i) (y ∷ xs) x e h =
    let later : k + suc i ≡ suc k + i = omega arith in
    in_back c (f k y) (at_places f (suc k) xs) (in_from c f (suc k) i xs x e (subst (λ z. In c (f z x)) later h))

pub in_place : (c : Conclusion) (f : ℕ → ℕ → List Conclusion) (xs : List ℕ) (i x : ℕ) → IsAt xs i x → In c (f i x) → In c (at_places f 0 xs)
in_place c f xs i x h k = let here : i ≡ 0 + i = omega arith in in_from c f 0 i xs x h.there (subst (λ z. In c (f z x)) here k)

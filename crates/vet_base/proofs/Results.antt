-- A result has one answer.
use Rattle.std.proofs.Common.{◌≡◌, Result, Ok, Err, ap}

pub ok_or_err : {A F : Type 0} (r : Result A F) (x : A) (e : F) → r ≡ Ok x → r ≡ Err e → ⊥
ok_or_err r x e ok err = cc

pub one_ok : {A F : Type 0} (r : Result A F) (x y : A) → r ≡ Ok x → r ≡ Ok y → x ≡ y
one_ok r x y first second = cc

pub one_err : {A F : Type 0} (r : Result A F) (x y : F) → r ≡ Err x → r ≡ Err y → x ≡ y
one_err r x y first second = cc

pub ok_parts : {F X S : Type 0} (x y : X) (s t : S) (r : Result (X × S) F) → r ≡ Ok (x, s) → r ≡ Ok (y, t) → (x ≡ y) × (s ≡ t)
ok_parts {X = X} {S = S} x y s t r d e =
    let same : (x, s) ≡ (y, t) = cc in
    (ap (λ (p : X × S). p.0) same, ap (λ (p : X × S). p.1) same)

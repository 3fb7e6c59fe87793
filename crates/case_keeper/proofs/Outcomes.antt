-- What is said of one outcome of a call.
use Rattle.std.proofs.Common.{◌≡◌, Result, Ok, Err, OnOk, OnErr, subst}

pub ok_then : {T E : Type 0} (r : Result T E) (x : T) (P : Type 0) → r ≡ Ok x → OnOk r P → P
ok_then r x P is holds = subst (λ o. OnOk o P) is holds

pub err_then : {T E : Type 0} (r : Result T E) (P : Type 0) → P → OnErr r P
err_then (Ok x) P holds = tt
err_then (Err e) P holds = holds

-- The readers of a static are just the steps whose act reads it.
use Rattle.std.proofs.Common.{◌≡◌, ℕ, zero, suc, ◌+◌, true, List, [], ◌∷◌, Some, slice_get, refl, sym, subst, inl, inr, add-zero, zero-add, arith}
use Rattle.std.specs.List.{enumerate_from}
use Rattle.std.proofs.lemmas.Option.{none-some, same_Some}
use Rattle.app_machine.specs.declared.method.Method.{Method}
use Rattle.app_machine.specs.declared.method.Step.{Step}
use Rattle.app_machine.specs.declared.app.App.{App}
use Rattle.vet_base.specs.Members.{In}
use Rattle.vet_base.proofs.Members.{in_flat}
use Rattle.vet_base.proofs.Every.{in_where}
use Rattle.app_index.specs.Readers.{is_read, reader, reader_at, readers_at, readers_of}

-- an element stands beside its number
in_numbered : {X : Type 0} (n i : ℕ) (xs : List X) (x : X) → slice_get xs i ≡ Some x → In (n + i, x) (enumerate_from n xs)
in_numbered n i [] x there = absurd (none-some x there)
in_numbered n zero (y ∷ ys) x there = inl (let number : n + 0 ≡ n = add-zero n in let same : y ≡ x = same_Some y x there in λ k. (number k, sym same k))
in_numbered n (suc i) (y ∷ ys) x there = inr (let number : n + 1 + i ≡ n + suc i = omega arith in subst (λ m. In (m, x) (enumerate_from (n + 1) ys)) number (in_numbered (n + 1) i ys x there))

-- a step of a method that reads the static is among its readers
pub is_reader : (app : App) (g method : ℕ) (body : Method) (step : Step) → slice_get app.methods method ≡ Some body → In step body.steps → is_read step.act g ≡ true →
    In (reader method step) (readers_of app g)
is_reader app g method body step there among reads =
    let numbered : In (method, body) (enumerate_from 0 app.methods) = subst (λ m. In (m, body) (enumerate_from 0 app.methods)) (zero-add method) (in_numbered 0 method app.methods body there) in
    in_flat (readers_at g) (enumerate_from 0 app.methods) (method, body) (reader method step) numbered
    (in_flat (reader_at g method) body.steps step (reader method step) among (in_where (reader method step) (is_read step.act g) (reader method step ∷ []) reads (inl refl)))

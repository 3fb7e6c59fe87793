-- Which steps read a static.
use Rattle.std.specs.Prelude.{◌≡◌, ◌==◌, ◌++◌, ℕ, Bool, false, List, [], ◌∷◌, Some, None, cond, flat_map, slice_get}
use Rattle.std.specs.List.{enumerate_from}
use Rattle.std.specs.declared.vec.Vec.{Vec}
use Rattle.app_machine.specs.declared.method.Act.{Act}
use Rattle.app_machine.specs.declared.method.Act.TheVariants as act
use Rattle.app_machine.specs.declared.method.Method.{Method}
use Rattle.app_machine.specs.declared.method.Step.{Step}
use Rattle.app_machine.specs.declared.app.App.{App}
use Rattle.app_index.specs.declared.static_readers.Reader.{Reader}

-- whether the act reads the static
abbrev pub is_read : Act → ℕ → Bool
is_read (act.GetStatic ds f) g = f == g
is_read _ g = false

-- the step of a method, as a reader; where it reads the static; all such steps of a method, and of each method with its number
abbrev pub reader : ℕ → Step → Reader
reader method step = record { method = method; pc = step.pc }

abbrev pub reader_at : ℕ → ℕ → Step → List Reader
reader_at g method step = cond (is_read step.act g) (reader method step ∷ []) []

abbrev pub readers_in : ℕ → ℕ → List Step → List Reader
readers_in g method steps = flat_map (reader_at g method) steps

abbrev pub readers_at : ℕ → ℕ × Method → List Reader
readers_at g numbered = readers_in g numbered.0 numbered.1.steps

-- the steps of the app that read the static, by method and then by address
abbrev pub readers_of : App → ℕ → List Reader
readers_of app g = flat_map (readers_at g) (enumerate_from 0 app.methods)

-- what stands at the number, where something does
abbrev pub held : {A : Type 0} → List (Vec Reader A) → ℕ → List Reader
held readers g = elim (slice_get readers g) [ Some own ↦ own.items | None ↦ [] ]

-- at the number of each static stand its readers
pub record HasReaders {A : Type 0} (readers : List (Vec Reader A)) (app : App) : Type 0 where
  pub at : (g : ℕ) → held readers g ≡ readers_of app g

-- at each number stand these behind the old ones
pub record IsLonger {A : Type 0} (old new : List (Vec Reader A)) (added : ℕ → List Reader) : Type 0 where
  pub at : (g : ℕ) → held new g ≡ held old g ++ added g

-- at each number stands what stood there
pub record HoldsAlike {A : Type 0} (old new : List (Vec Reader A)) : Type 0 where
  pub at : (g : ℕ) → held new g ≡ held old g

-- Files in memory: what they hold, and at which calls they fail.
use Rattle.std.specs.Prelude.{◌≡◌, ℕ, ◌+◌, ◌==◌, min, Bool, true, false, List, [], ◌∷◌, Option, Some, None, Result, Ok, Err, Vec, if◌then◌else◌, nat_eq}
use Rattle.std.specs.List.{list_any}
use Rattle.std.specs.Cmp.Lexicographic.{pointwise}
use Rattle.std.specs.declared.alloc.Global.{Global}
use Rattle.vet_base.specs.declared.outside.FailedCall.{FailedCall}
use Rattle.vet_base.specs.declared.outside.FileFault.{FileFault}
use Rattle.vet_base.specs.declared.outside.FileFault.TheVariants.{Failed}
use Rattle.vet_base.specs.Outside.{Told}

-- the files, the numbers of the calls that fail, how many calls came, how many failed, and the last that did
pub record Store : Type 0 where
  pub files : List (List ℕ × Vec ℕ Global)
  pub failing : List ℕ
  pub calls : ℕ
  pub faults : ℕ
  pub failed : Option FailedCall

abbrev pub has_name : List ℕ → List ℕ × Vec ℕ Global → Bool
has_name name file = pointwise nat_eq file.0 name

-- the bytes of the file of this name
abbrev pub file_in : List (List ℕ × Vec ℕ Global) → List ℕ → Option (List ℕ)
file_in [] name = None
file_in (file ∷ files) name = if has_name name file then Some file.1.items else file_in files name

abbrev pub told_by : Store → Told
told_by store = record { files = file_in store.files; failed = store.failed }

-- whether the number of the next call is among those that fail; at 2^64 - 1 the numbering stops
abbrev pub fails_next : Store → Bool
fails_next store = list_any (λ n. n == min (store.calls + 1) 18446744073709551615) store.failing

-- A call fails only where its number is listed, and is Ok only where it is not.
abbrev pub FailsAsNumbered : {X : Type 0} → Bool → Result X FileFault → Type 0
FailsAsNumbered listed (Ok x) = listed ≡ false
FailsAsNumbered listed (Err Failed) = listed ≡ true
FailsAsNumbered listed (Err fault) = Unit {0}

-- the next call has the next number, and the listed numbers stay
pub record CountsCall (old new : Store) : Type 0 where
  pub calls : new.calls ≡ min (old.calls + 1) 18446744073709551615
  pub failing : new.failing ≡ old.failing

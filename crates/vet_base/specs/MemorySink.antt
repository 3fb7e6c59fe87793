-- A sink in memory: what it took, and at which calls it fails.
use Rattle.std.specs.Prelude.{◌≡◌, ℕ, ◌+◌, ◌==◌, min, Bool, true, false, List, Result, Ok, Err}
use Rattle.std.specs.List.{list_any}
use Rattle.vet_base.specs.declared.outside.PutFault.{PutFault}
use Rattle.vet_base.specs.declared.outside.PutFault.TheVariants.{Failed, Memory}

-- the bytes taken, the numbers of the calls that fail, how many calls came and how many failed
pub record Taker : Type 0 where
  pub taken : List ℕ
  pub failing : List ℕ
  pub calls : ℕ
  pub faults : ℕ

-- whether the number of the next call is among those that fail; at 2^64 - 1 the numbering stops
abbrev pub fails_next : Taker → Bool
fails_next taker = list_any (λ n. n == min (taker.calls + 1) 18446744073709551615) taker.failing

-- A call fails only where its number is listed, and is Ok only where it is not.
abbrev pub FailsAsNumbered : {X : Type 0} → Bool → Result X PutFault → Type 0
FailsAsNumbered listed (Ok x) = listed ≡ false
FailsAsNumbered listed (Err Failed) = listed ≡ true
FailsAsNumbered listed (Err Memory) = Unit {0}

-- the next call has the next number, and the listed numbers stay
pub record CountsCall (old new : Taker) : Type 0 where
  pub calls : new.calls ≡ min (old.calls + 1) 18446744073709551615
  pub failing : new.failing ≡ old.failing

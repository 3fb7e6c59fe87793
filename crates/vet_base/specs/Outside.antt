-- What files and a sink tell, what a call of them does, and when it fails.
use Rattle.std.specs.Prelude.{◌≡◌, ◌≢◌, ◌⊎◌, ℕ, ◌+◌, ◌≤◌, ◌<◌, min, List, ◌++◌, length, take, Option, Some, None, Result, Ok, Err, IsSomeAnd, Vec, IsTrue, is_some}
use Rattle.std.specs.Option.{option_map}
use Rattle.std.specs.declared.alloc.Global.{Global}
use Rattle.vet_base.specs.declared.outside.FileFault.{FileFault}
use Rattle.vet_base.specs.declared.outside.FileFault.TheVariants.{Absent, TooLong, Failed, Memory}
use Rattle.vet_base.specs.declared.outside.PutFault.{PutFault}
use Rattle.vet_base.specs.declared.outside.PutFault.TheVariants as puts
use Rattle.vet_base.specs.declared.outside.FailedCall.{FailedCall}
use Rattle.vet_base.specs.declared.outside.FailedCall.TheVariants.{Read, Write}

-- The count is greater than before, or stands at 2^64 - 1, where it stays: min (before + 1) (2^64 - 1) ≤ after.
abbrev pub HasRisen : ℕ → ℕ → Type 0
HasRisen before after = min (before + 1) 18446744073709551615 ≤ after

abbrev pub HasNotRisen : ℕ → ℕ → Type 0
HasNotRisen before after = after < min (before + 1) 18446744073709551615

-- `Failed` comes only where the count rose; any other answer leaves it as it was.
abbrev pub FileCause : {X : Type 0} → ℕ → ℕ → Result X FileFault → Type 0
FileCause before after (Ok x) = after ≡ before
FileCause before after (Err Absent) = after ≡ before
FileCause before after (Err TooLong) = after ≡ before
FileCause before after (Err Failed) = HasRisen before after
FileCause before after (Err Memory) = after ≡ before

abbrev pub PutCause : {X : Type 0} → ℕ → ℕ → Result X PutFault → Type 0
PutCause before after (Ok x) = after ≡ before
PutCause before after (Err puts.Failed) = HasRisen before after
PutCause before after (Err puts.Memory) = after ≡ before

-- the bytes of each file that is there, by name, and the call that failed last
pub record Told : Type 0 where
  pub files : List ℕ → Option (List ℕ)
  pub failed : Option FailedCall

-- the files, where they are told
unfoldable pub held_by : Option Told → List ℕ → Option (List ℕ)
held_by None name = None
held_by (Some told) name = told.files name

-- What a read answers for a file: absent where it is not there, too long above the limit, and otherwise its bytes or a failure.
abbrev pub FileAnswer : Option (List ℕ) → ℕ → Result (Vec ℕ Global) FileFault → Type 0
FileAnswer file limit (Ok v) = file ≡ Some v.items
FileAnswer file limit (Err Absent) = file ≡ None
FileAnswer file limit (Err TooLong) = IsSomeAnd file (λ bytes. limit < length bytes)
FileAnswer file limit (Err Failed) = IsSomeAnd file (λ bytes. length bytes ≤ limit)
FileAnswer file limit (Err Memory) = Unit {0}

abbrev pub AnswersRead : Option Told → List ℕ → ℕ → Result (Vec ℕ Global) FileFault → Type 0
AnswersRead told name limit r = IsTrue (is_some told) → FileAnswer (held_by told name) limit r

-- A read changes no file; where it failed, it is the call that failed last.
abbrev pub told_after_read : {X : Type 0} → Option Told → List ℕ → Result X FileFault → Option Told
told_after_read told name (Ok x) = told
told_after_read told name (Err Absent) = told
told_after_read told name (Err TooLong) = told
told_after_read told name (Err Failed) = option_map (λ t. record { files = t.files; failed = Some (Read name) }) told
told_after_read told name (Err Memory) = told

-- one file has these bytes, the others theirs
pub record Puts (old new : List ℕ → Option (List ℕ)) (name : List ℕ) (bytes : Option (List ℕ)) : Type 0 where
  pub changed : new name ≡ bytes
  pub others : (q : List ℕ) → q ≢ name → new q ≡ old q

-- a file after a write that failed: as before, or with a prefix of the bytes
abbrev pub IsPartOf : Option (List ℕ) → List ℕ → Option (List ℕ) → Type 0
IsPartOf old bytes new = (new ≡ old) ⊎ ((n : ℕ) × (new ≡ Some (take n bytes)))

abbrev pub WritesTold : Told → Told → List ℕ → List ℕ → Result (Unit {0}) FileFault → Type 0
WritesTold old new name bytes (Ok x) = Puts old.files new.files name (Some bytes) × (new.failed ≡ old.failed)
WritesTold old new name bytes (Err Absent) = ⊥
WritesTold old new name bytes (Err TooLong) = ⊥
WritesTold old new name bytes (Err Failed) = ((part : Option (List ℕ)) × Puts old.files new.files name part × IsPartOf (old.files name) bytes part) × (new.failed ≡ Some (Write name))
WritesTold old new name bytes (Err Memory) = new ≡ old

abbrev pub WritesFile : Option Told → Option Told → List ℕ → List ℕ → Result (Unit {0}) FileFault → Type 0
WritesFile None None name bytes r = r ≢ Err Absent × r ≢ Err TooLong
WritesFile None (Some new) name bytes r = ⊥
WritesFile (Some old) None name bytes r = ⊥
WritesFile (Some old) (Some new) name bytes r = WritesTold old new name bytes r

-- Ok appends all bytes, `Failed` a prefix of them.
abbrev pub PutsBytes : Option (List ℕ) → Option (List ℕ) → List ℕ → Result (Unit {0}) PutFault → Type 0
PutsBytes old new bytes (Ok x) = new ≡ option_map (λ taken. taken ++ bytes) old
PutsBytes old new bytes (Err puts.Failed) = (n : ℕ) × (new ≡ option_map (λ taken. taken ++ take n bytes) old)
PutsBytes old new bytes (Err puts.Memory) = new ≡ old

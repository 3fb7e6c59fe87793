-- The try items of a method: each covers units of it, and its handlers start instructions.
use Rattle.std.specs.Prelude.{ℕ, ◌+◌, Bool, true, List, [], ◌∷◌, nat_le, ◌&&◌, IsTrue, Option, Some, None}
use Rattle.std.specs.List.{list_all}
use Rattle.dex_tables.specs.declared.dex.RawTry.{RawTry}
use Rattle.dex_code.specs.declared.fault.CodeFault.{CodeFault}
use Rattle.dex_code.specs.declared.fault.CodeFault.TheVariants.{Tries}
use Rattle.dex_code.specs.Lines.{Line}
use Rattle.dex_code.specs.Flow.{starts}
use Rattle.vet_base.specs.Script.{Script, Value, ◌>>=◌, test}

unfoldable pub handlers_start : List Line → List (ℕ × ℕ) → Bool
handlers_start lines handlers = list_all (λ handler. starts lines handler.1) handlers

abbrev pub catch_all_starts : List Line → Option ℕ → Bool
catch_all_starts lines None = true
catch_all_starts lines (Some address) = starts lines address

-- a try of a method of so many units
unfoldable pub try_stands : ℕ → List Line → RawTry → Bool
try_stands size lines t = nat_le (t.start + t.count) size && handlers_start lines t.handlers && catch_all_starts lines t.catch_all

-- the tests of the tries, numbered from n on
unfoldable pub tries_at : ℕ → List Line → ℕ → List RawTry → Script CodeFault (Unit {0})
tries_at size lines n [] = Value tt
tries_at size lines n (t ∷ ts) = do
  _ ← test (try_stands size lines t) (Tries n)
  tries_at size lines (n + 1) ts

-- in words
abbrev pub AllTriesStand : ℕ → List Line → List RawTry → Type 0
AllTriesStand size lines [] = Unit {0}
AllTriesStand size lines (t ∷ ts) = IsTrue (try_stands size lines t) × AllTriesStand size lines ts

-- How many handlers the lines of a method list, by the tries that cover them.
use Rattle.std.specs.Prelude.{ℕ, ◌*◌, List, length, count_by}
use Rattle.std.specs.List.{sum_by}
use Rattle.dex_tables.specs.declared.dex.RawTry.{RawTry}
use Rattle.dex_code.specs.Lines.{Line}
use Rattle.dex_code.specs.Next.{addresses, catches_of, covers}

-- the handlers of a try, counted for each line that it covers
unfoldable pub handled_by : List Line → RawTry → ℕ
handled_by lines t = count_by (λ (line : Line). covers t line.0) lines * length (addresses t)

-- those of all of these tries
unfoldable pub handled_by_all : List Line → List RawTry → ℕ
handled_by_all lines tries = sum_by (handled_by lines) tries

-- the handlers that these lines list: each line the addresses to which it may go by an exception
unfoldable pub catches_listed : List RawTry → List Line → ℕ
catches_listed tries lines = sum_by (λ (line : Line). length (catches_of tries line.0)) lines

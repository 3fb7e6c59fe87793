-- The try items of a code item (Android documentation, "Dalvik executable format", code_item and try_item).
use Rattle.std.specs.Prelude.{ℕ, ◌+◌, ◌*◌, ◌%◌, ◌==◌, List, [], length, None, nat_lt, nat_le, if◌then◌else◌}
use Rattle.vet_base.specs.Script.{Script, Value, ◌>>=◌, test, repeat, walk}
use Rattle.dex_tables.specs.declared.fault.Fault.{Fault}
use Rattle.dex_tables.specs.declared.fault.Fault.TheVariants.{Outside, Index, TooMany}
use Rattle.dex_tables.specs.declared.fault.Limit.TheVariants as limits
use Rattle.dex_tables.specs.declared.fault.Table.TheVariants as tables
use Rattle.dex_tables.specs.declared.dex.RawTry.{RawTry}
use Rattle.dex_bodies.specs.declared.handlers.Handler.{Handler}
use Rattle.dex_bodies.specs.declared.tries.CodeHead.{CodeHead}
use Rattle.dex_bodies.specs.declared.tries.TryItem.{TryItem}
use Rattle.dex_tables.specs.declared.place.Place.{Place}
use Rattle.dex_tables.specs.Parts.{there, u2_at, u4_at, uleb_at}
use Rattle.dex_tables.specs.TypeLists.{place}
use Rattle.dex_bodies.specs.Handlers.{handler_of, handler_rows_at, handler_at}

-- Behind an odd count of units two bytes of padding stand before the try items, which begin at a multiple of four.
unfoldable pub padding_of : CodeHead → ℕ
padding_of head = if head.units % 2 == 0 then 0 else 2

unfoldable pub tries_begin : CodeHead → ℕ
tries_begin head = head.at + 2 * head.units + padding_of head

-- A try item: its first unit, how many units, and where its handler begins, from the list's begin on.
unfoldable pub try_row : List ℕ → ℕ → Place → Script Fault (TryItem × Place)
try_row file code s = do
  start ← u4_at file s.at code
  count ← u2_at file start.1 code
  handler ← u2_at file count.1 code
  _ ← test (nat_lt s.total 1000000) (TooMany limits.Tries)
  Value (record { start = start.0; count = count.0; handler = handler.0 }, place handler.1 (s.total + 1))

unfoldable pub try_rows_at : List ℕ → ℕ → ℕ → Place → Script Fault (List TryItem × Place)
try_rows_at file code count s = repeat count (try_row file code) s

abbrev pub raw_try : TryItem → Handler → RawTry
raw_try item handler = record { start = item.start; count = item.count; handlers = handler.pairs; catch_all = handler.catch_all }

-- a try item with the handler that it names
unfoldable pub try_of : List Handler → ℕ → ℕ → TryItem → ℕ → Script Fault (RawTry × ℕ)
try_of handlers list code item total = do
  handler ← there (handler_at (list + item.handler) handlers) (handler_of 0 [] None) (Index tables.Tries code)
  _ ← test (nat_le (total + length handler.pairs) 1000000) (TooMany limits.Tries)
  Value (raw_try item handler, total + length handler.pairs)

unfoldable pub joined_at : List Handler → ℕ → ℕ → List TryItem → ℕ → Script Fault (List RawTry × ℕ)
joined_at handlers list code items total = walk (try_of handlers list code) items total

-- so many try items, the handlers behind them, and which handler is whose
unfoldable pub some_tries_at : List ℕ → ℕ → ℕ → CodeHead → ℕ → Script Fault (List RawTry × ℕ)
some_tries_at file types code head total = do
  _ ← test (nat_le (tries_begin head) (length file)) (Outside code)
  items ← try_rows_at file code head.tries (place (tries_begin head) total)
  size ← uleb_at file items.1.at
  handlers ← handler_rows_at file types code size.0 (place size.1 items.1.total)
  joined_at handlers.0 items.1.at code items.0 handlers.1.total

-- without try items there is no padding and no list of handlers
unfoldable pub tries_at : List ℕ → ℕ → ℕ → CodeHead → ℕ → Script Fault (List RawTry × ℕ)
tries_at file types code head total = if head.tries == 0 then Value ([], total) else some_tries_at file types code head total

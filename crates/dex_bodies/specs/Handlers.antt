-- The handlers of a code item (Android documentation, "Dalvik executable format", encoded_catch_handler_list,
-- encoded_catch_handler and encoded_type_addr_pair).
use Rattle.std.specs.Prelude.{ℕ, ℤ, pos, negsuc, suc, ◌+◌, ◌==◌, List, [], ◌∷◌, Option, Some, None, nat_lt, Bool, true, if◌then◌else◌}
use Rattle.vet_base.specs.Script.{Script, Value, ◌>>=◌, test, repeat}
use Rattle.dex_tables.specs.declared.fault.Fault.{Fault}
use Rattle.dex_tables.specs.declared.fault.Fault.TheVariants.{TooMany}
use Rattle.dex_tables.specs.declared.fault.Limit.TheVariants as limits
use Rattle.dex_tables.specs.declared.fault.Table.TheVariants as tables
use Rattle.dex_bodies.specs.declared.handlers.Handler.{Handler}
use Rattle.dex_bodies.specs.declared.handlers.HandlerSize.{HandlerSize}
use Rattle.dex_tables.specs.declared.place.Place.{Place}
use Rattle.dex_tables.specs.Parts.{uleb_at, sleb_at, index_test}
use Rattle.dex_tables.specs.TypeLists.{place}

-- a type and the address of the unit to which it is handed
unfoldable pub pair_row : List ℕ → ℕ → ℕ → Place → Script Fault ((ℕ × ℕ) × Place)
pair_row file types code s = do
  kind ← uleb_at file s.at
  _ ← index_test kind.0 types tables.Handlers code
  address ← uleb_at file kind.1
  _ ← test (nat_lt s.total 1000000) (TooMany limits.Tries)
  Value ((kind.0, address.0), place address.1 (s.total + 1))

unfoldable pub pairs_at : List ℕ → ℕ → ℕ → ℕ → Place → Script Fault (List (ℕ × ℕ) × Place)
pairs_at file types code count s = repeat count (pair_row file types code) s

-- how many pairs a handler has, and whether an address for all other types stands behind them
unfoldable pub pair_count : ℤ → ℕ
pair_count (pos n) = n
pair_count (negsuc n) = suc n

unfoldable pub catches_all : ℤ → Bool
catches_all (pos n) = n == 0
catches_all (negsuc n) = true

unfoldable pub handler_size_at : List ℕ → ℕ → Script Fault HandlerSize
handler_size_at file at = do
  size ← sleb_at file at
  Value (record { pairs = pair_count size.0; catches_all = catches_all size.0; at = size.1 })

abbrev pub some_address : ℕ × ℕ → Option ℕ × ℕ
some_address x = (Some x.0, x.1)

unfoldable pub catch_all_at : List ℕ → Bool → ℕ → Script Fault (Option ℕ × ℕ)
catch_all_at file catches at = if catches then (do
  address ← uleb_at file at
  Value (some_address address)) else Value (None, at)

abbrev pub handler_of : ℕ → List (ℕ × ℕ) → Option ℕ → Handler
handler_of at pairs catch_all = record { at = at; pairs = pairs; catch_all = catch_all }

unfoldable pub handler_row : List ℕ → ℕ → ℕ → Place → Script Fault (Handler × Place)
handler_row file types code s = do
  size ← handler_size_at file s.at
  pairs ← pairs_at file types code size.pairs (place size.at s.total)
  catch_all ← catch_all_at file size.catches_all pairs.1.at
  _ ← test (nat_lt pairs.1.total 1000000) (TooMany limits.Tries)
  Value (handler_of s.at pairs.0 catch_all.0, place catch_all.1 (pairs.1.total + 1))

unfoldable pub handler_rows_at : List ℕ → ℕ → ℕ → ℕ → Place → Script Fault (List Handler × Place)
handler_rows_at file types code count s = repeat count (handler_row file types code) s

-- the handler that begins at this offset
unfoldable pub handler_at : ℕ → List Handler → Option Handler
handler_at at [] = None
handler_at at (h ∷ hs) = if h.at == at then Some h else handler_at at hs

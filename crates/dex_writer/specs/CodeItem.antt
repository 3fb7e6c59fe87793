-- How a code item is spelled ("Dalvik executable format": code_item, try_item, encoded_catch_handler_list).
use Rattle.std.specs.Prelude.{ℕ, ◌-◌, ◌%◌, List, [], ◌∷◌, ◌++◌, length, Option, Some, None, ◌==◌, if◌then◌else◌}
use Rattle.std.specs.List.{flat_map}
use Rattle.dex_tables.specs.declared.dex.RawTry.{RawTry}
use Rattle.dex_tables.specs.declared.dex.RawCode.{RawCode}
use Rattle.dex_writer.specs.Bytes.{u2_bytes, u4_bytes, uleb_bytes, padding_of}
use Rattle.dex_writer.specs.Placed.{rows_of}

-- a type and the address of its handler
abbrev pub pair_bytes : ℕ × ℕ → List ℕ
pair_bytes p = uleb_bytes p.0 ++ uleb_bytes p.1

-- So many pairs, at most 63, as signed LEB128. Where an address for all other types follows, the number is 0 or below.
abbrev pub handler_size : ℕ → Option ℕ → ℕ
handler_size pairs None = pairs % 64
handler_size pairs (Some address) = (128 - pairs % 64) % 128

abbrev pub catch_all_bytes : Option ℕ → List ℕ
catch_all_bytes None = []
catch_all_bytes (Some address) = uleb_bytes address

-- the handler of a try
unfoldable pub handler_bytes : RawTry → List ℕ
handler_bytes item = handler_size (length item.handlers) item.catch_all ∷ flat_map pair_bytes item.handlers ++ catch_all_bytes item.catch_all

-- a try whose handler stands at that offset of the list of handlers
unfoldable pub try_bytes : ℕ → RawTry → List ℕ
try_bytes handler item = u4_bytes item.start ++ u2_bytes item.count ++ u2_bytes handler

-- the list of handlers, one for each try, behind their number
unfoldable pub handlers_bytes : List RawTry → List ℕ
handlers_bytes tries = uleb_bytes (length tries) ++ flat_map handler_bytes tries

unfoldable pub try_items : List RawTry → List ℕ
try_items tries = rows_of try_bytes handler_bytes (length (uleb_bytes (length tries))) tries

-- behind an odd number of units two bytes bring the tries to a multiple of four
abbrev pub before_tries : ℕ → List ℕ
before_tries units = if units % 2 == 1 then u2_bytes 0 else []

unfoldable pub tries_bytes : ℕ → List RawTry → List ℕ
tries_bytes units tries = if length tries == 0 then [] else (before_tries units ++ try_items tries ++ handlers_bytes tries)

-- registers, ins, outs, tries, no debug data, and the units, all with their numbers before
unfoldable pub code_head : RawCode → List ℕ
code_head code = u2_bytes code.registers ++ u2_bytes code.ins ++ u2_bytes code.outs ++ u2_bytes (length code.tries) ++ u4_bytes 0 ++ u4_bytes (length code.units)

unfoldable pub code_item : RawCode → List ℕ
code_item code = code_head code ++ flat_map u2_bytes code.units ++ tries_bytes (length code.units) code.tries

-- a code item, up to a multiple of four bytes
unfoldable pub code_bytes : RawCode → List ℕ
code_bytes code = code_item code ++ padding_of (length (code_item code))

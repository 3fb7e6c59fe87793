-- How much try items, handlers and pairs are, as a reader counts them against its limit.
use Rattle.std.specs.Prelude.{ℕ, ◌+◌, ◌*◌, length, sum_by, Option, Some, None}
use Rattle.dex_tables.specs.declared.dex.Body.{Body}
use Rattle.dex_tables.specs.declared.dex.ClassDef.{ClassDef}
use Rattle.dex_tables.specs.declared.dex.RawCode.{RawCode}
use Rattle.dex_tables.specs.declared.dex.RawTry.{RawTry}

-- A try adds its item, its handler and the pairs of that, and each pair once more as the try's own.
abbrev pub try_cost : RawTry → ℕ
try_cost item = 2 + 2 * length item.handlers

-- a method's code, a method, and a class
abbrev pub code_cost : Option RawCode → ℕ
code_cost None = 0
code_cost (Some code) = sum_by try_cost code.tries

abbrev pub body_cost : Body → ℕ
body_cost body = code_cost body.code

abbrev pub class_cost : ClassDef → ℕ
class_cost class = sum_by body_cost class.directs + sum_by body_cost class.virtuals

-- Each line takes a unit.
use Rattle.std.proofs.Common.{◌≤◌, List, [], ◌∷◌, length, arith}
use Rattle.std.specs.List.{sum_by}
use Rattle.std.proofs.lemmas.List.Sums.{sum_by-cons}
use Rattle.dalvik_formats.specs.declared.format.Format.{Format}
use Rattle.dalvik_formats.specs.declared.format.Format.TheVariants.{Unused, F10x, F12x, F11n, F11x, F10t, F20t, F22x, F21t, F21s, F21h, F21c, F23x, F22b, F22t, F22s, F22c, F32x, F30t, F31t, F31i, F31c, F35c, F3rc, F51l}
use Rattle.dalvik_formats.specs.Layouts.{layout_of, units_of}
use Rattle.dex_maker.specs.declared.listing.ListedLine.{ListedLine}
use Rattle.dex_maker.specs.declared.listing.ListedLine.TheVariants.{Plain, Packed, Sparse, Filled}
use Rattle.dex_maker.specs.Lines.{width_of}

some_units : (f : Format) → 1 ≤ units_of f
some_units Unused = omega arith
some_units F10x = omega arith
some_units F12x = omega arith
some_units F11n = omega arith
some_units F11x = omega arith
some_units F10t = omega arith
some_units F20t = omega arith
some_units F22x = omega arith
some_units F21t = omega arith
some_units F21s = omega arith
some_units F21h = omega arith
some_units (F21c pool) = omega arith
some_units F23x = omega arith
some_units F22b = omega arith
some_units F22t = omega arith
some_units F22s = omega arith
some_units (F22c pool) = omega arith
some_units F32x = omega arith
some_units F30t = omega arith
some_units F31t = omega arith
some_units F31i = omega arith
some_units F31c = omega arith
some_units (F35c pool) = omega arith
some_units (F3rc pool) = omega arith
some_units F51l = omega arith

pub some_width : (line : ListedLine) → 1 ≤ width_of line
some_width (Plain opcode registers literal operand target) = some_units (layout_of opcode)
some_width (Packed switch first_key targets) = omega arith
some_width (Sparse switch pairs) = omega arith
some_width (Filled width bytes) = omega arith

pub lines_within : (lines : List ListedLine) → length lines ≤ sum_by width_of lines
lines_within [] = omega arith
lines_within (line ∷ lines) = omega (arith, sum_by-cons width_of line lines, some_width line, lines_within lines)

-- How many units a line takes, and where each line begins ("Dalvik bytecode": packed-switch-payload, sparse-switch-payload,
-- fill-array-data-payload).
use Rattle.std.specs.Prelude.{ℕ, ◌+◌, ◌*◌, ◌/◌, List, [], ◌∷◌, length}
use Rattle.std.specs.List.{sum_by}
use Rattle.dalvik_formats.specs.Layouts.{layout_of, units_of}
use Rattle.dex_maker.specs.declared.listing.ListedLine.{ListedLine}
use Rattle.dex_maker.specs.declared.listing.ListedLine.TheVariants.{Plain, Packed, Sparse, Filled}

abbrev pub width_of : ListedLine → ℕ
width_of (Plain opcode registers literal operand target) = units_of (layout_of opcode)
width_of (Packed switch first_key targets) = 4 + 2 * length targets
width_of (Sparse switch pairs) = 2 + 4 * length pairs
width_of (Filled width bytes) = 4 + (length bytes + 1) / 2

-- how many units some lines take
unfoldable pub width_sum : List ListedLine → ℕ
width_sum lines = sum_by width_of lines

-- where each line begins, the first at this unit, and at the end where the last one ends
abbrev pub starts_from : ℕ → List ListedLine → List ℕ
starts_from at [] = at ∷ []
starts_from at (line ∷ lines) = at ∷ starts_from (at + width_of line) lines

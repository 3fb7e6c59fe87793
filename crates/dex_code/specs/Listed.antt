-- How many targets the switches of a method list by their tables, a table counted for each switch that names it.
use Rattle.std.specs.Prelude.{ℕ, List, length}
use Rattle.std.specs.List.{sum_by}
use Rattle.dalvik_formats.specs.Layouts.{group_of}
use Rattle.dex_code.specs.declared.insn.Insn.{Insn}
use Rattle.dex_code.specs.declared.insn.Insn.TheVariants.{F31t}
use Rattle.dex_code.specs.Lines.{Line}
use Rattle.dex_code.specs.Flow.{found, distances_in}

-- the entries of the table that the instruction goes by
abbrev pub listed_by : List Line → Insn → ℕ
listed_by lines (F31t op a t) = length (distances_in (group_of op) (found lines t))
listed_by lines insn = 0

-- those of all of these lines, by the tables among the first
unfoldable pub listed_by_all : List Line → List Line → ℕ
listed_by_all lines those = sum_by (λ (line : Line). listed_by lines line.1) those

-- A conclusion that is looked for, and the rows that a line names.
use Rattle.std.specs.Prelude.{◌≡◌, ◌==◌, ◌&&◌, ℕ, Bool, true, false, List, [], ◌∷◌, Option, Some, None}
use Rattle.fact_rows.specs.declared.row.Row.{Row}
use Rattle.fact_rows.specs.contracts.row.RowPartialEq.TheImpl.{ghosts as row_eq}
use Rattle.rule_ground.specs.declared.conclusion.Conclusion.{Conclusion}
use Rattle.rule_ground.specs.Given.{rows_in}
use Rattle.flow_story.specs.declared.line.Numbers.{Numbers}
use Rattle.flow_story.specs.declared.line.Numbers.TheVariants as numbers
use Rattle.flow_story.specs.declared.line.StoryLine.{StoryLine}
use Rattle.flow_story.specs.Stories.{row_of}

-- whether the rows are these, in this order
abbrev pub are_rows : List Row → List Row → Bool
are_rows [] [] = true
are_rows (a ∷ rest) (x ∷ others) = row_eq.eq a x && are_rows rest others
are_rows _ _ = false

-- whether it concludes the row by the rule from these premises
abbrev pub is_said : ℕ → List Row → Row → Conclusion → Bool
is_said rule premises row c = c.rule == rule && (are_rows (rows_in c.premises) premises && row_eq.eq c.row row)

abbrev pub and_row : Option Row → Option (List Row) → Option (List Row)
and_row None rows = None
and_row (Some x) None = None
and_row (Some x) (Some rows) = Some (x ∷ rows)

-- the rows of the lines that are named, where there is one at least and all are there
abbrev pub rows_named : List StoryLine → Numbers → Option (List Row)
rows_named lines numbers.None = None
rows_named lines (numbers.One a) = and_row (row_of lines a) (Some [])
rows_named lines (numbers.Two a b) = and_row (row_of lines a) (and_row (row_of lines b) (Some []))
rows_named lines (numbers.Three a b c) = and_row (row_of lines a) (and_row (row_of lines b) (and_row (row_of lines c) (Some [])))
rows_named lines (numbers.Four a b c d) =
    and_row (row_of lines a) (and_row (row_of lines b) (and_row (row_of lines c) (and_row (row_of lines d) (Some []))))

-- the rule of the line gives its row from these
abbrev pub Gives : (ℕ → List Row → Row → Type 0) → StoryLine → Option (List Row) → Type 0
Gives Rule line None = ⊥
Gives Rule line (Some rows) = Rule line.rule rows line.row

-- the line says that it is a start, and is one
abbrev pub IsToldStart : (Row → Type 0) → StoryLine → Type 0
IsToldStart Start line = (line.rule ≡ 0) × ((line.premises ≡ numbers.None) × Start line.row)

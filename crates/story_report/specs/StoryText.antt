-- The text of stories. Bytes are printed in small hexadecimal letters.
use Rattle.std.specs.Prelude.{ℕ, suc, List, [], ◌∷◌, ◌++◌, length, codes}
use Rattle.std.specs.List.{flat_map}
use Rattle.std.specs.Fmt.{decimal}
use Rattle.cert_report.specs.Refusal.{row_text}
use Rattle.flow_story.specs.declared.line.Numbers.{Numbers}
use Rattle.flow_story.specs.declared.line.Numbers.TheVariants as numbers
use Rattle.flow_story.specs.declared.line.StoryLine.{StoryLine}

-- each number behind a space
unfoldable pub numbers_text : List ℕ → List ℕ
numbers_text ns = flat_map (λ n. codes " " ++ decimal n) ns

-- by what rule, and from which lines
unfoldable pub ruled_text : ℕ → List ℕ → List ℕ
ruled_text rule ns = codes " rule " ++ decimal rule ++ codes " from" ++ numbers_text ns

-- how a line follows
unfoldable pub way_text : ℕ → Numbers → List ℕ
way_text rule numbers.None = codes " start"
way_text rule (numbers.One a) = ruled_text rule (a ∷ [])
way_text rule (numbers.Two a b) = ruled_text rule (a ∷ b ∷ [])
way_text rule (numbers.Three a b c) = ruled_text rule (a ∷ b ∷ c ∷ [])
way_text rule (numbers.Four a b c d) = ruled_text rule (a ∷ b ∷ c ∷ d ∷ [])

-- the line of this number
unfoldable pub line_text : ℕ → StoryLine → List ℕ
line_text n line = decimal n ++ way_text line.rule line.premises ++ row_text (codes ": ") line.row ++ codes "\n"

-- lines, the first of this number
abbrev pub lines_text : ℕ → List StoryLine → List ℕ
lines_text n [] = []
lines_text n (line ∷ lines) = line_text n line ++ lines_text (suc n) lines

-- how many lines there are, and the lines
unfoldable pub story_text : List StoryLine → List ℕ
story_text lines = codes "story " ++ decimal (length lines) ++ codes "\n" ++ lines_text 1 lines

-- one story behind the other
unfoldable pub stories_text : List (List StoryLine) → List ℕ
stories_text stories = flat_map story_text stories

-- Lines with new numbers.
use Rattle.std.specs.Prelude.{◌==◌, ℕ, suc, List, Option, Some, None, option_map}
use Rattle.vet_base.specs.Members.{first_index}
use Rattle.flow_story.specs.declared.line.Numbers.{Numbers}
use Rattle.flow_story.specs.declared.line.Numbers.TheVariants as numbers
use Rattle.flow_story.specs.declared.line.StoryLine.{StoryLine}
use Rattle.story_finder.specs.Cutting.{line_named}

-- the place of the number among the numbers, from 1; 0 where it is not there
abbrev pub counted : Option ℕ → ℕ
counted None = 0
counted (Some place) = suc place

abbrev pub new_number : List ℕ → ℕ → ℕ
new_number told n = counted (first_index (λ m. m == n) told)

abbrev pub renumbered : List ℕ → Numbers → Numbers
renumbered told numbers.None = numbers.None
renumbered told (numbers.One a) = numbers.One (new_number told a)
renumbered told (numbers.Two a b) = numbers.Two (new_number told a) (new_number told b)
renumbered told (numbers.Three a b c) = numbers.Three (new_number told a) (new_number told b) (new_number told c)
renumbered told (numbers.Four a b c d) = numbers.Four (new_number told a) (new_number told b) (new_number told c) (new_number told d)

abbrev pub retell : List ℕ → StoryLine → StoryLine
retell told line = record line { premises = renumbered told line.premises }

-- the line of a number, where there is one
abbrev pub retold : List StoryLine → List ℕ → ℕ → Option StoryLine
retold lines told n = option_map (retell told) (line_named lines n)

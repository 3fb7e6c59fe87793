-- Words for the search for a row or a default on the walk of a class.
use Rattle.std.specs.Prelude.{ℕ, Option}
use Rattle.app_machine.specs.declared.lists.Lists.{Lists}
use Rattle.app_machine.specs.Names.{Name}
use Rattle.app_machine.specs.Summaries.{row_of, default_of, listed_above}
use Rattle.app_index.specs.declared.walk.Wanted.{Wanted}
use Rattle.app_index.specs.declared.walk.Wanted.TheVariants as wanted
use Rattle.vet_base.specs.Members.{first_given}

-- what is found at a class itself
abbrev pub found : Lists → Wanted → Name → Option ℕ
found lists (wanted.Row name proto is_static) class = row_of lists class name.now proto.now is_static
found lists wanted.Default class = default_of lists class

-- what is found at the first listed class above, itself first
unfoldable pub found_above : Lists → Wanted → Name → Option ℕ
found_above lists wanted class = first_given (found lists wanted) (listed_above lists class)

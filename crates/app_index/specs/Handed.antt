-- Which method rows give back an object that the library has.
use Rattle.std.specs.Prelude.{◌++◌, ◌+◌, ℕ, Bool, true, false, List, [], ◌∷◌, cond}
use Rattle.app_machine.specs.declared.lists.Lists.{Lists}
use Rattle.app_machine.specs.declared.summary.Gives.{Gives}
use Rattle.app_machine.specs.declared.summary.Gives.TheVariants as gives
use Rattle.app_machine.specs.declared.summary.Summary.{Summary}

abbrev pub gives_handed : Gives → Bool
gives_handed gives.Handed = true
gives_handed _ = false

-- the number of a row, where it is such a one, and the numbers of those from this number on
abbrev pub handed_row : ℕ → Summary → List ℕ
handed_row i row = cond (gives_handed row.gives) (i ∷ []) []

abbrev pub handed_from : ℕ → List Summary → List ℕ
handed_from i [] = []
handed_from i (row ∷ rows) = handed_row i row ++ handed_from (i + 1) rows

unfoldable pub handed_rows : Lists → List ℕ
handed_rows lists = handed_from 0 lists.methods

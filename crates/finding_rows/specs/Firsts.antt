-- For what was found the first row that tells it, as rows are gone through from the last on.
use Rattle.std.specs.Prelude.{List, [], ◌∷◌, Option, Some, None}
use Rattle.std.specs.BTreeMap.{insert_entry}
use Rattle.app_machine.specs.declared.lists.Lists.{Lists}
use Rattle.app_machine.specs.declared.papers.Declaration.{Declaration}
use Rattle.fact_rows.specs.declared.row.Row.{Row}
use Rattle.outcomes.specs.Spots.{Found, found_order, undeclared_at}

abbrev pub noted : Option Found → Row → List (Found × Row) → List (Found × Row)
noted None row es = es
noted (Some found) row es = insert_entry found_order es found row

abbrev pub firsts : Lists → Declaration → List Row → List (Found × Row)
firsts lists declaration [] = []
firsts lists declaration (row ∷ rows) = noted (undeclared_at lists declaration row) row (firsts lists declaration rows)

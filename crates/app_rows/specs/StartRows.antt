-- The start rows of an app, as a list.
use Rattle.std.specs.Prelude.{ℕ, zero, suc, List, [], ◌∷◌, cond, length, slice_get}
use Rattle.app_machine.specs.declared.app.App.{App}
use Rattle.fact_rows.specs.declared.row.Row.{Row}
use Rattle.fact_rows.specs.declared.row.Row.TheVariants.{Live}
use Rattle.app_rows.specs.Application.{is_application}

-- so many components from this one on may come to life
abbrev pub lives_from : ℕ → ℕ → List Row
lives_from c zero = []
lives_from c (suc n) = Live c 0 ∷ lives_from (suc c) n

-- the application, which is the first component, and without one all of them
abbrev pub start_count : App → ℕ
start_count app = cond (is_application (slice_get app.components 0)) 1 (length app.components)

abbrev pub start_rows : App → List Row
start_rows app = lives_from 0 (start_count app)

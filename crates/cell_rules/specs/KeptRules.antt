-- The rules of the first set that this one has as they stand.
use Rattle.std.specs.Prelude.{◌==◌, ℕ, IsFalse, List}
use Rattle.app_machine.specs.declared.lists.Lists.{Lists}
use Rattle.app_machine.specs.declared.app.App.{App}
use Rattle.fact_rows.specs.declared.row.Row.{Row}
use Rattle.fact_rows.specs.declared.row.Row.TheVariants.{Reached, Cell, Back, StaticPoints, Calls, CalledBy, ExitPoints, Live, Handed, Unknown, Uses}
use Rattle.flow_rules.specs.Rules.{Follows}

-- the row is of a kind that names no register and no label
abbrev pub IsKept : Row → Type 0
IsKept (Reached n) = Unit {0}
IsKept (Cell s k t) = Unit {0}
IsKept (Back t k s) = Unit {0}
IsKept (StaticPoints g s) = Unit {0}
IsKept (Calls n b) = Unit {0}
IsKept (CalledBy b n) = Unit {0}
IsKept (ExitPoints a how s) = Unit {0}
IsKept (Live c state) = Unit {0}
IsKept (Handed s) = Unit {0}
IsKept (Unknown n cause) = Unit {0}
IsKept (Uses n u) = Unit {0}
IsKept row = ⊥

-- The one rule that names what a step makes, which is told apart otherwise here: the elements of a filled array.
abbrev pub filling : ℕ
filling = 6

-- What a rule of the first set gives of rows of these kinds: 1, 8, 10 to 13, 22, 23, 26 to 28, 30, 36 to 40, 42 to 44, 46 and 47.
module _ (app : App) (lists : Lists) where
  pub data KeptRule : ℕ → List Row → Row → Type 0 where
    kept : {rule : ℕ} {premises : List Row} {row : Row} →
        Follows app lists rule premises row →
        IsKept row →
        IsFalse (rule == filling) →
        KeptRule rule premises row

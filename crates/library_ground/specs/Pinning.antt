-- The values of a register, or the one that is known already.
use Rattle.std.specs.Prelude.{ℕ, Bool, true, ◌&&◌, ◌||◌, is_none, List, ◌++◌, Option, Some, None, flat_map}
use Rattle.fact_rows.specs.declared.context.Node.{Node}
use Rattle.fact_rows.specs.declared.row.Row.{Row}
use Rattle.rule_ground.specs.declared.conclusion.Conclusion.{Conclusion}
use Rattle.rule_ground.specs.declared.key.Key.{Key}
use Rattle.rule_ground.specs.declared.key.Key.TheVariants.{PointsAt, TaintsAt}
use Rattle.rule_ground.specs.Asking.{asks}
use Rattle.rule_ground.specs.Candidates.{candidates}
use Rattle.library_ground.specs.declared.pins.Pins.{Pins}

-- whether none is known
abbrev pub are_free : Pins → Bool
are_free pins = (is_none pins.value && is_none pins.object) && is_none pins.cell

-- whether the register may be that of the row that is known
abbrev pub may_stand : Option Row → Node → ℕ → Bool
may_stand None n x = true
may_stand (Some row) n x = asks (PointsAt n x) row || asks (TaintsAt n x) row

abbrev pub values_give : (Key → List Row) → Option Row → Node → ℕ → (Row → List Conclusion) → List Conclusion
values_give hits pin n x f = flat_map f (candidates hits pin (PointsAt n x)) ++ flat_map f (candidates hits pin (TaintsAt n x))

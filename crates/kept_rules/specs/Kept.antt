-- Which conclusions are kept, and what rules give that are.
use Rattle.std.specs.Prelude.{◌==◌, ◌&&◌, ℕ, Bool, true, false, not, cond, IsFalse, List}
use Rattle.fact_rows.specs.declared.row.Row.{Row}
use Rattle.fact_rows.specs.declared.row.Row.TheVariants.{Reached, Cell, Back, StaticPoints, Calls, CalledBy, ExitPoints, Live, Handed, Unknown, Uses}
use Rattle.rule_ground.specs.declared.conclusion.Conclusion.{Conclusion}
use Rattle.cell_rules.specs.KeptRules.{IsKept, filling}
use Rattle.kept_rules.specs.declared.kept_sink.KeptSink.{KeptSink}

-- whether the row names no register and no label
abbrev pub is_kept_row : Row → Bool
is_kept_row (Reached n) = true
is_kept_row (Cell s k t) = true
is_kept_row (Back t k s) = true
is_kept_row (StaticPoints g s) = true
is_kept_row (Calls n b) = true
is_kept_row (CalledBy b n) = true
is_kept_row (ExitPoints a how s) = true
is_kept_row (Live c state) = true
is_kept_row (Handed s) = true
is_kept_row (Unknown n cause) = true
is_kept_row (Uses n u) = true
is_kept_row row = false

abbrev pub is_kept : Conclusion → Bool
is_kept c = is_kept_row c.row && not (c.rule == filling)

-- what a sink is after a conclusion that comes to the one before it
abbrev pub kept_then : {S : Type 0} → (S → Conclusion → S) → S → Conclusion → S
kept_then then out c = cond (is_kept c) (then out c) out

-- and that one
abbrev pub through : {S : Type 0} → (S → Conclusion → S) → KeptSink S → Conclusion → KeptSink S
through then k c = record k { out = record k.out { now = kept_then then k.out.now c } }

-- what rules give that is kept
pub record KeptBy (Rule : ℕ → List Row → Row → Type 0) (rule : ℕ) (premises : List Row) (row : Row) : Type 0 where
  pub by : Rule rule premises row
  pub is : IsKept row
  pub other : IsFalse (rule == filling)

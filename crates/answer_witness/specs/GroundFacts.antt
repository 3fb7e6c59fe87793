-- How rows are looked for, kept and made. Behind each fact stands what code would answer that does otherwise.
use Rattle.std.specs.Prelude.{◌≡◌, ℕ, true, false, List, [], ◌∷◌, Some, slice_get}
use Rattle.vet_base.specs.declared.key_id.KeyId.{KeyId}
use Rattle.access_path.specs.declared.keys.Keys.TheVariants.{Five}
use Rattle.fact_rows.specs.declared.context.Ctx.TheVariants as ctx
use Rattle.fact_rows.specs.declared.context.Node.{Node}
use Rattle.fact_rows.specs.declared.row.Row.{Row}
use Rattle.fact_rows.specs.declared.row.Row.TheVariants.{Effect, Live, Points}
use Rattle.fact_rows.specs.declared.site.Site.{Site}
use Rattle.fact_rows.specs.declared.site.Site.TheVariants.{Component}
use Rattle.library_ground.specs.Pinning.{may_stand}
use Rattle.rule_ground.specs.declared.conclusion.Conclusion.{Conclusion}
use Rattle.rule_ground.specs.declared.content.Content.TheVariants.{Label}
use Rattle.rule_ground.specs.declared.key.Key.TheVariants.{PointsAt}
use Rattle.rule_ground.specs.Given.{concludes, of_one, stored}
use Rattle.rule_ground.specs.Seeking.{sought}
use Rattle.rule_ground.specs.TableHits.{left_in}

abbrev pub node : Node
node = record { by = record { ctx = ctx.Row 0 1; method = 0 }; pc = 0 }

-- two rows of one register
abbrev pub on_component : ℕ → Row
on_component c = Points node 1 (Component c)

abbrev pub two_rows : List Row
two_rows = on_component 0 ∷ on_component 1 ∷ []

-- what is left of them to a search for that register that has come so far
abbrev pub left_from : ℕ → List Row
left_from place = left_in two_rows (PointsAt node 1) (record { at = place; end = 2 })

-- that a component is absent, as a conclusion
abbrev pub absent : ℕ → Conclusion
absent c = concludes 47 (of_one (Live 0 2)) (Live c 0)

pub record Seeks (n : Node) (s : Site) (k a b c d e : KeyId) (l : ℕ) (row : Row) (rows : List Row) : Type 0 where
  -- A search has two rows before it, and none behind them. One that goes on by two answers the first and has none left, so that
  -- the second is lost.
  pub both_rows : left_from 0 ≡ two_rows
  pub no_more : left_from 2 ≡ []
  -- of two conclusions that are not there the one with the lesser row is kept; with the greater it is the old one
  pub keeps_least : sought (λ other. false) (Some (absent 2)) (absent 1) ≡ Some (absent 1)
  -- a label that is stored under a key leads there by the key and the first four of five keys, and whatever is behind them; a
  -- path that is kept as it was has no such key and is closed
  pub cuts : stored (Label (record { is_open = false; keys = Five a b c d e }) l) n s k ≡ Effect n s (record { is_open = true; keys = Five k a b c d }) l
  -- a known value of a register stands in no other; standing anywhere it is true
  pub other_register : may_stand (Some (on_component 0)) node 2 ≡ false
  -- the first row has the place 0; without a place it is None
  pub first_row : slice_get (row ∷ rows) 0 ≡ Some row

abbrev pub RowsAreSought : Type 0
RowsAreSought = (n : Node) (s : Site) (k a b c d e : KeyId) (l : ℕ) (row : Row) (rows : List Row) → Seeks n s k a b c d e l row rows

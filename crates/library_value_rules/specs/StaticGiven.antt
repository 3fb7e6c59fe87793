-- Rule 36 from what the static of a shared object may lead to: it goes to the results of the calls that give the object.
use Rattle.std.specs.Prelude.{◌==◌, ℕ, Bool, false, List, [], Option, Some, None, cond, length, flat_map, slice_get, nat_lt}
use Rattle.access_path.specs.declared.path.Path.{Path}
use Rattle.app_machine.specs.declared.summary.Gives.{Gives}
use Rattle.app_machine.specs.declared.summary.Gives.TheVariants as gives
use Rattle.app_machine.specs.declared.summary.Summary.{Summary}
use Rattle.app_machine.specs.declared.lists.Lists.{Lists}
use Rattle.app_machine.specs.declared.lists.SummaryId.TheVariants as summary_id
use Rattle.app_machine.specs.declared.app.App.{App}
use Rattle.app_machine.specs.State.{shared_static}
use Rattle.app_parts.specs.declared.summary_view.CallResult.{CallResult}
use Rattle.app_parts.specs.declared.summary_view.CallResult.TheVariants as result
use Rattle.app_parts.specs.Views.{call_result}
use Rattle.fact_rows.specs.declared.row.Row.{Row}
use Rattle.fact_rows.specs.declared.row.Row.TheVariants.{StaticTaint, Uses}
use Rattle.rule_ground.specs.Given.{of_two}
use Rattle.rule_ground.specs.declared.conclusion.Conclusion.{Conclusion}
use Rattle.rule_ground.specs.declared.content.Content.TheVariants.{Label}
use Rattle.rule_ground.specs.declared.key.Key.{Key}
use Rattle.rule_ground.specs.declared.key.Key.TheVariants.{UsesOf}
use Rattle.rule_ground.specs.Below.{for_below}
use Rattle.library_ground.specs.CallRow.{CallRow, call_row, has_result}
use Rattle.library_value_rules.specs.ValueGiven.{results}

-- the result is the shared object of this static
abbrev pub is_shared_of : App → ℕ → CallResult → Bool
is_shared_of app g (result.Shared k) = shared_static app k == g
is_shared_of app g _ = false

abbrev pub static_call : App → ℕ → Path → ℕ → Option CallRow → List Conclusion
static_call app g p l None = []
static_call app g p l (Some c) =
    cond (has_result c) (cond (is_shared_of app g (call_result c.row.gives)) (results 36 (of_two (Uses c.node c.uses) (StaticTaint g p l)) (Label p l) c) []) []

abbrev pub static_user : App → Lists → ℕ → Path → ℕ → Row → List Conclusion
static_user app lists g p l (Uses n u) = static_call app g p l (call_row app lists n u)
static_user app lists g p l _ = []

-- each row of the lists whose result is that object, and each node that uses it
abbrev pub gives_shared : App → ℕ → Gives → Bool
gives_shared app g (gives.Shared k) = shared_static app k == g
gives_shared app g _ = false

abbrev pub row_shares : App → ℕ → Option Summary → Bool
row_shares app g None = false
row_shares app g (Some row) = gives_shared app g row.gives

abbrev pub static_row : App → Lists → (Key → List Row) → ℕ → Path → ℕ → ℕ → List Conclusion
static_row app lists hits g p l i =
    cond (row_shares app g (slice_get lists.methods i)) (flat_map (static_user app lists g p l) (hits (UsesOf (summary_id.Row i)))) []

-- statics of the app itself are no shared objects'
abbrev pub static_gives : App → Lists → (Key → List Row) → ℕ → Path → ℕ → List Conclusion
static_gives app lists hits g p l = cond (nat_lt g (length app.statics)) [] (for_below (static_row app lists hits g p l) (length lists.methods))

-- What the code of either analysis lists is just what its rules give, rows lead all that they give, and the starts are just those
-- of the app.
use Rattle.std.proofs.Common.{◌↔◌, ℕ, List, []}
use Rattle.analysis_rules.specs.declared.rules.AnalysisRules.{AnalysisRules}
use Rattle.analysis_rules.specs.declared.rules.AnalysisRules.TheVariants as rules
use Rattle.analysis_rules.specs.Ruled.{IsReady, analysis_of, app_of, given_by, leads_by, lists_of, starts_of}
use Rattle.app_rules.specs.exact.AllExact.{all_exact, rows_lead_all}
use Rattle.app_rules.specs.Ready.{just_starts_of}
use Rattle.cell_app_rules.specs.CellReady.{just_starts_of as just_cell_starts_of}
use Rattle.cell_app_rules.specs.exact.CellAllExact.{cell_all_exact, cells_lead_all}
use Rattle.cell_rules.proofs.Premised.{every_cell_rule_has_premises}
use Rattle.fact_rows.specs.declared.row.Row.{Row}
use Rattle.flow_analyses.specs.Analyses.{FollowsBy}
use Rattle.flow_rules.specs.Rules.{Starts}
use Rattle.rule_ground.specs.declared.key.Key.{Key}
use Rattle.rule_ground.specs.Exact.{IsJust, IsLed}
use Rattle.rule_ground.specs.Hits.{Among, IsHits}
use Rattle.rule_sets.specs.Premised.{every_rule_has_premises}
use Rattle.vet_base.specs.Members.{In}

pub exact_by : (r : AnalysisRules) (rows : List Row) (hits : Key → List Row) → IsReady r → ((key : Key) → IsHits (Among rows) key (hits key)) →
    (row : Row) → In row rows → IsJust (FollowsBy (analysis_of r) (app_of r) (lists_of r)) (Among rows) row (given_by r hits row)
exact_by (rules.Paths r) rows hits ready law row there = all_exact r.app.now r.lists.now ready.events rows hits law row there
exact_by (rules.Cells r) rows hits ready law row there =
    cell_all_exact r.app.now r.readers.now r.lists.now ready.events ready.readers rows hits law row there

pub led_by : (r : AnalysisRules) (rows : List Row) (hits : Key → List Row) → IsReady r → ((key : Key) → IsHits (Among rows) key (hits key)) →
    IsLed (FollowsBy (analysis_of r) (app_of r) (lists_of r)) (Among rows) (leads_by r hits)
led_by (rules.Paths r) rows hits ready law = rows_lead_all r.app.now r.lists.now ready.events rows hits law
led_by (rules.Cells r) rows hits ready law = cells_lead_all r.app.now r.readers.now r.lists.now ready.events ready.readers rows hits law

pub just_starts_by : (r : AnalysisRules) → IsReady r → (row : Row) → Starts (app_of r) row ↔ In row (starts_of r)
just_starts_by (rules.Paths r) ready row = just_starts_of ready row
just_starts_by (rules.Cells r) ready row = just_cell_starts_of ready row

pub no_rule_without_premises : (r : AnalysisRules) (rule : ℕ) (row : Row) →
    FollowsBy (analysis_of r) (app_of r) (lists_of r) rule [] row → ⊥
no_rule_without_premises (rules.Paths r) rule row follows = every_rule_has_premises r.app.now r.lists.now rule row follows
no_rule_without_premises (rules.Cells r) rule row follows = every_cell_rule_has_premises r.app.now r.lists.now rule row follows

-- What the rules of either analysis are of, what their code needs, and what it gives.
use Rattle.std.specs.Prelude.{List}
use Rattle.analysis_rules.specs.declared.rules.AnalysisRules.{AnalysisRules}
use Rattle.analysis_rules.specs.declared.rules.AnalysisRules.TheVariants as rules
use Rattle.app_machine.specs.declared.app.App.{App}
use Rattle.app_machine.specs.declared.lists.Lists.{Lists}
use Rattle.app_rules.specs.AllGiven.{all_given, all_leads}
use Rattle.app_rules.specs.Ready.{RulesReady}
use Rattle.cell_app_rules.specs.CellAllGiven.{cell_all_given, cell_all_leads}
use Rattle.cell_app_rules.specs.CellReady.{CellRulesReady}
use Rattle.fact_rows.specs.declared.row.Row.{Row}
use Rattle.flow_analyses.specs.declared.Analysis.{Analysis}
use Rattle.flow_analyses.specs.declared.Analysis.TheVariants.{Paths, Cells}
use Rattle.rule_ground.specs.declared.conclusion.Conclusion.{Conclusion}
use Rattle.rule_ground.specs.declared.key.Key.{Key}

abbrev pub analysis_of : AnalysisRules → Analysis
analysis_of (rules.Paths r) = Paths
analysis_of (rules.Cells r) = Cells

abbrev pub app_of : AnalysisRules → App
app_of (rules.Paths r) = r.app.now
app_of (rules.Cells r) = r.app.now

abbrev pub lists_of : AnalysisRules → Lists
lists_of (rules.Paths r) = r.lists.now
lists_of (rules.Cells r) = r.lists.now

abbrev pub starts_of : AnalysisRules → List Row
starts_of (rules.Paths r) = r.starts
starts_of (rules.Cells r) = r.starts

abbrev pub IsReady : AnalysisRules → Type 0
IsReady (rules.Paths r) = RulesReady r.app.now r.lists.now r.events.now r.starts
IsReady (rules.Cells r) = CellRulesReady r.app.now r.readers.now r.lists.now r.events.now r.starts

abbrev pub given_by : AnalysisRules → (Key → List Row) → Row → List Conclusion
given_by (rules.Paths r) hits row = all_given r.app.now r.lists.now hits row
given_by (rules.Cells r) hits row = cell_all_given r.app.now r.readers.now r.lists.now hits row

abbrev pub leads_by : AnalysisRules → (Key → List Row) → Row → List Conclusion
leads_by (rules.Paths r) hits row = all_leads r.app.now r.lists.now hits row
leads_by (rules.Cells r) hits row = cell_all_leads r.app.now r.readers.now r.lists.now hits row

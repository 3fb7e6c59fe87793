-- The set of rules that a certificate tells, and the analysis by it.
use Rattle.cert_rows.specs.declared.sets.Set.{Set}
use Rattle.cert_rows.specs.declared.sets.Set.TheVariants as set
use Rattle.flow_analyses.specs.declared.Analysis.{Analysis}
use Rattle.flow_analyses.specs.declared.Analysis.TheVariants as analysis

abbrev pub set_of : Analysis → Set
set_of analysis.Paths = set.Paths
set_of analysis.Cells = set.Cells

abbrev pub analysis_of : Set → Analysis
analysis_of set.Paths = analysis.Paths
analysis_of set.Cells = analysis.Cells

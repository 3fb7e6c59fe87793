use Rattle.flow_analyses.proofs.Theorems.{all_are_good}
use Rattle.flow_analyses.proofs.all_derived_rows_are_good.Goals as goal

pub returns : goal.returns
returns c = all_are_good c.each_analysis_stays_in_app.ensures

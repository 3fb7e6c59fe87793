use Rattle.verdict.specs.OneVerdict.{LowerLaws}
use Rattle.outcome_law.proofs.Telling.{each_tells_all}
use Rattle.outcome_law.proofs.each_outcome_tells_all.Goals as goal

pub returns : goal.returns
returns c =
    let laws : LowerLaws = record { forms = c.one_form_or_fault.ensures; files = c.one_dex_or_fault.ensures; links = c.one_app_or_fault.ensures; flows = c.one_flow.ensures } in
    each_tells_all laws c.nothing_is_left_out.ensures.findings c.nothing_is_left_out.ensures.causes c.each_good_table_covers_every_run.ensures
    c.all_derived_rows_are_good.ensures

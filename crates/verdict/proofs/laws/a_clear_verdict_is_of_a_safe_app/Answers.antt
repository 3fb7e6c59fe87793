use Rattle.verdict.proofs.Clear.{clear_is_of_safe}
use Rattle.verdict.proofs.laws.a_clear_verdict_is_of_a_safe_app.Goals as goal

pub returns : goal.returns
returns c =
    clear_is_of_safe c.lower_laws.ensures c.nothing_is_left_out.ensures.findings c.nothing_is_left_out.ensures.causes c.each_good_table_covers_every_run.ensures
    c.all_derived_rows_are_good.ensures

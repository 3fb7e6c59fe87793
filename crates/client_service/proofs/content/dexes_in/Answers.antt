use Rattle.std.proofs.Common.{◌∙◌}
use Rattle.std.proofs.lemmas.Result.{err_from_is_err_and}
use Rattle.app_folder.proofs.Folders.{row_fails, row_goes_on}
use Rattle.client_service.proofs.Contents.{one_more, all_read}
use Rattle.client_service.proofs.content.dexes_in.Goals as goal

pub returns-in_err-dex-clause-value : goal.returns-in_err-dex-clause-value
returns-in_err-dex-clause-value g c = let p = err_from_is_err_and c.from_residual.result c.from_residual.ensures.1 in rw (p.1, p.2) (row_fails _ _ _ _ _ _ _ _ c.loop-i.invariant.told c.loop-i-test.true c.in_err-dex.ensures.value c.loop-i.invariant.rows)

pub loop-i-preserved : goal.loop-i-preserved
loop-i-preserved g c = record {
  told = c.in_ok-dex.ensures.leaves.0 ∙ c.loop-i.invariant.told;
  count = c.in_ok-dex.ensures.leaves.1 ∙ c.loop-i.invariant.count;
  made = rw c.in_ok-push.ensures.items (one_more _ _ _ c.loop-i.invariant.made);
  rows = λ tells. rw c.in_ok-push.ensures.items (row_goes_on _ _ _ _ _ _ _ _ c.loop-i.invariant.told c.loop-i-test.true c.in_ok-dex.ensures.value c.loop-i.invariant.rows tells);
}

pub returns-clause-value : goal.returns-clause-value
returns-clause-value g c =
    all_read _ _ _ _ _ c.listed.result c.listed.ensures.ok c.listed.ensures.err c.loop-i-test.false c.loop-i.invariant.rows

use Rattle.std.proofs.Common.{◌∙◌, length-append, arith}
use Rattle.std.proofs.lemmas.Result.{err_from_is_err_and}
use Rattle.certificate.specs.Digests.{IsShort}
use Rattle.vet_base.proofs.Scripts.{is_done}
use Rattle.app_folder.proofs.Folders.{row_fails, row_goes_on, all_then}
use Rattle.app_folder.proofs.Hearing.{heard_on, no_dex}
use Rattle.app_folder.proofs.folder.dexes_in.Goals as goal

pub returns-in_err-dex-clause-value : goal.returns-in_err-dex-clause-value
returns-in_err-dex-clause-value g c = let p = err_from_is_err_and c.from_residual.result c.from_residual.ensures.1 in rw (p.1, p.2) (row_fails _ _ _ _ _ _ _ _ c.loop-i.invariant.told c.loop-i-test.true c.in_err-dex.ensures.value c.loop-i.invariant.rows)

pub returns-in_err-dex-clause-heard : goal.returns-in_err-dex-clause-heard
returns-in_err-dex-clause-heard g c =
    let p = err_from_is_err_and c.from_residual.result c.from_residual.ensures.1 in
    rw (p.1, p.2) (no_dex _ _ _ _ _ _ _ _ c.loop-i.invariant.read c.loop-i-test.true c.loop-i.invariant.heard c.in_err-dex.ensures.heard)

pub loop-i-preserved : goal.loop-i-preserved
loop-i-preserved g c = record {
  told = c.in_ok-dex.ensures.leaves.0 ∙ c.loop-i.invariant.told;
  count = c.in_ok-dex.ensures.leaves.1 ∙ c.loop-i.invariant.count;
  read = rw (c.in_ok-push.ensures.items, length-append _ _) (omega (arith, c.loop-i.invariant.read));
  heard = rw c.in_ok-push.ensures.items (heard_on _ _ _ _ _ _ _ c.loop-i.invariant.read c.loop-i.invariant.heard c.in_ok-dex.ensures.heard);
  short = rw c.in_ok-push.ensures.items (all_then IsShort _ _ c.loop-i.invariant.short c.in_ok-dex.ensures.short);
  rows = λ tells. rw c.in_ok-push.ensures.items (row_goes_on _ _ _ _ _ _ _ _ c.loop-i.invariant.told c.loop-i-test.true c.in_ok-dex.ensures.value c.loop-i.invariant.rows tells);
}

pub returns-clause-value : goal.returns-clause-value
returns-clause-value g c = λ tells. rw c.from_vec.ensures (is_done _ _ _ _ _ _ c.loop-i-test.false (c.loop-i.invariant.rows tells))

pub returns-clause-heard : goal.returns-clause-heard
returns-clause-heard g c = rw c.from_vec.ensures c.loop-i.invariant.heard

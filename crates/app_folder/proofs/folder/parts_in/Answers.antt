use Rattle.std.proofs.Common.{refl}
use Rattle.std.proofs.lemmas.Result.{err_from_is_err_and}
use Rattle.app_folder.proofs.Folders.{of_no_manifest, of_bad_manifest, of_others}
use Rattle.app_folder.proofs.Hearing.{bad_manifest_heard, folder_heard, no_manifest_heard}
use Rattle.app_folder.proofs.folder.parts_in.Goals as goal

pub returns-in_err-text-clause-value : goal.returns-in_err-text-clause-value
returns-in_err-text-clause-value g c = let p = err_from_is_err_and c.from_residual.result c.from_residual.ensures.1 in rw (p.1, p.2) (of_no_manifest _ _ _ c.in_err-text.ensures.value)

pub returns-in_err-manifest-clause-value : goal.returns-in_err-manifest-clause-value
returns-in_err-manifest-clause-value g c = let p = err_from_is_err_and c.from_residual-in_err-manifest.result c.from_residual-in_err-manifest.ensures.1 in rw (p.1, p.2) (of_bad_manifest _ _ _ _ _ refl c.in_ok-text.ensures.value c.in_err-manifest.ensures.err)

pub returns-in_err-count-clause-value : goal.returns-in_err-count-clause-value
returns-in_err-count-clause-value g c = let p = err_from_is_err_and c.from_residual-in_err-count.result c.from_residual-in_err-count.ensures.1 in rw (p.1, p.2) (of_bad_manifest _ _ _ _ _ c.in_ok-manifest.ensures.ok c.in_ok-text.ensures.value c.in_err-count.ensures)

pub returns-in_err-text-clause-gave : goal.returns-in_err-text-clause-gave
returns-in_err-text-clause-gave g c =
    let p = err_from_is_err_and c.from_residual.result c.from_residual.ensures.1 in
    rw (p.1, p.2) (no_manifest_heard _ _ _ _ c.in_err-text.ensures.heard)

pub returns-in_err-manifest-clause-gave : goal.returns-in_err-manifest-clause-gave
returns-in_err-manifest-clause-gave g c =
    let p = err_from_is_err_and c.from_residual-in_err-manifest.result c.from_residual-in_err-manifest.ensures.1 in
    rw (p.1, p.2) (bad_manifest_heard _ _ _ _ _ _ refl c.in_ok-text.ensures.heard c.in_err-manifest.ensures.err)

pub returns-in_err-count-clause-gave : goal.returns-in_err-count-clause-gave
returns-in_err-count-clause-gave g c =
    let p = err_from_is_err_and c.from_residual-in_err-count.result c.from_residual-in_err-count.ensures.1 in
    rw (p.1, p.2) (bad_manifest_heard _ _ _ _ _ _ c.in_ok-manifest.ensures.ok c.in_ok-text.ensures.heard c.in_err-count.ensures)

pub returns-clause-value : goal.returns-clause-value
returns-clause-value g c =
    of_others _ _ _ _ _ _ _ c.in_ok-text.ensures.leaves.0 c.in_ok-manifest.ensures.ok c.in_ok-text.ensures.value c.in_ok-count.ensures
    (rw c.in_ok-manifest.ensures.ok at c.parts_with.ensures.value)

pub returns-clause-gave : goal.returns-clause-gave
returns-clause-gave g c =
    folder_heard _ _ _ _ _ _ _ _ c.in_ok-manifest.ensures.ok c.in_ok-text.ensures.heard c.in_ok-count.ensures
    (rw c.in_ok-manifest.ensures.ok at c.parts_with.ensures.manifest) c.parts_with.ensures.count c.parts_with.ensures.heard

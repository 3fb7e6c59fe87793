use Rattle.std.proofs.lemmas.Result.{err_from_is_err_and}
use Rattle.app_folder.proofs.Folders.{no_dexes}
use Rattle.app_folder.proofs.Hearing.{heard_behind, no_code, no_declaration, no_layouts, no_lists}
use Rattle.app_folder.proofs.folder.parts_with.Goals as goal

pub returns-in_err-dex-clause-value : goal.returns-in_err-dex-clause-value
returns-in_err-dex-clause-value g c =
    let p = err_from_is_err_and c.from_residual-in_err-dex.result c.from_residual-in_err-dex.ensures.1 in
    rw (p.1, p.2) (no_dexes _ _ _ _ _ _ _ _ _ _ _ c.in_ok-layouts.ensures.leaves.0 c.in_ok-declaration.ensures.leaves.0 c.in_ok-lists.ensures.leaves.0
    c.in_ok-layouts.ensures.value c.in_ok-declaration.ensures.value c.in_ok-lists.ensures.value c.in_err-dex.ensures.value)

pub returns-in_err-layouts-clause-heard : goal.returns-in_err-layouts-clause-heard
returns-in_err-layouts-clause-heard g c =
    let p = err_from_is_err_and c.from_residual.result c.from_residual.ensures.1 in
    rw (p.1, p.2) (no_layouts _ _ _ _ _ c.in_err-layouts.ensures.heard)

pub returns-in_err-declaration-clause-heard : goal.returns-in_err-declaration-clause-heard
returns-in_err-declaration-clause-heard g c =
    let p = err_from_is_err_and c.from_residual-in_err-declaration.result c.from_residual-in_err-declaration.ensures.1 in
    rw (p.1, p.2) (no_declaration _ _ _ _ _ _ _ c.in_ok-layouts.ensures.heard c.in_err-declaration.ensures.heard)

pub returns-in_err-lists-clause-heard : goal.returns-in_err-lists-clause-heard
returns-in_err-lists-clause-heard g c =
    let p = err_from_is_err_and c.from_residual-in_err-lists.result c.from_residual-in_err-lists.ensures.1 in
    rw (p.1, p.2) (no_lists _ _ _ _ _ _ _ _ _ c.in_ok-layouts.ensures.heard c.in_ok-declaration.ensures.heard c.in_err-lists.ensures.heard)

pub returns-in_err-dex-clause-heard : goal.returns-in_err-dex-clause-heard
returns-in_err-dex-clause-heard g c =
    let p = err_from_is_err_and c.from_residual-in_err-dex.result c.from_residual-in_err-dex.ensures.1 in
    rw (p.1, p.2) (no_code _ _ _ _ _ _ _ _ _ _ _ c.in_ok-layouts.ensures.heard c.in_ok-declaration.ensures.heard c.in_ok-lists.ensures.heard
    c.in_err-dex.ensures.heard)

pub returns-clause-heard : goal.returns-clause-heard
returns-clause-heard g c =
    rw c.new.ensures
    (heard_behind _ _ _ _ _ _ _ _ _ _ c.in_ok-layouts.ensures.heard c.in_ok-declaration.ensures.heard c.in_ok-lists.ensures.heard
    c.in_ok-dex.ensures.heard)

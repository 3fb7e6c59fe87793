use Rattle.std.proofs.lemmas.Result.{err_from_is_err_and}
use Rattle.desk_service.proofs.Opened.{office_halts, lists_halt, desk_opens, gave_office}
use Rattle.desk_service.proofs.opening.desk_in.Goals as goal

pub returns-in_err-office-clause-opens : goal.returns-in_err-office-clause-opens
returns-in_err-office-clause-opens g c =
    let p = err_from_is_err_and c.from_residual.result c.from_residual.ensures.1 in
    rw (p.1, p.2) (office_halts c.one_form_or_fault.ensures _ _ _ c.in_err-office.ensures.opens)

pub returns-in_err-lists-clause-opens : goal.returns-in_err-lists-clause-opens
returns-in_err-lists-clause-opens g c =
    let p = err_from_is_err_and c.from_residual-in_err-lists.result c.from_residual-in_err-lists.ensures.1 in
    rw (p.1, p.2)
    (lists_halt c.one_form_or_fault.ensures _ _ _ c.in_ok-office.office _ c.in_ok-office.ensures.leaves.0
    c.in_ok-office.ensures.opens c.in_err-lists.ensures.opens)

pub returns-clause-opens : goal.returns-clause-opens
returns-clause-opens g c =
    desk_opens c.one_form_or_fault.ensures _ _ _ c.in_ok-office.office c.in_ok-lists.lists c.new-judge.result
    c.in_ok-office.ensures.leaves.0 c.in_ok-office.ensures.opens c.in_ok-lists.ensures.opens
    c.new-judge.ensures.lists c.new-judge.ensures.edition

pub returns-clause-gave : goal.returns-clause-gave
returns-clause-gave g c =
    gave_office _ c.in_ok-office.office c.in_ok-lists.lists c.new-judge.result _ _ _ c.in_ok-office.ensures.heard
    c.in_ok-lists.ensures.heard c.new-judge.ensures.lists

use Rattle.std.proofs.lemmas.Result.{err_from_is_err_and}
use Rattle.client_service.specs.Words.{asked_words}
use Rattle.client_service.proofs.Postings.{no_client, no_app, no_request, readied}
use Rattle.client_service.proofs.ready.ready_in.Goals as goal

pub returns-in_err-client-clause-readies : goal.returns-in_err-client-clause-readies
returns-in_err-client-clause-readies g c =
    let p = err_from_is_err_and c.from_residual.result c.from_residual.ensures.1 in
    rw (p.1, p.2) (no_client _ (asked_words c.args.asked.now) _ c.in_err-client.ensures.reads)

pub returns-in_err-content-clause-readies : goal.returns-in_err-content-clause-readies
returns-in_err-content-clause-readies g c =
    let p = err_from_is_err_and c.from_residual-in_err-content.result c.from_residual-in_err-content.ensures.1 in
    rw (p.1, p.2)
    (no_app _ (asked_words c.args.asked.now) c.in_ok-client.client c.in_ok-client.ensures.reads _ c.in_ok-client.ensures.leaves.0 _
    c.in_err-content.ensures.gives)

pub returns-in_err-request-clause-readies : goal.returns-in_err-request-clause-readies
returns-in_err-request-clause-readies g c =
    let p = err_from_is_err_and c.from_residual-in_err-request.result c.from_residual-in_err-request.ensures.1 in
    rw (p.1, p.2)
    (no_request _ (asked_words c.args.asked.now) c.in_ok-client.client c.in_ok-client.ensures.reads _ c.in_ok-client.ensures.leaves.0
    c.in_ok-content.content c.in_ok-content.ensures.gives _ c.in_err-request.ensures)

pub returns-clause-readies : goal.returns-clause-readies
returns-clause-readies g c =
    readied _ (asked_words c.args.asked.now) c.in_ok-client.client c.in_ok-client.ensures.reads _ c.in_ok-client.ensures.leaves.0
    c.in_ok-content.content c.in_ok-content.ensures.gives _ c.in_ok-request.ensures

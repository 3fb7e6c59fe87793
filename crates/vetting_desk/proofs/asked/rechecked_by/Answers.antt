use Rattle.std.proofs.Common.{rules, ◌≡◌, List, true, false, sym, subst}
use Rattle.fact_rows.specs.declared.row.Row.{Row}
use Rattle.certificate.specs.Cert.{IsCert}
use Rattle.vetting_desk.specs.Due.{due_of}
use Rattle.vetting_desk.proofs.PartsDue.{finds_other_digest, finds_rechecked}
use Rattle.vetting_desk.proofs.asked.rechecked_by.Goals as goal

pub returns-then-not-same_digest : goal.returns-then-not-same_digest
returns-then-not-same_digest c = λ bytes is.
    let apart : c.same_digest.result ≡ false = first_of (cc, grind rules) in
    finds_other_digest c.certificates_keep_their_laws.ensures bytes c.args.parts.now c.args.cert.now.set c.args.cert.now.digest c.digest_of-digest.result c.args.cert.now.rows
    is c.digest_of-digest.ensures (c.same_digest.ensures.apart apart)

pub returns : goal.returns
returns c = λ bytes is.
    let same : c.same_digest.result ≡ true = first_of (cc, grind rules) in
    let Cert : List Row → Type 0 = λ rows. IsCert bytes c.args.cert.now.set c.args.cert.now.digest rows in
    finds_rechecked c.certificates_keep_their_laws.ensures bytes c.args.parts.now c.args.cert.now.set c.args.cert.now.digest c.digest_of-digest.result c.as_slice.result.now c.in_ok-by.by (due_of c.answer_by.result)
    (subst Cert (sym c.as_slice.ensures) is) c.digest_of-digest.ensures (c.same_digest.ensures.same same)
    (rw c.analysis_of.ensures at c.in_ok-by.ensures.value) (rw c.analysis_of.ensures at c.in_ok-by.ensures.one) c.in_ok-by.ensures.told c.in_ok-by.ensures.safe c.answer_by.ensures

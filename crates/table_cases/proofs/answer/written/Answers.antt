use Rattle.table_cases.proofs.answer.written.Goals as goal

pub write_cert-requires-clause-few : goal.write_cert-requires-clause-few
write_cert-requires-clause-few c = rw c.as_slice.ensures c.requires.is.few

pub write_cert-requires-clause-known : goal.write_cert-requires-clause-known
write_cert-requires-clause-known c = rw c.as_slice.ensures c.requires.known

pub write_cert-requires-clause-ascend : goal.write_cert-requires-clause-ascend
write_cert-requires-clause-ascend c = rw c.as_slice.ensures c.requires.is.ascend

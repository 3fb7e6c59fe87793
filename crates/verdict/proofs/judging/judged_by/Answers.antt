use Rattle.verdict.proofs.judging.judged_by.Goals as goal

pub judged_by_table-requires-clause-within : goal.judged_by_table-requires-clause-within
judged_by_table-requires-clause-within g c = λ κs lives. c.requires.within c.in-Rows.table c.in-Rows.is

use Rattle.desk_answers.proofs.lines.put_line.Goals as goal

pub returns-in-Developer : goal.returns-in-Developer
returns-in-Developer c = rw c.in-Developer.is (rw c.as_bytes.ensures at c.put_state.ensures)

pub returns-in-Reviewer : goal.returns-in-Reviewer
returns-in-Reviewer c = rw c.in-Reviewer.is c.put_named.ensures

use Rattle.std.proofs.Common.{◌∙◌, refl}
use Rattle.vet_program.proofs.Running.{of_words, of_no_words}
use Rattle.desk_program.proofs.program.Goals as goal

pub returns-in-Ok-clause-runs : goal.returns-in-Ok-clause-runs
returns-in-Ok-clause-runs g c =
    of_words c.args.given c.in-Ok.words _ _
    (record { read = c.in-Ok.ensures.read; memory = c.in-Ok.ensures.memory; unread = c.in-Ok.ensures.unread })
    (rw c.deref.ensures.value at c.answered_by.ensures.runs)

pub returns-in-Err-clause-runs : goal.returns-in-Err-clause-runs
returns-in-Err-clause-runs g c =
    of_no_words c.args.given c.in-Err.status _ _
    (record { read = c.in-Err.ensures.read; memory = c.in-Err.ensures.memory; unread = c.in-Err.ensures.unread })
    (λ seven. (c.from.ensures ∙ seven, refl))

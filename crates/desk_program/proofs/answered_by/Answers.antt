use Rattle.std.proofs.Common.{map, string_bytes, refl}
use Rattle.std.specs.Process.{exit_status}
use Rattle.desk_words.specs.Serve.{asked_words, parse}
use Rattle.vet_program.specs.Program.{task_of as other_task}
use Rattle.desk_program.proofs.Running.{of_serving, of_other}
use Rattle.desk_program.proofs.answered_by.Goals as goal

pub returns-in-Some-clause-runs : goal.returns-in-Some-clause-runs
returns-in-Some-clause-runs g c =
    of_serving (parse (map string_bytes c.args.words.now)) (asked_words c.in-Some.asked) (other_task (map string_bytes c.args.words.now))
    (g.C.Clock.told c.args.outside.now.clock) _ _ (exit_status c.served_at_place.result) c.in-Some.ensures c.served_at_place.ensures.ends refl

pub returns-in-None-clause-runs : goal.returns-in-None-clause-runs
returns-in-None-clause-runs g c =
    of_other (parse (map string_bytes c.args.words.now)) (other_task (map string_bytes c.args.words.now))
    (g.C.Clock.told c.args.outside.now.clock) _ _ (exit_status c.answered_without_desk.result) c.in-None.ensures c.answered_without_desk.ensures refl

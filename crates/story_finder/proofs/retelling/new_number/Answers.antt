use Rattle.story_finder.proofs.Renumbering.{number_found, number_missing}
use Rattle.story_finder.proofs.retelling.new_number.Goals as goal

pub returns-in-Ok : goal.returns-in-Ok
returns-in-Ok c = number_found c.args.numbers.now c.requires.ascend c.in-Ok.place c.args.number c.in-Ok.ensures.bound c.in-Ok.ensures.ok

pub returns-in-Err : goal.returns-in-Err
returns-in-Err c = number_missing c.args.numbers.now c.requires.ascend c.in-Err.field-0 c.args.number c.in-Err.ensures.bound c.in-Err.ensures.position

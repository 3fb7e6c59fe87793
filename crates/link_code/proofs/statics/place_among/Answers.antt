use Rattle.link_code.proofs.Places.{place_there, place_missing}
use Rattle.link_code.proofs.statics.place_among.Goals as goal

pub returns-in-Ok : goal.returns-in-Ok
returns-in-Ok c = place_there c.args.statics.now c.requires.order c.args.at.now c.in-Ok.i c.in-Ok.ensures.bound c.in-Ok.ensures.position

pub returns-in-Err : goal.returns-in-Err
returns-in-Err c = place_missing c.args.statics.now c.requires.order c.args.at.now c.in-Err.field-0 c.in-Err.ensures.bound c.in-Err.ensures.position

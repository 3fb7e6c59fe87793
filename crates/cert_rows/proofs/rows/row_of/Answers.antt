use Rattle.cert_rows.specs.Rows.{row_of}
use Rattle.cert_rows.proofs.rows.row_of.Goals as goal

pub returns-in-Reached : goal.returns-in-Reached
unfolding row_of
returns-in-Reached c = rw c.in-Reached.is c.reached_from.ensures

pub returns-in-Calls : goal.returns-in-Calls
unfolding row_of
returns-in-Calls c = rw c.in-Calls.is c.calls_from.ensures

pub returns-in-CalledBy : goal.returns-in-CalledBy
unfolding row_of
returns-in-CalledBy c = rw c.in-CalledBy.is c.called_by_from.ensures

pub returns-in-Live : goal.returns-in-Live
unfolding row_of
returns-in-Live c = rw c.in-Live.is c.live_from.ensures

pub returns-in-Arrive : goal.returns-in-Arrive
unfolding row_of
returns-in-Arrive c = rw c.in-Arrive.is c.arrive_from.ensures

pub returns-in-Unknown : goal.returns-in-Unknown
unfolding row_of
returns-in-Unknown c = rw c.in-Unknown.is c.unknown_from.ensures

pub returns-in-Uses : goal.returns-in-Uses
unfolding row_of
returns-in-Uses c = rw c.in-Uses.is c.uses_from.ensures

use Rattle.line_round_trip.proofs.Whole.{lines_back}
use Rattle.line_round_trip.proofs.law.lines_are_decoded_back.Goals as goal

pub returns : goal.returns
returns c = lines_back c.tables_are_short.ensures

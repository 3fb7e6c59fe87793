use Rattle.story_finder.proofs.WantedNumbers.{one_more}
use Rattle.story_finder.proofs.wanted.want.Goals as goal

pub returns : goal.returns
returns c = one_more c.args.number c.args.wanted.now.keys c.insert.new.self.keys c.in_ok-insert.ensures.keys

use Rattle.story_finder.proofs.WantedNumbers.{greatest_is}
use Rattle.story_finder.proofs.wanted.greatest.Goals as goal

pub returns : goal.returns
returns c = greatest_is c.pop_last.result c.args.wanted.now.keys c.pop_last.new.self.keys c.pop_last.ensures.variant c.pop_last.ensures.removal c.pop_last.ensures.all_below

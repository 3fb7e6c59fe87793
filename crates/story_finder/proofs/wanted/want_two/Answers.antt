use Rattle.std.proofs.Common.{[], ◌∷◌}
use Rattle.story_finder.proofs.WantedNumbers.{more_on}
use Rattle.story_finder.proofs.wanted.want_two.Goals as goal

pub returns : goal.returns
returns c = more_on (c.args.a ∷ []) (c.args.b ∷ []) c.args.wanted.now.keys c.want.new.wanted.keys c.want-2.new.wanted.keys c.in_ok-want.ensures c.in_ok-want-2.ensures

use Rattle.std.proofs.Common.{[], ◌∷◌}
use Rattle.story_finder.proofs.WantedNumbers.{more_on}
use Rattle.story_finder.proofs.wanted.want_four.Goals as goal

pub returns : goal.returns
returns c = more_on (c.args.a ∷ c.args.b ∷ c.args.c ∷ []) (c.args.d ∷ []) c.args.wanted.now.keys c.want_three.new.wanted.keys c.want.new.wanted.keys c.in_ok-want_three.ensures c.in_ok-want.ensures

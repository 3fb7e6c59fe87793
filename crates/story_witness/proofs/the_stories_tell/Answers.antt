use Rattle.story_witness.proofs.Telling.{stories_tell}
use Rattle.story_witness.proofs.the_stories_tell.Goals as goal

pub returns : goal.returns
returns c = stories_tell

use Rattle.analysis_rules.specs.Ruled.{analysis_of, app_of, lists_of}
use Rattle.app_stories.proofs.Gathered.{all_by_rules}
use Rattle.app_stories.proofs.stories.stories_in.Goals as goal

pub stories_by-requires-clause-whole : goal.stories_by-requires-clause-whole
stories_by-requires-clause-whole c =
    let rules = c.args.rules.now in
    all_by_rules (analysis_of rules) (app_of rules) (lists_of rules) c.args.table.now c.found.result.now c.requires.derivable c.found.ensures.same

pub stories_by-requires-clause-there : goal.stories_by-requires-clause-there
stories_by-requires-clause-there c = λ row is. (c.found.ensures.same row).1 (c.requires.there row is)

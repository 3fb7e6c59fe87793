use Rattle.analysis_rules.specs.Ruled.{analysis_of, app_of, lists_of}
use Rattle.app_flow.proofs.Found.{more_is_solved, whole_is_solved}
use Rattle.app_flow.proofs.flow.solved_by.Goals as goal

pub returns-in-Whole : goal.returns-in-Whole
returns-in-Whole g c =
    let rules = c.args.rules.now in
    whole_is_solved (analysis_of rules) (app_of rules) (lists_of rules) c.args.limit c.requires.limit c.solve_with.new.store
    c.rows_stand_in_order.ensures c.of.result c.of.ensures c.in_ok-solve_with.field-0 c.in_ok-solve_with.ensures.solved c.in-Whole.is

pub returns-in-TooLarge : goal.returns-in-TooLarge
returns-in-TooLarge g c =
    let rules = c.args.rules.now in
    more_is_solved (analysis_of rules) (app_of rules) (lists_of rules) c.args.limit c.requires.limit c.solve_with.new.store _
    c.in_ok-solve_with.field-0 c.in_ok-solve_with.ensures.solved c.in-TooLarge.is

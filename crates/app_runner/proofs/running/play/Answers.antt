use Rattle.app_runner.proofs.Runs.{both}
use Rattle.app_runner.proofs.running.play.Goals as goal

pub play_on-requires-clause-ground : goal.play_on-requires-clause-ground
play_on-requires-clause-ground c = record {
  app = c.requires.app;
  lists = c.requires.lists;
  library = c.in_ok-library.ensures;
  events = both c.args.app.now c.args.lists.now c.in_ok-events.events c.in_ok-events.ensures.app c.in_ok-events.ensures.lists;
}

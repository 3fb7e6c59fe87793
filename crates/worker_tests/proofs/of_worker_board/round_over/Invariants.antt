use Rattle.std.proofs.Common.{◌≡◌}
use Rattle.climb_rules.specs.Climbing.{ClimbRule, ground_row}
use Rattle.worker_tests.proofs.of_worker_board.round_over.Given as goal

abbrev pub ghosts-one_round : goal.ghosts-one_round
ghosts-one_round a = record {
  rule = ClimbRule a.rules.now.last;
  is_start = λ row. row ≡ ground_row;
  limit = a.limit;
  table = a.table.now;
  done = a.frontier.from;
}

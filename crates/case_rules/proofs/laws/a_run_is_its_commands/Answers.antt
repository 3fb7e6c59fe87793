use Rattle.case_rules.proofs.Connected.{cases_of_run, replies_of_run, failures_of_run}
use Rattle.case_rules.proofs.laws.a_run_is_its_commands.Goals as goal

pub returns : goal.returns
returns c = record { cases = cases_of_run; replies = replies_of_run; store_failed = failures_of_run }

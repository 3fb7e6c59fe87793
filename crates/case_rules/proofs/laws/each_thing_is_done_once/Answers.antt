use Rattle.case_rules.proofs.Once.{same_again, dockets}
use Rattle.case_rules.proofs.Lasting.{all_kept}
use Rattle.case_rules.proofs.laws.each_thing_is_done_once.Goals as goal

pub returns : goal.returns
returns c = record { same_bytes = same_again; one_decision_an_edition = dockets; nothing_is_lost = all_kept }

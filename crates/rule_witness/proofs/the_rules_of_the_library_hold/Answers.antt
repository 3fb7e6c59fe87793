use Rattle.rule_witness.proofs.LibraryFacts.{library_rules_hold}
use Rattle.rule_witness.proofs.the_rules_of_the_library_hold.Goals as goal

pub returns : goal.returns
returns c = library_rules_hold

use Rattle.journal_law.proofs.OneReading.{have_one_reading}
use Rattle.journal_law.proofs.TellsRight.{tells_the_cases}
use Rattle.journal_law.proofs.law.a_journal_has_one_reading.Goals as goal

pub returns-clause-one : goal.returns-clause-one
returns-clause-one c = have_one_reading

pub returns-clause-told : goal.returns-clause-told
returns-clause-told c = tells_the_cases

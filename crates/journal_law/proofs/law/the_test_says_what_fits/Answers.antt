use Rattle.journal_law.proofs.TellsRight.{fits_true, true_fits}
use Rattle.journal_law.proofs.law.the_test_says_what_fits.Goals as goal

pub returns : goal.returns
returns c = λ change cases. (true_fits change cases, fits_true change cases)

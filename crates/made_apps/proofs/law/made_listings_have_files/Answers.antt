use Rattle.made_apps.proofs.Whole.{made_has_file}
use Rattle.made_apps.proofs.law.made_listings_have_files.Goals as goal

pub returns : goal.returns
returns c = made_has_file

use Rattle.form_witness.proofs.Calling.{links_tell}
use Rattle.form_witness.proofs.Telling.{listings_tell}
use Rattle.form_witness.proofs.the_listings_tell.Goals as goal

pub returns : goal.returns
returns c = (listings_tell, links_tell)

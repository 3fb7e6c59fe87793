use Rattle.dex_round_trip.proofs.Listings.{classes_read_back}
use Rattle.dex_round_trip.proofs.law.each_class_is_read_back.Goals as goal

pub returns : goal.returns
returns c = classes_read_back

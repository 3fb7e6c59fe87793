use Rattle.dex_round_trip.proofs.Listings.{listings_again}
use Rattle.dex_round_trip.proofs.law.listings_read_again.Goals as goal

pub returns : goal.returns
returns c = listings_again c.tables_are_short.ensures

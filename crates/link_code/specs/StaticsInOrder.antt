-- The list of statics, as it is numbered.
use Rattle.std.specs.Prelude.{◌<◌, List, length}
use Rattle.vet_base.specs.Ascending.{Ascends}
use Rattle.link_listing.specs.Texts.{Triple}
use Rattle.link_listing.specs.Orders.{triple_order}

-- each before the next, and few enough to be numbered
pub record StaticsInOrder (statics : List Triple) : Type 0 where
  pub order : Ascends triple_order statics
  pub short : length statics < 4294967296

-- That each generated app has a DEX file.
use Rattle.std.specs.Prelude.{ℕ, ◌≡◌, ◌<◌, ◌≤◌, None}
use Rattle.dex_maker.specs.declared.listing.Listing.{Listing}
use Rattle.dex_maker.specs.Made.{Makeable, fault_of}
use Rattle.made_apps.specs.Made.{made}

-- a listing within the limits of a DEX file, none of whose tables is too long and none of whose lines does not fit
pub record HasFile (listing : Listing) : Type 0 where
  pub within : Makeable listing
  pub without_fault : fault_of listing ≡ None

abbrev pub MadeListingsHaveFiles : Type 0
MadeListingsHaveFiles = (seed size : ℕ) → seed < 2147483648 → 1 ≤ size → size ≤ 2000 → HasFile (made seed size)

use Rattle.std.proofs.Common.{◌∙◌}
use Rattle.dex_round_trip.specs.Listings.{dex_of}
use Rattle.dex_round_trip.proofs.Listings.{made_stands}
use Rattle.dex_round_trip.proofs.back.read_back.Goals as goal

pub returns-in-Ok-clause-read : goal.returns-in-Ok-clause-read
returns-in-Ok-clause-read c =
    let listing = c.args.listing.now in
    let made = c.deref.ensures.value ∙ c.in_ok-bytes.ensures.made in
    c.in-Ok.ensures.law.one_dex c.in-Ok.dex (dex_of listing) c.in-Ok.ensures.found (made_stands c.listings_read_again.ensures c.deref.result.now listing made c.requires c.in_ok-bytes.ensures.without_fault)

pub memory_alone-requires : goal.memory_alone-requires
memory_alone-requires c =
    let listing = c.args.listing.now in
    let made = c.deref.ensures.value ∙ c.in_ok-bytes.ensures.made in
    let failed = c.in-Err.ensures.only (dex_of listing) (made_stands c.listings_read_again.ensures c.deref.result.now listing made c.requires c.in_ok-bytes.ensures.without_fault) in
    cc

use Rattle.std.proofs.Common.{◌≡◌, take}
use Rattle.std.specs.Prelude.{filter_map}
use Rattle.link_listing.specs.Components.{provider_of}
use Rattle.link_listing.proofs.components.providers_of.Given as goal

abbrev pub invariant-loop-row : goal.invariant-loop-row
invariant-loop-row l = l.names.items ≡ filter_map provider_of (take l.row-index l.manifest.components)

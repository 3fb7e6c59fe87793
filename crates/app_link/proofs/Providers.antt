-- There are no more providers than components.
use Rattle.std.proofs.Common.{◌≤◌, length}
use Rattle.app_machine.specs.declared.papers.Manifest.{Manifest}
use Rattle.link_listing.specs.Components.{provider_of, providers_of}
use Rattle.vet_base.proofs.Lists.{length-filter_map}

pub few_providers : (manifest : Manifest) → length (providers_of manifest) ≤ length manifest.components
unfolding providers_of
few_providers manifest = length-filter_map provider_of manifest.components

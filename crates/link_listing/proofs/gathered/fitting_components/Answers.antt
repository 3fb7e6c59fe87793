use Rattle.link_listing.proofs.Keeps.{components_fit}
use Rattle.link_listing.proofs.gathered.fitting_components.Goals as goal

pub returns-clause-fit : goal.returns-clause-fit
returns-clause-fit c = components_fit c.args.classes.now.entries c.args.manifest.now c.in_ok-components.components.items c.in_ok-components.ensures

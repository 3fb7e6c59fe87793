-- What the library may have: objects of a site that were handed, or a component in a state.
use Rattle.std.specs.Prelude.{◌≢◌}
use Rattle.fact_rows.specs.declared.site.Site.{Site}
use Rattle.fact_rows.specs.declared.site.Site.TheVariants.{Component}
use Rattle.fact_rows.specs.declared.row.Row.{Row}
use Rattle.fact_rows.specs.declared.row.Row.TheVariants.{Live, Handed}
use Rattle.cell_handed_rules.specs.declared.offer.Offer.{Offer}
use Rattle.cell_handed_rules.specs.declared.offer.Offer.TheVariants as offer

abbrev pub site_of : Offer → Site
site_of (offer.Handed s) = s
site_of (offer.Live c state) = Component c

abbrev pub there_as : Offer → Row
there_as (offer.Handed s) = Handed s
there_as (offer.Live c state) = Live c state

-- a component in the state 0 is not there
abbrev pub IsThere : Offer → Type 0
IsThere (offer.Handed s) = Unit {0}
IsThere (offer.Live c state) = state ≢ 0

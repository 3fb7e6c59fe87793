-- What the library may have: objects of a site that were handed, or a component in a state.
use Rattle.std.specs.Prelude.{◌≢◌, ℕ}
use Rattle.access_path.specs.declared.path.Path.{Path}
use Rattle.fact_rows.specs.declared.site.Site.{Site}
use Rattle.fact_rows.specs.declared.site.Site.TheVariants.{Component}
use Rattle.fact_rows.specs.declared.row.Row.{Row}
use Rattle.fact_rows.specs.declared.row.Row.TheVariants.{Live, CompTaint, Handed, HandedTaint}
use Rattle.rule_ground.specs.declared.key.Key.{Key}
use Rattle.rule_ground.specs.declared.key.Key.TheVariants.{LivesOf, CompTaintsOf, HandedOf, HandedTaintsOf}
use Rattle.handed_rules.specs.declared.offer.Offer.{Offer}
use Rattle.handed_rules.specs.declared.offer.Offer.TheVariants as offer

abbrev pub site_of : Offer → Site
site_of (offer.Handed s) = s
site_of (offer.Live c state) = Component c

-- that they are there, and that they lead to a label
abbrev pub there_as : Offer → Row
there_as (offer.Handed s) = Handed s
there_as (offer.Live c state) = Live c state

abbrev pub leads_as : Offer → Path → ℕ → Row
leads_as (offer.Handed s) p l = HandedTaint s p l
leads_as (offer.Live c state) p l = CompTaint c state p l

-- the keys under which these stand
abbrev pub there_key : Offer → Key
there_key (offer.Handed s) = HandedOf s
there_key (offer.Live c state) = LivesOf c

abbrev pub labels_key : Offer → Key
labels_key (offer.Handed s) = HandedTaintsOf s
labels_key (offer.Live c state) = CompTaintsOf c state

-- a component in the state 0 is not there
abbrev pub IsThere : Offer → Type 0
IsThere (offer.Handed s) = Unit {0}
IsThere (offer.Live c state) = state ≢ 0

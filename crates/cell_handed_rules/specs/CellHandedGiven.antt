-- What a row gives by the rule of handed results of the second set, as a list of conclusions.
use Rattle.std.specs.Prelude.{◌==◌, ℕ, List, [], ◌++◌, Option, Some, None, cond, flat_map}
use Rattle.app_machine.specs.declared.lists.Lists.{Lists}
use Rattle.app_machine.specs.declared.lists.SummaryId.TheVariants as summary_id
use Rattle.app_machine.specs.declared.app.App.{App}
use Rattle.app_machine.specs.Names.{Name}
use Rattle.app_machine.specs.State.{result_register}
use Rattle.app_parts.specs.Views.{call_result}
use Rattle.fact_rows.specs.declared.row.Row.{Row}
use Rattle.fact_rows.specs.declared.row.Row.TheVariants.{Live, Handed, Uses}
use Rattle.flow_rules.specs.Sites.{site_class}
use Rattle.rule_ground.specs.declared.conclusion.Conclusion.{Conclusion}
use Rattle.rule_ground.specs.declared.key.Key.{Key}
use Rattle.rule_ground.specs.declared.key.Key.TheVariants.{AnyLive, AnyHanded, UsesOf}
use Rattle.rule_ground.specs.Given.{of_two}
use Rattle.library_ground.specs.CallRow.{CallRow, call_row}
use Rattle.handed_rules.specs.HandedGiven.{is_handed, takes}
use Rattle.register_readers.specs.Readings.{Readings}
use Rattle.cell_ground.specs.declared.content.Content.TheVariants.{Object}
use Rattle.cell_ground.specs.Coming.{coming}
use Rattle.cell_handed_rules.specs.declared.offer.Offer.{Offer}
use Rattle.cell_handed_rules.specs.declared.offer.Offer.TheVariants as offer
use Rattle.cell_handed_rules.specs.Offers.{site_of, there_as}

-- what is offered comes to the result
abbrev pub object_back : Readings → CallRow → Offer → List Conclusion
object_back readings c o = coming readings 48 (of_two (Uses c.node c.uses) (there_as o)) (Object (site_of o)) c.node result_register c.next

module _ (app : App) (readings : Readings) (lists : Lists) where
  -- where the result may be of its class
  abbrev pub offered : Offer → Name → CallRow → List Conclusion
  offered o class c = cond (takes app lists c class) (object_back readings c o) []

  abbrev pub offered_as : Offer → Option Name → CallRow → List Conclusion
  offered_as o None c = []
  offered_as o (Some class) c = offered o class c

  -- from the use: each offer
  abbrev pub offer_row : CallRow → Row → List Conclusion
  offer_row c (Handed s) = offered_as (offer.Handed s) (site_class app lists s) c
  offer_row c (Live d state) = cond (state == 0) [] (offered_as (offer.Live d state) (site_class app lists (site_of (offer.Live d state))) c)
  offer_row c _ = []

  abbrev pub call_gives : (Key → List Row) → CallRow → List Conclusion
  call_gives hits c = cond (is_handed (call_result c.row.gives)) (flat_map (offer_row c) (hits AnyHanded) ++ flat_map (offer_row c) (hits AnyLive)) []

  abbrev pub use_gives : (Key → List Row) → Option CallRow → List Conclusion
  use_gives hits None = []
  use_gives hits (Some c) = call_gives hits c

  -- from the offer: each use of one of these rows of the lists
  abbrev pub taken_by : Offer → Name → Option CallRow → List Conclusion
  taken_by o class None = []
  taken_by o class (Some c) = offered o class c

  abbrev pub taker : Offer → Name → Row → List Conclusion
  taker o class (Uses n u) = taken_by o class (call_row app lists n u)
  taker o class _ = []

  abbrev pub row_takers : (Key → List Row) → Offer → Name → ℕ → List Conclusion
  row_takers hits o class i = flat_map (taker o class) (hits (UsesOf (summary_id.Row i)))

  abbrev pub takers : (Key → List Row) → List ℕ → Offer → Name → List Conclusion
  takers hits rows o class = flat_map (row_takers hits o class) rows

  abbrev pub takers_as : (Key → List Row) → List ℕ → Offer → Option Name → List Conclusion
  takers_as hits rows o None = []
  takers_as hits rows o (Some class) = takers hits rows o class

  abbrev pub offer_gives : (Key → List Row) → List ℕ → Offer → List Conclusion
  offer_gives hits rows o = takers_as hits rows o (site_class app lists (site_of o))

  -- with the numbers of the rows of the lists whose results are handed
  abbrev pub cell_handed_given : List ℕ → (Key → List Row) → Row → List Conclusion
  cell_handed_given rows hits (Uses n u) = use_gives hits (call_row app lists n u)
  cell_handed_given rows hits (Handed s) = offer_gives hits rows (offer.Handed s)
  cell_handed_given rows hits (Live c state) = cond (state == 0) [] (offer_gives hits rows (offer.Live c state))
  cell_handed_given rows hits _ = []

  -- the rule is led by the use
  abbrev pub cell_handed_leads : (Key → List Row) → Row → List Conclusion
  cell_handed_leads hits (Uses n u) = use_gives hits (call_row app lists n u)
  cell_handed_leads hits _ = []

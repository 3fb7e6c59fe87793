-- What a row gives by the rule of handed results, as a list of conclusions.
use Rattle.std.specs.Prelude.{◌==◌, ◌&&◌, ℕ, Bool, true, false, List, [], ◌++◌, Option, Some, None, cond, flat_map}
use Rattle.access_path.specs.declared.path.Path.{Path}
use Rattle.app_machine.specs.declared.lists.Lists.{Lists}
use Rattle.app_machine.specs.declared.lists.SummaryId.TheVariants as summary_id
use Rattle.app_machine.specs.declared.app.App.{App}
use Rattle.app_machine.specs.Names.{Name, is_reference}
use Rattle.app_machine.specs.State.{result_register}
use Rattle.app_model.specs.Above.{is_below}
use Rattle.app_parts.specs.declared.summary_view.CallResult.{CallResult}
use Rattle.app_parts.specs.declared.summary_view.CallResult.TheVariants as result
use Rattle.app_parts.specs.Views.{call_result}
use Rattle.fact_rows.specs.declared.row.Row.{Row}
use Rattle.fact_rows.specs.declared.row.Row.TheVariants.{Live, CompTaint, Handed, HandedTaint, Uses}
use Rattle.flow_rules.specs.Sites.{site_class}
use Rattle.rule_ground.specs.declared.conclusion.Conclusion.{Conclusion}
use Rattle.rule_ground.specs.declared.content.Content.TheVariants.{Object, Label}
use Rattle.rule_ground.specs.declared.key.Key.{Key}
use Rattle.rule_ground.specs.declared.key.Key.TheVariants.{AnyLive, AnyHanded, UsesOf}
use Rattle.rule_ground.specs.Given.{of_two, of_three, at_each}
use Rattle.library_ground.specs.CallRow.{CallRow, call_row}
use Rattle.handed_rules.specs.declared.offer.Offer.{Offer}
use Rattle.handed_rules.specs.declared.offer.Offer.TheVariants as offer
use Rattle.handed_rules.specs.declared.offer.Known.{Known}
use Rattle.handed_rules.specs.declared.offer.Known.TheVariants.{There, Leads}
use Rattle.handed_rules.specs.Offers.{site_of, there_as, leads_as, there_key, labels_key}

abbrev pub is_handed : CallResult → Bool
is_handed result.Handed = true
is_handed _ = false

-- the result of the call may be an object of the class
abbrev pub takes : App → Lists → CallRow → Name → Bool
takes app lists c class = is_handed (call_result c.row.gives) && (is_reference c.ret && is_below app lists class c.ret)

-- the result is what is offered, and has a label to which that leads
abbrev pub object_back : CallRow → Offer → List Conclusion
object_back c o = at_each 48 (of_two (Uses c.node c.uses) (there_as o)) (Object (site_of o)) c.node result_register c.next

abbrev pub label_back : CallRow → Offer → Path → ℕ → List Conclusion
label_back c o p l = at_each 48 (of_three (Uses c.node c.uses) (there_as o) (leads_as o p l)) (Label p l) c.node result_register c.next

abbrev pub label_row : CallRow → Offer → Row → List Conclusion
label_row c o (HandedTaint s p l) = label_back c o p l
label_row c o (CompTaint d state p l) = label_back c o p l
label_row c o _ = []

-- what is known of an offer comes back from the call
abbrev pub known_gives : (Key → List Row) → CallRow → Offer → Known → List Conclusion
known_gives hits c o There = object_back c o ++ flat_map (label_row c o) (hits (labels_key o))
known_gives hits c o (Leads p l) = label_back c o p l

module _ (app : App) (lists : Lists) (hits : Key → List Row) where
  -- so it does where the result may be of its class
  abbrev pub offered : Offer → Known → Name → CallRow → List Conclusion
  offered o w class c = cond (takes app lists c class) (known_gives hits c o w) []

  abbrev pub offered_as : Offer → Option Name → CallRow → List Conclusion
  offered_as o None c = []
  offered_as o (Some class) c = offered o There class c

  -- from the use: each offer
  abbrev pub offer_row : CallRow → Row → List Conclusion
  offer_row c (Handed s) = offered_as (offer.Handed s) (site_class app lists s) c
  offer_row c (Live d state) = cond (state == 0) [] (offered_as (offer.Live d state) (site_class app lists (site_of (offer.Live d state))) c)
  offer_row c _ = []

  abbrev pub call_gives : CallRow → List Conclusion
  call_gives c = cond (is_handed (call_result c.row.gives)) (flat_map (offer_row c) (hits AnyHanded) ++ flat_map (offer_row c) (hits AnyLive)) []

  abbrev pub use_gives : Option CallRow → List Conclusion
  use_gives None = []
  use_gives (Some c) = call_gives c

  -- from the offer: each use of one of these rows of the lists
  abbrev pub taken_by : Offer → Known → Name → Option CallRow → List Conclusion
  taken_by o w class None = []
  taken_by o w class (Some c) = offered o w class c

  abbrev pub taker : Offer → Known → Name → Row → List Conclusion
  taker o w class (Uses n u) = taken_by o w class (call_row app lists n u)
  taker o w class _ = []

  abbrev pub row_takers : Offer → Known → Name → ℕ → List Conclusion
  row_takers o w class i = flat_map (taker o w class) (hits (UsesOf (summary_id.Row i)))

  abbrev pub takers : List ℕ → Offer → Known → Name → List Conclusion
  takers rows o w class = flat_map (row_takers o w class) rows

  abbrev pub takers_as : List ℕ → Offer → Known → Option Name → List Conclusion
  takers_as rows o w None = []
  takers_as rows o w (Some class) = takers rows o w class

  abbrev pub offer_gives : List ℕ → Offer → Known → List Conclusion
  offer_gives rows o w = takers_as rows o w (site_class app lists (site_of o))

  -- from a label, where what leads to it is there
  abbrev pub where_there : List ℕ → Offer → Path → ℕ → Row → List Conclusion
  where_there rows (offer.Handed s) p l (Handed t) = offer_gives rows (offer.Handed s) (Leads p l)
  where_there rows (offer.Live c state) p l (Live d other) = cond (other == state) (offer_gives rows (offer.Live c state) (Leads p l)) []
  where_there rows o p l _ = []

  abbrev pub label_gives : List ℕ → Offer → Path → ℕ → List Conclusion
  label_gives rows o p l = flat_map (where_there rows o p l) (hits (there_key o))

-- with the numbers of the rows of the lists whose results are handed
abbrev pub handed_given : App → Lists → List ℕ → (Key → List Row) → Row → List Conclusion
handed_given app lists rows hits (Uses n u) = use_gives app lists hits (call_row app lists n u)
handed_given app lists rows hits (Handed s) = offer_gives app lists hits rows (offer.Handed s) There
handed_given app lists rows hits (HandedTaint s p l) = label_gives app lists hits rows (offer.Handed s) p l
handed_given app lists rows hits (Live c state) = cond (state == 0) [] (offer_gives app lists hits rows (offer.Live c state) There)
handed_given app lists rows hits (CompTaint c state p l) = cond (state == 0) [] (label_gives app lists hits rows (offer.Live c state) p l)
handed_given app lists rows hits _ = []

-- the rule has a use among its premises, and is led by it
abbrev pub handed_leads : App → Lists → (Key → List Row) → Row → List Conclusion
handed_leads app lists hits (Uses n u) = use_gives app lists hits (call_row app lists n u)
handed_leads app lists hits _ = []

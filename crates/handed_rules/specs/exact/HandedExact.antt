-- What the code of handed results lists is just what their rule gives, and uses lead all that it gives.
use Rattle.std.proofs.Common.{◌≡◌, ◌⊎◌, ℕ, List, [], ◌∷◌, refl, sym, subst, inl, inr}
use Rattle.app_index.specs.Handed.{handed_rows}
use Rattle.app_machine.specs.declared.lists.Lists.{Lists}
use Rattle.app_machine.specs.declared.lists.SummaryId.{SummaryId}
use Rattle.app_machine.specs.declared.app.App.{App}
use Rattle.app_machine.specs.Sound.{SoundApp}
use Rattle.app_machine.specs.SoundLists.{SoundLists}
use Rattle.app_machine.specs.State.{result_register}
use Rattle.app_model.specs.EventLaws.{EventsAreExact}
use Rattle.access_path.specs.declared.path.Path.{Path}
use Rattle.fact_rows.specs.declared.context.Node.{Node}
use Rattle.fact_rows.specs.declared.row.Row.{Row}
use Rattle.fact_rows.specs.declared.row.Row.TheVariants.{Points, Taint, Uses}
use Rattle.flow_rules.specs.Nodes.{at_pc, GoesOn}
use Rattle.flow_rules.specs.HandedRules.{HandedRule, MayGiveBack, handed_points, handed_taint, live_points, live_taint}
use Rattle.flow_rules.specs.Rules.{Each}
use Rattle.rule_ground.specs.declared.conclusion.Conclusion.{Conclusion}
use Rattle.rule_ground.specs.declared.key.Key.{Key}
use Rattle.rule_ground.specs.Hits.{IsHits}
use Rattle.rule_ground.specs.Exact.{IsSound, IsListed, IsJust, IsLed}
use Rattle.rule_ground.specs.Given.{of_two, of_three}
use Rattle.rule_ground.specs.Leading.{HasLead, HasLeader, led_by_ones}
use Rattle.rule_ground.specs.Listing.{here, either}
use Rattle.vet_base.specs.Members.{In}
use Rattle.vet_base.proofs.Members.{each_in}
use Rattle.handed_rules.specs.declared.offer.Offer.{Offer}
use Rattle.handed_rules.specs.declared.offer.Offer.TheVariants as offer
use Rattle.handed_rules.specs.declared.offer.Known.TheVariants.{There, Leads}
use Rattle.handed_rules.specs.Offers.{site_of, there_as, leads_as, IsThere}
use Rattle.handed_rules.specs.HandedGiven.{handed_given, handed_leads}
use Rattle.handed_rules.specs.exact.HandedSound.{handed_sound}
use Rattle.handed_rules.specs.exact.HandedComplete.{object_offered, label_offered, label_by_itself, in_takers, in_use, in_there, in_leads}

-- app and lists are sound, their events are those of the machine, and these are the rows whose results are handed
pub record HandedReady (app : App) (lists : Lists) (rows : List ℕ) : Type 0 where
  pub sound_app : SoundApp app
  pub sound_lists : SoundLists lists
  pub events : EventsAreExact app lists
  pub same_rows : rows ≡ handed_rows lists

module _ (app : App) (lists : Lists) (events : EventsAreExact app lists) (has : Row → Type 0) (hits : Key → List Row)
    (law : (k : Key) → IsHits has k (hits k)) where
  abbrev rows : List ℕ
  rows = handed_rows lists

  abbrev given : Row → List Conclusion
  given = handed_given app lists rows hits

  -- from any of three rows
  any_of : {row a b c : Row} (rule : ℕ) (premises : List Row) (x : Row) → In row (a ∷ b ∷ c ∷ []) → IsListed (given a) rule premises x →
      IsListed (given b) rule premises x → IsListed (given c) rule premises x → IsListed (given row) rule premises x
  any_of rule premises x (inl e) f g h = subst (λ z. IsListed (given z) rule premises x) (sym e) f
  any_of rule premises x (inr i) f g h = either given rule premises x i g h

  object_listed : (row : Row) (n : Node) (u : SummaryId) (pc : ℕ) (o : Offer) → IsThere o → MayGiveBack app lists n u (site_of o) → GoesOn app n pc →
      has (Uses n u) → has (there_as o) → In row (Uses n u ∷ there_as o ∷ []) →
      IsListed (given row) 48 (Uses n u ∷ there_as o ∷ []) (Points (at_pc n pc) result_register (site_of o))
  object_listed row n u pc o there may goes p q i =
      let x = Points (at_pc n pc) result_register (site_of o) in
      let listed = object_offered app lists events has hits law n u pc goes o may in
      either given _ _ _ i
      (here given (Uses n u) 48 (of_two (Uses n u) (there_as o)) x (in_use app lists has hits law n u o there q may _ listed))
      (here given (there_as o) 48 (of_two (Uses n u) (there_as o)) x
      (in_there app lists has hits law n u rows o there _ (in_takers app lists events has hits law n u pc goes o may p There _ listed)))

  label_listed : (row : Row) (n : Node) (u : SummaryId) (pc : ℕ) (o : Offer) (path : Path) (l : ℕ) → IsThere o → MayGiveBack app lists n u (site_of o) →
      GoesOn app n pc → has (Uses n u) → has (there_as o) → has (leads_as o path l) → In row (Uses n u ∷ there_as o ∷ leads_as o path l ∷ []) →
      IsListed (given row) 48 (Uses n u ∷ there_as o ∷ leads_as o path l ∷ []) (Taint (at_pc n pc) result_register path l)
  label_listed row n u pc o path l there may goes p q h i =
      let x = Taint (at_pc n pc) result_register path l in
      let premises = of_three (Uses n u) (there_as o) (leads_as o path l) in
      let listed = label_offered app lists events has hits law n u pc goes o may path l h in
      let itself = label_by_itself app lists events has hits law n u pc goes o may path l in
      any_of _ _ _ i
      (here given (Uses n u) 48 premises x (in_use app lists has hits law n u o there q may _ listed))
      (here given (there_as o) 48 premises x
      (in_there app lists has hits law n u rows o there _ (in_takers app lists events has hits law n u pc goes o may p There _ listed)))
      (here given (leads_as o path l) 48 premises x
      (in_leads app lists has hits law n u rows o there q path l _ (in_takers app lists events has hits law n u pc goes o may p (Leads path l) _ itself)))

  handed_complete : (row : Row) (rule : ℕ) (premises : List Row) (x : Row) → HandedRule app lists rule premises x → Each has premises →
      In row premises → IsListed (given row) rule premises x
  handed_complete row rule premises x (handed_points {n = n} {u = u} {pc = pc} {s = s} may goes) k i =
      object_listed row n u pc (offer.Handed s) tt may goes k.0 k.1.0 i
  handed_complete row rule premises x (handed_taint {n = n} {u = u} {pc = pc} {l = l} {s = s} {p = p} may goes) k i =
      label_listed row n u pc (offer.Handed s) p l tt may goes k.0 k.1.0 k.1.1.0 i
  handed_complete row rule premises x (live_points {n = n} {u = u} {c = c} {state = state} {pc = pc} may there goes) k i =
      object_listed row n u pc (offer.Live c state) there may goes k.0 k.1.0 i
  handed_complete row rule premises x (live_taint {n = n} {u = u} {c = c} {state = state} {pc = pc} {l = l} {p = p} may there goes) k i =
      label_listed row n u pc (offer.Live c state) p l there may goes k.0 k.1.0 k.1.1.0 i

  pub handed_exact : (row : Row) → has row → IsJust (HandedRule app lists) has row (given row)
  handed_exact row there = record {
    sound = λ c i. each_in (IsSound (HandedRule app lists) has row) (given row) c (handed_sound app lists events has hits law rows row there) i;
    complete = λ rule premises x f. handed_complete row rule premises x f.by f.known f.uses;
  }

  -- what rows lead is part of what they give
  led_given : (row : Row) (c : Conclusion) → In c (handed_leads app lists hits row) → In c (given row)
  led_given (Uses n u) c i = i
  led_given _ c i = absurd i

  leader : (rule : ℕ) (premises : List Row) (x : Row) → HandedRule app lists rule premises x → Each has premises →
      HasLeader has given (handed_leads app lists hits) premises ⊎ HasLead has (handed_leads app lists hits) rule premises x
  leader rule premises x (handed_points {n = n} {u = u} may goes) k = inl (Uses n u, (k.0, (inl refl, refl)))
  leader rule premises x (handed_taint {n = n} {u = u} may goes) k = inl (Uses n u, (k.0, (inl refl, refl)))
  leader rule premises x (live_points {n = n} {u = u} may there goes) k = inl (Uses n u, (k.0, (inl refl, refl)))
  leader rule premises x (live_taint {n = n} {u = u} may there goes) k = inl (Uses n u, (k.0, (inl refl, refl)))

  pub handed_led : IsLed (HandedRule app lists) has (handed_leads app lists hits)
  handed_led = led_by_ones (HandedRule app lists) has given handed_exact (handed_leads app lists hits) led_given leader

-- the same of the code, which is told the rows
pub rules_exact : (app : App) (lists : Lists) (numbers : List ℕ) → HandedReady app lists numbers → (has : Row → Type 0) (hits : Key → List Row) →
    ((k : Key) → IsHits has k (hits k)) → (row : Row) → has row → IsJust (HandedRule app lists) has row (handed_given app lists numbers hits row)
rules_exact app lists numbers ready has hits law row there =
    subst (λ r. IsJust (HandedRule app lists) has row (handed_given app lists r hits row)) (sym ready.same_rows)
    (handed_exact app lists ready.events has hits law row there)

pub rules_led : (app : App) (lists : Lists) (numbers : List ℕ) → HandedReady app lists numbers → (has : Row → Type 0) (hits : Key → List Row) →
    ((k : Key) → IsHits has k (hits k)) → IsLed (HandedRule app lists) has (handed_leads app lists hits)
rules_led app lists numbers ready has hits law = handed_led app lists ready.events has hits law

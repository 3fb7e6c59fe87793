-- What the code of handed results lists is just what their rule gives, and uses lead all that it gives.
use Rattle.std.proofs.Common.{◌≡◌, ◌≢◌, ◌⊎◌, ◌==◌, ◌&&◌, ◌++◌, ℕ, true, false, List, [], ◌∷◌, Option, Some, None, flat_map, refl, sym, ap, subst, ◌∙◌, inl, inr}
use Rattle.std.specs.List.{AllByRecursion}
use Rattle.std.proofs.lemmas.Bool.{and_parts, and_from, eq-eqb, ne_eqb}
use Rattle.vet_base.specs.Members.{In}
use Rattle.vet_base.proofs.Members.{each_in, in_front, in_back, in_flat}
use Rattle.vet_base.proofs.Every.{each_append, each_flat, each_where, each_unless, in_where, in_unless}
use Rattle.app_index.specs.Handed.{handed_rows}
use Rattle.app_machine.specs.declared.summary.Gives.{Gives}
use Rattle.app_machine.specs.declared.summary.Gives.TheVariants as gives
use Rattle.app_machine.specs.declared.lists.Lists.{Lists}
use Rattle.app_machine.specs.declared.lists.SummaryId.{SummaryId}
use Rattle.app_machine.specs.declared.lists.SummaryId.TheVariants as summary_id
use Rattle.app_machine.specs.declared.app.App.{App}
use Rattle.app_machine.specs.Names.{Name, is_reference}
use Rattle.app_machine.specs.Sound.{SoundApp}
use Rattle.app_machine.specs.SoundLists.{SoundLists}
use Rattle.app_machine.specs.State.{result_register}
use Rattle.app_model.specs.Above.{is_below}
use Rattle.app_model.specs.EventLaws.{EventsAreExact}
use Rattle.app_parts.specs.Views.{call_result}
use Rattle.fact_rows.specs.declared.context.Node.{Node}
use Rattle.fact_rows.specs.declared.site.Site.TheVariants.{Component}
use Rattle.fact_rows.specs.declared.site.Site.{Site}
use Rattle.fact_rows.specs.declared.row.Row.{Row}
use Rattle.fact_rows.specs.declared.row.Row.TheVariants.{Points, Live, Handed, Uses}
use Rattle.flow_rules.specs.Nodes.{at_pc, GoesOn}
use Rattle.flow_rules.specs.Sites.{site_class, SiteClass}
use Rattle.flow_rules.specs.LibraryRules.{RowAt}
use Rattle.flow_rules.specs.HandedRules.{MayGiveBack}
use Rattle.flow_rules.specs.Rules.{Each}
use Rattle.rule_ground.specs.declared.conclusion.Conclusion.{Conclusion}
use Rattle.rule_ground.specs.declared.key.Key.{Key}
use Rattle.rule_ground.specs.declared.key.Key.TheVariants.{AnyLive, AnyHanded, UsesOf}
use Rattle.rule_ground.specs.Given.{of_two, concludes}
use Rattle.rule_ground.specs.Hits.{IsHits}
use Rattle.rule_ground.specs.Exact.{IsSound, IsListed, IsJust, IsLed}
use Rattle.rule_ground.specs.Leading.{HasLead, HasLeader, led_by_ones}
use Rattle.rule_ground.specs.Listing.{here, either, at_hit, of_hits, found}
use Rattle.library_ground.specs.CallRow.{CallRow, call_row}
use Rattle.library_ground.specs.Stands.{of_row, stands, row_here, goes_on, goes_in}
use Rattle.handed_rules.specs.HandedGiven.{is_handed, takes}
use Rattle.register_readers.specs.Readings.{Readings}
use Rattle.cell_rules.specs.HandedRules.{HandedRule, handed_points, live_points}
use Rattle.cell_rules.specs.Reading.{ReadAt}
use Rattle.cell_ground.specs.declared.content.Content.TheVariants.{Object}
use Rattle.cell_ground.specs.ComingListed.{coming_sound, in_coming}
use Rattle.cell_ground.specs.Ready.{Ready, listed_result}
use Rattle.cell_handed_rules.specs.declared.offer.Offer.{Offer}
use Rattle.cell_handed_rules.specs.declared.offer.Offer.TheVariants as offer
use Rattle.cell_handed_rules.specs.Offers.{site_of, there_as, IsThere}
use Rattle.cell_handed_rules.specs.CellHandedGiven.{object_back, offered, offered_as, offer_row, call_gives, use_gives, taken_by, taker, row_takers, takers_as, offer_gives, cell_handed_given, cell_handed_leads}
use Rattle.cell_handed_rules.specs.exact.RowNumbers.{row_number, in_handed_rows}

handed_result : (g : Gives) → is_handed (call_result g) ≡ true → g ≡ gives.Handed
handed_result gives.Handed e = refl
handed_result gives.Blank e = absurd cc
handed_result (gives.Same i) e = absurd cc
handed_result (gives.Taken i) e = absurd cc
handed_result (gives.Joined from) e = absurd cc
handed_result (gives.Shared g) e = absurd cc

not_zero : (state : ℕ) → (state == 0) ≡ false → state ≢ 0
not_zero state f zero_is = let both : true ≡ false = sym (eq-eqb state 0 zero_is) ∙ f in cc

module _ (app : App) (readings : Readings) (lists : Lists) (ready : Ready app readings) (events : EventsAreExact app lists) (has : Row → Type 0)
    (hits : Key → List Row) (law : (k : Key) → IsHits has k (hits k)) where
  abbrev Sound : Row → Conclusion → Type 0
  Sound row = IsSound (HandedRule app lists) has row

  abbrev rows : List ℕ
  rows = handed_rows lists

  abbrev given : Row → List Conclusion
  given row = cell_handed_given app readings lists rows hits row

  abbrev led : Row → List Conclusion
  led row = cell_handed_leads app readings lists hits row

  may_give : (n : Node) (u : SummaryId) (r : RowAt app lists n u) (s : Site) (class : Name) → SiteClass app lists s class →
      takes app lists (of_row app lists n u r) class ≡ true → MayGiveBack app lists n u s
  may_give n u r s class is t =
      let ret = r.at.proto.ret in
      let both = and_parts (is_handed (call_result r.row.gives)) (is_reference ret && is_below app lists class ret) t in
      let types = and_parts (is_reference ret) (is_below app lists class ret) both.1 in
      record {
        call = r;
        is_handed = handed_result r.row.gives both.0;
        reference = types.0;
        class = class;
        of_class = is;
        below = (events.below class ret).0 types.1;
      }

  object_rule : (n : Node) (u : SummaryId) (o : Offer) → IsThere o → MayGiveBack app lists n u (site_of o) → (pc v : ℕ) → GoesOn app n pc →
      ReadAt app n.by.method result_register pc v →
      HandedRule app lists 48 (Uses n u ∷ there_as o ∷ []) (Points (at_pc n v) result_register (site_of o))
  object_rule n u (offer.Handed s) there may pc v goes read = handed_points may goes read
  object_rule n u (offer.Live c state) there may pc v goes read = live_points may there goes read

  -- an offer comes back from a call
  offered_sound : (row : Row) (n : Node) (u : SummaryId) (r : RowAt app lists n u) (o : Offer) (class : Name) → In row (Uses n u ∷ there_as o ∷ []) →
      IsThere o → SiteClass app lists (site_of o) class → has (Uses n u) → has (there_as o) →
      AllByRecursion (Sound row) (offered app readings lists o class (of_row app lists n u r))
  offered_sound row n u r o class among there is uses p =
      let c = of_row app lists n u r in
      each_where (Sound row) (takes app lists c class) (object_back readings c o) (λ t.
      coming_sound app readings ready (Sound row) 48 (of_two (Uses n u) (there_as o)) (Object (site_of o)) n c.next result_register (λ pc v j read. record {
        by = object_rule n u o there (may_give n u r (site_of o) class is t) pc v (goes_on app lists n u r j) read;
        known = (uses, (p, tt));
        uses = among;
      }))

  -- from what is offered
  offer_sound : (o : Offer) → IsThere o → has (there_as o) → AllByRecursion (Sound (there_as o)) (offer_gives app readings lists hits rows o)
  offer_sound o there p = of_class (site_class app lists (site_of o)) refl
    where
      of_use : (class : Name) → SiteClass app lists (site_of o) class → (n : Node) (u : SummaryId) → has (Uses n u) → (q : Option CallRow) →
          call_row app lists n u ≡ q → AllByRecursion (Sound (there_as o)) (taken_by app readings lists o class q)
      of_use class is n u uses None e = tt
      of_use class is n u uses (Some c) e =
          let r = stands app lists n u c e in
          subst (λ z. AllByRecursion (Sound (there_as o)) (offered app readings lists o class z)) (sym r.1)
          (offered_sound (there_as o) n u r.0 o class (inr (inl refl)) there is uses p)

      of_class : (q : Option Name) → site_class app lists (site_of o) ≡ q → AllByRecursion (Sound (there_as o)) (takers_as app readings lists hits rows o q)
      of_class None e = tt
      of_class (Some class) e = each_flat (Sound (there_as o)) (row_takers app readings lists hits o class) rows (λ i _.
          of_hits has hits law (Sound (there_as o)) (UsesOf (summary_id.Row i)) (taker app readings lists o class) (λ other j.
          let w = (law (UsesOf (summary_id.Row i))).under other j in
          let u : SummaryId = summary_id.Row i in
          (Uses w.0 u, w.1, of_use class (record { is_class = e }) w.0 u (at_hit has hits law _ other _ j w.1) (call_row app lists w.0 u) refl)))

  -- from the use
  use_sound : (n : Node) (u : SummaryId) → has (Uses n u) → (q : Option CallRow) → call_row app lists n u ≡ q →
      AllByRecursion (Sound (Uses n u)) (use_gives app readings lists hits q)
  use_sound n u uses None e = tt
  use_sound n u uses (Some c) e =
      let r = stands app lists n u c e in
      subst (λ z. AllByRecursion (Sound (Uses n u)) (call_gives app readings lists hits z)) (sym r.1) (of_call r.0)
    where
      of_class : (r : RowAt app lists n u) (o : Offer) → IsThere o → has (there_as o) → (q : Option Name) → site_class app lists (site_of o) ≡ q →
          AllByRecursion (Sound (Uses n u)) (offered_as app readings lists o q (of_row app lists n u r))
      of_class r o there p None e = tt
      of_class r o there p (Some class) e = offered_sound (Uses n u) n u r o class (inl refl) there (record { is_class = e }) uses p

      of_call : (r : RowAt app lists n u) → AllByRecursion (Sound (Uses n u)) (call_gives app readings lists hits (of_row app lists n u r))
      of_call r =
          let c = of_row app lists n u r in
          let P : Conclusion → Type 0 = Sound (Uses n u) in
          let each = offer_row app readings lists c in
          each_where P (is_handed (call_result r.row.gives)) (flat_map each (hits AnyHanded) ++ flat_map each (hits AnyLive)) (λ t.
          each_append P (flat_map each (hits AnyHanded)) (flat_map each (hits AnyLive))
          (of_hits has hits law P AnyHanded each (λ other i.
          let w = (law AnyHanded).under other i in
          (Handed w.0, w.1, of_class r (offer.Handed w.0) tt (at_hit has hits law AnyHanded other _ i w.1) (site_class app lists w.0) refl)))
          (of_hits has hits law P AnyLive each (λ other i.
          let w = (law AnyLive).under other i in
          let o : Offer = offer.Live w.0 w.1.0 in (
            Live w.0 w.1.0,
            w.1.1,
            each_unless P (w.1.0 == 0) (offered_as app readings lists o (site_class app lists (Component w.0)) c) (λ f.
                of_class r o (not_zero w.1.0 f) (at_hit has hits law AnyLive other _ i w.1.1) (site_class app lists (Component w.0)) refl),
          ))))

  handed_sound : (row : Row) → has row → AllByRecursion (Sound row) (given row)
  handed_sound (Uses n u) h = use_sound n u h (call_row app lists n u) refl
  handed_sound (Handed s) h = offer_sound (offer.Handed s) tt h
  handed_sound (Live c state) h =
      each_unless (Sound (Live c state)) (state == 0) (offer_gives app readings lists hits rows (offer.Live c state))
      (λ f. offer_sound (offer.Live c state) (not_zero state f) h)
  handed_sound _ h = tt

  -- what follows is listed
  module _ (n : Node) (u : SummaryId) (pc v : ℕ) (goes : GoesOn app n pc) (read : ReadAt app n.by.method result_register pc v) (o : Offer)
      (may : MayGiveBack app lists n u (site_of o)) where
    abbrev used : CallRow
    used = of_row app lists n u may.call

    abbrev object : Conclusion
    object = concludes 48 (of_two (Uses n u) (there_as o)) (Points (at_pc n v) result_register (site_of o))

    takes_it : takes app lists used may.class ≡ true
    takes_it =
        let ret = may.call.at.proto.ret in
        let is_one : is_handed (call_result may.call.row.gives) ≡ true = subst (λ g. is_handed (call_result g) ≡ true) (sym may.is_handed) refl in
        and_from (is_handed (call_result may.call.row.gives)) (is_reference ret && is_below app lists may.class ret) is_one
        (and_from (is_reference ret) (is_below app lists may.class ret) may.reference ((events.below may.class ret).1 may.below))

    object_offered : In object (offered app readings lists o may.class used)
    object_offered =
        in_where object (takes app lists used may.class) (object_back readings used o) takes_it
        (in_coming readings 48 (of_two (Uses n u) (there_as o)) (Object (site_of o)) n used.next result_register pc v
        (goes_in app lists n u may.call goes) (listed_result app readings ready n pc v goes read))

    -- from the offer: one of the uses of these rows takes it
    in_takers : has (Uses n u) → In object (offer_gives app readings lists hits rows o)
    in_takers uses =
        let row = row_number lists u may.call.at _ may.call.row may.call.is_row may.is_handed in
        let key : Key = UsesOf (summary_id.Row row.number) in
        subst (λ q. In object (takers_as app readings lists hits rows o q)) (sym may.of_class.is_class)
        (in_flat (row_takers app readings lists hits o may.class) rows row.number object
        (in_handed_rows lists row.number may.call.row row.there may.is_handed)
        (found has hits law key (taker app readings lists o may.class) (Uses n u) object uses (n, ap (Uses n) row.is)
        (subst (λ q. In object (taken_by app readings lists o may.class q)) (sym (row_here app lists n u may.call)) object_offered)))

    -- from the use: it takes each offer
    in_use : IsThere o → has (there_as o) → In object (use_gives app readings lists hits (call_row app lists n u))
    in_use there h =
        let each = offer_row app readings lists used in
        subst (λ q. In object (use_gives app readings lists hits q)) (sym (row_here app lists n u may.call))
        (in_where object (is_handed (call_result may.call.row.gives)) (flat_map each (hits AnyHanded) ++ flat_map each (hits AnyLive))
        (subst (λ g. is_handed (call_result g) ≡ true) (sym may.is_handed) refl)
        (of_kind o object there h (subst (λ q. In object (offered_as app readings lists o q used)) (sym may.of_class.is_class) object_offered)))
      where
        of_kind : (k : Offer) (x : Conclusion) → IsThere k → has (there_as k) → In x (offered_as app readings lists k (site_class app lists (site_of k)) used) →
            In x (flat_map (offer_row app readings lists used) (hits AnyHanded) ++ flat_map (offer_row app readings lists used) (hits AnyLive))
        of_kind (offer.Handed s) x there h j =
            let each = offer_row app readings lists used in
            in_front x (flat_map each (hits AnyHanded)) (flat_map each (hits AnyLive)) (found has hits law AnyHanded each (Handed s) x h (s, refl) j)
        of_kind (offer.Live d state) x there h j =
            let each = offer_row app readings lists used in
            in_back x (flat_map each (hits AnyHanded)) (flat_map each (hits AnyLive))
            (found has hits law AnyLive each (Live d state) x h (d, (state, refl))
            (in_unless x (state == 0) (offered_as app readings lists (offer.Live d state) (site_class app lists (Component d)) used) (ne_eqb state 0 there) j))

  in_there : (o : Offer) → IsThere o → (x : Conclusion) → In x (offer_gives app readings lists hits rows o) → In x (given (there_as o))
  in_there (offer.Handed s) there x i = i
  in_there (offer.Live d state) there x i =
      in_unless x (state == 0) (offer_gives app readings lists hits rows (offer.Live d state)) (ne_eqb state 0 there) i

  object_listed : (row : Row) (n : Node) (u : SummaryId) (pc v : ℕ) (o : Offer) → IsThere o → MayGiveBack app lists n u (site_of o) → GoesOn app n pc →
      ReadAt app n.by.method result_register pc v → has (Uses n u) → has (there_as o) → In row (Uses n u ∷ there_as o ∷ []) →
      IsListed (given row) 48 (Uses n u ∷ there_as o ∷ []) (Points (at_pc n v) result_register (site_of o))
  object_listed row n u pc v o there may goes read p q i =
      let x = Points (at_pc n v) result_register (site_of o) in
      let both = of_two (Uses n u) (there_as o) in
      either given _ _ _ i
      (here given (Uses n u) 48 both x (in_use n u pc v goes read o may there q))
      (here given (there_as o) 48 both x (in_there o there _ (in_takers n u pc v goes read o may p)))

  handed_complete : (row : Row) (rule : ℕ) (premises : List Row) (x : Row) → HandedRule app lists rule premises x → Each has premises →
      In row premises → IsListed (given row) rule premises x
  handed_complete row rule premises x (handed_points {n = n} {u = u} {pc = pc} {v = v} {s = s} may goes read) k i =
      object_listed row n u pc v (offer.Handed s) tt may goes read k.0 k.1.0 i
  handed_complete row rule premises x (live_points {n = n} {u = u} {c = c} {state = state} {pc = pc} {v = v} may there goes read) k i =
      object_listed row n u pc v (offer.Live c state) there may goes read k.0 k.1.0 i

  pub cell_handed_exact : (row : Row) → has row → IsJust (HandedRule app lists) has row (given row)
  cell_handed_exact row there = record {
    sound = λ c i. each_in (IsSound (HandedRule app lists) has row) (given row) c (handed_sound row there) i;
    complete = λ rule premises x f. handed_complete row rule premises x f.by f.known f.uses;
  }

  -- what rows lead is part of what they give
  led_given : (row : Row) (c : Conclusion) → In c (led row) → In c (given row)
  led_given (Uses n u) c i = i
  led_given _ c i = absurd i

  leader : (rule : ℕ) (premises : List Row) (x : Row) → HandedRule app lists rule premises x → Each has premises →
      HasLeader has given led premises ⊎ HasLead has led rule premises x
  leader rule premises x (handed_points {n = n} {u = u} may goes read) k = inl (Uses n u, (k.0, (inl refl, refl)))
  leader rule premises x (live_points {n = n} {u = u} may there goes read) k = inl (Uses n u, (k.0, (inl refl, refl)))

  pub cell_handed_led : IsLed (HandedRule app lists) has led
  cell_handed_led = led_by_ones (HandedRule app lists) has given cell_handed_exact led led_given leader

-- app and lists are sound, the readings and the events are those of the machine, and these are the rows whose results are handed
pub record CellHandedReady (app : App) (readings : Readings) (lists : Lists) (numbers : List ℕ) : Type 0 where
  pub sound_app : SoundApp app
  pub sound_lists : SoundLists lists
  pub ready : Ready app readings
  pub events : EventsAreExact app lists
  pub same_rows : numbers ≡ handed_rows lists

-- the same of the code, which is told the rows
pub rules_exact : (app : App) (readings : Readings) (lists : Lists) (numbers : List ℕ) → CellHandedReady app readings lists numbers →
    (has : Row → Type 0) (hits : Key → List Row) → ((k : Key) → IsHits has k (hits k)) → (row : Row) → has row →
    IsJust (HandedRule app lists) has row (cell_handed_given app readings lists numbers hits row)
rules_exact app readings lists numbers all has hits law row there =
    subst (λ r. IsJust (HandedRule app lists) has row (cell_handed_given app readings lists r hits row)) (sym all.same_rows)
    (cell_handed_exact app readings lists all.ready all.events has hits law row there)

pub rules_led : (app : App) (readings : Readings) (lists : Lists) (numbers : List ℕ) → CellHandedReady app readings lists numbers →
    (has : Row → Type 0) (hits : Key → List Row) → ((k : Key) → IsHits has k (hits k)) →
    IsLed (HandedRule app lists) has (cell_handed_leads app readings lists hits)
rules_led app readings lists numbers all has hits law = cell_handed_led app readings lists all.ready all.events has hits law

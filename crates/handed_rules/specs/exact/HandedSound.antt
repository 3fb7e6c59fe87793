-- What is listed by the rule of handed results follows by it.
use Rattle.std.proofs.Common.{◌≡◌, ◌≢◌, ◌==◌, ◌&&◌, ℕ, Bool, true, false, cond, List, [], ◌∷◌, ◌++◌, Option, Some, None, flat_map, eqb-true, refl, sym, ap, subst, ◌∙◌, inl, inr}
use Rattle.std.specs.List.{AllByRecursion}
use Rattle.std.proofs.lemmas.Bool.{and_parts, eq-eqb}
use Rattle.vet_base.specs.Members.{In}
use Rattle.vet_base.proofs.Every.{each_append, each_flat, each_where, each_unless}
use Rattle.access_path.specs.declared.path.Path.{Path}
use Rattle.app_machine.specs.declared.summary.Gives.{Gives}
use Rattle.app_machine.specs.declared.summary.Gives.TheVariants as gives
use Rattle.app_machine.specs.declared.lists.Lists.{Lists}
use Rattle.app_machine.specs.declared.lists.SummaryId.{SummaryId}
use Rattle.app_machine.specs.declared.lists.SummaryId.TheVariants as summary_id
use Rattle.app_machine.specs.declared.app.App.{App}
use Rattle.app_machine.specs.Names.{Name, is_reference}
use Rattle.app_machine.specs.State.{result_register}
use Rattle.app_model.specs.Above.{is_below}
use Rattle.app_model.specs.EventLaws.{EventsAreExact}
use Rattle.app_parts.specs.Views.{call_result}
use Rattle.fact_rows.specs.declared.context.Node.{Node}
use Rattle.fact_rows.specs.declared.site.Site.{Site}
use Rattle.fact_rows.specs.declared.site.Site.TheVariants.{Component}
use Rattle.fact_rows.specs.declared.row.Row.{Row}
use Rattle.fact_rows.specs.declared.row.Row.TheVariants.{Points, Taint, Live, CompTaint, Handed, HandedTaint, Uses}
use Rattle.flow_rules.specs.Nodes.{at_pc, GoesOn}
use Rattle.flow_rules.specs.Sites.{site_class, SiteClass}
use Rattle.flow_rules.specs.LibraryRules.{RowAt}
use Rattle.flow_rules.specs.HandedRules.{HandedRule, MayGiveBack, handed_points, handed_taint, live_points, live_taint}
use Rattle.rule_ground.specs.declared.conclusion.Conclusion.{Conclusion}
use Rattle.rule_ground.specs.declared.content.Content.TheVariants.{Object, Label}
use Rattle.rule_ground.specs.declared.key.Key.{Key}
use Rattle.rule_ground.specs.declared.key.Key.TheVariants.{AnyLive, CompTaintsOf, LivesOf, AnyHanded, HandedOf, HandedTaintsOf, UsesOf}
use Rattle.rule_ground.specs.Exact.{IsSound}
use Rattle.rule_ground.specs.Given.{of_two, of_three, concludes}
use Rattle.rule_ground.specs.Hits.{IsHits}
use Rattle.rule_ground.specs.Listing.{each_sound, at_hit, of_hits}
use Rattle.library_ground.specs.CallRow.{CallRow, call_row}
use Rattle.library_ground.specs.Stands.{of_row, stands, goes_on}
use Rattle.handed_rules.specs.declared.offer.Offer.{Offer}
use Rattle.handed_rules.specs.declared.offer.Offer.TheVariants as offer
use Rattle.handed_rules.specs.declared.offer.Known.{Known}
use Rattle.handed_rules.specs.declared.offer.Known.TheVariants.{There, Leads}
use Rattle.handed_rules.specs.Offers.{site_of, there_as, leads_as, there_key, labels_key, IsThere}
use Rattle.handed_rules.specs.HandedGiven.{is_handed, takes, object_back, label_back, label_row, known_gives, offered, offered_as, offer_row, call_gives, use_gives, taken_by, taker, row_takers, takers, takers_as, offer_gives, where_there, label_gives, handed_given}

handed_result : (g : Gives) → is_handed (call_result g) ≡ true → g ≡ gives.Handed
handed_result gives.Handed e = refl
handed_result gives.Blank e = absurd cc
handed_result (gives.Same i) e = absurd cc
handed_result (gives.Taken i) e = absurd cc
handed_result (gives.Joined from) e = absurd cc
handed_result (gives.Shared g) e = absurd cc

not_zero : (state : ℕ) → (state == 0) ≡ false → state ≢ 0
not_zero state f zero_is = let both : true ≡ false = sym (eq-eqb state 0 zero_is) ∙ f in cc

module _ (app : App) (lists : Lists) (events : EventsAreExact app lists) where
  abbrev R : ℕ → List Row → Row → Type 0
  R = HandedRule app lists

  may_give : (n : Node) (u : SummaryId) (r : RowAt app lists n u) (s : Site) (class : Name) → SiteClass app lists s class →
      takes app lists (of_row app lists n u r) class ≡ true → MayGiveBack app lists n u s
  may_give n u r s class is t =
      let ret = r.at.proto.ret in
      let both = and_parts (is_handed (call_result r.row.gives)) (is_reference ret && is_below app lists class ret) t in
      let types = and_parts (is_reference ret) (is_below app lists class ret) both.1 in
      record {
        call = r;
        is_handed = handed_result r.row.gives both.0;
        reference = types.0;
        class = class;
        of_class = is;
        below = (events.below class ret).0 types.1;
      }

  object_rule : (n : Node) (u : SummaryId) (o : Offer) → IsThere o → MayGiveBack app lists n u (site_of o) → (pc : ℕ) → GoesOn app n pc →
      R 48 (Uses n u ∷ there_as o ∷ []) (Points (at_pc n pc) result_register (site_of o))
  object_rule n u (offer.Handed s) there may pc goes = handed_points may goes
  object_rule n u (offer.Live c state) there may pc goes = live_points may there goes

  label_rule : (n : Node) (u : SummaryId) (o : Offer) → IsThere o → MayGiveBack app lists n u (site_of o) → (p : Path) (l pc : ℕ) → GoesOn app n pc →
      R 48 (Uses n u ∷ there_as o ∷ leads_as o p l ∷ []) (Taint (at_pc n pc) result_register p l)
  label_rule n u (offer.Handed s) there may p l pc goes = handed_taint may goes
  label_rule n u (offer.Live c state) there may p l pc goes = live_taint may there goes

  module _ (has : Row → Type 0) where
    abbrev Sound : Row → Conclusion → Type 0
    Sound row = IsSound (HandedRule app lists) has row

    module _ (n : Node) (u : SummaryId) (r : RowAt app lists n u) (o : Offer) (class : Name) (there : IsThere o)
        (is : SiteClass app lists (site_of o) class) (uses : has (Uses n u)) (offered_row : has (there_as o)) where
      abbrev used : CallRow
      used = of_row app lists n u r

      label_sound : (row : Row) (p : Path) (l : ℕ) → In row (Uses n u ∷ there_as o ∷ leads_as o p l ∷ []) → has (leads_as o p l) →
          takes app lists used class ≡ true → AllByRecursion (Sound row) (label_back used o p l)
      label_sound row p l among h t =
          each_sound (Sound row) 48 (of_three (Uses n u) (there_as o) (leads_as o p l)) (Label p l) n used.next result_register (λ pc j. record {
            by = label_rule n u o there (may_give n u r (site_of o) class is t) p l pc (goes_on app lists n u r j);
            known = (uses, (offered_row, (h, tt)));
            uses = among;
          })

      object_sound : (row : Row) → In row (Uses n u ∷ there_as o ∷ []) → takes app lists used class ≡ true →
          AllByRecursion (Sound row) (object_back used o)
      object_sound row among t =
          each_sound (Sound row) 48 (of_two (Uses n u) (there_as o)) (Object (site_of o)) n used.next result_register (λ pc j. record {
            by = object_rule n u o there (may_give n u r (site_of o) class is t) pc (goes_on app lists n u r j);
            known = (uses, (offered_row, tt));
            uses = among;
          })

    module _ (hits : Key → List Row) (law : (k : Key) → IsHits has k (hits k)) where
      -- what is concluded of each label of an offer
      each_label : (P : Conclusion → Type 0) (c : CallRow) (o : Offer) → ((p : Path) (l : ℕ) → has (leads_as o p l) → AllByRecursion P (label_back c o p l)) →
          AllByRecursion P (flat_map (label_row c o) (hits (labels_key o)))
      each_label P c (offer.Handed s) h = of_hits has hits law P (HandedTaintsOf s) (label_row c (offer.Handed s)) (λ other i.
          let w = (law (HandedTaintsOf s)).under other i in
          (HandedTaint s w.0 w.1.0, w.1.1, h w.0 w.1.0 (at_hit has hits law (HandedTaintsOf s) other _ i w.1.1)))
      each_label P c (offer.Live d state) h = of_hits has hits law P (CompTaintsOf d state) (label_row c (offer.Live d state)) (λ other i.
          let w = (law (CompTaintsOf d state)).under other i in
          (CompTaint d state w.0 w.1.0, w.1.1, h w.0 w.1.0 (at_hit has hits law (CompTaintsOf d state) other _ i w.1.1)))

      -- an offer and its labels
      there_sound : (row : Row) (n : Node) (u : SummaryId) (r : RowAt app lists n u) (o : Offer) (class : Name) →
          ((more : List Row) → In row (Uses n u ∷ there_as o ∷ more)) → IsThere o → SiteClass app lists (site_of o) class → has (Uses n u) → has (there_as o) →
          AllByRecursion (Sound row) (offered app lists hits o There class (of_row app lists n u r))
      there_sound row n u r o class among there is uses p =
          let c = of_row app lists n u r in
          each_where (Sound row) (takes app lists c class) (known_gives hits c o There) (λ t.
          each_append (Sound row) (object_back c o) (flat_map (label_row c o) (hits (labels_key o)))
          (object_sound n u r o class there is uses p row (among []) t)
          (each_label (Sound row) c o (λ q l h. label_sound n u r o class there is uses p row q l (among (leads_as o q l ∷ [])) h t)))

      -- each use of one of the rows takes the offer
      takers_sound : (row : Row) (rows : List ℕ) (o : Offer) (w : Known) (class : Name) →
          ((n : Node) (u : SummaryId) → has (Uses n u) → (r : RowAt app lists n u) → AllByRecursion (Sound row) (offered app lists hits o w class (of_row app lists n u r))) →
          AllByRecursion (Sound row) (takers app lists hits rows o w class)
      takers_sound row rows o w class each = each_flat (Sound row) (row_takers app lists hits o w class) rows (λ i _.
          of_hits has hits law (Sound row) (UsesOf (summary_id.Row i)) (taker app lists hits o w class) (λ other j.
          let v = (law (UsesOf (summary_id.Row i))).under other j in
          let u : SummaryId = summary_id.Row i in
          (Uses v.0 u, v.1, of_use v.0 u (at_hit has hits law _ other _ j v.1) (call_row app lists v.0 u) refl)))
        where
          of_use : (n : Node) (u : SummaryId) → has (Uses n u) → (q : Option CallRow) → call_row app lists n u ≡ q →
              AllByRecursion (Sound row) (taken_by app lists hits o w class q)
          of_use n u there None e = tt
          of_use n u there (Some c) e =
              let r = stands app lists n u c e in
              subst (λ z. AllByRecursion (Sound row) (offered app lists hits o w class z)) (sym r.1) (each n u there r.0)

      -- from what is offered
      offer_sound : (rows : List ℕ) (o : Offer) → IsThere o → has (there_as o) → AllByRecursion (Sound (there_as o)) (offer_gives app lists hits rows o There)
      offer_sound rows o there p = of_class (site_class app lists (site_of o)) refl
        where
          of_class : (q : Option Name) → site_class app lists (site_of o) ≡ q → AllByRecursion (Sound (there_as o)) (takers_as app lists hits rows o There q)
          of_class None e = tt
          of_class (Some class) e =
              takers_sound (there_as o) rows o There class
              (λ n u uses r. there_sound (there_as o) n u r o class (λ more. inr (inl refl)) there (record { is_class = e }) uses p)

      -- from a label to which it leads
      leads_sound : (rows : List ℕ) (o : Offer) (p : Path) (l : ℕ) → IsThere o → has (there_as o) → has (leads_as o p l) →
          AllByRecursion (Sound (leads_as o p l)) (offer_gives app lists hits rows o (Leads p l))
      leads_sound rows o p l there q h = of_class (site_class app lists (site_of o)) refl
        where
          of_class : (z : Option Name) → site_class app lists (site_of o) ≡ z → AllByRecursion (Sound (leads_as o p l)) (takers_as app lists hits rows o (Leads p l) z)
          of_class None e = tt
          of_class (Some class) e = takers_sound (leads_as o p l) rows o (Leads p l) class (λ n u uses r.
              each_where (Sound (leads_as o p l)) (takes app lists (of_row app lists n u r) class) (label_back (of_row app lists n u r) o p l)
              (λ t. label_sound n u r o class there (record { is_class = e }) uses q (leads_as o p l) p l (inr (inr (inl refl))) h t))

      -- from the use
      use_sound : (n : Node) (u : SummaryId) → has (Uses n u) → (q : Option CallRow) → call_row app lists n u ≡ q → AllByRecursion (Sound (Uses n u)) (use_gives app lists hits q)
      use_sound n u uses None e = tt
      use_sound n u uses (Some c) e = let r = stands app lists n u c e in subst (λ z. AllByRecursion (Sound (Uses n u)) (call_gives app lists hits z)) (sym r.1) (of_call r.0)
        where
          of_class : (r : RowAt app lists n u) (o : Offer) → IsThere o → has (there_as o) → (q : Option Name) → site_class app lists (site_of o) ≡ q →
              AllByRecursion (Sound (Uses n u)) (offered_as app lists hits o q (of_row app lists n u r))
          of_class r o there p None e = tt
          of_class r o there p (Some class) e = there_sound (Uses n u) n u r o class (λ more. inl refl) there (record { is_class = e }) uses p

          of_call : (r : RowAt app lists n u) → AllByRecursion (Sound (Uses n u)) (call_gives app lists hits (of_row app lists n u r))
          of_call r =
              let c = of_row app lists n u r in
              let P : Conclusion → Type 0 = Sound (Uses n u) in
              let each = offer_row app lists hits c in
              each_where P (is_handed (call_result r.row.gives)) (flat_map each (hits AnyHanded) ++ flat_map each (hits AnyLive)) (λ t.
              each_append P (flat_map each (hits AnyHanded)) (flat_map each (hits AnyLive))
              (of_hits has hits law P AnyHanded each (λ other i.
              let w = (law AnyHanded).under other i in
              (Handed w.0, w.1, of_class r (offer.Handed w.0) tt (at_hit has hits law AnyHanded other _ i w.1) (site_class app lists w.0) refl)))
              (of_hits has hits law P AnyLive each (λ other i.
              let w = (law AnyLive).under other i in
              let o : Offer = offer.Live w.0 w.1.0 in (
                Live w.0 w.1.0,
                w.1.1,
                each_unless P (w.1.0 == 0) (offered_as app lists hits o (site_class app lists (Component w.0)) c) (λ f.
                    of_class r o (not_zero w.1.0 f) (at_hit has hits law AnyLive other _ i w.1.1) (site_class app lists (Component w.0)) refl),
              ))))

      pub handed_sound : (rows : List ℕ) (row : Row) → has row → AllByRecursion (Sound row) (handed_given app lists rows hits row)
      handed_sound rows (Uses n u) h = use_sound n u h (call_row app lists n u) refl
      handed_sound rows (Handed s) h = offer_sound rows (offer.Handed s) tt h
      handed_sound rows (HandedTaint s p l) h =
          of_hits has hits law (Sound (HandedTaint s p l)) (HandedOf s) (where_there app lists hits rows (offer.Handed s) p l) (λ other i.
          let e = (law (HandedOf s)).under other i in
          (Handed s, e, leads_sound rows (offer.Handed s) p l tt (at_hit has hits law (HandedOf s) other _ i e) h))
      handed_sound rows (Live c state) h =
          each_unless (Sound (Live c state)) (state == 0) (offer_gives app lists hits rows (offer.Live c state) There)
          (λ f. offer_sound rows (offer.Live c state) (not_zero state f) h)
      handed_sound rows (CompTaint c state p l) h =
          each_unless (Sound (CompTaint c state p l)) (state == 0) (label_gives app lists hits rows (offer.Live c state) p l) (λ f.
          of_hits has hits law (Sound (CompTaint c state p l)) (LivesOf c) (where_there app lists hits rows (offer.Live c state) p l) (λ other i.
          let w = (law (LivesOf c)).under other i in (
            Live c w.0,
            w.1,
            each_where (Sound (CompTaint c state p l)) (w.0 == state) (offer_gives app lists hits rows (offer.Live c state) (Leads p l)) (λ t.
                leads_sound rows (offer.Live c state) p l (not_zero state f)
                (subst (λ z. has (Live c z)) (eqb-true w.0 state t) (at_hit has hits law (LivesOf c) other _ i w.1)) h),
          )))
      handed_sound rows _ h = tt

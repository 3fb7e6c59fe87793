-- What follows by the rule of handed results is listed.
use Rattle.std.proofs.Common.{◌≡◌, ◌==◌, ◌&&◌, ℕ, zero, suc, ◌+◌, Bool, true, false, cond, List, [], ◌∷◌, ◌++◌, Option, Some, None, option_map, slice_get, flat_map, refl, sym, ap, subst, ◌∙◌, inl, inr, zero-add, arith}
use Rattle.std.proofs.lemmas.Bool.{and_from, ne_eqb}
use Rattle.std.proofs.lemmas.Option.{none-some, same_Some}
use Rattle.vet_base.specs.Members.{In}
use Rattle.vet_base.proofs.Members.{in_front, in_back, in_flat}
use Rattle.vet_base.proofs.Every.{in_where, in_unless}
use Rattle.access_path.specs.declared.path.Path.{Path}
use Rattle.app_index.specs.Handed.{gives_handed, handed_row, handed_from, handed_rows}
use Rattle.app_machine.specs.declared.call.MethodRef.{MethodRef}
use Rattle.app_machine.specs.declared.summary.Gives.TheVariants as gives
use Rattle.app_machine.specs.declared.summary.Summary.{Summary}
use Rattle.app_machine.specs.declared.lists.FallbackWord.{FallbackWord}
use Rattle.app_machine.specs.declared.lists.FallbackWord.TheVariants as fallback
use Rattle.app_machine.specs.declared.lists.LibClass.{LibClass}
use Rattle.app_machine.specs.declared.lists.Lists.{Lists}
use Rattle.app_machine.specs.declared.lists.SummaryId.{SummaryId}
use Rattle.app_machine.specs.declared.lists.SummaryId.TheVariants as summary_id
use Rattle.app_machine.specs.declared.app.App.{App}
use Rattle.app_machine.specs.Names.{Name, is_reference}
use Rattle.app_machine.specs.State.{result_register}
use Rattle.app_machine.specs.Summaries.{summary, default_summary}
use Rattle.app_model.specs.Above.{is_below}
use Rattle.app_model.specs.EventLaws.{EventsAreExact}
use Rattle.app_parts.specs.Views.{call_result}
use Rattle.fact_rows.specs.declared.context.Node.{Node}
use Rattle.fact_rows.specs.declared.site.Site.TheVariants.{Component}
use Rattle.fact_rows.specs.declared.row.Row.{Row}
use Rattle.fact_rows.specs.declared.row.Row.TheVariants.{Points, Taint, Live, CompTaint, Handed, HandedTaint, Uses}
use Rattle.flow_rules.specs.Nodes.{at_pc, GoesOn}
use Rattle.flow_rules.specs.Sites.{site_class}
use Rattle.flow_rules.specs.HandedRules.{MayGiveBack}
use Rattle.rule_ground.specs.declared.conclusion.Conclusion.{Conclusion}
use Rattle.rule_ground.specs.declared.content.Content.TheVariants.{Object, Label}
use Rattle.rule_ground.specs.declared.key.Key.{Key}
use Rattle.rule_ground.specs.declared.key.Key.TheVariants.{AnyLive, LivesOf, CompTaintsOf, AnyHanded, HandedOf, HandedTaintsOf, UsesOf}
use Rattle.rule_ground.specs.Given.{of_two, of_three, concludes}
use Rattle.rule_ground.specs.Hits.{IsHits}
use Rattle.rule_ground.specs.Listing.{in_each, found, itself}
use Rattle.library_ground.specs.CallRow.{CallRow, call_row}
use Rattle.library_ground.specs.Stands.{of_row, row_here, goes_in}
use Rattle.handed_rules.specs.declared.offer.Offer.{Offer}
use Rattle.handed_rules.specs.declared.offer.Offer.TheVariants as offer
use Rattle.handed_rules.specs.declared.offer.Known.{Known}
use Rattle.handed_rules.specs.declared.offer.Known.TheVariants.{There, Leads}
use Rattle.handed_rules.specs.Offers.{site_of, there_as, leads_as, labels_key, IsThere}
use Rattle.handed_rules.specs.HandedGiven.{is_handed, takes, object_back, label_back, label_row, known_gives, offered, offered_as, offer_row, call_gives, use_gives, taken_by, taker, row_takers, takers, takers_as, offer_gives, where_there, label_gives, handed_given}

-- only a row of its own gives back what the library has, and not a default
record IsRow (lists : Lists) (u : SummaryId) (row : Summary) : Type 0 where
  number : ℕ
  is : u ≡ summary_id.Row number
  there : slice_get lists.methods number ≡ Some row

none_handed : (word : FallbackWord) (at : MethodRef) (is_static : Bool) → (default_summary word at is_static).gives ≡ gives.Handed → ⊥
none_handed fallback.Blank at is_static e = cc
none_handed fallback.Joined at is_static e = cc
none_handed fallback.Mixed at is_static e = cc

row_number : (lists : Lists) (u : SummaryId) (at : MethodRef) (is_static : Bool) (row : Summary) →
    summary lists u at is_static ≡ Some row → row.gives ≡ gives.Handed → IsRow lists u row
unfolding summary
row_number lists (summary_id.Row i) at is_static row e handed = record { number = i; is = refl; there = e }
row_number lists (summary_id.Fallback i) at is_static row e handed = of_class (slice_get lists.classes i) e
  where
    of_word : (o : Option FallbackWord) → option_map (λ word. default_summary word at is_static) o ≡ Some row → IsRow lists (summary_id.Fallback i) row
    of_word None k = absurd (none-some row k)
    of_word (Some word) k =
        absurd (none_handed word at is_static (ap (λ (s : Summary). s.gives) (same_Some (default_summary word at is_static) row k) ∙ handed))

    of_class : (o : Option LibClass) → elim o [ None ↦ None | Some c ↦ option_map (λ word. default_summary word at is_static) c.fallback ] ≡ Some row →
        IsRow lists (summary_id.Fallback i) row
    of_class None k = absurd (none-some row k)
    of_class (Some c) k = of_word c.fallback k

-- its number is among those of such rows
in_handed_from : (rows : List Summary) (first i : ℕ) (row : Summary) → slice_get rows i ≡ Some row → row.gives ≡ gives.Handed → In (first + i) (handed_from first rows)
in_handed_from [] first i row there e = absurd (none-some row there)
in_handed_from (r ∷ rows) first zero row there e =
    let same : r.gives ≡ gives.Handed = ap (λ (s : Summary). s.gives) (same_Some r row there) ∙ e in
    let number : first + 0 ≡ first = omega arith in
    in_front (first + 0) (handed_row first r) (handed_from (first + 1) rows)
    (in_where (first + 0) (gives_handed r.gives) (first ∷ []) (rw same refl) (inl number))
in_handed_from (r ∷ rows) first (suc i) row there e =
    let number : first + 1 + i ≡ first + suc i = omega arith in
    in_back (first + suc i) (handed_row first r) (handed_from (first + 1) rows)
    (subst (λ z. In z (handed_from (first + 1) rows)) number (in_handed_from rows (first + 1) i row there e))

in_handed_rows : (lists : Lists) (i : ℕ) (row : Summary) → slice_get lists.methods i ≡ Some row → row.gives ≡ gives.Handed → In i (handed_rows lists)
unfolding handed_rows
in_handed_rows lists i row there e = subst (λ z. In z (handed_from 0 lists.methods)) (zero-add i) (in_handed_from lists.methods 0 i row there e)

module _ (app : App) (lists : Lists) (events : EventsAreExact app lists) (has : Row → Type 0) (hits : Key → List Row)
    (law : (k : Key) → IsHits has k (hits k)) (n : Node) (u : SummaryId) (pc : ℕ) (goes : GoesOn app n pc) (o : Offer)
    (may : MayGiveBack app lists n u (site_of o)) where
  abbrev used : CallRow
  used = of_row app lists n u may.call

  is_one : is_handed (call_result may.call.row.gives) ≡ true
  is_one = subst (λ g. is_handed (call_result g) ≡ true) (sym may.is_handed) refl

  takes_it : takes app lists used may.class ≡ true
  takes_it =
      let ret = may.call.at.proto.ret in
      and_from (is_handed (call_result may.call.row.gives)) (is_reference ret && is_below app lists may.class ret) is_one
      (and_from (is_reference ret) (is_below app lists may.class ret) may.reference ((events.below may.class ret).1 may.below))

  -- the object, and a label from the object and by itself
  abbrev object : Conclusion
  object = concludes 48 (of_two (Uses n u) (there_as o)) (Points (at_pc n pc) result_register (site_of o))

  abbrev label : Path → ℕ → Conclusion
  label p l = concludes 48 (of_three (Uses n u) (there_as o) (leads_as o p l)) (Taint (at_pc n pc) result_register p l)

  in_offered : (w : Known) (x : Conclusion) → In x (known_gives hits used o w) → In x (offered app lists hits o w may.class used)
  in_offered w x i = in_where x (takes app lists used may.class) (known_gives hits used o w) takes_it i

  in_label_back : (p : Path) (l : ℕ) → In (label p l) (label_back used o p l)
  in_label_back p l =
      in_each 48 (of_three (Uses n u) (there_as o) (leads_as o p l)) (Label p l) n used.next result_register pc (goes_in app lists n u may.call goes)

  pub object_offered : In object (offered app lists hits o There may.class used)
  object_offered = in_offered There object (in_front object (object_back used o) (flat_map (label_row used o) (hits (labels_key o)))
      (in_each 48 (of_two (Uses n u) (there_as o)) (Object (site_of o)) n used.next result_register pc (goes_in app lists n u may.call goes)))

  pub label_by_itself : (p : Path) (l : ℕ) → In (label p l) (offered app lists hits o (Leads p l) may.class used)
  label_by_itself p l = in_offered (Leads p l) (label p l) (in_label_back p l)

  pub label_offered : (p : Path) (l : ℕ) → has (leads_as o p l) → In (label p l) (offered app lists hits o There may.class used)
  label_offered p l h = in_offered There (label p l) (in_back (label p l) (object_back used o) (flat_map (label_row used o) (hits (labels_key o))) (among o h (in_label_back p l)))
    where
      among : (k : Offer) → has (leads_as k p l) → In (label p l) (label_back used o p l) → In (label p l) (flat_map (label_row used o) (hits (labels_key k)))
      among (offer.Handed s) h i = found has hits law (HandedTaintsOf s) (label_row used o) (HandedTaint s p l) (label p l) h (p, (l, refl)) i
      among (offer.Live d state) h i = found has hits law (CompTaintsOf d state) (label_row used o) (CompTaint d state p l) (label p l) h (p, (l, refl)) i

  -- from the offer: one of the uses of these rows takes it
  pub in_takers : has (Uses n u) → (w : Known) (x : Conclusion) → In x (offered app lists hits o w may.class used) → In x (offer_gives app lists hits (handed_rows lists) o w)
  in_takers uses w x i =
      let row = row_number lists u may.call.at _ may.call.row may.call.is_row may.is_handed in
      let key : Key = UsesOf (summary_id.Row row.number) in
      subst (λ q. In x (takers_as app lists hits (handed_rows lists) o w q)) (sym may.of_class.is_class)
      (in_flat (row_takers app lists hits o w may.class) (handed_rows lists) row.number x
      (in_handed_rows lists row.number may.call.row row.there may.is_handed)
      (found has hits law key (taker app lists hits o w may.class) (Uses n u) x uses (n, ap (Uses n) row.is)
      (subst (λ q. In x (taken_by app lists hits o w may.class q)) (sym (row_here app lists n u may.call)) i)))

-- from the use: it takes each offer
module _ (app : App) (lists : Lists) (has : Row → Type 0) (hits : Key → List Row) (law : (k : Key) → IsHits has k (hits k)) (n : Node) (u : SummaryId) where
  pub in_use : (o : Offer) → IsThere o → has (there_as o) → (may : MayGiveBack app lists n u (site_of o)) → (x : Conclusion) →
      In x (offered app lists hits o There may.class (of_row app lists n u may.call)) → In x (use_gives app lists hits (call_row app lists n u))
  in_use o there h may x i =
      let c = of_row app lists n u may.call in
      let each = offer_row app lists hits c in
      subst (λ q. In x (use_gives app lists hits q)) (sym (row_here app lists n u may.call))
      (in_where x (is_handed (call_result may.call.row.gives)) (flat_map each (hits AnyHanded) ++ flat_map each (hits AnyLive))
      (subst (λ g. is_handed (call_result g) ≡ true) (sym may.is_handed) refl)
      (of_kind c o there h (subst (λ q. In x (offered_as app lists hits o q c)) (sym may.of_class.is_class) i)))
    where
      of_kind : (c : CallRow) (k : Offer) → IsThere k → has (there_as k) → In x (offered_as app lists hits k (site_class app lists (site_of k)) c) →
          In x (flat_map (offer_row app lists hits c) (hits AnyHanded) ++ flat_map (offer_row app lists hits c) (hits AnyLive))
      of_kind c (offer.Handed s) there h j =
          let each = offer_row app lists hits c in
          in_front x (flat_map each (hits AnyHanded)) (flat_map each (hits AnyLive)) (found has hits law AnyHanded each (Handed s) x h (s, refl) j)
      of_kind c (offer.Live d state) there h j =
          let each = offer_row app lists hits c in
          in_back x (flat_map each (hits AnyHanded)) (flat_map each (hits AnyLive))
          (found has hits law AnyLive each (Live d state) x h (d, (state, refl))
          (in_unless x (state == 0) (offered_as app lists hits (offer.Live d state) (site_class app lists (Component d)) c) (ne_eqb state 0 there) j))

  -- from a row that says that an offer is there, and from one of its labels
  pub in_there : (rows : List ℕ) (o : Offer) → IsThere o → (x : Conclusion) → In x (offer_gives app lists hits rows o There) → In x (handed_given app lists rows hits (there_as o))
  in_there rows (offer.Handed s) there x i = i
  in_there rows (offer.Live d state) there x i =
      in_unless x (state == 0) (offer_gives app lists hits rows (offer.Live d state) There) (ne_eqb state 0 there) i

  pub in_leads : (rows : List ℕ) (o : Offer) → IsThere o → has (there_as o) → (p : Path) (l : ℕ) (x : Conclusion) →
      In x (offer_gives app lists hits rows o (Leads p l)) → In x (handed_given app lists rows hits (leads_as o p l))
  in_leads rows (offer.Handed s) there h p l x i = found has hits law (HandedOf s) (where_there app lists hits rows (offer.Handed s) p l) (Handed s) x h refl i
  in_leads rows (offer.Live d state) there h p l x i =
      in_unless x (state == 0) (label_gives app lists hits rows (offer.Live d state) p l) (ne_eqb state 0 there)
      (found has hits law (LivesOf d) (where_there app lists hits rows (offer.Live d state) p l) (Live d state) x h (state, refl)
      (in_where x (state == state) (offer_gives app lists hits rows (offer.Live d state) (Leads p l)) (itself state) i))

-- What follows of handed objects and of what events return is listed.
use Rattle.std.proofs.Common.{◌≡◌, ◌==◌, ◌+◌, ◌-◌, ℕ, true, List, [], ◌∷◌, ◌++◌, Some, flat_map, length, refl, sym, ap, subst, ◌∙◌, inl, inr}
use Rattle.std.proofs.lemmas.Bool.{and_from}
use Rattle.std.proofs.lemmas.Option.{slice_get_within}
use Rattle.vet_base.specs.Members.{In}
use Rattle.vet_base.proofs.Members.{in_front, in_back}
use Rattle.vet_base.proofs.Every.{in_where, in_unless}
use Rattle.access_path.specs.declared.path.Path.{Path}
use Rattle.app_machine.specs.declared.method.Method.{Method}
use Rattle.app_machine.specs.declared.lists.Lists.{Lists}
use Rattle.app_machine.specs.declared.app.App.{App}
use Rattle.app_machine.specs.Events.{HandedAt, parameter_type}
use Rattle.app_machine.specs.Names.{Name, is_reference}
use Rattle.app_machine.specs.Summaries.{Below}
use Rattle.app_model.specs.Above.{is_below}
use Rattle.app_model.specs.EventLaws.{EventsAreExact}
use Rattle.fact_rows.specs.Contexts.{IsEvent}
use Rattle.fact_rows.specs.declared.context.Ctx.TheVariants as ctx
use Rattle.fact_rows.specs.declared.context.Activation.{Activation}
use Rattle.fact_rows.specs.declared.site.Site.{Site}
use Rattle.fact_rows.specs.declared.row.Row.{Row}
use Rattle.fact_rows.specs.declared.row.Row.TheVariants.{Reached, ExitPoints, ExitTaint, Handed, HandedTaint}
use Rattle.flow_rules.specs.Nodes.{entry, ArgumentRegister, EventRegister}
use Rattle.flow_rules.specs.Sites.{SiteClass}
use Rattle.flow_rules.specs.EventRules.{Begins, ReferenceParameter}
use Rattle.rule_ground.specs.declared.conclusion.Conclusion.{Conclusion}
use Rattle.rule_ground.specs.declared.key.Key.{Key}
use Rattle.rule_ground.specs.declared.key.Key.TheVariants.{AnyHanded, EventEntries, ExitPointsOf, ExitTaintsOf, HandedOf, HandedTaintsOf}
use Rattle.rule_ground.specs.Asking.{asks, under_asked}
use Rattle.rule_ground.specs.Below.{for_below, in_below}
use Rattle.rule_ground.specs.Given.{of_one, concludes, held}
use Rattle.rule_ground.specs.Hits.{IsHits}
use Rattle.rule_ground.specs.Listing.{found, itself}
use Rattle.begin_rules.specs.declared.parameters.Start.{Start}
use Rattle.begin_rules.specs.BeginGiven.{first_of, says}
use Rattle.begin_rules.specs.exact.BeginExact.{object_begins, is_received}
use Rattle.event_rules.specs.declared.known.Known.{Known}
use Rattle.event_rules.specs.declared.known.Known.TheVariants.{There, Leads}
use Rattle.event_rules.specs.EventGiven.{content_of, start_of, is_called, handed_arrival, handed_callback_gives, handed_of_class, handed_on, hands_over, exit_leads, exit_is, exit_taints, exit_points_give, exit_taint_gives}
use Rattle.event_rules.specs.GivenBack.{object_of, type_of_position, type_at, takes, back_register, back_index, back_in, back, label_back, label_takes, pair_gives, pair_of_class, any_handed, entry_gives, entry_takes, handed_back_as, handed_back, is_handed, label_handed_as, label_handed}
use Rattle.event_rules.specs.RowGiven.{reached_gives}

asks_entry : (b : Activation) → IsEvent b.ctx → asks EventEntries (Reached (entry b)) ≡ true
asks_entry b event = under_asked EventEntries (Reached (entry b)) (b, (event, refl))

module _ (app : App) (lists : Lists) (events : EventsAreExact app lists) where
  -- 43
  abbrev handed_start : Known → Site → ℕ → ℕ → Start
  handed_start w s q body = start_of (handed_arrival (object_of s w)) (ctx.Handed q) body

  in_handed : (w : Known) (s : Site) (class : Name) → SiteClass app lists s class → (q body : ℕ) (sources : List (ℕ × ℕ)) → HandedAt app lists q class sources body → (x : Conclusion) →
      In x (is_called app (handed_arrival (object_of s w)) (ctx.Handed q) (Some (sources, body))) → In x (handed_on app lists (object_of s w))
  in_handed w s class is q body sources at x i =
      let object = object_of s w in
      subst (λ o. In x (handed_of_class app lists object o)) (sym is.is_class)
      (in_below x (handed_callback_gives app lists object class) q (length lists.callbacks) (slice_get_within lists.callbacks q at.callback at.is_row.there)
      (subst (λ o. In x (is_called app (handed_arrival object) (ctx.Handed q) o)) (sym ((events.handed q class sources body).0 at)) i))

  pub handed_object_begins : (s : Site) (class : Name) → SiteClass app lists s class → (q body : ℕ) (sources : List (ℕ × ℕ)) → HandedAt app lists q class sources body → (row : Row) →
      Begins app (ctx.Handed q) body sources row → In (concludes 43 (of_one (Handed s)) row) (handed_on app lists (object_of s There))
  handed_object_begins s class is q body sources at row begins =
      in_handed There s class is q body sources at (concludes 43 (of_one (Handed s)) row)
      (object_begins app (handed_start There s q body) sources s row begins)

  pub handed_receives : (w : Known) (s : Site) (class : Name) → SiteClass app lists s class → (q body z : ℕ) (sources : List (ℕ × ℕ)) → HandedAt app lists q class sources body →
      ArgumentRegister app body 0 z →
      In (says (handed_start w s q body) (held (content_of w s) (first_of (handed_start w s q body)) z)) (handed_on app lists (object_of s w))
  handed_receives w s class is q body z sources at r =
      let start = handed_start w s q body in
      in_handed w s class is q body sources at (says start (held (content_of w s) (first_of start) z)) (is_received app start sources (content_of w s) z r)

  -- 45
  in_back_list : (w : Known) (s : Site) (class : Name) (b : Activation) (i z : ℕ) (type : Name) (r : EventRegister app b.method i z) →
      ReferenceParameter app b.method i type → Below app lists class type →
      In (back_register (object_of s w) b z) (back app lists (object_of s w) class b)
  in_back_list w s class b i z type r p below =
      let m = r.method in
      let object = object_of s w in
      let at : ℕ → Conclusion = back_register object b in
      let register = (m.registers - m.ins) + r.index in
      let same : p.method ≡ m = let first = p.there in let second = r.has.there in cc in
      let is_type : parameter_type m.at.proto.params i ≡ Some type = ap (λ (n : Method). parameter_type n.at.proto.params i) (sym same) ∙ p.is_type in
      let type_here : type_at m.at.proto.params r.index ≡ Some type = ap (type_of_position m.at.proto.params) r.is_at.there ∙ is_type in
      let takes_it : takes app lists class (type_at m.at.proto.params r.index) ≡ true =
      ap (takes app lists class) type_here ∙ and_from (is_reference type) (is_below app lists class type) p.reference ((events.below class type).1 below) in
      subst (λ o. In (at z) (back_in app lists object class b o)) (sym r.has.there)
      (in_unless (at z) m.is_native (for_below (back_index app lists object class b m) m.ins) r.has.code
      (in_below (at z) (back_index app lists object class b m) r.index m.ins r.below
      (in_where (at z) (takes app lists class (type_at m.at.proto.params r.index)) (at register ∷ []) takes_it (inl (ap at r.is)))))

  module _ (has : Row → Type 0) (hits : Key → List Row) (law : (k : Key) → IsHits has k (hits k)) where
    -- an object that comes back, from the event and from the object
    from_pair : (s : Site) (class : Name) (b : Activation) → IsEvent b.ctx → SiteClass app lists s class → has (Handed s) → (x : Conclusion) →
        In x (pair_gives app lists hits s class b) → In x (reached_gives app lists hits (entry b))
    from_pair s class b event is q x i =
        in_where x (asks EventEntries (Reached (entry b))) (entry_gives app lists hits b) (asks_entry b event)
        (found has hits law AnyHanded (any_handed app lists hits b) (Handed s) x q (s, refl)
        (subst (λ o. In x (pair_of_class app lists hits s o b)) (sym is.is_class) i))

    from_object : (s : Site) (class : Name) (b : Activation) → IsEvent b.ctx → SiteClass app lists s class → has (Reached (entry b)) → (x : Conclusion) →
        In x (pair_gives app lists hits s class b) → In x (handed_on app lists (object_of s There) ++ handed_back app lists hits s)
    from_object s class b event is p x i =
        in_back x (handed_on app lists (object_of s There)) (handed_back app lists hits s)
        (subst (λ o. In x (handed_back_as app lists hits s o)) (sym is.is_class)
        (found has hits law EventEntries (entry_takes app lists hits s class) (Reached (entry b)) x p (b, (event, refl)) i))

    from_label : (s : Site) (p : Path) (l : ℕ) (class : Name) (b : Activation) → IsEvent b.ctx → SiteClass app lists s class → has (Reached (entry b)) → has (Handed s) → (x : Conclusion) →
        In x (back app lists (object_of s (Leads p l)) class b) →
        In x (handed_on app lists (object_of s (Leads p l)) ++ label_handed app lists hits (object_of s (Leads p l)))
    from_label s p l class b event is reached q x i =
        let object = object_of s (Leads p l) in
        in_back x (handed_on app lists object) (label_handed app lists hits object)
        (subst (λ o. In x (label_handed_as app lists hits object o)) (sym is.is_class)
        (found has hits law (HandedOf s) (is_handed app lists hits object class) (Handed s) x q refl
        (found has hits law EventEntries (label_takes app lists object class) (Reached (entry b)) x reached (b, (event, refl)) i)))

    in_pair_label : (s : Site) (p : Path) (l : ℕ) (class : Name) (b : Activation) → has (HandedTaint s p l) → (x : Conclusion) →
        In x (back app lists (object_of s (Leads p l)) class b) → In x (pair_gives app lists hits s class b)
    in_pair_label s p l class b r x i =
        in_back x (back app lists (object_of s There) class b) (flat_map (label_back app lists s class b) (hits (HandedTaintsOf s)))
        (found has hits law (HandedTaintsOf s) (label_back app lists s class b) (HandedTaint s p l) x r (p, (l, refl)) i)

    module _ (s : Site) (class : Name) (b : Activation) (i z : ℕ) (type : Name) (event : IsEvent b.ctx) (is : SiteClass app lists s class)
        (r : EventRegister app b.method i z) (parameter : ReferenceParameter app b.method i type) (below : Below app lists class type) where
      in_pair : In (back_register (object_of s There) b z) (pair_gives app lists hits s class b)
      in_pair =
          in_front (back_register (object_of s There) b z) (back app lists (object_of s There) class b) (flat_map (label_back app lists s class b) (hits (HandedTaintsOf s)))
          (in_back_list There s class b i z type r parameter below)

      pub object_from_event : has (Handed s) → In (back_register (object_of s There) b z) (reached_gives app lists hits (entry b))
      object_from_event q = from_pair s class b event is q (back_register (object_of s There) b z) in_pair

      pub object_from_object : has (Reached (entry b)) →
          In (back_register (object_of s There) b z) (handed_on app lists (object_of s There) ++ handed_back app lists hits s)
      object_from_object p = from_object s class b event is p (back_register (object_of s There) b z) in_pair

      module _ (p : Path) (l : ℕ) where
        labelled : In (back_register (object_of s (Leads p l)) b z) (back app lists (object_of s (Leads p l)) class b)
        labelled = in_back_list (Leads p l) s class b i z type r parameter below

        pub label_from_event : has (Handed s) → has (HandedTaint s p l) → In (back_register (object_of s (Leads p l)) b z) (reached_gives app lists hits (entry b))
        label_from_event q t =
            let x = back_register (object_of s (Leads p l)) b z in
            from_pair s class b event is q x (in_pair_label s p l class b t x labelled)

        pub label_from_object : has (Reached (entry b)) → has (HandedTaint s p l) →
            In (back_register (object_of s (Leads p l)) b z) (handed_on app lists (object_of s There) ++ handed_back app lists hits s)
        label_from_object reached t =
            let x = back_register (object_of s (Leads p l)) b z in
            from_object s class b event is reached x (in_pair_label s p l class b t x labelled)

        pub label_from_label : has (Reached (entry b)) → has (Handed s) →
            In (back_register (object_of s (Leads p l)) b z) (handed_on app lists (object_of s (Leads p l)) ++ label_handed app lists hits (object_of s (Leads p l)))
        label_from_label reached q = from_label s p l class b event is reached q (back_register (object_of s (Leads p l)) b z) labelled

    -- 46
    over : (b : Activation) → IsEvent b.ctx → hands_over b 0 ≡ true
    over b event = and_from (0 == 0) (asks EventEntries (Reached (entry b))) (itself 0) (asks_entry b event)

    abbrev returns : Activation → Site → List Conclusion
    returns b s = concludes 46 (of_one (ExitPoints b 0 s)) (Handed s) ∷ flat_map (exit_is b s) (hits (ExitTaintsOf b 0))

    pub object_returned : (b : Activation) (s : Site) → IsEvent b.ctx → In (concludes 46 (of_one (ExitPoints b 0 s)) (Handed s)) (exit_points_give hits b 0 s)
    object_returned b s event = in_where (concludes 46 (of_one (ExitPoints b 0 s)) (Handed s)) (hands_over b 0) (returns b s) (over b event) (inl refl)

    pub label_returned : (b : Activation) (s : Site) (p : Path) (l : ℕ) → IsEvent b.ctx → has (ExitTaint b 0 p l) → In (exit_leads b s p l) (exit_points_give hits b 0 s)
    label_returned b s p l event t =
        in_where (exit_leads b s p l) (hands_over b 0) (returns b s) (over b event)
        (inr (found has hits law (ExitTaintsOf b 0) (exit_is b s) (ExitTaint b 0 p l) (exit_leads b s p l) t (p, (l, refl)) (inl refl)))

    pub returned_beside : (b : Activation) (s : Site) (p : Path) (l : ℕ) → IsEvent b.ctx → has (ExitPoints b 0 s) → In (exit_leads b s p l) (exit_taint_gives hits b 0 p l)
    returned_beside b s p l event e =
        in_where (exit_leads b s p l) (hands_over b 0) (flat_map (exit_taints b p l) (hits (ExitPointsOf b 0))) (over b event)
        (found has hits law (ExitPointsOf b 0) (exit_taints b p l) (ExitPoints b 0 s) (exit_leads b s p l) e (s, refl) (inl refl))

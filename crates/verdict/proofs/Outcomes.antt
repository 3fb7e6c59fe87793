-- What an app comes to, that it tells of every run, and that a clear app is safe.
use Rattle.std.proofs.Common.{◌≡◌, ◌==◌, ℕ, true, List, [], ◌∷◌, ◌++◌, Option, Some, None, refl, sym, ◌∙◌, ap, subst, inl, inr}
use Rattle.std.proofs.lemmas.Bool.{eq-eqb}
use Rattle.std.specs.Prelude.{IfNone, IfSome}
use Rattle.app_machine.specs.declared.app.App.{App}
use Rattle.app_machine.specs.declared.lists.Lists.{Lists}
use Rattle.app_machine.specs.declared.papers.Declaration.{Declaration}
use Rattle.app_machine.specs.Safe.{Safe}
use Rattle.app_machine.specs.Sound.{SoundApp}
use Rattle.app_machine.specs.State.{Arrival}
use Rattle.app_flow.specs.declared.flow.Flow.{Flow}
use Rattle.app_flow.specs.declared.flow.Flow.TheVariants.{Rows, TooLarge}
use Rattle.app_flow.specs.declared.flow_rows.FlowTable.{FlowTable}
use Rattle.app_flow.specs.Flow.{IsGoodFlow}
use Rattle.fact_rows.specs.declared.context.Node.{Node}
use Rattle.fact_rows.specs.declared.row.Row.{Row}
use Rattle.fact_rows.specs.declared.row.Row.TheVariants.{Arrive, Unknown}
use Rattle.fact_rows.specs.InApp.{CauseIn}
use Rattle.flow_analyses.specs.declared.Analysis.{Analysis}
use Rattle.flow_analyses.specs.declared.Analysis.TheVariants.{Paths, Cells}
use Rattle.flow_analyses.specs.Analyses.{GoodTableBy, InAppBy}
use Rattle.flow_analyses.specs.Laws.{EachGoodTableCovers}
use Rattle.flow_proof.specs.Covering.{CoversEveryRun, InSomeContext}
use Rattle.flow_telling.specs.declared.told.Told.{Told}
use Rattle.flow_telling.specs.Told.{told_of, TellsNothing}
use Rattle.outcomes.specs.declared.outcome.Cause.{Cause}
use Rattle.outcomes.specs.declared.outcome.Cause.TheVariants as causes
use Rattle.outcomes.specs.declared.outcome.Finding.{Finding}
use Rattle.outcomes.specs.declared.outcome.Place.{Place}
use Rattle.outcomes.specs.Causes.{causes_of, causes_too_large, layout_classes, place_of, providers, unknown_places}
use Rattle.outcomes.specs.Findings.{arrival_of, arrivals_in, finding_of, findings_of}
use Rattle.outcomes.specs.NothingLeftOut.{EachIsFound, EachIsNamed}
use Rattle.outcomes.specs.Places.{place_in}
use Rattle.outcomes.specs.Within.{IsWithin, AreWithin}
use Rattle.vet_base.specs.Members.{In}
use Rattle.vet_base.proofs.Members.{in_front, in_back, in_filter_map}
use Rattle.verdict.specs.declared.linking.Linked.{Linked}
use Rattle.verdict.specs.declared.outcome.Judged.{Judged}
use Rattle.verdict.specs.declared.outcome.Outcome.{Outcome}
use Rattle.verdict.specs.declared.outcome.Outcome.TheVariants.{Clear, Refused}
use Rattle.verdict.specs.declared.papers.Refusal.{Refusal}
use Rattle.verdict.specs.declared.parts.Parts.{Parts}
use Rattle.device_causes.specs.DeviceCauses.{device_causes}
use Rattle.link_access.specs.Access.{Accesses}
use Rattle.verdict.specs.Linked.{IsLinked, causes_beside}
use Rattle.verdict.specs.OneVerdict.{RefusesOnly}
use Rattle.verdict.specs.Outcome.{causes_in, findings_in, outcome_of}
use Rattle.verdict.specs.Tells.{IsFollowed, TellsAll, TellsOfApp}
use Rattle.verdict.specs.Verdict.{ComesTo, Judgement, refused, linked, refusal, IsSafeApp, judged_by, told_beside}

-- a row in the app names methods of the app
is_within : (analysis : Analysis) (app : App) (lists : Lists) (row : Row) → InAppBy analysis app lists row → IsWithin app row
is_within Paths app lists (Arrive label sink n) fields = fields.1.1.0.activation.method
is_within Cells app lists (Arrive label sink n) fields = fields.1.1.0.activation.method
is_within Paths app lists (Unknown n cause) fields = fields.0.activation.method
is_within Cells app lists (Unknown n cause) fields = fields.0.activation.method
is_within analysis app lists _ fields = tt

-- and its cause is one of those that there are
cause_in : (analysis : Analysis) (app : App) (lists : Lists) (n : Node) (cause : ℕ) → InAppBy analysis app lists (Unknown n cause) → CauseIn cause
cause_in Paths app lists n cause fields = fields.1.0
cause_in Cells app lists n cause fields = fields.1.0

pub good_is_within : (analysis : Analysis) (app : App) (lists : Lists) (rows : List Row) → GoodTableBy analysis app lists rows → AreWithin app rows
good_is_within analysis app lists rows good row there = is_within analysis app lists row (good.in_app row there)

pub flow_is_within : (app : App) (lists : Lists) (flow : Flow) → IsGoodFlow app lists flow → (table : FlowTable) → flow ≡ Rows table → AreWithin app table.rows
flow_is_within app lists flow good table is =
    let of_table : IsGoodFlow app lists (Rows table) = subst (IsGoodFlow app lists) is good in
    good_is_within table.analysis app lists table.rows of_table

-- what is not there is refused, so it is not good
pub never_refused : {T : Type 0} (found : Option T) (Good : Type 0) → IfNone found (Good → ⊥) → found ≡ None → Good → ⊥
never_refused None Good denied none good = denied good
never_refused (Some x) Good denied none good = absurd cc

pub judged_there : (app : App) (lists : Lists) (declaration : Declaration) (beside : List Cause) (flow : Flow) (found : Option Judged) (j : Judged) →
    IfSome found (λ k. k ≡ judged_by app lists declaration beside flow) → found ≡ Some j → j ≡ judged_by app lists declaration beside flow
judged_there app lists declaration beside flow found j same is = subst (λ (o : Option Judged). IfSome o (λ k. k ≡ judged_by app lists declaration beside flow)) is same

-- an outcome by what rows tell is that of the rows, and where it is clear they tell nothing
pub judged_as_told : (app : App) (lists : Lists) (declaration : Declaration) (beside : List Cause) (table : FlowTable) (told : Told) (outcome : Outcome) → told ≡ told_of app lists declaration beside table.rows →
    outcome ≡ outcome_of told.causes told.findings → record { outcome = outcome; table = Some table } ≡ judged_by app lists declaration beside (Rows table)
judged_as_told app lists declaration beside table told outcome is same =
    ap (λ (o : Outcome). record { outcome = o; table = Some table }) (same ∙ ap (λ (t : Told). outcome_of t.causes t.findings) is)

nothing_of : (causes : List Cause) (items : List Finding) → outcome_of causes items ≡ Clear → (causes ≡ []) × (items ≡ [])
nothing_of [] [] clear = (refl, refl)
nothing_of [] (f ∷ fs) clear = absurd cc
nothing_of (c ∷ cs) fs clear = absurd cc

pub nothing_where_clear : (told : Told) (outcome : Outcome) → outcome ≡ outcome_of told.causes told.findings → outcome ≡ Clear → TellsNothing told
nothing_where_clear told outcome same clear = nothing_of told.causes told.findings (sym same ∙ clear)

pub too_large_is_good : (app : App) (lists : Lists) (flow : Flow) (limit : ℕ) → flow ≡ TooLarge limit → IsGoodFlow app lists flow
too_large_is_good app lists flow limit is = subst (IsGoodFlow app lists) (sym is) tt

-- an outcome tells the causes and findings of which it is made
causes_told : (causes : List Cause) (items : List Finding) → causes_in (outcome_of causes items) ≡ causes
causes_told [] [] = refl
causes_told [] (f ∷ fs) = refl
causes_told (c ∷ cs) fs = refl

findings_told : (causes : List Cause) (items : List Finding) → findings_in (outcome_of causes items) ≡ items
findings_told [] [] = refl
findings_told [] (f ∷ fs) = refl
findings_told (c ∷ cs) fs = refl

-- what rows say of an arrival, and of a place where a run may stand
arrives : (rows : List Row) (a : Arrival) → InSomeContext a.method a.pc (λ n. In (Arrive a.label a.sink n) rows) → In a (arrivals_in rows)
unfolding arrivals_in
arrives rows a there =
    let at : ℕ → ℕ → Option Arrival = λ method pc. Some (record { label = a.label; sink = a.sink; method = method; pc = pc }) in
    let same : at there.node.by.method there.node.pc ≡ at a.method a.pc = ap (λ m. at m there.node.pc) there.same_method ∙ ap (at a.method) there.same_pc in
    in_filter_map arrival_of rows (Arrive a.label a.sink there.node) a there.holds same

stands_at : (app : App) (rows : List Row) (method pc cause : ℕ) → InSomeContext method pc (λ n. In (Unknown n cause) rows) → In (place_in app method pc) (unknown_places app cause rows)
unfolding unknown_places
stands_at app rows method pc cause there =
    let itself : cause == cause ≡ true = eq-eqb cause cause refl in
    let gives : place_of app cause (Unknown there.node cause) ≡ Some (place_in app there.node.by.method there.node.pc) = rw itself refl in
    let same : place_in app there.node.by.method there.node.pc ≡ place_in app method pc = ap (λ m. place_in app m there.node.pc) there.same_method ∙ ap (place_in app method) there.same_pc in
    in_filter_map (place_of app cause) rows (Unknown there.node cause) (place_in app method pc) there.holds (gives ∙ ap (λ (p : Place). Some p) same)

-- the outcome of a good table tells of every run
pub rows_tell : EachIsFound → EachIsNamed → (analysis : Analysis) (app : App) (lists : Lists) (declaration : Declaration) (beside : List Cause) (rows : List Row) → SoundApp app → GoodTableBy analysis app lists rows → CoversEveryRun app lists (λ row. In row rows)
    → TellsAll app lists declaration (outcome_of (causes_of app rows ++ beside) (findings_of app lists declaration rows))
rows_tell found named analysis app lists declaration beside rows sound good covers = record {
  arrivals = λ w fs run a is_in.
      let told = found app lists declaration rows sound within a (arrives rows a (covers.arrivals w fs run a is_in)) in
      elim told [ inl declared ↦ inl declared | inr there ↦ inr (subst (In (finding_of app lists a)) (sym (findings_told (causes_of app rows ++ beside) (findings_of app lists declaration rows))) there) ];
  stands = λ w fs run method pc cause stands.
      let there = covers.stands w fs run method pc cause stands in
      let bounds = cause_in analysis app lists there.node cause (good.in_app (Unknown there.node cause) there.holds) in
      subst (In _) (sym (causes_told (causes_of app rows ++ beside) (findings_of app lists declaration rows)))
      (in_front _ (causes_of app rows) beside (named app rows sound within cause bounds.0 bounds.1 (place_in app method pc) (stands_at app rows method pc cause there)));
}
  where
    within : AreWithin app rows
    within = good_is_within analysis app lists rows good

by_flow : EachIsFound → EachIsNamed → EachGoodTableCovers → (app : App) (lists : Lists) (declaration : Declaration) (beside : List Cause) (flow : Flow) → SoundApp app → IsGoodFlow app lists flow
    → IsFollowed (judged_by app lists declaration beside flow).outcome → TellsAll app lists declaration (judged_by app lists declaration beside flow).outcome
unfolding causes_too_large
by_flow found named covers app lists declaration beside (Rows table) sound good followed =
    rows_tell found named table.analysis app lists declaration beside table.rows sound good (covers table.analysis app lists table.rows sound good)
by_flow found named covers app lists declaration beside (TooLarge limit) sound good followed =
    absurd (followed.not_too_large limit (in_front (causes.TooLarge limit) (causes_too_large app limit) beside (in_back (causes.TooLarge limit) (providers app ++ layout_classes app) (causes.TooLarge limit ∷ []) (inl refl))))

pub flow_tells : EachIsFound → EachIsNamed → EachGoodTableCovers → (app : App) (lists : Lists) (declaration : Declaration) (beside : List Cause) (flow : Flow) (j : Judged) → SoundApp app → IsGoodFlow app lists flow
    → j ≡ judged_by app lists declaration beside flow → IsFollowed j.outcome → TellsAll app lists declaration j.outcome
flow_tells found named covers app lists declaration beside flow j sound good same followed =
    let told = by_flow found named covers app lists declaration beside flow sound good (subst (λ (k : Judged). IsFollowed k.outcome) same followed) in
    subst (λ (k : Judged). TellsAll app lists declaration k.outcome) (sym same) told

-- the causes beside are those of the files
pub as_told : (parts : Parts) (l : Linked) (is : IsLinked parts l) → causes_beside l ≡ told_beside l.papers is.dexes l.app
as_told parts l is = ap (λ (access : Accesses). device_causes l.app access l.papers.lists l.papers.device l.papers.named) is.access

-- what is said of the app is said of the parts
pub judgement_on : (parts : Parts) (l : Linked) (j : Judged) → IsLinked parts l → ComesTo l.app l.papers.lists l.papers.large l.papers.declaration (causes_beside l) j → Judgement parts j
judgement_on parts l j is comes =
    linked l.papers is.dexes l.app is.reads is.is_app (subst (λ (beside : List Cause). ComesTo l.app l.papers.lists l.papers.large l.papers.declaration beside j) (as_told parts l is) comes)

pub tells_of_parts : (parts : Parts) (l : Linked) (outcome : Outcome) → IsLinked parts l → (IsFollowed outcome → TellsAll l.app l.papers.lists l.papers.declaration outcome) → IsFollowed outcome → TellsOfApp parts outcome
tells_of_parts parts l outcome is tells followed = record { papers = l.papers; dexes = is.dexes; reads = is.reads; app = l.app; is_app = is.is_app; tells = tells followed }

-- an app of which clear tells all is safe
clear_tells : (app : App) (lists : Lists) (declaration : Declaration) → TellsAll app lists declaration Clear → Safe app lists declaration
clear_tells app lists declaration tells = record {
  declared = λ w fs run a is_in. elim (tells.arrivals w fs run a is_in) [ inl declared ↦ declared | inr none ↦ absurd none ];
  never_stands = λ w fs run method pc cause stands. tells.stands w fs run method pc cause stands;
}

clear_is_followed : IsFollowed Clear
clear_is_followed = record { not_refused = λ part reason same. absurd cc; not_too_large = λ limit none. none }

pub clear_is_safe : (parts : Parts) (outcome : Outcome) → (IsFollowed outcome → TellsOfApp parts outcome) → outcome ≡ Clear → IsSafeApp parts
clear_is_safe parts outcome told clear =
    let of_clear : TellsOfApp parts Clear = subst (λ (o : Outcome). IsFollowed o → TellsOfApp parts o) clear told clear_is_followed in
    record { papers = of_clear.papers; dexes = of_clear.dexes; reads = of_clear.reads; app = of_clear.app; is_app = of_clear.is_app; safe = clear_tells of_clear.app of_clear.papers.lists of_clear.papers.declaration of_clear.tells }

-- a refusal
pub refused_with : (parts : Parts) (r : Refusal) → RefusesOnly parts r.part r.reason → Judgement parts (refusal r.part r.reason)
refused_with parts r this = refused r.part r.reason this.refuses

pub no_followed_refusal : (parts : Parts) (r : Refusal) → IsFollowed (Refused r.part r.reason) → TellsOfApp parts (Refused r.part r.reason)
no_followed_refusal parts r followed = absurd (followed.not_refused r.part r.reason refl)

pub no_clear_refusal : (parts : Parts) (r : Refusal) → Refused r.part r.reason ≡ Clear → IsSafeApp parts
no_clear_refusal parts r clear = absurd cc

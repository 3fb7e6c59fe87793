-- Rule 36 from the static of a shared object: what is listed follows, and what follows is listed.
use Rattle.std.proofs.Common.{◌≡◌, ◌≤◌, ℕ, Bool, true, List, [], ◌∷◌, Option, Some, None, cond, length, flat_map, slice_get, option_map, nat_lt, eqb-true, refl, sym, ap, subst, ◌∙◌, arith}
use Rattle.std.specs.List.{AllByRecursion}
use Rattle.std.proofs.lemmas.Bool.{le-ltb}
use Rattle.std.proofs.lemmas.Option.{none-some, same_Some, slice_get_within}
use Rattle.vet_base.specs.Members.{In}
use Rattle.vet_base.proofs.Every.{each_where, each_unless, in_where, in_unless}
use Rattle.access_path.specs.declared.path.Path.{Path}
use Rattle.app_machine.specs.declared.call.MethodRef.{MethodRef}
use Rattle.app_machine.specs.declared.summary.Gives.{Gives}
use Rattle.app_machine.specs.declared.summary.Gives.TheVariants as gives
use Rattle.app_machine.specs.declared.summary.Summary.{Summary}
use Rattle.app_machine.specs.declared.lists.FallbackWord.{FallbackWord}
use Rattle.app_machine.specs.declared.lists.FallbackWord.TheVariants as fallback
use Rattle.app_machine.specs.declared.lists.LibClass.{LibClass}
use Rattle.app_machine.specs.declared.lists.Lists.{Lists}
use Rattle.app_machine.specs.declared.lists.SummaryId.{SummaryId}
use Rattle.app_machine.specs.declared.lists.SummaryId.TheVariants as summary_id
use Rattle.app_machine.specs.declared.app.App.{App}
use Rattle.app_machine.specs.Names.{is_void}
use Rattle.app_machine.specs.State.{result_register, shared_static}
use Rattle.app_machine.specs.Summaries.{summary, default_summary}
use Rattle.app_parts.specs.Views.{call_result}
use Rattle.fact_rows.specs.declared.context.Node.{Node}
use Rattle.fact_rows.specs.declared.row.Row.{Row}
use Rattle.fact_rows.specs.declared.row.Row.TheVariants.{Taint, StaticTaint, Uses}
use Rattle.flow_rules.specs.Nodes.{at_pc, GoesOn}
use Rattle.flow_rules.specs.LibraryRules.{LibraryRule, RowAt, HasResult, shared_taint}
use Rattle.rule_ground.specs.declared.conclusion.Premises.{Premises}
use Rattle.rule_ground.specs.declared.conclusion.Conclusion.{Conclusion}
use Rattle.rule_ground.specs.declared.content.Content.TheVariants.{Label}
use Rattle.rule_ground.specs.declared.key.Key.{Key}
use Rattle.rule_ground.specs.declared.key.Key.TheVariants.{UsesOf}
use Rattle.rule_ground.specs.Below.{for_below, each_below, in_below}
use Rattle.rule_ground.specs.Exact.{IsSound}
use Rattle.rule_ground.specs.Given.{of_two, concludes}
use Rattle.rule_ground.specs.Hits.{IsHits}
use Rattle.rule_ground.specs.Listing.{second, each_sound, in_each, itself, at_hit, of_hits, found}
use Rattle.library_ground.specs.CallRow.{CallRow, call_row, has_result}
use Rattle.library_ground.specs.Stands.{of_row, row_here, stands, goes_on, goes_in}
use Rattle.library_value_rules.specs.ValueGiven.{results}
use Rattle.library_value_rules.specs.exact.ValueSound.{not_void}
use Rattle.library_value_rules.specs.exact.ValueComplete.{has_one}
use Rattle.library_value_rules.specs.StaticGiven.{is_shared_of, static_call, static_user, gives_shared, row_shares, static_row, static_gives}

-- only a row of its own gives a shared object, and not a default
record IsRow (lists : Lists) (u : SummaryId) (row : Summary) : Type 0 where
  number : ℕ
  is : u ≡ summary_id.Row number
  there : slice_get lists.methods number ≡ Some row

none_shared : (word : FallbackWord) (at : MethodRef) (is_static : Bool) (g : ℕ) → (default_summary word at is_static).gives ≡ gives.Shared g → ⊥
none_shared fallback.Blank at is_static g e = cc
none_shared fallback.Joined at is_static g e = cc
none_shared fallback.Mixed at is_static g e = cc

row_number : (lists : Lists) (u : SummaryId) (at : MethodRef) (is_static : Bool) (row : Summary) (g : ℕ) →
    summary lists u at is_static ≡ Some row → row.gives ≡ gives.Shared g → IsRow lists u row
unfolding summary
row_number lists (summary_id.Row i) at is_static row g e shared = record { number = i; is = refl; there = e }
row_number lists (summary_id.Fallback i) at is_static row g e shared = of_class (slice_get lists.classes i) e
  where
    of_word : (o : Option FallbackWord) → option_map (λ word. default_summary word at is_static) o ≡ Some row → IsRow lists (summary_id.Fallback i) row
    of_word None k = absurd (none-some row k)
    of_word (Some word) k =
        absurd (none_shared word at is_static g (ap (λ (s : Summary). s.gives) (same_Some (default_summary word at is_static) row k) ∙ shared))

    of_class : (o : Option LibClass) → elim o [ None ↦ None | Some c ↦ option_map (λ word. default_summary word at is_static) c.fallback ] ≡ Some row →
        IsRow lists (summary_id.Fallback i) row
    of_class None k = absurd (none-some row k)
    of_class (Some c) k = of_word c.fallback k

module _ (app : App) (lists : Lists) (has : Row → Type 0) (hits : Key → List Row) (law : (k : Key) → IsHits has k (hits k)) where
  abbrev R : ℕ → List Row → Row → Type 0
  R = LibraryRule app lists

  module _ (g : ℕ) (p : Path) (l : ℕ) (h : has (StaticTaint g p l)) where
    abbrev label : Row
    label = StaticTaint g p l

    abbrev P : Conclusion → Type 0
    P = IsSound R has label

    shared_rule : (n : Node) (u : SummaryId) (r : RowAt app lists n u) → HasResult r → (x : Gives) → r.row.gives ≡ x →
        is_shared_of app g (call_result x) ≡ true → (pc : ℕ) → GoesOn app n pc → R 36 (Uses n u ∷ label ∷ []) (Taint (at_pc n pc) result_register p l)
    shared_rule n u r gives_one gives.Blank e t pc goes = absurd cc
    shared_rule n u r gives_one (gives.Same j) e t pc goes = absurd cc
    shared_rule n u r gives_one (gives.Taken j) e t pc goes = absurd cc
    shared_rule n u r gives_one (gives.Joined from) e t pc goes = absurd cc
    shared_rule n u r gives_one gives.Handed e t pc goes = absurd cc
    shared_rule n u r gives_one (gives.Shared k) e t pc goes =
        subst (λ z. R 36 (Uses n u ∷ StaticTaint z p l ∷ []) (Taint (at_pc n pc) result_register p l)) (eqb-true (shared_static app k) g t)
        (shared_taint r e gives_one goes)

    row_sound : (n : Node) (u : SummaryId) → has (Uses n u) → (r : RowAt app lists n u) → AllByRecursion P (static_call app g p l (Some (of_row app lists n u r)))
    row_sound n u there r =
        let c = of_row app lists n u r in
        let all : List Conclusion = results 36 (of_two (Uses n u) label) (Label p l) c in
        each_where P (has_result c) (cond (is_shared_of app g (call_result r.row.gives)) all []) (λ t.
        each_where P (is_shared_of app g (call_result r.row.gives)) all (λ s.
        each_sound P 36 (of_two (Uses n u) label) (Label p l) n c.next result_register (λ pc j.
        second R has (shared_rule n u r (not_void (is_void c.ret) t) r.row.gives refl s pc (goes_on app lists n u r j)) there h)))

    call_sound : (n : Node) (u : SummaryId) → has (Uses n u) → (o : Option CallRow) → call_row app lists n u ≡ o → AllByRecursion P (static_call app g p l o)
    call_sound n u there None e = tt
    call_sound n u there (Some c) e =
        let r = stands app lists n u c e in
        subst (λ z. AllByRecursion P (static_call app g p l (Some z))) (sym r.1) (row_sound n u there r.0)

    pub static_sound : AllByRecursion P (static_gives app lists hits g p l)
    static_sound = each_unless P (nat_lt g (length app.statics)) (for_below (static_row app lists hits g p l) (length lists.methods)) (λ past.
        each_below P (static_row app lists hits g p l) (length lists.methods) (λ i below.
        each_where P (row_shares app g (slice_get lists.methods i)) (flat_map (static_user app lists g p l) (hits (UsesOf (summary_id.Row i)))) (λ t.
        of_hits has hits law P (UsesOf (summary_id.Row i)) (static_user app lists g p l) (λ row j.
        let w = (law (UsesOf (summary_id.Row i))).under row j in
        let u : SummaryId = summary_id.Row i in
        (Uses w.0 u, w.1, call_sound w.0 u (at_hit has hits law _ row _ j w.1) (call_row app lists w.0 u) refl)))))

  module _ (n : Node) (u : SummaryId) (r : RowAt app lists n u) (k pc : ℕ) (p : Path) (l : ℕ) where
    -- the number of the object's static, and what the result gets from it
    abbrev g : ℕ
    g = shared_static app k

    abbrev y : Conclusion
    y = concludes 36 (of_two (Uses n u) (StaticTaint g p l)) (Taint (at_pc n pc) result_register p l)

    in_user : r.row.gives ≡ gives.Shared k → HasResult r → GoesOn app n pc → In y (static_user app lists g p l (Uses n u))
    in_user e gives_one goes =
        let c = of_row app lists n u r in
        let premises : Premises = of_two (Uses n u) (StaticTaint g p l) in
        let all : List Conclusion = results 36 premises (Label p l) c in
        subst (λ o. In y (static_call app g p l o)) (sym (row_here app lists n u r))
        (in_where y (has_result c) (cond (is_shared_of app g (call_result r.row.gives)) all []) (has_one (is_void c.ret) gives_one)
        (in_where y (is_shared_of app g (call_result r.row.gives)) all (subst (λ z. is_shared_of app g (call_result z) ≡ true) (sym e) (itself g))
        (in_each 36 premises (Label p l) n c.next result_register pc (goes_in app lists n u r goes))))

    of_number : has (Uses n u) → r.row.gives ≡ gives.Shared k → In y (static_user app lists g p l (Uses n u)) → IsRow lists u r.row →
        In y (static_gives app lists hits g p l)
    of_number there e user row =
        let past : length app.statics ≤ g = omega arith in
        let key : Key = UsesOf (summary_id.Row row.number) in
        let shares : row_shares app g (slice_get lists.methods row.number) ≡ true =
        subst (λ o. row_shares app g o ≡ true) (sym row.there) (subst (λ z. gives_shared app g z ≡ true) (sym e) (itself g)) in
        in_unless y (nat_lt g (length app.statics)) (for_below (static_row app lists hits g p l) (length lists.methods)) (le-ltb g (length app.statics) past)
        (in_below y (static_row app lists hits g p l) row.number (length lists.methods) (slice_get_within lists.methods row.number r.row row.there)
        (in_where y (row_shares app g (slice_get lists.methods row.number)) (flat_map (static_user app lists g p l) (hits key)) shares
        (found has hits law key (static_user app lists g p l) (Uses n u) y there (n, ap (Uses n) row.is) user)))

    pub static_in : has (Uses n u) → r.row.gives ≡ gives.Shared k → HasResult r → GoesOn app n pc → In y (static_gives app lists hits g p l)
    static_in there e gives_one goes = of_number there e (in_user e gives_one goes) (row_number lists u r.at _ r.row k r.is_row e)

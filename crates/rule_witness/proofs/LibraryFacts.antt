-- Rules 30 to 39 give their rows.
use Rattle.std.proofs.Common.{◌≡◌, ℕ, List, [], ◌∷◌, inl, true, false, Some, refl}
use Rattle.access_path.specs.Paths.{cut, rest, empty_path}
use Rattle.app_machine.specs.declared.call.MethodRef.{MethodRef}
use Rattle.app_machine.specs.declared.call.CallKind.TheVariants.{Static, Virtual}
use Rattle.app_machine.specs.declared.method.Step.{Step}
use Rattle.app_machine.specs.declared.method.Act.TheVariants.{Call}
use Rattle.app_machine.specs.declared.summary.Summary.{Summary}
use Rattle.app_machine.specs.declared.summary.Gives.TheVariants as gives
use Rattle.app_machine.specs.declared.lists.FallbackWord.TheVariants.{Mixed}
use Rattle.app_machine.specs.declared.lists.SummaryId.TheVariants.{Row as RowOf, Fallback}
use Rattle.vet_base.specs.Members.{In}
use Rattle.app_machine.specs.Names.{is_wide, is_void, is_reference}
use Rattle.app_machine.specs.Lookups.{elem_key, Goes, step_at}
use Rattle.app_machine.specs.Summaries.{default_summary, summary}
use Rattle.app_machine.specs.Library.{positions}
use Rattle.fact_rows.specs.declared.context.Ctx.{Ctx}
use Rattle.flow_rules.specs.LibraryRules.{RowAt, hand_points, hand_taint, sink_arrives, same_points, same_taint, taken_points, taken_taint, joined_points, joined_taint, joined_element, source_taint, source_element, shared_static_points, shared_points, shared_taint, row_put_cell, row_put_effect, store_static, store_cell, store_effect, copy_cell, copy_effect}
use Rattle.flow_rules.specs.Rules.{by_library}
use Rattle.rule_witness.specs.StepFacts.{does}
use Rattle.rule_witness.specs.CallFacts.{row_of_method}
use Rattle.rule_witness.specs.LibraryFacts.{gives_same, gives_element, gives_joined, gives_shared, puts_in, stores_in, copies_to, sends, shows, fills, giving, library_app, library_lists, call_at, LibraryRulesHold}

-- the row at a call
abbrev at_call : {c : Ctx} {pc : ℕ} (s : Step) (at : MethodRef) (args : List ℕ) (r : Summary) → step_at library_app 0 pc ≡ Some s → s.act ≡ Call Static at args → summary library_lists (RowOf pc) at true ≡ Some r → RowAt library_app library_lists (call_at c pc) (RowOf pc)
at_call s at args r there act row = record { kind = Static; at = at; args = args; row = r; act = record { step = s; there = there; same = act }; is_row = row }

abbrev next : {pc to : ℕ} (s : Step) → step_at library_app 0 pc ≡ Some s → In to s.next → Goes library_app 0 pc to
next s there h = record { step = s; there = there; next = h }

first_rest : rest (cut elem_key empty_path) elem_key ≡ Some empty_path
unfolding rest cut
first_rest = refl

pub library_rules_hold : LibraryRulesHold
unfolding library_app library_lists step_at summary positions is_wide is_void is_reference
library_rules_hold c s t v p l =
    let s0 : Step = does 0 (Call Static gives_same (1 ∷ [])) (1 ∷ []) in
    let s1 : Step = does 1 (Call Static gives_element (1 ∷ [])) (2 ∷ []) in
    let s2 : Step = does 2 (Call Static gives_joined (1 ∷ [])) (3 ∷ []) in
    let s3 : Step = does 3 (Call Static gives_shared []) (4 ∷ []) in
    let s4 : Step = does 4 (Call Static puts_in (1 ∷ 2 ∷ [])) (5 ∷ []) in
    let s5 : Step = does 5 (Call Static stores_in (1 ∷ [])) (6 ∷ []) in
    let s6 : Step = does 6 (Call Static copies_to (1 ∷ 2 ∷ [])) (7 ∷ []) in
    let s7 : Step = does 7 (Call Static sends (1 ∷ [])) (8 ∷ []) in
    let s8 : Step = does 8 (Call Static shows (1 ∷ 2 ∷ [])) (9 ∷ []) in
    let s9 : Step = does 9 (Call Virtual fills (1 ∷ 2 ∷ [])) (10 ∷ []) in
    let r0 : RowAt library_app library_lists (call_at c 0) (RowOf 0) = at_call s0 gives_same (1 ∷ []) (giving gives_same (gives.Same 0)) refl refl refl in
    let r1 : RowAt library_app library_lists (call_at c 1) (RowOf 1) = at_call s1 gives_element (1 ∷ []) (giving gives_element (gives.Taken 0)) refl refl refl in
    let r2 : RowAt library_app library_lists (call_at c 2) (RowOf 2) = at_call s2 gives_joined (1 ∷ []) (record (giving gives_joined (gives.Joined (0 ∷ []))) { source = Some 0 }) refl refl refl in
    let r3 : RowAt library_app library_lists (call_at c 3) (RowOf 3) = at_call s3 gives_shared [] (giving gives_shared (gives.Shared 0)) refl refl refl in
    let r4 : RowAt library_app library_lists (call_at c 4) (RowOf 4) = at_call s4 puts_in (1 ∷ 2 ∷ []) (record (row_of_method puts_in true) { puts = (1, 0) ∷ [] }) refl refl refl in
    let r5 : RowAt library_app library_lists (call_at c 5) (RowOf 5) = at_call s5 stores_in (1 ∷ []) (record (row_of_method stores_in true) { stores = (0, 0) ∷ [] }) refl refl refl in
    let r6 : RowAt library_app library_lists (call_at c 6) (RowOf 6) = at_call s6 copies_to (1 ∷ 2 ∷ []) (record (row_of_method copies_to true) { copies = (0, 1) ∷ [] }) refl refl refl in
    let r7 : RowAt library_app library_lists (call_at c 7) (RowOf 7) = at_call s7 sends (1 ∷ []) (record (row_of_method sends true) { sink = Some (1, 0 ∷ []) }) refl refl refl in
    let r8 : RowAt library_app library_lists (call_at c 8) (RowOf 8) = at_call s8 shows (1 ∷ 2 ∷ []) (record (row_of_method shows true) { sink = Some (1, 1 ∷ []) }) refl refl refl in
    let r9 : RowAt library_app library_lists (call_at c 9) (Fallback 1) = record { kind = Virtual; at = fills; args = 1 ∷ 2 ∷ []; row = default_summary Mixed fills false; act = record { step = s9; there = refl; same = refl }; is_row = refl } in
    record {
      hands = by_library (hand_points 0 r7 (record { there = refl }));
      hands_label = by_library (hand_taint 0 r7 (record { there = refl }));
      arrives = by_library (sink_arrives 0 1 r7 (0 ∷ [], refl, inl refl) (record { there = refl }));
      arrives_second = by_library (sink_arrives 1 1 r8 (1 ∷ [], refl, inl refl) (record { there = refl }));
      same_site = by_library (same_points r0 refl refl (record { there = refl }) (next s0 refl (inl refl)));
      same_label = by_library (same_taint r0 refl refl (record { there = refl }) (next s0 refl (inl refl)));
      element_site = by_library (taken_points r1 refl refl (record { there = refl }) (next s1 refl (inl refl)));
      element_label = by_library (taken_taint r1 refl refl (record { there = refl }) first_rest (next s1 refl (inl refl)));
      joined_site = by_library (joined_points r2 refl refl refl (next s2 refl (inl refl)));
      joined_label = by_library (joined_taint 0 r2 refl (inl refl) refl (record { there = refl }) (next s2 refl (inl refl)));
      joined_element = by_library (joined_element 0 r2 refl (inl refl) refl refl (record { there = refl }) (next s2 refl (inl refl)));
      source_label = by_library (source_taint r2 refl refl refl (next s2 refl (inl refl)));
      source_element = by_library (source_element r2 refl refl refl refl (next s2 refl (inl refl)));
      shared_static = by_library (shared_static_points r3 refl refl);
      shared_site = by_library (shared_points r3 refl refl (next s3 refl (inl refl)));
      shared_label = by_library (shared_taint r3 refl refl (next s3 refl (inl refl)));
      put_site = by_library (row_put_cell 1 0 r4 (inl refl) (record { there = refl }) (record { there = refl }));
      put_label = by_library (row_put_effect 1 0 r4 (inl refl) (record { there = refl }) (record { there = refl }));
      default_site = by_library (row_put_cell 1 0 r9 (inl refl) (record { there = refl }) (record { there = refl }));
      default_label = by_library (row_put_effect 1 0 r9 (inl refl) (record { there = refl }) (record { there = refl }));
      store_static = by_library (store_static 0 0 r5 (inl refl));
      store_site = by_library (store_cell 0 0 r5 (inl refl) (record { there = refl }));
      store_label = by_library (store_effect 0 0 r5 (inl refl) (record { there = refl }));
      copy_site = by_library (copy_cell 0 1 r6 (inl refl) (record { there = refl }) (record { there = refl }));
      copy_label = by_library (copy_effect 0 1 r6 (inl refl) (record { there = refl }) (record { there = refl }) first_rest);
    }

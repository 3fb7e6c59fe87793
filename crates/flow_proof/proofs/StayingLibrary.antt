-- What the rules of library calls give of rows in the app is in the app.
use Rattle.std.proofs.Common.{◌≡◌, ℕ, ◌<◌, Bool, List, length, Option, Some, None, option_map, refl, subst}
use Rattle.std.specs.Prelude.{IfSome, slice_get}
use Rattle.std.proofs.lemmas.Option.{none-some, same_Some}
use Rattle.vet_base.specs.Members.{In}
use Rattle.vet_base.proofs.Members.{in_slice_get, all_in}
use Rattle.access_path.specs.Laws.{PathLaws}
use Rattle.app_machine.specs.declared.call.Proto.{Proto}
use Rattle.app_machine.specs.declared.call.MethodRef.{MethodRef}
use Rattle.app_machine.specs.declared.summary.Gives.TheVariants.{Shared}
use Rattle.app_machine.specs.declared.summary.Summary.{Summary}
use Rattle.app_machine.specs.declared.lists.FallbackWord.{FallbackWord}
use Rattle.app_machine.specs.declared.lists.FallbackWord.TheVariants.{Blank, Joined, Mixed}
use Rattle.app_machine.specs.declared.lists.LibClass.{LibClass}
use Rattle.app_machine.specs.declared.lists.Lists.{Lists}
use Rattle.app_machine.specs.declared.lists.SummaryId.{SummaryId}
use Rattle.app_machine.specs.declared.lists.SummaryId.TheVariants.{Row as RowOf, Fallback}
use Rattle.app_machine.specs.declared.app.App.{App}
use Rattle.app_machine.specs.Summaries.{position_count, default_gives, default_summary, summary}
use Rattle.app_machine.specs.Sound.{SoundApp}
use Rattle.app_machine.specs.SoundLists.{SoundGives, NamedPosition, SoundSink, SoundSummary, SoundLists}
use Rattle.fact_rows.specs.declared.context.Node.{Node}
use Rattle.fact_rows.specs.declared.row.Row.{Row}
use Rattle.fact_rows.specs.InApp.{is_result, by_call, InApp}
use Rattle.flow_rules.specs.LibraryRules as rule
use Rattle.flow_rules.specs.HandedRules as back
use Rattle.flow_rules.specs.Rules.{Each}
use Rattle.flow_proof.proofs.Places.{next_in, elem_in, cut_in, rest_in, empty_in, static_of_shared}

-- the categories and shared objects that a row names are of the lists
pub record NamesListed (lists : Lists) (row : Summary) : Type 0 where
  pub source : (l : ℕ) → row.source ≡ Some l → l < length lists.categories
  pub sink : (k : ℕ) (positions : List ℕ) → row.sink ≡ Some (k, positions) → k < length lists.categories
  pub shared : (i : ℕ) → row.gives ≡ Shared i → i < length lists.shared
  pub stores : (i g : ℕ) → In {A = ℕ × ℕ} (i, g) row.stores → g < length lists.shared

of_row : (lists : Lists) (row : Summary) → SoundSummary (length lists.categories) (length lists.shared) row → NamesListed lists row
of_row lists row sound = record {
  source = λ l e. subst (λ o. IfSome o (λ category. category < length lists.categories)) e sound.source;
  sink = λ k positions e. (subst (λ o. IfSome o (SoundSink (position_count row.is_static row.proto) (length lists.categories))) e sound.sink).0;
  shared = λ i e. subst (λ g. SoundGives (position_count row.is_static row.proto) (length lists.shared) g) e sound.result;
  stores = λ i g h. (all_in (NamedPosition (position_count row.is_static row.proto) (length lists.shared)) row.stores (i, g) sound.stores h).1;
}

not_shared : (word : FallbackWord) (is_static : Bool) (proto : Proto) (i : ℕ) → default_gives word is_static proto ≡ Shared i → ⊥
not_shared Blank is_static proto i e = cc
not_shared Joined is_static proto i e = cc
not_shared Mixed is_static proto i e = cc

of_default : (lists : Lists) (word : FallbackWord) (at : MethodRef) (is_static : Bool) → NamesListed lists (default_summary word at is_static)
of_default lists word at is_static = record {
  source = λ l e. absurd (none-some l e);
  sink = λ k positions e. absurd (none-some {A = ℕ × List ℕ} (k, positions) e);
  shared = λ i e. absurd (not_shared word is_static at.proto i e);
  stores = λ i g h. absurd h;
}

pub names_listed : {lists : Lists} {row : Summary} (u : SummaryId) (at : MethodRef) (is_static : Bool) → SoundLists lists →
    summary lists u at is_static ≡ Some row → NamesListed lists row
unfolding summary
names_listed {lists} {row} (RowOf i) at is_static sound is_row =
    of_row lists row (all_in (SoundSummary (length lists.categories) (length lists.shared)) lists.methods row sound.methods (in_slice_get lists.methods i row is_row))
names_listed {lists} {row} (Fallback i) at is_static sound is_row = by_class (slice_get lists.classes i) is_row
  where
    by_word : (o : Option FallbackWord) → option_map (λ word. default_summary word at is_static) o ≡ Some row → NamesListed lists row
    by_word None e = absurd (none-some row e)
    by_word (Some word) e =
        subst (λ r. NamesListed lists r) (same_Some (default_summary word at is_static) row e) (of_default lists word at is_static)

    by_class : (o : Option LibClass) →
        (elim o [ None ↦ None | Some c ↦ option_map (λ word. default_summary word at is_static) c.fallback ]) ≡ Some row →
        NamesListed lists row
    by_class None e = absurd (none-some row e)
    by_class (Some c) e = by_word c.fallback e

module _ (app : App) (lists : Lists) (sound : SoundApp app) (listed : SoundLists lists) (laws : PathLaws) where
  named : {n : Node} {u : SummaryId} (r : rule.RowAt app lists n u) → NamesListed lists r.row
  named {u = u} r = names_listed u _ _ listed r.is_row

  pub library_in : {number : ℕ} {premises : List Row} {row : Row} → rule.LibraryRule app lists number premises row →
      Each (InApp app lists) premises → InApp app lists row
  library_in (rule.hand_points i r is_at) h = (h.1.0.1.1.0, tt)
  library_in (rule.hand_taint i r is_at) h = (h.1.0.1.1.0, (h.1.1.0.1.1.0, (h.1.1.0.1.1.1.0, tt)))
  library_in (rule.sink_arrives i sink r is_sink is_at) h = (h.1.0.1.1.1.0, ((named r).sink sink is_sink.0 is_sink.1, (h.0.0, tt)))
  library_in (rule.same_points r gives result is_at goes) h = (next_in sound h.0.0 goes, (is_result refl, (h.1.0.1.1.0, tt)))
  library_in (rule.same_taint r gives result is_at goes) h = (next_in sound h.0.0 goes, (is_result refl, (h.1.0.1.1.0, (h.1.0.1.1.1.0, tt))))
  library_in (rule.taken_points r gives result is_at goes) h = (next_in sound h.0.0 goes, (is_result refl, (h.1.1.0.1.1.0, tt)))
  library_in (rule.taken_taint r gives result is_at left goes) h =
      (next_in sound h.0.0 goes, (is_result refl, (rest_in app laws _ _ _ left h.1.0.1.1.0, (h.1.0.1.1.1.0, tt))))
  library_in (rule.joined_points r gives result reference goes) h =
      (next_in sound h.0.0 goes, (is_result refl, ((h.0.0, by_call r.act reference), tt)))
  library_in (rule.joined_taint i r gives is_from result is_at goes) h =
      (next_in sound h.0.0 goes, (is_result refl, (empty_in app, (h.1.0.1.1.1.0, tt))))
  library_in (rule.joined_element i r gives is_from result reference is_at goes) h =
      (next_in sound h.0.0 goes, (is_result refl, (cut_in app laws _ _ (elem_in sound) (empty_in app), (h.1.0.1.1.1.0, tt))))
  library_in (rule.source_taint {l = l} r gives source result goes) h =
      (next_in sound h.0.0 goes, (is_result refl, (empty_in app, ((named r).source l source, tt))))
  library_in (rule.source_element {l = l} r gives source result reference goes) h =
      (next_in sound h.0.0 goes, (is_result refl, (cut_in app laws _ _ (elem_in sound) (empty_in app), ((named r).source l source, tt))))
  library_in (rule.shared_static_points {g = g} r gives result) h = let below = (named r).shared g gives in (static_of_shared app lists below, (below, tt))
  library_in (rule.shared_points {g = g} r gives result goes) h = (next_in sound h.0.0 goes, (is_result refl, ((named r).shared g gives, tt)))
  library_in (rule.shared_taint r gives result goes) h = (next_in sound h.0.0 goes, (is_result refl, (h.1.0.1.0, (h.1.0.1.1.0, tt))))
  library_in (rule.row_put_cell i j r is_put is_object is_value) h = (h.1.0.1.1.0, (elem_in sound, (h.1.1.0.1.1.0, tt)))
  library_in (rule.row_put_effect i j r is_put is_object is_value) h =
      (h.0.0, (h.1.0.1.1.0, (cut_in app laws _ _ (elem_in sound) h.1.1.0.1.1.0, (h.1.1.0.1.1.1.0, tt))))
  library_in (rule.store_static i g r is_store) h = let below = (named r).stores i g is_store in (static_of_shared app lists below, (below, tt))
  library_in (rule.store_cell i g r is_store is_at) h = ((named r).stores i g is_store, (elem_in sound, (h.1.0.1.1.0, tt)))
  library_in (rule.store_effect i g r is_store is_at) h =
      (h.0.0, ((named r).stores i g is_store, (cut_in app laws _ _ (elem_in sound) h.1.0.1.1.0, (h.1.0.1.1.1.0, tt))))
  library_in (rule.copy_cell i j r is_copy is_from is_to) h = (h.1.1.1.0.1.1.0, (elem_in sound, (h.1.1.0.1.1.0, tt)))
  library_in (rule.copy_effect i j r is_copy is_from is_to left) h =
      (h.0.0, (h.1.1.0.1.1.0, (cut_in app laws _ _ (elem_in sound) (rest_in app laws _ _ _ left h.1.0.1.1.0), (h.1.0.1.1.1.0, tt))))

module _ (app : App) (lists : Lists) (sound : SoundApp app) where
  pub handed_in : {number : ℕ} {premises : List Row} {row : Row} → back.HandedRule app lists number premises row → Each (InApp app lists) premises →
      InApp app lists row
  handed_in (back.handed_points may goes) h = (next_in sound h.0.0 goes, (is_result refl, (h.1.0.0, tt)))
  handed_in (back.handed_taint may goes) h = (next_in sound h.0.0 goes, (is_result refl, (h.1.1.0.1.0, (h.1.1.0.1.1.0, tt))))
  handed_in (back.live_points may there goes) h = (next_in sound h.0.0 goes, (is_result refl, (h.1.0.0, tt)))
  handed_in (back.live_taint may there goes) h = (next_in sound h.0.0 goes, (is_result refl, (h.1.1.0.1.1.0, (h.1.1.0.1.1.1.0, tt))))

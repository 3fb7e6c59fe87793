-- What sound lists say of a call names shared objects of small numbers.
use Rattle.std.proofs.Common.{◌≡◌, ◌<◌, ◌≤◌, ℕ, Bool, [], length, All, Option, Some, None, slice_get, option_map, sym, subst, arith}
use Rattle.std.specs.Prelude.{IfSome}
use Rattle.std.proofs.lemmas.Option.{none-some, same_Some}
use Rattle.vet_base.proofs.Members.{all_in, all_from_in, in_slice_get}
use Rattle.app_machine.specs.declared.call.MethodRef.{MethodRef}
use Rattle.app_machine.specs.declared.summary.Gives.{Gives}
use Rattle.app_machine.specs.declared.summary.Gives.TheVariants as gives
use Rattle.app_machine.specs.declared.summary.Summary.{Summary}
use Rattle.app_machine.specs.declared.lists.FallbackWord.{FallbackWord}
use Rattle.app_machine.specs.declared.lists.FallbackWord.TheVariants as fallback
use Rattle.app_machine.specs.declared.lists.LibClass.{LibClass}
use Rattle.app_machine.specs.declared.lists.Lists.{Lists}
use Rattle.app_machine.specs.declared.lists.SummaryId.{SummaryId}
use Rattle.app_machine.specs.declared.lists.SummaryId.TheVariants.{Row, Fallback}
use Rattle.app_machine.specs.declared.app.App.{App}
use Rattle.app_machine.specs.SoundLists.{SoundLists, SoundGives, SoundSummary, NamedPosition}
use Rattle.app_machine.specs.Summaries.{summary, default_summary, position_count}
use Rattle.fact_rows.specs.declared.context.Node.{Node}
use Rattle.library_ground.specs.declared.call.LibraryCall.{LibraryCall}
use Rattle.library_ground.specs.CallRow.{CallRow, call_row, shown_call, IsWithin}
use Rattle.library_ground.specs.Stands.{stands}

-- the same of what a row or default says
record Small (row : Summary) : Type 0 where
  gives : (g : ℕ) → row.gives ≡ gives.Shared g → g < 65536
  stores : All (λ (store : ℕ × ℕ). store.1 < 65536) row.stores

small_shared : (count shared : ℕ) → shared ≤ 65536 → (x : Gives) → SoundGives count shared x → (g : ℕ) → x ≡ gives.Shared g → g < 65536
small_shared count shared few x h g e = let below : g < shared = subst (SoundGives count shared) e h in omega arith

small_row : (categories shared : ℕ) → shared ≤ 65536 → (row : Summary) → SoundSummary categories shared row → Small row
small_row categories shared few row h = record {
  gives = small_shared (position_count row.is_static row.proto) shared few row.gives h.result;
  stores = all_from_in (λ (store : ℕ × ℕ). store.1 < 65536) row.stores (λ store i.
      let count = position_count row.is_static row.proto in
      let named : NamedPosition count shared store = all_in (NamedPosition count shared) row.stores store h.stores i in
      let below : store.1 < shared = named.1 in
      omega arith);
}

small_none : All (λ (store : ℕ × ℕ). store.1 < 65536) []
small_none = all_from_in (λ (store : ℕ × ℕ). store.1 < 65536) [] (λ store none. absurd none)

small_default : (word : FallbackWord) (at : MethodRef) (is_static : Bool) → Small (default_summary word at is_static)
small_default fallback.Blank at is_static = record { gives = λ g e. cc; stores = small_none }
small_default fallback.Joined at is_static = record { gives = λ g e. cc; stores = small_none }
small_default fallback.Mixed at is_static = record { gives = λ g e. cc; stores = small_none }

small_summary : (lists : Lists) → SoundLists lists → (u : SummaryId) (at : MethodRef) (is_static : Bool) (row : Summary) →
    summary lists u at is_static ≡ Some row → Small row
unfolding summary
small_summary lists sound (Row i) at is_static row e =
    small_row (length lists.categories) (length lists.shared) sound.few_shared row
    (all_in (SoundSummary (length lists.categories) (length lists.shared)) lists.methods row sound.methods (in_slice_get lists.methods i row e))
small_summary lists sound (Fallback i) at is_static row e = of_class (slice_get lists.classes i) e
  where
    of_word : (o : Option FallbackWord) → option_map (λ word. default_summary word at is_static) o ≡ Some row → Small row
    of_word None k = absurd (none-some row k)
    of_word (Some word) k = subst Small (same_Some (default_summary word at is_static) row k) (small_default word at is_static)

    of_class : (o : Option LibClass) → elim o [ None ↦ None | Some c ↦ option_map (λ word. default_summary word at is_static) c.fallback ] ≡ Some row → Small row
    of_class None k = absurd (none-some row k)
    of_class (Some c) k = of_word c.fallback k

is_within : (app : App) (lists : Lists) → SoundLists lists → (n : Node) (u : SummaryId) (c : CallRow) → call_row app lists n u ≡ Some c → IsWithin c
is_within app lists sound n u c e =
    let r = stands app lists n u c e in
    let s = small_summary lists sound u r.0.at _ r.0.row r.0.is_row in
    subst IsWithin (sym r.1) (record { gives = s.gives; stores = s.stores })

pub all_within : (app : App) (lists : Lists) → SoundLists lists → (n : Node) (u : SummaryId) (o : Option LibraryCall) →
    option_map (λ (c : LibraryCall). shown_call c) o ≡ call_row app lists n u → IfSome o (λ c. IsWithin (shown_call c))
all_within app lists sound n u None e = tt
all_within app lists sound n u (Some call) e = is_within app lists sound n u (shown_call call) (sym e)

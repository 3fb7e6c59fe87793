-- What a call comes to, and what the lists say of it.
use Rattle.std.proofs.Common.{◌≡◌, ◌⊎◌, inl, inr, ℕ, zero, suc, ◌<◌, Bool, true, false, cond, List, [], ◌∷◌, map, length, Option, Some, None, option_map, slice_get, refl, sym, ap, ◌∙◌, subst, arith}
use Rattle.std.proofs.lemmas.Option.{none-some, same_Some}
use Rattle.vet_base.specs.Members.{In}
use Rattle.vet_base.proofs.Lists.{All-slice_get}
use Rattle.vet_base.proofs.Members.{in_either, from_map, all_in}
use Rattle.app_machine.specs.declared.app.App.{App}
use Rattle.app_machine.specs.declared.call.CallKind.{CallKind}
use Rattle.app_machine.specs.declared.call.MethodRef.{MethodRef}
use Rattle.app_machine.specs.declared.lists.FallbackWord.{FallbackWord}
use Rattle.app_machine.specs.declared.lists.FallbackWord.TheVariants as fallback
use Rattle.app_machine.specs.declared.lists.LibClass.{LibClass}
use Rattle.app_machine.specs.declared.lists.Lists.{Lists}
use Rattle.app_machine.specs.declared.lists.SummaryId.{SummaryId}
use Rattle.app_machine.specs.declared.lists.SummaryId.TheVariants.{Row, Fallback}
use Rattle.app_machine.specs.declared.method.Method.{Method}
use Rattle.app_machine.specs.declared.summary.Gives.{Gives}
use Rattle.app_machine.specs.declared.summary.Gives.TheVariants as gives
use Rattle.app_machine.specs.declared.summary.Summary.{Summary}
use Rattle.app_machine.specs.Calls.{CallsTo, by_name, by_nothing, by_class}
use Rattle.app_machine.specs.Heap.{Object}
use Rattle.app_machine.specs.Library.{result_shared, shared_named, shared_class, UsesRow}
use Rattle.app_machine.specs.Lookups.{Target, Library, target, is_by_receiver, is_static_call, HasCode, IsNative}
use Rattle.app_machine.specs.Names.{Name, is_void}
use Rattle.app_machine.specs.SoundLists.{SoundLists, SoundSummary, SoundGives, NamedPosition}
use Rattle.app_machine.specs.State.{Frame}
use Rattle.app_machine.specs.Summaries.{library_key, summary, default_summary, position_count}
use Rattle.played_machine.specs.Calling.{if_code, code_of, if_native, is_native_body, receiver_place, target_at, call_target, summary_by, called_row}
use Rattle.played_machine.specs.Reading.{class_at}
use Rattle.played_machine.proofs.Reached.{class_there}

module _ (app : App) (body : ℕ) where
  pub has_code : (m : Method) → code_of app body ≡ Some m → HasCode app body m
  unfolding code_of
  has_code m e = by_there (slice_get app.methods body) refl e
    where
      by_native : (n : Method) → slice_get app.methods body ≡ Some n → (b : Bool) → n.is_native ≡ b → cond b None (Some n) ≡ Some m → HasCode app body m
      by_native n there true is e = absurd (none-some m e)
      by_native n there false is e =
          let same : n ≡ m = same_Some n m e in
          record { there = there ∙ ap (λ (x : Method). Some x) same; code = ap (λ (x : Method). x.is_native) (sym same) ∙ is }

      by_there : (o : Option Method) → slice_get app.methods body ≡ o → if_code o ≡ Some m → HasCode app body m
      by_there None there e = absurd (none-some m e)
      by_there (Some n) there e = by_native n there n.is_native refl e

  pub no_code : (m : Method) → slice_get app.methods body ≡ Some m → code_of app body ≡ None → IsNative app body
  unfolding code_of
  no_code m there e = by_native m.is_native refl (ap if_code (sym there) ∙ e)
    where
      by_native : (b : Bool) → m.is_native ≡ b → cond b None (Some m) ≡ None → IsNative app body
      by_native true is e = record { method = m; there = there; native = is }
      by_native false is e = absurd (none-some m (sym e))

  pub native_so : is_native_body app body ≡ true → IsNative app body
  unfolding is_native_body
  native_so e = by_there (slice_get app.methods body) refl e
    where
      by_there : (o : Option Method) → slice_get app.methods body ≡ o → if_native o ≡ true → IsNative app body
      by_there None there e = absurd cc
      by_there (Some m) there e = record { method = m; there = there; native = e }

  pub native_only : IsNative app body → is_native_body app body ≡ true
  unfolding is_native_body
  native_only n = ap if_native n.there ∙ n.native

-- the target of a call
module _ (app : App) (heap : List Object) (f : Frame) (kind : CallKind) (at : MethodRef) (args : List ℕ) where
  pub calls_so : (t : Target) → call_target app heap f kind at args ≡ Some t → CallsTo app heap f kind at args t
  unfolding call_target
  calls_so t e = by_kind (is_by_receiver kind) refl e
    where
      by_its_class : (x p : ℕ) → slice_get args 0 ≡ Some x → (f.registers x).place ≡ Some p → is_by_receiver kind ≡ true → (c : Option Name) → class_at heap p ≡ c →
          option_map (λ class. target app kind f.method at (Some class)) c ≡ Some t → CallsTo app heap f kind at args t
      by_its_class x p there place by_receiver None is e = absurd (none-some t e)
      by_its_class x p there place by_receiver (Some class) is e =
          by_class class by_receiver (record { there = there }) place (class_there heap p class is) (same_Some (target app kind f.method at (Some class)) t e)

      by_place : (x : ℕ) → slice_get args 0 ≡ Some x → is_by_receiver kind ≡ true → (o : Option ℕ) → (f.registers x).place ≡ o → target_at app heap f.method kind at o ≡ Some t → CallsTo app heap f kind at args t
      by_place x there by_receiver None is e =
          by_nothing by_receiver (λ y at. ap (λ z. (f.registers z).place) (same_Some y x (sym at.there ∙ there)) ∙ is) (same_Some (target app kind f.method at None) t e)
      by_place x there by_receiver (Some p) is e = by_its_class x p there is by_receiver (class_at heap p) refl e

      by_register : is_by_receiver kind ≡ true → (o : Option ℕ) → slice_get args 0 ≡ o → target_at app heap f.method kind at (receiver_place f o) ≡ Some t → CallsTo app heap f kind at args t
      by_register by_receiver None there e = by_nothing by_receiver (λ y at. absurd (none-some y (sym there ∙ at.there))) (same_Some (target app kind f.method at None) t e)
      by_register by_receiver (Some x) there e = by_place x there by_receiver (f.registers x).place refl e

      by_kind : (b : Bool) → is_by_receiver kind ≡ b → cond b (target_at app heap f.method kind at (receiver_place f (slice_get args 0))) (Some (target app kind f.method at None)) ≡ Some t → CallsTo app heap f kind at args t
      by_kind true is e = by_register is (slice_get args 0) refl e
      by_kind false is e = by_name is (same_Some (target app kind f.method at None) t e)

  pub uses_so : (lists : Lists) (class : Name) (row : Summary) → call_target app heap f kind at args ≡ Some (Library class) → called_row app lists class kind at ≡ Some row → row.reflective ≡ false → UsesRow app lists heap f kind at args row
  unfolding called_row
  uses_so lists class row goes is plain = by_key (library_key app lists class at.name at.proto (is_static_call kind)) refl is
    where
      by_key : (k : Option SummaryId) → library_key app lists class at.name at.proto (is_static_call kind) ≡ k → summary_by lists at (is_static_call kind) k ≡ Some row → UsesRow app lists heap f kind at args row
      by_key None key is = absurd (none-some row is)
      by_key (Some k) key is = record { class = class; goes = calls_so (Library class) goes; key = k; is_key = key; is_row = is; plain = plain }

-- The shared objects that a row names are listed.
pub record SharedWithin (lists : Lists) (row : Summary) : Type 0 where
  pub stores : (s : ℕ × ℕ) → In s row.stores → s.1 < length lists.shared
  pub result : (i : ℕ) → In i (result_shared row.gives) → i < length lists.shared

of_result : (count shared : ℕ) (g : Gives) → SoundGives count shared g → (i : ℕ) → In i (result_shared g) → i < shared
of_result count shared gives.Blank sound i h = absurd h
of_result count shared (gives.Same j) sound i h = absurd h
of_result count shared (gives.Taken j) sound i h = absurd h
of_result count shared (gives.Joined from) sound i h = absurd h
of_result count shared gives.Handed sound i h = absurd h
of_result count shared (gives.Shared j) sound i (inl same) = subst (λ z. z < shared) (sym same) sound
of_result count shared (gives.Shared j) sound i (inr h) = absurd h

of_row : (lists : Lists) (row : Summary) → SoundSummary (length lists.categories) (length lists.shared) row → SharedWithin lists row
of_row lists row sound = record {
  stores = λ s h. (all_in (NamedPosition (position_count row.is_static row.proto) (length lists.shared)) row.stores s sound.stores h).1;
  result = of_result (position_count row.is_static row.proto) (length lists.shared) row.gives sound.result;
}

of_default : (lists : Lists) (word : FallbackWord) (at : MethodRef) (is_static : Bool) → SharedWithin lists (default_summary word at is_static)
of_default lists fallback.Blank at is_static = record { stores = λ s h. absurd h; result = λ i h. absurd h }
of_default lists fallback.Joined at is_static = record { stores = λ s h. absurd h; result = λ i h. absurd h }
of_default lists fallback.Mixed at is_static = record { stores = λ s h. absurd h; result = λ i h. absurd h }

pub shared_within : (lists : Lists) → SoundLists lists → (key : SummaryId) (at : MethodRef) (is_static : Bool) (row : Summary) → summary lists key at is_static ≡ Some row → SharedWithin lists row
unfolding summary
shared_within lists sound (Row i) at is_static row is =
    of_row lists row (All-slice_get (SoundSummary (length lists.categories) (length lists.shared)) lists.methods i row sound.methods is)
shared_within lists sound (Fallback i) at is_static row is = by_class (slice_get lists.classes i) is
  where
    by_word : (o : Option FallbackWord) → option_map (λ word. default_summary word at is_static) o ≡ Some row → SharedWithin lists row
    by_word None is = absurd (none-some row is)
    by_word (Some word) is = subst (SharedWithin lists) (same_Some (default_summary word at is_static) row is) (of_default lists word at is_static)

    by_class : (o : Option LibClass) → (elim o as (λ (z : Option LibClass). Option Summary) [ None ↦ None | Some c ↦ option_map (λ word. default_summary word at is_static) c.fallback ]) ≡ Some row → SharedWithin lists row
    by_class None is = absurd (none-some row is)
    by_class (Some c) is = by_word c.fallback is

-- each of these shared objects has a class
abbrev pub Named : Lists → List ℕ → Type 0
Named lists is = (i : ℕ) → In i is → (class : Name) × (shared_class lists i ≡ Some class)

there_at : {A : Type 0} (xs : List A) (i : ℕ) → i < length xs → (x : A) × (slice_get xs i ≡ Some x)
there_at [] i below = absurd (omega (arith, below))
there_at (x ∷ xs) zero below = (x, refl)
there_at (x ∷ xs) (suc i) below = there_at xs i (omega (arith, below))

has_class : (lists : Lists) (i : ℕ) → i < length lists.shared → (class : Name) × (shared_class lists i ≡ Some class)
unfolding shared_class
has_class lists i below =
    let found = there_at lists.shared i below in
    (found.0.1, subst (λ (o : Option (Name × Name)). (elim o as (λ (z : Option (Name × Name)). Option Name) [ None ↦ None | Some s ↦ Some s.1 ]) ≡ Some found.0.1) (sym found.1) refl)

pub named_so : (lists : Lists) (row : Summary) (ret : Name) → SharedWithin lists row → Named lists (shared_named row ret)
named_so lists row ret within i h = has_class lists i (by_part (in_either i (map (λ (s : ℕ × ℕ). s.1) row.stores) (cond (is_void ret) [] (result_shared row.gives)) h))
  where
    by_result : (b : Bool) → In i (cond b [] (result_shared row.gives)) → i < length lists.shared
    by_result true h = absurd h
    by_result false h = within.result i h

    by_part : In i (map (λ (s : ℕ × ℕ). s.1) row.stores) ⊎ In i (cond (is_void ret) [] (result_shared row.gives)) → i < length lists.shared
    by_part (inl stored) = let found = from_map (λ (s : ℕ × ℕ). s.1) row.stores i stored in subst (λ z. z < length lists.shared) (sym found.2) (within.stores found.0 found.1)
    by_part (inr result) = by_result (is_void ret) result

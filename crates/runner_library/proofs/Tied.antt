-- A library call by its definition is what it is given by the script and what it does then.
use Rattle.std.proofs.Common.{◌≡◌, ℕ, Bool, true, false, cond, List, [], ◌∷◌, ◌++◌, map, Option, Some, None, slice_get, refl, sym, ap, ◌∙◌}
use Rattle.std.specs.Prelude.{option_map, option_to_list}
use Rattle.std.proofs.lemmas.Option.{slice_get-map}
use Rattle.vet_base.proofs.Members.{flat_map_agree}
use Rattle.app_machine.specs.declared.app.App.{App}
use Rattle.app_machine.specs.declared.lists.Lists.{Lists}
use Rattle.app_machine.specs.declared.summary.Gives.{Gives}
use Rattle.app_machine.specs.declared.summary.Gives.TheVariants.{Blank, Same, Taken, Joined, Shared, Handed}
use Rattle.app_machine.specs.declared.summary.Summary.{Summary}
use Rattle.app_machine.specs.Calls.{hand}
use Rattle.app_machine.specs.Heap.{Value, Object, blank, add_all}
use Rattle.app_machine.specs.Library.{shared_named, value_at}
use Rattle.app_machine.specs.Lookups.{elem_key}
use Rattle.app_machine.specs.Names.{Name, is_void}
use Rattle.app_machine.specs.State.{shared_static, World, Frame, value_or_blank}
use Rattle.played_machine.specs.Drawing.{Drawing, continue, give, one_of, ◌>>=◌}
use Rattle.played_machine.specs.Librarian.{added, added_by_copies, added_by_puts, added_by_stores, after_call, arrivals_at, arrivals_of, copied, element_at, given_back, given_result, hand_all, joined_labels, joined_value, library_call, with_shared}
use Rattle.played_machine.specs.Local.{got}
use Rattle.played_machine.specs.Ordered.{sorted, ascending}
use Rattle.played_machine.specs.Reading.{reached}
use Rattle.runner_library.specs.Over.{arrivals_with, copies_by, hand_each, joined_by, puts_by, stores_by}
use Rattle.runner_library.specs.Whole.{after, arrivals_for, called, given_by, given_for, read_for}

module _ (f : Frame) (places : List ℕ) where
  abbrev pub values : List Value
  values = map f.registers places

  by_slot : (o : Option ℕ) → elim o as (λ (z : Option ℕ). Value) [ Some x ↦ f.registers x | None ↦ blank ] ≡ elim (option_map f.registers o) as (λ (z : Option Value). Value) [ Some v ↦ v | None ↦ blank ]
  by_slot None = refl
  by_slot (Some x) = refl

  same_value : (i : ℕ) → value_at f places i ≡ value_or_blank values i
  same_value i = by_slot (slice_get places i) ∙ ap (λ (o : Option Value). elim o as (λ (z : Option Value). Value) [ Some v ↦ v | None ↦ blank ]) (sym (slice_get-map f.registers places i))

  same_hands : (xs handed : List ℕ) → hand_all f xs handed ≡ hand_each (map f.registers xs) handed
  same_hands [] handed = refl
  same_hands (x ∷ xs) handed = same_hands xs (hand (f.registers x).place handed)

  same_arrivals : (heap : List Object) (sink : Option (ℕ × List ℕ)) → arrivals_of heap f places sink ≡ arrivals_for heap values f.method f.pc sink
  same_arrivals heap None = refl
  same_arrivals heap (Some sink) =
      flat_map_agree (arrivals_at heap f places sink.0) (λ i. arrivals_with (record { category = sink.0; method = f.method; pc = f.pc }) (reached heap (value_or_blank values i))) (sorted sink.1)
      (λ i h. ap (λ v. arrivals_with (record { category = sink.0; method = f.method; pc = f.pc }) (reached heap v)) (same_value i))

  same_labels : (heap : List Object) (from : List ℕ) (source : Option ℕ) → joined_labels heap f places from source ≡ joined_by heap values from source
  unfolding joined_labels joined_by
  same_labels heap from source =
      ap (λ ls. ascending (option_to_list source ++ ls)) (flat_map_agree (λ i. reached heap (value_at f places i)) (λ i. reached heap (value_or_blank values i)) from (λ i h. ap (reached heap) (same_value i)))

  same_puts : (puts : List (ℕ × ℕ)) → added_by_puts f places puts ≡ puts_by values puts
  same_puts puts = flat_map_agree (λ (put : ℕ × ℕ). element_at (value_at f places put.1).place (value_at f places put.0)) (λ (put : ℕ × ℕ). element_at (value_or_blank values put.1).place (value_or_blank values put.0)) puts
      (λ put h. ap (λ (v : Value). element_at v.place (value_at f places put.0)) (same_value put.1) ∙ ap (element_at (value_or_blank values put.1).place) (same_value put.0))

  same_stores : (app : App) (statics : ℕ → Value) (stores : List (ℕ × ℕ)) → added_by_stores app f places statics stores ≡ stores_by app values statics stores
  same_stores app statics stores = flat_map_agree (λ (store : ℕ × ℕ). element_at (statics (shared_static app store.1)).place (value_at f places store.0)) (λ (store : ℕ × ℕ). element_at (statics (shared_static app store.1)).place (value_or_blank values store.0)) stores
      (λ store h. ap (element_at (statics (shared_static app store.1)).place) (same_value store.0))

  same_copies : (before : List Object) (copies : List (ℕ × ℕ)) → added_by_copies before f places copies ≡ copies_by before values copies
  same_copies before copies = flat_map_agree (λ (copy : ℕ × ℕ). copied before (value_at f places copy.0).place (value_at f places copy.1).place) (λ (copy : ℕ × ℕ). copied before (value_or_blank values copy.0).place (value_or_blank values copy.1).place) copies
      (λ copy h. ap (λ (v : Value). copied before v.place (value_at f places copy.1).place) (same_value copy.0) ∙ ap (λ (v : Value). copied before (value_or_blank values copy.0).place v.place) (same_value copy.1))

  module _ (app : App) (w : World) (row : Summary) (statics : ℕ → Value) where
    same_added : added app w.heap f places statics row ≡ puts_by values row.puts ++ stores_by app values statics row.stores ++ copies_by w.heap values row.copies
    unfolding added
    same_added =
        ap (λ xs. xs ++ added_by_stores app f places statics row.stores ++ added_by_copies w.heap f places row.copies) (same_puts row.puts)
        ∙ (ap (λ xs. puts_by values row.puts ++ xs ++ added_by_copies w.heap f places row.copies) (same_stores app statics row.stores)
        ∙ ap (λ xs. puts_by values row.puts ++ stores_by app values statics row.stores ++ xs) (same_copies w.heap row.copies))

    same_after : (heap : List Object) → after_call app w f places row statics heap ≡ after app w values f.method f.pc row statics heap
    same_after heap =
        ap {B = World} (λ xs. record w { heap = add_all heap xs; statics = statics; handed = hand_all f places w.handed; arrivals = w.arrivals ++ arrivals_of w.heap f places row.sink }) same_added
        ∙ (ap {B = World} (λ hs. record w { heap = add_all heap (puts_by values row.puts ++ stores_by app values statics row.stores ++ copies_by w.heap values row.copies); statics = statics; handed = hs; arrivals = w.arrivals ++ arrivals_of w.heap f places row.sink }) (same_hands places w.handed)
        ∙ ap {B = World} (λ new. record w { heap = add_all heap (puts_by values row.puts ++ stores_by app values statics row.stores ++ copies_by w.heap values row.copies); statics = statics; handed = hand_each values w.handed; arrivals = w.arrivals ++ new }) (same_arrivals w.heap row.sink))

    -- the world after a result, and the result
    abbrev by_machine : List Object × Value → Drawing (World × Value)
    by_machine given = give (after_call app w f places row statics given.0, given.1)

    abbrev by_values : List Object × Value → Drawing (World × Value)
    by_values given = give (after app w values f.method f.pc row statics given.0, given.1)

    same_end : (given : List Object × Value) (rest : List ℕ) → by_machine given rest ≡ by_values given rest
    same_end given rest = ap (λ (u : World). Some ((u, given.1), rest)) (same_after given.0)

    module _ (lists : Lists) (ret : Name) (heap : List Object) where
      drawn : (o : Option (Value × List ℕ)) → continue by_machine (continue (λ v. give (heap, v)) o) ≡ continue (λ v. by_values (heap, v)) o
      drawn None = refl
      drawn (Some d) = same_end (heap, d.0) d.1

      by_gives : (g : Gives) (bytes : List ℕ) → continue by_machine (given_result app lists w (hand_all f places w.handed) f places row.source ret statics heap g bytes)
          ≡ continue (λ v. by_values (given_by app w.heap values row.source ret statics heap v g)) (given_for app lists w values ret g bytes)
      by_gives Blank bytes = same_end (heap, blank) bytes
      by_gives (Same i) bytes = same_end (heap, value_at f places i) bytes ∙ ap (λ v. by_values (heap, v) bytes) (same_value i)
      by_gives (Taken i) bytes = ap (λ v. continue by_machine (continue (λ v. give (heap, v)) (got w.heap v elem_key bytes))) (same_value i) ∙ drawn (got w.heap (value_or_blank values i) elem_key bytes)
      by_gives (Shared i) bytes = same_end (heap, statics (shared_static app i)) bytes
      by_gives (Joined from) bytes = ap (λ ls. by_machine (joined_value ret heap ls) bytes) (same_labels w.heap from row.source) ∙ same_end (joined_value ret heap (joined_by w.heap values from row.source)) bytes
      by_gives Handed bytes = ap (λ hs. continue by_machine (continue (λ v. give (heap, v)) (one_of (given_back app lists w hs ret) bytes))) (same_hands places w.handed) ∙ drawn (one_of (given_back app lists w (hand_each values w.handed) ret) bytes)

      by_void : (b : Bool) (g : Gives) (bytes : List ℕ) → continue by_machine ((cond b (give (heap, blank)) (given_result app lists w (hand_all f places w.handed) f places row.source ret statics heap g)) bytes)
          ≡ continue (λ v. by_values (cond b (heap, blank) (given_by app w.heap values row.source ret statics heap v g))) ((cond b (give blank) (given_for app lists w values ret g)) bytes)
      by_void true g bytes = same_end (heap, blank) bytes
      by_void false g bytes = by_gives g bytes

  pub library_is : (app : App) (lists : Lists) (w : World) (ret : Name) (row : Summary) (bytes : List ℕ) → library_call app lists w f places ret row bytes ≡ (read_for app lists w values ret row.gives >>= λ v. give (called app lists w values f.method f.pc ret row v)) bytes
  unfolding library_call read_for called
  library_is app lists w ret row bytes =
      let shared : List Object × (ℕ → Value) = with_shared app lists (shared_named row ret) w.heap w.statics in
      by_void app w row shared.1 lists ret shared.0 (is_void ret) row.gives bytes

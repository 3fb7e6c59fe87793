-- What an event comes to, and what the code makes of it.
use Rattle.std.proofs.Common.{◌≡◌, ℕ, ◌-◌, ◌&&◌, List, [], ◌∷◌, map, Option, Some, None, slice_get, refl, sym, ap, subst}
use Rattle.std.specs.Prelude.{nat_le, nat_lt}
use Rattle.app_machine.specs.declared.app.App.{App}
use Rattle.app_machine.specs.declared.lists.Lists.{Lists}
use Rattle.app_machine.specs.declared.method.Method.{Method}
use Rattle.app_machine.specs.Events.{labels_at, layout}
use Rattle.app_machine.specs.Heap.{Value, Object, blank}
use Rattle.app_machine.specs.State.{World, value_or_blank}
use Rattle.played_alike.specs.Alike.{AlikeDrawn, AlikeFrame, AlikeHeap, AlikePlaying, AlikeValue, AlikeWorld, Pairwise}
use Rattle.played_alike.proofs.Heaps.{alike_cond, alike_itself}
use Rattle.played_alike.proofs.Pairs.{AlikeDrawings, AlikeOption, alike_after, alike_give, pair_get, pair_map}
use Rattle.played_machine.specs.Calling.{code_of}
use Rattle.played_machine.specs.Coming.{Receives, begins_with, begun, event_frame, parameters, receiver}
use Rattle.played_machine.specs.Drawing.{give, ◌>>=◌}
use Rattle.played_machine.specs.Local.{Playing, playing}
use Rattle.played_machine.proofs.Ordered.{from_ascending, in_ascending}
use Rattle.runner_begin.specs.Begun.{frames_with, received_by, receiver_by, types_of}
use Rattle.runner_begin.specs.Parameters.{labels_by, parameters_by}
use Rattle.runner_begin.proofs.Alike.{AlikeParameters, SameLabels, alike_parameters}
use Rattle.runner_steps.proofs.Alike.{world_itself}

alike_or_blank : (vs ws : List Value) → Pairwise AlikeValue vs ws → (i : ℕ) → AlikeValue (value_or_blank vs i) (value_or_blank ws i)
alike_or_blank vs ws pairs i = by_slot (slice_get vs i) (slice_get ws i) (pair_get AlikeValue vs ws i pairs)
  where
    by_slot : (o q : Option Value) → AlikeOption AlikeValue o q → AlikeValue (elim o as (λ (z : Option Value). Value) [ Some v ↦ v | None ↦ blank ]) (elim q as (λ (z : Option Value). Value) [ Some v ↦ v | None ↦ blank ])
    by_slot None None one = alike_itself blank
    by_slot None (Some y) one = absurd one
    by_slot (Some x) None one = absurd one
    by_slot (Some x) (Some y) one = one

alike_frame : (body : ℕ) (m : Method) (vs ws : List Value) → Pairwise AlikeValue vs ws → AlikeFrame (event_frame body m vs) (event_frame body m ws)
alike_frame body m vs ws pairs =
    let alike = pair_map AlikeValue (value_or_blank vs) (value_or_blank ws) (alike_or_blank vs ws pairs) (layout m.at.proto.params) in
    let all : (r : ℕ) → AlikeValue (value_or_blank (map (value_or_blank vs) (layout m.at.proto.params)) r) (value_or_blank (map (value_or_blank ws) (layout m.at.proto.params)) r) =
    alike_or_blank (map (value_or_blank vs) (layout m.at.proto.params)) (map (value_or_blank ws) (layout m.at.proto.params)) alike in
    record {
      method = refl;
      pc = refl;
      registers = λ r. alike_cond (nat_le (m.registers - m.ins) r && nat_lt r m.registers)
          (value_or_blank (map (value_or_blank vs) (layout m.at.proto.params)) (r - (m.registers - m.ins))) (value_or_blank (map (value_or_blank ws) (layout m.at.proto.params)) (r - (m.registers - m.ins))) blank blank
          (all (r - (m.registers - m.ins))) (alike_itself blank);
      initialises = refl;
    }

-- a world with another heap
over_heaps : (w : World) (heap heap' : List Object) → AlikeHeap heap heap' → AlikeWorld (record w { heap = heap }) (record w { heap = heap' })
over_heaps w heap heap' heaps = let same = world_itself w in record { heap = heaps; statics = same.statics; components = refl; handed = refl; arrivals = refl }

over_its_own : (w : World) → AlikeWorld w (record w { heap = w.heap })
over_its_own w = let same = world_itself w in record { heap = same.heap; statics = same.statics; components = refl; handed = refl; arrivals = refl }

same_labels : (sources : List (ℕ × ℕ)) (i : ℕ) → SameLabels (labels_at sources i) (labels_by sources i)
same_labels sources i = λ l. (in_ascending (labels_at sources i) l, from_ascending (labels_at sources i) l)

module _ (app : App) (lists : Lists) (sources : List (ℕ × ℕ)) (place : Option ℕ) (w : World) where
  alike_receiver : AlikeValue (receiver place sources) (receiver_by place sources)
  alike_receiver = record { place = refl; labels = same_labels sources 0 }

  abbrev begun_by_code : ℕ → Option Method → List Value × List Object → Playing
  begun_by_code body o drawn = playing (record w { heap = drawn.1 }) (frames_with body o (receiver_by place sources ∷ drawn.0))

  by_code : (body : ℕ) (o : Option Method) → AlikeDrawings AlikePlaying (begins_with app lists body place sources w o)
      (parameters_by app lists w.handed (labels_by sources) 1 (types_of o) w.heap >>= λ (drawn : List Value × List Object). give (begun_by_code body o drawn))
  by_code body None = alike_give AlikePlaying (playing w []) (playing (record w { heap = w.heap }) []) (record { world = over_its_own w; frames = tt })
  by_code body (Some m) =
      alike_after AlikeParameters AlikePlaying (parameters app lists w.handed sources 1 m.at.proto.params w.heap) (parameters_by app lists w.handed (labels_by sources) 1 m.at.proto.params w.heap)
      (λ (drawn : List Value × List Object). give (playing (record w { heap = drawn.1 }) (event_frame body m (receiver place sources ∷ drawn.0) ∷ [])))
      (λ (drawn : List Value × List Object). give (begun_by_code body (Some m) drawn))
      (alike_parameters app lists w.handed sources (labels_by sources) (same_labels sources) m.at.proto.params 1 w.heap w.heap (world_itself w).heap)
      (λ x y one. alike_give AlikePlaying (playing (record w { heap = x.1 }) (event_frame body m (receiver place sources ∷ x.0) ∷ [])) (begun_by_code body (Some m) y) (record {
        world = over_heaps w x.1 y.1 one.1;
        frames = (alike_frame body m (receiver place sources ∷ x.0) (receiver_by place sources ∷ y.0) (alike_receiver, one.0), tt);
      }))

  begun_alike : (old : World) (body : Option ℕ) → AlikeDrawings AlikePlaying (begun app lists old (Receives body place sources w)) (received_by app lists body place sources w)
  unfolding begun
  begun_alike old None = alike_give AlikePlaying (playing w []) (playing (record w { heap = w.heap }) []) (record { world = over_its_own w; frames = tt })
  begun_alike old (Some body) = by_code body (code_of app body)

no_drawn : (o : Option (Playing × List ℕ)) → AlikeDrawn AlikePlaying o None → o ≡ None
no_drawn None alike = refl
no_drawn (Some p) alike = absurd alike

abbrev pub AlikeMade : Option (Playing × List ℕ) → Playing → List ℕ → Type 0
AlikeMade o t rest = (s : Playing) × (o ≡ Some (s, rest)) × AlikePlaying s t

some_drawn : (o : Option (Playing × List ℕ)) (t : Playing) (rest : List ℕ) → AlikeDrawn AlikePlaying o (Some (t, rest)) → AlikeMade o t rest
some_drawn None t rest alike = absurd alike
some_drawn (Some p) t rest alike = (p.0, ap (λ r. Some (p.0, r)) alike.1, alike.0)

module _ (app : App) (lists : Lists) (old w : World) (body place : Option ℕ) (sources : List (ℕ × ℕ)) (bytes : List ℕ) where
  pub none_begins : None ≡ received_by app lists body place sources w bytes → begun app lists old (Receives body place sources w) bytes ≡ None
  none_begins none =
      no_drawn (begun app lists old (Receives body place sources w) bytes)
      (subst (AlikeDrawn AlikePlaying (begun app lists old (Receives body place sources w) bytes)) (sym none) (begun_alike app lists sources place w old body bytes))

  pub one_begins : (new : Playing) (rest : List ℕ) → Some (new, rest) ≡ received_by app lists body place sources w bytes → AlikeMade (begun app lists old (Receives body place sources w) bytes) new rest
  one_begins new rest is =
      some_drawn (begun app lists old (Receives body place sources w) bytes) new rest
      (subst (AlikeDrawn AlikePlaying (begun app lists old (Receives body place sources w) bytes)) (sym is) (begun_alike app lists sources place w old body bytes))

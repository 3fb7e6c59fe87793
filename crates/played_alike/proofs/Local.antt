-- Steps within a method, and raises, of alike worlds and frames.
use Rattle.std.proofs.Common.{◌≡◌, ◌==◌, inl, inr, ℕ, Bool, true, false, cond, List, [], ◌∷◌, ◌++◌, map, reverse, length, Option, Some, None, refl, sym, ap, ◌∙◌, subst}
use Rattle.std.specs.Prelude.{option_to_list}
use Rattle.std.specs.List.{cons_option}
use Rattle.std.proofs.lemmas.List.{append-nil}
use Rattle.vet_base.specs.declared.key_id.KeyId.{KeyId}
use Rattle.vet_base.proofs.Members.{in_either, in_front, in_back}
use Rattle.app_machine.specs.declared.app.App.{App}
use Rattle.app_machine.specs.declared.lists.Lists.{Lists}
use Rattle.app_machine.specs.declared.method.Act.{Act}
use Rattle.app_machine.specs.declared.method.Act.TheVariants.{Skip, Join, Move, Blank, New, Fill, Get, Put, GetStatic, PutStatic, Call, Return, Throw, TakeResult, TakeException, Go}
use Rattle.app_machine.specs.declared.method.Step.{Step}
use Rattle.app_machine.specs.Heap.{Value, Object, blank, labelled, put_to}
use Rattle.app_machine.specs.Lookups.{elem_key, step_at}
use Rattle.app_machine.specs.Summaries.{static_source}
use Rattle.app_machine.specs.State.{result_register, exception_register, write, write_all, World, Frame, object_at, new_object}
use Rattle.played_machine.specs.Drawing.{give, ◌>>=◌, one_of}
use Rattle.played_machine.specs.Local.{playing, catches_of, moved, first_or_blank, got_at, got, own_labels, elements, with_object, static_read, local, raised_to, raised}
use Rattle.played_machine.specs.Reading.{under, values_at}
use Rattle.played_machine.proofs.Ordered.{reverse-cons}
use Rattle.played_alike.specs.Alike.{Pairwise, AlikeValue, values_under, AlikeEntries, AlikeObject, AlikeHeap, AlikeValues, AlikeFrame, AlikeFrames, AlikeWorld, AlikePlaying}
use Rattle.played_alike.proofs.Heaps.{alike_itself, alike_write, alike_write_all, alike_values, same_own_labels, alike_put_to, alike_object, alike_more}
use Rattle.played_alike.proofs.Pairs.{pair_append, pair_length, pair_reverse, AlikeOption, AlikeDrawings, alike_give, alike_if, alike_one, alike_after, alike_then}

-- a get
alike_first : (xs ys : List Value) → Pairwise AlikeValue xs ys → AlikeValue (first_or_blank xs) (first_or_blank ys)
alike_first [] [] pairs = alike_itself blank
alike_first [] (y ∷ ys) pairs = absurd pairs
alike_first (x ∷ xs) [] pairs = absurd pairs
alike_first (x ∷ xs) (y ∷ ys) pairs = pairs.0

pub alike_got : (heap heap' : List Object) → AlikeHeap heap heap' → (v w : Value) → AlikeValue v w → (k : KeyId) → AlikeDrawings AlikeValue (got heap v k) (got heap' w k)
unfolding got
alike_got heap heap' alike v w value k = subst (λ o. AlikeDrawings AlikeValue (got_at heap v.place k) (got_at heap' o k)) value.place (by_place v.place)
  where
    by_place : (o : Option ℕ) → AlikeDrawings AlikeValue (got_at heap o k) (got_at heap' o k)
    by_place None = alike_give AlikeValue blank blank (alike_itself blank)
    by_place (Some p) =
        let pairs : Pairwise AlikeValue (values_at heap p k) (values_at heap' p k) = alike_values heap heap' alike p k in
        alike_if AlikeValue (k.0 == 0) (one_of (values_at heap p k ++ blank ∷ [])) (one_of (values_at heap' p k ++ blank ∷ [])) (give (first_or_blank (values_at heap p k))) (give (first_or_blank (values_at heap' p k)))
        (alike_one AlikeValue (values_at heap p k ++ blank ∷ []) (values_at heap' p k ++ blank ∷ []) (pair_append AlikeValue (values_at heap p k) (values_at heap' p k) (blank ∷ []) (blank ∷ []) pairs (alike_itself blank, tt)))
        (alike_give AlikeValue (first_or_blank (values_at heap p k)) (first_or_blank (values_at heap' p k)) (alike_first (values_at heap p k) (values_at heap' p k) pairs))

pub alike_labelled : (labels others : List ℕ) → labels ≡ others → AlikeValue (labelled labels) (labelled others)
alike_labelled labels others same = subst (λ ls. AlikeValue (labelled labels) (labelled ls)) same (alike_itself (labelled labels))

-- a value with more labels
alike_more_labels : (more : List ℕ) (v w : Value) → AlikeValue v w → AlikeValue (record { place = v.place; labels = more ++ v.labels }) (record { place = w.place; labels = more ++ w.labels })
alike_more_labels more v w one = record {
  place = one.place;
  labels = λ l. (
    λ h. elim (in_either l more v.labels h) [ inl new ↦ in_front l more w.labels new | inr old ↦ in_back l more w.labels ((one.labels l).0 old) ],
    λ h. elim (in_either l more w.labels h) [ inl new ↦ in_front l more v.labels new | inr old ↦ in_back l more v.labels ((one.labels l).1 old) ],
  );
}

-- entries from the back
under_append : (j : KeyId) (es ds : List (KeyId × Value)) → values_under j (es ++ ds) ≡ values_under j es ++ values_under j ds
under_append j [] ds = refl
under_append j (e ∷ es) ds = by_head (under j e) (under_append j es ds)
  where
    by_head : (o : Option Value) → values_under j (es ++ ds) ≡ values_under j es ++ values_under j ds → cons_option o (values_under j (es ++ ds)) ≡ cons_option o (values_under j es) ++ values_under j ds
    by_head None rest = rest
    by_head (Some v) rest = ap (λ vs. v ∷ vs) rest

under_reversed : (j : KeyId) (es : List (KeyId × Value)) → values_under j (reverse es) ≡ reverse (values_under j es)
under_reversed j [] = refl
under_reversed j (e ∷ es) =
    ap (values_under j) (reverse-cons e es) ∙ (under_append j (reverse es) (e ∷ []) ∙ (ap (λ vs. vs ++ values_under j (e ∷ [])) (under_reversed j es) ∙ by_head (under j e) (values_under j es)))
  where
    by_head : (o : Option Value) (vs : List Value) → reverse vs ++ cons_option o [] ≡ reverse (cons_option o vs)
    by_head None vs = append-nil (reverse vs)
    by_head (Some v) vs = sym (reverse-cons v vs)

alike_option_cons : (o q : Option Value) (vs ws : List Value) → AlikeOption AlikeValue o q → Pairwise AlikeValue vs ws → Pairwise AlikeValue (cons_option o vs) (cons_option q ws)
alike_option_cons None None vs ws head rest = rest
alike_option_cons None (Some y) vs ws head rest = absurd head
alike_option_cons (Some x) None vs ws head rest = absurd head
alike_option_cons (Some x) (Some y) vs ws head rest = (head, rest)

-- a world and registers
abbrev pub AlikeDone : World × (ℕ → Value) → World × (ℕ → Value) → Type 0
AlikeDone a b = AlikeWorld a.0 b.0 × AlikeValues a.1 b.1

pub with_heap : (w u : World) → AlikeWorld w u → (heap heap' : List Object) → AlikeHeap heap heap' → AlikeWorld (record w { heap = heap }) (record u { heap = heap' })
with_heap w u alike heap heap' heaps = record { heap = heaps; statics = alike.statics; components = alike.components; handed = alike.handed; arrivals = alike.arrivals }

module _ (w u : World) (alike : AlikeWorld w u) where
  alike_with : (o q : Object) → AlikeObject o q → AlikeWorld (with_object w o) (with_object u q)
  alike_with o q one = with_heap w u alike (w.heap ++ o ∷ []) (u.heap ++ q ∷ []) (alike_more w.heap u.heap o q alike.heap one)

  alike_place : (labels others : List ℕ) → labels ≡ others → AlikeValue (record { place = Some (length w.heap); labels = labels }) (record { place = Some (length u.heap); labels = others })
  alike_place labels others same = record { place = ap (λ n. Some n) (pair_length AlikeObject w.heap u.heap alike.heap); labels = (alike_labelled labels others same).labels }

  module _ (f g : Frame) (registers : AlikeValues f.registers g.registers) where
    -- the elements of a filled array
    alike_under : (j : KeyId) (x : ℕ) → AlikeOption AlikeValue (under j (elem_key, f.registers x)) (under j (elem_key, g.registers x))
    alike_under j x = by_key (elem_key.0 == j.0)
      where
        by_key : (b : Bool) → AlikeOption AlikeValue (cond b (Some (f.registers x)) None) (cond b (Some (g.registers x)) None)
        by_key true = registers x
        by_key false = tt

    alike_elements : (xs : List ℕ) → AlikeEntries (elements f xs) (elements g xs)
    alike_elements xs j =
        subst (λ vs. Pairwise AlikeValue vs (values_under j (elements g xs))) (sym (under_reversed j (map (λ x. (elem_key, f.registers x)) xs)))
        (subst (λ vs. Pairwise AlikeValue (reverse (values_under j (map (λ x. (elem_key, f.registers x)) xs))) vs) (sym (under_reversed j (map (λ x. (elem_key, g.registers x)) xs)))
        (pair_reverse AlikeValue (values_under j (map (λ x. (elem_key, f.registers x)) xs)) (values_under j (map (λ x. (elem_key, g.registers x)) xs)) (in_order xs)))
      where
        in_order : (ys : List ℕ) → Pairwise AlikeValue (values_under j (map (λ x. (elem_key, f.registers x)) ys)) (values_under j (map (λ x. (elem_key, g.registers x)) ys))
        in_order [] = tt
        in_order (y ∷ ys) = alike_option_cons (under j (elem_key, f.registers y)) (under j (elem_key, g.registers y)) (values_under j (map (λ x. (elem_key, f.registers x)) ys)) (values_under j (map (λ x. (elem_key, g.registers x)) ys)) (alike_under j y) (in_order ys)

    pub alike_local : (app : App) (lists : Lists) (act : Act) → AlikeDrawings AlikeDone (local app lists w f act) (local app lists u g act)
    unfolding local
    alike_local app lists (Join ds xs) = alike_give AlikeDone _ _ (alike, alike_write_all f.registers g.registers ds (labelled (own_labels f xs)) (labelled (own_labels g xs)) registers (alike_labelled (own_labels f xs) (own_labels g xs) (same_own_labels f g registers xs)))
    alike_local app lists (Move ds x) = alike_give AlikeDone _ _ (alike, alike_write_all f.registers g.registers ds (f.registers x) (g.registers x) registers (registers x))
    alike_local app lists (Blank ds) = alike_give AlikeDone _ _ (alike, alike_write_all f.registers g.registers ds blank blank registers (alike_itself blank))
    alike_local app lists (New d class size) =
        alike_give AlikeDone _ _ (
          alike_with (new_object class) (new_object class) (alike_object (new_object class)),
          alike_write f.registers g.registers d (record { place = Some (length w.heap); labels = own_labels f (option_to_list size) }) (record { place = Some (length u.heap); labels = own_labels g (option_to_list size) }) registers
              (alike_place (own_labels f (option_to_list size)) (own_labels g (option_to_list size)) (same_own_labels f g registers (option_to_list size))),
        )
    alike_local app lists (Fill xs class) =
        alike_give AlikeDone _ _ (
          alike_with (record { class = class; entries = elements f xs }) (record { class = class; entries = elements g xs }) (record { class = refl; entries = alike_elements xs }),
          alike_write f.registers g.registers result_register (object_at (Some (length w.heap))) (object_at (Some (length u.heap))) registers (alike_place [] [] refl),
        )
    alike_local app lists (Get ds o k) =
        alike_after AlikeValue AlikeDone (got w.heap (f.registers o) k) (got u.heap (g.registers o) k) (λ v. give (w, write_all f.registers ds v)) (λ v. give (u, write_all g.registers ds v))
        (alike_got w.heap u.heap alike.heap (f.registers o) (g.registers o) (registers o) k)
        (λ x y one. alike_give AlikeDone (w, write_all f.registers ds x) (u, write_all g.registers ds y) (alike, alike_write_all f.registers g.registers ds x y registers one))
    alike_local app lists (Put o k x) =
        alike_give AlikeDone _ _ (
          with_heap w u alike (put_to w.heap (f.registers o).place k (f.registers x)) (put_to u.heap (g.registers o).place k (g.registers x))
              (alike_put_to w.heap u.heap (f.registers o).place (g.registers o).place k (f.registers x) (g.registers x) alike.heap (registers o).place (registers x)),
          registers,
        )
    alike_local app lists (GetStatic ds n) =
        alike_give AlikeDone _ _ (
          alike,
          alike_write_all f.registers g.registers ds (static_read app lists w n) (static_read app lists u n) registers
              (alike_more_labels (option_to_list (static_source app lists n)) (w.statics n) (u.statics n) (alike.statics n)),
        )
    alike_local app lists (PutStatic n x) =
        alike_give AlikeDone _ _ (record { heap = alike.heap; statics = alike_write w.statics u.statics n (f.registers x) (g.registers x) alike.statics (registers x); components = alike.components; handed = alike.handed; arrivals = alike.arrivals }, registers)
    alike_local app lists (TakeResult ds) = alike_give AlikeDone _ _ (alike, alike_write_all f.registers g.registers ds (f.registers result_register) (g.registers result_register) registers (registers result_register))
    alike_local app lists (TakeException d) = alike_give AlikeDone _ _ (alike, alike_write f.registers g.registers d (f.registers exception_register) (g.registers exception_register) registers (registers exception_register))
    alike_local app lists Skip = alike_give AlikeDone _ _ (alike, registers)
    alike_local app lists Go = alike_give AlikeDone _ _ (alike, registers)
    alike_local app lists (Call kind at args) = alike_give AlikeDone _ _ (alike, registers)
    alike_local app lists (Return x) = alike_give AlikeDone _ _ (alike, registers)
    alike_local app lists (Throw x) = alike_give AlikeDone _ _ (alike, registers)

-- frames that go on
pub alike_moved : (f g : Frame) → AlikeFrame f g → (pc : ℕ) (one other : ℕ → Value) → AlikeValues one other → AlikeFrame (moved f pc one) (moved g pc other)
alike_moved f g alike pc one other registers = record { method = alike.method; pc = refl; registers = registers; initialises = alike.initialises }

pub same_step : (app : App) (f g : Frame) → AlikeFrame f g → step_at app f.method f.pc ≡ step_at app g.method g.pc
same_step app f g alike = ap (λ m. step_at app m f.pc) alike.method ∙ ap (λ pc. step_at app g.method pc) alike.pc

-- a raise
pub alike_raised : (app : App) (v v' : Value) → AlikeValue v v' → (w u : World) → AlikeWorld w u → (fs gs : List Frame) → AlikeFrames fs gs → AlikeDrawings AlikePlaying (raised app v w fs) (raised app v' u gs)
alike_raised app v v' value w u alike [] [] frames = alike_give AlikePlaying (playing w []) (playing u []) (record { world = alike; frames = tt })
alike_raised app v v' value w u alike [] (g ∷ gs) frames = absurd frames
alike_raised app v v' value w u alike (f ∷ fs) [] frames = absurd frames
alike_raised app v v' value w u alike (f ∷ fs) (g ∷ gs) frames =
    subst (λ (o : Option Step). AlikeDrawings AlikePlaying (one_of (map (λ pc. Some pc) (catches_of (step_at app f.method f.pc)) ++ None ∷ []) >>= raised_to app v w f fs (raised app v w fs)) (one_of (map (λ pc. Some pc) (catches_of o) ++ None ∷ []) >>= raised_to app v' u g gs (raised app v' u gs)))
    (same_step app f g frames.0)
    (alike_then AlikePlaying (one_of (map (λ pc. Some pc) (catches_of (step_at app f.method f.pc)) ++ None ∷ [])) (raised_to app v w f fs (raised app v w fs)) (raised_to app v' u g gs (raised app v' u gs))
    (by_choice (alike_raised app v v' value w u alike fs gs frames.1)))
  where
    by_choice : AlikeDrawings AlikePlaying (raised app v w fs) (raised app v' u gs) → (to : Option ℕ) →
        AlikeDrawings AlikePlaying (raised_to app v w f fs (raised app v w fs) to) (raised_to app v' u g gs (raised app v' u gs) to)
    by_choice upward None = upward
    by_choice upward (Some pc) = alike_give AlikePlaying _ _ (record { world = alike; frames = (alike_moved f g frames.0 pc (write f.registers exception_register v) (write g.registers exception_register v') (alike_write f.registers g.registers exception_register v v' frames.0.registers value), frames.1) })

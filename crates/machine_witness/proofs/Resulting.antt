-- Library calls by the kind of their result, and where a class stands below a type.
use Rattle.std.proofs.Common.{◌≡◌, ℕ, zero, suc, List, [], ◌∷◌, ◌⊎◌, ◌↔◌, inl, inr, true, false, Option, Some, None, refl, ap, sym, ◌∙◌, subst}
use Rattle.std.specs.Prelude.{length, ◌++◌, codes, IsTrue}
use Rattle.app_machine.specs.declared.app.Class.{Class}
use Rattle.app_machine.specs.declared.call.CallKind.TheVariants.{Static, Virtual}
use Rattle.app_machine.specs.declared.method.Act.TheVariants.{Call}
use Rattle.app_machine.specs.declared.summary.Gives.{Gives}
use Rattle.app_machine.specs.declared.summary.Gives.TheVariants as gives
use Rattle.app_machine.specs.declared.lists.SummaryId.TheVariants.{Row}
use Rattle.app_machine.specs.declared.summary.Summary.{Summary}
use Rattle.vet_base.specs.Members.{In, IsAt}
use Rattle.app_machine.specs.Names.{Name, same_name, is_void, is_reference, is_wide, is_array, array_types, object_class}
use Rattle.app_machine.specs.Lookups.{step_at, target, find_body, up, method_of, class_named, is_by_receiver, lists_bare, all_above}
use Rattle.app_machine.specs.Summaries.{library_key, summary, row_walk, library_classes, listed_above, listed_class, row_of, ClassBelow, Below, is_same, is_object, is_through, is_listed, of_class, of_array, of_elements}
use Rattle.app_machine.specs.Heap.{Value, Object, ClassAt, blank}
use Rattle.app_machine.specs.State.{result_register, write, World, Frame, object_at}
use Rattle.app_machine.specs.Calls.{by_name, by_nothing, hand}
use Rattle.app_machine.specs.Library.{positions, value_at, Hands, all_there, HasObject, was_handed, is_live, Results, of_void, as_blank, as_same, as_taken, as_shared, as_labels, as_object, as_nothing, as_given_back, AreJoined, CallsLibrary, UsesRow, joined_object}
use Rattle.app_machine.specs.Run.{calls_library}
use Rattle.machine_witness.specs.Apps.{step, one_class}
use Rattle.machine_witness.specs.Acts.{frame_at}
use Rattle.machine_witness.specs.Flows.{box_class, row_of_method}
use Rattle.machine_witness.specs.Results.{gives_blank, gives_same, gives_box, on_receiver, gives_back, back_row, small_box, results_app, results_lists, Comes, with_handed, EachResultComes, ClassesStandBelow}
use Rattle.machine_witness.proofs.Acting.{act_of, next_of}
use Rattle.machine_witness.proofs.Flowing.{same_arrivals, no_adds}
use Rattle.std.proofs.lemmas.Option.{none-some}
use Rattle.vet_base.proofs.Texts.{same_itself}

abbrev same_row : Summary
same_row = record (row_of_method gives_same) { gives = gives.Same 0 }

abbrev box_row : Summary
box_row = record (row_of_method gives_box) { gives = gives.Joined []; source = Some 0 }

abbrev receiver_row : Summary
receiver_row = record (row_of_method on_receiver) { is_static = false }

blank_used : (heap : List Object) (f : Frame) → UsesRow results_app results_lists heap f Static gives_blank [] (row_of_method gives_blank)
unfolding results_app results_lists target find_body up method_of is_by_receiver library_key summary row_walk library_classes class_named listed_above listed_class row_of is_array
blank_used heap f = record { class = box_class; goes = by_name refl refl; key = Row 0; is_key = refl; is_row = refl; plain = refl }

same_used : (heap : List Object) (f : Frame) → UsesRow results_app results_lists heap f Static gives_same (1 ∷ []) same_row
unfolding results_app results_lists target find_body up method_of is_by_receiver library_key summary row_walk library_classes class_named listed_above listed_class row_of is_array
same_used heap f = record { class = box_class; goes = by_name refl refl; key = Row 1; is_key = refl; is_row = refl; plain = refl }

box_used : (heap : List Object) (f : Frame) → UsesRow results_app results_lists heap f Static gives_box [] box_row
unfolding results_app results_lists target find_body up method_of is_by_receiver library_key summary row_walk library_classes class_named listed_above listed_class row_of is_array
box_used heap f = record { class = box_class; goes = by_name refl refl; key = Row 2; is_key = refl; is_row = refl; plain = refl }

no_place_of : (f : Frame) → (f.registers 1).place ≡ None → (x : ℕ) → IsAt (1 ∷ []) 0 x → (f.registers x).place ≡ None
no_place_of f none x at = let first : 1 ≡ x = some_same at.there in subst (λ y. (f.registers y).place ≡ None) first none
  where
    some_same : {a b : ℕ} → ◌≡◌ {A = Option ℕ} (Some a) (Some b) → a ≡ b
    some_same e = cc

receiver_used : (heap : List Object) (f : Frame) → (f.registers 1).place ≡ None → UsesRow results_app results_lists heap f Virtual on_receiver (1 ∷ []) receiver_row
unfolding results_app results_lists target find_body up method_of is_by_receiver library_key summary row_walk library_classes class_named listed_above listed_class row_of is_array lists_bare all_above
receiver_used heap f none = record { class = box_class; goes = by_nothing refl (no_place_of f none) refl; key = Row 3; is_key = refl; is_row = refl; plain = refl }

no_positions_blank : positions Static gives_blank [] ≡ []
unfolding positions
no_positions_blank = refl

one_position_same : positions Static gives_same (1 ∷ []) ≡ 1 ∷ []
unfolding positions is_wide
one_position_same = refl

no_positions_box : positions Static gives_box [] ≡ []
unfolding positions
no_positions_box = refl

one_position_receiver : positions Virtual on_receiver (1 ∷ []) ≡ 1 ∷ []
unfolding positions is_wide
one_position_receiver = refl

call_blank : (w : World) (f : Frame) → CallsLibrary results_app results_lists w f [] gives_blank.proto.ret (row_of_method gives_blank) w blank
unfolding is_void
call_blank w f = record {
  with_shared = w.heap;
  with_result = w.heap;
  added = [];
  handed = λ p. (λ h. inl h, elim [ inl h ↦ h | inr hands ↦ absurd (none-some p hands.place) ]);
  arrivals = same_arrivals w.arrivals refl;
  shared = all_there;
  results = as_blank refl;
  adds = λ a. (λ h. absurd h, no_adds refl refl refl);
  heap = refl;
  components = refl;
}

-- the one position's place is handed, where it has one
handed_one : (f : Frame) (o : Option ℕ) → (f.registers 1).place ≡ o → (handed : List ℕ) (p : ℕ) → In p (hand o handed) ↔ (In p handed ⊎ Hands f (1 ∷ []) p)
handed_one f None e handed p = (λ h. inl h, elim [ inl h ↦ h | inr hands ↦ absurd (by hands.at hands.place) ])
  where
    by : (at : ℕ) → (value_at f (1 ∷ []) at).place ≡ Some p → ⊥
    by zero there = none-some p (sym e ∙ there)
    by (suc at) there = none-some p there
handed_one f (Some q) e handed p = (elim [ inl same ↦ inr (record { at = 0; place = e ∙ ap (λ x. Some x) (sym same) }) | inr h ↦ inl h ], elim [ inl h ↦ inr h | inr hands ↦ inl (by hands.at hands.place) ])
  where
    by : (at : ℕ) → (value_at f (1 ∷ []) at).place ≡ Some p → p ≡ q
    by zero there = let both : ◌≡◌ {A = Option ℕ} (Some q) (Some p) = sym e ∙ there in cc
    by (suc at) there = absurd (none-some p there)

call_same : (w : World) (f : Frame) → CallsLibrary results_app results_lists w f (1 ∷ []) gives_same.proto.ret same_row (record w { handed = hand (f.registers 1).place w.handed }) (f.registers 1)
unfolding is_void
call_same w f = record {
  with_shared = w.heap;
  with_result = w.heap;
  added = [];
  handed = handed_one f (f.registers 1).place refl w.handed;
  arrivals = same_arrivals w.arrivals refl;
  shared = all_there;
  results = as_same refl;
  adds = λ a. (λ h. absurd h, no_adds refl refl refl);
  heap = refl;
  components = refl;
}

source_alone : (heap : List Object) (f : Frame) → AreJoined heap f [] [] (Some 0) (0 ∷ [])
source_alone heap f l = (elim [ inl e ↦ inl (ap (λ x. Some x) (sym e)) | inr none ↦ absurd none ], elim [ inl e ↦ inl (same e) | inr h ↦ absurd h.1 ])
  where
    same : ◌≡◌ {A = Option ℕ} (Some 0) (Some l) → l ≡ 0
    same e = cc

call_box : (w : World) (f : Frame) → CallsLibrary results_app results_lists w f [] gives_box.proto.ret box_row (record w { heap = w.heap ++ joined_object box_class (0 ∷ []) ∷ [] }) (record { place = Some (length w.heap); labels = 0 ∷ [] })
unfolding is_void is_reference
call_box w f = record {
  with_shared = w.heap;
  with_result = w.heap ++ joined_object box_class (0 ∷ []) ∷ [];
  added = [];
  handed = λ p. (λ h. inl h, elim [ inl h ↦ h | inr hands ↦ absurd (none-some p hands.place) ]);
  arrivals = same_arrivals w.arrivals refl;
  shared = all_there;
  results = as_object refl refl (source_alone w.heap f);
  adds = λ a. (λ h. absurd h, no_adds refl refl refl);
  heap = refl;
  components = refl;
}

call_on_nothing : (w : World) (f : Frame) → (f.registers 1).place ≡ None → CallsLibrary results_app results_lists w f (1 ∷ []) on_receiver.proto.ret receiver_row w blank
unfolding is_void
call_on_nothing w f none = record {
  with_shared = w.heap;
  with_result = w.heap;
  added = [];
  handed = handed_one f None none w.handed;
  arrivals = same_arrivals w.arrivals refl;
  shared = all_there;
  results = as_blank refl;
  adds = λ a. (λ h. absurd h, no_adds refl refl refl);
  heap = refl;
  components = refl;
}

back_used : (heap : List Object) (f : Frame) → UsesRow results_app results_lists heap f Static gives_back (1 ∷ []) back_row
unfolding results_app results_lists target find_body up method_of is_by_receiver library_key summary row_walk library_classes class_named listed_above listed_class row_of is_array
back_used heap f = record { class = box_class; goes = by_name refl refl; key = Row 4; is_key = refl; is_row = refl; plain = refl }

one_position_back : positions Static gives_back (1 ∷ []) ≡ 1 ∷ []
unfolding positions is_wide
one_position_back = refl

small_below : Below results_app results_lists small_box box_class
unfolding results_lists listed_above listed_class
small_below = of_class (is_listed (inr (inl refl)))

-- a call that gives this value back, from the world with what it hands over
call_back : (w : World) (f : Frame) (v : Value) → Results results_app results_lists w (hand (f.registers 1).place w.handed) f (1 ∷ []) None box_class w.statics w.heap gives.Handed w.heap v →
    CallsLibrary results_app results_lists w f (1 ∷ []) gives_back.proto.ret back_row (record w { handed = hand (f.registers 1).place w.handed }) v
unfolding is_void
call_back w f v results = record {
  with_shared = w.heap;
  with_result = w.heap;
  added = [];
  handed = handed_one f (f.registers 1).place refl w.handed;
  arrivals = same_arrivals w.arrivals refl;
  shared = all_there;
  results = results;
  adds = λ a. (λ h. absurd h, no_adds refl refl refl);
  heap = refl;
  components = refl;
}

-- an object of a small box that the library has
back_object : (w : World) (f : Frame) (p : ℕ) → HasObject w (hand (f.registers 1).place w.handed) p → ClassAt w.heap p small_box →
    Results results_app results_lists w (hand (f.registers 1).place w.handed) f (1 ∷ []) None box_class w.statics w.heap gives.Handed w.heap (object_at (Some p))
unfolding is_reference
back_object w f p has_object of_small = as_given_back refl has_object of_small small_below

back_nothing : (w : World) (f : Frame) → Results results_app results_lists w (hand (f.registers 1).place w.handed) f (1 ∷ []) None box_class w.statics w.heap gives.Handed w.heap blank
unfolding is_void
back_nothing w f = as_nothing refl

-- what was handed is so still, and so is the argument
still_handed : (o : Option ℕ) (handed : List ℕ) (p : ℕ) → In p handed → In p (hand o handed)
still_handed None handed p h = h
still_handed (Some q) handed p h = inr h

argument_handed : (o : Option ℕ) (handed : List ℕ) (p : ℕ) → o ≡ Some p → In p (hand o handed)
argument_handed None handed p e = absurd (none-some p e)
argument_handed (Some q) handed p e = inl (let same : ◌≡◌ {A = Option ℕ} (Some q) (Some p) = e in cc)

back_step : (w : World) (r : ℕ → Value) (v : Value) → Results results_app results_lists w (hand (r 1).place w.handed) (frame_at 4 r) (1 ∷ []) None box_class w.statics w.heap gives.Handed w.heap v →
    Comes w 4 r (with_handed w r) (write r result_register v)
unfolding results_app step_at
back_step w r v results fs = calls_library (act_of (step 4 (Call Static gives_back (1 ∷ [])) (5 ∷ [])) refl) (next_of (step 4 (Call Static gives_back (1 ∷ [])) (5 ∷ [])) refl (inl refl)) (back_used w.heap (frame_at 4 r)) (subst (λ places. CallsLibrary results_app results_lists w (frame_at 4 r) places gives_back.proto.ret back_row (with_handed w r) v) (sym one_position_back) (call_back w (frame_at 4 r) v results))

-- what comes back
has_it : {w : World} {handed : List ℕ} {f : Frame} {places : List ℕ} {source : Option ℕ} {ret : Name} {statics : ℕ → Value} {heap new : List Object} {kind : Gives} {v : Value} (p : ℕ) →
    Results results_app results_lists w handed f places source ret statics heap kind new v → kind ≡ gives.Handed → v.place ≡ Some p → HasObject w handed p × ((class : Name) × (ClassAt w.heap p class × Below results_app results_lists class ret))
has_it p (of_void void) e there = absurd (none-some p there)
has_it p (as_blank not_void) e there = absurd (none-some p there)
has_it p (as_same not_void) e there = absurd cc
has_it p (as_taken not_void taken) e there = absurd cc
has_it p (as_shared not_void) e there = absurd cc
has_it p (as_labels not_void plain which) e there = absurd cc
has_it p (as_object not_void reference which) e there = absurd cc
has_it p (as_nothing not_void) e there = absurd (none-some p there)
has_it {w} {handed} p (as_given_back {p = q} {class = class} reference has_object is_there below) e there =
    let same : q ≡ p = some_is there in
    (subst (HasObject w handed) same has_object, (class, (subst (λ z. ClassAt w.heap z class) same is_there, below)))
  where
    some_is : {a b : ℕ} → ◌≡◌ {A = Option ℕ} (Some a) (Some b) → a ≡ b
    some_is e = cc

pub each_result_comes : EachResultComes
unfolding results_app step_at
each_result_comes w r = record {
  gives_blank = λ fs. calls_library (act_of (step 0 (Call Static gives_blank []) (1 ∷ [])) refl) (next_of (step 0 (Call Static gives_blank []) (1 ∷ [])) refl (inl refl)) (blank_used w.heap (frame_at 0 r)) (subst (λ places. CallsLibrary results_app results_lists w (frame_at 0 r) places gives_blank.proto.ret (row_of_method gives_blank) w blank) (sym no_positions_blank) (call_blank w (frame_at 0 r)));
  gives_same = λ fs. calls_library (act_of (step 1 (Call Static gives_same (1 ∷ [])) (2 ∷ [])) refl) (next_of (step 1 (Call Static gives_same (1 ∷ [])) (2 ∷ [])) refl (inl refl)) (same_used w.heap (frame_at 1 r)) (subst (λ places. CallsLibrary results_app results_lists w (frame_at 1 r) places gives_same.proto.ret same_row (record w { handed = hand (r 1).place w.handed }) (r 1)) (sym one_position_same) (call_same w (frame_at 1 r)));
  gives_box = λ fs. calls_library (act_of (step 2 (Call Static gives_box []) (3 ∷ [])) refl) (next_of (step 2 (Call Static gives_box []) (3 ∷ [])) refl (inl refl)) (box_used w.heap (frame_at 2 r)) (subst (λ places. CallsLibrary results_app results_lists w (frame_at 2 r) places gives_box.proto.ret box_row (record w { heap = w.heap ++ joined_object box_class (0 ∷ []) ∷ [] }) (record { place = Some (length w.heap); labels = 0 ∷ [] })) (sym no_positions_box) (call_box w (frame_at 2 r)));
  on_nothing = λ none fs. calls_library (act_of (step 3 (Call Virtual on_receiver (1 ∷ [])) (4 ∷ [])) refl) (next_of (step 3 (Call Virtual on_receiver (1 ∷ [])) (4 ∷ [])) refl (inl refl)) (receiver_used w.heap (frame_at 3 r) none) (subst (λ places. CallsLibrary results_app results_lists w (frame_at 3 r) places on_receiver.proto.ret receiver_row w blank) (sym one_position_receiver) (call_on_nothing w (frame_at 3 r) none));
  nothing_back = back_step w r blank (back_nothing w (frame_at 4 r));
  handed_back = λ p among of_small. back_step w r (object_at (Some p)) (back_object w (frame_at 4 r) p (was_handed (still_handed (r 1).place w.handed p among)) of_small);
  itself_back = λ p there of_small. back_step w r (object_at (Some p)) (back_object w (frame_at 4 r) p (was_handed (argument_handed (r 1).place w.handed p there)) of_small);
  component_back = λ c p live there of_small. back_step w r (object_at (Some p)) (back_object w (frame_at 4 r) p (is_live c live there) of_small);
  no_other_back = λ new v p call there. (has_it p call.results refl there).0;
  none_of_another_class = λ new v p call there. (has_it p call.results refl there).1;
}

differ : (a b : Name) → same_name a b ≡ false → a ≡ b → ⊥
differ a b other same = let is : same_name a b ≡ true = subst (λ x. same_name a x ≡ true) same (same_itself a) in absurd cc

-- An array of numbers is no class of the app and none of the lists, and its elements are no objects.
no_above : (above : Class) → class_named results_app (codes "[I") ≡ Some above → ⊥
unfolding results_app class_named
no_above above there = none-some above there

no_listed : (type : Name) → In type (listed_above results_lists (codes "[I")) → ⊥
unfolding results_lists listed_above listed_class
no_listed type among = among

no_object : (type : Name) → type ≡ codes "[Ljava/lang/Object;" → type ≡ object_class → ⊥
unfolding object_class
no_object type t object = differ (codes "[Ljava/lang/Object;") (codes "Ljava/lang/Object;") refl (sym t ∙ object)

no_class : (class type : Name) → class ≡ codes "[I" → type ≡ codes "[Ljava/lang/Object;" → ClassBelow results_app results_lists class type → ⊥
no_class class type c t is_same = differ (codes "[I") (codes "[Ljava/lang/Object;") refl (sym c ∙ t)
no_class class type c t (is_object object) = no_object type t object
no_class class type c t (is_through above there at rest) = no_above above (ap (class_named results_app) (sym c) ∙ there)
no_class class type c t (is_listed among) = no_listed type (subst (λ x. In type (listed_above results_lists x)) c among)

no_type : (type : Name) → type ≡ codes "[Ljava/lang/Object;" → In type array_types → ⊥
unfolding array_types
no_type type t (inl same) = differ (codes "[Ljava/lang/Object;") (codes "Ljava/lang/Cloneable;") refl (sym t ∙ same)
no_type type t (inr (inl same)) = differ (codes "[Ljava/lang/Object;") (codes "Ljava/io/Serializable;") refl (sym t ∙ same)
no_type type t (inr (inr none)) = none

no_reference : (element : Name) → element ≡ codes "I" → IsTrue (is_reference element) → ⊥
unfolding is_reference
no_reference element number reference = let is : is_reference (codes "I") ≡ true = subst (λ x. is_reference x ≡ true) number reference in absurd cc

abbrev behind : Name → Name
behind [] = []
behind (byte ∷ bytes) = bytes

numbers_alone : (class type : Name) → class ≡ codes "[I" → type ≡ codes "[Ljava/lang/Object;" → Below results_app results_lists class type → ⊥
numbers_alone class type c t (of_class below) = no_class class type c t below
numbers_alone class type c t (of_array array among) = no_type type t among
numbers_alone class type c t (of_elements {class = element} reference below) = no_reference element (ap behind c) reference

pub classes_stand_below : ClassesStandBelow
unfolding results_app results_lists class_named listed_above listed_class object_class is_array is_reference array_types
classes_stand_below = record {
  itself = of_class is_same;
  object = of_class (is_object refl);
  superclass = of_class (is_through one_class refl (inl refl) is_same);
  listed = of_class (is_listed (inr (inl refl)));
  array = of_array refl (inl refl);
  elements = of_elements refl (of_elements refl (of_class (is_listed (inr (inl refl)))));
  no_numbers = numbers_alone (codes "[I") (codes "[Ljava/lang/Object;") refl refl;
}

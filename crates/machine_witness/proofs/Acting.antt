-- Each act does its step.
use Rattle.std.proofs.Common.{◌≡◌, ℕ, [], ◌∷◌, inl, inr, Some, None, refl, sym, ◌∙◌, subst}
use Rattle.vet_base.specs.declared.key_id.KeyId.{KeyId}
use Rattle.app_machine.specs.declared.method.Step.{Step}
use Rattle.app_machine.specs.declared.method.Act.TheVariants.{Skip, Join, Move, Blank, New, Fill, Get, Put, GetStatic, PutStatic, TakeResult, TakeException, Go}
use Rattle.app_machine.specs.declared.app.App.{App}
use Rattle.vet_base.specs.Members.{In}
use Rattle.app_machine.specs.Lookups.{step_at, ActAt, Goes, elem_key}
use Rattle.app_machine.specs.Heap.{Value, entry_of, no_element, no_entry}
use Rattle.app_machine.specs.State.{Frame}
use Rattle.app_machine.specs.Local.{AreElements, AreOwnLabels, skips, goes, blanks, moves, takes_result, takes_exception, joins, makes, fills, gets, puts, gets_static, puts_static}
use Rattle.app_machine.specs.Run.{goes_on}
use Rattle.machine_witness.specs.Apps.{main_class, step}
use Rattle.machine_witness.specs.Acts.{acts_app, field_key, ints, frame_at, ActsStep}
use Rattle.std.proofs.lemmas.Option.{none-some}

-- a step is found at its pc, and leads to each next one
pub act_of : {app : App} {method pc : ℕ} (s : Step) → step_at app method pc ≡ Some s → ActAt app method pc s.act
act_of s there = record { step = s; there = there; same = refl }

pub next_of : {app : App} {method pc to : ℕ} (s : Step) → step_at app method pc ≡ Some s → In to s.next → Goes app method pc to
next_of s there next = record { step = s; there = there; next = next }

pub own_labels : (f : Frame) (r : ℕ) → AreOwnLabels f (r ∷ []) (f.registers r).labels
own_labels f r l = (λ h. (r, inl refl, h), λ (x, is, h). by x is h)
  where
    by : (x : ℕ) → In x (r ∷ []) → In l (f.registers x).labels → In l (f.registers r).labels
    by x (inl e) h = subst (λ y. In l (f.registers y).labels) e h
    by x (inr none) h = absurd none

pub no_labels : (f : Frame) → AreOwnLabels f [] []
no_labels f l = (λ h. absurd h, λ (x, is, h). absurd is)

pub elements : (f : Frame) (r : ℕ) → AreElements f (r ∷ []) ((elem_key, f.registers r) ∷ [])
elements f r e = (elim [ inl same ↦ (r, inl refl, same) | inr none ↦ absurd none ], λ (x, is, same). by x is same)
  where
    by : (x : ℕ) → In x (r ∷ []) → ◌≡◌ {A = KeyId × Value} e (elem_key, f.registers x) → In e ((elem_key, f.registers r) ∷ [])
    by x (inl at) same = inl (subst (λ y. ◌≡◌ {A = KeyId × Value} e (elem_key, f.registers y)) at same)
    by x (inr none) same = absurd none

pub acts_step : ActsStep
unfolding acts_app step_at
acts_step w r = record {
  skips = λ lists fs. goes_on (skips (act_of (step 0 Skip (1 ∷ [])) refl) (next_of (step 0 Skip (1 ∷ [])) refl (inl refl)));
  goes = λ lists fs. goes_on (goes (act_of (step 1 Go (2 ∷ 9 ∷ [])) refl) (next_of (step 1 Go (2 ∷ 9 ∷ [])) refl (inl refl)));
  branches = λ lists fs. goes_on (goes (act_of (step 1 Go (2 ∷ 9 ∷ [])) refl) (next_of (step 1 Go (2 ∷ 9 ∷ [])) refl (inr (inl refl))));
  blanks = λ lists fs. goes_on (blanks (act_of (step 2 (Blank (0 ∷ [])) (3 ∷ [])) refl) (next_of (step 2 (Blank (0 ∷ [])) (3 ∷ [])) refl (inl refl)));
  moves = λ lists fs. goes_on (moves (act_of (step 3 (Move (0 ∷ []) 1) (4 ∷ [])) refl) (next_of (step 3 (Move (0 ∷ []) 1) (4 ∷ [])) refl (inl refl)));
  takes_result = λ lists fs. goes_on (takes_result (act_of (step 4 (TakeResult (0 ∷ [])) (5 ∷ [])) refl) (next_of (step 4 (TakeResult (0 ∷ [])) (5 ∷ [])) refl (inl refl)));
  takes_exception = λ lists fs. goes_on (takes_exception (act_of (step 5 (TakeException 0) (6 ∷ [])) refl) (next_of (step 5 (TakeException 0) (6 ∷ [])) refl (inl refl)));
  joins = λ lists fs. goes_on (joins (r 1).labels (act_of (step 6 (Join (0 ∷ []) (1 ∷ [])) (7 ∷ [])) refl) (next_of (step 6 (Join (0 ∷ []) (1 ∷ [])) (7 ∷ [])) refl (inl refl)) (own_labels (frame_at 6 r) 1));
  makes = λ lists fs. goes_on (makes [] (act_of (step 7 (New 0 main_class None) (8 ∷ [])) refl) (next_of (step 7 (New 0 main_class None) (8 ∷ [])) refl (inl refl)) (no_labels (frame_at 7 r)));
  fills = λ lists fs. goes_on (fills ((elem_key, r 1) ∷ []) (act_of (step 8 (Fill (1 ∷ []) ints) (9 ∷ [])) refl) (next_of (step 8 (Fill (1 ∷ []) ints) (9 ∷ [])) refl (inl refl)) (elements (frame_at 8 r) 1));
  gets_element = λ p v place found lists fs. goes_on (gets (act_of (step 9 (Get (0 ∷ []) 1 elem_key) (10 ∷ [])) refl) (next_of (step 9 (Get (0 ∷ []) 1 elem_key) (10 ∷ [])) refl (inl refl)) (entry_of place found));
  gets_no_element = λ lists fs. goes_on (gets (act_of (step 9 (Get (0 ∷ []) 1 elem_key) (10 ∷ [])) refl) (next_of (step 9 (Get (0 ∷ []) 1 elem_key) (10 ∷ [])) refl (inl refl)) (no_element refl));
  gets_field = λ p v place found lists fs. goes_on (gets (act_of (step 10 (Get (0 ∷ []) 1 field_key) (11 ∷ [])) refl) (next_of (step 10 (Get (0 ∷ []) 1 field_key) (11 ∷ [])) refl (inl refl)) (entry_of place found));
  gets_no_field = λ nowhere lists fs. goes_on (gets (act_of (step 10 (Get (0 ∷ []) 1 field_key) (11 ∷ [])) refl) (next_of (step 10 (Get (0 ∷ []) 1 field_key) (11 ∷ [])) refl (inl refl)) (no_entry (λ p v place found. none-some p (sym nowhere ∙ place))));
  puts = λ lists fs. goes_on (puts (act_of (step 11 (Put 0 field_key 1) (12 ∷ [])) refl) (next_of (step 11 (Put 0 field_key 1) (12 ∷ [])) refl (inl refl)));
  gets_static = λ lists fs. goes_on (gets_static (act_of (step 12 (GetStatic (0 ∷ []) 0) (13 ∷ [])) refl) (next_of (step 12 (GetStatic (0 ∷ []) 0) (13 ∷ [])) refl (inl refl)));
  puts_static = λ lists fs. goes_on (puts_static (act_of (step 13 (PutStatic 0 1) (14 ∷ [])) refl) (next_of (step 13 (PutStatic 0 1) (14 ∷ [])) refl (inl refl)));
  makes_array = λ lists fs. goes_on (makes (r 1).labels (act_of (step 14 (New 0 ints (Some 1)) (15 ∷ [])) refl) (next_of (step 14 (New 0 ints (Some 1)) (15 ∷ [])) refl (inl refl)) (own_labels (frame_at 14 r) 1));
}

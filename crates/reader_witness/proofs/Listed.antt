-- What an index of the small method lists.
use Rattle.std.proofs.Common.{◌≡◌, ◌≢◌, ℕ, [], ◌∷◌, true, inl, inr, Some, None, refl, sym, subst, arith}
use Rattle.std.specs.Prelude.{IsFalse}
use Rattle.std.specs.List.{AllByRecursion}
use Rattle.vet_base.specs.Members.{In}
use Rattle.app_machine.specs.declared.call.CallKind.TheVariants.{Static}
use Rattle.app_machine.specs.declared.method.Step.{Step}
use Rattle.app_machine.specs.declared.method.Act.{Act}
use Rattle.app_machine.specs.declared.method.Act.TheVariants.{Move, New, Put, Call, Return, TakeResult, TakeException}
use Rattle.app_machine.specs.Lookups.{step_at, ActAt, Goes, elem_key}
use Rattle.app_machine.specs.State.{result_register, exception_register}
use Rattle.app_machine.specs.Local.{writes}
use Rattle.machine_witness.specs.Apps.{post, step}
use Rattle.machine_witness.specs.Acts.{ints}
use Rattle.machine_witness.specs.Flows.{created_by, tries, activity_of}
use Rattle.machine_witness.proofs.Acting.{act_of, next_of}
use Rattle.cell_rules.specs.Reading.{ReadAt, read_here, read_next, read_caught}
use Rattle.register_readers.specs.Asked.{IsAsked, at_entry, behind, result_behind, at_handler}
use Rattle.register_readers.specs.Readings.{Readings, readers_from, AreReaders}
use Rattle.reader_witness.specs.Listed.{asking_steps, asking_app, ReadersAreListed}
use Rattle.reader_witness.proofs.Reached.{never, same_act, steps_are}

abbrev first_post : Step
first_post = tries 1 (Call Static post (0 ∷ [])) (2 ∷ []) (5 ∷ [])

abbrev second_post : Step
second_post = tries 5 (Call Static post (0 ∷ [])) (6 ∷ []) (7 ∷ [])

-- where readers are asked for
asked_behind_new : IsAsked asking_app 0 0 1
unfolding activity_of step_at
asked_behind_new = behind {pc = 0} (act_of (step 0 (New 0 ints None) (1 ∷ [])) refl) (inl refl) (next_of (step 0 (New 0 ints None) (1 ∷ [])) refl (inl refl))

asked_behind_move : IsAsked asking_app 0 1 3
unfolding activity_of step_at
asked_behind_move = behind {pc = 2} (act_of (step 2 (Move (1 ∷ []) 0) (3 ∷ [])) refl) (inl refl) (next_of (step 2 (Move (1 ∷ []) 0) (3 ∷ [])) refl (inl refl))

asked_in_handler : IsAsked asking_app 0 exception_register 5
unfolding activity_of step_at
asked_in_handler = at_handler {pc = 1} refl (record { step = first_post; there = refl; catch = inl refl })

asked_at_entry : IsAsked asking_app 0 3 0
unfolding activity_of
asked_at_entry = at_entry {m = created_by asking_steps} {i = 0} (record { there = refl; code = refl }) (omega arith) refl

-- where the registers are read
read_1 : ReadAt asking_app 0 0 1 1
unfolding activity_of step_at
read_1 = read_here (act_of first_post refl) (inl refl)

read_2 : ReadAt asking_app 0 0 1 2
unfolding activity_of step_at
read_2 = read_next (act_of first_post refl) refl (next_of first_post refl (inl refl)) (read_here (act_of (step 2 (Move (1 ∷ []) 0) (3 ∷ [])) refl) (inl refl))

in_handler : {u : ℕ} → ReadAt asking_app 0 0 5 u → ReadAt asking_app 0 0 1 u
unfolding activity_of step_at
in_handler more = read_caught refl (record { step = first_post; there = refl; catch = inl refl }) more

read_5 : ReadAt asking_app 0 0 5 5
unfolding activity_of step_at
read_5 = read_here (act_of second_post refl) (inl refl)

read_8 : ReadAt asking_app 0 0 5 8
unfolding activity_of step_at
read_8 =
    read_next (act_of second_post refl) refl (next_of second_post refl (inl refl))
    (read_next (act_of (step 6 (TakeException 1) (8 ∷ [])) refl) refl (next_of (step 6 (TakeException 1) (8 ∷ [])) refl (inl refl))
    (read_here (act_of (step 8 (Return (Some 0)) []) refl) (inl refl)))

read_exception : ReadAt asking_app 0 exception_register 5 6
unfolding activity_of step_at
read_exception = read_next (act_of second_post refl) refl (next_of second_post refl (inl refl)) (read_here (act_of (step 6 (TakeException 1) (8 ∷ [])) refl) (inl refl))

read_size : ReadAt asking_app 0 1 3 3
unfolding activity_of step_at
read_size = read_here (act_of (step 3 (New 0 ints (Some 1)) (4 ∷ [])) refl) (inl refl)

read_argument : ReadAt asking_app 0 3 0 4
unfolding activity_of step_at
read_argument =
    read_next (act_of (step 0 (New 0 ints None) (1 ∷ [])) refl) refl (next_of (step 0 (New 0 ints None) (1 ∷ [])) refl (inl refl))
    (read_next (act_of first_post refl) refl (next_of first_post refl (inl refl))
    (read_next (act_of (step 2 (Move (1 ∷ []) 0) (3 ∷ [])) refl) refl (next_of (step 2 (Move (1 ∷ []) 0) (3 ∷ [])) refl (inl refl))
    (read_next (act_of (step 3 (New 0 ints (Some 1)) (4 ∷ [])) refl) refl (next_of (step 3 (New 0 ints (Some 1)) (4 ∷ [])) refl (inl refl))
    (read_here (act_of (step 4 (Put 0 elem_key 3) (9 ∷ [])) refl) (inr (inl refl))))))

asked_behind_call : IsAsked asking_app 0 result_register 2
unfolding activity_of step_at
asked_behind_call = behind {pc = 1} (act_of first_post refl) (inl refl) (next_of first_post refl (inl refl))

asked_behind_any : IsAsked asking_app 0 result_register 3
unfolding activity_of step_at
asked_behind_any = result_behind {pc = 2} refl (next_of (step 2 (Move (1 ∷ []) 0) (3 ∷ [])) refl (inl refl))

result_on : ReadAt asking_app 0 result_register 3 9
unfolding activity_of step_at
result_on =
    read_next (act_of (step 3 (New 0 ints (Some 1)) (4 ∷ [])) refl) refl (next_of (step 3 (New 0 ints (Some 1)) (4 ∷ [])) refl (inl refl))
    (read_next (act_of (step 4 (Put 0 elem_key 3) (9 ∷ [])) refl) refl (next_of (step 4 (Put 0 elem_key 3) (9 ∷ [])) refl (inl refl))
    (read_here (act_of (step 9 (TakeResult (2 ∷ [])) (8 ∷ [])) refl) (inl refl)))

result_from : ReadAt asking_app 0 result_register 2 9
unfolding activity_of step_at
result_from = read_next (act_of (step 2 (Move (1 ∷ []) 0) (3 ∷ [])) refl) refl (next_of (step 2 (Move (1 ∷ []) 0) (3 ∷ [])) refl (inl refl)) result_on

-- and where not: only a step that writes register 0 goes to 4, and no handler is there
abbrev WritesBefore4 : Step → Type 0
WritesBefore4 s = In 4 s.next → writes s.act 0 ≡ true

only : {A : Type 0} (a b : ℕ) → a ≢ b → In a (b ∷ []) → A
only a b apart (inl same) = absurd (apart same)
only a b apart (inr none) = absurd none

writes_before : AllByRecursion WritesBefore4 asking_steps
writes_before = (
  λ h. only 4 1 (λ e. omega arith) h,
  (
    λ h. only 4 2 (λ e. omega arith) h,
    (
      λ h. only 4 3 (λ e. omega arith) h,
      (
        λ h. refl,
        (
          λ h. only 4 9 (λ e. omega arith) h,
          (λ h. only 4 6 (λ e. omega arith) h, (λ h. only 4 8 (λ e. omega arith) h, (λ h. only 4 8 (λ e. omega arith) h, (λ h. absurd h, (λ h. only 4 8 (λ e. omega arith) h, tt))))),
        ),
      ),
    ),
  ),
)

no_handler_4 : AllByRecursion (λ (s : Step). In 4 s.catches → ⊥) asking_steps
no_handler_4 =
    (λ h. h, (λ h. only 4 5 (λ e. omega arith) h, (λ h. h, (λ h. h, (λ h. h, (λ h. only 4 7 (λ e. omega arith) h, (λ h. h, (λ h. h, (λ h. h, (λ h. h, tt))))))))))

-- no step goes to 7
no_next_7 : AllByRecursion (λ (s : Step). In 7 s.next → ⊥) asking_steps
no_next_7 = (
  λ h. only 7 1 (λ e. omega arith) h,
  (
    λ h. only 7 2 (λ e. omega arith) h,
    (
      λ h. only 7 3 (λ e. omega arith) h,
      (
        λ h. only 7 4 (λ e. omega arith) h,
        (
          λ h. only 7 9 (λ e. omega arith) h,
          (λ h. only 7 6 (λ e. omega arith) h, (λ h. only 7 8 (λ e. omega arith) h, (λ h. only 7 8 (λ e. omega arith) h, (λ h. h, (λ h. only 7 8 (λ e. omega arith) h, tt))))),
        ),
      ),
    ),
  ),
)

not_to_4 : (v : ℕ) (act : Act) → ActAt asking_app 0 v act → IsFalse (writes act 0) → Goes asking_app 0 v 4 → ⊥
not_to_4 v act at other goes =
    let written : writes act 0 ≡ true = subst (λ a. writes a 0 ≡ true) (same_act at goes) (steps_are asking_steps WritesBefore4 writes_before 0 v goes.there goes.next) in
    let kept = other in
    let none : ⊥ = cc in
    none

not_read_4 : ReadAt asking_app 0 0 1 4 → ⊥
not_read_4 read =
    never asking_app 0 0 4 not_to_4 (λ v other caught. steps_are asking_steps (λ (s : Step). In 4 s.catches → ⊥) no_handler_4 0 v caught.there caught.catch) 1 4 read (λ e. omega arith) refl

not_read_7 : ReadAt asking_app 0 exception_register 5 7 → ⊥
not_read_7 read =
    never asking_app 0 exception_register 7 (λ v act at other goes. steps_are asking_steps (λ (s : Step). In 7 s.next → ⊥) no_next_7 0 v goes.there goes.next)
    (λ v other caught. let same = other in let none : ⊥ = cc in none) 5 7 read (λ e. omega arith) refl

module _ (readings : Readings) (is : readings.app ≡ asking_app) (are : AreReaders readings) where
  lists : (r pc u : ℕ) → IsAsked asking_app 0 r pc → ReadAt asking_app 0 r pc u → In u (readers_from readings 0 r pc)
  lists r pc u asked read = are.complete 0 r pc u (subst (λ app. IsAsked app 0 r pc) (sym is) asked) (subst (λ app. ReadAt app 0 r pc u) (sym is) read)

  listed : (r pc u : ℕ) → In u (readers_from readings 0 r pc) → ReadAt asking_app 0 r pc u
  listed r pc u at = subst (λ app. ReadAt app 0 r pc u) is (are.sound 0 r pc u at)

pub readers_are_listed : ReadersAreListed
readers_are_listed readings is are = record {
  first = lists readings is are 0 1 1 asked_behind_new read_1;
  behind_a_reader = lists readings is are 0 1 2 asked_behind_new read_2;
  not_past_a_write = λ at. not_read_4 (listed readings is are 0 1 4 at);
  along_a_handler = lists readings is are 0 1 5 asked_behind_new (in_handler read_5);
  behind_a_handler = lists readings is are 0 1 8 asked_behind_new (in_handler read_8);
  of_exception = lists readings is are exception_register 5 6 asked_in_handler read_exception;
  not_in_its_handler = λ at. not_read_7 (listed readings is are exception_register 5 7 at);
  as_a_size = lists readings is are 1 3 3 asked_behind_move read_size;
  of_result = lists readings is are result_register 2 9 asked_behind_call result_from;
  of_result_later = lists readings is are result_register 3 9 asked_behind_any result_on;
  of_an_argument = lists readings is are 3 0 4 asked_at_entry read_argument;
}

-- Where registers are read in the small method, and where they are not.
use Rattle.std.proofs.Common.{◌≡◌, ◌≢◌, ◌==◌, ℕ, [], ◌∷◌, true, inl, inr, Some, refl, ap, sym, ◌∙◌, subst, arith}
use Rattle.std.specs.Prelude.{IsFalse}
use Rattle.std.specs.List.{AllByRecursion}
use Rattle.std.proofs.lemmas.Option.{same_Some}
use Rattle.vet_base.specs.Members.{In}
use Rattle.app_machine.specs.declared.call.CallKind.TheVariants.{Static}
use Rattle.app_machine.specs.declared.method.Step.{Step}
use Rattle.app_machine.specs.declared.method.Act.{Act}
use Rattle.app_machine.specs.declared.method.Act.TheVariants.{Skip, Move, New, Call, Return, TakeException}
use Rattle.app_machine.specs.Lookups.{step_at, ActAt, Goes, Catches}
use Rattle.app_machine.specs.State.{exception_register}
use Rattle.app_machine.specs.Local.{writes}
use Rattle.machine_witness.specs.Apps.{post, step}
use Rattle.machine_witness.specs.Acts.{ints}
use Rattle.machine_witness.specs.Flows.{tries, activity_of}
use Rattle.machine_witness.proofs.Acting.{act_of, next_of}
use Rattle.cell_rules.specs.Reading.{ReadAt, read_here, read_next, read_caught}
use Rattle.cell_witness.specs.Readers.{reading_steps, reading_app, RegistersAreRead}
use Rattle.cell_witness.proofs.Scenes.{steps_are}

-- Where a register goes on only by steps and handlers that do not come to the place, it is not read there.
module _ (method r place : ℕ) (no_next : (v : ℕ) (act : Act) → ActAt reading_app method v act → IsFalse (writes act r) → Goes reading_app method v place → ⊥) (no_handler : (v : ℕ) → IsFalse (r == exception_register) → Catches reading_app method v place → ⊥) where
  never : (v u : ℕ) → ReadAt reading_app method r v u → v ≢ place → u ≢ place
  never v u (read_here at read) apart = apart
  never v u (read_next {next = next} {act = act} at other goes more) apart =
      never next u more (λ same. no_next v act at other (subst (λ x. Goes reading_app method v x) same goes))
  never v u (read_caught {next = next} other caught more) apart =
      never next u more (λ same. no_handler v other (subst (λ x. Catches reading_app method v x) same caught))

-- only the step that writes register 0 goes to 4
abbrev WritesBefore4 : Step → Type 0
WritesBefore4 s = In 4 s.next → writes s.act 0 ≡ true

apart_from : {A : Type 0} (a b : ℕ) → a ≢ b → In a (b ∷ []) → A
apart_from a b apart (inl same) = absurd (apart same)
apart_from a b apart (inr none) = absurd none

writes_before : AllByRecursion WritesBefore4 reading_steps
writes_before = (
  λ h. apart_from 4 1 (λ e. omega arith) h,
  (
    λ h. apart_from 4 2 (λ e. omega arith) h,
    (
      λ h. apart_from 4 3 (λ e. omega arith) h,
      (λ h. refl, (λ h. absurd h, (λ h. apart_from 4 6 (λ e. omega arith) h, (λ h. absurd h, tt)))),
    ),
  ),
)

-- no handler is at 4, and no step goes to 5
no_handler_4 : AllByRecursion (λ (s : Step). In 4 s.catches → ⊥) reading_steps
no_handler_4 = (λ h. h, (λ h. apart_from 4 5 (λ e. omega arith) h, (λ h. h, (λ h. h, (λ h. h, (λ h. h, (λ h. h, tt)))))))

no_next_5 : AllByRecursion (λ (s : Step). In 5 s.next → ⊥) reading_steps
no_next_5 = (
  λ h. apart_from 5 1 (λ e. omega arith) h,
  (
    λ h. apart_from 5 2 (λ e. omega arith) h,
    (
      λ h. apart_from 5 3 (λ e. omega arith) h,
      (λ h. apart_from 5 4 (λ e. omega arith) h, (λ h. h, (λ h. apart_from 5 6 (λ e. omega arith) h, (λ h. h, tt)))),
    ),
  ),
)

-- the step that goes is the one that acts
one_step : {method v to : ℕ} {act : Act} → ActAt reading_app method v act → (goes : Goes reading_app method v to) → goes.step.act ≡ act
one_step at goes = ap (λ (s : Step). s.act) (same_Some _ _ (sym goes.there ∙ at.there)) ∙ at.same

not_to_4 : (v : ℕ) (act : Act) → ActAt reading_app 0 v act → IsFalse (writes act 0) → Goes reading_app 0 v 4 → ⊥
not_to_4 v act at other goes =
    let written : writes act 0 ≡ true = subst (λ a. writes a 0 ≡ true) (one_step at goes) (steps_are reading_steps WritesBefore4 writes_before 0 v goes.there goes.next) in
    let kept = other in
    let none : ⊥ = cc in
    none

here_1 : ReadAt reading_app 0 0 1 1
unfolding activity_of step_at
here_1 = read_here (act_of (tries 1 (Call Static post (0 ∷ [])) (2 ∷ []) (5 ∷ [])) refl) (inl refl)

from_0 : {u : ℕ} → ReadAt reading_app 0 0 1 u → ReadAt reading_app 0 0 0 u
unfolding activity_of step_at
from_0 more = read_next (act_of (step 0 Skip (1 ∷ [])) refl) refl (next_of (step 0 Skip (1 ∷ [])) refl (inl refl)) more

behind_reader : ReadAt reading_app 0 0 1 2
unfolding activity_of step_at
behind_reader =
    read_next (act_of (tries 1 (Call Static post (0 ∷ [])) (2 ∷ []) (5 ∷ [])) refl) refl (next_of (tries 1 (Call Static post (0 ∷ [])) (2 ∷ []) (5 ∷ [])) refl (inl refl))
    (read_here (act_of (step 2 (Move (1 ∷ []) 0) (3 ∷ [])) refl) (inl refl))

by_handler : ReadAt reading_app 0 0 1 6
unfolding activity_of step_at
by_handler =
    read_caught refl (record { step = tries 1 (Call Static post (0 ∷ [])) (2 ∷ []) (5 ∷ []); there = refl; catch = inl refl })
    (read_next (act_of (step 5 (TakeException 1) (6 ∷ [])) refl) refl (next_of (step 5 (TakeException 1) (6 ∷ [])) refl (inl refl))
    (read_here (act_of (step 6 (Return (Some 0)) []) refl) (inl refl)))

exception_here : ReadAt reading_app 0 exception_register 5 5
unfolding activity_of step_at
exception_here = read_here (act_of (step 5 (TakeException 1) (6 ∷ [])) refl) (inl refl)

size_here : ReadAt reading_app 0 1 3 3
unfolding activity_of step_at
size_here = read_here (act_of (step 3 (New 0 ints (Some 1)) (4 ∷ [])) refl) (inl refl)

pub registers_are_read : RegistersAreRead
registers_are_read = record {
  here = here_1;
  later = from_0 here_1;
  behind_a_reader = from_0 behind_reader;
  not_past_a_write = λ read.
      never 0 0 4 not_to_4 (λ v other caught. steps_are reading_steps (λ (s : Step). In 4 s.catches → ⊥) no_handler_4 0 v caught.there caught.catch) 0 4 read (λ e. omega arith) refl;
  along_a_handler = from_0 by_handler;
  exception_is_read = exception_here;
  not_along_a_handler = λ read.
      never 0 exception_register 5 (λ v act at other goes. steps_are reading_steps (λ (s : Step). In 5 s.next → ⊥) no_next_5 0 v goes.there goes.next) (λ v other caught. let same = other in let none : ⊥ = cc in none) 0 5 read (λ e. omega arith) refl;
  as_a_size = size_here;
}

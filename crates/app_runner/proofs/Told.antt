-- What is told of a run, step by step.
use Rattle.std.proofs.Common.{◌≡◌, ℕ, zero, suc, List, [], ◌∷◌, length, Some, None, refl, ap, ◌∙◌}
use Rattle.app_machine.specs.declared.app.App.{App}
use Rattle.app_machine.specs.declared.lists.Lists.{Lists}
use Rattle.app_machine.specs.State.{Arrival}
use Rattle.played_alike.specs.Alike.{AlikePlaying, Pairwise}
use Rattle.played_alike.specs.Laws.{AlikeStatesDrawAlike}
use Rattle.played_alike.proofs.Pairs.{pair_length}
use Rattle.played_machine.specs.Drawn.{and_after, drawn_step, drawn_within}
use Rattle.played_machine.specs.Local.{Playing}
use Rattle.played_machine.specs.Standing.{Stand, stands_of}
use Rattle.app_runner.specs.Told.{TellsFrom, last_of}

module _ (alike : AlikeStatesDrawAlike) (app : App) (lists : Lists) where
  alike_last : (s t : Playing) (ss ts : List Playing) → AlikePlaying s t → Pairwise AlikePlaying ss ts → AlikePlaying (last_of s ss) (last_of t ts)
  alike_last s t [] [] same pairs = same
  alike_last s t [] (y ∷ ts) same pairs = absurd pairs
  alike_last s t (x ∷ ss) [] same pairs = absurd pairs
  alike_last s t (x ∷ ss) (y ∷ ts) same pairs = alike_last x y ss ts pairs.0 pairs.1

  -- of alike states the same is told
  pub told_alike : (s t : Playing) (bytes : List ℕ) (n steps : ℕ) (arrivals : List Arrival) (stands : List Stand) → AlikePlaying s t → TellsFrom app lists t bytes n steps arrivals stands → TellsFrom app lists s bytes n steps arrivals stands
  told_alike s t bytes n steps arrivals stands same tells =
      let pairs = (alike app lists s t same).run n bytes in
      let last = alike_last s t (drawn_within n app lists s bytes) (drawn_within n app lists t bytes) same pairs in
      record {
        steps_made = pair_length AlikePlaying (drawn_within n app lists s bytes) (drawn_within n app lists t bytes) pairs ∙ tells.steps_made;
        arrived = last.world.arrivals ∙ tells.arrived;
        stands_here = (alike app lists (last_of s (drawn_within n app lists s bytes)) (last_of t (drawn_within n app lists t bytes)) last).stands ∙ tells.stands_here;
      }

  -- a step more
  pub told_step : (s t : Playing) (bytes rest : List ℕ) (n steps : ℕ) (arrivals : List Arrival) (stands : List Stand) → drawn_step app lists s bytes ≡ Some (t, rest) → TellsFrom app lists t rest n steps arrivals stands → TellsFrom app lists s bytes (suc n) (suc steps) arrivals stands
  told_step s t bytes rest n steps arrivals stands is tells =
      let states : drawn_within (suc n) app lists s bytes ≡ t ∷ drawn_within n app lists t rest = ap (and_after (drawn_within n app lists)) is in
      record {
        steps_made = ap length states ∙ ap suc tells.steps_made;
        arrived = ap (λ ss. (last_of s ss).world.arrivals) states ∙ tells.arrived;
        stands_here = ap (λ ss. stands_of app lists (last_of s ss).world (last_of s ss).frames) states ∙ tells.stands_here;
      }

  -- no step
  pub told_end : (s : Playing) (bytes : List ℕ) (n : ℕ) → drawn_step app lists s bytes ≡ None → TellsFrom app lists s bytes n 0 s.world.arrivals (stands_of app lists s.world s.frames)
  told_end s bytes zero none = record { steps_made = refl; arrived = refl; stands_here = refl }
  told_end s bytes (suc n) none =
      let states : drawn_within (suc n) app lists s bytes ≡ [] = ap (and_after (drawn_within n app lists)) none in
      record {
        steps_made = ap length states;
        arrived = ap (λ ss. (last_of s ss).world.arrivals) states;
        stands_here = ap (λ ss. stands_of app lists (last_of s ss).world (last_of s ss).frames) states;
      }

  pub told_out : (s : Playing) (bytes : List ℕ) → TellsFrom app lists s bytes 0 0 s.world.arrivals (stands_of app lists s.world s.frames)
  told_out s bytes = record { steps_made = refl; arrived = refl; stands_here = refl }

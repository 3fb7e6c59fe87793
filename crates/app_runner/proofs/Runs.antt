-- A run, turn by turn.
use Rattle.std.proofs.Common.{◌≡◌, ℕ, suc, ◌+◌, ◌-◌, ◌<◌, ◌≤◌, List, length, Some, None, sym, ap, ◌∙◌, subst, arith}
use Rattle.app_machine.specs.declared.app.App.{App}
use Rattle.app_machine.specs.declared.lists.Lists.{Lists}
use Rattle.app_machine.specs.State.{Arrival}
use Rattle.app_runner.specs.declared.stepping.Known.{Known}
use Rattle.app_runner.specs.Known.{Serves}
use Rattle.app_runner.specs.Told.{RunsTo, TellsFrom}
use Rattle.app_runner.proofs.Told.{told_alike, told_end, told_out, told_step}
use Rattle.played_alike.specs.Laws.{AlikeStatesDrawAlike}
use Rattle.played_machine.specs.Drawn.{drawn_step}
use Rattle.played_machine.specs.Local as local
use Rattle.played_machine.specs.Standing.{Stand, stands_of}
use Rattle.runner_state.specs.declared.script.Script.{Script}
use Rattle.runner_steps.specs.declared.ground.Ground.{Ground}
use Rattle.runner_steps.specs.declared.playing.Playing.{Playing}
use Rattle.runner_steps.specs.State.{Makes, playing_in}

-- what is told from here, by the bytes that are left, is told from the start, with the turns so far
pub record SoFar (app : App) (lists : Lists) (start : local.Playing) (script : List ℕ) (now : local.Playing) (left : List ℕ) (turn : ℕ) : Type 0 where
  pub tells : (k : ℕ) (arrivals : List Arrival) (stands : List Stand) → TellsFrom app lists now left (length script - turn) k arrivals stands → TellsFrom app lists start script (length script) (turn + k) arrivals stands

module _ (app : App) (lists : Lists) (start : local.Playing) (script : List ℕ) where
  pub at_start : SoFar app lists start script start script 0
  at_start = record {
    tells = λ k arrivals stands tells.
        let all : length script - 0 ≡ length script = omega arith in
        let same : k ≡ 0 + k = omega arith in
        subst (λ m. TellsFrom app lists start script (length script) m arrivals stands) same (subst (λ n. TellsFrom app lists start script n k arrivals stands) all tells);
  }

  module _ (now : local.Playing) (left : List ℕ) (turn : ℕ) (so_far : SoFar app lists start script now left turn) where
    pub one_turn : AlikeStatesDrawAlike → (new : local.Playing) (rest : Script) → turn < length script → Makes (drawn_step app lists now left) now new (Some rest) → SoFar app lists start script new rest.left.now (turn + 1)
    one_turn alike new rest within made = record {
      tells = λ k arrivals stands tells.
          let fewer : suc (length script - (turn + 1)) ≡ length script - turn = omega (arith, within) in
          let more : turn + suc k ≡ turn + 1 + k = omega arith in
          subst (λ m. TellsFrom app lists start script (length script) m arrivals stands) more (so_far.tells (suc k) arrivals stands
          (subst (λ n. TellsFrom app lists now left n (suc k) arrivals stands) fewer
          (told_step alike app lists now made.0 left rest.left.now (length script - (turn + 1)) k arrivals stands made.1
          (told_alike alike app lists made.0 new rest.left.now (length script - (turn + 1)) k arrivals stands made.2 tells))));
    }

    pub no_turn : AlikeStatesDrawAlike → (new : local.Playing) → Makes (drawn_step app lists now left) now new None → RunsTo app lists start script turn new
    no_turn alike new made =
        let same : turn + 0 ≡ turn = omega arith in
        subst (λ (s : local.Playing). RunsTo app lists start script turn s) (sym made.1)
        (subst (λ m. TellsFrom app lists start script (length script) m now.world.arrivals (stands_of app lists now.world now.frames)) same
        (so_far.tells 0 now.world.arrivals (stands_of app lists now.world now.frames) (told_end alike app lists now left (length script - turn) made.0)))

    pub past_end : AlikeStatesDrawAlike → length script ≤ turn → turn ≤ length script → RunsTo app lists start script (length script) now
    past_end alike past within =
        let none : 0 ≡ length script - turn = omega (arith, past) in
        let same : turn + 0 ≡ length script = omega (arith, past, within) in
        subst (λ m. TellsFrom app lists start script (length script) m now.world.arrivals (stands_of app lists now.world now.frames)) same
        (so_far.tells 0 now.world.arrivals (stands_of app lists now.world now.frames)
        (subst (λ n. TellsFrom app lists now left n 0 now.world.arrivals (stands_of app lists now.world now.frames)) none (told_out alike app lists now left)))

-- the index of the two
pub both : (app : App) (lists : Lists) (index : App × Lists) → index.0 ≡ app → index.1 ≡ lists → index ≡ (app, lists)
both app lists (a, ls) one other = ap (λ (x : App). (x, ls)) one ∙ ap (λ (y : Lists). (app, y)) other

-- the same of the state and what is known beside it
pub record Turns (ground : Ground) (start : Playing) (script : List ℕ) (now : Playing) (known : Known) (left : List ℕ) (turn : ℕ) : Type 0 where
  pub so_far : SoFar ground.app.now ground.lists.now (playing_in start) script (playing_in now) left turn
  pub serves : Serves ground (playing_in now).world known

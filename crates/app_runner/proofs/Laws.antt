-- What is told is told of the last state.
use Rattle.std.proofs.Common.{ℕ, List, [], ◌∷◌, inl, inr, refl, sym, ◌∙◌, subst}
use Rattle.vet_base.specs.Members.{In}
use Rattle.app_machine.specs.declared.app.App.{App}
use Rattle.app_machine.specs.declared.lists.Lists.{Lists}
use Rattle.app_machine.specs.declared.papers.Declaration.{Declaration}
use Rattle.app_machine.specs.Safe.{Safe}
use Rattle.app_machine.specs.Sound.{SoundApp}
use Rattle.app_machine.specs.SoundLists.{SoundLists}
use Rattle.app_runner.specs.declared.running.Played.{Played}
use Rattle.app_runner.specs.Laws.{IsOfRun, IsQuiet}
use Rattle.app_runner.specs.Played.{Tells, final, states}
use Rattle.app_runner.specs.Told.{last_of}
use Rattle.played_machine.specs.Drawn.{drawn, start}
use Rattle.played_machine.specs.Laws.{DrawnIsRun, SafeAppsAreQuiet, StandsAreExact}
use Rattle.played_machine.specs.Local.{Playing}
use Rattle.runner_stands.specs.Stands.{stand_at}

last_in : (s : Playing) (ss : List Playing) → In (last_of s ss) (s ∷ ss)
last_in s [] = inl refl
last_in s (t ∷ ts) = inr (last_in t ts)

final_drawn : (app : App) (lists : Lists) (script : List ℕ) → In (final app lists script) (drawn app lists script)
unfolding drawn
final_drawn app lists script = last_in start (states app lists script)

module _ (app : App) (lists : Lists) (sound : SoundApp app) (sound_lists : SoundLists lists) (script : List ℕ) (played : Played) (tells : Tells app lists script played) where
  pub is_run : DrawnIsRun → StandsAreExact → IsOfRun app lists played
  is_run runs exact = record {
    world = (final app lists script).world;
    frames = (final app lists script).frames;
    run = runs app lists sound sound_lists script (final app lists script) (final_drawn app lists script);
    arrivals = tells.arrivals;
    stands = λ method pc cause.
        let same = exact app lists sound (final app lists script).world (final app lists script).frames method pc cause in
        (λ h. same.0 (subst (In (stand_at method pc cause)) tells.stands h), λ stands. subst (In (stand_at method pc cause)) (sym tells.stands) (same.1 stands));
  }

  pub is_quiet : SafeAppsAreQuiet → (declaration : Declaration) → Safe app lists declaration → IsQuiet lists declaration played
  is_quiet quiet declaration safe =
      let state = quiet app lists declaration sound sound_lists safe script (final app lists script) (final_drawn app lists script) in
      record { declared = λ a h. state.declared a (subst (In a) tells.arrivals h); never_stands = tells.stands ∙ state.never_stands }

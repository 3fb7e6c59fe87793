-- Alike states stand at the same places.
use Rattle.std.proofs.Common.{◌≡◌, ℕ, List, [], ◌∷◌, ◌++◌, map, filter, flat_map, Option, Some, None, refl, ap, ◌∙◌, subst}
use Rattle.std.specs.List.{list_any}
use Rattle.app_machine.specs.declared.app.App.{App}
use Rattle.app_machine.specs.declared.lists.Lists.{Lists}
use Rattle.app_machine.specs.declared.method.Act.{Act}
use Rattle.app_machine.specs.declared.method.Act.TheVariants.{Skip, Join, Move, Blank, New, Fill, Get, Put, GetStatic, PutStatic, Call, Return, Throw, TakeResult, TakeException, Go}
use Rattle.app_machine.specs.declared.method.Step.{Step}
use Rattle.app_machine.specs.Lookups.{step_at, initialisers}
use Rattle.app_machine.specs.Safe.{native}
use Rattle.app_machine.specs.State.{World, Frame}
use Rattle.played_machine.specs.Calling.{is_native_body}
use Rattle.played_machine.specs.Coming.{Event, Receives, Initialiser, events}
use Rattle.played_machine.specs.Local.{Playing}
use Rattle.played_machine.specs.Ordered.{ascending}
use Rattle.played_machine.specs.Standing.{Stand, if_native_then, causes_of_target, causes_of_call, causes_at, body_of, stands_of}
use Rattle.played_alike.specs.Alike.{Pairwise, AlikeFrame, AlikeFrames, AlikeWorld, AlikePlaying}
use Rattle.played_alike.specs.Laws.{DrawnAlike}
use Rattle.played_alike.proofs.Events.{AlikeEvent, alike_events}
use Rattle.played_alike.proofs.Local.{same_step}
use Rattle.played_alike.proofs.Step.{same_target, alike_step, alike_run}

same_body : (e e' : Event) → AlikeEvent e e' → body_of e ≡ body_of e'
same_body (Receives body place sources w) (Receives body' place' sources' w') same = by_body body body' same.0
  where
    by_body : (o q : Option ℕ) → o ≡ q → body_of (Receives o place sources w) ≡ body_of (Receives q place' sources' w')
    by_body o q is = subst (λ z. body_of (Receives o place sources w) ≡ body_of (Receives z place' sources' w')) is (either o)
      where
        either : (z : Option ℕ) → body_of (Receives z place sources w) ≡ body_of (Receives z place' sources' w')
        either None = refl
        either (Some b) = refl
same_body (Receives body place sources w) (Initialiser body') same = absurd same
same_body (Initialiser body) (Receives body' place' sources' w') same = absurd same
same_body (Initialiser body) (Initialiser body') same = ap (λ b. b ∷ []) same

same_bodies : (es es' : List Event) → Pairwise AlikeEvent es es' → flat_map body_of es ≡ flat_map body_of es'
same_bodies [] [] pairs = refl
same_bodies [] (e ∷ es) pairs = absurd pairs
same_bodies (e ∷ es) [] pairs = absurd pairs
same_bodies (e ∷ es) (e' ∷ es') pairs = ap (λ bs. bs ++ flat_map body_of es) (same_body e e' pairs.0) ∙ ap (λ bs. body_of e' ++ bs) (same_bodies es es' pairs.1)

module _ (app : App) (lists : Lists) (w u : World) (alike : AlikeWorld w u) where
  module _ (f g : Frame) (frame : AlikeFrame f g) where
    same_causes : (act : Act) → causes_of_call app lists w f act ≡ causes_of_call app lists u g act
    same_causes (Call kind at args) = ap (causes_of_target app lists kind at) (same_target app w u alike f g frame kind at args)
    same_causes Skip = refl
    same_causes Go = refl
    same_causes (Join ds xs) = refl
    same_causes (Move ds x) = refl
    same_causes (Blank ds) = refl
    same_causes (New r class size) = refl
    same_causes (Fill xs class) = refl
    same_causes (Get ds o k) = refl
    same_causes (Put o k x) = refl
    same_causes (GetStatic ds n) = refl
    same_causes (PutStatic n x) = refl
    same_causes (Return x) = refl
    same_causes (Throw x) = refl
    same_causes (TakeResult ds) = refl
    same_causes (TakeException r) = refl

    causes_there : (o : Option Step) → causes_at app lists w f o ≡ causes_at app lists u g o
    causes_there None = refl
    causes_there (Some s) = ap (λ cs. cs ++ if_native_then (list_any (is_native_body app) (initialisers app s.act))) (same_causes s.act)

    abbrev told : ℕ → ℕ → List ℕ → List Stand
    told method pc causes = map (λ cause. record { cause = cause; method = method; pc = pc }) (ascending causes)

    same_told : told f.method f.pc (causes_at app lists w f (step_at app f.method f.pc)) ≡ told g.method g.pc (causes_at app lists u g (step_at app g.method g.pc))
    same_told =
        ap (λ cs. told f.method f.pc cs) (causes_there (step_at app f.method f.pc) ∙ ap (causes_at app lists u g) (same_step app f g frame))
        ∙ (ap (λ m. told m f.pc (causes_at app lists u g (step_at app g.method g.pc))) frame.method
        ∙ ap (λ pc. told g.method pc (causes_at app lists u g (step_at app g.method g.pc))) frame.pc)

  same_stands : (fs gs : List Frame) → AlikeFrames fs gs → stands_of app lists w fs ≡ stands_of app lists u gs
  unfolding stands_of
  same_stands [] [] frames = ap (λ (bs : List ℕ). map (λ body. record { cause = native; method = body; pc = 0 }) (ascending (filter (is_native_body app) bs))) (same_bodies (events app lists w) (events app lists u) (alike_events app lists w u alike))
  same_stands [] (g ∷ gs) frames = absurd frames
  same_stands (f ∷ fs) [] frames = absurd frames
  same_stands (f ∷ fs) (g ∷ gs) frames = same_told f g frames.0

pub drawn_alike : (app : App) (lists : Lists) (s t : Playing) → AlikePlaying s t → DrawnAlike app lists s t
drawn_alike app lists s t alike = record {
  step = alike_step app lists s t alike;
  run = λ n bytes. alike_run app lists n s t alike bytes;
  stands = same_stands app lists s.world t.world alike.world s.frames t.frames alike.frames;
}

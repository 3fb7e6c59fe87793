-- A library call and how its frame goes on.
use Rattle.std.proofs.Common.{◌≡◌, ◌==◌, ℕ, Bool, true, false, cond, List, ◌∷◌, drop, Option, Some, None, slice_get, refl, sym, ap, ◌∙◌, subst}
use Rattle.app_machine.specs.declared.app.App.{App}
use Rattle.app_machine.specs.declared.lists.Lists.{Lists}
use Rattle.app_machine.specs.Heap.{Value, blank}
use Rattle.app_machine.specs.Library.{positions}
use Rattle.app_machine.specs.State.{World, Frame, result_register, write}
use Rattle.played_alike.specs.Alike.{AlikeFrames, AlikePlaying}
use Rattle.played_machine.specs.Drawing.{Drawing, continue, draw, give, one_of, ◌>>=◌}
use Rattle.played_machine.specs.Local.{Playing, playing, moved, raised}
use Rattle.played_machine.specs.Step.{calls_library, resumes_or_raises}
use Rattle.runner_calls.specs.declared.landing.Landing.{Landing}
use Rattle.runner_calls.specs.Landing.{landed, lands}
use Rattle.runner_calls.proofs.Tied.{raised_is}
use Rattle.runner_library.specs.declared.calling.LibraryCall.{LibraryCall}
use Rattle.runner_library.specs.Call.{row_in, values_in}
use Rattle.runner_library.specs.Whole.{AlikeCall, called, read_for}
use Rattle.runner_library.proofs.Tied.{library_is}
use Rattle.runner_steps.specs.declared.library.After.{After}
use Rattle.runner_steps.specs.declared.library.After.TheVariants.{GoesOn, Raises}
use Rattle.runner_steps.specs.Went.{called_by, called_in, drawn_after, either_way, on_at, raised_to, went}
use Rattle.runner_steps.proofs.Alike.{frames_itself}
use Rattle.runner_steps.proofs.Running.{with_top}

-- how it goes on
pub drawn_none : (app : App) (fs : List Frame) (next bytes : List ℕ) → None ≡ draw 2 bytes → None ≡ drawn_after app fs next bytes
drawn_none app fs next bytes is = ap (continue (either_way app fs next)) is

pub drawn_way : (app : App) (fs : List Frame) (next bytes : List ℕ) (way : ℕ) (left : List ℕ) (o : Option (After × List ℕ)) → Some (way, left) ≡ draw 2 bytes → o ≡ either_way app fs next way left → o ≡ drawn_after app fs next bytes
drawn_way app fs next bytes way left o is same = same ∙ ap (continue (either_way app fs next)) is

pub goes_way : (app : App) (fs : List Frame) (next : List ℕ) (way : ℕ) (left : List ℕ) (b : Bool) (o : Option (After × List ℕ)) → (way == 0) ≡ b → o ≡ (cond b (on_at next) (raised_to app fs)) left → o ≡ either_way app fs next way left
goes_way app fs next way left b o is same = same ∙ ap (λ z. (cond z (on_at next) (raised_to app fs)) left) (sym is)

pub on_none : (next bytes : List ℕ) → None ≡ one_of next bytes → None ≡ on_at next bytes
on_none next bytes is = ap (continue (λ pc. give (GoesOn pc))) is

pub on_some : (next bytes : List ℕ) (pc : ℕ) (left : List ℕ) → Some (pc, left) ≡ one_of next bytes → Some (GoesOn pc, left) ≡ on_at next bytes
on_some next bytes pc left is = ap (continue (λ pc. give (GoesOn pc))) is

pub raises_none : (app : App) (fs : List Frame) (bytes : List ℕ) → None ≡ lands app fs bytes → None ≡ raised_to app fs bytes
raises_none app fs bytes is = ap (continue (λ at. give (Raises at))) is

pub raises_some : (app : App) (fs : List Frame) (bytes : List ℕ) (at : Option Landing) (left : List ℕ) → Some (at, left) ≡ lands app fs bytes → Some (Raises at, left) ≡ raised_to app fs bytes
raises_some app fs bytes at left is = ap (continue (λ at. give (Raises at))) is

-- the call that was given this
pub called_alike : (done : World × Value) (u : World) (v : Value) (fs new : List Frame) (after : After) → AlikeCall done u v → new ≡ went v fs after → AlikePlaying (playing done.0 (went done.1 fs after)) (playing u new)
called_alike done u v fs new after alike made = record {
  world = alike.0;
  frames = subst (λ (gs : List Frame). AlikeFrames (went done.1 fs after) gs) (ap (λ z. went z fs after) alike.1 ∙ sym made) (frames_itself (went done.1 fs after));
}

module _ (app : App) (lists : Lists) (w : World) (call : LibraryCall) (next : List ℕ) (f : Frame) where
  abbrev makes : Value → List Frame → After → Drawing Playing
  makes read fs after = give (called_by app lists w (values_in call f.registers) f.method f.pc call.at.now.proto.ret (row_in call) fs read after)

  module _ (read : Value) (fs : List Frame) (top : Some f ≡ slice_get fs 0) (bytes : List ℕ) where
    of_frames : called_in app lists w call next read f (drop 1 fs) bytes ≡ (drawn_after app fs next >>= makes read fs) bytes
    of_frames = sym (ap (λ gs. (drawn_after app gs next >>= makes read gs) bytes) (with_top fs f top))

    pub called_not : None ≡ drawn_after app fs next bytes → called_in app lists w call next read f (drop 1 fs) bytes ≡ None
    called_not none = of_frames ∙ ap (continue (makes read fs)) (sym none)

    pub called_so : (after : After) (rest : List ℕ) → Some (after, rest) ≡ drawn_after app fs next bytes →
        called_in app lists w call next read f (drop 1 fs) bytes ≡ Some (called_by app lists w (values_in call f.registers) f.method f.pc call.at.now.proto.ret (row_in call) fs read after, rest)
    called_so after rest drawn = of_frames ∙ ap (continue (makes read fs)) (sym drawn)

  -- a library call by its definition
  module _ (fs : List Frame) where
    abbrev done_by : Value → World × Value
    done_by read = called app lists w (values_in call f.registers) f.method f.pc call.at.now.proto.ret (row_in call) read

    by_next : (read : Value) (o : Option (ℕ × List ℕ)) → continue (λ pc. give (playing (done_by read).0 (moved f pc (write f.registers result_register (done_by read).1) ∷ fs))) o ≡ continue (makes read (f ∷ fs)) (continue (λ pc. give (GoesOn pc)) o)
    by_next read None = refl
    by_next read (Some d) = refl

    by_landing : (read : Value) (o : Option (Option Landing × List ℕ)) → continue (λ at. give (playing (done_by read).0 (landed blank (f ∷ fs) at))) o ≡ continue (makes read (f ∷ fs)) (continue (λ at. give (Raises at)) o)
    by_landing read None = refl
    by_landing read (Some d) = refl

    by_test : (read : Value) (way : ℕ) (left : List ℕ) (b : Bool) → (way == 0) ≡ b → resumes_or_raises app (done_by read).0 (done_by read).1 f fs next way left ≡ continue (makes read (f ∷ fs)) (either_way app (f ∷ fs) next way left)
    by_test read way left true is =
        ap (λ z. (cond z (λ bs. continue (λ pc. give (playing (done_by read).0 (moved f pc (write f.registers result_register (done_by read).1) ∷ fs))) (one_of next bs)) (raised app blank (done_by read).0 (f ∷ fs))) left) is
        ∙ (by_next read (one_of next left) ∙ sym (ap (λ z. continue (makes read (f ∷ fs)) ((cond z (on_at next) (raised_to app (f ∷ fs))) left)) is))
    by_test read way left false is =
        ap (λ z. (cond z (λ bs. continue (λ pc. give (playing (done_by read).0 (moved f pc (write f.registers result_register (done_by read).1) ∷ fs))) (one_of next bs)) (raised app blank (done_by read).0 (f ∷ fs))) left) is
        ∙ (raised_is app blank (done_by read).0 (f ∷ fs) left
        ∙ (by_landing read (lands app (f ∷ fs) left) ∙ sym (ap (λ z. continue (makes read (f ∷ fs)) ((cond z (on_at next) (raised_to app (f ∷ fs))) left)) is)))

    by_way : (read : Value) (o : Option (ℕ × List ℕ)) → continue (resumes_or_raises app (done_by read).0 (done_by read).1 f fs next) o ≡ continue (makes read (f ∷ fs)) (continue (either_way app (f ∷ fs) next) o)
    by_way read None = refl
    by_way read (Some d) = by_test read d.0 d.1 (d.0 == 0) refl

    by_read : (o : Option (Value × List ℕ)) → continue (λ (done : World × Value). draw 2 >>= resumes_or_raises app done.0 done.1 f fs next) (continue (λ v. give (done_by v)) o) ≡ continue (λ v. called_in app lists w call next v f fs) o
    by_read None = refl
    by_read (Some d) = by_way d.0 (draw 2 d.1)

    pub calls_is : (bytes : List ℕ) → calls_library app lists w f fs next call.kind call.at.now call.args.now (row_in call) bytes
        ≡ (read_for app lists w (values_in call f.registers) call.at.now.proto.ret (row_in call).gives >>= λ v. called_in app lists w call next v f fs) bytes
    calls_is bytes =
        ap (continue (λ (done : World × Value). draw 2 >>= resumes_or_raises app done.0 done.1 f fs next)) (library_is f (positions call.kind call.at.now call.args.now) app lists w call.at.now.proto.ret (row_in call) bytes)
        ∙ by_read (read_for app lists w (values_in call f.registers) call.at.now.proto.ret (row_in call).gives bytes)

-- Bodies with code, found one after the other.
use Rattle.std.proofs.Common.{◌≡◌, ℕ, Bool, true, false, cond, slice_get, List, [], ◌∷◌, ◌++◌, map, Option, Some, None, refl, sym, ap, ◌∙◌, append_assoc, subst}
use Rattle.std.specs.Prelude.{option_to_list, option_map}
use Rattle.std.specs.List.{cons_option}
use Rattle.std.proofs.lemmas.List.{append-nil}
use Rattle.std.proofs.lemmas.Option.{none-some, same_Some}
use Rattle.vet_base.proofs.Members.{in_slice_get}
use Rattle.app_machine.specs.declared.app.App.{App}
use Rattle.app_machine.specs.declared.method.Method.{Method}
use Rattle.app_machine.specs.Sound.{SoundApp, SoundCode}
use Rattle.played_machine.specs.Calling.{bodies_with_code, code_of, if_code, with_code}
use Rattle.runner_calls.specs.Frames.{number_of}

-- the numbers of those of the bodies that have code
abbrev pub numbers : App → List ℕ → List ℕ
numbers app bodies = map number_of (bodies_with_code app bodies)

pub nothing_found : (app : App) (found left all : List ℕ) → found ≡ [] → left ≡ all → found ++ numbers app left ≡ numbers app all
nothing_found app found left all none same = ap (λ xs. xs ++ numbers app left) none ∙ ap (numbers app) same

found_first : (o : Option (ℕ × Method)) (rest : List (ℕ × Method)) → map number_of (cons_option o rest) ≡ map number_of (option_to_list o) ++ map number_of rest
found_first None rest = refl
found_first (Some b) rest = refl

pub one_further : (app : App) (found new left rest : List ℕ) (body : ℕ) (all : List ℕ) → left ≡ body ∷ rest → new ≡ found ++ map number_of (option_to_list (with_code app body)) → found ++ numbers app left ≡ all → new ++ numbers app rest ≡ all
one_further app found new left rest body all front more so_far =
    ap (λ xs. xs ++ numbers app rest) more
    ∙ (append_assoc found (map number_of (option_to_list (with_code app body))) (numbers app rest)
    ∙ (ap (λ xs. found ++ xs) (sym (ap (numbers app) front ∙ found_first (with_code app body) (bodies_with_code app rest)))
    ∙ so_far))

pub all_found : (app : App) (found left all : List ℕ) → left ≡ [] → found ++ numbers app left ≡ all → found ≡ all
all_found app found left all none so_far = sym (ap (λ xs. found ++ numbers app xs) none ∙ append-nil found) ∙ so_far

module _ (app : App) (body : ℕ) (found : List ℕ) where
  abbrev with_it : Option Method → List ℕ
  with_it o = found ++ map number_of (option_to_list (option_map (λ (m : Method). (body, m)) o))

  pub with_one : (m : Method) (new : List ℕ) → Some m ≡ code_of app body → new ≡ found ++ body ∷ [] → new ≡ found ++ map number_of (option_to_list (with_code app body))
  with_one m new code more = more ∙ ap with_it code

  pub with_none : None ≡ code_of app body → found ≡ found ++ map number_of (option_to_list (with_code app body))
  with_none code = sym (append-nil found) ∙ ap with_it code

-- what has code is sound
pub sound_code : (app : App) (body : ℕ) (m : Method) → SoundApp app → Some m ≡ code_of app body → SoundCode app m
unfolding code_of
sound_code app body m sound code = by_there (slice_get app.methods body) refl code
  where
    by_native : (n : Method) → slice_get app.methods body ≡ Some n → (b : Bool) → n.is_native ≡ b → Some m ≡ cond b None (Some n) → SoundCode app m
    by_native n there true is e = absurd (none-some m (sym e))
    by_native n there false is e = subst (SoundCode app) (same_Some n m (sym e)) ((sound.bodies n (in_slice_get app.methods body n there)).of_code is)

    by_there : (o : Option Method) → slice_get app.methods body ≡ o → Some m ≡ if_code o → SoundCode app m
    by_there None there e = absurd (none-some m (sym e))
    by_there (Some n) there e = by_native n there n.is_native refl e

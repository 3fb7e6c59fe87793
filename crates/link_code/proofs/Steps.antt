-- A loop that makes the steps of lines.
use Rattle.std.proofs.Common.{◌≡◌, ℕ, ◌+◌, ◌<◌, ◌≤◌, List, [], ◌∷◌, ◌++◌, append_assoc, length, drop, get_or, map, refl, sym, ap, subst, ◌∙◌, arith}
use Rattle.std.proofs.lemmas.List.{append-nil, drop_all, get_or-map, length-map, length_push}
use Rattle.std.proofs.lemmas.List.FromFn.{get_or-enumerate_from, length-enumerate_from}
use Rattle.std.specs.List.{enumerate_from}
use Rattle.dex_tables.specs.declared.dex.Dex.{Dex}
use Rattle.dex_tables.specs.declared.dex.RawTry.{RawTry}
use Rattle.dex_code.specs.Lines.{Line}
use Rattle.dex_code.specs.Next.{catches_of}
use Rattle.app_machine.specs.declared.app.App.{App}
use Rattle.app_machine.specs.declared.method.Step.{Step}
use Rattle.link_listing.specs.Texts.{Triple}
use Rattle.link_listing.specs.MemberRows.{Fields}
use Rattle.link_code.specs.Lift.{step_if, steps_of}
use Rattle.vet_base.proofs.Lists.{drop_read}

module _ (app : App) (fields : Fields) (statics : List Triple) (dex : Dex) (tries : List RawTry) (lines : List Line) where
  -- these steps, and then those of the lines from i on, make the whole
  pub record Lifts (i : ℕ) (steps : List Step) : Type 0 where
    pub is : steps ++ steps_of app fields statics dex tries lines (drop i lines) ≡ steps_of app fields statics dex tries lines lines

  pub steps_begin : Lifts 0 []
  steps_begin = record { is = refl }

  pub steps_go_on : (i : ℕ) (line : Line) (catches : List ℕ) (steps : List Step) → i < length lines → line ≡ get_or lines i line → catches ≡ catches_of tries line.0 → Lifts i steps
      → Lifts (i + 1) (steps ++ step_if app fields statics dex lines line (drop (i + 1) lines) catches)
  unfolding steps_of
  steps_go_on i line catches steps lt item covers so_far =
      let k : drop i lines ≡ line ∷ drop (i + 1) lines = drop_read lines i line lt item in
      let h : steps ++ steps_of app fields statics dex tries lines (line ∷ drop (i + 1) lines) ≡ steps_of app fields statics dex tries lines lines = ap (λ (ls : List Line). steps ++ steps_of app fields statics dex tries lines ls) (sym k) ∙ so_far.is in
      let here : List Step = step_if app fields statics dex lines line (drop (i + 1) lines) (catches_of tries line.0) in
      record { is = rw covers (append_assoc steps here (steps_of app fields statics dex tries lines (drop (i + 1) lines)) ∙ h) }

  pub steps_are_done : (i : ℕ) (steps : List Step) → length lines ≤ i → Lifts i steps → steps ≡ steps_of app fields statics dex tries lines lines
  unfolding steps_of
  steps_are_done i steps le so_far =
      let k : drop i lines ≡ [] = drop_all i lines le in
      let h : steps ++ [] ≡ steps_of app fields statics dex tries lines lines = ap (λ (ls : List Line). steps ++ steps_of app fields statics dex tries lines ls) (sym k) ∙ so_far.is in
      sym (append-nil steps) ∙ h

  -- a turn of the walk over the handlers, numbered from 0
  abbrev Turn : List (List ℕ) → ℕ → ℕ × List ℕ → Type 0
  Turn all n x = (n < length (enumerate_from 0 all)) × (x ≡ get_or (enumerate_from 0 all) n x)

  record At (n i : ℕ) (catches : List ℕ) (line : Line) : Type 0 where
    same : i ≡ n
    within : n < length lines
    covers : catches ≡ catches_of tries line.0

  turn_at : (all : List (List ℕ)) (n i : ℕ) (catches : List ℕ) (line : Line) → all ≡ map (λ (line : Line). catches_of tries line.0) lines → line ≡ get_or lines i line → Turn all n (i, catches) → At n i catches line
  turn_at all n i catches line are item turn =
      let short : length all ≡ length lines = ap length are ∙ length-map lines (λ (line : Line). catches_of tries line.0) in
      let within : n < length all = omega (arith, turn.0, length-enumerate_from 0 all) in
      let there : n < length lines = omega (arith, within, short) in
      let number : i ≡ 0 + n = ap (λ (p : ℕ × List ℕ). p.0) (turn.1 ∙ get_or-enumerate_from 0 all n (i, catches) within) in
      let given : catches ≡ get_or all n catches = ap (λ (p : ℕ × List ℕ). p.1) (turn.1 ∙ get_or-enumerate_from 0 all n (i, catches) within) in
      let same : i ≡ n = omega (arith, number) in
      let mapped : get_or all n catches ≡ catches_of tries (get_or lines n line).0 = ap (λ (xs : List (List ℕ)). get_or xs n catches) are ∙ get_or-map (λ (line : Line). catches_of tries line.0) lines n line catches there in
      let placed : line ≡ get_or lines n line = item ∙ ap (λ (k : ℕ). get_or lines k line) same in
      record { same = same; within = there; covers = given ∙ mapped ∙ ap (λ (l : Line). catches_of tries l.0) (sym placed) }

  pub turn_lifts : (all : List (List ℕ)) (yielded : List (ℕ × List ℕ)) (i : ℕ) (catches : List ℕ) (line : Line) (rest : List Line) (steps more : List Step) → all ≡ map (λ (line : Line). catches_of tries line.0) lines → line ≡ get_or lines i line
      → Turn all (length yielded) (i, catches) → rest ≡ drop (i + 1) lines → more ≡ steps ++ step_if app fields statics dex lines line rest catches → Lifts (length yielded) steps → Lifts (length (yielded ++ (i, catches) ∷ [])) more
  turn_lifts all yielded i catches line rest steps more are item turn tail is so_far =
      let at = turn_at all (length yielded) i catches line are item turn in
      let lt : i < length lines = omega (arith, at.same, at.within) in
      let before : Lifts i steps = subst (λ (n : ℕ). Lifts n steps) (sym at.same) so_far in
      let on : Lifts (i + 1) (steps ++ step_if app fields statics dex lines line (drop (i + 1) lines) catches) = steps_go_on i line catches steps lt item at.covers before in
      let next : i + 1 ≡ length (yielded ++ (i, catches) ∷ []) = omega (arith, at.same, length_push yielded (i, catches)) in
      let all_of : steps ++ step_if app fields statics dex lines line (drop (i + 1) lines) catches ≡ more = ap (λ (ls : List Line). steps ++ step_if app fields statics dex lines line ls catches) (sym tail) ∙ sym is in
      subst (λ (n : ℕ). Lifts n more) next (subst (Lifts (i + 1)) all_of on)

  pub end_lifts : (all : List (List ℕ)) (n : ℕ) (steps : List Step) → all ≡ map (λ (line : Line). catches_of tries line.0) lines → n ≡ length (enumerate_from 0 all) → Lifts n steps → steps ≡ steps_of app fields statics dex tries lines lines
  end_lifts all n steps are end so_far =
      let short : length all ≡ length lines = ap length are ∙ length-map lines (λ (line : Line). catches_of tries line.0) in
      steps_are_done n steps (omega (arith, end, length-enumerate_from 0 all, short)) so_far

-- Control goes from a step of a method to steps of it; the steps stand by ascending pc.
use Rattle.std.proofs.Common.{◌≡◌, ℕ, ◌<◌, Bool, true, false, cond, List, [], ◌∷◌, ◌++◌, map, append_assoc, nat_cmp, refl, sym, ap, subst, ◌∙◌, inl, inr}
use Rattle.dex_tables.specs.declared.dex.Dex.{Dex}
use Rattle.dex_tables.specs.declared.dex.RawTry.{RawTry}
use Rattle.dex_tables.specs.declared.dex.RawCode.{RawCode}
use Rattle.dex_code.specs.declared.decoder.Decoded.{Decoded}
use Rattle.dex_code.specs.CodeLaws.{start_if, starts_of, AreSound}
use Rattle.dex_code.specs.Insns.{is_payload}
use Rattle.dex_code.specs.Lines.{Line}
use Rattle.dex_code.specs.Find.{AllBehind, Ascend}
use Rattle.dex_code.specs.Next.{catches_of}
use Rattle.app_machine.specs.declared.app.App.{App}
use Rattle.app_machine.specs.declared.method.Step.{Step}
use Rattle.vet_base.specs.Members.{In}
use Rattle.vet_base.specs.Ascending.{Ascends}
use Rattle.link_listing.specs.Texts.{Triple}
use Rattle.link_listing.specs.MemberRows.{Fields}
use Rattle.link_code.specs.Lift.{step_of, step_if, steps_of}
use Rattle.vet_base.proofs.Orders.{less_cmp}
use Rattle.vet_base.proofs.Members.{in_back, in_if}

abbrev pub pcs : List Step → List ℕ
pcs steps = map (λ (s : Step). s.pc) steps

pcs_if : (b : Bool) (step : Step) (pc : ℕ) (steps : List Step) (ns : List ℕ) → step.pc ≡ pc → pcs steps ≡ ns → pcs (cond b [] (step ∷ []) ++ steps) ≡ start_if b pc ++ ns
pcs_if true step pc steps ns e h = h
pcs_if false step pc steps ns e h = ap (λ (n : ℕ). n ∷ pcs steps) e ∙ ap (λ (ms : List ℕ). pc ∷ ms) h

-- each of these stands behind the pc
abbrev AllAfter : ℕ → List Step → Type 0
AllAfter pc [] = Unit {0}
AllAfter pc (s ∷ ss) = (pc < s.pc) × AllAfter pc ss

abbrev Rise : List Step → Type 0
Rise [] = Unit {0}
Rise (s ∷ ss) = AllAfter s.pc ss × Rise ss

after_if : (b : Bool) (at : ℕ) (step : Step) (steps : List Step) → at < step.pc → AllAfter at steps → AllAfter at (cond b [] (step ∷ []) ++ steps)
after_if true at step steps lt h = h
after_if false at step steps lt h = (lt, h)

rise_if : (b : Bool) (step : Step) (steps : List Step) → AllAfter step.pc steps → Rise steps → Rise (cond b [] (step ∷ []) ++ steps)
rise_if true step steps all h = h
rise_if false step steps all h = (all, h)

ascend_rising : (ss : List Step) → Rise ss → Ascends (λ (a b : Step). nat_cmp a.pc b.pc) ss
ascend_rising [] h = tt
ascend_rising (x ∷ []) h = tt
ascend_rising (x ∷ y ∷ ys) h = (less_cmp x.pc y.pc h.0.0, ascend_rising (y ∷ ys) h.1)

module _ (app : App) (fields : Fields) (statics : List Triple) (dex : Dex) (tries : List RawTry) (lines : List Line) where
  -- the step of a line under the handlers that cover it
  abbrev pub covered_step : Line → List Line → Step
  covered_step line rest = step_of app fields statics dex lines line rest (catches_of tries line.0)

  abbrev others : List Line → List Step
  others rest = steps_of app fields statics dex tries lines rest

  pub pcs_are : (rest : List Line) → pcs (others rest) ≡ starts_of rest
  unfolding steps_of step_if step_of
  pcs_are [] = refl
  pcs_are (line ∷ rest) = pcs_if (is_payload line.1) (covered_step line rest) line.0 (others rest) (starts_of rest) refl (pcs_are rest)

  after : (at : ℕ) (rest : List Line) → AllBehind at rest → AllAfter at (others rest)
  unfolding steps_of step_if step_of AllBehind
  after at [] all = tt
  after at (line ∷ rest) all = after_if (is_payload line.1) at (covered_step line rest) (others rest) all.0 (after at rest all.1)

  rise : (rest : List Line) → Ascend rest → Rise (others rest)
  unfolding steps_of step_if step_of Ascend
  rise [] up = tt
  rise (line ∷ rest) up = rise_if (is_payload line.1) (covered_step line rest) (others rest) (after line.0 rest up.0) (rise rest up.1)

  pub steps_ascend : (rest : List Line) → Ascend rest → Ascends (λ (a b : Step). nat_cmp a.pc b.pc) (others rest)
  steps_ascend rest up = ascend_rising (others rest) (rise rest up)

  -- the line that a step stems from
  pub record Stems (step : Step) : Type 0 where
    pub front : List Line
    pub line : Line
    pub rest : List Line
    pub is : step ≡ covered_step line rest
    pub stands : lines ≡ front ++ line ∷ rest

  pub stem_of : (front rest : List Line) → lines ≡ front ++ rest → (step : Step) → In step (others rest) → Stems step
  unfolding steps_of step_if
  stem_of front [] whole step k = absurd k
  stem_of front (line ∷ rest) whole step k =
      elim (in_if (is_payload line.1) step (covered_step line rest) (others rest) k) [
        | inl e ↦ record { front = front; line = line; rest = rest; is = e; stands = whole }
        | inr j ↦ stem_of (front ++ line ∷ []) rest (whole ∙ sym (append_assoc front (line ∷ []) rest)) step j
      ]

  pub line_of : (step : Step) (stem : Stems step) → In stem.line lines
  line_of step stem = subst (λ (ls : List Line). In stem.line ls) (sym stem.stands) (in_back stem.line stem.front (stem.line ∷ stem.rest) (inl refl))

module _ (app : App) (fields : Fields) (statics : List Triple) (dex : Dex) (code : RawCode) (decoded : Decoded) (sound : AreSound code decoded) where
  abbrev pub Stem : Step → Type 0
  Stem step = Stems app fields statics dex decoded.tries decoded.lines step

  pub step_goes_on : (step : Step) → Stem step → (pc : ℕ) → In pc step.next → In pc (starts_of decoded.lines)
  unfolding step_of
  step_goes_on step stem pc k = sound.next stem.front stem.line stem.rest stem.stands pc (subst (λ (s : Step). In pc s.next) stem.is k)

  pub step_catches : (step : Step) → Stem step → (pc : ℕ) → In pc step.catches → In pc (starts_of decoded.lines)
  unfolding step_of
  step_catches step stem pc k = sound.catches stem.line.0 pc (subst (λ (s : Step). In pc s.catches) stem.is k)

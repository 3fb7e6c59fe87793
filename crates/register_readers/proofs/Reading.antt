-- Whether a step reads a register, and those of a list whose steps do.
use Rattle.std.proofs.Common.{◌≡◌, ◌==◌, ℕ, ◌+◌, ◌<◌, ◌≤◌, Bool, true, false, cond, List, [], ◌∷◌, ◌++◌, length, take, get_or, Option, Some, None, refl, sym, ap, subst, ◌∙◌, append-nil, eqb-true, eq-eqb}
use Rattle.std.proofs.lemmas.List.{take_all}
use Rattle.std.proofs.lemmas.List.Elements.{filter_more}
use Rattle.std.proofs.lemmas.List.Filters.{length-filter_more}
use Rattle.app_machine.specs.declared.method.Step.{Step}
use Rattle.app_machine.specs.declared.app.App.{App}
use Rattle.app_machine.specs.Lookups.{step_at}
use Rattle.app_machine.specs.State.{holds}
use Rattle.vet_base.specs.Members.{In}
use Rattle.vet_base.proofs.Members.{passes_if, one_passes}
use Rattle.cell_rules.specs.Reading.{reads}
use Rattle.cell_rules.specs.Searching.{ReadsHere}
use Rattle.register_readers.specs.Searched.{is_read_at, readers_among}

module _ (app : App) (method r : ℕ) where
  pub read_there : (pc : ℕ) (step : Step) (b : Bool) → step_at app method pc ≡ Some step → b ≡ holds (reads step.act) r → b ≡ is_read_at app method r pc
  read_there pc step b there is = is ∙ sym (ap (λ o. elim o [ None ↦ false | Some step ↦ holds (reads step.act) r ]) there)

  pub read_nowhere : (pc : ℕ) → step_at app method pc ≡ None → false ≡ is_read_at app method r pc
  read_nowhere pc absent = sym (ap (λ (o : Option Step). elim o [ None ↦ false | Some step ↦ holds (reads step.act) r ]) absent)

  -- the step that the test tells reads it
  pub tells_reads : (pc : ℕ) → is_read_at app method r pc ≡ true → ReadsHere app method r pc
  tells_reads pc h = by_step (step_at app method pc) refl h
    where
      by_step : (o : Option Step) → step_at app method pc ≡ o → elim o [ None ↦ false | Some step ↦ holds (reads step.act) r ] ≡ true → ReadsHere app method r pc
      by_step None absent none = let clash : false ≡ true = none in absurd cc
      by_step (Some step) there is =
          let one = one_passes (λ d. r == d) (reads step.act) is in
          record { act = step.act; at = record { step = step; there = there; same = refl }; is_read = subst (λ z. In z (reads step.act)) (sym (eqb-true r one.0 one.2)) one.1 }

  -- and it tells each that does
  pub reads_told : (pc : ℕ) → ReadsHere app method r pc → is_read_at app method r pc ≡ true
  reads_told pc h =
      let read : In r (reads h.at.step.act) = subst (λ act. In r (reads act)) (sym h.at.same) h.is_read in
      ap (λ o. elim o [ None ↦ false | Some step ↦ holds (reads step.act) r ]) h.at.there ∙ passes_if (λ d. r == d) (reads h.at.step.act) r read (eq-eqb r r refl)

  -- so many of a list
  pub counts_none : (pcs : List ℕ) → 0 ≡ length (readers_among app method r (take 0 pcs))
  counts_none pcs = refl

  pub counts_more : (pcs : List ℕ) (i count : ℕ) → i < length pcs → count ≡ length (readers_among app method r (take i pcs)) →
      count + cond (is_read_at app method r (get_or pcs i 0)) 1 0 ≡ length (readers_among app method r (take (i + 1) pcs))
  counts_more pcs i count within so_far =
      ap (λ n. n + cond (is_read_at app method r (get_or pcs i 0)) 1 0) so_far ∙ sym (length-filter_more (is_read_at app method r) pcs i 0 within)

  pub counts_all : (pcs : List ℕ) (i count : ℕ) → length pcs ≤ i → count ≡ length (readers_among app method r (take i pcs)) → count ≡ length (readers_among app method r pcs)
  counts_all pcs i count past so_far = so_far ∙ ap (λ xs. length (readers_among app method r xs)) (take_all i pcs past)

  -- those of a list
  pub lists_none : (pcs : List ℕ) → [] ≡ readers_among app method r (take 0 pcs)
  lists_none pcs = refl

  pub lists_more : (pcs old new : List ℕ) (i : ℕ) → i < length pcs → old ≡ readers_among app method r (take i pcs) →
      new ≡ cond (is_read_at app method r (get_or pcs i 0)) (old ++ get_or pcs i 0 ∷ []) old → new ≡ readers_among app method r (take (i + 1) pcs)
  lists_more pcs old new i within so_far one =
      one ∙ ap (λ xs. cond (is_read_at app method r (get_or pcs i 0)) (xs ++ get_or pcs i 0 ∷ []) xs) so_far
      ∙ (behind (is_read_at app method r (get_or pcs i 0)) (readers_among app method r (take i pcs)) ∙ sym (filter_more (is_read_at app method r) pcs i 0 within))
    where
      behind : (b : Bool) (xs : List ℕ) → cond b (xs ++ get_or pcs i 0 ∷ []) xs ≡ xs ++ cond b (get_or pcs i 0 ∷ []) []
      behind true xs = refl
      behind false xs = sym (append-nil xs)

  pub lists_all : (pcs readers : List ℕ) (i : ℕ) → length pcs ≤ i → readers ≡ readers_among app method r (take i pcs) → readers ≡ readers_among app method r pcs
  lists_all pcs readers i past so_far = so_far ∙ ap (readers_among app method r) (take_all i pcs past)

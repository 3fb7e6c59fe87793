-- Where no result is read late, it is read right behind the step that gives it.
use Rattle.std.proofs.Common.{◌≡◌, ◌==◌, ◌⊎◌, ℕ, ◌+◌, ◌<◌, ◌≤◌, Bool, true, false, cond, List, [], length, take, get_or, Some, slice_get, refl, sym, subst, ◌∙◌, inl, inr, eq-eqb, eqb-true}
use Rattle.std.specs.Prelude.{IsTrue, IsFalse}
use Rattle.std.specs.List.{list_any}
use Rattle.std.specs.BTreeMap.{BTreeMap}
use Rattle.std.specs.declared.vec.Vec.{Vec}
use Rattle.std.proofs.lemmas.List.{take_all}
use Rattle.std.proofs.lemmas.Option.{same_Some}
use Rattle.app_machine.specs.declared.method.Act.{Act}
use Rattle.app_machine.specs.declared.method.Act.TheVariants.{Join, Move, New, Fill, Get, GetStatic, Call, TakeResult, TakeException}
use Rattle.app_machine.specs.declared.method.Method.{Method}
use Rattle.app_machine.specs.declared.method.Step.{Step}
use Rattle.app_machine.specs.declared.app.App.{App}
use Rattle.app_machine.specs.Local.{writes}
use Rattle.app_machine.specs.State.{result_register, holds}
use Rattle.vet_base.specs.Members.{In}
use Rattle.vet_base.proofs.Members.{passes_if, one_passes}
use Rattle.cell_rules.specs.Reading.{ReadAt, read_here, read_next, read_caught}
use Rattle.cell_rules.specs.Searching.{ReadsHere}
use Rattle.register_readers.specs.declared.places.Place.{Place}
use Rattle.register_readers.specs.Asked.{given_to}
use Rattle.register_readers.specs.Found.{Asks, IsBehindOne}
use Rattle.register_readers.specs.Results.{any_reads, is_late, any_late}
use Rattle.register_readers.specs.Searched.{is_read_at}
use Rattle.register_readers.proofs.Adding.{in_more}
use Rattle.register_readers.proofs.Asking.{asks_as, asks_both, asks_nothing}
use Rattle.register_readers.proofs.Reading.{reads_told}
use Rattle.register_readers.proofs.Steps.{step_among}

-- an act writes what it gives
gives_written : (act : Act) (r : ℕ) → In r (given_to act) → writes act r ≡ true
gives_written (Join ds xs) r h = passes_if (λ d. r == d) ds r h (eq-eqb r r refl)
gives_written (Move ds x) r h = passes_if (λ d. r == d) ds r h (eq-eqb r r refl)
gives_written (New d class size) r (inl same) = eq-eqb r d same
gives_written (New d class size) r (inr none) = absurd none
gives_written (Fill xs class) r (inl same) = eq-eqb r result_register same
gives_written (Fill xs class) r (inr none) = absurd none
gives_written (Get ds o k) r h = passes_if (λ d. r == d) ds r h (eq-eqb r r refl)
gives_written (GetStatic ds g) r h = passes_if (λ d. r == d) ds r h (eq-eqb r r refl)
gives_written (Call kind at args) r (inl same) = eq-eqb r result_register same
gives_written (Call kind at args) r (inr none) = absurd none
gives_written (TakeResult ds) r h = passes_if (λ d. r == d) ds r h (eq-eqb r r refl)
gives_written (TakeException d) r (inl same) = eq-eqb r d same
gives_written (TakeException d) r (inr none) = absurd none
gives_written _ r h = absurd h

pub given_in : (act : Act) (r : ℕ) → holds (given_to act) r ≡ true → In r (given_to act)
given_in act r h =
    let one = one_passes (λ d. r == d) (given_to act) h in
    subst (λ z. In z (given_to act)) (sym (eqb-true r one.0 one.2)) one.1

not_given : (act : Act) (r : ℕ) → IsFalse (writes act r) → holds (given_to act) r ≡ false
not_given act r other = by_test (holds (given_to act) r) refl
  where
    by_test : (b : Bool) → holds (given_to act) r ≡ b → holds (given_to act) r ≡ false
    by_test true is = let clash : true ≡ false = sym (gives_written act r (given_in act r is)) ∙ other in absurd cc
    by_test false is = is

-- none of a list passes
none_passes : {X : Type 0} (p : X → Bool) (xs : List X) (x : X) → list_any p xs ≡ false → In x xs → p x ≡ false
none_passes p xs x none i = by_test (p x) refl
  where
    by_test : (b : Bool) → p x ≡ b → p x ≡ false
    by_test true is = let clash : true ≡ false = sym (passes_if p xs x i is) ∙ none in absurd cc
    by_test false is = is

module _ (app : App) (method : ℕ) where
  abbrev reads_result : ℕ → Bool
  reads_result = is_read_at app method result_register

  catch_unread : (step : Step) (next : ℕ) → is_late app method step ≡ false → In next step.catches → reads_result next ≡ false
  catch_unread step next is i = none_passes reads_result step.catches next (by_test (any_reads app method step.catches) is refl) i
    where
      by_test : (b : Bool) → cond b true (cond (holds (given_to step.act) result_register) false (any_reads app method step.next)) ≡ false → any_reads app method step.catches ≡ b →
          any_reads app method step.catches ≡ false
      by_test true h same = let clash : true ≡ false = h in absurd cc
      by_test false h same = same

  next_unread : (step : Step) (next : ℕ) → is_late app method step ≡ false → holds (given_to step.act) result_register ≡ false → In next step.next → reads_result next ≡ false
  next_unread step next is none i = none_passes reads_result step.next next (by_test (any_reads app method step.catches) (holds (given_to step.act) result_register) none is) i
    where
      by_test : (b c : Bool) → c ≡ false → cond b true (cond c false (any_reads app method step.next)) ≡ false → any_reads app method step.next ≡ false
      by_test true c same h = let clash : true ≡ false = h in absurd cc
      by_test false true same h = let clash : true ≡ false = same in absurd cc
      by_test false false same h = h

  module _ (m : Method) (there : slice_get app.methods method ≡ Some m) (none : any_late app method m.steps ≡ false) where
    not_late : (step : Step) → In step m.steps → is_late app method step ≡ false
    not_late step i = none_passes (is_late app method) m.steps step none i

    -- a result is read where it is asked for, or nowhere
    here_only : (v u : ℕ) → ReadAt app method result_register v u → ReadsHere app method result_register v
    here_only v u (read_here {act = act} at is_read) = record { act = act; at = at; is_read = is_read }
    here_only v u (read_next {next = next} {act = act} at other goes more) =
        let same : at.step ≡ goes.step = same_Some at.step goes.step (sym at.there ∙ goes.there) in
        let kept : IsFalse (writes goes.step.act result_register) = subst (λ (s : Step). IsFalse (writes s.act result_register)) same (subst (λ a. IsFalse (writes a result_register)) (sym at.same) other) in
        let read : reads_result next ≡ true = reads_told app method result_register next (here_only next u more) in
        let unread : reads_result next ≡ false =
        next_unread goes.step next (not_late goes.step (step_among app method v m goes.step there goes.there)) (not_given goes.step.act result_register kept) goes.next in
        let clash : true ≡ false = sym read ∙ unread in
        absurd cc
    here_only v u (read_caught {next = next} other caught more) =
        let read : reads_result next ≡ true = reads_told app method result_register next (here_only next u more) in
        let unread : reads_result next ≡ false = catch_unread caught.step next (not_late caught.step (step_among app method v m caught.step there caught.there)) caught.catch in
        let clash : true ≡ false = sym read ∙ unread in
        absurd cc

    pub unread_behind : (step : Step) (next u : ℕ) → In step m.steps → holds (given_to step.act) result_register ≡ false → In next step.next →
        ReadAt app method result_register next u → ⊥
    unread_behind step next u i gives behind read =
        let here : reads_result next ≡ true = reads_told app method result_register next (here_only next u read) in
        let unread : reads_result next ≡ false = next_unread step next (not_late step i) gives behind in
        let clash : true ≡ false = sym here ∙ unread in
        cc

module _ {A : Type 0} where
  -- behind each of a list of steps
  pub behind_none : (found : BTreeMap Place (Vec ℕ A)) (steps : List Step) → Asks (λ q v. (q ≡ result_register) × IsBehindOne (take 0 steps) v) found found
  behind_none found steps = asks_nothing (λ q v. (q ≡ result_register) × IsBehindOne (take 0 steps) v) found (λ q v h. h.1.1)

  pub behind_more : (a b c : BTreeMap Place (Vec ℕ A)) (steps : List Step) (i : ℕ) (step : Step) → i < length steps → step ≡ get_or steps i step →
      Asks (λ q v. (q ≡ result_register) × IsBehindOne (take i steps) v) a b → Asks (λ q v. (q ≡ result_register) × In v step.next) b c →
      Asks (λ q v. (q ≡ result_register) × IsBehindOne (take (i + 1) steps) v) a c
  behind_more a b c steps i step within is so_far one =
      asks_as (λ q v. ((q ≡ result_register) × IsBehindOne (take i steps) v) ⊎ ((q ≡ result_register) × In v step.next)) (λ q v. (q ≡ result_register) × IsBehindOne (take (i + 1) steps) v) a c
      (λ q v h. elim (in_more steps i step within h.1.0 h.1.1) [
        | inl before ↦ inl (h.0, (h.1.0, before, h.1.2))
        | inr same ↦ inr (h.0, subst (λ (s : Step). In v s.next) (same ∙ sym is) h.1.2)
      ])
      (asks_both (λ q v. (q ≡ result_register) × IsBehindOne (take i steps) v) (λ q v. (q ≡ result_register) × In v step.next) a b c so_far one)

  pub behind_all : (a b : BTreeMap Place (Vec ℕ A)) (steps : List Step) (i : ℕ) → length steps ≤ i → Asks (λ q v. (q ≡ result_register) × IsBehindOne (take i steps) v) a b →
      Asks (λ q v. (q ≡ result_register) × IsBehindOne steps v) a b
  behind_all a b steps i past asks = subst (λ xs. Asks (λ q v. (q ≡ result_register) × IsBehindOne xs v) a b) (take_all i steps past) asks

  -- where any is late, and where none is
  pub where_late : (a b : BTreeMap Place (Vec ℕ A)) (late : Bool) (steps : List Step) → Asks (λ q v. (q ≡ result_register) × IsBehindOne steps v) a b →
      Asks (λ q v. IsTrue late × ((q ≡ result_register) × IsBehindOne steps v)) a b
  where_late a b late steps asks = asks_as (λ q v. (q ≡ result_register) × IsBehindOne steps v) (λ q v. IsTrue late × ((q ≡ result_register) × IsBehindOne steps v)) a b (λ q v h. h.1) asks

  pub nowhere_late : (found : BTreeMap Place (Vec ℕ A)) (late : Bool) (steps : List Step) → late ≡ false → Asks (λ q v. IsTrue late × ((q ≡ result_register) × IsBehindOne steps v)) found found
  nowhere_late found late steps none =
      asks_nothing (λ q v. IsTrue late × ((q ≡ result_register) × IsBehindOne steps v)) found (λ q v h. let clash : true ≡ false = sym h.0 ∙ none in cc)

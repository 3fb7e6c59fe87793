-- The readers of each static, as loops over methods and steps gather them.
use Rattle.std.proofs.Common.{◌≡◌, ◌==◌, ◌≢◌, ℕ, zero, suc, ◌+◌, ◌<◌, ◌≤◌, Bool, true, false, cond, List, [], ◌∷◌, ◌++◌, length, take, get_or, set, flat_map, eqb-true, refl, sym, ap, subst, ◌∙◌, arith, append-nil, zero-add}
use Rattle.std.specs.List.{enumerate_from}
use Rattle.std.specs.declared.vec.Vec.{Vec}
use Rattle.std.proofs.lemmas.Bool.{eq-eqb}
use Rattle.std.proofs.lemmas.Grind.{flat_map-append}
use Rattle.std.proofs.lemmas.List.{take_more, take_all, append_assoc}
use Rattle.std.proofs.lemmas.List.FromFn.{length-enumerate_from, get_or-enumerate_from}
use Rattle.app_machine.specs.declared.method.Method.{Method}
use Rattle.app_machine.specs.declared.method.Step.{Step}
use Rattle.app_machine.specs.declared.app.App.{App}
use Rattle.app_index.specs.declared.static_readers.Reader.{Reader}
use Rattle.app_index.specs.Readers.{held, reader_at, readers_in, readers_at, HasReaders, HoldsAlike, IsLonger}

flat_more : {X Y : Type 0} (f : X → List Y) (xs : List X) (i : ℕ) (x : X) → i < length xs → x ≡ get_or xs i x → flat_map f (take (i + 1) xs) ≡ flat_map f (take i xs) ++ f x
flat_more f xs i x within is =
    let front : take (i + 1) xs ≡ take i xs ++ x ∷ [] = take_more xs i x within ∙ ap (λ y. take i xs ++ y ∷ []) (sym is) in
    ap (flat_map f) front ∙ flat_map-append f (take i xs) (x ∷ []) ∙ ap (λ ys. flat_map f (take i xs) ++ ys) (append-nil (f x))

module _ {A : Type 0} where
  -- a list of none behind the others
  pub with_none : (readers : List (Vec Reader A)) (own : Vec Reader A) → own.items ≡ [] → (g : ℕ) → held (readers ++ own ∷ []) g ≡ held readers g
  with_none [] own none zero = none
  with_none [] own none (suc g) = refl
  with_none (r ∷ rs) own none zero = refl
  with_none (r ∷ rs) own none (suc g) = with_none rs own none g

  pub alike_itself : (readers : List (Vec Reader A)) → HoldsAlike readers readers
  alike_itself readers = record { at = λ g. refl }

  pub alike_with_none : (first old : List (Vec Reader A)) (own : Vec Reader A) → own.items ≡ [] → HoldsAlike first old → HoldsAlike first (old ++ own ∷ [])
  alike_with_none first old own none alike = record { at = λ g. with_none old own none g ∙ alike.at g }

  -- what stands at a number that is written, and at another one
  at_written : (readers : List (Vec Reader A)) (i : ℕ) (own : Vec Reader A) → i < length readers → held (set readers i own) i ≡ own.items
  at_written [] i own within = absurd (omega arith)
  at_written (r ∷ rs) zero own within = refl
  at_written (r ∷ rs) (suc i) own within = at_written rs i own (omega arith)

  at_other : (readers : List (Vec Reader A)) (i g : ℕ) (own : Vec Reader A) → i ≢ g → held (set readers i own) g ≡ held readers g
  at_other [] i g own apart = refl
  at_other (r ∷ rs) zero zero own apart = absurd (apart refl)
  at_other (r ∷ rs) zero (suc g) own apart = refl
  at_other (r ∷ rs) (suc i) zero own apart = refl
  at_other (r ∷ rs) (suc i) (suc g) own apart = at_other rs i g own (λ same. apart (ap suc same))

  held_there : (readers : List (Vec Reader A)) (i : ℕ) (own : Vec Reader A) → i < length readers → own ≡ get_or readers i own → held readers i ≡ own.items
  held_there [] i own within is = absurd (omega arith)
  held_there (r ∷ rs) zero own within is = ap (λ (v : Vec Reader A). v.items) (sym is)
  held_there (r ∷ rs) (suc i) own within is = held_there rs i own (omega arith) is

  pub one_longer : (first old : List (Vec Reader A)) (i : ℕ) (was own : Vec Reader A) (reader : Reader) → HoldsAlike first old → i < length old → was ≡ get_or old i was →
      own.items ≡ was.items ++ reader ∷ [] → IsLonger first (set old i own) (λ g. cond (i == g) (reader ∷ []) [])
  one_longer first old i was own reader alike within is pushed = record { at = λ g. by_test g (i == g) refl }
    where
      by_test : (g : ℕ) (b : Bool) → i == g ≡ b → held (set old i own) g ≡ held first g ++ cond (i == g) (reader ∷ []) []
      by_test g true e =
          let same : i ≡ g = eqb-true i g e in
          let here : held (set old i own) i ≡ held first i ++ reader ∷ [] = at_written old i own within ∙ pushed ∙ ap (λ rs. rs ++ reader ∷ []) (sym (held_there old i was within is) ∙ alike.at i) in
          subst (λ h. held (set old i own) h ≡ held first h ++ reader ∷ []) same here ∙ ap (λ b. held first g ++ cond b (reader ∷ []) []) (sym e)
      by_test g false e =
          let apart : i ≢ g = λ same. let t : i == g ≡ true = eq-eqb i g same in absurd cc in
          at_other old i g own apart ∙ alike.at g ∙ sym (append-nil (held first g)) ∙ ap (λ b. held first g ++ cond b (reader ∷ []) []) (sym e)

  -- a step that reads no static
  pub no_longer : (readers : List (Vec Reader A)) → IsLonger readers readers (λ g. [])
  no_longer readers = record { at = λ g. sym (append-nil (held readers g)) }

  -- the steps of a method
  pub steps_begin : (readers : List (Vec Reader A)) (method : ℕ) (steps : List Step) → IsLonger readers readers (λ g. readers_in g method (take 0 steps))
  steps_begin readers method steps = record { at = λ g. sym (append-nil (held readers g)) }

  pub steps_go_on : (first old new : List (Vec Reader A)) (method : ℕ) (steps : List Step) (i : ℕ) (step : Step) → i < length steps → step ≡ get_or steps i step →
      IsLonger first old (λ g. readers_in g method (take i steps)) → IsLonger old new (λ g. reader_at g method step) → IsLonger first new (λ g. readers_in g method (take (i + 1) steps))
  steps_go_on first old new method steps i step within is so_far more = record {
    at = λ g.
        more.at g ∙ ap (λ rs. rs ++ reader_at g method step) (so_far.at g) ∙ append_assoc (held first g) (readers_in g method (take i steps)) (reader_at g method step)
        ∙ ap (λ rs. held first g ++ rs) (sym (flat_more (reader_at g method) steps i step within is));
  }

  pub steps_done : (first new : List (Vec Reader A)) (method : ℕ) (steps : List Step) (i : ℕ) → length steps ≤ i →
      IsLonger first new (λ g. readers_in g method (take i steps)) → IsLonger first new (λ g. readers_in g method steps)
  steps_done first new method steps i past so_far = record { at = λ g. so_far.at g ∙ ap (λ ss. held first g ++ readers_in g method ss) (take_all i steps past) }

  -- the methods before a number
  pub record Gathers (readers : List (Vec Reader A)) (methods : List Method) (i : ℕ) : Type 0 where
    pub at : (g : ℕ) → held readers g ≡ flat_map (readers_at g) (take i (enumerate_from 0 methods))

  pub gathers_none : (methods : List Method) → Gathers [] methods 0
  gathers_none methods = record { at = λ g. refl }

  pub gathers_more : (old new : List (Vec Reader A)) (methods : List Method) (i : ℕ) (method : Method) → i < length methods → method ≡ get_or methods i method →
      Gathers old methods i → IsLonger old new (λ g. readers_in g i method.steps) → Gathers new methods (i + 1)
  gathers_more old new methods i method within is so_far more =
      let numbered : (i, method) ≡ get_or (enumerate_from 0 methods) i (i, method) =
      sym (get_or-enumerate_from 0 methods i (i, method) within ∙ (λ k. (zero-add i k, sym is k))) in
      let enough : i < length (enumerate_from 0 methods) = subst (λ n. i < n) (sym (length-enumerate_from 0 methods)) within in
      record { at = λ g. more.at g ∙ ap (λ rs. rs ++ readers_in g i method.steps) (so_far.at g) ∙ sym (flat_more (readers_at g) (enumerate_from 0 methods) i (i, method) enough numbered) }

  pub gathers_all : (readers : List (Vec Reader A)) (app : App) (i : ℕ) → length app.methods ≤ i → Gathers readers app.methods i → HasReaders readers app
  gathers_all readers app i past so_far = record {
    at = λ g.
        so_far.at g ∙ ap (flat_map (readers_at g)) (take_all i (enumerate_from 0 app.methods) (subst (λ n. n ≤ i) (sym (length-enumerate_from 0 app.methods)) past));
  }

-- Bodies of events, one behind the other.
use Rattle.std.proofs.Common.{◌≡◌, ℕ, ◌+◌, ◌⊎◌, List, [], ◌∷◌, ◌++◌, length, Option, Some, None, slice_get, refl, sym, ap, subst, ◌∙◌, inl, inr, arith}
use Rattle.std.specs.declared.vec.Vec.{Vec}
use Rattle.std.proofs.lemmas.List.{length-append}
use Rattle.std.proofs.lemmas.Option.{none-some}
use Rattle.app_machine.specs.declared.app.App.{App}
use Rattle.event_index.specs.declared.bodies.Event.{Event}
use Rattle.event_index.specs.Bodies.{AreBodies, HasBodies, body_of}
use Rattle.event_index.proofs.Pushed.{at_pushed}

-- the bodies of the first so many events, and the rows of the first so many components
pub record BodiesUpTo (app : App) (kind : Event) (c : ℕ) (bodies : List (Option ℕ)) (n : ℕ) : Type 0 where
  pub long : length bodies ≡ n
  pub are : AreBodies app kind c bodies

module _ (app : App) (kind : Event) (c : ℕ) where
  pub no_bodies : BodiesUpTo app kind c [] 0
  no_bodies = record { long = refl; are = record { at = λ j body there. absurd (none-some body there) } }

  pub one_more_body : (bodies : List (Option ℕ)) (n : ℕ) (body : Option ℕ) → body ≡ body_of app kind c n → BodiesUpTo app kind c bodies n → BodiesUpTo app kind c (bodies ++ body ∷ []) (n + 1)
  one_more_body bodies n body is so_far = record {
    long = length-append bodies (body ∷ []) ∙ let long = so_far.long in omega arith;
    are = record { at = λ j other there. by_place j other (at_pushed bodies body other j there) };
  }
    where
      by_place : (j : ℕ) (other : Option ℕ) → (slice_get bodies j ≡ Some other) ⊎ ((j ≡ length bodies) × (body ≡ other)) → other ≡ body_of app kind c j
      by_place j other (inl before) = so_far.are.at j other before
      by_place j other (inr last) = sym last.1 ∙ (is ∙ ap (body_of app kind c) (sym (last.0 ∙ so_far.long)))

  pub body_there : (bodies : List (Option ℕ)) (j : ℕ) (body : Option ℕ) → AreBodies app kind c bodies → slice_get bodies j ≡ Some body → body ≡ body_of app kind c j
  body_there bodies j body are there = are.at j body there

  pub row_there : {A : Type 0} (rows : List (Vec (Option ℕ) A)) (row : Vec (Option ℕ) A) → HasBodies app kind rows → slice_get rows c ≡ Some row → AreBodies app kind c row.items
  row_there rows row has there = has.at c row there

pub record BodyRowsUpTo {A : Type 0} (app : App) (kind : Event) (rows : List (Vec (Option ℕ) A)) (n : ℕ) : Type 0 where
  pub long : length rows ≡ n
  pub has : HasBodies app kind rows

module _ {A : Type 0} (app : App) (kind : Event) where
  pub no_rows : BodyRowsUpTo {A = A} app kind [] 0
  no_rows = record { long = refl; has = record { at = λ c row there. absurd (none-some row there) } }

  pub one_more_row : (rows : List (Vec (Option ℕ) A)) (n : ℕ) (row : Vec (Option ℕ) A) → AreBodies app kind n row.items → BodyRowsUpTo app kind rows n → BodyRowsUpTo app kind (rows ++ row ∷ []) (n + 1)
  one_more_row rows n row is so_far = record {
    long = length-append rows (row ∷ []) ∙ let long = so_far.long in omega arith;
    has = record { at = λ c other there. by_place c other (at_pushed rows row other c there) };
  }
    where
      by_place : (c : ℕ) (other : Vec (Option ℕ) A) → (slice_get rows c ≡ Some other) ⊎ ((c ≡ length rows) × (row ≡ other)) → AreBodies app kind c other.items
      by_place c other (inl before) = so_far.has.at c other before
      by_place c other (inr last) =
          let place : n ≡ c = sym (last.0 ∙ so_far.long) in
          subst (λ (v : Vec (Option ℕ) A). AreBodies app kind c v.items) last.1 (subst (λ k. AreBodies app kind k row.items) place is)

-- The search from a place: what holds at each turn, and what it has met when nothing waits.
use Rattle.std.proofs.Common.{◌≡◌, ◌⊎◌, ◌↔◌, ℕ, ◌-◌, true, false, List, [], ◌∷◌, ◌++◌, take, refl, sym, ap, subst, ◌∙◌, inl, inr}
use Rattle.app_machine.specs.declared.app.App.{App}
use Rattle.vet_base.specs.Members.{In}
use Rattle.vet_base.proofs.Members.{in_front, in_back, in_either}
use Rattle.vet_base.proofs.Every.{in_filter, from_filter}
use Rattle.cell_rules.specs.Reading.{ReadAt}
use Rattle.cell_rules.specs.Searching.{Keeps, KeepsTo, at_once, further, AreMet, ReadersAreMet}
use Rattle.register_readers.specs.declared.search.Search.{Search}
use Rattle.register_readers.specs.Searched.{is_marked, IsFree, IsSettled, Adds, is_read_at, readers_among}
use Rattle.register_readers.proofs.Reading.{tells_reads, reads_told}

-- nothing waits where nothing was taken
nothing_left : (n : ℕ) (old new : List ℕ) → n ≡ 0 → new ≡ take (n - 1) old → new ≡ []
nothing_left n old new none rest = rest ∙ ap (λ m. take (m - 1) old) none

nothing_was : (old new : List ℕ) → new ≡ [] → old ≡ new ++ [] → old ≡ []
nothing_was old new none is = is ∙ ap (λ xs. xs ++ []) none

module _ (app : App) (method r pc : ℕ) where
  -- the place is marked, what is marked waits or is done, and where those that are done keep the register is marked
  pub record Searched (s : Search) : Type 0 where
    pub first : is_marked s.marks.items pc ≡ true
    pub listed : (v : ℕ) → is_marked s.marks.items v ≡ true → In v s.waiting.items ⊎ In v s.done.items
    pub closed : (v next : ℕ) → In v s.done.items → Keeps app method r v next → is_marked s.marks.items next ≡ true
    pub only : (v : ℕ) → In v s.waiting.items ⊎ In v s.done.items → KeepsTo app method r pc v

  pub runs_first : (old new : Search) → IsFree old → Adds (λ v. v ≡ pc) old new → Searched new
  runs_first old new free adds = record {
    first = adds.met pc refl;
    listed = λ v at. elim (adds.waits v at) [
      | inl before ↦ let clash : true ≡ false = sym before ∙ free.marks v in absurd cc
      | inr waits ↦ inl waits
    ];
    closed = λ v next at keeps. absurd (none_done v at);
    only = λ v at. elim at [
      | inl waits ↦ elim (adds.only v waits) [
        | inl before ↦ absurd (subst (In v) free.waiting before)
        | inr same ↦ subst (KeepsTo app method r pc) (sym same) at_once
      ]
      | inr done ↦ absurd (none_done v done)
    ];
  }
    where
      none_done : (v : ℕ) → In v new.done.items → ⊥
      none_done v at = subst (In v) (adds.done ∙ free.done) at

  -- a turn: one that waited is done, and those to which the register keeps its value from it are added
  pub runs_on : (s mid new : Search) (v : ℕ) → mid.marks.items ≡ s.marks.items → s.waiting.items ≡ mid.waiting.items ++ v ∷ [] →
      mid.done.items ≡ s.done.items ++ v ∷ [] → Adds (Keeps app method r v) mid new → Searched s → Searched new
  runs_on s mid new v marks waited done adds so_far = record {
    first = adds.kept pc (ap (λ ms. is_marked ms pc) marks ∙ so_far.first);
    listed = λ w at. elim (adds.waits w at) [
      | inl before ↦ elim (so_far.listed w (sym (ap (λ ms. is_marked ms w) marks) ∙ before)) [
        | inl waits ↦ elim (in_either w mid.waiting.items (v ∷ []) (subst (In w) waited waits)) [
          | inl still ↦ inl (adds.stays w still)
          | inr now ↦ inr (is_done w (in_back w s.done.items (v ∷ []) now))
        ]
        | inr was ↦ inr (is_done w (in_front w s.done.items (v ∷ []) was))
      ]
      | inr waits ↦ inl waits
    ];
    closed = λ w next at keeps. elim (was_done w at) [
      | inl before ↦ adds.kept next (ap (λ ms. is_marked ms next) marks ∙ so_far.closed w next before keeps)
      | inr same ↦ adds.met next (subst (λ z. Keeps app method r z next) same keeps)
    ];
    only = λ w at. elim at [
      | inl waits ↦ elim (adds.only w waits) [
        | inl before ↦ so_far.only w (inl (subst (In w) (sym waited) (in_front w mid.waiting.items (v ∷ []) before)))
        | inr keeps ↦ further first_one keeps
      ]
      | inr is ↦ elim (was_done w is) [
        | inl before ↦ so_far.only w (inr before)
        | inr same ↦ subst (KeepsTo app method r pc) (sym same) first_one
      ]
    ];
  }
    where
      is_done : (w : ℕ) → In w (s.done.items ++ v ∷ []) → In w new.done.items
      is_done w at = subst (In w) (sym (adds.done ∙ done)) at

      was_done : (w : ℕ) → In w new.done.items → In w s.done.items ⊎ (w ≡ v)
      was_done w at = elim (in_either w s.done.items (v ∷ []) (subst (In w) (adds.done ∙ done) at)) [
        | inl before ↦ inl before
        | inr now ↦ elim now [ inl same ↦ inr same | inr none ↦ absurd none ]
      ]

      first_one : KeepsTo app method r pc v
      first_one = so_far.only v (inl (subst (In v) (sym waited) (in_back v mid.waiting.items (v ∷ []) (inl refl))))

  -- nothing was taken, so nothing waits
  pub settles : (s end : Search) (n m : ℕ) → end.marks.items ≡ s.marks.items → end.done.items ≡ s.done.items → s.waiting.items ≡ end.waiting.items ++ [] → (n ≡ 0) × (m ≡ 0) →
      end.waiting.items ≡ take (n - 1) s.waiting.items → Searched s → IsSettled end
  settles s end n m marks done taken empty rest so_far = record {
    waiting = left;
    marks = λ v at. elim (so_far.listed v (sym (ap (λ ms. is_marked ms v) marks) ∙ at)) [
      | inl waits ↦ absurd (subst (In v) (nothing_was s.waiting.items end.waiting.items left taken) waits)
      | inr is ↦ subst (In v) (sym done) is
    ];
  }
    where
      left : end.waiting.items ≡ []
      left = nothing_left n s.waiting.items end.waiting.items empty.0 rest

  pub has_met : (s end : Search) (n m : ℕ) → end.done.items ≡ s.done.items → s.waiting.items ≡ end.waiting.items ++ [] → (n ≡ 0) × (m ≡ 0) →
      end.waiting.items ≡ take (n - 1) s.waiting.items → Searched s → AreMet app method r pc end.done.items
  has_met s end n m done taken empty rest so_far = subst (AreMet app method r pc) (sym done) (record {
    first = is_done pc so_far.first;
    closed = λ v next at keeps. is_done next (so_far.closed v next at keeps);
    only = λ v at. so_far.only v (inr at);
  })
    where
      is_done : (v : ℕ) → is_marked s.marks.items v ≡ true → In v s.done.items
      is_done v at = elim (so_far.listed v at) [
        | inl waits ↦ absurd (subst (In v) (nothing_was s.waiting.items end.waiting.items (nothing_left n s.waiting.items end.waiting.items empty.0 rest) taken) waits)
        | inr is ↦ is
      ]

  -- those of what it has met whose steps read the register are its readers
  pub just_readers : ReadersAreMet → (met readers : List ℕ) → AreMet app method r pc met → readers ≡ readers_among app method r met → (u : ℕ) → In u readers ↔ ReadAt app method r pc u
  just_readers law met readers are among u = (
    λ at.
        let h = from_filter (is_read_at app method r) u met (subst (In u) among at) in
        (law app method r pc met are u).1 (h.1, tells_reads app method r u h.0),
    λ read.
        let h = (law app method r pc met are u).0 read in
        subst (In u) (sym among) (in_filter (is_read_at app method r) u met (reads_told app method r u h.1) h.0),
  )

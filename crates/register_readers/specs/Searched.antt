-- What a search has met.
use Rattle.std.specs.Prelude.{◌≡◌, ◌⊎◌, ℕ, Bool, true, false, List, [], Some, None, filter, slice_index_or}
use Rattle.app_machine.specs.declared.app.App.{App}
use Rattle.app_machine.specs.Lookups.{step_at}
use Rattle.app_machine.specs.State.{holds}
use Rattle.vet_base.specs.Members.{In}
use Rattle.cell_rules.specs.Reading.{reads}
use Rattle.register_readers.specs.declared.search.Search.{Search}

-- whether there is a mark at the index, where none stands beyond the marks
abbrev pub is_marked : List Bool → ℕ → Bool
is_marked marks v = slice_index_or marks v false

-- the marks are as before at each index
pub record IsLonger (old new : List Bool) : Type 0 where
  pub at : (v : ℕ) → is_marked new v ≡ is_marked old v

-- none of these is marked any more, and no other is marked besides
pub record Unmarks (pcs : List ℕ) (old new : List Bool) : Type 0 where
  pub gone : (v : ℕ) → In v pcs → is_marked new v ≡ false
  pub others : (v : ℕ) → is_marked old v ≡ false → is_marked new v ≡ false

-- nothing is marked, and nothing waits or is done
pub record IsFree (s : Search) : Type 0 where
  pub marks : (v : ℕ) → is_marked s.marks.items v ≡ false
  pub waiting : s.waiting.items ≡ []
  pub done : s.done.items ≡ []

-- nothing waits, and what is marked is done
pub record IsSettled (s : Search) : Type 0 where
  pub waiting : s.waiting.items ≡ []
  pub marks : (v : ℕ) → is_marked s.marks.items v ≡ true → In v s.done.items

-- those of which P holds are added: what was not marked before is marked and waits
pub record Adds (P : ℕ → Type 0) (old new : Search) : Type 0 where
  pub done : new.done.items ≡ old.done.items
  pub kept : (v : ℕ) → is_marked old.marks.items v ≡ true → is_marked new.marks.items v ≡ true
  pub stays : (v : ℕ) → In v old.waiting.items → In v new.waiting.items
  pub met : (v : ℕ) → P v → is_marked new.marks.items v ≡ true
  pub waits : (v : ℕ) → is_marked new.marks.items v ≡ true → (is_marked old.marks.items v ≡ true) ⊎ In v new.waiting.items
  pub only : (v : ℕ) → In v new.waiting.items → In v old.waiting.items ⊎ P v

-- whether the step at the address reads the register
abbrev pub is_read_at : App → ℕ → ℕ → ℕ → Bool
is_read_at app method r pc = elim (step_at app method pc) [ None ↦ false | Some step ↦ holds (reads step.act) r ]

-- those of the addresses whose steps read the register
abbrev pub readers_among : App → ℕ → ℕ → List ℕ → List ℕ
readers_among app method r pcs = filter (is_read_at app method r) pcs

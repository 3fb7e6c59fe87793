-- What is added to those that a search has met.
use Rattle.std.proofs.Common.{◌≡◌, ◌≢◌, ◌⊎◌, ℕ, zero, suc, ◌+◌, ◌<◌, ◌≤◌, Bool, true, false, IsFalse, List, [], ◌∷◌, ◌++◌, length, take, get_or, set, Some, None, refl, sym, ap, subst, ◌∙◌, inl, inr, arith}
use Rattle.std.specs.Prelude.{◌==◌}
use Rattle.std.proofs.lemmas.Bool.{cases_eq}
use Rattle.std.proofs.lemmas.List.{take_more, take_all, get_or-set_same, get_or-set_other}
use Rattle.std.proofs.lemmas.Option.{none-some, same_Some}
use Rattle.app_machine.specs.declared.method.Step.{Step}
use Rattle.app_machine.specs.declared.app.App.{App}
use Rattle.app_machine.specs.Local.{writes}
use Rattle.app_machine.specs.Lookups.{step_at}
use Rattle.app_machine.specs.State.{exception_register}
use Rattle.vet_base.specs.Members.{In}
use Rattle.vet_base.proofs.Members.{in_front, in_back, in_either}
use Rattle.cell_rules.specs.Searching.{Keeps, to_next, to_handler}
use Rattle.register_readers.specs.declared.search.Search.{Search}
use Rattle.register_readers.specs.Searched.{is_marked, IsLonger, Adds}

-- an element of one element more
pub in_more : {A : Type 0} (xs : List A) (i : ℕ) (d : A) → i < length xs → (y : A) → In y (take (i + 1) xs) → In y (take i xs) ⊎ (y ≡ get_or xs i d)
in_more xs i d within y h = elim (in_either y (take i xs) (get_or xs i d ∷ []) (subst (In y) (take_more xs i d within) h)) [
  | inl old ↦ inl old
  | inr new ↦ elim new [ inl same ↦ inr same | inr none ↦ absurd none ]
]

pub more_in : {A : Type 0} (xs : List A) (i : ℕ) (d : A) → i < length xs → (y : A) → In y (take i xs) ⊎ (y ≡ get_or xs i d) → In y (take (i + 1) xs)
more_in xs i d within y h =
    subst (In y) (sym (take_more xs i d within)) (elim h [ inl old ↦ in_front y (take i xs) (get_or xs i d ∷ []) old | inr same ↦ in_back y (take i xs) (get_or xs i d ∷ []) (inl same) ])

-- room for more marks
pub longer_itself : (marks : List Bool) → IsLonger marks marks
longer_itself marks = record { at = λ v. refl }

unmarked_behind : (marks : List Bool) (v : ℕ) → is_marked (marks ++ false ∷ []) v ≡ is_marked marks v
unmarked_behind [] zero = refl
unmarked_behind [] (suc v) = refl
unmarked_behind (m ∷ ms) zero = refl
unmarked_behind (m ∷ ms) (suc v) = unmarked_behind ms v

pub longer_more : (first old : List Bool) → IsLonger first old → IsLonger first (old ++ false ∷ [])
longer_more first old longer = record { at = λ v. unmarked_behind old v ∙ longer.at v }

-- what stands at an index, whatever would stand for what is not there
same_read : (marks : List Bool) (i : ℕ) (d e : Bool) → i < length marks → get_or marks i d ≡ get_or marks i e
same_read [] i d e within = absurd (omega (arith, within))
same_read (m ∷ ms) zero d e within = refl
same_read (m ∷ ms) (suc i) d e within = same_read ms i d e (omega (arith, within))

-- one is added that was met, and one that was not
pub adds_met : (old new : Search) (pc : ℕ) (b : Bool) → new.done.items ≡ old.done.items → new.waiting.items ≡ old.waiting.items →
    IsLonger old.marks.items new.marks.items → pc < length new.marks.items → b ≡ get_or new.marks.items pc b → b ≡ true → Adds (λ v. v ≡ pc) old new
adds_met old new pc b done waiting longer within is passes = record {
  done = done;
  kept = λ v at. longer.at v ∙ at;
  stays = λ v at. subst (In v) (sym waiting) at;
  met = λ v same. ap (is_marked new.marks.items) same ∙ (same_read new.marks.items pc false b within ∙ (sym is ∙ passes));
  waits = λ v at. inl (sym (longer.at v) ∙ at);
  only = λ v at. inl (subst (In v) waiting at);
}

pub adds_new : (old new : Search) (pc : ℕ) (marks : List Bool) → new.done.items ≡ old.done.items → new.waiting.items ≡ old.waiting.items ++ pc ∷ [] →
    IsLonger old.marks.items marks → pc < length marks → new.marks.items ≡ set marks pc true → Adds (λ v. v ≡ pc) old new
adds_new old new pc marks done waiting longer within is = record {
  done = done;
  kept = λ v at. marked_at v (longer.at v ∙ at);
  stays = λ v at. subst (In v) (sym waiting) (in_front v old.waiting.items (pc ∷ []) at);
  met = λ v same. ap (is_marked new.marks.items) same ∙ here;
  waits = λ v at. elim (cases_eq v pc) [
    | inl same ↦ inr (subst (In v) (sym waiting) (in_back v old.waiting.items (pc ∷ []) (inl same)))
    | inr other ↦ inl (sym (longer.at v) ∙ sym (elsewhere v other) ∙ at)
  ];
  only = λ v at. elim (in_either v old.waiting.items (pc ∷ []) (subst (In v) waiting at)) [
    | inl before ↦ inl before
    | inr now ↦ elim now [ inl same ↦ inr same | inr none ↦ absurd none ]
  ];
}
  where
    here : is_marked new.marks.items pc ≡ true
    here = ap (λ ms. is_marked ms pc) is ∙ get_or-set_same marks pc true false within

    elsewhere : (v : ℕ) → v ≢ pc → is_marked new.marks.items v ≡ is_marked marks v
    elsewhere v other = ap (λ ms. is_marked ms v) is ∙ get_or-set_other marks pc v true false other

    marked_at : (v : ℕ) → is_marked marks v ≡ true → is_marked new.marks.items v ≡ true
    marked_at v at = elim (cases_eq v pc) [ inl same ↦ ap (is_marked new.marks.items) same ∙ here | inr other ↦ elsewhere v other ∙ at ]

-- first these, and then those
pub adds_both : (P Q : ℕ → Type 0) (a b c : Search) → Adds P a b → Adds Q b c → Adds (λ v. P v ⊎ Q v) a c
adds_both P Q a b c first after = record {
  done = after.done ∙ first.done;
  kept = λ v at. after.kept v (first.kept v at);
  stays = λ v at. after.stays v (first.stays v at);
  met = λ v is. elim is [ inl p ↦ after.kept v (first.met v p) | inr q ↦ after.met v q ];
  waits = λ v at. elim (after.waits v at) [
    | inl before ↦ elim (first.waits v before) [ inl old ↦ inl old | inr new ↦ inr (after.stays v new) ]
    | inr new ↦ inr new
  ];
  only = λ v at. elim (after.only v at) [
    | inl before ↦ elim (first.only v before) [ inl old ↦ inl old | inr p ↦ inr (inl p) ]
    | inr q ↦ inr (inr q)
  ];
}

pub adds_as : (P Q : ℕ → Type 0) (a b : Search) → ((v : ℕ) → P v → Q v) → ((v : ℕ) → Q v → P v) → Adds P a b → Adds Q a b
adds_as P Q a b to from adds = record {
  done = adds.done;
  kept = adds.kept;
  stays = adds.stays;
  met = λ v q. adds.met v (from v q);
  waits = adds.waits;
  only = λ v at. elim (adds.only v at) [ inl old ↦ inl old | inr p ↦ inr (to v p) ];
}

nothing : (P : ℕ → Type 0) (s : Search) → ((v : ℕ) → P v → ⊥) → Adds P s s
nothing P s none = record {
  done = refl;
  kept = λ v at. at;
  stays = λ v at. at;
  met = λ v p. absurd (none v p);
  waits = λ v at. inl at;
  only = λ v at. inl at;
}

-- each of a list
pub each_begins : (s : Search) (pcs : List ℕ) → Adds (λ v. In v (take 0 pcs)) s s
each_begins s pcs = nothing (λ v. In v (take 0 pcs)) s (λ v none. none)

pub each_goes_on : (a b c : Search) (pcs : List ℕ) (i : ℕ) → i < length pcs → Adds (λ v. In v (take i pcs)) a b → Adds (λ v. v ≡ get_or pcs i 0) b c →
    Adds (λ v. In v (take (i + 1) pcs)) a c
each_goes_on a b c pcs i within so_far one =
    adds_as (λ v. In v (take i pcs) ⊎ (v ≡ get_or pcs i 0)) (λ v. In v (take (i + 1) pcs)) a c (more_in pcs i 0 within) (in_more pcs i 0 within)
    (adds_both (λ v. In v (take i pcs)) (λ v. v ≡ get_or pcs i 0) a b c so_far one)

pub each_done : (a b : Search) (pcs : List ℕ) (i : ℕ) → length pcs ≤ i → Adds (λ v. In v (take i pcs)) a b → Adds (λ v. In v pcs) a b
each_done a b pcs i past adds = subst (λ xs. Adds (λ v. In v xs) a b) (take_all i pcs past) adds

-- those of a list where a test fails
pub adds_where : (a b : Search) (test : Bool) (pcs : List ℕ) → test ≡ false → Adds (λ v. In v pcs) a b → Adds (λ v. IsFalse test × In v pcs) a b
adds_where a b test pcs fails adds = adds_as (λ v. In v pcs) (λ v. IsFalse test × In v pcs) a b (λ v at. (fails, at)) (λ v h. h.1) adds

pub adds_nowhere : (s : Search) (test : Bool) (pcs : List ℕ) → test ≡ true → Adds (λ v. IsFalse test × In v pcs) s s
adds_nowhere s test pcs passes = nothing (λ v. IsFalse test × In v pcs) s (λ v h. let clash : true ≡ false = sym passes ∙ h.0 in cc)

-- those to which the register keeps its value
module _ (app : App) (method r pc : ℕ) where
  pub keeps_nowhere : (s : Search) → step_at app method pc ≡ None → Adds (Keeps app method r pc) s s
  keeps_nowhere s absent = nothing (Keeps app method r pc) s (λ v k. elim k [
    | to_next at other goes ↦ none-some goes.step (sym absent ∙ goes.there)
    | to_handler other caught ↦ none-some caught.step (sym absent ∙ caught.there)
  ])

  pub keeps_at : (a b c : Search) (step : Step) → step_at app method pc ≡ Some step → Adds (λ v. IsFalse (writes step.act r) × In v step.next) a b →
      Adds (λ v. IsFalse (r == exception_register) × In v step.catches) b c → Adds (Keeps app method r pc) a c
  keeps_at a b c step there next caught =
      adds_as (λ v. (IsFalse (writes step.act r) × In v step.next) ⊎ (IsFalse (r == exception_register) × In v step.catches)) (Keeps app method r pc) a c to from
      (adds_both (λ v. IsFalse (writes step.act r) × In v step.next) (λ v. IsFalse (r == exception_register) × In v step.catches) a b c next caught)
    where
      to : (v : ℕ) → (IsFalse (writes step.act r) × In v step.next) ⊎ (IsFalse (r == exception_register) × In v step.catches) → Keeps app method r pc v
      to v (inl h) = to_next (record { step = step; there = there; same = refl }) h.0 (record { step = step; there = there; next = h.1 })
      to v (inr h) = to_handler h.0 (record { step = step; there = there; catch = h.1 })

      same_step : (other : Step) → step_at app method pc ≡ Some other → other ≡ step
      same_step other is = same_Some other step (sym is ∙ there)

      from : (v : ℕ) → Keeps app method r pc v → (IsFalse (writes step.act r) × In v step.next) ⊎ (IsFalse (r == exception_register) × In v step.catches)
      from v (to_next at other goes) = inl (
        subst (λ (act : Step). IsFalse (writes act.act r)) (same_step at.step at.there) (subst (λ act. IsFalse (writes act r)) (sym at.same) other),
        subst (λ (s : Step). In v s.next) (same_step goes.step goes.there) goes.next,
      )
      from v (to_handler other caught) = inr (other, subst (λ (s : Step). In v s.catches) (same_step caught.step caught.there) caught.catch)

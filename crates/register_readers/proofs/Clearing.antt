-- Marks that are taken away.
use Rattle.std.proofs.Common.{◌≡◌, ℕ, ◌+◌, ◌<◌, ◌≤◌, Bool, true, false, List, [], ◌∷◌, length, take, get_or, set, refl, ap, subst, ◌∙◌, inl, inr}
use Rattle.std.proofs.lemmas.Bool.{cases_eq}
use Rattle.std.proofs.lemmas.List.{take_all, get_or-set_same, get_or-set_other, get_or_past}
use Rattle.register_readers.specs.declared.search.Search.{Search}
use Rattle.register_readers.specs.Searched.{is_marked, IsFree, IsSettled, Unmarks}
use Rattle.register_readers.proofs.Adding.{in_more}

pub unmarks_one : (marks : List Bool) (pc : ℕ) → pc < length marks → Unmarks (pc ∷ []) marks (set marks pc false)
unmarks_one marks pc within = record {
  gone = λ v at. elim at [ inl same ↦ ap (is_marked (set marks pc false)) same ∙ here | inr none ↦ absurd none ];
  others = λ v free. elim (cases_eq v pc) [
    | inl same ↦ ap (is_marked (set marks pc false)) same ∙ here
    | inr other ↦ get_or-set_other marks pc v false false other ∙ free
  ];
}
  where
    here : is_marked (set marks pc false) pc ≡ false
    here = get_or-set_same marks pc false false within

pub unmarks_past : (marks : List Bool) (pc : ℕ) → length marks ≤ pc → Unmarks (pc ∷ []) marks marks
unmarks_past marks pc past = record {
  gone = λ v at. elim at [ inl same ↦ ap (is_marked marks) same ∙ get_or_past marks pc false past | inr none ↦ absurd none ];
  others = λ v free. free;
}

pub unmarks_none : (marks : List Bool) (pcs : List ℕ) → Unmarks (take 0 pcs) marks marks
unmarks_none marks pcs = record { gone = λ v none. absurd none; others = λ v free. free }

pub unmarks_more : (first old new : List Bool) (pcs : List ℕ) (i : ℕ) → i < length pcs → Unmarks (take i pcs) first old → Unmarks (get_or pcs i 0 ∷ []) old new →
    Unmarks (take (i + 1) pcs) first new
unmarks_more first old new pcs i within so_far one = record {
  gone = λ v at. elim (in_more pcs i 0 within v at) [ inl before ↦ one.others v (so_far.gone v before) | inr same ↦ one.gone v (inl same) ];
  others = λ v free. one.others v (so_far.others v free);
}

pub unmarks_all : (first new : List Bool) (pcs : List ℕ) (i : ℕ) → length pcs ≤ i → Unmarks (take i pcs) first new → Unmarks pcs first new
unmarks_all first new pcs i past so_far = subst (λ xs. Unmarks xs first new) (take_all i pcs past) so_far

pub all_cleared : (old new : Search) → IsSettled old → Unmarks old.done.items old.marks.items new.marks.items → new.waiting.items ≡ old.waiting.items → new.done.items ≡ [] → IsFree new
all_cleared old new settled unmarks waiting done = record {
  marks = λ v. by_mark v (is_marked old.marks.items v) refl;
  waiting = waiting ∙ settled.waiting;
  done = done;
}
  where
    by_mark : (v : ℕ) (b : Bool) → is_marked old.marks.items v ≡ b → is_marked new.marks.items v ≡ false
    by_mark v true is = unmarks.gone v (settled.marks v is)
    by_mark v false is = unmarks.others v is

-- From one pc to another a try covers all, some or none: all share its addresses, or it is left for a part of them.
use Rattle.std.proofs.Common.{◌≡◌, ℕ, ◌+◌, ◌<◌, ◌≤◌, true, false, List, [], ◌∷◌, ◌++◌, append_assoc, length, map, take, get_or, refl, sym, ap, ◌∙◌, arith}
use Rattle.std.proofs.lemmas.List.{append-nil, map-append, take-map, take_more}
use Rattle.std.specs.Borrow.{Bor}
use Rattle.std.proofs.lemmas.Bool.Decides.{nat_tests}
use Rattle.dex_tables.specs.declared.dex.RawTry.{RawTry}
use Rattle.dex_code.specs.Next.{addresses, covered, covering, covers, in_order}
use Rattle.dex_code.specs.Handlers.{catches_beside, IsParted}
use Rattle.dex_code.proofs.Ordered.{in_order-in_order, in_order_swapped, in_order-before, in_order-behind}

pub covering-append : (ts us : List RawTry) (pc : ℕ) → covering (ts ++ us) pc ≡ covering ts pc ++ covering us pc
unfolding covering
covering-append [] us pc = refl
covering-append (t ∷ ts) us pc = rw (covering-append ts us pc, append_assoc) refl

pub covering-push : (ts : List RawTry) (t : RawTry) (pc : ℕ) → covering (ts ++ t ∷ []) pc ≡ covering ts pc ++ covered t pc
unfolding covering
covering-push ts t pc = covering-append ts (t ∷ []) pc ∙ ap (λ xs. covering ts pc ++ xs) (append-nil (covered t pc))

-- the tries that references point to, by one more
pub tries_more : (refs : List (Bor RawTry)) (i : ℕ) (r : Bor RawTry) → i < length refs → r ≡ get_or refs i r → take (i + 1) (map (λ t. t.now) refs) ≡ take i (map (λ t. t.now) refs) ++ r.now ∷ []
tries_more refs i r lt is =
    take-map (λ (t : Bor RawTry). t.now) (i + 1) refs
    ∙ ap (map (λ (t : Bor RawTry). t.now)) (take_more refs i r lt)
    ∙ map-append (λ (t : Bor RawTry). t.now) (take i refs) (get_or refs i r ∷ [])
    ∙ ap (λ ts. ts ++ (get_or refs i r).now ∷ []) (sym (take-map (λ (t : Bor RawTry). t.now) i refs))
    ∙ ap (λ (t : Bor RawTry). take i (map (λ t. t.now) refs) ++ t.now ∷ []) (sym is)

-- a loop over the tries adds what covers a pc
pub covering_more : (refs : List (Bor RawTry)) (i : ℕ) (r : Bor RawTry) (before : List ℕ) (pc : ℕ) (found found' : List ℕ) → i < length refs → r ≡ get_or refs i r
    → found ≡ before ++ covering (take i (map (λ t. t.now) refs)) pc → found' ≡ found ++ covered r.now pc
    → found' ≡ before ++ covering (take (i + 1) (map (λ t. t.now) refs)) pc
covering_more refs i r before pc found found' lt is so_far added =
    added
    ∙ ap (λ xs. xs ++ covered r.now pc) so_far
    ∙ append_assoc before (covering (take i (map (λ t. t.now) refs)) pc) (covered r.now pc)
    ∙ ap (λ xs. before ++ xs) (sym (covering-push (take i (map (λ t. t.now) refs)) r.now pc))
    ∙ ap (λ ts. before ++ covering ts pc) (sym (tries_more refs i r lt is))

-- what covers a pc before and behind another covers that one
between : (t : RawTry) (first last pc : ℕ) → covers t first ≡ true → covers t last ≡ true → first ≤ pc → pc ≤ last → covers t pc ≡ true
between t first last pc a b le le' = grind (arith, nat_tests)

all_covered : (t : RawTry) (first last pc : ℕ) → covers t first ≡ true → covers t last ≡ true → first ≤ pc → pc ≤ last → covered t pc ≡ addresses t
all_covered t first last pc a b le le' = rw (between t first last pc a b le le') refl

outside : (t : RawTry) (first last pc : ℕ) → (t.start ≤ last × first < t.start + t.count → ⊥) → first ≤ pc → pc ≤ last → covers t pc ≡ false
outside t first last pc out le le' = grind (arith, nat_tests)

module _ (first last : ℕ) (ts : List RawTry) (shared : List ℕ) (left : List RawTry) (t : RawTry) (parted : IsParted first last ts shared left) where
  -- a try behind the others adds what covers the pc
  with_try : (pc : ℕ) → first ≤ pc → pc ≤ last → in_order ((shared ++ covering left pc) ++ covered t pc) ≡ in_order (covering (ts ++ t ∷ []) pc)
  unfolding catches_beside
  with_try pc le le' = in_order-before _ _ (covered t pc) (parted.same pc le le') ∙ ap in_order (sym (covering-push ts t pc))

  pub try_shared : covers t first ≡ true → covers t last ≡ true → IsParted first last (ts ++ t ∷ []) (shared ++ addresses t) left
  unfolding catches_beside
  try_shared a b = record { same = λ pc le le'. swapped pc ∙ ap (λ xs. in_order ((shared ++ covering left pc) ++ xs)) (sym (all_covered t first last pc a b le le')) ∙ with_try pc le le' }
    where
      swapped : (pc : ℕ) → in_order ((shared ++ addresses t) ++ covering left pc) ≡ in_order ((shared ++ covering left pc) ++ addresses t)
      swapped pc = ap in_order (append_assoc shared (addresses t) (covering left pc)) ∙ in_order-behind shared _ _ (in_order_swapped (addresses t) (covering left pc)) ∙ ap in_order (sym (append_assoc shared (covering left pc) (addresses t)))

  pub try_left : IsParted first last (ts ++ t ∷ []) shared (left ++ t ∷ [])
  unfolding catches_beside
  try_left = record { same = λ pc le le'. ap (λ xs. in_order (shared ++ xs)) (covering-push left t pc) ∙ ap in_order (sym (append_assoc shared (covering left pc) (covered t pc))) ∙ with_try pc le le' }

  pub try_dropped : (t.start ≤ last × first < t.start + t.count → ⊥) → IsParted first last (ts ++ t ∷ []) shared left
  unfolding catches_beside
  try_dropped out = record { same = λ pc le le'. ap in_order (sym (append-nil (shared ++ covering left pc))) ∙ ap (λ xs. in_order ((shared ++ covering left pc) ++ xs)) (sym (rw (outside t first last pc out le le') refl)) ∙ with_try pc le le' }

pub parted_begins : (first last : ℕ) (shared : List ℕ) (left : List RawTry) → shared ≡ [] → left ≡ [] → IsParted first last [] shared left
unfolding catches_beside covering
parted_begins first last shared left none none' = record { same = λ pc le le'. rw (none, none') refl }

-- where there is nothing more
pub none_more : (more shared : List ℕ) → more ≡ [] → in_order shared ≡ shared → in_order (more ++ shared) ≡ shared
none_more more shared none order = ap (λ xs. in_order (xs ++ shared)) none ∙ order

-- without tries each line has what all share
pub shared_alone : (shared : List ℕ) (pc : ℕ) → in_order shared ≡ shared → catches_beside shared [] pc ≡ shared
unfolding catches_beside covering
shared_alone shared pc order = ap in_order (append-nil shared) ∙ order

-- what was shared, and what the tries add to it
module _ (first last : ℕ) (shared : List ℕ) (ts : List RawTry) (more : List ℕ) (left : List RawTry) (parted : IsParted first last ts more left) (pc : ℕ) (le : first ≤ pc) (le' : pc ≤ last) where
  pub more_shared : catches_beside (in_order (more ++ shared)) left pc ≡ catches_beside shared ts pc
  unfolding catches_beside
  more_shared =
      in_order-before _ _ (covering left pc) (in_order-in_order (more ++ shared) ∙ in_order_swapped more shared)
      ∙ ap in_order (append_assoc shared more (covering left pc))
      ∙ in_order-behind shared _ _ (parted.same pc le le')

-- The lines on which a line rests: what is found so far, a step, and the end.
use Rattle.std.proofs.Common.{◌≡◌, ◌⊎◌, ℕ, ◌-◌, ◌<◌, ◌≤◌, List, [], ◌∷◌, ◌++◌, length, reverse, refl, sym, ap, subst, ◌∙◌, inl, inr, arith}
use Rattle.std.proofs.lemmas.List.{reverse-append}
use Rattle.std.specs.Ordering.{nat_cmp}
use Rattle.vet_base.specs.Ascending.{Ascends}
use Rattle.vet_base.specs.Members.{In}
use Rattle.vet_base.proofs.Members.{in_either, in_front, in_back}
use Rattle.flow_story.specs.declared.line.StoryLine.{StoryLine}
use Rattle.story_finder.specs.Cutting.{AreBefore, AreNeeded, HasMore, IsGreatest, IsPremise, premises_of}
use Rattle.story_finder.proofs.Orders.{less_of}

reverse_cons : (x : ℕ) (xs : List ℕ) → reverse (x ∷ xs) ≡ reverse xs ++ x ∷ []
reverse_cons x xs = reverse-append (x ∷ []) xs

reverse_push : (xs : List ℕ) (x : ℕ) → reverse (xs ++ x ∷ []) ≡ x ∷ reverse xs
reverse_push xs x = reverse-append xs (x ∷ [])

in_reverse : (n : ℕ) (xs : List ℕ) → In n xs → In n (reverse xs)
in_reverse n [] none = absurd none
in_reverse n (x ∷ xs) (inl same) = subst (λ z. In n z) (sym (reverse_cons x xs)) (in_back n (reverse xs) (x ∷ []) (inl same))
in_reverse n (x ∷ xs) (inr later) = subst (λ z. In n z) (sym (reverse_cons x xs)) (in_front n (reverse xs) (x ∷ []) (in_reverse n xs later))

from_reverse : (n : ℕ) (xs : List ℕ) → In n (reverse xs) → In n xs
from_reverse n [] none = absurd none
from_reverse n (x ∷ xs) i = elim (in_either n (reverse xs) (x ∷ []) (subst (λ z. In n z) (reverse_cons x xs) i)) [
  | inl later ↦ inr (from_reverse n xs later)
  | inr last ↦ elim last [ inl same ↦ inl same | inr none ↦ absurd none ]
]

ascends_cons : (x : ℕ) (xs : List ℕ) → ((y : ℕ) → In y xs → x < y) → Ascends nat_cmp xs → Ascends nat_cmp (x ∷ xs)
ascends_cons x [] below up = tt
ascends_cons x (y ∷ ys) below up = (less_of x y (below y (inl refl)), up)

module _ (lines : List StoryLine) (goal : ℕ) where
  -- What is needed so far, the goal first and then downward, and what is wanted, all of which is below.
  pub record Cutting (wanted needed : List ℕ) (upto : ℕ) : Type 0 where
    pub few : upto ≤ length lines
    pub below : (n : ℕ) → In n wanted → (0 < n) × (n ≤ upto)
    pub above : (n : ℕ) → In n needed → (upto < n) × (n ≤ length lines)
    pub fall : Ascends nat_cmp (reverse needed)
    pub closed : (n premise : ℕ) → In n needed → In premise (premises_of lines n) → In premise needed ⊎ In premise wanted
    pub used : (n : ℕ) → In n needed ⊎ In n wanted → (n ≡ goal) ⊎ IsPremise lines needed n
    pub begins : ((needed ≡ []) × In goal wanted) ⊎ ((rest : List ℕ) × (needed ≡ goal ∷ rest))

  pub cutting_begins : (wanted needed : List ℕ) → 0 < goal → goal ≤ length lines → HasMore (goal ∷ []) [] wanted → needed ≡ [] → Cutting wanted needed goal
  cutting_begins wanted needed some there m none = subst (λ z. Cutting wanted z goal) (sym none) (record {
    few = there;
    below = λ n i. let e : n ≡ goal = only n i in (omega (arith, e, some), omega (arith, e));
    above = λ n none. absurd none;
    fall = tt;
    closed = λ n premise none i. absurd none;
    used = λ n i. elim i [ inl none ↦ absurd none | inr w ↦ inl (only n w) ];
    begins = inl (refl, (m.each goal).1 (inl (inl refl)));
  })
    where
      only : (n : ℕ) → In n wanted → n ≡ goal
      only n i = elim ((m.each n).0 i) [ inl new ↦ elim new [ inl same ↦ same | inr none ↦ absurd none ] | inr none ↦ absurd none ]

  -- the greatest that is wanted
  pub greatest_some : (wanted left needed : List ℕ) (upto n : ℕ) → Cutting wanted needed upto → IsGreatest wanted left n → 0 < n
  greatest_some wanted left needed upto n c g = (c.below n (subst (λ z. In n z) (sym g.is) (in_back n left (n ∷ []) (inl refl)))).0

  pub greatest_upto : (wanted left needed : List ℕ) (upto n : ℕ) → Cutting wanted needed upto → IsGreatest wanted left n → n ≤ upto
  greatest_upto wanted left needed upto n c g = (c.below n (subst (λ z. In n z) (sym g.is) (in_back n left (n ∷ []) (inl refl)))).1

  -- the greatest that is wanted is needed, and its premises are wanted
  pub cutting_goes_on : (wanted left more needed : List ℕ) (upto n : ℕ) → AreBefore lines → Cutting wanted needed upto → IsGreatest wanted left n → HasMore (premises_of lines n) left more →
      Cutting more (needed ++ n ∷ []) (n - 1)
  cutting_goes_on wanted left more needed upto n before c g m = record {
    few = omega (arith, n_upto, c.few);
    below = λ w i. elim ((m.each w).0 i) [
      | inl premise ↦ let b = before.each n w premise in let some : 0 < w = b.0 in let less : w < n = b.1 in (some, omega (arith, less))
      | inr old ↦ let some : 0 < w = (c.below w (still w old)).0 in let less : w < n = g.below w old in (some, omega (arith, less))
    ];
    above = λ w i. elim (in_either w needed (n ∷ []) i) [
      | inl old ↦ let a = c.above w old in let less : upto < w = a.0 in let within : w ≤ length lines = a.1 in (omega (arith, less, n_upto), within)
      | inr last ↦ elim last [ inl same ↦ (omega (arith, same, n_some), omega (arith, same, n_upto, c.few)) | inr none ↦ absurd none ]
    ];
    fall = subst (Ascends nat_cmp) (sym (reverse_push needed n)) (ascends_cons n (reverse needed)
        (λ w i. let less : upto < w = (c.above w (from_reverse w needed i)).0 in omega (arith, less, n_upto)) c.fall);
    closed = λ w premise i p. elim (in_either w needed (n ∷ []) i) [
      | inl old ↦ elim (c.closed w premise old p) [ inl there ↦ inl (in_front premise needed (n ∷ []) there) | inr wanted_so ↦ wanted_now premise wanted_so ]
      | inr last ↦ elim last [ inl same ↦ inr ((m.each premise).1 (inl (subst (λ z. In premise (premises_of lines z)) same p))) | inr none ↦ absurd none ]
    ];
    used = λ w i. elim i [
      | inl there ↦ elim (in_either w needed (n ∷ []) there) [
        | inl old ↦ longer w (c.used w (inl old))
        | inr last ↦ elim last [ inl same ↦ longer w (c.used w (inr (subst (λ z. In z wanted) (sym same) there_n))) | inr none ↦ absurd none ]
      ]
      | inr now ↦ elim ((m.each w).0 now) [
        | inl premise ↦ inr (record { of = n; there = in_back n needed (n ∷ []) (inl refl); names = premise })
        | inr old ↦ longer w (c.used w (inr (still w old)))
      ]
    ];
    begins = inr (first needed c.begins c.used);
  }
    where
      there_n : In n wanted
      there_n = subst (λ z. In n z) (sym g.is) (in_back n left (n ∷ []) (inl refl))

      n_some : 0 < n
      n_some = (c.below n there_n).0

      n_upto : n ≤ upto
      n_upto = (c.below n there_n).1

      still : (w : ℕ) → In w left → In w wanted
      still w i = subst (λ z. In w z) (sym g.is) (in_front w left (n ∷ []) i)

      wanted_now : (w : ℕ) → In w wanted → In w (needed ++ n ∷ []) ⊎ In w more
      wanted_now w i = elim (in_either w left (n ∷ []) (subst (λ z. In w z) g.is i)) [
        | inl old ↦ inr ((m.each w).1 (inr old))
        | inr last ↦ inl (in_back w needed (n ∷ []) last)
      ]

      longer : (w : ℕ) → (w ≡ goal) ⊎ IsPremise lines needed w → (w ≡ goal) ⊎ IsPremise lines (needed ++ n ∷ []) w
      longer w (inl same) = inl same
      longer w (inr p) = inr (record { of = p.of; there = in_front p.of needed (n ∷ []) p.there; names = p.names })

      first : (needed : List ℕ) → ((needed ≡ []) × In goal wanted) ⊎ ((rest : List ℕ) × (needed ≡ goal ∷ rest)) → ((w : ℕ) → In w needed ⊎ In w wanted → (w ≡ goal) ⊎ IsPremise lines needed w) →
          (rest : List ℕ) × (needed ++ n ∷ [] ≡ goal ∷ rest)
      first [] b used = elim (used n (inr there_n)) [ inl same ↦ ([], ap (λ z. z ∷ []) same) | inr p ↦ absurd p.there ]
      first (x ∷ xs) (inl b) used = absurd (cc (b.0))
      first (x ∷ xs) (inr b) used = let e : x ≡ goal = cc (b.1) in (xs ++ n ∷ [], ap (λ z. z ∷ xs ++ n ∷ []) e)

  -- nothing is wanted
  pub cutting_is_done : (wanted needed : List ℕ) (upto : ℕ) → Cutting wanted needed upto → wanted ≡ [] → AreNeeded lines goal (reverse needed)
  cutting_is_done wanted needed upto c none = record {
    front = reverse (rest_of c.begins).0;
    ends = ap reverse (rest_of c.begins).1 ∙ reverse_cons goal (rest_of c.begins).0;
    ascend = c.fall;
    within = λ n i. let a = c.above n (from_reverse n needed i) in let less : upto < n = a.0 in let within : n ≤ length lines = a.1 in (omega (arith, less), within);
    closed = λ n premise i p. elim (c.closed n premise (from_reverse n needed i) p) [ inl there ↦ in_reverse premise needed there | inr w ↦ absurd (subst (λ z. In premise z) none w) ];
    used = λ n i. elim (c.used n (inl (from_reverse n needed i))) [ inl same ↦ inl same | inr p ↦ inr (record { of = p.of; there = in_reverse p.of needed p.there; names = p.names }) ];
  }
    where
      rest_of : ((needed ≡ []) × In goal wanted) ⊎ ((rest : List ℕ) × (needed ≡ goal ∷ rest)) → (rest : List ℕ) × (needed ≡ goal ∷ rest)
      rest_of (inl b) = absurd (subst (λ z. In goal z) none b.1)
      rest_of (inr b) = b

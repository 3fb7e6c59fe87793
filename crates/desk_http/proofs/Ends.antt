-- The end of a head stays where it is as more bytes come.
use Rattle.std.proofs.Common.{◌≡◌, ℕ, zero, suc, ◌+◌, ◌≤◌, List, [], ◌++◌, length, take, false, refl, ap, ◌∙◌, arith, below_more, length-append}
use Rattle.std.proofs.lemmas.List.{take-append-le, take-take, length-take-le}
use Rattle.desk_http.specs.Heads.{ends_empty_line, HasNoEnd, IsHeadEnd}

pub no_end_stays : (xs ys : List ℕ) (n : ℕ) → n ≤ length xs → HasNoEnd xs n → HasNoEnd (xs ++ ys) n
no_end_stays xs ys n within none k le = ap ends_empty_line (take-append-le k xs ys (omega arith)) ∙ none k le

pub head_end_stays : (xs ys : List ℕ) (n : ℕ) → IsHeadEnd xs n → IsHeadEnd (xs ++ ys) n
head_end_stays xs ys n end = record {
  within = simp length-append (omega (arith, end.within));
  ends = ap ends_empty_line (take-append-le n xs ys end.within) ∙ end.ends;
  first = λ k lt. ap ends_empty_line (take-append-le k xs ys (omega (arith, end.within))) ∙ end.first k lt;
}

pub no_end_more : (bytes : List ℕ) (n : ℕ) → HasNoEnd bytes n → ends_empty_line (take (n + 1) bytes) ≡ false → HasNoEnd bytes (n + 1)
no_end_more bytes n none here k le = below_more (λ j. ends_empty_line (take j bytes) ≡ false) (n + 1) (λ j lt. none j (omega arith)) here k (omega arith)

nothing_ends : (k : ℕ) → ends_empty_line (take k []) ≡ false
unfolding ends_empty_line
nothing_ends zero = refl
nothing_ends (suc k) = refl

-- no head ends in no bytes
pub no_end_yet : (bytes : List ℕ) (n : ℕ) → bytes ≡ [] → HasNoEnd bytes n
no_end_yet bytes n none k le = ap (λ xs. ends_empty_line (take k xs)) none ∙ nothing_ends k

-- the head by itself ends where it ended
pub head_end_front : (bytes : List ℕ) (n : ℕ) → IsHeadEnd bytes n → IsHeadEnd (take n bytes) n
head_end_front bytes n end = record {
  within = rw (length-take-le n bytes end.within) (omega arith);
  ends = ap ends_empty_line (take-take n n bytes (omega arith)) ∙ end.ends;
  first = λ k lt. ap ends_empty_line (take-take k n bytes (omega arith)) ∙ end.first k lt;
}

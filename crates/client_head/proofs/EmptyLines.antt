-- Where the first empty line of some bytes ends, found by going over them once.
use Rattle.std.proofs.Common.{◌≡◌, ℕ, zero, suc, ◌+◌, ◌-◌, ◌<◌, ◌⊎◌, Bool, true, false, cond, ◌&&◌, ◌||◌, not, List, [], ◌∷◌, ◌++◌, length, take, drop, nat_eq, refl, ap, sym, subst, ◌∙◌, arith, inl, inr, length-append, append_assoc, append-nil}
use Rattle.std.specs.List.{list_all}
use Rattle.std.proofs.lemmas.List.{take-append-le}
use Rattle.std.proofs.Math.Seq.{drop-append_seam}
use Rattle.desk_http.specs.Heads.{ends_empty_line, IsHeadEnd}

-- how bytes end: with a line end, with a line end and CR behind it, or otherwise
pub data Ending : Type 0 where
  inner at_line at_return : Ending

abbrev pub returned : Ending → Ending
returned inner = inner
returned at_line = at_return
returned at_return = inner

-- how they end with one byte more
abbrev pub after : Ending → ℕ → Ending
after s b = cond (nat_eq 10 b) at_line (cond (nat_eq 13 b) (returned s) inner)

-- whether a line feed here ends an empty line
abbrev pub closes : Ending → Bool
closes inner = false
closes at_line = true
closes at_return = true

abbrev pub ends_at : Ending → ℕ → Bool
ends_at s b = nat_eq 10 b && closes s

abbrev pub ending : Ending → List ℕ → Ending
ending s [] = s
ending s (b ∷ bs) = ending (after s b) bs

-- no empty line ends within the bytes
abbrev pub quiet : Ending → List ℕ → Bool
quiet s [] = true
quiet s (b ∷ bs) = not (ends_at s b) && quiet (after s b) bs

ending-append : (s : Ending) (xs ys : List ℕ) → ending s (xs ++ ys) ≡ ending (ending s xs) ys
ending-append s [] ys = refl
ending-append s (x ∷ xs) ys = ending-append (after s x) xs ys

-- a list is empty, or has a last element
last_of : (xs : List ℕ) → (xs ≡ []) ⊎ ((ys : List ℕ) × (a : ℕ) × (xs ≡ ys ++ a ∷ []))
last_of [] = inl refl
last_of (x ∷ xs) = elim (last_of xs) [ inl none ↦ inr ([], x, ap (λ zs. x ∷ zs) none) | inr some ↦ inr (x ∷ some.0, some.1, ap (λ zs. x ∷ zs) some.2) ]

one_byte : (p : Bool) → ((p && false) || (p && false)) ≡ (p && false)
one_byte true = refl
one_byte false = refl

two_bytes : (a10 a13 b10 b13 : Bool) → ((a10 && (b10 && true)) || (a10 && (b13 && false))) ≡ (b10 && closes (cond a10 at_line (cond a13 inner inner)))
two_bytes true a13 true b13 = refl
two_bytes true a13 false true = refl
two_bytes true a13 false false = refl
two_bytes false true true b13 = refl
two_bytes false true false b13 = refl
two_bytes false false true b13 = refl
two_bytes false false false b13 = refl

three_bytes : (s : Ending) (z10 z13 a10 a13 b10 : Bool)
    → ((a10 && (b10 && true)) || (z10 && (a13 && (b10 && true)))) ≡ (b10 && closes (cond a10 at_line (cond a13 (returned (cond z10 at_line (cond z13 (returned s) inner))) inner)))
three_bytes s z10 z13 true a13 true = refl
three_bytes s false z13 true a13 false = refl
three_bytes s true z13 true true false = refl
three_bytes s true z13 true false false = refl
three_bytes s false z13 false false true = refl
three_bytes s false z13 false false false = refl
three_bytes s true z13 false false true = refl
three_bytes s true z13 false false false = refl
three_bytes s true z13 false true true = refl
three_bytes s true z13 false true false = refl
three_bytes s false z13 false true false = refl
three_bytes s false false false true true = refl
three_bytes inner false true false true true = refl
three_bytes at_line false true false true true = refl
three_bytes at_return false true false true true = refl

-- the last two and the last three bytes
last_two : (ys : List ℕ) (z a b : ℕ) → drop (length (((ys ++ z ∷ []) ++ a ∷ []) ++ b ∷ []) - 2) (((ys ++ z ∷ []) ++ a ∷ []) ++ b ∷ []) ≡ a ∷ b ∷ []
last_two ys z a b =
    let front = ys ++ z ∷ [] in
    let count : length ((front ++ a ∷ []) ++ b ∷ []) - 2 ≡ length front = simp (length-append) (omega arith) in
    ap (λ n. drop n ((front ++ a ∷ []) ++ b ∷ [])) count ∙ ap (drop (length front)) (append_assoc front (a ∷ []) (b ∷ [])) ∙ drop-append_seam front (a ∷ b ∷ [])

last_three : (ys : List ℕ) (z a b : ℕ) → drop (length (((ys ++ z ∷ []) ++ a ∷ []) ++ b ∷ []) - 3) (((ys ++ z ∷ []) ++ a ∷ []) ++ b ∷ []) ≡ z ∷ a ∷ b ∷ []
last_three ys z a b =
    let count : length (((ys ++ z ∷ []) ++ a ∷ []) ++ b ∷ []) - 3 ≡ length ys = simp (length-append) (omega arith) in
    let is : ((ys ++ z ∷ []) ++ a ∷ []) ++ b ∷ [] ≡ ys ++ z ∷ a ∷ b ∷ [] = simp append_assoc in
    ap (λ n. drop n (((ys ++ z ∷ []) ++ a ∷ []) ++ b ∷ [])) count ∙ ap (drop (length ys)) is ∙ drop-append_seam ys (z ∷ a ∷ b ∷ [])

-- whether bytes end with an empty line is told by their last byte and by how those before it end
last_three_tell : (ys : List ℕ) (z a b : ℕ) → ends_empty_line (((ys ++ z ∷ []) ++ a ∷ []) ++ b ∷ []) ≡ ends_at (ending inner ((ys ++ z ∷ []) ++ a ∷ [])) b
unfolding ends_empty_line
last_three_tell ys z a b =
    let told : ending inner ((ys ++ z ∷ []) ++ a ∷ []) ≡ after (after (ending inner ys) z) a =
    ending-append inner (ys ++ z ∷ []) (a ∷ []) ∙ ap (λ s. after s a) (ending-append inner ys (z ∷ [])) in
    rw (last_two ys z a b, last_three ys z a b, told) (three_bytes (ending inner ys) (nat_eq 10 z) (nat_eq 13 z) (nat_eq 10 a) (nat_eq 13 a) (nat_eq 10 b))

last_two_tell : (a b : ℕ) → ends_empty_line (a ∷ b ∷ []) ≡ ends_at (ending inner (a ∷ [])) b
unfolding ends_empty_line
last_two_tell a b = two_bytes (nat_eq 10 a) (nat_eq 13 a) (nat_eq 10 b) (nat_eq 13 b)

last_one_tells : (b : ℕ) → ends_empty_line (b ∷ []) ≡ ends_at inner b
unfolding ends_empty_line
last_one_tells b = one_byte (nat_eq 10 b)

pub last_tells : (xs : List ℕ) (b : ℕ) → ends_empty_line (xs ++ b ∷ []) ≡ ends_at (ending inner xs) b
last_tells xs b = elim (last_of xs) [
  | inl none ↦ subst (λ (ys : List ℕ). ends_empty_line (ys ++ b ∷ []) ≡ ends_at (ending inner ys) b) (sym none) (last_one_tells b)
  | inr some ↦ subst (λ (ys : List ℕ). ends_empty_line (ys ++ b ∷ []) ≡ ends_at (ending inner ys) b) (sym some.2) (two_or_more some.0 some.1)
]
  where
    two_or_more : (ys : List ℕ) (a : ℕ) → ends_empty_line ((ys ++ a ∷ []) ++ b ∷ []) ≡ ends_at (ending inner (ys ++ a ∷ [])) b
    two_or_more ys a = elim (last_of ys) [
      | inl none ↦ subst (λ (zs : List ℕ). ends_empty_line ((zs ++ a ∷ []) ++ b ∷ []) ≡ ends_at (ending inner (zs ++ a ∷ [])) b) (sym none) (last_two_tell a b)
      | inr some ↦ subst (λ (zs : List ℕ). ends_empty_line ((zs ++ a ∷ []) ++ b ∷ []) ≡ ends_at (ending inner (zs ++ a ∷ [])) b) (sym some.2) (last_three_tell some.0 some.1 a b)
    ]

not_true : (b : Bool) (rest : Bool) → (not b && rest) ≡ true → b ≡ false
not_true true rest h = cc
not_true false rest h = refl

then_rest : (b : Bool) (rest : Bool) → (not b && rest) ≡ true → rest ≡ true
then_rest true rest h = cc
then_rest false rest h = h

-- no front of quiet bytes ends with an empty line
fronts_quiet : (front xs : List ℕ) → ends_empty_line front ≡ false → quiet (ending inner front) xs ≡ true → (k : ℕ) → ends_empty_line (front ++ take k xs) ≡ false
fronts_quiet front [] none silent zero = ap ends_empty_line (append-nil front) ∙ none
fronts_quiet front [] none silent (suc k) = ap ends_empty_line (append-nil front) ∙ none
fronts_quiet front (x ∷ xs) none silent zero = ap ends_empty_line (append-nil front) ∙ none
fronts_quiet front (x ∷ xs) none silent (suc k) =
    let s = ending inner front in
    let here : ends_empty_line (front ++ x ∷ []) ≡ false = last_tells front x ∙ not_true (ends_at s x) (quiet (after s x) xs) silent in
    let rest : quiet (after s x) xs ≡ true = then_rest (ends_at s x) (quiet (after s x) xs) silent in
    let more : quiet (ending inner (front ++ x ∷ [])) xs ≡ true = ap (λ e. quiet e xs) (ending-append inner front (x ∷ [])) ∙ rest in
    ap ends_empty_line (sym (append_assoc front (x ∷ []) (take k xs))) ∙ fronts_quiet (front ++ x ∷ []) xs here more k

nothing_ends : ends_empty_line [] ≡ false
unfolding ends_empty_line
nothing_ends = refl

-- a head ends with the line feed that ends the first empty line
pub head_ends : (front rest : List ℕ) → quiet inner front ≡ true → closes (ending inner front) ≡ true
    → IsHeadEnd ((front ++ 10 ∷ []) ++ rest) (length (front ++ 10 ∷ []))
head_ends front rest silent closed = record {
  within = simp length-append (omega arith);
  ends = ap ends_empty_line (whole (front ++ 10 ∷ [])) ∙ last_tells front 10 ∙ closed;
  first = λ k lt. ap ends_empty_line (before k lt) ∙ fronts_quiet [] front nothing_ends silent k;
}
  where
    whole : (xs : List ℕ) → take (length xs) (xs ++ rest) ≡ xs
    whole [] = refl
    whole (x ∷ xs) = ap (λ ys. x ∷ ys) (whole xs)

    before : (k : ℕ) → k < length (front ++ 10 ∷ []) → take k ((front ++ 10 ∷ []) ++ rest) ≡ take k front
    before k lt =
        let size : length (front ++ 10 ∷ []) ≡ length front + 1 = length-append front (10 ∷ []) in
        take-append-le k (front ++ 10 ∷ []) rest (omega arith) ∙ take-append-le k front (10 ∷ []) (omega (arith, size))

-- a byte within a line
abbrev pub is_inner : ℕ → Bool
is_inner b = not (nat_eq 10 b) && not (nat_eq 13 b)

inner_after : (s : Ending) (b : ℕ) → is_inner b ≡ true → (after s b ≡ inner) × (ends_at s b ≡ false)
inner_after s b h = by (nat_eq 10 b) (nat_eq 13 b) h
  where
    by : (b10 b13 : Bool) → (not b10 && not b13) ≡ true → (cond b10 at_line (cond b13 (returned s) inner) ≡ inner) × ((b10 && closes s) ≡ false)
    by true b13 e = absurd (let clash : false ≡ true = e in cc)
    by false true e = absurd (let clash : false ≡ true = e in cc)
    by false false e = (refl, refl)

both : (a b : Bool) → (a && b) ≡ true → (a ≡ true) × (b ≡ true)
both true b h = (refl, h)
both false b h = absurd (let clash : false ≡ true = h in cc)

-- a line that is not empty goes by: what counts is what stands behind it
line_quiet : (s : Ending) (l rest : List ℕ) → list_all is_inner l ≡ true → quiet inner rest ≡ true → quiet inner (l ++ rest) ≡ true
line_quiet s [] rest all silent = silent
line_quiet s (b ∷ l) rest all silent =
    let parts = both (is_inner b) (list_all is_inner l) all in
    let one = inner_after inner b parts.0 in
    rw (one.1, one.0) (line_quiet s l rest parts.1 silent)

line_ending : (l rest : List ℕ) → list_all is_inner l ≡ true → ending inner (l ++ rest) ≡ ending inner rest
line_ending [] rest all = refl
line_ending (b ∷ l) rest all =
    let parts = both (is_inner b) (list_all is_inner l) all in
    ap (λ s. ending s (l ++ rest)) (inner_after inner b parts.0).0 ∙ line_ending l rest parts.1

-- what follows a line that is not empty and its end
pub line_goes_by : (s : Ending) (l rest : List ℕ) → list_all is_inner l ≡ true → 0 < length l → quiet at_line rest ≡ true
    → quiet s (l ++ 13 ∷ 10 ∷ rest) ≡ true
line_goes_by s [] rest all some silent = absurd (omega arith)
line_goes_by s (b ∷ l) rest all some silent =
    let parts = both (is_inner b) (list_all is_inner l) all in
    let one = inner_after s b parts.0 in
    rw (one.1, one.0) (line_quiet s l (13 ∷ 10 ∷ rest) parts.1 silent)

pub line_ends : (s : Ending) (l rest : List ℕ) → list_all is_inner l ≡ true → 0 < length l
    → ending s (l ++ 13 ∷ 10 ∷ rest) ≡ ending at_line rest
line_ends s [] rest all some = absurd (omega arith)
line_ends s (b ∷ l) rest all some =
    let parts = both (is_inner b) (list_all is_inner l) all in
    ap (λ e. ending e (l ++ 13 ∷ 10 ∷ rest)) (inner_after s b parts.0).0 ∙ line_ending l (13 ∷ 10 ∷ rest) parts.1

-- Bytes that stay: what a crash leaves of them, and that writes and cuts behind them leave them so.
use Rattle.std.proofs.Common.{◌≡◌, ◌<◌, ◌≤◌, inl, inr, ℕ, zero, suc, ◌+◌, List, [], ◌∷◌, ◌++◌, length, get_or, take, drop, refl, sym, ◌∙◌, ap, arith, Some, append_assoc, length-append}
use Rattle.std.specs.List.{slice_get}
use Rattle.std.proofs.lemmas.List.{take_at, drop_at, drop_more, take_all, drop_all, append-nil, length-drop, length-take, take-append-drop}
use Rattle.disks.specs.Disks.{Moment, MayLeave, IsWithin, IsTorn, IsFrayed, solid, wrote, shortened, over}
use Rattle.gated_log.specs.Ends.{IsFirm, IsFirmBut}

some_same : {x y : ℕ} → Some x ≡ Some y → x ≡ y
some_same e = cc

-- lists with the same elements below a place have the same front
pub same_front : (k : ℕ) (xs ys : List ℕ) → k ≤ length xs → k ≤ length ys
    → ((i : ℕ) → i < k → slice_get xs i ≡ slice_get ys i) → take k xs ≡ take k ys
same_front zero xs ys le le2 same = refl
same_front (suc k) [] ys le le2 same = absurd (omega (arith, le))
same_front (suc k) (x ∷ xs) [] le le2 same = absurd (omega (arith, le2))
same_front (suc k) (x ∷ xs) (y ∷ ys) le le2 same =
    let head : x ≡ y = some_same (same 0 (omega arith)) in
    let tail = same_front k xs ys (omega (arith, le)) (omega (arith, le2)) (λ i lt. same (suc i) (omega (arith, lt))) in
    λ i. head i ∷ tail i

-- lists of one length with the same elements from a place on have the same rest
pub same_rest : (k : ℕ) (xs ys : List ℕ) → length xs ≡ length ys
    → ((i : ℕ) → k ≤ i → i < length xs → slice_get xs i ≡ slice_get ys i) → drop k xs ≡ drop k ys
same_rest zero xs ys size same =
    sym (take_all (length xs) xs (omega arith))
    ∙ same_front (length xs) xs ys (omega arith) (omega (arith, size)) (λ i lt. same i (omega arith) lt)
    ∙ take_all (length xs) ys (omega (arith, size))
same_rest (suc k) [] [] size same = refl
same_rest (suc k) [] (y ∷ ys) size same = absurd (omega (arith, size))
same_rest (suc k) (x ∷ xs) [] size same = absurd (omega (arith, size))
same_rest (suc k) (x ∷ xs) (y ∷ ys) size same =
    same_rest k xs ys (omega (arith, size)) (λ i le lt. same (suc i) (omega (arith, le)) (omega (arith, lt)))

-- a front of equal fronts
pub front_of_front : (k n : ℕ) (xs ys : List ℕ) → k ≤ n → take n xs ≡ take n ys → take k xs ≡ take k ys
front_of_front zero n xs ys le e = refl
front_of_front (suc k) zero xs ys le e = absurd (omega (arith, le))
front_of_front (suc k) (suc n) [] [] le e = refl
front_of_front (suc k) (suc n) [] (y ∷ ys) le e = absurd cc
front_of_front (suc k) (suc n) (x ∷ xs) [] le e = absurd cc
front_of_front (suc k) (suc n) (x ∷ xs) (y ∷ ys) le e =
    let head : x ≡ y = cc in
    let tail : take n xs ≡ take n ys = cc in
    let front = front_of_front k n xs ys (omega (arith, le)) tail in
    λ i. head i ∷ front i

pub firm_left : (k : ℕ) (m : Moment) (left : List ℕ) → IsFirm k m → MayLeave m left → take k left ≡ take k m.bytes
firm_left k m left firm may =
    let stays = firm.stays in
    let long = may.no_shorter in
    same_front k left m.bytes (omega arith) firm.there (λ i lt. may.same i (omega (arith, lt)) (firm.apart i lt))

pub firm_long : (k : ℕ) (m : Moment) (left : List ℕ) → IsFirm k m → MayLeave m left → k ≤ length left
firm_long k m left firm may = omega (arith, firm.stays, may.no_shorter)

apart_from : (k at n : ℕ) (loose : List (ℕ × ℕ)) → k ≤ at → ((i : ℕ) → i < k → IsWithin loose i → ⊥)
    → (i : ℕ) → i < k → IsWithin ((at, at + n) ∷ loose) i → ⊥
apart_from k at n loose le apart i lt (inl within) = omega (arith, le, lt, within.0)
apart_from k at n loose le apart i lt (inr within) = apart i lt within

pub firm_wrote : (k : ℕ) (m : Moment) (at n : ℕ) (torn : List ℕ) → IsFirm k m → k ≤ at → IsTorn m.bytes at n torn
    → IsFirm k (wrote m at n torn)
firm_wrote k m at n torn firm le is = record {
  stays = firm.stays;
  there = omega (arith, firm.there, is.no_shorter);
  apart = apart_from k at n m.loose le firm.apart;
}

pub firm_cut : (k : ℕ) (m : Moment) (len : ℕ) (frayed : List ℕ) → IsFirm k m → k ≤ len → IsFrayed m.bytes len frayed
    → IsFirm k (shortened m len frayed)
firm_cut k m len frayed firm le is = record {
  stays = omega (arith, firm.stays, le);
  there = omega (arith, is.no_shorter, le);
  apart = firm.apart;
}

pub firm_solid : (k : ℕ) (bytes : List ℕ) → k ≤ length bytes → IsFirm k (solid bytes)
firm_solid k bytes le = record { stays = le; there = le; apart = λ i lt none. none }

-- what stays is left as it is
pub solid_left : (bytes left : List ℕ) → MayLeave (solid bytes) left → left ≡ bytes
solid_left bytes left may =
    let size : length left ≡ length bytes = omega (arith, may.no_shorter, may.no_longer) in
    sym (take_all (length bytes) left (omega (arith, size)))
    ∙ firm_left (length bytes) (solid bytes) left (firm_solid (length bytes) bytes (omega arith)) may
    ∙ take_all (length bytes) bytes (omega arith)

-- a list by what stands before, at and behind a place
pub split_at : (at : ℕ) (xs : List ℕ) → at < length xs → xs ≡ take at xs ++ get_or xs at 0 ∷ drop (at + 1) xs
split_at at xs lt = sym (take-append-drop at xs) ∙ ap (λ (l : List ℕ). take at xs ++ l) (drop_more xs at 0 lt)

pub but_left : (at : ℕ) (m : Moment) (left : List ℕ) → IsFirmBut at m → MayLeave m left
    → (g : ℕ) × (left ≡ take at m.bytes ++ g ∷ drop (at + 1) m.bytes)
but_left at m left firm may =
    let size : length left ≡ length m.bytes = omega (arith, firm.least, firm.most, may.no_shorter, may.no_longer) in
    let there = firm.there in
    let least = firm.least in
    let front : take at left ≡ take at m.bytes =
    same_front at left m.bytes (omega arith) (omega arith)
    (λ i lt. may.same i (omega (arith, lt)) (λ w. let is = firm.alone i w in omega (arith, is, lt))) in
    let rest : drop (at + 1) left ≡ drop (at + 1) m.bytes =
    same_rest (at + 1) left m.bytes size
    (λ i le lt. may.same i (omega (arith, lt)) (λ w. let is = firm.alone i w in omega (arith, is, le))) in
    let g = get_or left at 0 in (
      g,
      split_at at left (omega arith) ∙ ap (λ (l : List ℕ). l ++ g ∷ drop (at + 1) left) front
          ∙ ap (λ (l : List ℕ). take at m.bytes ++ g ∷ l) rest,
    )

pub but_torn : (at : ℕ) (m : Moment) (torn : List ℕ) → IsFirmBut at m → IsTorn m.bytes at 1 torn
    → IsFirmBut at (wrote m at 1 torn) × ((g : ℕ) × (torn ≡ take at m.bytes ++ g ∷ drop (at + 1) m.bytes))
but_torn at m torn firm is =
    let there = firm.there in
    let size : length torn ≡ length m.bytes = omega (arith, is.no_shorter, is.no_longer) in
    let g = get_or torn at 0 in (
      record {
        there = omega arith;
        least = omega (arith, firm.least);
        most = omega (arith, firm.most);
        alone = alone;
      },
      (
        g,
        split_at at torn (omega arith) ∙ ap (λ (l : List ℕ). l ++ g ∷ drop (at + 1) torn) is.before
            ∙ ap (λ (l : List ℕ). take at m.bytes ++ g ∷ l) is.behind,
      ),
    )
  where
    alone : (i : ℕ) → IsWithin ((at, at + 1) ∷ m.loose) i → i ≡ at
    alone i (inl within) = omega (arith, within.0, within.1)
    alone i (inr within) = firm.alone i within

pub but_solid : (at : ℕ) (bytes : List ℕ) → at < length bytes → IsFirmBut at (solid bytes)
but_solid at bytes lt = record { there = lt; least = refl; most = refl; alone = λ i none. absurd none }

-- what is written over is torn in no part
pub over_torn : (old : List ℕ) (at : ℕ) (bytes : List ℕ) → at ≤ length old → IsTorn old at (length bytes) (over old at bytes)
over_torn old at bytes le =
    let rest = drop (at + length bytes) old in
    let size : length (take at old) ≡ at = omega (arith, le, length-take at old) in
    let whole : length (over old at bytes) ≡ at + (length bytes + length rest) =
    omega (arith, size, length-append (take at old) (bytes ++ rest), length-append bytes rest) in
    let left = length-drop (at + length bytes) old in
    record {
      before = take_at (take at old) (bytes ++ rest) at size;
      behind = ap (drop (at + length bytes)) (sym (append_assoc (take at old) bytes rest))
          ∙ drop_at (take at old ++ bytes) rest (at + length bytes) (omega (arith, size, length-append (take at old) bytes));
      no_shorter = omega (arith, whole, left);
      no_longer = omega (arith, whole, left, le);
    }

-- what is cut whole is frayed in no part
pub cut_frayed : (old : List ℕ) (len : ℕ) → len ≤ length old → IsFrayed old len (take len old)
cut_frayed old len le =
    let size : length (take len old) ≡ len = omega (arith, le, length-take len old) in
    record {
      front = take_all len (take len old) (omega (arith, size));
      no_shorter = omega (arith, size);
      no_longer = omega (arith, size, le);
    }

-- one byte written over
pub over_one : (front : List ℕ) (k old new : ℕ) (rest : List ℕ) → length front ≡ k
    → over (front ++ old ∷ rest) k (new ∷ []) ≡ front ++ new ∷ rest
over_one front k old new rest size =
    let back : drop (k + 1) (front ++ old ∷ rest) ≡ rest =
    ap (drop (k + 1)) (sym (append_assoc front (old ∷ []) rest))
    ∙ drop_at (front ++ old ∷ []) rest (k + 1) (omega (arith, size, length-append front (old ∷ []))) in
    ap (λ (l : List ℕ). l ++ ((new ∷ []) ++ drop (k + 1) (front ++ old ∷ rest))) (take_at front (old ∷ rest) k size)
    ∙ ap (λ (l : List ℕ). front ++ new ∷ l) back

-- bytes written behind the end
pub over_end : (old : List ℕ) (k : ℕ) (bytes : List ℕ) → length old ≡ k → over old k bytes ≡ old ++ bytes
over_end old k bytes size =
    ap (λ (l : List ℕ). l ++ (bytes ++ drop (k + length bytes) old)) (take_all k old (omega (arith, size)))
    ∙ ap (λ (l : List ℕ). old ++ (bytes ++ l)) (drop_all (k + length bytes) old (omega (arith, size)))
    ∙ ap (λ (l : List ℕ). old ++ l) (append-nil bytes)

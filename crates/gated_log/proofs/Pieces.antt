-- What was read piece by piece.
use Rattle.std.proofs.Common.{◌≡◌, ◌<◌, ◌≤◌, ◌-◌, ℕ, zero, suc, ◌+◌, List, ◌++◌, length, take, drop, refl, sym, ◌∙◌, ap, subst, arith, append_assoc, length-append, Option, Some, None, Result, Ok, Err}
use Rattle.std.specs.Prelude.{IfSome, OnErr}
use Rattle.std.proofs.lemmas.List.{take_at, take_all, drop-drop, length-drop, length-take}
use Rattle.std.proofs.Math.Seq.{take-add}
use borrow.Rule.Slice.PartMut.{put_mid, mid_of, post_of}
use Rattle.disks.specs.declared.disk.DiskFault.{DiskFault}
use Rattle.disks.specs.Disks.{Told, Gives, DiskCause}
use Rattle.gated_log.specs.Reading.{ReadsOn}

-- where a disk tells, what holds of one thing that it tells and of another holds of both
pub both_told : (P Q R : Told → Type 0) (o : Option Told) → ((t : Told) → P t → Q t → R t) → IfSome o P → IfSome o Q → IfSome o R
both_told P Q R None f p q = tt
both_told P Q R (Some t) f p q = f t p q

pub if_told : (P Q : Told → Type 0) (o : Option Told) → ((t : Told) → P t → Q t) → IfSome o P → IfSome o Q
if_told P Q None f p = tt
if_told P Q (Some t) f p = f t p

-- the same of a disk that tells the same
pub same_told : (P : Told → Type 0) (o a : Option Told) → a ≡ o → IfSome o P → IfSome a P
same_told P o a e p = subst (λ z. IfSome z P) (sym e) p

-- a read into the rest of a room
pub read_rest : (bytes : List ℕ) (at from n : ℕ) (old ys : List ℕ) → from ≤ length old
    → Gives bytes (at + from) n (mid_of from (length old - from) old) ys
    → ReadsOn bytes at from n old (put_mid from (length old - from) old ys)
read_rest bytes at from n old ys le gives =
    let k = length old - from in
    let D = drop (at + from) bytes in
    let room = mid_of from k old in
    let front_long : length (take from old) ≡ from = omega (arith, length-take from old) in
    let piece_long : length (take n D) ≡ n = omega (arith, length-take n D, gives.within) in
    let rest = drop n room ++ post_of from k old in
    let is : ys ++ post_of from k old ≡ take n D ++ rest = ap (λ (l : List ℕ). l ++ post_of from k old) gives.front ∙ append_assoc (take n D) (drop n room) (post_of from k old) in
    let long : length room ≡ k = omega (arith, length-take k (drop from old), length-drop from old) in
    record {
      front = ap (λ (l : List ℕ). take (from + n) (take from old ++ l)) is
          ∙ ap (λ (l : List ℕ). take (from + n) l) (sym (append_assoc (take from old) (take n D) rest))
          ∙ take_at (take from old ++ take n D) rest (from + n) (omega (arith, front_long, piece_long, length-append (take from old) (take n D)));
      within = gives.within;
      some = λ lt has. gives.some (omega (arith, lt, long)) has;
    }

-- so many bytes from an offset on stand at the front of the room
pub record HasRead (bytes : List ℕ) (at count : ℕ) (room : List ℕ) : Type 0 where
  pub front : take count room ≡ take count (drop at bytes)
  pub within : count ≤ length (drop at bytes)

pub has_none : (bytes : List ℕ) (at : ℕ) (room : List ℕ) → HasRead bytes at 0 room
has_none bytes at room = record { front = refl; within = omega arith }

pub has_more : (bytes : List ℕ) (at count n : ℕ) (old new : List ℕ) → HasRead bytes at count old → ReadsOn bytes at count n old new
    → HasRead bytes at (count + n) new
has_more bytes at count n old new so_far more =
    let D = drop at bytes in
    let on : drop (at + count) bytes ≡ drop count D = sym (drop-drop count at bytes) in
    record {
      front = more.front ∙ ap (λ (l : List ℕ). l ++ take n (drop (at + count) bytes)) so_far.front
          ∙ ap (λ (l : List ℕ). take count D ++ take n l) on ∙ sym (take-add count n D);
      within = omega (arith, so_far.within, more.within, ap (λ (l : List ℕ). length l) on, length-drop count D);
    }

-- the room is full
pub has_all : (bytes : List ℕ) (at count size : ℕ) (room : List ℕ) → size ≤ count → count ≤ size → HasRead bytes at count room
    → take count room ≡ take size (drop at bytes)
has_all bytes at count size room le ge so_far =
    let same : count ≡ size = omega (arith, le, ge) in so_far.front ∙ ap (λ k. take k (drop at bytes)) same

-- nothing more came
pub has_end : (bytes : List ℕ) (at count n : ℕ) (old new : List ℕ) → count < length old → n ≡ 0 → HasRead bytes at count old
    → ReadsOn bytes at count n old new → take count new ≡ take (length old) (drop at bytes)
has_end bytes at count n old new lt none so_far more =
    let D = drop at bytes in
    let on : drop (at + count) bytes ≡ drop count D = sym (drop-drop count at bytes) in
    let kept = has_more bytes at count n old new so_far more in
    let same : count + n ≡ count = omega (arith, none) in
    let front : take count new ≡ take count D = subst (λ k. take k new ≡ take k D) same kept.front in
    let short : length D ≤ count = at_end (length (drop (at + count) bytes)) (length D) (ap (λ (l : List ℕ). length l) on ∙ length-drop count D) more.some in
    front ∙ take_all count D short ∙ sym (take_all (length old) D (omega (arith, short, lt)))
  where
    at_end : (left size : ℕ) → left ≡ size - count → (count < length old → 0 < left → 0 < n) → size ≤ count
    at_end zero size e some = omega (arith, e)
    at_end (suc left) size e some = absurd (omega (arith, some lt (omega arith), none))

-- a fault later on
pub cause_from : {X : Type 0} (first before after : ℕ) (r : Result X DiskFault) → before ≡ first → DiskCause before after r → DiskCause first after r
cause_from first before after r e cause = subst (λ n. DiskCause n after r) e cause

-- what holds anyway holds after a fault
pub on_err : {X E : Type 0} (r : Result X E) (P : Type 0) → P → OnErr r P
on_err (Ok x) P p = tt
on_err (Err e) P p = p

-- Logs compute, and a crash in the midst of a wrong call leaves a whole record.
use Rattle.std.proofs.Common.{◌≡◌, ◌<◌, ◌++◌, ℕ, zero, suc, List, [], ◌∷◌, drop, take, length, Option, Some, None, ◌⊎◌, ◌≤◌, inl, inr, refl, sym, ap, subst, ◌∙◌, arith}
use Rattle.std.specs.List.{slice_get}
use Rattle.std.proofs.Math.Nat.{eq-or-lt_of_le}
use Rattle.std.proofs.lemmas.Option.{same_Some}
use Rattle.disks.specs.Disks.{Moment, Told, IsWithin, MayLeave, after, wrote, shortened, solid}
use Rattle.gated_log.specs.declared.log.Gate.TheVariants.{Behind}
use Rattle.gated_log.specs.Ends.{Stands, IsEnd, IsEmptyLog, LeavesEither, LeavesFront}
use Rattle.gated_log.specs.Format.{magic, u8_bytes, record_bytes, behind_gate, first_record, EndsWith, EndsWithEither}
use Rattle.store_witness.specs.LogFacts.{LogsTell, closed, empty, at_once, prepared, unsynced, half, holding}

begun : (t : Told) (n : ℕ) (bytes : List ℕ) → IsEmptyLog (after t (wrote t.now 0 n bytes)) → ⊥
begun t n bytes is = let none = ap length (ap (λ (m : Moment). m.loose) is) in omega (arith, none)

stays : (t : Told) (end at n : ℕ) (bytes : List ℕ) → Stands (closed end) (after t (wrote t.now at n bytes)) → ⊥
stays t end at n bytes stands = let none = ap length (ap (λ (m : Moment). m.loose) stands.gate) in omega (arith, none)

added : (t u : Told) → t.now.bytes ≡ magic ++ 0 ∷ [] → u.now.bytes ≡ magic ++ 0 ∷ behind_gate []
    → Some (take 17 u.now.bytes) ≡ Some (take 8 t.now.bytes ++ record_bytes []) → ⊥
added t u empty shut same =
    let left : take 17 (magic ++ 0 ∷ behind_gate []) ≡ take 8 (magic ++ 0 ∷ []) ++ record_bytes []
    = ap (take 17) (sym shut) ∙ same_Some _ _ same ∙ ap (λ (bytes : List ℕ). take 8 bytes ++ record_bytes []) empty in
    let gates : ◌≡◌ {A = Option ℕ} (Some 0) (Some 1) = ap (λ (bytes : List ℕ). slice_get bytes 8) left in
    let none : ⊥ = cc in none

touched : (t : Told) (end : ℕ) (torn : List ℕ)
    → Stands (record { end = end; gate = Behind }) (after t (wrote t.now end 1 torn)) → ⊥
touched t end torn stands = stands.gate.firm.apart end (omega (arith, stands.long)) (inl ((omega arith), (omega arith)))

mended : (t : Told) → t.now.bytes ≡ magic ++ 1 ∷ [] → Stands (closed 8) t → ⊥
mended t opened stands =
    let is : t.now.bytes ≡ take 8 t.now.bytes ++ 0 ∷ [] = ap (λ (m : Moment). m.bytes) stands.gate in
    let both : magic ++ 1 ∷ [] ≡ take 8 (magic ++ 1 ∷ []) ++ 0 ∷ [] = sym opened ∙ is ∙ ap (λ (bytes : List ℕ). take 8 bytes ++ 0 ∷ []) opened in
    let gates : ◌≡◌ {A = Option ℕ} (Some 1) (Some 0) = ap (λ (bytes : List ℕ). slice_get bytes 8) both in
    let none : ⊥ = cc in none

half_ends : (past : List Moment) → IsEnd 8 (holding half past)
half_ends past = record { solid = refl; within = omega arith; none = refl }

-- the whole record that a crash may leave: its length is whatever
abbrev whole : List ℕ
whole = magic ++ record_bytes []

-- behind a common front the lists do not matter
same : (front xs ys : List ℕ) (i : ℕ) → i < length front → slice_get (front ++ xs) i ≡ slice_get (front ++ ys) i
same [] xs ys i less = let none : ⊥ = omega (arith, less) in absurd none
same (b ∷ front) xs ys zero less = refl
same (b ∷ front) xs ys (suc i) less = same front xs ys i (omega (arith, less))

left : MayLeave (shortened (solid half) 9 half) whole
left = record {
  no_shorter = omega arith;
  no_longer = omega arith;
  same = λ i less apart. same (magic ++ 1 ∷ []) (u8_bytes 0) (u8_bytes 1) i (omega (arith, less));
}

latest : (m : Moment) (ms past later : List Moment) → (m ∷ ms) ≡ later ++ past → length past < length (m ∷ ms)
    → slice_get later 0 ≡ Some m
latest m ms past [] grown more = let longer = ap length grown in let none : ⊥ = omega (arith, longer, more) in absurd none
latest m ms past (k ∷ later) grown more = sym (ap (λ (ms : List Moment). slice_get ms 0) grown)

not_whole : EndsWith magic whole → ⊥
not_whole ends =
    let rest : record_bytes [] ≡ ends.rest = ap (drop 8) ends.is in
    let none : ◌≡◌ {A = Option (List ℕ)} None (Some []) = sym ends.none ∙ ap first_record (sym rest) in
    cc

shut_first : (past : List Moment)
    → LeavesFront 8 (Some (holding half past)) (Some (after (holding half past) (shortened (solid half) 9 half))) → ⊥
shut_first past leaves =
    let m : Moment = shortened (solid half) 9 half in
    let last = latest m (solid half ∷ past) (solid half ∷ past) leaves.0.later leaves.0.grown (omega arith) in
    not_whole (leaves.0.each 0 m last whole left)

-- a record of a byte, which a crash may leave where a gate and what stands behind it were written since the last sync
abbrev other : List ℕ
other = magic ++ record_bytes (7 ∷ [])

ninth : (behind : List ℕ) (loose : List (ℕ × ℕ)) → IsWithin loose 8 → (i : ℕ) → (IsWithin loose i → ⊥)
    → (i ≡ 8) ⊎ (i < 8) → slice_get other i ≡ slice_get (magic ++ behind) i
ninth behind loose within i apart (inl is) = absurd (apart (subst (λ (n : ℕ). IsWithin loose n) (sym is) within))
ninth behind loose within i apart (inr less) = same magic (record_bytes (7 ∷ [])) behind i less

other_left : (behind : List ℕ) (loose : List (ℕ × ℕ)) → IsWithin loose 8
    → MayLeave (record { bytes = magic ++ behind; least = 9; most = 18; loose = loose }) other
other_left behind loose within = record {
  no_shorter = omega arith;
  no_longer = omega arith;
  same = λ i less apart. let most : i ≤ 8 = omega (arith, less) in ninth behind loose within i apart (eq-or-lt_of_le most);
}

not_other : EndsWithEither magic [] other → ⊥
not_other (inl ends) =
    let rest : record_bytes (7 ∷ []) ≡ ends.rest = ap (drop 8) ends.is in
    let none : ◌≡◌ {A = Option (List ℕ)} None (Some (7 ∷ [])) = sym ends.none ∙ ap first_record (sym rest) in
    cc
not_other (inr ends) =
    let lengths : ◌≡◌ {A = Option ℕ} (Some 1) (Some 0) = ap (λ (bytes : List ℕ). slice_get bytes 9) ends.is in
    cc

one_write : (past : List Moment)
    → LeavesEither 8 [] (Some (holding empty past)) (Some (after (holding empty past) at_once)) → ⊥
one_write past leaves =
    let last = latest at_once (solid empty ∷ past) (solid empty ∷ past) leaves.0.later leaves.0.grown (omega arith) in
    let left : MayLeave at_once other
    = other_left (record_bytes [] ++ 0 ∷ []) ((8, 18) ∷ []) (inl ((omega arith), (omega arith))) in
    not_other (leaves.0.each 0 at_once last other left)

no_sync : (past : List Moment)
    → LeavesEither 8 [] (Some (holding empty past)) (Some (after (after (holding empty past) prepared) unsynced)) → ⊥
no_sync past leaves =
    let before : List Moment = solid empty ∷ past in
    let last = latest unsynced (prepared ∷ before) before leaves.0.later leaves.0.grown (omega arith) in
    let left : MayLeave unsynced other
    = other_left (1 ∷ behind_gate []) ((8, 9) ∷ (9, 18) ∷ []) (inl ((omega arith), (omega arith))) in
    not_other (leaves.0.each 0 unsynced last other left)

pub logs_tell : LogsTell
logs_tell = record {
  begun = begun;
  added = added;
  stays = stays;
  one_write = one_write;
  no_sync = no_sync;
  touched = touched;
  mended = mended;
  half_ends = half_ends;
  shut_first = shut_first;
}

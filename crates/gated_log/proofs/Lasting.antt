-- What stands behind a gate that was touched is one record, and mending leaves it the same.
use Rattle.std.proofs.Common.{◌≡◌, ◌<◌, ℕ, ◌+◌, List, [], ◌∷◌, ◌++◌, length, drop, sym, ◌∙◌, ap, subst, append_assoc, length-append, Option, Some, None}
use Rattle.std.specs.Prelude.{IfSome}
use Rattle.std.proofs.lemmas.List.{drop_at}
use Rattle.std.proofs.lemmas.Option.{same_Some}
use Rattle.disks.specs.Disks.{Moment, Told}
use Rattle.gated_log.specs.declared.log.Gate.{Gate}
use Rattle.gated_log.specs.declared.log.Gate.TheVariants.{Closed, Behind, Touched}
use Rattle.gated_log.specs.declared.log.Log.{Log}
use Rattle.gated_log.specs.Format.{behind_gate, first_record, record_bytes, u8_bytes}
use Rattle.gated_log.specs.Ends.{IsTouched, Runs, LeavesLast, front_at}
use Rattle.gated_log.specs.Last.{IsLast, IsLastAt, LastIs, KeepsLast}
use Rattle.gated_log.proofs.Appending as appending
use Rattle.gated_log.proofs.Going as going
use Rattle.gated_log.proofs.Mending as mending
use Rattle.gated_log.proofs.OneLog.{first_again}
use Rattle.gated_log.proofs.Standing.{touched_front}

-- the bytes behind a gate that is opened are a record and a closed gate
opened_record : (payload : List ℕ) → 1 ∷ behind_gate payload ≡ record_bytes payload ++ 0 ∷ []
opened_record payload = ap (λ (l : List ℕ). 1 ∷ l) (sym (append_assoc (u8_bytes (length payload)) payload (0 ∷ [])))

found_behind : (p : List ℕ) → length p < 18446744073709551616 → first_record (1 ∷ behind_gate p) ≡ Some p
found_behind p small = ap first_record (opened_record p) ∙ first_again p (0 ∷ []) small

behind_touched : (front p : List ℕ) (m : Moment) → IsTouched front p m → drop (length front + 1) m.bytes ≡ behind_gate p
behind_touched front p m is =
    ap (drop (length front + 1)) (is.is ∙ sym (append_assoc front (is.gate ∷ []) (behind_gate p)))
    ∙ drop_at (front ++ is.gate ∷ []) (behind_gate p) (length front + 1) (length-append front (is.gate ∷ []))

pub touched_one : (front p q : List ℕ) (m : Moment) → IsTouched front p m → IsTouched front q m → p ≡ q
touched_one front p q m one other =
    let same : behind_gate p ≡ behind_gate q = sym (behind_touched front p m one) ∙ behind_touched front q m other in
    same_Some p q (sym (found_behind p one.small) ∙ ap (λ (l : List ℕ). first_record (1 ∷ l)) same ∙ found_behind q other.small)

-- A gate that is closed, or behind which bytes may be, has no such record.
pub none_last : (payload : List ℕ) (log : Log) (o : Option Told) → log.gate ≡ Closed → IfSome o (LastIs payload log)
none_last payload log None is = tt
none_last payload log (Some t) is = λ other last. absurd (subst (λ (g : Gate). IsLastAt g log.end t other) is last)

pub behind_last : (payload : List ℕ) (end : ℕ) (o : Option Told) → IfSome o (LastIs payload (record { end = end; gate = Behind }))
behind_last payload end None = tt
behind_last payload end (Some t) = λ other last. absurd last

-- where an append stopped at the gate
pub touched_last : (end : ℕ) (payload : List ℕ) (o a : Option Told)
    → Runs (appending.Left end payload) (appending.At end payload (appending.IsTouchedBy end payload)) o a
    → IfSome a (LastIs payload (record { end = end; gate = Touched }))
touched_last end payload o a run =
    going.at_last (appending.Left end payload) (appending.At end payload (appending.IsTouchedBy end payload))
    (LastIs payload (record { end = end; gate = Touched })) o a
    (λ t u at other last.
    let same : front_at end u ≡ front_at end t = subst (λ k. front_at k u ≡ front_at end t) at.size (touched_front (front_at end t) payload u.now at.gate) in
    touched_one (front_at end t) other payload u.now (subst (λ (l : List ℕ). IsTouched l other u.now) same last) at.gate) run

-- Mending: what stood behind a gate that is closed now, or behind which bytes may be, stood there before, for nothing stands there.
shut_keeps : (old new : Log) (o a : Option Told) → ((t : Told) (payload : List ℕ) → IsLast new t payload → ⊥) → LeavesLast old o a → KeepsLast old new o a
shut_keeps old new None None none run = tt
shut_keeps old new None (Some u) none run = absurd run
shut_keeps old new (Some t) None none run = absurd run
shut_keeps old new (Some t) (Some u) none run = λ payload last. absurd (none u payload last)

pub closed_keeps : (old new : Log) (o a : Option Told) → new.gate ≡ Closed → LeavesLast old o a → KeepsLast old new o a
closed_keeps old new o a is run =
    shut_keeps old new o a (λ t payload last. subst (λ (g : Gate). IsLastAt g new.end t payload) is last) run

pub behind_keeps : (old new : Log) (o a : Option Told) → new.gate ≡ Behind → LeavesLast old o a → KeepsLast old new o a
behind_keeps old new o a is run =
    shut_keeps old new o a (λ t payload last. subst (λ (g : Gate). IsLastAt g new.end t payload) is last) run

-- where the first write of a mending failed
pub doubt_keeps : (old new : Log) (o a : Option Told) → old.gate ≡ Touched → new ≡ old
    → Runs (mending.Left old.end) (mending.AtLast old.end (mending.InDoubt old.end)) o a → KeepsLast old new o a
doubt_keeps old new None None is same run = tt
doubt_keeps old new None (Some u) is same run = absurd run
doubt_keeps old new (Some t) None is same run = absurd run
doubt_keeps old new (Some t) (Some u) is same run = λ payload last.
    let at = run.1 in
    let end = old.end in
    let front : front_at end u ≡ front_at end t = subst (λ k. front_at k u ≡ front_at end t) at.size (touched_front (front_at end t) at.payload u.now at.gate) in
    let now : IsTouched (front_at end u) payload u.now =
    subst (λ (g : Gate). IsLastAt g end u payload) is (subst (λ (l : Log). IsLast l u payload) same last) in
    let one : payload ≡ at.payload = touched_one (front_at end t) payload at.payload u.now (subst (λ (l : List ℕ). IsTouched l payload u.now) front now) at.gate in
    subst (λ (g : Gate). IsLastAt g end t payload) (sym is) (subst (λ (p : List ℕ). IsTouched (front_at end t) p t.now) (sym one) at.first)

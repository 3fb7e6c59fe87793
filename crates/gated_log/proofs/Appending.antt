-- The moments of an append: a closed end, a record staged behind the gate, the gate touched, and a closed end behind the record.
use Rattle.std.proofs.Common.{◌≡◌, ◌<◌, ◌≤◌, inl, inr, ℕ, ◌+◌, List, [], ◌∷◌, ◌++◌, length, take, sym, ◌∙◌, ap, subst, arith, append_assoc, length-append, Option, Some, None, Ok, Err}
use Rattle.std.specs.Prelude.{IfSome}
use Rattle.std.specs.Option.{option_map}
use Rattle.disks.specs.declared.disk.DiskFault.{DiskFault}
use Rattle.disks.specs.Disks.{Moment, Told, IsTorn, Reaches, solid, wrote, over}
use Rattle.gated_log.specs.declared.log.Gate.TheVariants.{Closed, Behind, Touched}
use Rattle.gated_log.specs.declared.log.Log.{Log}
use Rattle.gated_log.specs.Format.{EndsWithEither, record_bytes, behind_gate, u8_bytes}
use Rattle.gated_log.specs.Calls.{WriteStays}
use Rattle.gated_log.specs.Ends.{IsClosed, IsBehind, IsTouched, StandsBehind, Stands, Runs, LeavesEither, front_at}
use Rattle.gated_log.proofs.Firm.{over_one, over_end}
use Rattle.gated_log.proofs.Standing.{closed_long, closed_behind, closed_left, behind_left, behind_torn, behind_solid, touched_left, touched_torn, touched_solid, behind_front, touched_front, closed_front, stands_by}
use Rattle.gated_log.proofs.Going.{AtEnd}
use Rattle.gated_log.proofs.Going as going

module _ (end : ℕ) (payload : List ℕ) where
  abbrev pub At : (List ℕ → Moment → Type 0) → Told → Moment → Type 0
  At = AtEnd end

  abbrev pub Left : Told → List ℕ → Type 0
  Left = λ t left. EndsWithEither (front_at end t) payload left

  abbrev pub IsStaged : List ℕ → Moment → Type 0
  IsStaged front m = m ≡ solid (front ++ 0 ∷ behind_gate payload)

  abbrev pub IsAdded : List ℕ → Moment → Type 0
  IsAdded front m = IsClosed (front ++ record_bytes payload) m

  abbrev pub IsTouchedBy : List ℕ → Moment → Type 0
  IsTouchedBy front m = IsTouched front payload m

  safe_closed : going.Safe Left (At IsClosed)
  safe_closed t m at left may = inl (closed_left (front_at end t) m left at.gate may)

  safe_behind : going.Safe Left (At IsBehind)
  safe_behind t m at left may = inl (behind_left (front_at end t) m left at.gate may)

  safe_staged : going.Safe Left (At IsStaged)
  safe_staged t m at left may =
      inl (behind_left (front_at end t) m left (subst (IsBehind (front_at end t)) (sym at.gate) (behind_solid (front_at end t) (behind_gate payload))) may)

  safe_touched : going.Safe Left (At IsTouchedBy)
  safe_touched t m at left may = touched_left (front_at end t) payload m left at.gate may

  safe_added : going.Safe Left (At IsAdded)
  safe_added t m at left may = inr (closed_left (front_at end t ++ record_bytes payload) m left at.gate may)

  -- behind a closed gate
  closed_there : (t : Told) (m : Moment) → At IsClosed t m → end + 1 ≤ length m.bytes
  closed_there t m at = omega (arith, at.size, ap (λ (z : Moment). length z.bytes) at.gate, closed_long (front_at end t))

  closed_torn : (t : Told) (m : Moment) → At IsClosed t m → (bs : List ℕ) → IsTorn m.bytes (end + 1) (length (behind_gate payload)) bs
      → At IsBehind t (wrote m (end + 1) (length (behind_gate payload)) bs)
  closed_torn t m at bs torn = record {
    size = at.size;
    gate = behind_torn (front_at end t) m (end + 1) (length (behind_gate payload)) bs (closed_behind (front_at end t) m at.gate) (omega (arith, at.size)) torn;
  }

  closed_kept : (t : Told) (m : Moment) → At IsClosed t m → At IsBehind t m
  closed_kept t m at = record { size = at.size; gate = closed_behind (front_at end t) m at.gate }

  closed_staged : (t : Told) (m : Moment) → At IsClosed t m → At IsStaged t (solid (over m.bytes (end + 1) (behind_gate payload)))
  closed_staged t m at =
      let front = front_at end t in
      let long : length (front ++ 0 ∷ []) ≡ end + 1 = closed_long front ∙ ap (λ k. k + 1) at.size in
      record {
        size = at.size;
        gate = ap (λ (z : Moment). solid (over z.bytes (end + 1) (behind_gate payload))) at.gate
            ∙ ap solid (over_end (front ++ 0 ∷ []) (end + 1) (behind_gate payload) long ∙ append_assoc front (0 ∷ []) (behind_gate payload));
      }

  -- the gate of a record that is there
  staged_there : (t : Told) (m : Moment) → At IsStaged t m → end ≤ length m.bytes
  staged_there t m at =
      omega (arith, at.size, ap (λ (z : Moment). length z.bytes) at.gate, length-append (front_at end t) (0 ∷ behind_gate payload))

  module _ (small : length payload < 18446744073709551616) where
    staged_touched : (t : Told) (m : Moment) → At IsStaged t m → At IsTouchedBy t m
    staged_touched t m at = record {
      size = at.size;
      gate = subst (IsTouched (front_at end t) payload) (sym at.gate) (touched_solid (front_at end t) payload 0 small);
    }

    staged_torn : (t : Told) (m : Moment) → At IsStaged t m → (bs : List ℕ) → IsTorn m.bytes end 1 bs
        → At IsTouchedBy t (wrote m end 1 bs)
    staged_torn t m at bs torn =
        let front = front_at end t in
        let here = (staged_touched t m at).gate in
        let torn_there = subst (λ k. IsTorn m.bytes k 1 bs) (sym at.size) torn in
        let next = touched_torn front payload m bs here torn_there in
        record { size = at.size; gate = subst (λ k. IsTouched front payload (wrote m k 1 bs)) at.size next }

  staged_added : (t : Told) (m : Moment) → At IsStaged t m → At IsAdded t (solid (over m.bytes end (1 ∷ [])))
  staged_added t m at =
      let front = front_at end t in
      let record_there : front ++ 1 ∷ behind_gate payload ≡ (front ++ record_bytes payload) ++ 0 ∷ [] =
      ap (λ (l : List ℕ). front ++ 1 ∷ l) (sym (append_assoc (u8_bytes (length payload)) payload (0 ∷ [])))
      ∙ sym (append_assoc front (record_bytes payload) (0 ∷ [])) in
      record {
        size = at.size;
        gate = ap (λ (z : Moment). solid (over z.bytes end (1 ∷ []))) at.gate
            ∙ ap solid (over_one front end 0 1 (behind_gate payload) at.size ∙ record_there);
      }

  -- What holds where the append stopped, or ended.
  pub begun : (log : Log) (o : Option Told) → log.end ≡ end → log.gate ≡ Closed → IfSome o (Stands log) → Runs Left (At IsClosed) o o
  begun log None size closed stands = tt
  begun log (Some t) size closed stands =
      going.begins Left (At IsClosed) (Some t) (record {
        size = subst (λ k. length (front_at k t) ≡ k) size stands.long;
        gate = subst (λ k. IsClosed (front_at k t) t.now) size (subst (λ g. StandsBehind g (front_at log.end t) t.now) closed stands.gate);
      }) safe_closed

  module _ (o a b : Option Told) (bytes : List ℕ) (is : bytes ≡ behind_gate payload) (run : Runs Left (At IsClosed) o o) where
    pub reach_behind : IfSome o (Reaches (end + 1))
    reach_behind = going.reaches Left (At IsClosed) o o (end + 1) closed_there run

    pub not_staged : (fault : DiskFault) → WriteStays o a (end + 1) bytes (Err fault) → Runs Left (At IsBehind) o a
    not_staged fault w =
        going.write_fails Left (At IsClosed) (At IsBehind) (end + 1) (behind_gate payload) closed_there closed_torn safe_behind o o a fault run closed_kept
        (subst (λ (bs : List ℕ). WriteStays o a (end + 1) bs (Err fault)) is w)

    module _ (x : Unit {0}) (w : WriteStays o a (end + 1) bytes (Ok x)) (small : length payload < 18446744073709551616) where
      is_staged : Runs Left (At IsStaged) o a
      is_staged =
          going.write_stays Left (At IsClosed) (At IsBehind) (end + 1) (behind_gate payload) closed_there closed_torn safe_behind (At IsStaged) o o a x run closed_staged safe_staged
          (subst (λ (bs : List ℕ). WriteStays o a (end + 1) bs (Ok x)) is w)

      pub reach_gate : IfSome a (Reaches end)
      reach_gate = going.reaches Left (At IsStaged) o a end staged_there is_staged

      pub not_opened : (fault : DiskFault) → WriteStays a b end (1 ∷ []) (Err fault) → Runs Left (At IsTouchedBy) o b
      not_opened fault w2 =
          going.write_fails Left (At IsStaged) (At IsTouchedBy) end (1 ∷ []) staged_there (staged_torn small) safe_touched o a b fault is_staged (staged_touched small) w2

      pub is_opened : (y : Unit {0}) → WriteStays a b end (1 ∷ []) (Ok y) → Runs Left (At IsAdded) o b
      is_opened y w2 =
          going.write_stays Left (At IsStaged) (At IsTouchedBy) end (1 ∷ []) staged_there (staged_torn small) safe_touched (At IsAdded) o a b y is_staged staged_added safe_added w2

  -- What follows of where the log ends.
  module _ (o a : Option Told) where
    pub any_moment : (N : Told → Moment → Type 0) → Runs Left N o a → LeavesEither end payload o a
    any_moment N run = going.so_now Left N (λ t m. Unit {0}) o a (λ t m n. tt) run

    pub closed_stands : Runs Left (At IsClosed) o a → IfSome a (Stands (record { end = end; gate = Closed }))
    closed_stands run = going.at_last Left (At IsClosed) (Stands (record { end = end; gate = Closed })) o a
        (λ t u at. stands_by (record { end = end; gate = Closed }) (front_at end t) u at.size (closed_front (front_at end t) u.now at.gate) at.gate) run

    pub behind_stands : Runs Left (At IsBehind) o a → IfSome a (Stands (record { end = end; gate = Behind }))
    behind_stands run = going.at_last Left (At IsBehind) (Stands (record { end = end; gate = Behind })) o a
        (λ t u at. stands_by (record { end = end; gate = Behind }) (front_at end t) u at.size (behind_front (front_at end t) u.now at.gate) at.gate) run

    pub touched_stands : Runs Left (At IsTouchedBy) o a → IfSome a (Stands (record { end = end; gate = Touched }))
    touched_stands run = going.at_last Left (At IsTouchedBy) (Stands (record { end = end; gate = Touched })) o a
        (λ t u at. stands_by (record { end = end; gate = Touched }) (front_at end t) u at.size (touched_front (front_at end t) payload u.now at.gate) (payload, at.gate)) run

    added_size : (t : Told) (m : Moment) → At IsAdded t m → length (front_at end t ++ record_bytes payload) ≡ end + length (record_bytes payload)
    added_size t m at = length-append (front_at end t) (record_bytes payload) ∙ ap (λ k. k + length (record_bytes payload)) at.size

    pub added_stands : (next : ℕ) → next ≡ end + length (record_bytes payload) → Runs Left (At IsAdded) o a → IfSome a (Stands (record { end = next; gate = Closed }))
    added_stands next is run = going.at_last Left (At IsAdded) (Stands (record { end = next; gate = Closed })) o a
        (λ t u at. stands_by (record { end = next; gate = Closed }) (front_at end t ++ record_bytes payload) u
        (added_size t u.now at ∙ sym is)
        (closed_front (front_at end t ++ record_bytes payload) u.now at.gate) at.gate) run

    pub added_front : (next : ℕ) → next ≡ end + length (record_bytes payload) → Runs Left (At IsAdded) o a
        → option_map (front_at next) a ≡ option_map (λ (f : List ℕ). f ++ record_bytes payload) (option_map (front_at end) o)
    added_front next is run = going.at_both Left (At IsAdded) (front_at end) (front_at next) (λ (f : List ℕ). f ++ record_bytes payload) o a
        (λ t u at. ap (λ k. take k u.now.bytes) (is ∙ sym (added_size t u.now at)) ∙ closed_front (front_at end t ++ record_bytes payload) u.now at.gate) run

    pub behind_kept : Runs Left (At IsBehind) o a → option_map (front_at end) a ≡ option_map (front_at end) o
    behind_kept run = going.at_both_same Left (At IsBehind) (front_at end) (front_at end) o a
        (λ t u at. ap (λ k. take k u.now.bytes) (sym at.size) ∙ behind_front (front_at end t) u.now at.gate) run

    pub touched_kept : Runs Left (At IsTouchedBy) o a → option_map (front_at end) a ≡ option_map (front_at end) o
    touched_kept run = going.at_both_same Left (At IsTouchedBy) (front_at end) (front_at end) o a
        (λ t u at. ap (λ k. take k u.now.bytes) (sym at.size) ∙ touched_front (front_at end t) payload u.now at.gate) run

-- The moments in which the end of a log is mended after a call that failed.
use Rattle.std.proofs.Common.{◌≡◌, ◌≤◌, inl, ℕ, ◌+◌, List, [], ◌∷◌, ◌++◌, length, take, sym, ◌∙◌, ap, subst, arith, length-append, Option, Some, None, Ok, Err}
use Rattle.std.specs.Prelude.{IfSome}
use Rattle.std.specs.Option.{option_map}
use Rattle.disks.specs.declared.disk.DiskFault.{DiskFault}
use Rattle.disks.specs.Disks.{Moment, Told, IsTorn, IsFrayed, Reaches, solid, wrote, shortened, over}
use Rattle.gated_log.specs.declared.log.Gate.{Gate}
use Rattle.gated_log.specs.declared.log.Gate.TheVariants.{Closed, Behind, Touched}
use Rattle.gated_log.specs.declared.log.Log.{Log}
use Rattle.gated_log.specs.Format.{behind_gate}
use Rattle.gated_log.specs.Calls.{WriteStays, CutStays}
use Rattle.gated_log.specs.Ends.{IsClosed, IsBehind, IsTouched, StandsBehind, Stands, Runs, LeavesLast, LeftAt, front_at}
use Rattle.gated_log.proofs.Firm.{over_one}
use Rattle.gated_log.proofs.Standing.{closed_left, behind_left, behind_frayed, behind_cut, behind_solid, touched_left, touched_torn, behind_front, touched_front, closed_front, stands_by}
use Rattle.gated_log.proofs.Going.{AtEnd}
use Rattle.gated_log.proofs.Going as going
use Rattle.gated_log.proofs.Shutting as shutting

-- A log that stands is at its gate.
pub stands_at : (log : Log) (gate : Gate) (o : Option Told) → log.gate ≡ gate → IfSome o (Stands log)
    → IfSome o (λ t. AtEnd log.end (StandsBehind gate) t t.now)
stands_at log gate None is stands = tt
stands_at log gate (Some t) is stands = record {
  size = stands.long;
  gate = subst (λ g. StandsBehind g (front_at log.end t) t.now) is stands.gate;
}

-- A log stands as it does with the gate that it has.
pub stands_as : (log : Log) (gate : Gate) (o : Option Told) → log.gate ≡ gate → IfSome o (Stands (record { end = log.end; gate = gate })) → IfSome o (Stands log)
stands_as log gate o is stands = subst (λ (g : Gate). IfSome o (Stands (record { end = log.end; gate = g }))) (sym is) stands

module _ (log : Log) (o : Option Told) where
  -- Bytes behind a closed gate.
  module _ (is : log.gate ≡ Behind) (stands : IfSome o (Stands log)) where
    behind_run : Runs (shutting.Left log.end) (AtEnd log.end IsBehind) o o
    behind_run = shutting.begin_by log.end o shutting.behind_ended (stands_at log Behind o is stands)

    pub behind_reach : IfSome o (Reaches (log.end + 1))
    behind_reach = shutting.behind_reach log.end o o o behind_run

    pub behind_fails : (b : Option Told) (fault : DiskFault) → CutStays o b (log.end + 1) (Err fault)
        → Runs (shutting.Left log.end) (AtEnd log.end IsBehind) o b
    behind_fails b fault w = shutting.behind_fails log.end o o b behind_run fault w

    pub behind_done : (b : Option Told) (x : Unit {0}) → CutStays o b (log.end + 1) (Ok x)
        → Runs (shutting.Left log.end) (AtEnd log.end IsClosed) o b
    behind_done b x w = shutting.behind_done log.end o o b behind_run x w

    pub behind_moments : (N : Told → Moment → Type 0) (b : Option Told) → Runs (shutting.Left log.end) N o b → LeavesLast log o b
    behind_moments N b run =
        subst (λ g. Runs (λ t left. LeftAt g (front_at log.end t) t.now left) (λ t m. Unit {0}) o b) (sym is)
        (going.so_now (shutting.Left log.end) N (λ t m. Unit {0}) o b (λ t m n. tt) run)

  pub closed_moments : log.gate ≡ Closed → IfSome o (Stands log) → LeavesLast log o o
  closed_moments is stands =
      subst (λ g. Runs (λ t left. LeftAt g (front_at log.end t) t.now left) (λ t m. Unit {0}) o o) (sym is)
      (going.so_now (shutting.Left log.end) (AtEnd log.end IsClosed) (λ t m. Unit {0}) o o (λ t m n. tt)
      (shutting.begin_by log.end o shutting.closed_ended (stands_at log Closed o is stands)))

-- what stands where the gate was touched at the first moment, with the record of then
pub record AtLast (end : ℕ) (G : List ℕ → List ℕ → Moment → Type 0) (t : Told) (m : Moment) : Type 0 where
  pub size : length (front_at end t) ≡ end
  pub payload : List ℕ
  pub first : IsTouched (front_at end t) payload t.now
  pub gate : G (front_at end t) payload m

module _ (end : ℕ) where
  abbrev pub Left : Told → List ℕ → Type 0
  Left = λ t left. LeftAt Touched (front_at end t) t.now left

  abbrev pub InDoubt : List ℕ → List ℕ → Moment → Type 0
  InDoubt front payload m = IsTouched front payload m

  abbrev pub Shut : List ℕ → List ℕ → Moment → Type 0
  Shut front payload m = IsBehind front m

  abbrev pub Done : List ℕ → List ℕ → Moment → Type 0
  Done front payload m = IsClosed front m

  safe_doubt : going.Safe Left (AtLast end InDoubt)
  safe_doubt t m at left may = (at.payload, (at.first, touched_left (front_at end t) at.payload m left at.gate may))

  safe_shut : going.Safe Left (AtLast end Shut)
  safe_shut t m at left may = (at.payload, (at.first, inl (behind_left (front_at end t) m left at.gate may)))

  safe_done : going.Safe Left (AtLast end Done)
  safe_done t m at left may = (at.payload, (at.first, inl (closed_left (front_at end t) m left at.gate may)))

  doubt_there : (t : Told) (m : Moment) → AtLast end InDoubt t m → end ≤ length m.bytes
  doubt_there t m at =
      omega (arith, at.size, ap (λ (l : List ℕ). length l) at.gate.is, length-append (front_at end t) (at.gate.gate ∷ behind_gate at.payload))

  doubt_torn : (t : Told) (m : Moment) → AtLast end InDoubt t m → (bs : List ℕ) → IsTorn m.bytes end 1 bs
      → AtLast end InDoubt t (wrote m end 1 bs)
  doubt_torn t m at bs torn = record {
    size = at.size;
    payload = at.payload;
    first = at.first;
    gate = subst (λ k. IsTouched (front_at end t) at.payload (wrote m k 1 bs)) at.size
        (touched_torn (front_at end t) at.payload m bs at.gate (subst (λ k. IsTorn m.bytes k 1 bs) (sym at.size) torn));
  }

  doubt_shut : (t : Told) (m : Moment) → AtLast end InDoubt t m → AtLast end Shut t (solid (over m.bytes end (0 ∷ [])))
  doubt_shut t m at =
      let front = front_at end t in
      let is : over m.bytes end (0 ∷ []) ≡ front ++ 0 ∷ behind_gate at.payload =
      ap (λ (l : List ℕ). over l end (0 ∷ [])) at.gate.is ∙ over_one front end at.gate.gate 0 (behind_gate at.payload) at.size in
      record {
        size = at.size;
        payload = at.payload;
        first = at.first;
        gate = subst (λ (l : List ℕ). IsBehind front (solid l)) (sym is) (behind_solid front (behind_gate at.payload));
      }

  shut_there : (t : Told) (m : Moment) → AtLast end Shut t m → end + 1 ≤ length m.bytes
  shut_there t m at = omega (arith, at.size, at.gate.firm.there)

  shut_frayed : (t : Told) (m : Moment) → AtLast end Shut t m → (bs : List ℕ) → IsFrayed m.bytes (end + 1) bs
      → AtLast end Shut t (shortened m (end + 1) bs)
  shut_frayed t m at bs is =
      let next : length (front_at end t) + 1 ≡ end + 1 = ap (λ k. k + 1) at.size in
      record {
        size = at.size;
        payload = at.payload;
        first = at.first;
        gate = subst (λ k. IsBehind (front_at end t) (shortened m k bs)) next
            (behind_frayed (front_at end t) m bs at.gate (subst (λ k. IsFrayed m.bytes k bs) (sym next) is));
      }

  shut_done : (t : Told) (m : Moment) → AtLast end Shut t m → AtLast end Done t (solid (take (end + 1) m.bytes))
  shut_done t m at =
      let next : length (front_at end t) + 1 ≡ end + 1 = ap (λ k. k + 1) at.size in
      record {
        size = at.size;
        payload = at.payload;
        first = at.first;
        gate = subst (λ k. IsClosed (front_at end t) (solid (take k m.bytes))) next (behind_cut (front_at end t) m at.gate);
      }

module _ (log : Log) (o : Option Told) (is : log.gate ≡ Touched) (stands : IfSome o (Stands log)) where
  doubt_now : (p : Option Told) → IfSome p (λ t. AtEnd log.end (StandsBehind Touched) t t.now) → IfSome p (λ t. AtLast log.end (InDoubt log.end) t t.now)
  doubt_now None at = tt
  doubt_now (Some t) at = record { size = at.size; payload = at.gate.0; first = at.gate.1; gate = at.gate.1 }

  doubt_run : Runs (Left log.end) (AtLast log.end (InDoubt log.end)) o o
  doubt_run = going.begins (Left log.end) (AtLast log.end (InDoubt log.end)) o (doubt_now o (stands_at log Touched o is stands)) (safe_doubt log.end)

  pub doubt_reach : IfSome o (Reaches log.end)
  doubt_reach = going.reaches (Left log.end) (AtLast log.end (InDoubt log.end)) o o log.end (doubt_there log.end) doubt_run

  module _ (a : Option Told) where
    pub not_shut : (fault : DiskFault) → WriteStays o a log.end (0 ∷ []) (Err fault) → Runs (Left log.end) (AtLast log.end (InDoubt log.end)) o a
    not_shut fault w =
        going.write_fails (Left log.end) (AtLast log.end (InDoubt log.end)) (AtLast log.end (InDoubt log.end)) log.end (0 ∷ []) (doubt_there log.end) (doubt_torn log.end) (safe_doubt log.end) o o a fault doubt_run (λ t m at. at) w

    module _ (x : Unit {0}) (w : WriteStays o a log.end (0 ∷ []) (Ok x)) (b : Option Told) where
      shut_run : Runs (Left log.end) (AtLast log.end (Shut log.end)) o a
      shut_run =
          going.write_stays (Left log.end) (AtLast log.end (InDoubt log.end)) (AtLast log.end (InDoubt log.end)) log.end (0 ∷ []) (doubt_there log.end) (doubt_torn log.end) (safe_doubt log.end) (AtLast log.end (Shut log.end)) o o a x doubt_run
          (doubt_shut log.end) (safe_shut log.end) w

      pub shut_reach : IfSome a (Reaches (log.end + 1))
      shut_reach = going.reaches (Left log.end) (AtLast log.end (Shut log.end)) o a (log.end + 1) (shut_there log.end) shut_run

      pub not_cut : (fault : DiskFault) → CutStays a b (log.end + 1) (Err fault) → Runs (Left log.end) (AtLast log.end (Shut log.end)) o b
      not_cut fault w2 =
          going.cut_fails (Left log.end) (AtLast log.end (Shut log.end)) (AtLast log.end (Shut log.end)) (log.end + 1) (shut_there log.end) (shut_frayed log.end) (safe_shut log.end) o a b fault shut_run (λ t m at. at) w2

      pub is_cut : (y : Unit {0}) → CutStays a b (log.end + 1) (Ok y) → Runs (Left log.end) (AtLast log.end (Done log.end)) o b
      is_cut y w2 =
          going.cut_stays (Left log.end) (AtLast log.end (Shut log.end)) (AtLast log.end (Shut log.end)) (log.end + 1) (shut_there log.end) (shut_frayed log.end) (safe_shut log.end) (AtLast log.end (Done log.end)) o a b y shut_run
          (shut_done log.end) (safe_done log.end) w2

  pub touched_moments : (N : Told → Moment → Type 0) (b : Option Told) → Runs (Left log.end) N o b → LeavesLast log o b
  touched_moments N b run =
      subst (λ g. Runs (λ t left. LeftAt g (front_at log.end t) t.now left) (λ t m. Unit {0}) o b) (sym is)
      (going.so_now (Left log.end) N (λ t m. Unit {0}) o b (λ t m n. tt) run)

-- What follows of where the log ends, over whatever is said of what a crash leaves.
module _ (P : Told → List ℕ → Type 0) (end : ℕ) (o a : Option Told) where
  pub behind_stands : Runs P (AtEnd end IsBehind) o a → IfSome a (Stands (record { end = end; gate = Behind }))
  behind_stands run = going.at_last P (AtEnd end IsBehind) (Stands (record { end = end; gate = Behind })) o a
      (λ t u at. stands_by (record { end = end; gate = Behind }) (front_at end t) u at.size (behind_front (front_at end t) u.now at.gate) at.gate) run

  pub closed_stands : Runs P (AtEnd end IsClosed) o a → IfSome a (Stands (record { end = end; gate = Closed }))
  closed_stands run = going.at_last P (AtEnd end IsClosed) (Stands (record { end = end; gate = Closed })) o a
      (λ t u at. stands_by (record { end = end; gate = Closed }) (front_at end t) u at.size (closed_front (front_at end t) u.now at.gate) at.gate) run

  pub behind_kept : Runs P (AtEnd end IsBehind) o a → option_map (front_at end) a ≡ option_map (front_at end) o
  behind_kept run = going.at_both_same P (AtEnd end IsBehind) (front_at end) (front_at end) o a
      (λ t u at. ap (λ k. take k u.now.bytes) (sym at.size) ∙ behind_front (front_at end t) u.now at.gate) run

  pub closed_kept : Runs P (AtEnd end IsClosed) o a → option_map (front_at end) a ≡ option_map (front_at end) o
  closed_kept run = going.at_both_same P (AtEnd end IsClosed) (front_at end) (front_at end) o a
      (λ t u at. ap (λ k. take k u.now.bytes) (sym at.size) ∙ closed_front (front_at end t) u.now at.gate) run

  pub doubt_stands : Runs P (AtLast end (InDoubt end)) o a → IfSome a (Stands (record { end = end; gate = Touched }))
  doubt_stands run = going.at_last P (AtLast end (InDoubt end)) (Stands (record { end = end; gate = Touched })) o a
      (λ t u at. stands_by (record { end = end; gate = Touched }) (front_at end t) u at.size (touched_front (front_at end t) at.payload u.now at.gate) (at.payload, at.gate)) run

  pub doubt_kept : Runs P (AtLast end (InDoubt end)) o a → option_map (front_at end) a ≡ option_map (front_at end) o
  doubt_kept run = going.at_both_same P (AtLast end (InDoubt end)) (front_at end) (front_at end) o a
      (λ t u at. ap (λ k. take k u.now.bytes) (sym at.size) ∙ touched_front (front_at end t) at.payload u.now at.gate) run

  at_shut : (t : Told) (m : Moment) → AtLast end (Shut end) t m → AtEnd end IsBehind t m
  at_shut t m at = record { size = at.size; gate = at.gate }

  at_done : (t : Told) (m : Moment) → AtLast end (Done end) t m → AtEnd end IsClosed t m
  at_done t m at = record { size = at.size; gate = at.gate }

  pub shut_behind : Runs P (AtLast end (Shut end)) o a → Runs P (AtEnd end IsBehind) o a
  shut_behind run = going.so_now P (AtLast end (Shut end)) (AtEnd end IsBehind) o a at_shut run

  pub done_closed : Runs P (AtLast end (Done end)) o a → Runs P (AtEnd end IsClosed) o a
  done_closed run = going.so_now P (AtLast end (Done end)) (AtEnd end IsClosed) o a at_done run

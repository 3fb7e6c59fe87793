-- From what was found at the end of a log to one closed gate.
use Rattle.std.proofs.Common.{◌≡◌, ℕ, ◌+◌, List, [], ◌∷◌, ◌++◌, length, take, drop, refl, sym, ◌∙◌, ap, subst, arith, length-append, append_assoc, Option, Some, None, Result, Ok, Err}
use Rattle.std.specs.Prelude.{IfSome}
use Rattle.std.proofs.lemmas.List.{take_at, take_all, length-take, length-drop, take-append-drop}
use Rattle.disks.specs.declared.disk.DiskFault.{DiskFault}
use Rattle.disks.specs.Disks.{Moment, Told, Reaches, solid}
use Rattle.gated_log.specs.declared.log.Gate.TheVariants.{Closed}
use Rattle.gated_log.specs.Format.{NoRecord}
use Rattle.gated_log.specs.Calls.{WriteStays, CutStays}
use Rattle.gated_log.specs.Ends.{IsClosed, IsBehind, IsEnd, HasNothing, HasByte, HasClosed, HasOpen, HasOther, Stands, Runs, LeavesFront, ClosesAt, front_at}
use Rattle.gated_log.proofs.Firm.{firm_solid}
use Rattle.gated_log.proofs.Standing.{behind_solid}
use Rattle.gated_log.proofs.Going.{AtEnd}
use Rattle.gated_log.proofs.Shutting as shutting
use Rattle.gated_log.proofs.Shutting.{IsDoubtful, IsOther, IsAll, doubtful_solid, any_none, behind_ended, other_ended, doubtful_ended, closed_ended, edge_ended}
use Rattle.gated_log.proofs.Pieces.{if_told, both_told}

module _ (end : ℕ) where
  -- What was read stands so.
  nothing_at : (t : Told) → HasNothing end t → AtEnd end (IsAll end) t t.now
  nothing_at t is =
      let whole : take end t.now.bytes ≡ t.now.bytes = take_all end t.now.bytes (omega (arith, is.1)) in
      record { size = ap length whole ∙ is.1; gate = is.0 ∙ ap solid (sym whole) }

  front_long : (t : Told) → IsEnd end t → length (front_at end t) ≡ end
  front_long t ends = omega (arith, length-take end t.now.bytes, ends.within)

  by_byte : {P : ℕ → Type 0} (t : Told) (has : HasByte P end t) → t.now ≡ solid (front_at end t ++ has.gate ∷ has.rest)
  by_byte t has =
      has.ends.solid ∙ ap solid (sym (take-append-drop end t.now.bytes) ∙ ap (λ (l : List ℕ). front_at end t ++ l) has.is)

  closed_at : (t : Told) → HasClosed end t → AtEnd end IsBehind t t.now
  closed_at t has = record {
    size = front_long t has.ends;
    gate = subst (IsBehind (front_at end t))
        (sym (by_byte t has ∙ ap (λ g. solid (front_at end t ++ g ∷ has.rest)) has.kind)) (behind_solid (front_at end t) has.rest);
  }

  -- behind an open gate the bytes are whatever they are
  pub record IsAjar (front : List ℕ) (m : Moment) : Type 0 where
    pub more : List ℕ
    pub doubt : IsDoubtful more front m

  open_at : (t : Told) → HasOpen end t → AtEnd end IsAjar t t.now
  open_at t has =
      let none : NoRecord (1 ∷ has.rest) = subst NoRecord (has.is ∙ ap (λ g. g ∷ has.rest) has.kind) has.ends.none in
      record {
        size = front_long t has.ends;
        gate = record {
          more = has.rest;
          doubt = subst (IsDoubtful has.rest (front_at end t)) (sym (by_byte t has)) (doubtful_solid has.rest (front_at end t) has.gate (any_none has.rest none));
        };
      }

  -- Nothing stands there.
  module _ (o b : Option Told) (ends : IfSome o (HasNothing end)) where
    nothing_run : Runs (shutting.Left end) (AtEnd end (IsAll end)) o o
    nothing_run = shutting.begin_by end o (shutting.all_ended end) (if_told (HasNothing end) (λ t. AtEnd end (IsAll end) t t.now) o nothing_at ends)

    pub nothing_reach : IfSome o (Reaches end)
    nothing_reach = shutting.all_reach end o o nothing_run

    pub nothing_moments : (r : Result (Unit {0}) DiskFault) → WriteStays o b end (0 ∷ []) r → LeavesFront end o b
    nothing_moments (Ok x) w = shutting.leaves_front end o b closed_ended (shutting.all_done end o b nothing_run x w)
    nothing_moments (Err fault) w = shutting.leaves_front end o b edge_ended (shutting.all_fails end o b nothing_run fault w)

    pub nothing_closes : (r : Result (Unit {0}) DiskFault) → WriteStays o b end (0 ∷ []) r → ClosesAt end b r
    nothing_closes (Ok x) w = shutting.closes end o b (shutting.all_done end o b nothing_run x w)
    nothing_closes (Err fault) w = tt

  -- A closed gate, and what stands behind it.
  module _ (o b : Option Told) (ends : IfSome o (HasClosed end)) where
    closed_run : Runs (shutting.Left end) (AtEnd end IsBehind) o o
    closed_run = shutting.begin_by end o behind_ended (if_told (HasClosed end) (λ t. AtEnd end IsBehind t t.now) o closed_at ends)

    pub closed_reach : IfSome o (Reaches (end + 1))
    closed_reach = shutting.behind_reach end o o o closed_run

    pub closed_moments : (r : Result (Unit {0}) DiskFault) → CutStays o b (end + 1) r → LeavesFront end o b
    closed_moments (Ok x) w = shutting.leaves_front end o b closed_ended (shutting.behind_done end o o b closed_run x w)
    closed_moments (Err fault) w = shutting.leaves_front end o b behind_ended (shutting.behind_fails end o o b closed_run fault w)

    pub closed_closes : (r : Result (Unit {0}) DiskFault) → CutStays o b (end + 1) r → ClosesAt end b r
    closed_closes (Ok x) w = shutting.closes end o b (shutting.behind_done end o o b closed_run x w)
    closed_closes (Err fault) w = tt

  -- A gate in doubt, and bytes behind it of which a run may speak only where the disk tells: so they are found at the first
  -- moment.
  abbrev rest_of : (o : Option Told) → IfSome o (HasOpen end) → List ℕ
  rest_of None ends = []
  rest_of (Some t) ends = ends.rest

  open_now : (o : Option Told) (ends : IfSome o (HasOpen end)) → IfSome o (λ t. AtEnd end (IsDoubtful (rest_of o ends)) t t.now)
  unfolding open_at
  open_now None ends = tt
  open_now (Some t) ends = let at = open_at t ends in record { size = at.size; gate = at.gate.doubt }

  module _ (o a b : Option Told) (ends : IfSome o (HasOpen end)) where
    open_run : Runs (shutting.Left end) (AtEnd end (IsDoubtful (rest_of o ends))) o o
    open_run = shutting.begin_by end o (doubtful_ended (rest_of o ends)) (open_now o ends)

    pub open_reach : IfSome o (Reaches end)
    open_reach = shutting.doubtful_reach end (rest_of o ends) o o o open_run

    pub open_fails : (fault : DiskFault) → WriteStays o a end (0 ∷ []) (Err fault) → LeavesFront end o a
    open_fails fault w = shutting.leaves_front end o a (doubtful_ended (rest_of o ends)) (shutting.doubtful_fails end (rest_of o ends) o o a open_run fault w)

    module _ (x : Unit {0}) (w : WriteStays o a end (0 ∷ []) (Ok x)) where
      shut_run : Runs (shutting.Left end) (AtEnd end IsBehind) o a
      shut_run = shutting.doubtful_done end (rest_of o ends) o o a open_run x behind_ended (λ front. behind_solid front (rest_of o ends)) w

      pub shut_reach : IfSome a (Reaches (end + 1))
      shut_reach = shutting.behind_reach end o a a shut_run

      pub shut_moments : (r : Result (Unit {0}) DiskFault) → CutStays a b (end + 1) r → LeavesFront end o b
      shut_moments (Ok y) w2 = shutting.leaves_front end o b closed_ended (shutting.behind_done end o a b shut_run y w2)
      shut_moments (Err fault) w2 = shutting.leaves_front end o b behind_ended (shutting.behind_fails end o a b shut_run fault w2)

      pub shut_closes : (r : Result (Unit {0}) DiskFault) → CutStays a b (end + 1) r → ClosesAt end b r
      shut_closes (Ok y) w2 = shutting.closes end o b (shutting.behind_done end o a b shut_run y w2)
      shut_closes (Err fault) w2 = tt

  -- Another byte.
  abbrev gate_of : (o : Option Told) → IfSome o (HasOther end) → ℕ
  gate_of None ends = 0
  gate_of (Some t) ends = ends.gate

  other_now : (o : Option Told) (ends : IfSome o (HasOther end)) → IfSome o (λ t. AtEnd end (IsOther (gate_of o ends)) t t.now)
  other_now None ends = tt
  other_now (Some t) ends =
      let front = front_at end t in
      let all = front ++ ends.gate ∷ ends.rest in
      let k = length front + 1 in
      let long : length (front ++ ends.gate ∷ []) ≡ k = length-append front (ends.gate ∷ []) in
      let other : IsOther ends.gate front (solid all) = record {
        firm = firm_solid k all (omega (arith, length-append front (ends.gate ∷ ends.rest)));
        is = ap (take k) (sym (append_assoc front (ends.gate ∷ []) ends.rest)) ∙ take_at (front ++ ends.gate ∷ []) ends.rest k long;
        other = ends.kind;
      } in
      record { size = front_long t ends.ends; gate = subst (IsOther ends.gate front) (sym (by_byte t ends)) other }

  module _ (o a b : Option Told) (ends : IfSome o (HasOther end)) where
    other_run : Runs (shutting.Left end) (AtEnd end (IsOther (gate_of o ends))) o o
    other_run = shutting.begin_by end o (other_ended (gate_of o ends)) (other_now o ends)

    pub other_reach : IfSome o (Reaches (end + 1))
    other_reach = shutting.other_reach end (gate_of o ends) o o o other_run

    pub other_fails : (fault : DiskFault) → CutStays o a (end + 1) (Err fault) → LeavesFront end o a
    other_fails fault w = shutting.leaves_front end o a (other_ended (gate_of o ends)) (shutting.other_fails end (gate_of o ends) o o a other_run fault w)

    module _ (x : Unit {0}) (w : CutStays o a (end + 1) (Ok x)) where
      bare_run : Runs (shutting.Left end) (AtEnd end (IsDoubtful [])) o a
      bare_run = shutting.other_done end (gate_of o ends) o o a other_run x w

      pub bare_reach : IfSome a (Reaches end)
      bare_reach = shutting.doubtful_reach end [] o a a bare_run

      bare_done : (y : Unit {0}) → WriteStays a b end (0 ∷ []) (Ok y) → Runs (shutting.Left end) (AtEnd end IsClosed) o b
      bare_done y w2 = shutting.doubtful_done end [] o a b bare_run y closed_ended (λ front. refl) w2

      pub bare_moments : (r : Result (Unit {0}) DiskFault) → WriteStays a b end (0 ∷ []) r → LeavesFront end o b
      bare_moments (Ok y) w2 = shutting.leaves_front end o b closed_ended (bare_done y w2)
      bare_moments (Err fault) w2 = shutting.leaves_front end o b (doubtful_ended []) (shutting.doubtful_fails end [] o a b bare_run fault w2)

      pub bare_closes : (r : Result (Unit {0}) DiskFault) → WriteStays a b end (0 ∷ []) r → ClosesAt end b r
      bare_closes (Ok y) w2 = shutting.closes end o b (bare_done y w2)
      bare_closes (Err fault) w2 = tt

  -- The first two bytes that stand at the end, and what they say.
  found_nothing : (t : Told) → IsEnd end t → [] ≡ take 2 (drop end t.now.bytes) → HasNothing end t
  found_nothing t ends none =
      let size : 0 ≡ length (take 2 (drop end t.now.bytes)) = ap length none in
      (ends.solid, omega (arith, size, length-take 2 (drop end t.now.bytes), length-drop end t.now.bytes, ends.within))

  found_byte : (P : ℕ → Type 0) (gate : ℕ) (more : List ℕ) (t : Told) → P gate → IsEnd end t → gate ∷ more ≡ take 2 (drop end t.now.bytes) → HasByte P end t
  found_byte P gate more t kind ends is = by_rest (drop end t.now.bytes) refl is
    where
      by_rest : (rest : List ℕ) → drop end t.now.bytes ≡ rest → gate ∷ more ≡ take 2 rest → HasByte P end t
      by_rest [] e is = absurd cc
      by_rest (b ∷ rest) e is =
          let same : gate ≡ b = cc in
          record { ends = ends; gate = b; rest = rest; is = e; kind = subst P same kind }

  module _ (o : Option Told) (ends : IfSome o (IsEnd end)) (found : List ℕ) (is : IfSome o (λ t. found ≡ take 2 (drop end t.now.bytes))) where
    pub is_nothing : found ≡ [] → IfSome o (HasNothing end)
    is_nothing none = both_told (IsEnd end) (λ t. found ≡ take 2 (drop end t.now.bytes)) (HasNothing end) o (λ t e f. found_nothing t e (sym none ∙ f)) ends is

    pub is_byte : (P : ℕ → Type 0) (gate : ℕ) (more : List ℕ) → found ≡ gate ∷ more → P gate → IfSome o (HasByte P end)
    is_byte P gate more has kind = both_told (IsEnd end) (λ t. found ≡ take 2 (drop end t.now.bytes)) (HasByte P end) o (λ t e f. found_byte P gate more t kind e (sym has ∙ f)) ends is

    -- a closed gate alone
    lone_closed : (t : Told) → IsEnd end t → 0 ∷ [] ≡ take 2 (drop end t.now.bytes) → AtEnd end IsClosed t t.now
    lone_closed t e f = by_rest (drop end t.now.bytes) refl f
      where
        by_rest : (rest : List ℕ) → drop end t.now.bytes ≡ rest → 0 ∷ [] ≡ take 2 rest → AtEnd end IsClosed t t.now
        by_rest [] at two = absurd cc
        by_rest (b ∷ c ∷ rest) at two = absurd cc
        by_rest (b ∷ []) at two =
            let same : b ≡ 0 = cc in
            record {
              size = front_long t e;
              gate = e.solid ∙ ap solid (sym (take-append-drop end t.now.bytes) ∙ ap (λ (l : List ℕ). front_at end t ++ l) (at ∙ ap (λ g. g ∷ []) same));
            }

    lone_run : found ≡ 0 ∷ [] → Runs (shutting.Left end) (AtEnd end IsClosed) o o
    lone_run has = shutting.begin_by end o closed_ended (both_told (IsEnd end) (λ t. found ≡ take 2 (drop end t.now.bytes)) (λ t. AtEnd end IsClosed t t.now) o (λ t e f. lone_closed t e (sym has ∙ f)) ends is)

    pub lone_moments : found ≡ 0 ∷ [] → LeavesFront end o o
    lone_moments has = shutting.leaves_front end o o closed_ended (lone_run has)

    pub lone_closes : found ≡ 0 ∷ [] → IfSome o (Stands (record { end = end; gate = Closed }))
    lone_closes has = shutting.closes end o o (lone_run has)

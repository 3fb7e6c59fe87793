-- The moments in which the end of a log becomes one closed gate.
use Rattle.std.proofs.Common.{◌≡◌, ◌≢◌, ◌≤◌, ℕ, zero, suc, ◌+◌, List, [], ◌∷◌, ◌++◌, length, take, drop, refl, sym, ◌∙◌, ap, subst, arith, append_assoc, length-append, Option, Some, None, Ok, Err}
use Rattle.std.specs.Prelude.{IfSome}
use Rattle.std.proofs.lemmas.List.{take_all, length-drop, take-append-drop}
use Rattle.disks.specs.declared.disk.DiskFault.{DiskFault}
use Rattle.disks.specs.Disks.{Moment, Told, MayLeave, IsTorn, IsFrayed, Reaches, solid, wrote, shortened, over}
use Rattle.gated_log.specs.declared.log.Gate.TheVariants.{Closed}
use Rattle.gated_log.specs.Format.{NoRecord, EndsWith}
use Rattle.gated_log.specs.Calls.{WriteStays, CutStays}
use Rattle.gated_log.specs.Ends.{IsFirm, IsFirmBut, IsClosed, IsBehind, IsEnd, Stands, Runs, LeavesFront, front_at}
use Rattle.gated_log.proofs.Firm.{firm_left, firm_wrote, firm_cut, firm_solid, but_solid, over_one, over_end, solid_left}
use Rattle.gated_log.proofs.Standing.{no_gate, too_short, closed_behind, behind_left, behind_frayed, behind_cut, gate_left, gate_torn, one_there, closed_front, stands_by}
use Rattle.gated_log.proofs.Going.{AtEnd}
use Rattle.gated_log.proofs.Going as going

-- a gate in doubt, behind which no whole record stands, whichever it is
pub record IsDoubtful (more front : List ℕ) (m : Moment) : Type 0 where
  pub gate : ℕ
  pub is : m.bytes ≡ front ++ gate ∷ more
  pub firm : IsFirmBut (length front) m
  pub none : (g : ℕ) → NoRecord (g ∷ more)

-- a byte that is no open gate stays behind the front
pub record IsOther (gate : ℕ) (front : List ℕ) (m : Moment) : Type 0 where
  pub firm : IsFirm (length front + 1) m
  pub is : take (length front + 1) m.bytes ≡ front ++ gate ∷ []
  pub other : gate ≢ 1

-- at most one byte is behind the front
pub record IsEdge (front : List ℕ) (m : Moment) : Type 0 where
  pub firm : IsFirm (length front) m
  pub is : take (length front) m.bytes ≡ front
  pub most : m.most ≤ length front + 1
  pub long : length m.bytes ≤ length front + 1

-- in no such state is there a whole record behind the front, nor in what a crash leaves
pub record IsEnded (G : List ℕ → Moment → Type 0) : Type 0 where
  pub left : (front : List ℕ) (m : Moment) → G front m → (left : List ℕ) → MayLeave m left → EndsWith front left
  pub here : (front : List ℕ) (m : Moment) → G front m → EndsWith front m.bytes

-- bytes that begin with the front and a byte
begins_so : (gate : ℕ) (front bytes : List ℕ) → take (length front + 1) bytes ≡ front ++ gate ∷ [] → gate ≢ 1 → EndsWith front bytes
begins_so gate front bytes is other =
    let k = length front + 1 in
    record {
      rest = gate ∷ drop k bytes;
      is = sym (take-append-drop k bytes) ∙ ap (λ (l : List ℕ). l ++ drop k bytes) is ∙ append_assoc front (gate ∷ []) (drop k bytes);
      none = no_gate gate (drop k bytes) other;
    }

-- bytes that begin with the front and have at most one byte more
short_rest : (front bytes : List ℕ) → take (length front) bytes ≡ front → length bytes ≤ length front + 1 → EndsWith front bytes
short_rest front bytes is le =
    let k = length front in
    record {
      rest = drop k bytes;
      is = sym (take-append-drop k bytes) ∙ ap (λ (l : List ℕ). l ++ drop k bytes) is;
      none = too_short (drop k bytes) (omega (arith, le, length-drop k bytes));
    }

doubtful_here : (more front bytes : List ℕ) (gate : ℕ) → ((g : ℕ) → NoRecord (g ∷ more)) → bytes ≡ front ++ gate ∷ more → EndsWith front bytes
doubtful_here more front bytes gate none is = record { rest = gate ∷ more; is = is; none = none gate }

not_one : ◌≢◌ {A = ℕ} 0 1
not_one e = absurd cc

pub doubtful_ended : (more : List ℕ) → IsEnded (IsDoubtful more)
doubtful_ended more = record {
  left = λ front m d left may.
      let is = gate_left front more d.gate m left d.is d.firm may in doubtful_here more front left is.0 d.none is.1;
  here = λ front m d. doubtful_here more front m.bytes d.gate d.none d.is;
}

pub other_ended : (gate : ℕ) → IsEnded (IsOther gate)
other_ended gate = record {
  left = λ front m o left may. begins_so gate front left (firm_left (length front + 1) m left o.firm may ∙ o.is) o.other;
  here = λ front m o. begins_so gate front m.bytes o.is o.other;
}

pub behind_ended : IsEnded IsBehind
behind_ended = record {
  left = λ front m b left may. behind_left front m left b may;
  here = λ front m b. begins_so 0 front m.bytes b.is not_one;
}

pub closed_ended : IsEnded IsClosed
closed_ended = record {
  left = λ front m is left may. behind_left front m left (closed_behind front m is) may;
  here = λ front m is. behind_ended.here front m (closed_behind front m is);
}

pub edge_ended : IsEnded IsEdge
edge_ended = record {
  left = λ front m e left may.
      short_rest front left (firm_left (length front) m left e.firm may ∙ e.is) (omega (arith, may.no_longer, e.most));
  here = λ front m e. short_rest front m.bytes e.is e.long;
}

-- What the calls make of these.
pub edge_solid : (front : List ℕ) → IsEdge front (solid front)
edge_solid front = record {
  firm = firm_solid (length front) front (omega arith);
  is = take_all (length front) front (omega arith);
  most = omega arith;
  long = omega arith;
}

pub edge_torn : (front : List ℕ) (m : Moment) (bs : List ℕ) → IsEdge front m → IsTorn m.bytes (length front) 1 bs
    → IsEdge front (wrote m (length front) 1 bs)
edge_torn front m bs e torn =
    let most = e.most in
    let long = e.long in
    record {
      firm = firm_wrote (length front) m (length front) 1 bs e.firm (omega arith) torn;
      is = torn.before ∙ e.is;
      most = omega arith;
      long = omega (arith, torn.no_longer);
    }

pub doubtful_torn : (more front : List ℕ) (m : Moment) (bs : List ℕ) → IsDoubtful more front m → IsTorn m.bytes (length front) 1 bs
    → IsDoubtful more front (wrote m (length front) 1 bs)
doubtful_torn more front m bs d torn =
    let next = gate_torn front more d.gate m bs d.is d.firm torn in
    record { gate = next.1.0; is = next.1.1; firm = next.0; none = d.none }

pub doubtful_solid : (more front : List ℕ) (gate : ℕ) → ((g : ℕ) → NoRecord (g ∷ more)) → IsDoubtful more front (solid (front ++ gate ∷ more))
doubtful_solid more front gate none =
    record { gate = gate; is = refl; firm = but_solid (length front) (front ++ gate ∷ more) (one_there front more gate); none = none }

-- one byte, whatever it is, is no record
pub lone_none : (g : ℕ) → NoRecord (g ∷ [])
lone_none g = too_short (g ∷ []) (omega arith)

-- a record that does not end behind an open gate is none behind any other
pub any_none : (more : List ℕ) → NoRecord (1 ∷ more) → (g : ℕ) → NoRecord (g ∷ more)
any_none more none zero = no_gate zero more not_one
any_none more none (suc zero) = none
any_none more none (suc (suc g)) = no_gate (suc (suc g)) more (λ e. absurd cc)

pub other_frayed : (gate : ℕ) (front : List ℕ) (m : Moment) (bs : List ℕ) → IsOther gate front m → IsFrayed m.bytes (length front + 1) bs
    → IsOther gate front (shortened m (length front + 1) bs)
other_frayed gate front m bs o frayed = record {
  firm = firm_cut (length front + 1) m (length front + 1) bs o.firm (omega arith) frayed;
  is = frayed.front ∙ o.is;
  other = o.other;
}

pub other_cut : (gate : ℕ) (front : List ℕ) (m : Moment) → IsOther gate front m → IsDoubtful [] front (solid (take (length front + 1) m.bytes))
other_cut gate front m o = subst (λ (l : List ℕ). IsDoubtful [] front (solid l)) (sym o.is) (doubtful_solid [] front gate lone_none)

module _ (end : ℕ) where
  abbrev pub Left : Told → List ℕ → Type 0
  Left = λ t left. EndsWith (front_at end t) left

  abbrev pub At : (List ℕ → Moment → Type 0) → Told → Moment → Type 0
  At = AtEnd end

  pub safe : {G : List ℕ → Moment → Type 0} → IsEnded G → going.Safe Left (At G)
  safe ended t m at left may = ended.left (front_at end t) m at.gate left may

  -- where an end was read, it is one of these
  pub begin_by : {G : List ℕ → Moment → Type 0} (o : Option Told) → IsEnded G
      → IfSome o (λ t. At G t t.now) → Runs Left (At G) o o
  begin_by {G} o ended now = going.begins Left (At G) o now (safe ended)

  -- a write of a closed gate over a byte in doubt
  module _ (more : List ℕ) where
    doubtful_there : (t : Told) (m : Moment) → At (IsDoubtful more) t m → end ≤ length m.bytes
    doubtful_there t m at =
        omega (arith, at.size, ap (λ (l : List ℕ). length l) at.gate.is, length-append (front_at end t) (at.gate.gate ∷ more))

    doubtful_wrote : (t : Told) (m : Moment) → At (IsDoubtful more) t m → (bs : List ℕ) → IsTorn m.bytes end 1 bs
        → At (IsDoubtful more) t (wrote m end 1 bs)
    doubtful_wrote t m at bs torn = record {
      size = at.size;
      gate = subst (λ k. IsDoubtful more (front_at end t) (wrote m k 1 bs)) at.size
          (doubtful_torn more (front_at end t) m bs at.gate (subst (λ k. IsTorn m.bytes k 1 bs) (sym at.size) torn));
    }

    doubtful_shut : (t : Told) (m : Moment) → At (IsDoubtful more) t m
        → solid (over m.bytes end (0 ∷ [])) ≡ solid (front_at end t ++ 0 ∷ more)
    doubtful_shut t m at =
        ap (λ (l : List ℕ). solid (over l end (0 ∷ []))) at.gate.is ∙ ap solid (over_one (front_at end t) end at.gate.gate 0 more at.size)

    module _ (o a b : Option Told) (run : Runs Left (At (IsDoubtful more)) o a) where
      pub doubtful_reach : IfSome a (Reaches end)
      doubtful_reach = going.reaches Left (At (IsDoubtful more)) o a end doubtful_there run

      pub doubtful_fails : (fault : DiskFault) → WriteStays a b end (0 ∷ []) (Err fault) → Runs Left (At (IsDoubtful more)) o b
      doubtful_fails fault w =
          going.write_fails Left (At (IsDoubtful more)) (At (IsDoubtful more)) end (0 ∷ []) doubtful_there doubtful_wrote (safe (doubtful_ended more)) o a b fault run (λ t m at. at) w

      pub doubtful_done : {G : List ℕ → Moment → Type 0} (x : Unit {0}) → IsEnded G
          → ((front : List ℕ) → G front (solid (front ++ 0 ∷ more)))
          → WriteStays a b end (0 ∷ []) (Ok x) → Runs Left (At G) o b
      doubtful_done {G} x ended becomes w =
          going.write_stays Left (At (IsDoubtful more)) (At (IsDoubtful more)) end (0 ∷ []) doubtful_there doubtful_wrote (safe (doubtful_ended more)) (At G) o a b x run
          (λ t m at. record { size = at.size; gate = subst (G (front_at end t)) (sym (doubtful_shut t m at)) (becomes (front_at end t)) })
          (safe ended) w

  -- a closed gate where nothing stands
  abbrev pub IsAll : List ℕ → Moment → Type 0
  IsAll front m = m ≡ solid front

  all_edge : (t : Told) (m : Moment) → At IsAll t m → At IsEdge t m
  all_edge t m at = record { size = at.size; gate = subst (IsEdge (front_at end t)) (sym at.gate) (edge_solid (front_at end t)) }

  pub all_ended : IsEnded IsAll
  all_ended = record {
    left = λ front m is left may. edge_ended.left front m (subst (IsEdge front) (sym is) (edge_solid front)) left may;
    here = λ front m is. edge_ended.here front m (subst (IsEdge front) (sym is) (edge_solid front));
  }

  all_there : (t : Told) (m : Moment) → At IsAll t m → end ≤ length m.bytes
  all_there t m at = omega (arith, at.size, ap (λ (z : Moment). length z.bytes) at.gate)

  all_wrote : (t : Told) (m : Moment) → At IsAll t m → (bs : List ℕ) → IsTorn m.bytes end 1 bs → At IsEdge t (wrote m end 1 bs)
  all_wrote t m at bs torn = record {
    size = at.size;
    gate = subst (λ k. IsEdge (front_at end t) (wrote m k 1 bs)) at.size
        (edge_torn (front_at end t) m bs (all_edge t m at).gate (subst (λ k. IsTorn m.bytes k 1 bs) (sym at.size) torn));
  }

  all_closed : (t : Told) (m : Moment) → At IsAll t m → At IsClosed t (solid (over m.bytes end (0 ∷ [])))
  all_closed t m at = record {
    size = at.size;
    gate = ap (λ (z : Moment). solid (over z.bytes end (0 ∷ []))) at.gate ∙ ap solid (over_end (front_at end t) end (0 ∷ []) at.size);
  }

  module _ (o b : Option Told) (run : Runs Left (At IsAll) o o) where
    pub all_reach : IfSome o (Reaches end)
    all_reach = going.reaches Left (At IsAll) o o end all_there run

    pub all_fails : (fault : DiskFault) → WriteStays o b end (0 ∷ []) (Err fault) → Runs Left (At IsEdge) o b
    all_fails fault w = going.write_fails Left (At IsAll) (At IsEdge) end (0 ∷ []) all_there all_wrote (safe edge_ended) o o b fault run all_edge w

    pub all_done : (x : Unit {0}) → WriteStays o b end (0 ∷ []) (Ok x) → Runs Left (At IsClosed) o b
    all_done x w = going.write_stays Left (At IsAll) (At IsEdge) end (0 ∷ []) all_there all_wrote (safe edge_ended) (At IsClosed) o o b x run all_closed (safe closed_ended) w

  -- a cut behind the byte that stands at the end
  module _ (G D : List ℕ → Moment → Type 0) (ended : IsEnded G) (done_ended : IsEnded D)
      (there : (front : List ℕ) (m : Moment) → G front m → length front + 1 ≤ length m.bytes)
      (frayed : (front : List ℕ) (m : Moment) (bs : List ℕ) → G front m → IsFrayed m.bytes (length front + 1) bs → G front (shortened m (length front + 1) bs))
      (done : (front : List ℕ) (m : Moment) → G front m → D front (solid (take (length front + 1) m.bytes))) where
    cut_there : (t : Told) (m : Moment) → At G t m → end + 1 ≤ length m.bytes
    cut_there t m at = omega (arith, at.size, there (front_at end t) m at.gate)

    next : (t : Told) (m : Moment) → At G t m → length (front_at end t) + 1 ≡ end + 1
    next t m at = ap (λ k. k + 1) at.size

    cut_frayed : (t : Told) (m : Moment) → At G t m → (bs : List ℕ) → IsFrayed m.bytes (end + 1) bs → At G t (shortened m (end + 1) bs)
    cut_frayed t m at bs is = record {
      size = at.size;
      gate = subst (λ k. G (front_at end t) (shortened m k bs)) (next t m at)
          (frayed (front_at end t) m bs at.gate (subst (λ k. IsFrayed m.bytes k bs) (sym (next t m at)) is));
    }

    module _ (o a b : Option Told) (run : Runs Left (At G) o a) where
      pub cut_reach : IfSome a (Reaches (end + 1))
      cut_reach = going.reaches Left (At G) o a (end + 1) cut_there run

      pub cut_fails : (fault : DiskFault) → CutStays a b (end + 1) (Err fault) → Runs Left (At G) o b
      cut_fails fault w = going.cut_fails Left (At G) (At G) (end + 1) cut_there cut_frayed (safe ended) o a b fault run (λ t m at. at) w

      pub cut_done : (x : Unit {0}) → CutStays a b (end + 1) (Ok x) → Runs Left (At D) o b
      cut_done x w =
          going.cut_stays Left (At G) (At G) (end + 1) cut_there cut_frayed (safe ended) (At D) o a b x run
          (λ t m at. record {
            size = at.size;
            gate = subst (λ k. D (front_at end t) (solid (take k m.bytes))) (next t m at) (done (front_at end t) m at.gate);
          }) (safe done_ended) w

  -- What follows of where the end stands.
  module _ (o a : Option Told) where
    pub leaves_front : {G : List ℕ → Moment → Type 0} → IsEnded G → Runs Left (At G) o a → LeavesFront end o a
    leaves_front {G} ended run = going.so_now Left (At G) (λ t m. EndsWith (front_at end t) m.bytes) o a (λ t m at. ended.here (front_at end t) m at.gate) run

    pub closes : Runs Left (At IsClosed) o a → IfSome a (Stands (record { end = end; gate = Closed }))
    closes run = going.at_last Left (At IsClosed) (Stands (record { end = end; gate = Closed })) o a
        (λ t u at. stands_by (record { end = end; gate = Closed }) (front_at end t) u at.size (closed_front (front_at end t) u.now at.gate) at.gate) run

  behind_there : (front : List ℕ) (m : Moment) → IsBehind front m → length front + 1 ≤ length m.bytes
  behind_there front m b = b.firm.there

  behind_cut_so : (front : List ℕ) (m : Moment) → IsBehind front m → IsClosed front (solid (take (length front + 1) m.bytes))
  behind_cut_so front m b = behind_cut front m b

  module _ (o a b : Option Told) (run : Runs Left (At IsBehind) o a) where
    pub behind_reach : IfSome a (Reaches (end + 1))
    behind_reach = cut_reach IsBehind IsClosed behind_ended closed_ended behind_there behind_frayed behind_cut_so o a b run

    pub behind_fails : (fault : DiskFault) → CutStays a b (end + 1) (Err fault) → Runs Left (At IsBehind) o b
    behind_fails fault w = cut_fails IsBehind IsClosed behind_ended closed_ended behind_there behind_frayed behind_cut_so o a b run fault w

    pub behind_done : (x : Unit {0}) → CutStays a b (end + 1) (Ok x) → Runs Left (At IsClosed) o b
    behind_done x w = cut_done IsBehind IsClosed behind_ended closed_ended behind_there behind_frayed behind_cut_so o a b run x w

  module _ (gate : ℕ) (o a b : Option Told) (run : Runs Left (At (IsOther gate)) o a) where
    other_there : (front : List ℕ) (m : Moment) → IsOther gate front m → length front + 1 ≤ length m.bytes
    other_there front m is = is.firm.there

    pub other_reach : IfSome a (Reaches (end + 1))
    other_reach = cut_reach (IsOther gate) (IsDoubtful []) (other_ended gate) (doubtful_ended []) other_there (other_frayed gate) (other_cut gate) o a b run

    pub other_fails : (fault : DiskFault) → CutStays a b (end + 1) (Err fault) → Runs Left (At (IsOther gate)) o b
    other_fails fault w = cut_fails (IsOther gate) (IsDoubtful []) (other_ended gate) (doubtful_ended []) other_there (other_frayed gate) (other_cut gate) o a b run fault w

    pub other_done : (x : Unit {0}) → CutStays a b (end + 1) (Ok x) → Runs Left (At (IsDoubtful [])) o b
    other_done x w = cut_done (IsOther gate) (IsDoubtful []) (other_ended gate) (doubtful_ended []) other_there (other_frayed gate) (other_cut gate) o a b run x w

-- where nothing was done yet, the bytes end as they did
ends_left : (end : ℕ) (t : Told) → IsEnd end t → (left : List ℕ) → MayLeave t.now left → EndsWith (front_at end t) left
ends_left end t ends left may = record {
  rest = drop end t.now.bytes;
  is = solid_left t.now.bytes left (subst (λ m. MayLeave m left) ends.solid may) ∙ sym (take-append-drop end t.now.bytes);
  none = ends.none;
}

pub ends_kept : (end : ℕ) (o : Option Told) → IfSome o (IsEnd end) → LeavesFront end o o
ends_kept end None ends = tt
ends_kept end (Some t) ends = (
  going.started (EndsWith (front_at end t)) t (ends_left end t ends),
  record {
    rest = drop end t.now.bytes;
    is = sym (take-append-drop end t.now.bytes);
    none = ends.none;
  },
)

-- How an end stands: what a crash leaves of it, and what a write, a cut and a sync make of it.
use Rattle.std.proofs.Common.{◌≡◌, ◌<◌, ◌≤◌, inl, inr, ℕ, zero, suc, ◌+◌, List, [], ◌∷◌, ◌++◌, length, take, drop, refl, sym, ◌∙◌, ap, subst, arith, append_assoc, length-append}
use Rattle.std.proofs.lemmas.List.{take_at, drop_at, take_all, take-append-drop}
use Rattle.disks.specs.Disks.{Moment, Told, MayLeave, IsTorn, IsFrayed, solid, wrote, shortened}
use Rattle.gated_log.specs.declared.log.Log.{Log}
use Rattle.gated_log.specs.Format.{NoRecord, EndsWith, EndsWithEither, record_bytes, behind_gate, u8_bytes}
use Rattle.gated_log.specs.Ends.{IsFirmBut, IsClosed, IsBehind, IsTouched, StandsBehind, Stands, front_at}
use Rattle.gated_log.proofs.Firm.{firm_left, firm_wrote, firm_cut, firm_solid, but_left, but_torn, but_solid, front_of_front}

-- No record stands behind a byte that is no open gate, nor in fewer than nine bytes.
pub no_gate : (gate : ℕ) (rest : List ℕ) → (gate ≡ 1 → ⊥) → NoRecord (gate ∷ rest)
no_gate zero rest shut = refl
no_gate (suc zero) rest shut = absurd (shut refl)
no_gate (suc (suc g)) rest shut = refl

pub too_short : (bytes : List ℕ) → length bytes < 9 → NoRecord bytes
too_short [] lt = refl
too_short (zero ∷ rest) lt = refl
too_short (suc (suc g) ∷ rest) lt = refl
too_short (suc zero ∷ []) lt = refl
too_short (suc zero ∷ a ∷ []) lt = refl
too_short (suc zero ∷ a ∷ b ∷ []) lt = refl
too_short (suc zero ∷ a ∷ b ∷ c ∷ []) lt = refl
too_short (suc zero ∷ a ∷ b ∷ c ∷ d ∷ []) lt = refl
too_short (suc zero ∷ a ∷ b ∷ c ∷ d ∷ e ∷ []) lt = refl
too_short (suc zero ∷ a ∷ b ∷ c ∷ d ∷ e ∷ f ∷ []) lt = refl
too_short (suc zero ∷ a ∷ b ∷ c ∷ d ∷ e ∷ f ∷ g ∷ []) lt = refl
too_short (suc zero ∷ a ∷ b ∷ c ∷ d ∷ e ∷ f ∷ g ∷ h ∷ rest) lt = absurd (omega (arith, lt))

closed_gate : (rest : List ℕ) → NoRecord (0 ∷ rest)
closed_gate rest = refl

pub closed_long : (front : List ℕ) → length (front ++ 0 ∷ []) ≡ length front + 1
closed_long front = length-append front (0 ∷ [])

pub behind_left : (front : List ℕ) (m : Moment) (left : List ℕ) → IsBehind front m → MayLeave m left → EndsWith front left
behind_left front m left behind may =
    let k = length front + 1 in
    let rest = drop k left in
    record {
      rest = 0 ∷ rest;
      is = sym (take-append-drop k left)
          ∙ ap (λ (l : List ℕ). l ++ rest) (firm_left k m left behind.firm may ∙ behind.is)
          ∙ append_assoc front (0 ∷ []) rest;
      none = closed_gate rest;
    }

-- a closed end is one behind which nothing stands
pub closed_behind : (front : List ℕ) (m : Moment) → IsClosed front m → IsBehind front m
closed_behind front m is = subst (IsBehind front) (sym is) (record {
  firm = firm_solid (length front + 1) (front ++ 0 ∷ []) (omega (arith, closed_long front));
  is = take_all (length front + 1) (front ++ 0 ∷ []) (omega (arith, closed_long front));
})

pub closed_left : (front : List ℕ) (m : Moment) (left : List ℕ) → IsClosed front m → MayLeave m left → EndsWith front left
closed_left front m left is may = behind_left front m left (closed_behind front m is) may

pub behind_torn : (front : List ℕ) (m : Moment) (at n : ℕ) (torn : List ℕ) → IsBehind front m → length front + 1 ≤ at
    → IsTorn m.bytes at n torn → IsBehind front (wrote m at n torn)
behind_torn front m at n torn behind le is = record {
  firm = firm_wrote (length front + 1) m at n torn behind.firm le is;
  is = front_of_front (length front + 1) at torn m.bytes le is.before ∙ behind.is;
}

pub behind_frayed : (front : List ℕ) (m : Moment) (frayed : List ℕ) → IsBehind front m
    → IsFrayed m.bytes (length front + 1) frayed → IsBehind front (shortened m (length front + 1) frayed)
behind_frayed front m frayed behind is = record {
  firm = firm_cut (length front + 1) m (length front + 1) frayed behind.firm (omega arith) is;
  is = is.front ∙ behind.is;
}

-- once what is behind a closed gate is cut off and that stays, the end is closed
pub behind_cut : (front : List ℕ) (m : Moment) → IsBehind front m → IsClosed front (solid (take (length front + 1) m.bytes))
behind_cut front m behind = ap solid behind.is

-- all of it stays, and a closed gate is behind the front
pub behind_solid : (front rest : List ℕ) → IsBehind front (solid (front ++ 0 ∷ rest))
behind_solid front rest =
    let all : front ++ 0 ∷ rest ≡ (front ++ 0 ∷ []) ++ rest = sym (append_assoc front (0 ∷ []) rest) in
    let long = length-append front (0 ∷ rest) in
    record {
      firm = firm_solid (length front + 1) (front ++ 0 ∷ rest) (omega (arith, long));
      is = ap (take (length front + 1)) all ∙ take_at (front ++ 0 ∷ []) rest (length front + 1) (closed_long front);
    }

-- one byte of bytes is in doubt: those before it, and those behind it
module _ (front rest : List ℕ) (gate : ℕ) where
  abbrev all : List ℕ
  all = front ++ gate ∷ rest

  pub one_before : take (length front) all ≡ front
  one_before = take_at front (gate ∷ rest) (length front) refl

  pub one_behind : drop (length front + 1) all ≡ rest
  one_behind =
      ap (drop (length front + 1)) (sym (append_assoc front (gate ∷ []) rest))
      ∙ drop_at (front ++ gate ∷ []) rest (length front + 1) (length-append front (gate ∷ []))

  pub one_there : length front < length all
  one_there = omega (arith, length-append front (gate ∷ rest))

-- bytes behind a front whose gate is in doubt, and what is left of them
pub gate_left : (front rest : List ℕ) (gate : ℕ) (m : Moment) (left : List ℕ) → m.bytes ≡ front ++ gate ∷ rest
    → IsFirmBut (length front) m → MayLeave m left → (g : ℕ) × (left ≡ front ++ g ∷ rest)
gate_left front rest gate m left is firm may =
    let but = but_left (length front) m left firm may in
    let before : take (length front) m.bytes ≡ front = ap (take (length front)) is ∙ one_before front rest gate in
    let behind : drop (length front + 1) m.bytes ≡ rest = ap (drop (length front + 1)) is ∙ one_behind front rest gate in (
      but.0,
      but.1 ∙ ap (λ (l : List ℕ). l ++ but.0 ∷ drop (length front + 1) m.bytes) before
          ∙ ap (λ (l : List ℕ). front ++ but.0 ∷ l) behind,
    )

pub gate_torn : (front rest : List ℕ) (gate : ℕ) (m : Moment) (torn : List ℕ) → m.bytes ≡ front ++ gate ∷ rest
    → IsFirmBut (length front) m → IsTorn m.bytes (length front) 1 torn
    → IsFirmBut (length front) (wrote m (length front) 1 torn) × ((g : ℕ) × (torn ≡ front ++ g ∷ rest))
gate_torn front rest gate m torn is firm t =
    let but = but_torn (length front) m torn firm t in
    let before : take (length front) m.bytes ≡ front = ap (take (length front)) is ∙ one_before front rest gate in
    let behind : drop (length front + 1) m.bytes ≡ rest = ap (drop (length front + 1)) is ∙ one_behind front rest gate in (
      but.0,
      (
        but.1.0,
        but.1.1 ∙ ap (λ (l : List ℕ). l ++ but.1.0 ∷ drop (length front + 1) m.bytes) before
            ∙ ap (λ (l : List ℕ). front ++ but.1.0 ∷ l) behind,
      ),
    )

module _ (front payload : List ℕ) where
  -- the record stands whole behind whatever gate
  pub by_gate : (gate : ℕ) (left : List ℕ) → left ≡ front ++ gate ∷ behind_gate payload → EndsWithEither front payload left
  by_gate zero left is = inl (record { rest = 0 ∷ behind_gate payload; is = is; none = closed_gate (behind_gate payload) })
  by_gate (suc zero) left is = inr (record {
    rest = 0 ∷ [];
    is = is ∙ ap (λ (l : List ℕ). front ++ 1 ∷ l) (sym (append_assoc (u8_bytes (length payload)) payload (0 ∷ [])))
        ∙ sym (append_assoc front (record_bytes payload) (0 ∷ []));
    none = closed_gate [];
  })
  by_gate (suc (suc g)) left is = inl (record {
    rest = suc (suc g) ∷ behind_gate payload;
    is = is;
    none = no_gate (suc (suc g)) (behind_gate payload) (λ e. absurd cc);
  })

  pub touched_left : (m : Moment) (left : List ℕ) → IsTouched front payload m → MayLeave m left → EndsWithEither front payload left
  touched_left m left touched may =
      let left_is = gate_left front (behind_gate payload) touched.gate m left touched.is touched.firm may in
      by_gate left_is.0 left left_is.1

  pub touched_torn : (m : Moment) (torn : List ℕ) → IsTouched front payload m → IsTorn m.bytes (length front) 1 torn
      → IsTouched front payload (wrote m (length front) 1 torn)
  touched_torn m torn touched t =
      let next = gate_torn front (behind_gate payload) touched.gate m torn touched.is touched.firm t in
      record { gate = next.1.0; is = next.1.1; firm = next.0; small = touched.small }

  -- all of it stays
  pub touched_solid : (gate : ℕ) → length payload < 18446744073709551616 → IsTouched front payload (solid (front ++ gate ∷ behind_gate payload))
  touched_solid gate small = record {
    gate = gate;
    is = refl;
    firm = but_solid (length front) (front ++ gate ∷ behind_gate payload) (one_there front (behind_gate payload) gate);
    small = small;
  }

-- The front is what stands before the gate.
pub behind_front : (front : List ℕ) (m : Moment) → IsBehind front m → take (length front) m.bytes ≡ front
behind_front front m behind =
    let k = length front in
    let whole : take (k + 1) m.bytes ≡ take (k + 1) (front ++ 0 ∷ []) =
    behind.is ∙ sym (take_all (k + 1) (front ++ 0 ∷ []) (omega (arith, closed_long front))) in
    front_of_front k (k + 1) m.bytes (front ++ 0 ∷ []) (omega arith) whole ∙ take_at front (0 ∷ []) k refl

pub touched_front : (front payload : List ℕ) (m : Moment) → IsTouched front payload m → take (length front) m.bytes ≡ front
touched_front front payload m touched =
    ap (take (length front)) touched.is ∙ one_before front (behind_gate payload) touched.gate

pub closed_front : (front : List ℕ) (m : Moment) → IsClosed front m → take (length front) m.bytes ≡ front
closed_front front m is = behind_front front m (closed_behind front m is)

-- A log stands as is said of its front.
pub stands_by : (log : Log) (front : List ℕ) (u : Told) → length front ≡ log.end → take (length front) u.now.bytes ≡ front
    → StandsBehind log.gate front u.now → Stands log u
stands_by log front u size is gate =
    let here : front_at log.end u ≡ front = ap (λ k. take k u.now.bytes) (sym size) ∙ is in
    record { long = ap length here ∙ size; gate = subst (λ f. StandsBehind log.gate f u.now) (sym here) gate }

-- Calls of a disk one behind another, where the disk tells and where it does not.
use Rattle.std.proofs.Common.{◌≡◌, inl, inr, ◌≤◌, ℕ, zero, suc, List, [], ◌∷◌, length, take, refl, sym, ◌∙◌, ap, subst, Option, Some, None, Result, Ok, Err}
use Rattle.std.specs.Prelude.{IfSome}
use Rattle.std.specs.List.{slice_get}
use Rattle.std.specs.Option.{option_map}
use Rattle.disks.specs.declared.disk.DiskFault.{DiskFault}
use Rattle.disks.specs.declared.disk.DiskFault.TheVariants.{Failed, Memory}
use Rattle.disks.specs.Disks.{Moment, Told, MayLeave, IsTorn, IsFrayed, LeavesOnly, Reaches, Writes, Cuts, Syncs, solid, wrote, shortened, over, after}
use Rattle.gated_log.specs.Calls.{WriteStays, CutStays}
use Rattle.gated_log.specs.Ends.{Runs, front_at}
use Rattle.gated_log.proofs.Firm.{over_torn, cut_frayed}

some_same : {m n : Moment} → Some m ≡ Some n → m ≡ n
some_same e = cc

pub started : (P : List ℕ → Type 0) (t : Told) → ((left : List ℕ) → MayLeave t.now left → P left) → LeavesOnly P t t
started P t first = record { later = []; grown = refl; first = first; each = λ i m at left. absurd cc }

goes_on : (P : List ℕ → Type 0) (old mid : Told) (m : Moment) → LeavesOnly P old mid
    → ((left : List ℕ) → MayLeave m left → P left) → LeavesOnly P old (after mid m)
goes_on P old mid m run here = record {
  later = m ∷ run.later;
  grown = ap (λ (l : List Moment). m ∷ l) run.grown;
  first = run.first;
  each = one;
}
  where
    one : (i : ℕ) (n : Moment) → slice_get (m ∷ run.later) i ≡ Some n → (left : List ℕ) → MayLeave n left → P left
    one zero n at left may = here left (subst (λ z. MayLeave z left) (sym (some_same at)) may)
    one (suc i) n at left may = run.each i n at left may

-- A write and the sync behind it.
pub write_failed : (a b : Option Told) (at : ℕ) (bytes : List ℕ) (fault : DiskFault) → Writes a b at bytes (Err fault)
    → WriteStays a b at bytes (Err fault)
write_failed None b at bytes fault w = w
write_failed (Some t) b at bytes Failed w = inr w
write_failed (Some t) b at bytes Memory w = inl w

pub write_synced : (a b c : Option Told) (at : ℕ) (bytes : List ℕ) (x : Unit {0}) (r : Result (Unit {0}) DiskFault)
    → IfSome a (Reaches at) → Writes a b at bytes (Ok x) → Syncs b c r → WriteStays a c at bytes r
write_synced None None c at bytes x r reach w s = s
write_synced None (Some u) c at bytes x r reach w s = absurd cc
write_synced (Some t) None c at bytes x r reach w s = absurd cc
write_synced (Some t) (Some u) c at bytes x (Ok y) reach w s = s ∙ ap (option_map (λ (v : Told). after v (solid v.now.bytes))) w
write_synced (Some t) (Some u) c at bytes x (Err fault) reach w s = inr (over t.now.bytes at bytes, (over_torn t.now.bytes at bytes reach, s ∙ w))

-- A cut and the sync behind it.
pub cut_failed : (a b : Option Told) (len : ℕ) (fault : DiskFault) → Cuts a b len (Err fault) → CutStays a b len (Err fault)
cut_failed None b len fault w = w
cut_failed (Some t) b len Failed w = inr w
cut_failed (Some t) b len Memory w = inl w

pub cut_synced : (a b c : Option Told) (len : ℕ) (x : Unit {0}) (r : Result (Unit {0}) DiskFault)
    → IfSome a (Reaches len) → Cuts a b len (Ok x) → Syncs b c r → CutStays a c len r
cut_synced None None c len x r reach w s = s
cut_synced None (Some u) c len x r reach w s = absurd cc
cut_synced (Some t) None c len x r reach w s = absurd cc
cut_synced (Some t) (Some u) c len x (Ok y) reach w s = s ∙ ap (option_map (λ (v : Told). after v (solid v.now.bytes))) w
cut_synced (Some t) (Some u) c len x (Err fault) reach w s = inr (take len t.now.bytes, (cut_frayed t.now.bytes len reach, s ∙ w))

-- the bytes before the gate at the first moment, and how the end stands behind them now
pub record AtEnd (end : ℕ) (Gate : List ℕ → Moment → Type 0) (t : Told) (m : Moment) : Type 0 where
  pub size : length (front_at end t) ≡ end
  pub gate : Gate (front_at end t) m

module _ (P : Told → List ℕ → Type 0) where
  -- whatever a crash leaves of a moment of which this holds is right
  abbrev pub Safe : (Told → Moment → Type 0) → Type 0
  Safe N = (t : Told) (m : Moment) → N t m → (left : List ℕ) → MayLeave m left → P t left

  pub begins : (N : Told → Moment → Type 0) (o : Option Told) → IfSome o (λ t. N t t.now) → Safe N → Runs P N o o
  begins N None now safe = tt
  begins N (Some t) now safe = (started (P t) t (safe t t.now now), now)

  -- what holds now says as much in other words
  pub so_now : (N M : Told → Moment → Type 0) (o a : Option Told) → ((t : Told) (m : Moment) → N t m → M t m) → Runs P N o a → Runs P M o a
  so_now N M None None f run = tt
  so_now N M None (Some u) f run = absurd run
  so_now N M (Some t) None f run = absurd run
  so_now N M (Some t) (Some u) f run = (run.0, f t u.now run.1)

  pub reaches : (N : Told → Moment → Type 0) (o a : Option Told) (at : ℕ) → ((t : Told) (m : Moment) → N t m → at ≤ length m.bytes)
      → Runs P N o a → IfSome a (Reaches at)
  reaches N None None at f run = tt
  reaches N None (Some u) at f run = absurd run
  reaches N (Some t) None at f run = tt
  reaches N (Some t) (Some u) at f run = f t u.now run.1

  -- a write that stays, over a moment of which N holds; M holds where its range is whatever
  module _ (N M : Told → Moment → Type 0) (at : ℕ) (bytes : List ℕ)
      (there : (t : Told) (m : Moment) → N t m → at ≤ length m.bytes)
      (torn : (t : Told) (m : Moment) → N t m → (bs : List ℕ) → IsTorn m.bytes at (length bytes) bs → M t (wrote m at (length bytes) bs))
      (safe : Safe M) where
    pub write_stays : (D : Told → Moment → Type 0) (o a b : Option Told) (x : Unit {0}) → Runs P N o a
        → ((t : Told) (m : Moment) → N t m → D t (solid (over m.bytes at bytes))) → Safe D
        → WriteStays a b at bytes (Ok x) → Runs P D o b
    write_stays D None None b x run done safe_done w = subst (Runs P D None) (sym w) tt
    write_stays D None (Some u) b x run done safe_done w = absurd run
    write_stays D (Some t) None b x run done safe_done w = absurd run
    write_stays D (Some t) (Some u) b x run done safe_done w =
        let written = over u.now.bytes at bytes in
        let whole = over_torn u.now.bytes at bytes (there t u.now run.1) in
        let mid = goes_on (P t) t u (wrote u.now at (length bytes) written) run.0
        (safe t (wrote u.now at (length bytes) written) (torn t u.now run.1 written whole)) in
        let last = done t u.now run.1 in
        subst (Runs P D (Some t)) (sym w)
        (goes_on (P t) t (after u (wrote u.now at (length bytes) written)) (solid written) mid (safe_done t (solid written) last), last)

    pub write_fails : (o a b : Option Told) (fault : DiskFault) → Runs P N o a → ((t : Told) (m : Moment) → N t m → M t m)
        → WriteStays a b at bytes (Err fault) → Runs P M o b
    write_fails None None b fault run kept w = subst (Runs P M None) (sym w) tt
    write_fails None (Some u) b fault run kept w = absurd run
    write_fails (Some t) None b fault run kept w = absurd run
    write_fails (Some t) (Some u) b fault run kept (inl w) = subst (Runs P M (Some t)) (sym w) (run.0, kept t u.now run.1)
    write_fails (Some t) (Some u) b fault run kept (inr w) =
        let here = torn t u.now run.1 w.0 w.1.0 in
        subst (Runs P M (Some t)) (sym w.1.1)
        (goes_on (P t) t u (wrote u.now at (length bytes) w.0) run.0 (safe t (wrote u.now at (length bytes) w.0) here), here)

  -- a cut that stays
  module _ (N M : Told → Moment → Type 0) (len : ℕ)
      (there : (t : Told) (m : Moment) → N t m → len ≤ length m.bytes)
      (frayed : (t : Told) (m : Moment) → N t m → (bs : List ℕ) → IsFrayed m.bytes len bs → M t (shortened m len bs))
      (safe : Safe M) where
    pub cut_stays : (D : Told → Moment → Type 0) (o a b : Option Told) (x : Unit {0}) → Runs P N o a
        → ((t : Told) (m : Moment) → N t m → D t (solid (take len m.bytes))) → Safe D
        → CutStays a b len (Ok x) → Runs P D o b
    cut_stays D None None b x run done safe_done w = subst (Runs P D None) (sym w) tt
    cut_stays D None (Some u) b x run done safe_done w = absurd run
    cut_stays D (Some t) None b x run done safe_done w = absurd run
    cut_stays D (Some t) (Some u) b x run done safe_done w =
        let short = take len u.now.bytes in
        let mid = goes_on (P t) t u (shortened u.now len short) run.0
        (safe t (shortened u.now len short) (frayed t u.now run.1 short (cut_frayed u.now.bytes len (there t u.now run.1)))) in
        let last = done t u.now run.1 in
        subst (Runs P D (Some t)) (sym w)
        (goes_on (P t) t (after u (shortened u.now len short)) (solid short) mid (safe_done t (solid short) last), last)

    pub cut_fails : (o a b : Option Told) (fault : DiskFault) → Runs P N o a → ((t : Told) (m : Moment) → N t m → M t m)
        → CutStays a b len (Err fault) → Runs P M o b
    cut_fails None None b fault run kept w = subst (Runs P M None) (sym w) tt
    cut_fails None (Some u) b fault run kept w = absurd run
    cut_fails (Some t) None b fault run kept w = absurd run
    cut_fails (Some t) (Some u) b fault run kept (inl w) = subst (Runs P M (Some t)) (sym w) (run.0, kept t u.now run.1)
    cut_fails (Some t) (Some u) b fault run kept (inr w) =
        let here = frayed t u.now run.1 w.0 w.1.0 in
        subst (Runs P M (Some t)) (sym w.1.1)
        (goes_on (P t) t u (shortened u.now len w.0) run.0 (safe t (shortened u.now len w.0) here), here)

  -- what a run ends in
  pub at_last : (N : Told → Moment → Type 0) (Q : Told → Type 0) (o a : Option Told) → ((t u : Told) → N t u.now → Q u)
      → Runs P N o a → IfSome a Q
  at_last N Q None None f run = tt
  at_last N Q None (Some u) f run = absurd run
  at_last N Q (Some t) None f run = tt
  at_last N Q (Some t) (Some u) f run = f t u run.1

  -- what is left of what it began with
  pub at_both : (N : Told → Moment → Type 0) (first last : Told → List ℕ) (change : List ℕ → List ℕ) (o a : Option Told)
      → ((t u : Told) → N t u.now → last u ≡ change (first t)) → Runs P N o a
      → option_map last a ≡ option_map change (option_map first o)
  at_both N first last change None None f run = refl
  at_both N first last change None (Some u) f run = absurd run
  at_both N first last change (Some t) None f run = absurd run
  at_both N first last change (Some t) (Some u) f run = ap (λ (l : List ℕ). Some l) (f t u run.1)

  pub at_both_same : (N : Told → Moment → Type 0) (first last : Told → List ℕ) (o a : Option Told)
      → ((t u : Told) → N t u.now → last u ≡ first t) → Runs P N o a → option_map last a ≡ option_map first o
  at_both_same N first last None None f run = refl
  at_both_same N first last None (Some u) f run = absurd run
  at_both_same N first last (Some t) None f run = absurd run
  at_both_same N first last (Some t) (Some u) f run = ap (λ (l : List ℕ). Some l) (f t u run.1)

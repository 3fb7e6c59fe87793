-- The record that was written last, behind a gate that was touched: its payload.
use Rattle.std.specs.Prelude.{◌≡◌, ℕ, List, Option, Some, None}
use Rattle.disks.specs.Disks.{Told}
use Rattle.gated_log.specs.declared.log.Gate.{Gate}
use Rattle.gated_log.specs.declared.log.Gate.TheVariants.{Closed, Behind, Touched}
use Rattle.gated_log.specs.declared.log.Log.{Log}
use Rattle.gated_log.specs.Ends.{IsTouched, front_at}

-- A record with this payload stands behind a gate that was touched.
abbrev pub IsLastAt : Gate → ℕ → Told → List ℕ → Type 0
IsLastAt Closed end t payload = ⊥
IsLastAt Behind end t payload = ⊥
IsLastAt Touched end t payload = IsTouched (front_at end t) payload t.now

abbrev pub IsLast : Log → Told → List ℕ → Type 0
IsLast log t payload = IsLastAt log.gate log.end t payload

-- No record but one with this payload stands there.
abbrev pub LastIs : List ℕ → Log → Told → Type 0
LastIs payload log t = (other : List ℕ) → IsLast log t other → other ≡ payload

-- What stands there stood there before.
abbrev pub KeepsLast : Log → Log → Option Told → Option Told → Type 0
KeepsLast old new None None = Unit {0}
KeepsLast old new None (Some u) = ⊥
KeepsLast old new (Some t) None = ⊥
KeepsLast old new (Some t) (Some u) = (payload : List ℕ) → IsLast new u payload → IsLast old t payload

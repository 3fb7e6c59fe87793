-- Draws from a linear congruential generator modulo 2 ^ 31, and the body that they choose for a method.
use Rattle.std.specs.Prelude.{ℕ, ◌+◌, ◌-◌, ◌*◌, ◌/◌, ◌%◌, ◌==◌, if◌then◌else◌}
use Rattle.made_apps.specs.declared.body.Body.{Body}
use Rattle.made_apps.specs.declared.body.Body.TheVariants.{Returned, PassedOn, ThroughArray, Stored}

-- the state that follows a state
unfoldable pub next_state : ℕ → ℕ
next_state x = (x * 1103515245 + 12345) % 2147483648

-- what a draw below n gives in a state: the state that follows, without its low 16 bits, modulo n
unfoldable pub drawn : ℕ → ℕ → ℕ
drawn x n = next_state x / 65536 % n

-- The body of method i of so many, drawn in a state. A call goes to a method behind this one, which a second draw chooses;
-- the last method has none behind it, and returns its argument.
unfoldable pub body_drawn : ℕ → ℕ → ℕ → Body
body_drawn size i x =
    if drawn x 4 == 0 then Returned else
    if drawn x 4 == 1 then (if i + 1 == size then Returned else PassedOn (i + 1 + drawn (next_state x) (size - i - 1))) else
    if drawn x 4 == 2 then ThroughArray else Stored

-- the state behind these draws
unfoldable pub state_behind : ℕ → ℕ → ℕ → ℕ
state_behind size i x = if drawn x 4 == 1 then (if i + 1 == size then next_state x else next_state (next_state x)) else next_state x

-- Where control goes from a line, and which handlers cover it: pcs, each once and ascending.
use Rattle.std.specs.Prelude.{ℕ, ℤ, ◌+◌, ◌==◌, Bool, List, [], ◌∷◌, ◌++◌, map, nat_lt, nat_le, ◌&&◌, if◌then◌else◌, option_to_list}
use Rattle.dalvik_formats.specs.declared.kind.Kind.{Kind}
use Rattle.dalvik_formats.specs.Layouts.{group_of, may_go_on}
use Rattle.dex_tables.specs.declared.dex.RawTry.{RawTry}
use Rattle.dex_code.specs.declared.insn.Insn.{Insn}
use Rattle.dex_code.specs.declared.insn.Insn.TheVariants.{F10t, F20t, F21t, F22t, F30t, F31t}
use Rattle.dex_code.specs.Units.{target_of}
use Rattle.dex_code.specs.Insns.{is_payload, kind_of}
use Rattle.dex_code.specs.Lines.{Line}
use Rattle.dex_code.specs.Flow.{found, distances_in}

-- a number put where it belongs among ascending numbers, once
abbrev pub insert_once : ℕ → List ℕ → List ℕ
insert_once x [] = x ∷ []
insert_once x (y ∷ ys) = if nat_lt x y then x ∷ y ∷ ys else if x == y then y ∷ ys else y ∷ insert_once x ys

-- these numbers, each once, ascending
unfoldable pub in_order : List ℕ → List ℕ
in_order [] = []
in_order (x ∷ xs) = insert_once x (in_order xs)

-- the pcs so far from another
unfoldable pub targets_from : ℕ → List ℤ → List ℕ
targets_from pc distances = map (target_of pc) distances

-- where a branch or a switch goes
abbrev pub targets_of : List Line → ℕ → Insn → List ℕ
targets_of lines pc (F10t op t) = t ∷ []
targets_of lines pc (F20t op t) = t ∷ []
targets_of lines pc (F30t op t) = t ∷ []
targets_of lines pc (F21t op a t) = t ∷ []
targets_of lines pc (F22t op a b t) = t ∷ []
targets_of lines pc (F31t op a t) = targets_from pc (distances_in (group_of op) (found lines t))
targets_of lines pc insn = []

-- The next instruction, where control may go on to it. Behind a `nop` that is padding comes a payload, and so none.
abbrev pub first_start : List Line → List ℕ
first_start [] = []
first_start (line ∷ lines) = if is_payload line.1 then [] else line.0 ∷ []

abbrev pub following : Kind → List Line → List ℕ
following kind rest = if may_go_on kind then first_start rest else []

-- where control goes from a line without an exception, before these others
unfoldable pub next_of : List Line → Line → List Line → List ℕ
next_of lines line rest = in_order (targets_of lines line.0 line.1 ++ following (kind_of line.1) rest)

-- the units that a try covers
abbrev pub covers : RawTry → ℕ → Bool
covers t pc = nat_le t.start pc && nat_lt pc (t.start + t.count)

-- the addresses of a try's handlers, the catch-all included
unfoldable pub addresses : RawTry → List ℕ
addresses t = map (λ (handler : ℕ × ℕ). handler.1) t.handlers ++ option_to_list t.catch_all

-- those of every try that covers a pc
abbrev pub covered : RawTry → ℕ → List ℕ
covered t pc = if covers t pc then addresses t else []

unfoldable pub covering : List RawTry → ℕ → List ℕ
covering [] pc = []
covering (t ∷ ts) pc = covered t pc ++ covering ts pc

-- where control goes from a pc by an exception, within the method
unfoldable pub catches_of : List RawTry → ℕ → List ℕ
catches_of tries pc = in_order (covering tries pc)

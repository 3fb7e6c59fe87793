-- Handlers of a range of lines: addresses that all of its lines share, and tries that may cover some of them.
use Rattle.std.specs.Prelude.{◌≡◌, ◌≤◌, ℕ, List, ◌++◌, map}
use Rattle.dex_tables.specs.declared.dex.RawTry.{RawTry}
use Rattle.dex_code.specs.Lines.{Line}
use Rattle.dex_code.specs.Next.{covering, in_order}

-- these addresses and those of the tries that cover a pc
unfoldable pub catches_beside : List ℕ → List RawTry → ℕ → List ℕ
catches_beside shared tries pc = in_order (shared ++ covering tries pc)

-- the lists of these lines stand behind those before
abbrev pub AddsCatches : List ℕ → List RawTry → List Line → List (List ℕ) → List (List ℕ) → Type 0
AddsCatches shared tries lines before after = after ≡ before ++ map (λ (line : Line). catches_beside shared tries line.0) lines

-- from the first pc to the last, what is shared and what is left stand for the tries
pub record IsParted (first last : ℕ) (tries : List RawTry) (shared : List ℕ) (left : List RawTry) : Type 0 where
  pub same : (pc : ℕ) → first ≤ pc → pc ≤ last → catches_beside shared left pc ≡ in_order (covering tries pc)

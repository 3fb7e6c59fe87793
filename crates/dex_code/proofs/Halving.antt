-- What halving finds among lines by ascending pc.
use Rattle.std.proofs.Common.{◌≡◌, ◌≢◌, ℕ, zero, suc, ◌<◌, ◌≤◌, List, [], ◌∷◌, length, get_or, Some, None, Result, Ok, Err, IfOk, OnErr, refl, sym, ap, ◌∙◌, arith}
use Rattle.std.specs.List.Sorted.{IsSearchInRange, IsBinarySearchResult, IsNonDecreasingBy}
use Rattle.std.specs.Ordering.{nat_cmp, ordering_index}
use Rattle.std.proofs.lemmas.Cmp.{ranked}
use Rattle.std.proofs.lemmas.List.Sorted.{IsNonDecreasingBy-from_default}
use Rattle.std.proofs.lemmas.List.{get_or_default}
use Rattle.std.proofs.lemmas.Bool.Decides.{nat_tests}
use Rattle.dex_code.specs.declared.insn.Insn.TheVariants.{F10x}
use Rattle.dex_code.specs.Lines.{Line}
use Rattle.dex_code.specs.Flow.{found}
use Rattle.dex_code.specs.Find.{AllBehind, Ascend, FoundAt}

abbrev pub no_line : Line
no_line = (0, F10x 0)

abbrev pub pc_at : List Line → ℕ → ℕ
pc_at lines i = (get_or lines i no_line).0

behind : (pc : ℕ) (lines : List Line) (j : ℕ) → AllBehind pc lines → j < length lines → pc < pc_at lines j
unfolding AllBehind
behind pc [] j all lt = absurd (omega arith)
behind pc (line ∷ lines) zero all lt = all.0
behind pc (line ∷ lines) (suc j) all lt = behind pc lines j all.1 (omega arith)

pub rise : (lines : List Line) (i j : ℕ) → Ascend lines → i < j → j < length lines → pc_at lines i < pc_at lines j
unfolding Ascend
rise [] i j up lt within = absurd (omega arith)
rise (line ∷ lines) i zero up lt within = absurd (omega arith)
rise (line ∷ lines) zero (suc j) up lt within = behind line.0 lines j up.0 (omega arith)
rise (line ∷ lines) (suc i) (suc j) up lt within = rise lines i j up.1 (omega arith) (omega arith)

-- where no line has the pc, none is found
missing : (lines : List Line) (pc : ℕ) → ((k : ℕ) → k < length lines → pc_at lines k ≢ pc) → found lines pc ≡ None
unfolding found
missing [] pc none = refl
missing (line ∷ lines) pc none =
    let here : line.0 ≢ pc = none 0 (omega arith) in
    let rest : found lines pc ≡ None = missing lines pc (λ k lt. none (suc k) (omega arith)) in
    grind (arith, nat_tests)

-- the first line that has the pc is found
present : (lines : List Line) (pc at : ℕ) → at < length lines → pc_at lines at ≡ pc → ((k : ℕ) → k < at → pc_at lines k ≢ pc) → found lines pc ≡ Some (get_or lines at no_line).1
unfolding found
present [] pc at within same none = absurd (omega arith)
present (line ∷ lines) pc zero within same none = let e : line.0 ≡ pc = same in grind (arith, nat_tests)
present (line ∷ lines) pc (suc at) within same none =
    let here : line.0 ≢ pc = none 0 (omega arith) in
    let rest : found lines pc ≡ Some (get_or lines at no_line).1 = present lines pc at (omega arith) same (λ k lt. none (suc k) (omega arith)) in
    grind (arith, nat_tests)

module _ (lines : List Line) (up : Ascend lines) (pc : ℕ) where
  comparisons_rise : IsNonDecreasingBy (λ line. ordering_index (nat_cmp line.0 pc)) lines
  comparisons_rise = IsNonDecreasingBy-from_default (λ line. ordering_index (nat_cmp line.0 pc)) lines no_line (λ i j le within.
      let keys : pc_at lines i ≤ pc_at lines j = grind (arith, rise lines i j up, λ (same : i ≡ j). ap (pc_at lines) same) in
      grind (arith, nat_tests))

  found_at : (at : ℕ) → at < length lines → IsBinarySearchResult (λ line. nat_cmp line.0 pc) lines (Ok at) → FoundAt lines pc at
  found_at at within equal =
      let same : pc_at lines at ≡ pc = ranked _ pc _ (sym (equal no_line)) in
      let there = present lines pc at within same (λ k lt e. omega (arith, rise lines k at up lt within, same, e)) in
      record { within = within; is = λ d. there ∙ ap (λ (l : Line). Some l.1) (get_or_default lines at no_line d within) }

  not_found : (at : ℕ) → IsBinarySearchResult (λ line. nat_cmp line.0 pc) lines (Err at) → found lines pc ≡ None
  not_found at parted =
      let smaller : (k : ℕ) → k < at → k < length lines → pc_at lines k < pc = λ k lt within. ranked _ pc _ (sym ((parted comparisons_rise).0 k no_line (omega arith) lt)) in
      let greater : (k : ℕ) → at ≤ k → k < length lines → pc < pc_at lines k = λ k le within. ranked _ pc _ (sym ((parted comparisons_rise).1 k no_line le within)) in
      missing lines pc (λ k within same. grind (arith, smaller k, greater k))

  -- a halving ends at the line that is found, or where none is
  pub searched : (r : Result ℕ ℕ) → IsSearchInRange r (length lines) → IsBinarySearchResult (λ line. nat_cmp line.0 pc) lines r → record { there : IfOk r (FoundAt lines pc); nowhere : OnErr r (found lines pc ≡ None) }
  searched (Ok at) within equal = record { there = found_at at within equal; nowhere = tt }
  searched (Err at) within parted = record { there = tt; nowhere = not_found at parted }

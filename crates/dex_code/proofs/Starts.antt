-- Where control goes in code that was tested, instructions start.
use Rattle.std.proofs.Common.{◌≡◌, ℕ, ◌+◌, ℤ, Bool, true, false, cond, not, ◌&&◌, List, [], ◌∷◌, ◌++◌, map, Option, Some, None, option_to_list, nat_le, ◌==◌, IsTrue, refl, sym, subst, inl, inr}
use Rattle.dalvik_formats.specs.Layouts.{group_of, may_go_on}
use Rattle.dex_tables.specs.declared.dex.RawTry.{RawTry}
use Rattle.vet_base.specs.Members.{In}
use Rattle.dex_code.specs.declared.insn.Insn.{Insn}
use Rattle.dex_code.specs.declared.insn.Insn.TheVariants.{F10t, F20t, F21t, F22t, F30t, F31t}
use Rattle.dex_code.specs.CodeLaws.{start_if, starts_of}
use Rattle.dex_code.specs.Units.{target_of}
use Rattle.dex_code.specs.Insns.{is_payload, kind_of}
use Rattle.dex_code.specs.Lines.{Line}
use Rattle.dex_code.specs.Flow.{found, is_start, starts, all_start, distances_in, targets_stand}
use Rattle.dex_code.specs.Tries.{handlers_start, catch_all_starts, try_stands, AllTriesStand}
use Rattle.dex_code.specs.Next.{targets_from, targets_of, first_start, following, next_of, covers, addresses, covering, catches_of}
use Rattle.dex_code.proofs.Ordered.{from_order}
use Rattle.vet_base.proofs.Members.{in_either, list_all_in, from_map}
use Rattle.std.proofs.lemmas.Bool.{and_parts, eqb-true}

here : (b : Bool) (at pc : ℕ) (ns : List ℕ) → IsTrue (not b) → at ≡ pc → In pc (start_if b at ++ ns)
here true at pc ns h e = absurd cc
here false at pc ns h e = inl (sym e)

pub further : (b : Bool) (at pc : ℕ) (ns : List ℕ) → In pc ns → In pc (start_if b at ++ ns)
further true at pc ns k = k
further false at pc ns k = inr k

by_pc : (b : Bool) (line : Line) (lines : List Line) (pc : ℕ) (rest : Option Insn) → (line.0 == pc) ≡ b → IsTrue (is_start (cond b (Some line.1) rest)) → (IsTrue (is_start rest) → In pc (starts_of lines)) → In pc (starts_of (line ∷ lines))
by_pc true line lines pc rest e h later = here (is_payload line.1) line.0 pc (starts_of lines) h (eqb-true line.0 pc e)
by_pc false line lines pc rest e h later = further (is_payload line.1) line.0 pc (starts_of lines) (later h)

start_there : (lines : List Line) (pc : ℕ) → IsTrue (starts lines pc) → In pc (starts_of lines)
unfolding starts found
start_there [] pc h = absurd cc
start_there (line ∷ lines) pc h = by_pc (line.0 == pc) line lines pc (found lines pc) refl h (start_there lines pc)

module _ (lines : List Line) where
  same_start : (t pc : ℕ) → IsTrue (starts lines t) → pc ≡ t → In pc (starts_of lines)
  same_start t pc h e = subst (λ (n : ℕ). In n (starts_of lines)) (sym e) (start_there lines t h)

  one_target : (t pc : ℕ) → IsTrue (starts lines t) → In pc (t ∷ []) → In pc (starts_of lines)
  one_target t pc h (inl e) = same_start t pc h e
  one_target t pc h (inr k) = absurd k

  all_targets : (at pc : ℕ) (distances : List ℤ) → IsTrue (all_start lines at distances) → In pc (targets_from at distances) → In pc (starts_of lines)
  unfolding all_start targets_from
  all_targets at pc distances h k =
      let one = from_map (target_of at) distances pc k in
      same_start (target_of at one.0) pc (list_all_in (λ (d : ℤ). starts lines (target_of at d)) distances one.0 h one.1) one.2

  targets_there : (at : ℕ) (insn : Insn) (pc : ℕ) → IsTrue (targets_stand lines at insn) → In pc (targets_of lines at insn) → In pc (starts_of lines)
  targets_there at (F10t op t) pc h k = one_target t pc h k
  targets_there at (F20t op t) pc h k = one_target t pc h k
  targets_there at (F30t op t) pc h k = one_target t pc h k
  targets_there at (F21t op a t) pc h k = one_target t pc h k
  targets_there at (F22t op a b t) pc h k = one_target t pc h k
  targets_there at (F31t op a t) pc h k = all_targets at pc (distances_in (group_of op) (found lines t)) h k
  targets_there at insn pc h k = absurd k

  first_there : (rest : List Line) (pc : ℕ) → In pc (first_start rest) → In pc (starts_of rest)
  first_there [] pc k = absurd k
  first_there (line ∷ rest) pc k = by_payload (is_payload line.1) k
    where
      by_payload : (b : Bool) → In pc (cond b [] (line.0 ∷ [])) → In pc (start_if b line.0 ++ starts_of rest)
      by_payload true k = absurd k
      by_payload false (inl e) = inl e
      by_payload false (inr k) = absurd k

  where_it_is : (b : Bool) (ns : List ℕ) (pc : ℕ) → In pc (cond b ns []) → In pc ns
  where_it_is true ns pc k = k
  where_it_is false ns pc k = absurd k

  -- without an exception
  pub next_there : (rest : List Line) (line : Line) (pc : ℕ) → IsTrue (targets_stand lines line.0 line.1) → ((n : ℕ) → In n (starts_of rest) → In n (starts_of lines)) → In pc (next_of lines line rest) → In pc (starts_of lines)
  unfolding next_of
  next_there rest line pc h behind k =
      elim (in_either pc (targets_of lines line.0 line.1) (following (kind_of line.1) rest) (from_order pc (targets_of lines line.0 line.1 ++ following (kind_of line.1) rest) k)) [
        | inl j ↦ targets_there line.0 line.1 pc h j
        | inr j ↦ behind pc (first_there rest pc (where_it_is (may_go_on (kind_of line.1)) (first_start rest) pc j))
      ]

  handler_there : (handlers : List (ℕ × ℕ)) (pc : ℕ) → IsTrue (handlers_start lines handlers) → In pc (map (λ (handler : ℕ × ℕ). handler.1) handlers) → In pc (starts_of lines)
  unfolding handlers_start
  handler_there handlers pc h k =
      let one = from_map (λ (handler : ℕ × ℕ). handler.1) handlers pc k in
      same_start one.0.1 pc (list_all_in (λ (handler : ℕ × ℕ). starts lines handler.1) handlers one.0 h one.1) one.2

  catch_all_there : (address : Option ℕ) (pc : ℕ) → IsTrue (catch_all_starts lines address) → In pc (option_to_list address) → In pc (starts_of lines)
  catch_all_there None pc h k = absurd k
  catch_all_there (Some address) pc h k = one_target address pc h k

  module _ (size : ℕ) where
    try_there : (t : RawTry) (pc : ℕ) → IsTrue (try_stands size lines t) → In pc (addresses t) → In pc (starts_of lines)
    unfolding try_stands addresses
    try_there t pc h k =
        let all = and_parts (nat_le (t.start + t.count) size && handlers_start lines t.handlers) (catch_all_starts lines t.catch_all) h in
        let both = and_parts (nat_le (t.start + t.count) size) (handlers_start lines t.handlers) all.0 in
        elim (in_either pc (map (λ (handler : ℕ × ℕ). handler.1) t.handlers) (option_to_list t.catch_all) k) [
          | inl j ↦ handler_there t.handlers pc both.1 j
          | inr j ↦ catch_all_there t.catch_all pc all.1 j
        ]

    covering_there : (tries : List RawTry) (at pc : ℕ) → AllTriesStand size lines tries → In pc (covering tries at) → In pc (starts_of lines)
    unfolding covering
    covering_there [] at pc all k = absurd k
    covering_there (t ∷ ts) at pc all k = elim (in_either pc (cond (covers t at) (addresses t) []) (covering ts at) k) [
      | inl j ↦ try_there t pc all.0 (where_it_is (covers t at) (addresses t) pc j)
      | inr j ↦ covering_there ts at pc all.1 j
    ]

    -- by an exception
    pub catches_there : (tries : List RawTry) (at pc : ℕ) → AllTriesStand size lines tries → In pc (catches_of tries at) → In pc (starts_of lines)
    unfolding catches_of
    catches_there tries at pc all k = covering_there tries at pc all (from_order pc (covering tries at) k)

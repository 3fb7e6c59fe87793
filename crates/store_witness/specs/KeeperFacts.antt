-- What a keeper in a database does not find, and how it does not count. Behind each fact stands what a slip would answer.
use Rattle.std.specs.Prelude.{◌≡◌, true, List, ◌∷◌, Err, codes}
use Rattle.case_rules.specs.declared.case.Case.{Case}
use Rattle.case_rules.specs.declared.case.Entry.{Entry}
use Rattle.case_rules.specs.Cases.{is_named, is_queued}
use Rattle.case_keeper.specs.declared.keeper.KeepFault.TheVariants.{Failed, Memory}
use Rattle.sqlite_keeper.specs.Counting.{counted}

pub record KeepersTell : Type 0 where
  -- a case with an entry is not queued (else it is found)
  pub decided : (case : Case) (entry : Entry) (entries : List Entry)
      → case.entries ≡ entry ∷ entries → is_queued case ≡ true → ⊥
  -- the reference `a` of `b` is not `b` of `a` (else it is found)
  pub exchanged : (case : Case) → case.party ≡ codes "b" → case.reference ≡ codes "a"
      → is_named (codes "a") (codes "b") case ≡ true → ⊥
  -- a refusal counts (else not), and once (else twice)
  pub counts : counted {X = Unit {0}} 0 (Err Failed) ≡ 0 → ⊥
  pub once : counted {X = Unit {0}} 0 (Err Failed) ≡ 2 → ⊥
  -- want of memory does not count (else it does)
  pub want : counted {X = Unit {0}} 0 (Err Memory) ≡ 1 → ⊥

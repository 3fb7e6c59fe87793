-- What a sink and files in memory tell of a call. Behind each fact stands the code that it excludes.
use Rattle.std.specs.Prelude.{[], ◌∷◌, codes, Some, None, Ok, Err}
use Rattle.vet_base.specs.declared.outside.PutFault.TheVariants.{Failed}
use Rattle.vet_base.specs.MemoryFiles.{Store, told_by}
use Rattle.vet_base.specs.Outside.{PutCause, PutsBytes, WritesFile}

-- no files
abbrev pub no_files : Store
no_files = record { files = []; failing = []; calls = 0; faults = 0; failed = None }

pub record Tells : Type 0 where
  -- a sink that took nothing put no byte: code that appends nothing is not Ok
  pub put : PutsBytes (Some []) (Some []) (7 ∷ []) (Ok tt) → ⊥
  -- a call that fails is counted: code that does not count it fails without a cause
  pub counted : PutCause {X = Unit {0}} 0 0 (Err Failed) → ⊥
  -- a file that was written is there: code that does not keep a new one is not Ok
  pub written : WritesFile (Some (told_by no_files)) (Some (told_by no_files)) (codes "a") (7 ∷ []) (Ok tt) → ⊥

abbrev pub OutsideTells : Type 0
OutsideTells = Tells

-- Testing the lines, and the tries, one after the other.
use Rattle.std.proofs.Common.{◌≡◌, ℕ, ◌+◌, ◌<◌, ◌≤◌, true, false, Result, Ok, Err, List, [], length, drop, get_or, refl, sym, ◌∙◌}
use Rattle.std.proofs.lemmas.List.{drop_all}
use Rattle.vet_base.specs.declared.stop.Stop.{Stop}
use Rattle.vet_base.specs.declared.stop.Stop.TheVariants as stops
use Rattle.vet_base.specs.Script.{run, Fails}
use Rattle.vet_base.proofs.Lists.{drop_read}
use Rattle.vet_base.proofs.Scripts.{run_bind}
use Rattle.dex_tables.specs.declared.dex.RawTry.{RawTry}
use Rattle.dex_code.specs.declared.fault.CodeFault.{CodeFault}
use Rattle.dex_code.specs.declared.fault.CodeFault.TheVariants.{Tries}
use Rattle.dex_code.specs.Lines.{Line}
use Rattle.dex_code.specs.Flow.{flow_at, flows_at}
use Rattle.dex_code.specs.Tries.{try_stands, tries_at}

-- What is still tested from the line of this number on is what the whole comes to.
pub record FlowsFrom (lines : List Line) (i : ℕ) (whole : Result (Unit {0}) CodeFault) : Type 0 where
  pub is : run (flows_at lines (drop i lines)) ≡ whole

pub flows_begin : (lines : List Line) → FlowsFrom lines 0 (run (flows_at lines lines))
flows_begin lines = record { is = refl }

pub flows_go_on : (lines : List Line) (i : ℕ) (line : Line) (whole : Result (Unit {0}) CodeFault) → i < length lines → line ≡ get_or lines i line
    → run (flow_at lines line (drop (i + 1) lines)) ≡ Ok tt → FlowsFrom lines i whole → FlowsFrom lines (i + 1) whole
unfolding flows_at
flows_go_on lines i line whole lt item one so_far =
    let step : run (flows_at lines (drop i lines)) ≡ run (flows_at lines (drop (i + 1) lines)) = rw (drop_read lines i line lt item, run_bind, one) refl in
    record { is = sym step ∙ so_far.is }

pub flows_fail : (e : Stop CodeFault) (lines : List Line) (i : ℕ) (line : Line) (whole : Result (Unit {0}) CodeFault) → i < length lines → line ≡ get_or lines i line
    → Fails e (run (flow_at lines line (drop (i + 1) lines))) → FlowsFrom lines i whole → Fails e whole
unfolding flows_at
flows_fail stops.Memory lines i line whole lt item one so_far = tt
flows_fail (stops.Fault f) lines i line whole lt item one so_far =
    let step : run (flows_at lines (drop i lines)) ≡ Err f = rw (drop_read lines i line lt item, run_bind, one) refl in
    sym so_far.is ∙ step

pub flows_done : (lines : List Line) (i : ℕ) (whole : Result (Unit {0}) CodeFault) → length lines ≤ i → FlowsFrom lines i whole → whole ≡ Ok tt
unfolding flows_at
flows_done lines i whole le so_far =
    let none : drop i lines ≡ [] = drop_all i lines le in
    let step : run (flows_at lines (drop i lines)) ≡ Ok tt = rw none refl in
    sym so_far.is ∙ step

-- the same of the tries
pub record TriesFrom (size : ℕ) (lines : List Line) (n : ℕ) (tries : List RawTry) (whole : Result (Unit {0}) CodeFault) : Type 0 where
  pub is : run (tries_at size lines n (drop n tries)) ≡ whole

pub tries_begin : (size : ℕ) (lines : List Line) (tries : List RawTry) → TriesFrom size lines 0 tries (run (tries_at size lines 0 tries))
tries_begin size lines tries = record { is = refl }

pub tries_go_on : (size : ℕ) (lines : List Line) (n : ℕ) (tries : List RawTry) (t : RawTry) (whole : Result (Unit {0}) CodeFault) → n < length tries → t ≡ get_or tries n t
    → try_stands size lines t ≡ true → TriesFrom size lines n tries whole → TriesFrom size lines (n + 1) tries whole
unfolding tries_at
tries_go_on size lines n tries t whole lt item one so_far =
    let step : run (tries_at size lines n (drop n tries)) ≡ run (tries_at size lines (n + 1) (drop (n + 1) tries)) = rw (drop_read tries n t lt item, one) refl in
    record { is = sym step ∙ so_far.is }

pub tries_fail : (size : ℕ) (lines : List Line) (n : ℕ) (tries : List RawTry) (t : RawTry) (whole : Result (Unit {0}) CodeFault) → n < length tries → t ≡ get_or tries n t
    → try_stands size lines t ≡ false → TriesFrom size lines n tries whole → whole ≡ Err (Tries n)
unfolding tries_at
tries_fail size lines n tries t whole lt item one so_far =
    let step : run (tries_at size lines n (drop n tries)) ≡ Err (Tries n) = rw (drop_read tries n t lt item, one) refl in
    sym so_far.is ∙ step

pub tries_done : (size : ℕ) (lines : List Line) (n : ℕ) (tries : List RawTry) (whole : Result (Unit {0}) CodeFault) → length tries ≤ n → TriesFrom size lines n tries whole → whole ≡ Ok tt
unfolding tries_at
tries_done size lines n tries whole le so_far =
    let none : drop n tries ≡ [] = drop_all n tries le in
    let step : run (tries_at size lines n (drop n tries)) ≡ Ok tt = rw none refl in
    sym so_far.is ∙ step

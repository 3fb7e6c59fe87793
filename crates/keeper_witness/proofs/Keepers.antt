-- What is held, counted and told computes.
use Rattle.std.proofs.Common.{◌≡◌, ◌⊎◌, ◌+◌, ℕ, Bool, true, false, List, [], ◌∷◌, ◌++◌, length, take, get_or, Some, Option, Ok, Err, inl, inr, refl, sym, ◌∙◌, ap, subst, arith, length-append}
use Rattle.std.proofs.lemmas.List.{length-take}
use Rattle.std.proofs.lemmas.Option.{same_Some}
use Rattle.vet_base.specs.Script.{run}
use Rattle.disks.specs.Disks.{Told, Moment}
use Rattle.gated_log.specs.declared.log.Gate.TheVariants.{Closed}
use Rattle.gated_log.specs.Format.{magic, record_bytes}
use Rattle.gated_log.specs.Calls.{settled}
use Rattle.gated_log.specs.Ends.{Stands}
use Rattle.case_rules.specs.declared.case.Case.{Case}
use Rattle.case_rules.specs.declared.reply.Change.{Change}
use Rattle.case_rules.specs.declared.reply.Change.TheVariants as changes
use Rattle.case_keeper.specs.declared.keeper.KeepFault.TheVariants.{Failed}
use Rattle.case_keeper.specs.Keeper.{told_after}
use Rattle.case_records.specs.Reading.{change_of}
use Rattle.journal_law.specs.Journal.{Holds, IsForeign, IsBad}
use Rattle.journal_law.specs.Reading.{cases_in}
use Rattle.journal_law.proofs.OneReading.{have_one_reading}
use Rattle.journal_reading.specs.Keeping.{HoldsUpTo, NoOther}
use Rattle.journal_reading.specs.Opening.{HoldsCases, IsNoJournal, Spares}
use Rattle.journal_keeper.specs.Causes.{CountsBy}
use Rattle.disk_host.specs.Files.{Loses}
use Rattle.keeper_witness.specs.KeeperFacts.{KeepersTell, bad, ten}

none_held : (case : Case) → Holds [] (case ∷ []) → ⊥
none_held case (inl few) = let none : 1 ≡ 0 = ap (λ (cases : List Case). length cases) few.1 in omega (arith, none)
none_held case (inr journal) = let long = journal.long in omega (arith, long)

emptied : (case : Case) → HoldsUpTo (case ∷ []) NoOther [] → ⊥
emptied case (inl holds) = none_held case holds
emptied case (inr more) = absurd more.1.0

refused : (case : Case) → told_after {X = Unit {0}} (changes.Add case) (Some []) (Err Failed) ≡ Some (case ∷ []) → ⊥
refused case same = let both : ◌≡◌ {A = Option (List Case)} (Some []) (Some (case ∷ [])) = same in cc

counted : (disk own : ℕ) → CountsBy {X = Unit {0}} ⊥ disk disk own (own + 1) (Err Failed) → ⊥
counted disk own (inl risen) = let same = risen.2 in omega (arith, same)
counted disk own (inr other) = absurd other.0

-- no bytes are no change
no_bytes : (change : Change) → run (change_of []) ≡ Ok change → ⊥
unfolding change_of
no_bytes change is = absurd cc

bad_there : IsBad bad 8
bad_there = record {
  long = omega arith;
  known = refl;
  payloads = [];
  rest = record_bytes [] ++ 0 ∷ [];
  leads = refl;
  cases = [];
  made = refl;
  payload = [];
  stands = refl;
  refused = λ change taken. no_bytes change taken.is;
  gate = refl;
}

gate : IsBad bad 9 → ⊥
gate later =
    let same : 9 ≡ 8 = have_one_reading.one_place bad 9 8 later bad_there in
    omega (arith, same)

torn : (t : Told) → t.now.bytes ≡ magic ++ 0 ∷ 1 ∷ [] → Stands (record { end = 8; gate = Closed }) t → ⊥
torn t is stands =
    let front = take 8 t.now.bytes in
    let long : length t.now.bytes ≡ 10 = ap (λ (l : List ℕ). length l) is in
    let whole : length t.now.bytes ≡ length (front ++ 0 ∷ []) = ap (λ (m : Moment). length m.bytes) stands.gate in
    omega (arith, long, whole, length-append front (0 ∷ []), length-take 8 t.now.bytes)

begun : (cases : List Case) → Holds ten cases → ⊥
begun cases (inl few) = let none : ⊥ = omega (arith, few.0) in none
begun cases (inr journal) =
    let first : 88 ≡ 86 = ap (λ (bytes : List ℕ). get_or bytes 0 0) journal.known in
    omega (arith, first)

-- bytes that are no journal are afterwards as they were
as_before : (t u : Told) → IsNoJournal t → Spares (Some t) (Some u) → u.now.bytes ≡ t.now.bytes
as_before t u none spares = by_sync (spares none)
  where
    by_sync : (Some u ≡ Some t) ⊎ (Some u ≡ Some (settled t t.now.bytes)) → u.now.bytes ≡ t.now.bytes
    by_sync (inl same) = ap (λ (z : Told). z.now.bytes) (same_Some u t same)
    by_sync (inr same) = ap (λ (z : Told). z.now.bytes) (same_Some u (settled t t.now.bytes) same)

foreign_there : IsForeign ten
foreign_there = record {
  long = omega arith;
  other = λ same. let first : 88 ≡ 86 = ap (λ (bytes : List ℕ). get_or bytes 0 0) same in omega (arith, first);
}

foreign : (t : Told) → t.now.bytes ≡ ten → IsNoJournal t
foreign t is = inl (subst (λ (bytes : List ℕ). IsForeign bytes) (sym is) foreign_there)

is_bad : (t : Told) → t.now.bytes ≡ bad → IsNoJournal t
is_bad t is = inr (8, subst (λ (bytes : List ℕ). IsBad bytes 8) (sym is) bad_there)

foreign_cut : (t u : Told) → t.now.bytes ≡ ten → u.now.bytes ≡ [] → Spares (Some t) (Some u) → ⊥
foreign_cut t u is cut spares =
    let long : 10 ≡ 0 = ap (λ (bytes : List ℕ). length bytes) (sym is ∙ (sym (as_before t u (foreign t is) spares) ∙ cut)) in
    omega (arith, long)

bad_cut : (t u : Told) → t.now.bytes ≡ bad → u.now.bytes ≡ [] → Spares (Some t) (Some u) → ⊥
bad_cut t u is cut spares =
    let long : 18 ≡ 0 = ap (λ (bytes : List ℕ). length bytes) (sym is ∙ (sym (as_before t u (is_bad t is) spares) ∙ cut)) in
    omega (arith, long)

foreign_served : (t : Told) → t.now.bytes ≡ ten → HoldsCases t → ⊥
foreign_served t is holds =
    have_one_reading.not_foreign t.now.bytes (cases_in t.now.bytes) holds (subst (λ (bytes : List ℕ). IsForeign bytes) (sym is) foreign_there)

bad_served : (t : Told) → t.now.bytes ≡ bad → HoldsCases t → ⊥
bad_served t is holds =
    have_one_reading.not_bad t.now.bytes (cases_in t.now.bytes) 8 holds (subst (λ (bytes : List ℕ). IsBad bytes 8) (sym is) bad_there)

lost : (now : Bool) → Loses {X = Unit {0}} true now (Ok tt) → ⊥
lost now none = let both : true ≡ false = none.0 in absurd cc

pub keepers_tell : KeepersTell
keepers_tell = record {
  emptied = emptied;
  refused = refused;
  counted = counted;
  gate = gate;
  torn = torn;
  begun = begun _;
  foreign_cut = foreign_cut;
  bad_cut = bad_cut;
  foreign_served = foreign_served;
  bad_served = bad_served;
  lost = lost;
}

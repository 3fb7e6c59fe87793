-- A journal that was opened: what it keeps, what is told of it, and what a crash leaves meanwhile.
use Rattle.std.proofs.Common.{◌≡◌, ◌⊎◌, ◌<◌, ◌≤◌, inl, inr, ℕ, Bool, true, false, List, [], ◌∷◌, ◌++◌, length, take, drop, refl, sym, ◌∙◌, ap, subst, arith, Option, Some, None, Result, Ok, Err}
use Rattle.std.specs.Prelude.{IfSome, IfOk, OnErr}
use Rattle.std.proofs.lemmas.List.{take_at, length-take-le}
use Rattle.disks.specs.declared.disk.DiskFault.{DiskFault}
use Rattle.disks.specs.Disks.{Moment, Told, LeavesOnly, Measures, solid}
use Rattle.gated_log.specs.declared.log.Gate.TheVariants.{Closed}
use Rattle.gated_log.specs.declared.log.Log.{Log}
use Rattle.gated_log.specs.Format.{magic, NoRecord, EndsWith}
use Rattle.gated_log.specs.Known.{IsKnown}
use Rattle.gated_log.specs.Calls.{Settles, settled}
use Rattle.gated_log.specs.Ends.{Stands, IsEnd, IsShort, IsEmptyLog, LeavesFront, LeavesShort, front_at}
use Rattle.gated_log.proofs.Firm.{solid_left}
use Rattle.case_rules.specs.declared.case.Case.{Case}
use Rattle.case_keeper.specs.MemoryKeeper.{Kept}
use Rattle.journal_reading.specs.declared.fault.OpenFault.{OpenFault}
use Rattle.journal_reading.specs.declared.fault.OpenFault.TheVariants as faults
use Rattle.journal_reading.specs.declared.opening.Opened.{Opened}
use Rattle.journal_law.specs.Journal.{Holds, IsForeign}
use Rattle.journal_reading.specs.Keeping.{Keeps, IsOpen, NoOther, MayBe, IsSafe, LeavesCases, StaysSafe, told_by}
use Rattle.journal_reading.specs.Opening.{IsSettled, Answers, HoldsCases, IsNoJournal, LeavesAlone, Replays, Spares}
use Rattle.journal_law.specs.Fronts.{IsFront, IsReadTo}
use Rattle.journal_law.specs.Reading.{cases_in}
use Rattle.journal_law.proofs.Fronts.{front_begins, front_holds}
use Rattle.journal_law.proofs.OneReading.{have_one_reading}
use Rattle.journal_reading.proofs.Leaving.{leaves_so, leaves_on, leaves_none, leaves_one, last_leaves}
use Rattle.journal_law.proofs.Replayed.{read_holds, stops_bad}
use Rattle.journal_law.proofs.TellsRight.{tells_the_cases}

-- the log whose records end so, in a closed gate
abbrev pub shut : ℕ → Log
shut end = record { end = end; gate = Closed }

-- What bytes that hold cases may be, of a journal that is not open.
held_so : (t : Told) (bytes : List ℕ) (cases : List Case) → cases_in t.now.bytes ≡ cases → Holds bytes cases → MayBe None t NoOther bytes
held_so t bytes cases is holds = inl (subst (Holds bytes) (sym is) holds)

told_is : (bytes : List ℕ) (cases : List Case) → Holds bytes cases → cases_in bytes ≡ cases
told_is bytes cases holds = tells_the_cases.held bytes cases holds

-- At most nine bytes hold no cases.
few_hold : (bytes : List ℕ) → length bytes ≤ 9 → Holds bytes []
few_hold bytes few = inl (few, refl)

few_told : (bytes : List ℕ) → length bytes ≤ 9 → cases_in bytes ≡ []
few_told bytes few = told_is bytes [] (few_hold bytes few)

few_may_be : (t : Told) (bytes : List ℕ) → length t.now.bytes ≤ 9 → length bytes ≤ 9 → MayBe None t NoOther bytes
few_may_be t bytes few few' = held_so t bytes [] (few_told t.now.bytes few) (few_hold bytes few')

-- A journal that is begun in at most nine bytes.
pub few_moments : (o a : Option Told) → IfSome o IsShort → LeavesShort o a → LeavesCases NoOther None o a
few_moments None None short run = tt
few_moments None (Some u) short run = absurd run
few_moments (Some t) None short run = absurd run
few_moments (Some t) (Some u) short run = λ safe.
    leaves_so (λ left. length left ≤ 9) (MayBe None t NoOther) t u (λ left few. few_may_be t left short.1 few) run.0

pub few_as_before : (o a : Option Told) → IfSome o IsShort → LeavesShort o a → told_by None a ≡ told_by None o
few_as_before None None short run = refl
few_as_before None (Some u) short run = absurd run
few_as_before (Some t) None short run = absurd run
few_as_before (Some t) (Some u) short run =
    ap (λ (cs : List Case). Some cs) (few_told u.now.bytes run.1 ∙ sym (few_told t.now.bytes short.1))

pub few_safe : (o a : Option Told) → IfSome o IsShort → LeavesShort o a → StaysSafe None None o a
few_safe None a short run = tt
few_safe (Some t) None short run = absurd run
few_safe (Some t) (Some u) short run = λ safe. record {
  read = few_may_be u u.now.bytes run.1 run.1;
  left = λ bytes may. few_may_be u bytes run.1 (last_leaves (λ left. length left ≤ 9) t u run.0 bytes may);
}

pub few_answer : (o : Option Told) → IfSome o IsShort → IfSome o (λ t. Holds t.now.bytes (cases_in t.now.bytes))
few_answer None short = tt
few_answer (Some t) short = subst (Holds t.now.bytes) (sym (few_told t.now.bytes short.1)) (few_hold t.now.bytes short.1)

begun_keeps : (u : Told) → IsEmptyLog u → Keeps (shut 8) [] u
begun_keeps u is =
    let front : front_at 8 u ≡ magic = ap (λ (m : Moment). take 8 m.bytes) is in
    record {
      stands = record {
        long = ap (λ (l : List ℕ). length l) front;
        gate = is ∙ ap (λ (l : List ℕ). solid (l ++ 0 ∷ [])) (sym front);
      };
      front = subst (λ (l : List ℕ). IsFront l []) (sym front) front_begins;
      last = λ payload none. absurd none;
    }

pub begun_open : (a : Option Told) (log : Log) (held : Kept) → log ≡ shut 8 → held.cases ≡ [] → held.failing ≡ [] → IfSome a IsEmptyLog
    → IsOpen a (record { log = log; held = held })
begun_open a log held is none failing begun = record {
  unfailing = failing;
  room = omega (arith, ap (λ (l : Log). l.end) is);
  kept = by_told a begun;
}
  where
    by_told : (a : Option Told) → IfSome a IsEmptyLog → IfSome a (Keeps log held.cases)
    by_told None begun = tt
    by_told (Some u) begun =
        subst (λ (l : Log). Keeps l held.cases u) (sym is) (subst (λ (cs : List Case). Keeps (shut 8) cs u) (sym none) (begun_keeps u begun))

pub begun_same : (o a : Option Told) (log : Log) (held : Kept) → held.cases ≡ [] → IfSome o IsShort → LeavesShort o a
    → told_by (Some (record { log = log; held = held })) a ≡ told_by None o
begun_same None None log held none short run = refl
begun_same None (Some u) log held none short run = absurd run
begun_same (Some t) None log held none short run = absurd run
begun_same (Some t) (Some u) log held none short run = ap (λ (cs : List Case). Some cs) (none ∙ sym (few_told t.now.bytes short.1))

-- A journal that was read up to an end, which is then closed.
module _ (end : ℕ) (cases : List Case) where
  abbrev pub IsRead : Told → Type 0
  IsRead t = IsReadTo t.now.bytes end cases × NoRecord (drop end t.now.bytes)

  read_told : (t : Told) → IsRead t → cases_in t.now.bytes ≡ cases
  read_told t read = told_is t.now.bytes cases (read_holds t.now.bytes end cases read.0 read.1)

  ends_so : (t : Told) → IsRead t → (bytes : List ℕ) → EndsWith (front_at end t) bytes → Holds bytes cases
  ends_so t read bytes ends = front_holds (take end t.now.bytes) bytes cases read.0.front ends

  pub read_end : (t : Told) (len : ℕ) → IsSettled len t → IsRead t → IsEnd end t
  read_end t len is read = record { solid = is.solid; within = read.0.within; none = read.1 }

  -- the front stays the same bytes
  front_stays : (t u : Told) → IsRead t → EndsWith (front_at end t) u.now.bytes → front_at end u ≡ front_at end t
  front_stays t u read ends =
      let size : length (front_at end t) ≡ end = length-take-le end t.now.bytes read.0.within in
      ap (λ (l : List ℕ). take end l) ends.is ∙ take_at (front_at end t) ends.rest end size

  pub closed_moments : (o a : Option Told) → IfSome o IsRead → LeavesFront end o a → LeavesCases NoOther None o a
  closed_moments None None read run = tt
  closed_moments None (Some u) read run = absurd run
  closed_moments (Some t) None read run = absurd run
  closed_moments (Some t) (Some u) read run = λ safe.
      leaves_so (λ left. EndsWith (front_at end t) left) (MayBe None t NoOther) t u
      (λ left ends. held_so t left cases (read_told t read) (ends_so t read left ends)) run.0

  pub closed_as_before : (o a : Option Told) → IfSome o IsRead → LeavesFront end o a → told_by None a ≡ told_by None o
  closed_as_before None None read run = refl
  closed_as_before None (Some u) read run = absurd run
  closed_as_before (Some t) None read run = absurd run
  closed_as_before (Some t) (Some u) read run =
      ap (λ (cs : List Case). Some cs) (told_is u.now.bytes cases (ends_so t read u.now.bytes run.1) ∙ sym (read_told t read))

  pub closed_safe : (o a : Option Told) → IfSome o IsRead → LeavesFront end o a → StaysSafe None None o a
  closed_safe None a read run = tt
  closed_safe (Some t) None read run = absurd run
  closed_safe (Some t) (Some u) read run = λ safe.
      let now : cases_in u.now.bytes ≡ cases = told_is u.now.bytes cases (ends_so t read u.now.bytes run.1) in
      record {
        read = held_so u u.now.bytes cases now (ends_so t read u.now.bytes run.1);
        left = λ bytes may. held_so u bytes cases now (ends_so t read bytes (last_leaves (λ left. EndsWith (front_at end t) left) t u run.0 bytes may));
      }

  pub closed_answer : (o : Option Told) → IfSome o IsRead → IfSome o (λ t. Holds t.now.bytes (cases_in t.now.bytes))
  closed_answer None read = tt
  closed_answer (Some t) read =
      subst (Holds t.now.bytes) (sym (read_told t read)) (read_holds t.now.bytes end cases read.0 read.1)

  closed_keeps : (t u : Told) → IsRead t → EndsWith (front_at end t) u.now.bytes → Stands (shut end) u → Keeps (shut end) cases u
  closed_keeps t u read ends stands = record {
    stands = stands;
    front = subst (λ (l : List ℕ). IsFront l cases) (sym (front_stays t u read ends)) read.0.front;
    last = λ payload none. absurd none;
  }

  pub closed_open : (o a : Option Told) (log : Log) (held : Kept) → log ≡ shut end → held.cases ≡ cases → held.failing ≡ []
      → end < 18446744073709551615 → IfSome o IsRead → LeavesFront end o a → IfSome a (Stands (shut end))
      → IsOpen a (record { log = log; held = held })
  closed_open o a log held is same failing room read run stands = record {
    unfailing = failing;
    room = omega (arith, room, ap (λ (l : Log). l.end) is);
    kept = by_told o a read run stands;
  }
    where
      by_told : (o a : Option Told) → IfSome o IsRead → LeavesFront end o a → IfSome a (Stands (shut end)) → IfSome a (Keeps log held.cases)
      by_told o None read run stands = tt
      by_told None (Some u) read run stands = absurd run
      by_told (Some t) (Some u) read run stands =
          subst (λ (l : Log). Keeps l held.cases u) (sym is)
          (subst (λ (cs : List Case). Keeps (shut end) cs u) (sym same) (closed_keeps t u read run.1 stands))

  pub closed_same : (o a : Option Told) (log : Log) (held : Kept) → held.cases ≡ cases → IfSome o IsRead → LeavesFront end o a
      → told_by (Some (record { log = log; held = held })) a ≡ told_by None o
  closed_same None None log held same read run = refl
  closed_same None (Some u) log held same read run = absurd run
  closed_same (Some t) None log held same read run = absurd run
  closed_same (Some t) (Some u) log held same read run = ap (λ (cs : List Case). Some cs) (same ∙ sym (read_told t read))

-- Where the disk is as it was.
pub unchanged_moments : (opened : Option Opened) (o a : Option Told) → a ≡ o → LeavesCases NoOther opened o a
unchanged_moments opened o a same = subst (λ z. LeavesCases NoOther opened o z) (sym same) (by_told o)
  where
    by_told : (o : Option Told) → LeavesCases NoOther opened o o
    by_told None = tt
    by_told (Some t) = λ safe. leaves_none (MayBe opened t NoOther) t safe.left

pub unchanged_safe : (opened : Option Opened) (o a : Option Told) → a ≡ o → StaysSafe opened opened o a
unchanged_safe opened o a same = subst (λ z. StaysSafe opened opened o z) (sym same) (by_told o)
  where
    by_told : (o : Option Told) → StaysSafe opened opened o o
    by_told None = tt
    by_told (Some t) = λ safe. safe

pub unchanged_told : (opened : Option Opened) (o a : Option Told) → a ≡ o → told_by opened a ≡ told_by opened o
unchanged_told opened o a same = ap (told_by opened) same

-- What the sync at first leaves: the same, or the same bytes to stay.
synced_safe : (t : Told) → IsSafe None t → IsSafe None (settled t t.now.bytes)
synced_safe t safe = record {
  read = safe.read;
  left = λ bytes may. subst (MayBe None t NoOther) (sym (solid_left t.now.bytes bytes may)) safe.read;
}

synced_moment : (t : Told) → IsSafe None t → LeavesOnly (MayBe None t NoOther) t (settled t t.now.bytes)
synced_moment t safe =
    leaves_one (MayBe None t NoOther) t (solid t.now.bytes) safe.left
    (λ left may. subst (MayBe None t NoOther) (sym (solid_left t.now.bytes left may)) safe.read)

module _ (X : Type 0) where
  pub settled_failed_moments : (o a : Option Told) (fault : DiskFault) → Settles {X = X} o a (Err fault) → LeavesCases NoOther None o a
  settled_failed_moments None a fault same = unchanged_moments None None a same
  settled_failed_moments (Some t) a fault (inl same) = unchanged_moments None (Some t) a same
  settled_failed_moments (Some t) a fault (inr same) = subst (λ z. LeavesCases NoOther None (Some t) z) (sym same) (synced_moment t)

  pub settled_failed_safe : (o a : Option Told) (fault : DiskFault) → Settles {X = X} o a (Err fault) → StaysSafe None None o a
  settled_failed_safe None a fault same = tt
  settled_failed_safe (Some t) a fault (inl same) = unchanged_safe None (Some t) a same
  settled_failed_safe (Some t) a fault (inr same) = subst (λ z. StaysSafe None None (Some t) z) (sym same) (synced_safe t)

  pub settled_failed_told : (o a : Option Told) (fault : DiskFault) → Settles {X = X} o a (Err fault) → told_by None a ≡ told_by None o
  settled_failed_told None a fault same = ap (told_by None) same
  settled_failed_told (Some t) a fault (inl same) = ap (told_by None) same
  settled_failed_told (Some t) a fault (inr same) = ap (told_by None) same

module _ {X : Type 0} (x : X) where
  -- a disk that was synced, and what comes behind that
  pub then_moments : (o a b : Option Told) → Settles o a (Ok x) → LeavesCases NoOther None a b → LeavesCases NoOther None o b
  then_moments None a b same run = subst (λ z. LeavesCases NoOther None z b) same run
  then_moments (Some t) a b same run = by_told b (subst (λ z. LeavesCases NoOther None z b) same run)
    where
      by_told : (b : Option Told) → LeavesCases NoOther None (Some (settled t t.now.bytes)) b → LeavesCases NoOther None (Some t) b
      by_told None run = run
      by_told (Some v) run = λ safe.
          leaves_on (MayBe None t NoOther) t (settled t t.now.bytes) v (synced_moment t safe) (run (synced_safe t safe))

  pub then_safe : (o a b : Option Told) → Settles o a (Ok x) → StaysSafe None None a b → StaysSafe None None o b
  then_safe None a b same stays = tt
  then_safe (Some t) a b same stays =
      let on = subst (λ z. StaysSafe None None z b) same stays in
      λ safe. on (synced_safe t safe)

  pub then_told : (o a : Option Told) (last : Option (List Case)) → Settles o a (Ok x) → last ≡ told_by None a → last ≡ told_by None o
  then_told None a last same is = is ∙ ap (told_by None) same
  then_told (Some t) a last same is = is ∙ ap (told_by None) same

  pub then_answer : {Y : Type 0} (o a : Option Told) (r : Result Y OpenFault) → Settles o a (Ok x) → IfSome a (λ t. Answers t.now.bytes r)
      → IfSome o (λ t. Answers t.now.bytes r)
  then_answer None a r same answer = tt
  then_answer (Some t) a r same answer = subst (λ z. IfSome z (λ u. Answers u.now.bytes r)) same answer

  pub then_settled : (o a : Option Told) (len : ℕ) → Settles o a (Ok x) → IfSome a (Measures len) → IfSome a (IsSettled len)
  then_settled None a len same long = subst (λ z. IfSome z (IsSettled len)) (sym same) tt
  then_settled (Some t) a len same long =
      let long_so : length t.now.bytes ≡ len = sym (subst (λ z. IfSome z (Measures len)) same long) in
      subst (λ z. IfSome z (IsSettled len)) (sym same) (record { solid = refl; long = long_so })

pub settled_short : (o : Option Told) (len : ℕ) → len ≤ 9 → IfSome o (IsSettled len) → IfSome o IsShort
settled_short None len few is = tt
settled_short (Some t) len few is = let long = is.long in (is.solid, omega (arith, few, long))

-- The same of whatever a call returned.
module _ {X : Type 0} (x : X) (o a b : Option Told) (same : Settles o a (Ok x)) where
  pub then_same : (r : Result Opened OpenFault) → IfOk r (λ j. told_by (Some j) b ≡ told_by None a) → IfOk r (λ j. told_by (Some j) b ≡ told_by None o)
  then_same (Ok j) is = then_told x o a (told_by (Some j) b) same is
  then_same (Err fault) is = tt

  pub then_as_before : (r : Result Opened OpenFault) → OnErr r (told_by None b ≡ told_by None a) → OnErr r (told_by None b ≡ told_by None o)
  then_as_before (Ok j) is = tt
  then_as_before (Err fault) is = then_told x o a (told_by None b) same is

  pub then_safe_so : (r : Result Opened OpenFault) → OnErr r (StaysSafe None None a b) → OnErr r (StaysSafe None None o b)
  then_safe_so (Ok j) is = tt
  then_safe_so (Err fault) is = then_safe x o a b same is

-- Bytes that do not begin as a journal, and those that were read up to a record that is refused.
pub foreign_so : (o : Option Told) (len : ℕ) (known : Bool) → known ≡ false → 9 < len → IfSome o (IsSettled len)
    → IfSome o (λ t. IsKnown known t.now.bytes) → IfSome o (λ t. IsForeign t.now.bytes)
foreign_so None len known not long is begins = tt
foreign_so (Some t) len known not long is begins =
    let size = is.long in
    record { long = omega (arith, size, long); other = subst (λ b. IsKnown b t.now.bytes) not begins }

pub replays_answers : (X : Type 0) (o a : Option Told) (len : ℕ) (fault : OpenFault) → a ≡ o → 9 < len → IfSome o (IsSettled len)
    → IfSome a (λ t. Replays t.now.bytes (Err fault)) → IfSome o (λ t. Answers {X = X} t.now.bytes (Err fault))
replays_answers X None a len fault same long is replays = tt
replays_answers X (Some t) a len fault same long is replays = by_fault fault (subst (λ z. IfSome z (λ u. Replays u.now.bytes (Err fault))) same replays)
  where
    by_fault : (fault : OpenFault) → Replays t.now.bytes (Err fault) → Answers {X = X} t.now.bytes (Err fault)
    by_fault faults.Magic replays = absurd replays
    by_fault (faults.Bad at) replays = let size = is.long in stops_bad t.now.bytes at (omega (arith, size, long)) replays
    by_fault faults.Failed replays = tt
    by_fault faults.Memory replays = tt

pub want_answers : (X : Type 0) (o : Option Told) → IfSome o (λ t. Answers {X = X} t.now.bytes (Err faults.Memory))
want_answers X None = tt
want_answers X (Some t) = tt

pub settled_long : (o : Option Told) (len : ℕ) → IfSome o (IsSettled len) → IfSome o (Measures len)
settled_long None len is = tt
settled_long (Some t) len is = sym is.long

pub known_so : (o : Option Told) (known : Bool) → known ≡ true → IfSome o (λ t. IsKnown known t.now.bytes) → IfSome o (λ t. IsKnown true t.now.bytes)
known_so o known is begins = subst (λ b. IfSome o (λ t. IsKnown b t.now.bytes)) is begins

pub end_so : (o : Option Told) (end len : ℕ) (cases : List Case) → IfSome o (IsSettled len) → IfSome o (IsRead end cases) → IfSome o (IsEnd end)
end_so None end len cases is read = tt
end_so (Some t) end len cases is read = read_end end cases t len is read

-- Bytes that hold cases are a journal.
no_journal : (t : Told) → HoldsCases t → IsNoJournal t → ⊥
no_journal t holds (inl foreign) = have_one_reading.not_foreign t.now.bytes (cases_in t.now.bytes) holds foreign
no_journal t holds (inr bad) = have_one_reading.not_bad t.now.bytes (cases_in t.now.bytes) bad.0 holds bad.1

pub held_alone : (o a : Option Told) → IfSome o HoldsCases → LeavesAlone o a
held_alone None a holds = tt
held_alone (Some t) a holds = λ none. absurd (no_journal t holds none)

pub held_spared : (o a : Option Told) → IfSome o HoldsCases → Spares o a
held_spared None a holds = tt
held_spared (Some t) a holds = λ none. absurd (no_journal t holds none)

-- What only reads leaves bytes alone that are no journal.
pub unchanged_alone : (o a : Option Told) → a ≡ o → LeavesAlone o a
unchanged_alone None a same = tt
unchanged_alone (Some t) a same = λ none. same

pub unchanged_spared : (o a : Option Told) → a ≡ o → Spares o a
unchanged_spared None a same = tt
unchanged_spared (Some t) a same = λ none. inl same

pub settled_failed_spared : (X : Type 0) (o a : Option Told) (fault : DiskFault) → Settles {X = X} o a (Err fault) → Spares o a
settled_failed_spared X None a fault same = tt
settled_failed_spared X (Some t) a fault same = λ none. same

-- and so does a sync with what leaves them alone behind it
pub then_spared : {X : Type 0} (x : X) (o a b : Option Told) → Settles o a (Ok x) → LeavesAlone a b → Spares o b
then_spared x None a b same alone = tt
then_spared x (Some t) a b same alone =
    let on = subst (λ z. LeavesAlone z b) same alone in
    λ none. inr (on none)

-- At most nine bytes that were synced are a journal.
pub short_spared : {X : Type 0} (x : X) (o a b : Option Told) → Settles o a (Ok x) → IfSome a IsShort → Spares o b
short_spared x None a b same short = tt
short_spared x (Some t) a b same short =
    held_spared (Some t) b (few_answer (Some (settled t t.now.bytes)) (subst (λ z. IfSome z IsShort) same short))

-- What a run over a door is worth: over the cases a run of the desk's machine, and over the door its conversations, as many as
-- there are.
use Rattle.std.proofs.Common.{◌≡◌, ◌≤◌, ◌+◌, ◌⊎◌, ℕ, min, List, [], ◌∷◌, ◌++◌, map, drop, length, Option, Some, Bool, true, false, Result, Ok, Err, IfOk, refl, sym, ap, subst, ◌∙◌, inl, inr, zero-add, arith}
use Rattle.std.specs.List.{AllByRecursion}
use Rattle.std.proofs.lemmas.Grind.{common_steps}
use Rattle.std.proofs.lemmas.List.{append_assoc, append-nil}
use Rattle.desk_http.specs.declared.asked.Asked.{Asked}
use Rattle.desk_http.specs.declared.asked.HttpFault.{HttpFault}
use Rattle.desk_http.specs.declared.reply.Answer.{Answer}
use Rattle.desk_links.specs.declared.door.DoorFault.{DoorFault}
use Rattle.desk_links.specs.declared.door.DoorFault.TheVariants as doors
use Rattle.desk_links.specs.Links.{Talk, Told, Opens, OpensTold, opened as opened_with, with_written, without_first, ended_with}
use Rattle.case_rules.specs.declared.case.Case.{Case}
use Rattle.case_rules.specs.declared.case.Content.{Content}
use Rattle.case_rules.specs.Desk.{Judgement}
use Rattle.case_rules.specs.Runs.{Standing, Connection, IsConnection, PassesOn, IsDeskRun}
use Rattle.store_office.specs.declared.office.Office.{Office}
use Rattle.desk_serving.specs.declared.serving.Served.{Served}
use Rattle.desk_serving.specs.declared.serving.Served.TheVariants as served
use Rattle.desk_serving.specs.Serving.{Outside, standing, MayAnswer, to_command, to_other, to_failure, to_want, MayEnd, Serves}
use Rattle.desk_serving.specs.Run.{Passes, Takes, begins, goes_on, Stops, Runs, IsMachineRun, Exchange, IsAnswered, Holds, HoldsTalks, CountsAll}

passes_on : (a b c : Standing) → PassesOn a b → PassesOn b c → PassesOn a c
passes_on a b c first second = record {
  cases = second.cases ∙ first.cases;
  keeper = second.keeper ∙ first.keeper;
  link = omega (arith, first.link, second.link);
}

-- a run, and then nothing
and_nothing : (entry : Standing) (connections : List Connection) (middle exit : Standing)
    → IsDeskRun entry connections middle → PassesOn middle exit → IsDeskRun entry connections exit
and_nothing entry [] middle exit run passes = passes_on entry middle exit run passes
and_nothing entry (c ∷ connections) middle exit run passes =
    (run.0, run.1, and_nothing c.after connections middle exit run.2 passes)

-- a run, and then one connection
and_one : (entry : Standing) (connections : List Connection) (middle : Standing) (c : Connection)
    → IsDeskRun entry connections middle → PassesOn middle c.before → IsConnection c
    → IsDeskRun entry (connections ++ c ∷ []) c.after
and_one entry [] middle c run passes is =
    (passes_on entry middle c.before run passes, is, record { cases = refl; keeper = refl; link = omega arith })
and_one entry (d ∷ connections) middle c run passes is =
    (run.0, run.1, and_one d.after connections middle c run.2 passes is)

-- one connection more
one_more : (connections : List Connection) (c : Connection) → length (connections ++ c ∷ []) ≡ length connections + 1
one_more [] c = refl
one_more (d ∷ connections) c = omega (arith, one_more connections c)

module _ (finds : Content → Judgement → Type 0) (office : Office) (edition : List ℕ) (today : Option ℕ) (entry : Outside) where
  -- the cases after some connections
  record IsAfter (n : ℕ) (cases : List Case) (after : Outside) : Type 0 where
    then : List Case
    cases_are : after.cases ≡ Some then
    connections : List Connection
    run : IsDeskRun (standing cases entry) connections (standing then after)
    count : length connections ≡ n

  after_all : (n : ℕ) (after : Outside) (cases : List Case)
      → Takes finds office edition today entry n after → entry.cases ≡ Some cases → IsAfter n cases after
  after_all n after cases begins told = record {
    then = cases;
    cases_are = told;
    connections = [];
    run = record { cases = refl; keeper = refl; link = omega arith };
    count = refl;
  }
  after_all n after cases (goes_on k before opened next said takes passes came serves) told =
      let m = after_all k before cases takes told in
      let s = serves.kept m.then (passes.cases ∙ m.cases_are) in
      let c : Connection = record { before = standing m.then opened; ending = s.2.ending; after = standing s.0 next } in
      record {
        then = s.0;
        cases_are = s.1;
        connections = m.connections ++ c ∷ [];
        run = and_one (standing cases entry) m.connections (standing m.then before) c m.run
            (record { cases = refl; keeper = passes.store; link = passes.link }) s.2.connection;
        count = omega (arith, one_more m.connections c, m.count);
      }

-- what is told once a run stopped
then_stops : (most n : ℕ) (last exit : Outside) (result : Result ℕ DoorFault) → Stops most n last exit result
    → (last ≡ exit) ⊎ Passes last exit
then_stops most n last exit (Ok count) stops = elim stops.1 [
  | inl whole ↦ inl (sym whole.1)
  | inr fewer ↦ inr fewer.1
]
then_stops most n last exit (Err fault) stops = inr stops.1

-- so many were taken, where that is said
so_many : (most n k : ℕ) (last exit : Outside) (result : Result ℕ DoorFault) → Stops most n last exit result → k ≡ n
    → IfOk result (λ count. k ≡ count)
so_many most n k last exit (Ok count) stops is = is ∙ sym stops.0
so_many most n k last exit (Err fault) stops is = tt

pub machine_run : (finds : Content → Judgement → Type 0) (office : Office) (edition : List ℕ) (today : Option ℕ)
    (most : ℕ) (entry exit : Outside) (result : Result ℕ DoorFault)
    → Runs finds office edition today most entry exit result → IsMachineRun entry exit result
machine_run finds office edition today most entry exit result runs = λ cases told.
    let m = after_all finds office edition today entry runs.n runs.last cases runs.takes told in
    let count = so_many most runs.n (length m.connections) runs.last exit result runs.stops m.count in
    elim (then_stops most runs.n runs.last exit result runs.stops) [
      | inl same ↦ (
        m.connections,
        m.then,
        ap (λ (o : Outside). o.cases) (sym same) ∙ m.cases_are,
        subst (λ (o : Outside). IsDeskRun (standing cases entry) m.connections (standing m.then o)) same m.run,
        count,
      )
      | inr passes ↦ (
        m.connections,
        m.then,
        passes.cases ∙ m.cases_are,
        and_nothing (standing cases entry) m.connections (standing m.then runs.last) (standing m.then exit) m.run
            (record { cases = refl; keeper = passes.store; link = passes.link }),
        count,
      )
    ]

-- the next one was opened
record IsOpened (mid : Told) (opened : Option Told) : Type 0 where
  input : List ℕ
  rest : List (List ℕ)
  is : opened ≡ Some (opened_with input rest mid)
  left : mid.left ≡ input ∷ rest

opens : (mid : Told) (old opened : Option Told) → old ≡ Some mid → Opens old opened (Ok true) → IsOpened mid opened
opens mid old opened is o =
    let told : OpensTold mid opened (Ok true) = subst (λ (z : Option Told). Opens z opened (Ok true)) is o in
    record { input = told.0; rest = told.1; is = told.3; left = told.2 }

-- no count is greater before, and none less behind
record Wider (from before after to : Outside) : Type 0 where
  store_before : from.store_faults ≤ before.store_faults
  store_after : after.store_faults ≤ to.store_faults
  link_before : from.link_faults ≤ before.link_faults
  link_after : after.link_faults ≤ to.link_faults

module _ (office : Office) (from before after to : Outside) (wide : Wider from before after to) where
  may_answer : (request : Result Asked HttpFault) (answer : Answer) → MayAnswer office request before after answer
      → MayAnswer office request from to answer
  may_answer request answer (to_command party command reply is same) = to_command party command reply is same
  may_answer request answer (to_other is) = to_other is
  may_answer request answer (to_failure same risen) = to_failure same (omega (arith, risen, wide.store_before, wide.store_after))
  may_answer request answer (to_want same) = to_want same

  may_end : (request : Result Asked HttpFault) (written : List ℕ) (said : Served) → MayEnd office request before after written said
      → MayEnd office request from to written said
  may_end request written (served.Replied status) ends = (ends.0, may_answer request ends.0 ends.1, ends.2, ends.3)
  may_end request written served.Ended ends = ends
  may_end request written served.ReadFault ends = (ends.0, ends.1, omega (arith, ends.2, wide.link_before, wide.link_after))
  may_end request written served.WriteFault ends =
      (ends.0, ends.1, may_answer request ends.0 ends.2, ends.3, omega (arith, ends.4, wide.link_before, wide.link_after))
  may_end request written served.Memory ends = ends

  answered_on : (exchanges : List Exchange) → AllByRecursion (IsAnswered office before after) exchanges
      → AllByRecursion (IsAnswered office from to) exchanges
  answered_on [] all = tt
  answered_on (e ∷ exchanges) all = (
    record {
      request = all.0.request;
      of_bytes = all.0.of_bytes;
      said = all.0.said;
      ends = may_end all.0.request e.talk.written all.0.said all.0.ends;
    },
    answered_on exchanges all.1,
  )

all_and_one : (P : Exchange → Type 0) (exchanges : List Exchange) (e : Exchange) → AllByRecursion P exchanges → P e
    → AllByRecursion P (exchanges ++ e ∷ [])
all_and_one P [] e all one = (one, tt)
all_and_one P (x ∷ exchanges) e all one = (all.0, all_and_one P exchanges e all.1 one)

abbrev came_in : Exchange → List ℕ
came_in e = e.came

abbrev talk_in : Exchange → Talk
talk_in e = e.talk

came_more : (exchanges : List Exchange) (e : Exchange) (rest : List (List ℕ))
    → map came_in exchanges ++ e.came ∷ rest ≡ map came_in (exchanges ++ e ∷ []) ++ rest
came_more [] e rest = refl
came_more (x ∷ exchanges) e rest = ap (λ (all : List (List ℕ)). x.came ∷ all) (came_more exchanges e rest)

talk_more : (exchanges : List Exchange) (e : Exchange)
    → map talk_in exchanges ++ e.talk ∷ [] ≡ map talk_in (exchanges ++ e ∷ [])
talk_more [] e = refl
talk_more (x ∷ exchanges) e = ap (λ (all : List Talk). x.talk ∷ all) (talk_more exchanges e)

one_exchange_more : (exchanges : List Exchange) (e : Exchange) → length (exchanges ++ e ∷ []) ≡ length exchanges + 1
one_exchange_more [] e = refl
one_exchange_more (x ∷ exchanges) e = omega (arith, one_exchange_more exchanges e)

-- what is told of the door after some connections
record Talked (office : Office) (n : ℕ) (talk : Told) (entry after : Outside) : Type 0 where
  now : Told
  now_is : after.talk ≡ Some now
  exchanges : List Exchange
  holds : Holds office entry after talk now exchanges
  count : length exchanges ≡ n
  store : entry.store_faults ≤ after.store_faults
  link : entry.link_faults ≤ after.link_faults

-- one conversation more
and_talked : (finds : Content → Judgement → Type 0) (office : Office) (edition : List ℕ) (today : Option ℕ) (n : ℕ) (talk : Told)
    (entry before opened after : Outside) (said : Served) → Talked office n talk entry before → Passes before opened
    → Opens before.talk opened.talk (Ok true) → Serves finds office edition today opened after said
    → Talked office (n + 1) talk entry after
and_talked finds office edition today n talk entry before opened after said m passes came serves =
    let o = opens m.now before.talk opened.talk m.now_is came in
    let t = serves.talked (opened_with o.input o.rest m.now) o.is in
    let e : Exchange = record { came = o.input; talk = record { coming = drop t.taken o.input; written = serves.written } } in
    let at_entry : Wider entry opened after after = record {
      store_before = omega (arith, m.store, passes.store);
      store_after = omega arith;
      link_before = omega (arith, m.link, passes.link);
      link_after = omega arith;
    } in
    let at_exit : Wider entry entry before after = record {
      store_before = omega arith;
      store_after = omega (arith, passes.store, serves.store_never_falls);
      link_before = omega arith;
      link_after = omega (arith, passes.link, serves.link_never_falls);
    } in
    record {
      now = with_written serves.written (without_first t.taken (opened_with o.input o.rest m.now));
      now_is = t.link;
      exchanges = m.exchanges ++ e ∷ [];
      holds = record {
        came = m.holds.came ∙ ap (λ (left : List (List ℕ)). map came_in m.exchanges ++ left) o.left
            ∙ came_more m.exchanges e o.rest;
        over = ap (λ (ended : List Talk). ended ++ e.talk ∷ []) m.holds.over
            ∙ append_assoc (ended_with talk) (map talk_in m.exchanges) (e.talk ∷ [])
            ∙ ap (λ (more : List Talk). ended_with talk ++ more) (talk_more m.exchanges e);
        answered = all_and_one (IsAnswered office entry after) m.exchanges e
            (answered_on office entry entry before after at_exit m.exchanges m.holds.answered)
            (record {
              request = serves.request;
              of_bytes = t.of_bytes;
              said = said;
              ends = may_end office entry opened after after at_entry serves.request serves.written said serves.ends;
            });
      };
      count = omega (arith, one_exchange_more m.exchanges e, m.count);
      store = omega (arith, m.store, passes.store, serves.store_never_falls);
      link = omega (arith, m.link, passes.link, serves.link_never_falls);
    }

talked_all : (finds : Content → Judgement → Type 0) (office : Office) (edition : List ℕ) (today : Option ℕ) (entry : Outside) (n : ℕ)
    (after : Outside) (talk : Told) → Takes finds office edition today entry n after → entry.talk ≡ Some talk
    → Talked office n talk entry after
talked_all finds office edition today entry n after talk begins talks = record {
  now = talk;
  now_is = talks;
  exchanges = [];
  holds = record { came = refl; over = sym (append-nil (ended_with talk)); answered = tt };
  count = refl;
  store = omega arith;
  link = omega arith;
}
talked_all finds office edition today entry n after talk (goes_on k before opened next said takes passes came serves) talks =
    and_talked finds office edition today k talk entry before opened next said
    (talked_all finds office edition today entry k before talk takes talks) passes came serves

-- what is told of the door once it opened no more
record Stopped (mid : Told) (now : Option Told) : Type 0 where
  then : Told
  is : now ≡ Some then
  left : then.left ≡ mid.left
  over : ended_with then ≡ ended_with mid

stopped_none : (mid : Told) (old now : Option Told) → old ≡ Some mid → Opens old now (Ok false) → Stopped mid now
stopped_none mid old now is o =
    let told : OpensTold mid now (Ok false) = subst (λ (z : Option Told). Opens z now (Ok false)) is o in
    record { then = _; is = told.1; left = refl; over = refl }

stopped_by : (mid : Told) (now : Option Told) (fault : DoorFault) → OpensTold mid now (Err fault) → Stopped mid now
stopped_by mid now doors.Failed o = record { then = _; is = o; left = refl; over = refl }
stopped_by mid now doors.Memory o = record { then = mid; is = o; left = refl; over = refl }

stopped_fault : (mid : Told) (old now : Option Told) (fault : DoorFault) → old ≡ Some mid → Opens old now (Err fault)
    → Stopped mid now
stopped_fault mid old now fault is o =
    stopped_by mid now fault (subst (λ (z : Option Told). Opens z now (Err fault)) is o)

-- once a run stopped
door_stops : (most n : ℕ) (last exit : Outside) (mid : Told) (result : Result ℕ DoorFault) → Stops most n last exit result
    → last.talk ≡ Some mid → (last ≡ exit) ⊎ (Passes last exit × Stopped mid exit.talk)
door_stops most n last exit mid (Ok count) stops is = elim stops.1 [
  | inl whole ↦ inl (sym whole.1)
  | inr fewer ↦ inr (fewer.1, stopped_none mid last.talk exit.talk is fewer.2)
]
door_stops most n last exit mid (Err fault) stops is =
    inr (stops.1, stopped_fault mid last.talk exit.talk fault is stops.2)

pub holds_talks : (finds : Content → Judgement → Type 0) (office : Office) (edition : List ℕ) (today : Option ℕ)
    (most : ℕ) (entry exit : Outside) (result : Result ℕ DoorFault)
    → Runs finds office edition today most entry exit result → HoldsTalks office entry exit result
holds_talks finds office edition today most entry exit result runs = λ talk talks.
    let m = talked_all finds office edition today entry runs.n runs.last talk runs.takes talks in
    let count = so_many most runs.n (length m.exchanges) runs.last exit result runs.stops m.count in
    elim (door_stops most runs.n runs.last exit m.now result runs.stops m.now_is) [
      | inl same ↦ (
        m.exchanges,
        m.now,
        ap (λ (o : Outside). o.talk) (sym same) ∙ m.now_is,
        subst (λ (o : Outside). Holds office entry o talk m.now m.exchanges) same m.holds,
        count,
      )
      | inr rest ↦
          let wide : Wider entry entry runs.last exit = record {
            store_before = omega arith;
            store_after = omega (arith, rest.0.store);
            link_before = omega arith;
            link_after = omega (arith, rest.0.link);
          } in (
            m.exchanges,
            rest.1.then,
            rest.1.is,
            record {
              came = m.holds.came ∙ ap (λ (left : List (List ℕ)). map came_in m.exchanges ++ left) (sym rest.1.left);
              over = rest.1.over ∙ m.holds.over;
              answered = answered_on office entry entry runs.last exit wide m.exchanges m.holds.answered;
            },
            count,
          )
    ]

-- none is left where no more come
none_left : (mid : Told) (old now : Option Told) → old ≡ Some mid → Opens old now (Ok false) → mid.left ≡ []
none_left mid old now is o =
    let told : OpensTold mid now (Ok false) = subst (λ (z : Option Told). Opens z now (Ok false)) is o in told.0

counted : (most n : ℕ) (all : ℕ) (last exit : Outside) (now : Told) (result : Result ℕ DoorFault)
    → last.talk ≡ Some now → n + length now.left ≡ all → Stops most n last exit result
    → IfOk result (λ count. count ≡ min most all)
counted most n all last exit now (Ok count) is left stops = elim stops.1 [
  | inl whole ↦ grind (arith, common_steps, stops.0, whole.0, left)
  | inr fewer ↦
      let none : length now.left ≡ 0 = ap (λ (xs : List (List ℕ)). length xs) (none_left now last.talk exit.talk is fewer.2) in
      grind (arith, common_steps, stops.0, fewer.0, left, none)
]
counted most n all last exit now (Err fault) is left stops = tt

all_left : (exchanges : List Exchange) (rest : List (List ℕ)) → length (map came_in exchanges ++ rest) ≡ length exchanges + length rest
all_left [] rest = sym (zero-add (length rest))
all_left (e ∷ exchanges) rest = omega (arith, all_left exchanges rest)

pub counts_all : (finds : Content → Judgement → Type 0) (office : Office) (edition : List ℕ) (today : Option ℕ)
    (most : ℕ) (entry exit : Outside) (result : Result ℕ DoorFault)
    → Runs finds office edition today most entry exit result → CountsAll most entry result
counts_all finds office edition today most entry exit result runs = λ talk talks.
    let m = talked_all finds office edition today entry runs.n runs.last talk runs.takes talks in
    let all : length talk.left ≡ length m.exchanges + length m.now.left =
    ap (λ (xs : List (List ℕ)). length xs) m.holds.came ∙ all_left m.exchanges m.now.left in
    counted most runs.n (length talk.left) runs.last exit m.now result m.now_is (omega (arith, all, m.count)) runs.stops

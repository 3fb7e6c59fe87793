-- Over all connections the submission acts once.
use Rattle.std.proofs.Common.{◌≡◌, ℕ, ◌⊎◌, ◌||◌, Bool, true, false, List, [], ◌∷◌, ◌++◌, take, Some, refl, ap, sym, subst, ◌∙◌, inl, inr}
use Rattle.store_office.specs.declared.office.Office.{Office}
use Rattle.store_office.specs.declared.party.Party.{Party}
use Rattle.case_rules.specs.declared.case.Content.{Content}
use Rattle.case_rules.specs.Rules.{is_developer}
use Rattle.case_rules.specs.Desk.{Judgement}
use Rattle.case_rules.specs.Runs.{Standing, carried_out}
use Rattle.desk_http.specs.Requests.{Answers}
use Rattle.desk_routes.specs.Turns.{party_of}
use Rattle.desk_serving.specs.declared.serving.Served.{Served}
use Rattle.client_http.specs.ReadAs.{IsReadAs}
use Rattle.client_law.specs.Tried.{HandedIn, held_of, IsAmong, Visit, IsVisit, Tried, none_left, of_client, of_another, is_accepted, any_accepted, HasAtMostOneMore, ActsOnce}
use Rattle.client_law.proofs.Held.{HasReference, among_more, last_has}
use Rattle.client_law.proofs.Visits.{Grows, Visited, by_ending, by_another}

grows_on : (x : HandedIn) (a b c : List HandedIn) → Grows x a b → Grows x b c → Grows x a c
grows_on x a b c (inl first) (inl second) = inl (second ∙ first)
grows_on x a b c (inl first) (inr second) = inr (subst (λ (zs : List HandedIn). HasReference x.0 zs → ⊥) first second.0, second.1 ∙ ap (λ (zs : List HandedIn). zs ++ x ∷ []) first)
grows_on x a b c (inr first) (inl second) = inr (first.0, second ∙ first.1)
grows_on x a b c (inr first) (inr second) = absurd (second.0 (subst (HasReference x.0) (sym first.1) (last_has x.0 x.1 a)))

among_grown : (x : HandedIn) (a b : List HandedIn) → Grows x a b → IsAmong x a → IsAmong x b
among_grown x a b (inl same) is = subst (IsAmong x) (sym same) is
among_grown x a b (inr more) is = subst (IsAmong x) (sym more.1) (among_more x x a is)

at_most_one : (x : HandedIn) (a b : List HandedIn) → Grows x a b → HasAtMostOneMore x a b
at_most_one x a b (inl same) = inl same
at_most_one x a b (inr more) = inr more.1

-- what all connections make together
pub record Acts (x : HandedIn) (before after : List HandedIn) (said : List Served) : Type 0 where
  pub grows : Grows x before after
  pub accepted : any_accepted said ≡ true → IsAmong x after

first_or_more : (a b : Bool) → (a || b) ≡ true → (a ≡ true) ⊎ (b ≡ true)
first_or_more true b is = inl refl
first_or_more false b is = inr is

moved : (x : HandedIn) (a b c : List HandedIn) (said : List Served) → b ≡ a → Acts x b c said → Acts x a c said
moved x a b c said same acts = subst (λ (zs : List HandedIn). Acts x zs c said) same acts

module _ (finds : Content → Judgement → Type 0) (edition : List ℕ) (office : Office) (party : Party) (token reference : List ℕ) (content : Content) (request : List ℕ)
    (read : IsReadAs token reference content request) (found : party_of office (Some token) ≡ Some party) (role : is_developer party.role ≡ true) where
  visited : (v : Visit) (n : ℕ) (is : IsVisit finds edition office v) → v.told.coming ≡ take n request
      → Visited (reference, content) (held_of party.name v.before.cases) (held_of party.name v.after.cases) v.said
  visited v n is front =
      by_ending finds edition v.day office party token reference content request read found role n
      v.before.cases v.after.cases is.request is.kept.ending is.written v.said
      (subst (λ (bytes : List ℕ). Answers bytes is.request) front is.talked.of_bytes) is.kept.connection.cases is.kept.ends

  pub acts : (from to : Standing) (said : List Served) → Tried finds edition office party.name request from said to
      → Acts (reference, content) (held_of party.name from.cases) (held_of party.name to.cases) said
  acts from to said (none_left passes) = record { grows = inl (ap (held_of party.name) passes.cases); accepted = λ yes. absurd (let clash : false ≡ true = yes in cc) }
  acts from to said (of_client v more n passes is front later) =
      let x : HandedIn = (reference, content) in
      let now = visited v n is front in
      let then = acts v.after to more later in
      let whole : Acts x (held_of party.name v.before.cases) (held_of party.name to.cases) (v.said ∷ more) = record {
        grows = grows_on x (held_of party.name v.before.cases) (held_of party.name v.after.cases) (held_of party.name to.cases) now.grows then.grows;
        accepted = λ yes. elim (first_or_more (is_accepted v.said) (any_accepted more) yes) [
          | inl here ↦ among_grown x (held_of party.name v.after.cases) (held_of party.name to.cases) then.grows (now.accepted here)
          | inr there ↦ then.accepted there
        ];
      } in
      moved x (held_of party.name from.cases) (held_of party.name v.before.cases) (held_of party.name to.cases) (v.said ∷ more) (ap (held_of party.name) passes.cases) whole
  acts from to said (of_another v same_said passes is apart later) =
      let x : HandedIn = (reference, content) in
      let then = acts v.after to same_said later in
      let same = by_another party.name v.before.cases v.after.cases (carried_out is.kept.ending) is.kept.connection.cases apart ∙ ap (held_of party.name) passes.cases in
      moved x (held_of party.name from.cases) (held_of party.name v.after.cases) (held_of party.name to.cases) same_said same then

pub acts_once : (finds : Content → Judgement → Type 0) (edition : List ℕ) → ActsOnce finds edition
acts_once finds edition office party token reference content request from to said read found role tried =
    let all = acts finds edition office party token reference content request read found role from to said tried in
    (at_most_one (reference, content) (held_of party.name from.cases) (held_of party.name to.cases) all.grows, all.accepted)

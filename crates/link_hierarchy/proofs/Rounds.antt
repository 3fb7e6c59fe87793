-- A round over the classes that are left.
use Rattle.std.proofs.Common.{◌≡◌, ℕ, ◌+◌, ◌<◌, ◌≤◌, Bool, true, false, cond, List, [], ◌∷◌, ◌++◌, length, length-append, drop, get_or, Option, refl, sym, ◌∙◌, ap, subst, arith, ◌⊎◌, inl, inr}
use Rattle.std.specs.Prelude.{IsTrue, is_some}
use Rattle.std.specs.Map.{lookup, keys_of}
use Rattle.std.specs.BTreeMap.{is_at}
use Rattle.std.proofs.lemmas.Map.Entries.{lookup_tail}
use Rattle.app_machine.specs.Sound.{name_order}
use Rattle.std.proofs.lemmas.List.{drop_all, append-nil}
use Rattle.vet_base.specs.Members.{In}
use Rattle.app_machine.specs.Names.{Name}
use Rattle.link_listing.specs.Orders.{named, has_name}
use Rattle.link_hierarchy.specs.Settled.{Entries, Outers, Settled, Turn, Covers, AreStuck, IsStuck, AllSettled, is_settled}
use Rattle.link_hierarchy.proofs.Settling.{known_settled}
use Rattle.std.proofs.lemmas.Bool.{cases_Bool}
use Rattle.vet_base.proofs.Texts.{tied_equal}
use Rattle.vet_base.proofs.Lists.{drop_read}
use Rattle.vet_base.proofs.Members.{in_front, in_back, in_either}

-- before the turn of the i-th name: what is left of those before it
pub record Round (classes : Entries) (names : List Name) (initial : Outers) (i : ℕ) (outers : Outers) (left : List Name) : Type 0 where
  pub settled : Settled classes outers
  pub covers : Covers classes outers (left ++ drop i names)
  pub within : i ≤ length names
  pub few : length left ≤ i
  pub stuck : length left ≡ i → (outers ≡ initial) × AreStuck classes initial left

pub round_begins : (classes : Entries) (names : List Name) (initial : Outers) → Settled classes initial → Covers classes initial names → Round classes names initial 0 initial []
round_begins classes names initial settled covers = record { settled = settled; covers = covers; within = omega arith; few = omega arith; stuck = λ e. (refl, record { each = λ n k. absurd k }) }

module _ (classes : Entries) (names : List Name) (initial : Outers) (i : ℕ) (outers new : Outers) (left : List Name) (name : Name) (lt : i < length names) (item : name ≡ get_or names i name) (round : Round classes names initial i outers left) where
  -- a class that was not settled before is left, is this one or comes behind it
  in_parts : (q : Name) → IsTrue (has_name classes q) → IsTrue (has_name outers q) ⊎ (In q left ⊎ In q (name ∷ drop (i + 1) names))
  in_parts q known = elim (round.covers.each q known) [
    | inl had ↦ inl had
    | inr k ↦ inr (in_either q left (name ∷ drop (i + 1) names) (subst (λ (ns : List Name). In q (left ++ ns)) (drop_read names i name lt item) k))
  ]

  round_goes_on : Turn classes outers new name false → Round classes names initial (i + 1) new left
  round_goes_on turn = record {
    settled = turn.settled;
    covers = record {
      each = λ q known. elim (in_parts q known) [
        | inl had ↦ inl (turn.stay q had)
        | inr (inl k) ↦ inr (in_front q left (drop (i + 1) names) k)
        | inr (inr (inl e)) ↦ inl (known_settled classes new q (subst (λ (n : Name). is_settled classes new n ≡ true) (sym e) (turn.done refl)) known)
        | inr (inr (inr k)) ↦ inr (in_back q left (drop (i + 1) names) k)
      ];
    };
    within = omega arith;
    few = let h : length left ≤ i = round.few in omega (arith, h);
    stuck = λ e. let h : length left ≤ i = round.few in absurd (omega (arith, h, e));
  }

  longer : length (left ++ name ∷ []) ≡ length left + 1
  longer = omega (arith, length-append left (name ∷ []))

  round_leaves : Turn classes outers new name true → Round classes names initial (i + 1) new (left ++ name ∷ [])
  round_leaves turn = record {
    settled = turn.settled;
    covers = record {
      each = λ q known. elim (in_parts q known) [
        | inl had ↦ inl (turn.stay q had)
        | inr (inl k) ↦ inr (in_front q (left ++ name ∷ []) (drop (i + 1) names) (in_front q left (name ∷ []) k))
        | inr (inr (inl e)) ↦ inr (in_front q (left ++ name ∷ []) (drop (i + 1) names) (in_back q left (name ∷ []) (inl e)))
        | inr (inr (inr k)) ↦ inr (in_back q (left ++ name ∷ []) (drop (i + 1) names) k)
      ];
    };
    within = omega arith;
    few = let h : length left ≤ i = round.few in omega (arith, h, longer);
    stuck = λ e. still (omega (arith, e, longer));
  }
    where
      stuck_each : AreStuck classes initial left → IsStuck classes initial name → (n : Name) → In n left ⊎ In n (name ∷ []) → IsStuck classes initial n
      stuck_each all one n (inl k) = all.each n k
      stuck_each all one n (inr (inl e)) = subst (IsStuck classes initial) (sym e) one
      stuck_each all one n (inr (inr k)) = absurd k

      still : length left ≡ i → (new ≡ initial) × AreStuck classes initial (left ++ name ∷ [])
      still e =
          let so_far = round.stuck e in
          let now = turn.stuck refl in
          let one : IsStuck classes initial name = subst (λ (o : Outers). IsStuck classes o name) so_far.0 now.1 in
          (now.0 ∙ so_far.0, record { each = λ n k. stuck_each so_far.1 one n (in_either n left (name ∷ []) k) })

  -- the turn of the i-th name
  pub round_turns : (waits : Bool) (left_then : List Name) → left_then ≡ cond waits (left ++ name ∷ []) left → Turn classes outers new name waits → Round classes names initial (i + 1) new left_then
  round_turns true left_then is turn = subst (λ (ns : List Name). Round classes names initial (i + 1) new ns) (sym is) (round_leaves turn)
  round_turns false left_then is turn = subst (λ (ns : List Name). Round classes names initial (i + 1) new ns) (sym is) (round_goes_on turn)

module _ (classes : Entries) (names : List Name) (initial : Outers) (i : ℕ) (outers : Outers) (left : List Name) (past : length names ≤ i) (round : Round classes names initial i outers left) where
  pub covers_left : Covers classes outers left
  covers_left =
      let nothing : drop i names ≡ [] = drop_all i names past in
      subst (λ (ns : List Name). Covers classes outers ns) (ap (λ (ns : List Name). left ++ ns) nothing ∙ append-nil left) round.covers

  pub fewer_left : length left ≤ length names
  fewer_left = let h : length left ≤ i = round.few in let k : i ≤ length names = round.within in omega (arith, h, k)

  pub left_stuck : length left ≡ length names → AreStuck classes outers left
  left_stuck e =
      let k : i ≤ length names = round.within in
      let so_far = round.stuck (omega (arith, e, past, k)) in
      subst (λ (o : Outers). AreStuck classes o left) (sym so_far.0) so_far.1

-- what stands among the keys of what a look-up finds
in_keys : {X : Type 0} (entries : List (Name × X)) (name : Name) → IsTrue (is_some (lookup (is_at (name_order name)) entries)) → In name (keys_of entries)
in_keys [] name known = absurd cc
in_keys (e ∷ es) name known = elim (cases_Bool (is_at (name_order name) e.0)) [
  | inl same ↦ inl (tied_equal name e.0 same)
  | inr other ↦ inr (in_keys es name (ap (λ (o : Option _). is_some o) (sym (lookup_tail (is_at (name_order name)) e es other)) ∙ known))
]

-- at first every class is left
pub all_left : (classes : Entries) (outers : Outers) (names : List Name) → names ≡ keys_of classes → Covers classes outers names
unfolding named
all_left classes outers names is = record { each = λ name known. inr (subst (λ (ns : List Name). In name ns) (sym is) (in_keys classes name known)) }

-- where none is left every class is settled
pub none_left : (classes : Entries) (outers : Outers) (left : List Name) → length left ≡ 0 → Settled classes outers → Covers classes outers left → AllSettled classes outers
none_left classes outers [] none settled covers = record { settled = settled; all = λ name known. elim (covers.each name known) [ inl had ↦ had | inr k ↦ absurd k ] }
none_left classes outers (x ∷ xs) none settled covers = absurd (omega (arith, none))

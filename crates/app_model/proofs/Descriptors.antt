-- Descriptors compared part by part.
use Rattle.std.proofs.Common.{◌≡◌, ◌≢◌, ℕ, ◌≤◌, true, false, List, [], ◌∷◌, ◌++◌, length, take, drop, append_assoc, refl, sym, ◌∙◌, ap, arith, codes, length-take, append-nil, take-append-drop}
use Rattle.std.specs.declared.cmp.Ordering.{Ordering}
use Rattle.std.specs.declared.cmp.Ordering.TheVariants.{Less, Equal, Greater}
use Rattle.std.specs.Ordering.{nat_cmp, ordering_then}
use Rattle.std.specs.Prelude.{◌==◌}
use Rattle.std.proofs.lemmas.Bool.Decides.{nat_tests}
use Rattle.std.proofs.lemmas.Cmp.{nat_list_cmp_total, tied_itself}
use Rattle.app_machine.specs.declared.call.Proto.{Proto}
use Rattle.app_machine.specs.Names.{Name, joined, descriptor_of}
use Rattle.app_machine.specs.Sound.{name_order}
use Rattle.app_model.specs.DescriptorText.{BeginAlike, Differ}
use Rattle.vet_base.proofs.Texts.{tied_same, same_equal}
use Rattle.vet_base.proofs.Orders.{then_assoc, first_decides}

-- fronts of one length decide first
pub fronts_first : (a b x y : Name) → length a ≡ length b → name_order (a ++ x) (b ++ y) ≡ ordering_then (name_order a b) (name_order x y)
fronts_first [] [] x y same = refl
fronts_first [] (k ∷ b) x y same = absurd (omega arith)
fronts_first (j ∷ a) [] x y same = absurd (omega arith)
fronts_first (j ∷ a) (k ∷ b) x y same = ap (λ o. ordering_then (nat_cmp j k) o) (fronts_first a b x y (omega arith)) ∙ then_assoc (nat_cmp j k) (name_order a b) (name_order x y)

-- what both begin with decides nothing
pub behind : (front a b : Name) → name_order (front ++ a) (front ++ b) ≡ name_order a b
behind front a b = fronts_first front front a b refl ∙ ap (λ o. ordering_then o (name_order a b)) (tied_itself nat_list_cmp_total front)

pub alike_order : (a b x y : Name) → BeginAlike a b x y → name_order a b ≡ name_order x y
alike_order a b x y alike = rw (alike.first, alike.second) (behind alike.front x y)

pub alike_begins : (a b : Name) → BeginAlike a b a b
alike_begins a b = record { front = []; first = refl; second = refl }

pub alike_further : (a b x y v w : Name) → BeginAlike a b x y → BeginAlike x y v w → BeginAlike a b v w
alike_further a b x y v w first then = record {
  front = first.front ++ then.front;
  first = first.first ∙ (ap (λ z. first.front ++ z) then.first ∙ sym (append_assoc first.front then.front v));
  second = first.second ∙ (ap (λ z. first.front ++ z) then.second ∙ sym (append_assoc first.front then.front w));
}

-- also with more behind the first
pub alike_part : (part front left rest more : Name) → BeginAlike part front left rest → BeginAlike (part ++ more) front (left ++ more) rest
alike_part part front left rest more alike = record {
  front = alike.front;
  first = ap (λ z. z ++ more) alike.first ∙ append_assoc alike.front left more;
  second = alike.second;
}

-- the texts have the same first so many bytes
pub alike_taken : (n : ℕ) (a b : Name) → name_order (take n a) (take n b) ≡ Equal → BeginAlike a b (drop n a) (drop n b)
alike_taken n a b ties = record {
  front = take n a;
  first = sym (take-append-drop n a);
  second = sym (take-append-drop n b) ∙ ap (λ z. z ++ drop n b) (sym (same_equal (take n a) (take n b) (tied_same (take n a) (take n b) ties)));
}

-- the texts differ in the first so many bytes
pub differ_taken : (n : ℕ) (a b : Name) → n ≤ length a → n ≤ length b → name_order (take n a) (take n b) ≢ Equal → Differ a b (name_order (take n a) (take n b))
differ_taken n a b in_a in_b apart more_a more_b =
    let lengths : length (take n a) ≡ length (take n b) = simp length-take (omega arith) in
    let split_a : a ++ more_a ≡ take n a ++ (drop n a ++ more_a) = ap (λ z. z ++ more_a) (sym (take-append-drop n a)) ∙ append_assoc (take n a) (drop n a) more_a in
    let split_b : b ++ more_b ≡ take n b ++ (drop n b ++ more_b) = ap (λ z. z ++ more_b) (sym (take-append-drop n b)) ∙ append_assoc (take n b) (drop n b) more_b in
    ap (λ z. name_order z (b ++ more_b)) split_a ∙ (ap (λ z. name_order (take n a ++ (drop n a ++ more_a)) z) split_b
    ∙ (fronts_first (take n a) (take n b) (drop n a ++ more_a) (drop n b ++ more_b) lengths ∙ first_decides (name_order (take n a) (take n b)) (name_order (drop n a ++ more_a) (drop n b ++ more_b)) apart))

joined_append : (xs ys : List Name) → joined (xs ++ ys) ≡ joined xs ++ joined ys
joined_append [] ys = refl
joined_append (x ∷ xs) ys = ap (λ z. x ++ z) (joined_append xs ys) ∙ sym (append_assoc x (joined xs) (joined ys))

-- a descriptor is the text of its parts
pub descriptor_parts : (p : Proto) → codes "(" ++ joined (p.params ++ codes ")" ∷ p.ret ∷ []) ≡ descriptor_of p
unfolding descriptor_of
descriptor_parts p =
    let written : codes "(" ++ (joined p.params ++ (codes ")" ++ p.ret)) ≡ descriptor_of p = grind (arith, append_assoc) in
    ap (λ z. codes "(" ++ z) (joined_append p.params (codes ")" ∷ p.ret ∷ []) ∙ ap (λ z. joined p.params ++ (codes ")" ++ z)) (append-nil p.ret)) ∙ written

no_bytes : (a : Name) → (length a == 0) ≡ true → a ≡ []
no_bytes [] empty = refl
no_bytes (k ∷ a) empty = absurd (grind (arith, nat_tests))

some_bytes : (a more : Name) → (length a == 0) ≡ false → (name_order [] (a ++ more) ≡ Less) × (name_order (a ++ more) [] ≡ Greater)
some_bytes [] more filled = absurd (grind (arith, nat_tests))
some_bytes (k ∷ a) more filled = (refl, refl)

-- an empty part gives way to the next one
pub next_text : (part next : Name) (parts later : List Name) → (length part == 0) ≡ true → parts ≡ next ∷ later → part ++ joined parts ≡ next ++ joined later
next_text part next parts later empty are = ap (λ z. z ++ joined parts) (no_bytes part empty) ∙ ap joined are

pub no_text : (part : Name) (parts : List Name) → (length part == 0) ≡ true → parts ≡ [] → part ++ joined parts ≡ []
no_text part parts empty are = ap (λ z. z ++ joined parts) (no_bytes part empty) ∙ ap joined are

-- where the first ends first, it comes first
pub ends_first : (a b left left_b more : Name) → BeginAlike a b left left_b → left ≡ [] → (length left_b == 0) ≡ false → name_order a (b ++ more) ≡ Less
ends_first a b left left_b more alike empty filled =
    ap (λ z. name_order z (b ++ more)) alike.first ∙ (ap (λ z. name_order (alike.front ++ left) z) (ap (λ z. z ++ more) alike.second ∙ append_assoc alike.front left_b more)
    ∙ (behind alike.front left (left_b ++ more) ∙ (ap (λ z. name_order z (left_b ++ more)) empty ∙ (some_bytes left_b more filled).0)))

-- where what is left differs, the whole does
pub differs_on : (a b part rest left_b : Name) (order : Ordering) (more : Name) → BeginAlike a b (part ++ rest) left_b → Differ part left_b order → name_order a (b ++ more) ≡ order
differs_on a b part rest left_b order more alike differ =
    ap (λ z. name_order z (b ++ more)) alike.first ∙ (ap (λ z. name_order (alike.front ++ (part ++ rest)) z) (ap (λ z. z ++ more) alike.second ∙ append_assoc alike.front left_b more)
    ∙ (behind alike.front (part ++ rest) (left_b ++ more) ∙ differ rest more))

-- the second is a front of the first
pub is_front : (a b left left_b : Name) → BeginAlike a b left left_b → (length left_b == 0) ≡ true → a ≡ b ++ left
is_front a b left left_b alike empty =
    alike.first ∙ ap (λ z. z ++ left) (sym (append-nil alike.front) ∙ (ap (λ z. alike.front ++ z) (sym (no_bytes left_b empty)) ∙ sym alike.second))

pub above_empty : (part more : Name) → (length part == 0) ≡ false → name_order (part ++ more) [] ≡ Greater
above_empty part more filled = (some_bytes part more filled).1

pub front_end : (a front left : Name) → a ≡ front ++ left → name_order a front ≡ name_order left []
front_end a front left is = ap (λ z. name_order z front) is ∙ (ap (λ z. name_order (front ++ left) z) (sym (append-nil front)) ∙ behind front left [])

pub front_next : (a part left next : Name) (parts later : List Name) → a ≡ part ++ left → parts ≡ next ∷ later → name_order a (part ++ joined parts) ≡ name_order left (next ++ joined later)
front_next a part left next parts later is are = ap (λ z. name_order z (part ++ joined parts)) is ∙ (behind part left (joined parts) ∙ ap (λ z. name_order left (joined z)) are)

pub front_last : (a part left : Name) (parts : List Name) → a ≡ part ++ left → parts ≡ [] → name_order a (part ++ joined parts) ≡ name_order left []
front_last a part left parts is are = ap (λ z. name_order z (part ++ joined parts)) is ∙ (behind part left (joined parts) ∙ ap (λ z. name_order left (joined z)) are)

-- Storing a file in a list of files.
use Rattle.std.proofs.Common.{◌≡◌, ◌≢◌, ℕ, suc, ◌+◌, ◌<◌, ◌≤◌, Bool, true, false, cond, ltb, List, [], ◌∷◌, ◌++◌, length, Option, Some, None, Vec, get_or, set, nat_eq, refl, sym, ap, ◌∙◌, arith, not, subst}
use Rattle.std.proofs.lemmas.Bool.{ltb-true, ltb-false}
use Rattle.std.proofs.lemmas.Option.{cond_some}
use Rattle.vet_base.proofs.Options.{cond_none}
use Rattle.std.specs.List.{position, position_or_len}
use Rattle.std.specs.Cmp.Lexicographic.{pointwise, same_text, nat_list_eq_equiv}
use Rattle.std.specs.declared.alloc.Global.{Global}
use Rattle.vet_base.specs.MemoryFiles.{file_in, has_name}
use Rattle.vet_base.specs.Outside.{Puts}

abbrev File : Type 0
File = List ℕ × Vec ℕ Global

-- two texts that differ do not pass the test
apart : (a b : List ℕ) → a ≢ b → pointwise nat_eq a b ≡ false
apart a b ne = differ (pointwise nat_eq a b) refl
  where
    differ : (t : Bool) → t ≡ pointwise nat_eq a b → pointwise nat_eq a b ≡ false
    differ true e = absurd (ne (same_text a b e))
    differ false e = sym e

-- the place of the file of this name, by cases on the first file's test
abbrev place : List File → List ℕ → ℕ
place files name = position_or_len (has_name name) files

-- the first file has the name, and gets the bytes
at_head : (file : File) (files : List File) (name : List ℕ) (v : Vec ℕ Global) → true ≡ pointwise nat_eq file.0 name
    → Puts (file_in (file ∷ files)) (file_in ((file.0, v) ∷ files)) name (Some v.items)
at_head file files name v is = record {
  changed = rw (sym is) refl;
  others = λ q ne. let known : file.0 ≡ name = same_text file.0 name is in let differs : pointwise nat_eq file.0 q ≡ false = apart file.0 q (λ e. ne (sym e ∙ known)) in rw differs refl;
}

-- the first file has another name, and is passed by
behind : (file : File) (files new : List File) (name : List ℕ) (bytes : Option (List ℕ)) → pointwise nat_eq file.0 name ≡ false
    → Puts (file_in files) (file_in new) name bytes → Puts (file_in (file ∷ files)) (file_in (file ∷ new)) name bytes
behind file files new name bytes differs puts = record { changed = rw differs puts.changed; others = λ q ne. ap (λ (z : Option (List ℕ)). cond (pointwise nat_eq file.0 q) (Some file.1.items) z) (puts.others q ne) }

abbrev IsReplaced : List File → List ℕ → File → Vec ℕ Global → ℕ → Type 0
IsReplaced files name entry v i = Puts (file_in files) (file_in (set files i (entry.0, v))) name (Some v.items)

-- by cases on the test of the first file
replaced_behind : (file : File) (files : List File) (name : List ℕ) (entry : File) (v : Vec ℕ Global) (t : Bool) → t ≡ pointwise nat_eq file.0 name
    → (place files name < length files → entry ≡ get_or files (place files name) entry → IsReplaced files name entry v (place files name))
    → cond (not t) (1 + place files name) 0 < length (file ∷ files)
    → entry ≡ get_or (file ∷ files) (cond (not t) (1 + place files name) 0) entry
    → IsReplaced (file ∷ files) name entry v (cond (not t) (1 + place files name) 0)
replaced_behind file files name entry v true e later l i = let here : entry ≡ file = i in rw here (at_head file files name v e)
replaced_behind file files name entry v false e later l i =
    let next : 1 + place files name ≡ suc (place files name) = omega arith in
    let there : entry ≡ get_or files (place files name) entry = (rw next at i) in
    rw next (behind file files (set files (place files name) (entry.0, v)) name (Some v.items) (sym e) (later (omega arith) there))

replaced_at : (files : List File) (name : List ℕ) (entry : File) (v : Vec ℕ Global)
    → place files name < length files → entry ≡ get_or files (place files name) entry → IsReplaced files name entry v (place files name)
replaced_at [] name entry v lt is = absurd (omega arith)
replaced_at (file ∷ files) name entry v lt is =
    replaced_behind file files name entry v (pointwise nat_eq file.0 name) refl (replaced_at files name entry v) lt is

pub replaced : (files : List File) (name : List ℕ) (i : ℕ) (entry : File) (v : Vec ℕ Global)
    → position (has_name name) files ≡ Some i → entry ≡ get_or files i entry → Puts (file_in files) (file_in (set files i (entry.0, v))) name (Some v.items)
replaced files name i entry v at is =
    let h = cond_some (ltb (place files name) (length files)) (place files name) i at in
    let within : place files name < length files = ltb-true _ _ h.0 in
    let P : ℕ → Type 0 = λ j. entry ≡ get_or files j entry in
    let Q : ℕ → Type 0 = λ j. Puts (file_in files) (file_in (set files j (entry.0, v))) name (Some v.items) in
    subst Q h.1 (replaced_at files name entry v within (subst P (sym h.1) is))

abbrev IsAppended : List File → List ℕ → Vec ℕ Global → Type 0
IsAppended files name v = Puts (file_in files) (file_in (files ++ (name, v) ∷ [])) name (Some v.items)

appended_behind : (file : File) (files : List File) (name : List ℕ) (v : Vec ℕ Global) (t : Bool) → t ≡ pointwise nat_eq file.0 name
    → (length files ≤ place files name → IsAppended files name v)
    → length (file ∷ files) ≤ cond (not t) (1 + place files name) 0 → IsAppended (file ∷ files) name v
appended_behind file files name v true e later l = absurd (omega arith)
appended_behind file files name v false e later l = behind file files (files ++ (name, v) ∷ []) name (Some v.items) (sym e) (later (omega arith))

appended_at : (files : List File) (name : List ℕ) (v : Vec ℕ Global) → length files ≤ place files name → IsAppended files name v
appended_at [] name v le = record {
  changed = let same : pointwise nat_eq name name ≡ true = nat_list_eq_equiv.refl name in rw same refl;
  others = λ q ne. let differs : pointwise nat_eq name q ≡ false = apart name q (λ e. ne (sym e)) in rw differs refl;
}
appended_at (file ∷ files) name v le = appended_behind file files name v (pointwise nat_eq file.0 name) refl (appended_at files name v) le

pub appended : (files : List File) (name : List ℕ) (v : Vec ℕ Global)
    → position (has_name name) files ≡ None → Puts (file_in files) (file_in (files ++ (name, v) ∷ [])) name (Some v.items)
appended files name v at =
    let h = cond_none (ltb (place files name) (length files)) (place files name) None at in
    appended_at files name v (ltb-false _ _ h.0)

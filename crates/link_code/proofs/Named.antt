-- What a name stands for: what is needed, a key of the app, a static of the list, a call with the registers that it takes.
use Rattle.std.proofs.Common.{◌≡◌, ℕ, ◌<◌, List, length, Option, Some, None, IsTrue, refl, sym}
use Rattle.vet_base.specs.declared.key_id.KeyId.{KeyId}
use Rattle.dex_tables.specs.declared.dex.Dex.{Dex}
use Rattle.dex_code.specs.declared.insn.Insn.{Insn}
use Rattle.dex_code.specs.declared.names.Naming.{Naming}
use Rattle.dex_code.specs.declared.names.Naming.TheVariants as naming
use Rattle.dex_code.specs.Acts.{arguments_of, call_kind_of, naming_of, suits}
use Rattle.dex_code.specs.Insns.{kind_of}
use Rattle.dex_code.specs.CodeLaws.{NamesKey, NamesStatic, NamesCall}
use Rattle.app_machine.specs.declared.app.App.{App}
use Rattle.app_machine.specs.declared.app.Class.{Class}
use Rattle.app_machine.specs.declared.app.Key.{Key}
use Rattle.vet_base.specs.Members.{first_given, first_index}
use Rattle.app_machine.specs.Lookups.{elem_key, is_field, instance_key, up}
use Rattle.link_listing.specs.Texts.{Triple, same_triple, field_of, method_of}
use Rattle.link_listing.specs.MemberRows.{Fields}
use Rattle.link_code.specs.Named.{key_of, named_of}
use Rattle.link_code.specs.Statics.{number_among, number_of, resolved}
use Rattle.link_code.specs.StaticList.{static_among, static_index}
use Rattle.link_code.specs.Code.{taken_by, call_takes, call_fits}
use Rattle.vet_base.proofs.Firsts.{index_below, given_below}
use Rattle.vet_base.proofs.Options.{unwrap_below}
use Rattle.std.proofs.lemmas.Bool.{eqb-true}

key_or_elem : (o : Option ℕ) (n : ℕ) → 0 < n → ((j : ℕ) → o ≡ Some j → j < n) → (elim o as (λ (o : Option ℕ). KeyId) [ Some k ↦ record { 0 = k } | None ↦ elem_key ]).0 < n
key_or_elem (Some k) n some below = below k refl
key_or_elem None n some below = some

key_below : (app : App) (dex : Dex) (i : ℕ) → 0 < length app.keys → (key_of app dex i).0 < length app.keys
unfolding key_of instance_key
key_below app dex i some =
    let at : Triple = field_of dex i in
    key_or_elem (first_given (λ (c : Class). first_index (λ (k : Key). is_field k c.name at.1 at.2) app.keys) (up app at.0)) (length app.keys) some
    (given_below (λ (c : Class). first_index (λ (k : Key). is_field k c.name at.1 at.2) app.keys) (length app.keys) (λ c j e. index_below (λ (k : Key). is_field k c.name at.1 at.2) app.keys j e) (up app at.0))

number_below : (app : App) (fields : Fields) (statics : List Triple) (dex : Dex) (i : ℕ) → 0 < length statics → number_of app fields statics dex i < length statics
unfolding number_of number_among
number_below app fields statics dex i some =
    let at : Triple = resolved app fields (field_of dex i) in
    unwrap_below (first_index (λ (s : Triple). same_triple s at) statics) (length statics) some (index_below (λ (s : Triple). same_triple s at) statics)

module _ (app : App) (fields : Fields) (statics : List Triple) (dex : Dex) where
  pub suited : (needed : Naming) → IsTrue (suits needed (named_of app fields statics dex needed))
  unfolding named_of
  suited naming.Nothing = refl
  suited (naming.Class i) = refl
  suited (naming.Method i) = refl
  suited (naming.InstanceField i) = refl
  suited (naming.StaticField i) = refl

  pub names_key : (needed : Naming) → 0 < length app.keys → NamesKey (named_of app fields statics dex needed) (length app.keys)
  unfolding named_of
  names_key (naming.InstanceField i) some = key_below app dex i some
  names_key naming.Nothing some = tt
  names_key needed some = tt

  static_named : (needed : Naming) → ((j : ℕ) → static_among needed ≡ Some j → 0 < length statics) → NamesStatic (named_of app fields statics dex needed) (length statics)
  unfolding named_of
  static_named (naming.StaticField i) some = number_below app fields statics dex i (some i refl)
  static_named naming.Nothing some = tt
  static_named needed some = tt

  pub names_static : (insn : Insn) → ((j : ℕ) → static_index insn ≡ Some j → 0 < length statics) → NamesStatic (named_of app fields statics dex (naming_of insn)) (length statics)
  unfolding static_index
  names_static insn some = static_named (naming_of insn) some

  call_named : (insn : Insn) (needed : Naming) → IsTrue (call_takes dex (call_kind_of (kind_of insn)) (length (arguments_of insn)) needed) → NamesCall insn (named_of app fields statics dex needed)
  unfolding named_of method_of
  call_named insn (naming.Method i) h = sym (eqb-true (taken_by dex (call_kind_of (kind_of insn)) i) (length (arguments_of insn)) h)
  call_named insn naming.Nothing h = tt
  call_named insn needed h = tt

  pub names_call : (insn : Insn) → IsTrue (call_fits dex insn) → NamesCall insn (named_of app fields statics dex (naming_of insn))
  unfolding call_fits
  names_call insn h = call_named insn (naming_of insn) h

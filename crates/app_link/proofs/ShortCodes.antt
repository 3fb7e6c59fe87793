-- The codes of sound files are short.
use Rattle.std.proofs.Common.{◌≡◌, Bool, true, false, List, Option, Some, None, refl, ap, subst}
use Rattle.std.specs.Prelude.{All, slice_get}
use Rattle.dex_tables.specs.declared.dex.Dex.{Dex}
use Rattle.dex_tables.specs.declared.dex.ClassDef.{ClassDef}
use Rattle.dex_tables.specs.declared.dex.Body.{Body}
use Rattle.dex_tables.specs.declared.dex.RawCode.{RawCode}
use Rattle.dex_reader.specs.Sound.{SoundDex, IsSoundClass, IsSoundBody, IfCode, rows_of}
use Rattle.link_listing.specs.declared.members.Place.{Place}
use Rattle.link_code.specs.Code.{ShortCode, ShortCodes, code_at, bodies_of}
use Rattle.vet_base.proofs.Lists.{All-slice_get}

bodies_sound : (dex : Dex) (def : ClassDef) (is_virtual : Bool) → IsSoundClass (rows_of dex) def → All (IsSoundBody (rows_of dex)) (bodies_of def is_virtual)
bodies_sound dex def true sound = sound.virtuals
bodies_sound dex def false sound = sound.directs

short_code : (dex : Dex) (o : Option RawCode) (code : RawCode) → IfCode (rows_of dex).types o → o ≡ Some code → ShortCode code
short_code dex None code sound e = absurd cc
short_code dex (Some c) code sound e = let same : c ≡ code = cc in subst ShortCode same (record { units = sound.units; tries = sound.tries })

module _ (dexes : List Dex) (all : All SoundDex dexes) (place : Place) (file : Dex) (code : RawCode) where
  -- by what is found at each step to the place
  from_code : (dex : Dex) (o : Option RawCode) → IfCode (rows_of dex).types o → elim o as (λ (o : Option RawCode). Option (Dex × RawCode)) [ None ↦ None | Some c ↦ Some (dex, c) ] ≡ Some (file, code) → ShortCode code
  from_code dex None sound e = absurd cc
  from_code dex (Some c) sound e = let same : (dex, c) ≡ (file, code) = cc in short_code dex (Some c) code sound (ap (λ (p : Dex × RawCode). Some p.1) same)

  from_body : (dex : Dex) (o : Option Body) → ((b : Body) → o ≡ Some b → IsSoundBody (rows_of dex) b) → elim o as (λ (o : Option Body). Option (Dex × RawCode)) [ None ↦ None | Some body ↦ elim body.code [ None ↦ None | Some c ↦ Some (dex, c) ] ] ≡ Some (file, code) → ShortCode code
  from_body dex None sound e = absurd cc
  from_body dex (Some body) sound e = from_code dex body.code (sound body refl).code e

  from_class : (dex : Dex) (o : Option ClassDef) → ((d : ClassDef) → o ≡ Some d → IsSoundClass (rows_of dex) d)
      → elim o as (λ (o : Option ClassDef). Option (Dex × RawCode)) [ None ↦ None | Some def ↦ elim (slice_get (bodies_of def place.is_virtual) place.body) [ None ↦ None | Some body ↦ elim body.code [ None ↦ None | Some c ↦ Some (dex, c) ] ] ] ≡ Some (file, code) → ShortCode code
  from_class dex None sound e = absurd cc
  from_class dex (Some def) sound e = from_body dex (slice_get (bodies_of def place.is_virtual) place.body) (λ b is. All-slice_get (IsSoundBody (rows_of dex)) (bodies_of def place.is_virtual) place.body b (bodies_sound dex def place.is_virtual (sound def refl)) is) e

  from_dex : (o : Option Dex) → ((d : Dex) → o ≡ Some d → SoundDex d)
      → elim o as (λ (o : Option Dex). Option (Dex × RawCode)) [ None ↦ None | Some dex ↦ elim (slice_get dex.classes place.class) [ None ↦ None | Some def ↦ elim (slice_get (bodies_of def place.is_virtual) place.body) [ None ↦ None | Some body ↦ elim body.code [ None ↦ None | Some c ↦ Some (dex, c) ] ] ] ] ≡ Some (file, code) → ShortCode code
  from_dex None sound e = absurd cc
  from_dex (Some dex) sound e = from_class dex (slice_get dex.classes place.class) (λ d is. All-slice_get (IsSoundClass (rows_of dex)) dex.classes place.class d (sound dex refl).classes is) e

  at_place : code_at dexes place ≡ Some (file, code) → ShortCode code
  unfolding code_at
  at_place e = from_dex (slice_get dexes place.dex) (λ d is. All-slice_get SoundDex dexes place.dex d all is) e

pub short_codes : (dexes : List Dex) → All SoundDex dexes → ShortCodes dexes
short_codes dexes all = record { short = λ place dex code e. at_place dexes all place dex code e }

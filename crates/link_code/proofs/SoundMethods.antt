-- A method whose code was decoded and tested is sound.
use Rattle.std.proofs.Common.{◌≡◌, ℕ, ◌<◌, ◌≤◌, Bool, true, false, cond, List, [], ◌∷◌, ◌++◌, length, Option, Some, None, slice_get, nat_cmp, refl, sym, ap, subst, ◌∙◌}
use Rattle.dex_tables.specs.declared.dex.Dex.{Dex}
use Rattle.dex_tables.specs.declared.dex.RawTry.{RawTry}
use Rattle.dex_code.specs.declared.names.Named.{Named}
use Rattle.dex_code.specs.Acts.{act_of, naming_of}
use Rattle.dex_code.specs.CodeLaws.{starts_of, BeginsAtZero, AreSound, CodeLaws}
use Rattle.dex_code.specs.Insns.{is_payload}
use Rattle.dex_code.specs.Lines.{Line}
use Rattle.app_machine.specs.declared.app.App.{App}
use Rattle.app_machine.specs.declared.method.Method.{Method}
use Rattle.app_machine.specs.declared.method.Step.{Step}
use Rattle.app_machine.specs.declared.method.Act.{Act}
use Rattle.vet_base.specs.Members.{In}
use Rattle.vet_base.specs.Ascending.{Ascends}
use Rattle.app_machine.specs.Sound.{SoundMethod, SoundCode, SoundStep, BeginAtZero, AllBelow, keys_of, statics_of, TakesItsRegisters, registers_of, taken}
use Rattle.link_code.specs.declared.coded.Coded.{Coded}
use Rattle.link_listing.specs.Texts.{Triple}
use Rattle.link_listing.specs.MemberRows.{Fields}
use Rattle.link_code.specs.Code.{counts_of}
use Rattle.link_code.specs.StaticList.{AreStatics, static_index}
use Rattle.link_code.specs.Lift.{step_of, step_if, steps_of}
use Rattle.link_code.specs.Named.{named_of}
use Rattle.link_code.specs.Methods.{steps_in, lifted}
use Rattle.link_code.specs.Tested.{HasCode, IsTested}
use Rattle.link_code.proofs.Named.{names_key, names_static, names_call}
use Rattle.link_code.proofs.StepsFlow.{pcs, pcs_are, steps_ascend, covered_step, Stems, stem_of, line_of, Stem, step_goes_on, step_catches}
use Rattle.link_code.proofs.StepsStatics.{some_statics}

first_if : (b : Bool) (step : Step) (steps : List Step) → b ≡ false → step.pc ≡ 0 → BeginAtZero (cond b [] (step ∷ []) ++ steps)
first_if true step steps none e = absurd cc
first_if false step steps none e = e

module _ (app : App) (fields : Fields) (statics : List Triple) (dex : Dex) (tries : List RawTry) (lines : List Line) where
  -- no payload stands first
  first_step : (rest : List Line) → BeginsAtZero rest → BeginAtZero (steps_of app fields statics dex tries lines rest)
  unfolding steps_of step_if step_of
  first_step [] begins = absurd begins
  first_step (line ∷ rest) begins =
      first_if (is_payload line.1) (covered_step app fields statics dex tries lines line rest) (steps_of app fields statics dex tries lines rest) begins.1 begins.0

  act_is : (step : Step) (stem : Stems app fields statics dex tries lines step) → step.act ≡ act_of stem.line.1 (named_of app fields statics dex (naming_of stem.line.1))
  unfolding step_of
  act_is step stem = ap (λ (s : Step). s.act) stem.is

  no_steps : (rest : List Line) → rest ≡ [] → steps_of app fields statics dex tries lines rest ≡ []
  unfolding steps_of
  no_steps rest e = ap (λ (ls : List Line). steps_of app fields statics dex tries lines ls) e

module _ (laws : CodeLaws) (app : App) (fields : Fields) (statics : List Triple) (methods : List Method) (dexes : List Dex) (coded : List Coded)
    (some_key : 0 < length app.keys) (are : AreStatics app fields dexes coded statics) where
  abbrev done : App
  done = record app { statics = statics; methods = methods }

  abbrev method : Coded → Method
  method c = lifted app fields statics dexes c

  native_steps : (c : Coded) → c.decoded.lines ≡ [] → (method c).steps ≡ []
  unfolding lifted steps_in
  native_steps c e = by_file (slice_get dexes c.dex)
    where
      by_file : (o : Option Dex) → elim o as (λ (o : Option Dex). List Step) [ None ↦ [] | Some dex ↦ steps_of app fields statics dex c.decoded.tries c.decoded.lines c.decoded.lines ] ≡ []
      by_file None = refl
      by_file (Some dex) = no_steps app fields statics dex c.decoded.tries c.decoded.lines c.decoded.lines e

  module _ (c : Coded) (k : In c coded) (has : HasCode dexes c) where
    sound : AreSound has.code c.decoded
    sound = laws.lines has.code (counts_of has.dex) c.decoded has.is

    abbrev steps : List Step
    steps = steps_of app fields statics has.dex c.decoded.tries c.decoded.lines c.decoded.lines

    steps_are : (method c).steps ≡ steps
    unfolding lifted steps_in
    steps_are = ap (λ (o : Option Dex). elim o as (λ (o : Option Dex). List Step) [ None ↦ [] | Some dex ↦ steps_of app fields statics dex c.decoded.tries c.decoded.lines c.decoded.lines ]) has.file

    pcs_there : (pc : ℕ) → In pc (starts_of c.decoded.lines) → In pc (pcs (method c).steps)
    pcs_there pc j = subst (λ (ns : List ℕ). In pc ns) (sym (ap pcs steps_are ∙ pcs_are app fields statics has.dex c.decoded.tries c.decoded.lines c.decoded.lines)) j

    registers_are : (method c).registers ≡ has.code.registers
    unfolding lifted
    registers_are = has.registers

    ins_are : (method c).ins ≡ has.code.ins
    unfolding lifted
    ins_are = has.ins

    sound_from : (step : Step) → Stem app fields statics has.dex has.code c.decoded sound step → SoundStep done (method c) step
    sound_from step stem =
        let line : Line = stem.line in
        let there : In line c.decoded.lines = line_of app fields statics has.dex c.decoded.tries c.decoded.lines step stem in
        let name : Named = named_of app fields statics has.dex (naming_of line.1) in
        let act : step.act ≡ act_of line.1 name = act_is app fields statics has.dex c.decoded.tries c.decoded.lines step stem in
        let some : (j : ℕ) → static_index line.1 ≡ Some j → 0 < length statics = λ j e. some_statics app fields dexes coded statics are c has.dex line j k has.file there e in
        record {
          next = λ pc j. pcs_there pc (step_goes_on app fields statics has.dex has.code c.decoded sound step stem pc j);
          catches = λ pc j. pcs_there pc (step_catches app fields statics has.dex has.code c.decoded sound step stem pc j);
          registers = λ r j. subst (λ (n : ℕ). r < n) (sym registers_are) (sound.registers line there name r (subst (λ (a : Act). In r (registers_of a)) act j));
          keys = subst (λ (a : Act). AllBelow (length app.keys) (keys_of a)) (sym act) (laws.keys line.1 name (length app.keys) some_key (names_key app fields statics has.dex (naming_of line.1) some_key));
          statics = subst (λ (a : Act). AllBelow (length statics) (statics_of a)) (sym act) (laws.statics line.1 name (length statics) (names_static app fields statics has.dex line.1 some));
          call = subst TakesItsRegisters (sym act) (laws.call line.1 name (names_call app fields statics has.dex line.1 (has.calls line there)));
        }

    sound_step : (step : Step) → In step (method c).steps → SoundStep done (method c) step
    sound_step step j =
        sound_from step (stem_of app fields statics has.dex c.decoded.tries c.decoded.lines [] c.decoded.lines refl step (subst (λ (ss : List Step). In step ss) steps_are j))

    takes : (method c).ins ≡ taken (method c).is_static (method c).at.proto
    unfolding lifted
    takes = has.takes

    sound_code : (method c).registers ≤ 65535 → SoundCode done (method c)
    sound_code narrow = record {
      registers = narrow;
      ins = takes;
      within = rw (ins_are, registers_are) sound.ins;
      order = subst (λ (ss : List Step). Ascends (λ (a b : Step). nat_cmp a.pc b.pc) ss) (sym steps_are) (steps_ascend app fields statics has.dex c.decoded.tries c.decoded.lines c.decoded.lines sound.order);
      first = subst BeginAtZero (sym steps_are) (first_step app fields statics has.dex c.decoded.tries c.decoded.lines c.decoded.lines sound.first);
      steps = sound_step;
    }

  native_is : (c : Coded) → (method c).is_native ≡ c.is_native
  unfolding lifted
  native_is c = refl

  -- a method that was tested is sound
  pub sound_method : (c : Coded) → In c coded → IsTested dexes c → (method c).registers ≤ 65535 → SoundMethod done (method c)
  sound_method c k tested narrow = record {
    of_native = λ e. native_steps c (tested.of_native (sym (native_is c) ∙ e));
    of_code = λ e. sound_code c k (tested.of_code (sym (native_is c) ∙ e)) narrow;
  }

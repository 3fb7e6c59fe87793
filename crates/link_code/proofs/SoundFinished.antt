-- The app with its statics and methods is sound.
use Rattle.std.proofs.Common.{◌≡◌, ℕ, ◌<◌, ◌≤◌, List, [], ◌∷◌, map, length, refl, sym, ap, subst, ◌∙◌, arith, inl, inr}
use Rattle.dex_tables.specs.declared.dex.Dex.{Dex}
use Rattle.dex_code.specs.CodeLaws.{CodeLaws}
use Rattle.app_machine.specs.declared.app.App.{App}
use Rattle.app_machine.specs.declared.app.Key.{Key}
use Rattle.app_machine.specs.declared.app.Key.TheVariants.{Elem, Field}
use Rattle.app_machine.specs.declared.method.Method.{Method}
use Rattle.vet_base.specs.Members.{In}
use Rattle.app_machine.specs.Names.{Name}
use Rattle.app_machine.specs.Events.{IsApplication}
use Rattle.vet_base.specs.Ascending.{Ascends}
use Rattle.app_machine.specs.Sound.{SoundApp, SoundMethod, AreKeys, IsAbove, directly, beyond, method_order}
use Rattle.link_code.specs.declared.coded.Coded.{Coded}
use Rattle.link_listing.specs.Texts.{Triple}
use Rattle.link_listing.specs.MemberRows.{Fields}
use Rattle.link_code.specs.StaticList.{AreStatics}
use Rattle.link_code.specs.Methods.{lifted, all_methods, Narrow}
use Rattle.link_code.specs.SoFar.{SoFar, lines_in}
use Rattle.link_code.specs.Tested.{IsTested, coded_order, Tested}
use Rattle.link_code.proofs.FieldOrder.{ascends_as_fields}
use Rattle.link_code.proofs.StaticsCount.{few_statics}
use Rattle.link_code.proofs.SoundMethods.{sound_method}

some_keys : (keys : List Key) (fields : List (Name × Name × Name)) → AreKeys keys fields → 0 < length keys
some_keys [] fields are = absurd are
some_keys (Elem ∷ keys) fields are = omega arith
some_keys (Field c n k ∷ keys) fields are = absurd are

module _ (app : App) (fields : Fields) (dexes : List Dex) (statics : List Triple) where
  methods_ascend : (cs : List Coded) → Ascends coded_order cs → Ascends method_order (map (lifted app fields statics dexes) cs)
  unfolding lifted
  methods_ascend [] up = tt
  methods_ascend (x ∷ []) up = tt
  methods_ascend (x ∷ y ∷ ys) up = (up.0, methods_ascend (y ∷ ys) up.1)

  lifted_length : (cs : List Coded) → length (map (lifted app fields statics dexes) cs) ≡ length cs
  lifted_length [] = refl
  lifted_length (c ∷ cs) = let h : length (map (lifted app fields statics dexes) cs) ≡ length cs = lifted_length cs in omega (arith, h)

  lifted_from : (cs : List Coded) (m : Method) → In m (map (lifted app fields statics dexes) cs) → (c : Coded) × In c cs × (m ≡ lifted app fields statics dexes c)
  lifted_from [] m k = absurd k
  lifted_from (c ∷ cs) m (inl e) = (c, inl refl, e)
  lifted_from (c ∷ cs) m (inr k) = let found = lifted_from cs m k in (found.0, inr found.1, found.2)

module _ (laws : CodeLaws) (app : App) (fields : Fields) (dexes : List Dex) (statics : List Triple) (methods : List Method) (coded : List Coded)
    (sound : SoundApp app) (are : AreStatics app fields dexes coded statics) (made : methods ≡ all_methods app fields statics dexes coded) where
  abbrev done : App
  done = record app { statics = statics; methods = methods }

  above_back : (class above : Name) → IsAbove done class above → IsAbove app class above
  above_back class above (directly c k j) = directly c k j
  above_back class above (beyond p q) = beyond (above_back _ _ p) (above_back _ _ q)

  application_back : (c : ℕ) → IsApplication done c → IsApplication app c
  application_back c is = record { component = is.component; there = is.there; kind = is.kind }

  body : (m : Method) (c : Coded) → In c coded → m ≡ lifted app fields statics dexes c → IsTested dexes c → m.registers ≤ 65535 → SoundMethod done m
  body m c k e tested narrow =
      let few : (lifted app fields statics dexes c).registers ≤ 65535 = subst (λ (x : Method). x.registers ≤ 65535) e narrow in
      subst (SoundMethod done) (sym e) (sound_method laws app fields statics methods dexes coded (some_keys app.keys sound.fields sound.keys) are c k tested few)

  bodies : Tested dexes coded → Narrow methods → (m : Method) → In m methods → SoundMethod done m
  unfolding all_methods
  bodies tested narrow m k =
      let from = lifted_from app fields dexes statics coded m (subst (λ (ms : List Method). In m ms) made k) in
      body m from.0 from.1 from.2 (tested.each from.0 from.1) (narrow.each m k)

  order : Tested dexes coded → Ascends method_order methods
  unfolding all_methods
  order tested = subst (Ascends method_order) (sym made) (methods_ascend app fields dexes statics coded tested.order)

  count : length methods ≡ length coded
  unfolding all_methods
  count = ap length made ∙ lifted_length app fields dexes statics coded

  done_sound : SoFar coded 33554432 → length coded < 4294967296 → Tested dexes coded → Narrow methods → SoundApp done
  done_sound so_far short tested narrow =
      let lines : lines_in coded ≤ 33554432 = so_far.few in
      let most : length statics ≤ lines_in coded = few_statics app fields dexes coded statics are in
      record {
        short = record {
          classes = sound.short.classes;
          methods = rw count short;
          keys = sound.short.keys;
          statics = omega (arith, lines, most);
          components = sound.short.components;
          clicks = sound.short.clicks;
          providers = sound.short.providers;
          layout_classes = sound.short.layout_classes;
        };
        classes = sound.classes;
        methods = order tested;
        fields = sound.fields;
        keys = sound.keys;
        fields_order = sound.fields_order;
        statics = ascends_as_fields statics are.order;
        no_circle = λ class above. sound.no_circle class (above_back class class above);
        component_classes = sound.component_classes;
        application_first = λ c is. sound.application_first c (application_back c is);
        bodies = bodies tested narrow;
      }

-- the app with lists of statics and methods that were made from those that were read is sound
pub finished_sound : (laws : CodeLaws) (app : App) (fields : Fields) (dexes : List Dex) (coded read read_again : List Coded) (listed named statics : List Triple) (made methods : List Method)
    → SoundApp app → SoFar coded 33554432 → Tested dexes coded → length coded < 4294967296
    → read ≡ coded → AreStatics app fields dexes read listed → named ≡ listed → statics ≡ listed
    → read_again ≡ coded → made ≡ all_methods app fields named dexes read_again → Narrow made → methods ≡ made
    → SoundApp (record app { statics = statics; methods = methods })
finished_sound laws app fields dexes coded read read_again listed named statics made methods sound so_far tested short is_read are is_named is_put is_read_again are_made narrow are_put =
    let all : AreStatics app fields dexes coded statics = subst (AreStatics app fields dexes coded) (sym is_put) (subst (λ (cs : List Coded). AreStatics app fields dexes cs listed) is_read are) in
    let these : named ≡ statics = is_named ∙ sym is_put in
    let whole : methods ≡ all_methods app fields statics dexes coded = are_put ∙ (are_made ∙ (ap (λ (ss : List Triple). all_methods app fields ss dexes read_again) these ∙ ap (all_methods app fields statics dexes) is_read_again)) in
    done_sound laws app fields dexes statics methods coded sound all whole so_far short tested (subst Narrow (sym are_put) narrow)

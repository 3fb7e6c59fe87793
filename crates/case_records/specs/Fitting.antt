-- Which changes can be written: lengths have room in eight bytes and days in four, an edition has 32 bytes, and a case that is
-- added has no entry.
use Rattle.std.specs.Prelude.{◌≡◌, ◌<◌, ℕ, List, [], length}
use Rattle.std.specs.List.{AllByRecursion}
use Rattle.case_rules.specs.declared.case.Appeal.{Appeal}
use Rattle.case_rules.specs.declared.case.Content.{Content}
use Rattle.case_rules.specs.declared.case.Decision.{Decision}
use Rattle.case_rules.specs.declared.case.Ruling.{Ruling}
use Rattle.case_rules.specs.declared.reply.Change.{Change}
use Rattle.case_rules.specs.declared.reply.Change.TheVariants as changes

abbrev pub IsSmall : ℕ → Type 0
IsSmall n = n < 4294967296

pub record TextFits (text : List ℕ) : Type 0 where
  pub short : length text < 18446744073709551616

abbrev pub AllFit : List (List ℕ) → Type 0
AllFit texts = AllByRecursion TextFits texts

pub record ContentFits (content : Content) : Type 0 where
  pub manifest : TextFits content.manifest
  pub layouts : TextFits content.layouts
  pub declaration : TextFits content.declaration
  pub count : length content.dex < 18446744073709551616
  pub dex : AllFit content.dex

pub record DecisionFits (decision : Decision) : Type 0 where
  pub report : TextFits decision.report
  pub lists : length decision.lists ≡ 32
  pub reviewer : TextFits decision.reviewer
  pub day : IsSmall decision.day

pub record AppealFits (appeal : Appeal) : Type 0 where
  pub day : IsSmall appeal.day
  pub text : TextFits appeal.text

pub record RulingFits (ruling : Ruling) : Type 0 where
  pub reviewer : TextFits ruling.reviewer
  pub day : IsSmall ruling.day

pub record NamesFit (developer name : List ℕ) : Type 0 where
  pub party : TextFits developer
  pub reference : TextFits name

-- the fields of a change have their sizes
abbrev pub FieldsFit : Change → Type 0
FieldsFit (changes.Add case) = NamesFit case.party case.reference × ContentFits case.content
FieldsFit (changes.Decide party reference decision) = NamesFit party reference × DecisionFits decision
FieldsFit (changes.Appeal party reference appeal) = NamesFit party reference × AppealFits appeal
FieldsFit (changes.Rule party reference ruling) = NamesFit party reference × RulingFits ruling

-- a case that is added has no entry
abbrev pub AddsBare : Change → Type 0
AddsBare (changes.Add case) = case.entries ≡ []
AddsBare (changes.Decide party reference decision) = Unit {0}
AddsBare (changes.Appeal party reference appeal) = Unit {0}
AddsBare (changes.Rule party reference ruling) = Unit {0}

abbrev pub ChangeFits : Change → Type 0
ChangeFits change = FieldsFit change × AddsBare change

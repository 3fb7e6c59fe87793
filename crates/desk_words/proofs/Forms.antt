-- No words are of two forms, and words are none of them exactly where no command is found.
use Rattle.std.proofs.Common.{◌≡◌, ◌↔◌, ℕ, true, List, Option, Some, None, refl, sym, ◌∙◌, subst}
use Rattle.std.specs.Prelude.{codes}
use Rattle.std.specs.Cmp.Lexicographic.{same_text}
use Rattle.desk_words.specs.declared.command.Command.{Command}
use Rattle.desk_words.specs.declared.command.Command.TheVariants.{Vetting, Serving}
use Rattle.desk_words.specs.Commands.{vetting_of, serving_of, IsUsage}
use Rattle.desk_words.specs.Serve as serve
use Rattle.desk_words.specs.Serve.{is_serve, asked_words}
use Rattle.desk_words.specs.Words as vet
use Rattle.desk_words.specs.Words.{vetting_words, is_check, is_certify, is_recheck, folder_words}

serve_word : (word : List ℕ) → is_serve word ≡ true → word ≡ codes "serve"
unfolding is_serve
serve_word word is = same_text word (codes "serve") (sym is)

-- `serve` asks for no vetting
pub no_folder : (word dir last : List ℕ) → is_serve word ≡ true → folder_words word dir last ≡ None
unfolding is_check is_certify is_recheck
no_folder word dir last is =
    let P : List ℕ → Type 0 = λ w. folder_words w dir last ≡ None in
    subst P (sym (serve_word word is)) refl

pub usage_is : (found : Option Command) (words : List (List ℕ)) → vetting_of found ≡ vet.parse words → serving_of found ≡ serve.parse words → (found ≡ None) ↔ IsUsage words
usage_is None words vetting serving = (λ none. record { no_vetting = sym vetting; no_desk = sym serving }, λ usage. refl)
usage_is (Some (Vetting v)) words vetting serving = (λ none. absurd cc, λ usage. let some : Some (vetting_words v) ≡ None = vetting ∙ usage.no_vetting in absurd cc)
usage_is (Some (Serving s)) words vetting serving = (λ none. absurd cc, λ usage. let some : Some (asked_words s) ≡ None = serving ∙ usage.no_desk in absurd cc)

-- How a run of `submit` does not end, whatever the outside tells. Behind each fact stands what a slip would do.
use Rattle.std.specs.Prelude.{◌≡◌, ℕ, List, [], Some}
use Rattle.client_service.specs.Saying.{status}
use Rattle.client_service.specs.Submitting.{Seen, Answers}
use Rattle.client_service.specs.Texts.{no_answer_text}
use Rattle.client_service.specs.Words.{Submit}

-- nothing was printed before, and this after
pub record Prints (old new : Seen) (text : List ℕ) : Type 0 where
  pub before : old.printed ≡ Some []
  pub after : new.printed ≡ Some text

-- it says after how many tries no answer came
abbrev pub IsNoAnswer : List ℕ → Type 0
IsNoAnswer text = (tries : ℕ) × (text ≡ no_answer_text tries)

pub record SubmissionsEnd : Type 0 where
  -- where no answer came neither the folder nor the desk refused (else status 3)
  pub not_refused : (asked : Submit) (old new : Seen) (text : List ℕ) → IsNoAnswer text → Prints old new text → Answers (Some asked) old new (Some (status 3)) → ⊥
  -- and no app was taken (else status 0)
  pub not_accepted : (asked : Submit) (old new : Seen) (text : List ℕ) → IsNoAnswer text → Prints old new text → Answers (Some asked) old new (Some (status 0)) → ⊥
  -- an answer or a refusal is not called none (else status 10)
  pub own_text : (asked : Submit) (old new : Seen) (text : List ℕ) → Prints old new text → Answers (Some asked) old new (Some (status 10)) → IsNoAnswer text

-- The words that ask for a vetting.
use Rattle.std.specs.Prelude.{ℕ, ◌<◌, ◌≤◌, Bool, ◌&&◌, nat_le, nat_eq, List, [], ◌∷◌, length, Option, Some, None, codes, if◌then◌else◌}
use Rattle.std.specs.Option.{option_map}
use Rattle.std.specs.Cmp.Lexicographic.{pointwise}
use Rattle.desk_words.specs.declared.vetting.Vetting.{Vetting}
use Rattle.desk_words.specs.declared.vetting.Vetting.TheVariants as borrowed
use Rattle.desk_words.specs.Numbers.{number, positive}

-- What is asked for: the folder, and the number of workers; the folder, and the file that the certificate goes to; the folder, and the
-- file of the certificate; the folder; the seed, the size and the number of workers.
pub data Words : Type 0 where
  Check : List ℕ → ℕ → Words
  Certify : List ℕ → List ℕ → Words
  Recheck : List ℕ → List ℕ → Words
  Story : List ℕ → Words
  Make : ℕ → ℕ → ℕ → Words

unfoldable pub is_check : List ℕ → Bool
is_check word = pointwise nat_eq word (codes "check")

unfoldable pub is_certify : List ℕ → Bool
is_certify word = pointwise nat_eq word (codes "certify")

unfoldable pub is_recheck : List ℕ → Bool
is_recheck word = pointwise nat_eq word (codes "recheck")

unfoldable pub is_story : List ℕ → Bool
is_story word = pointwise nat_eq word (codes "story")

unfoldable pub is_make : List ℕ → Bool
is_make word = pointwise nat_eq word (codes "make")

-- the name of a folder or file has 1 to 1,024 bytes
unfoldable pub is_file_name : List ℕ → Bool
is_file_name word = nat_le 1 (length word) && nat_le (length word) 1024

-- 1 to 16 workers
unfoldable pub workers : List ℕ → Option ℕ
workers word = positive 16 word

-- `check DIR WORKERS`
abbrev pub check_words : List ℕ → List ℕ → Option Words
check_words dir count = if is_file_name dir then option_map (λ n. Check dir n) (workers count) else None

-- `certify DIR CERT`
abbrev pub certify_words : List ℕ → List ℕ → Option Words
certify_words dir cert = if is_file_name dir && is_file_name cert then Some (Certify dir cert) else None

-- `recheck DIR CERT`
abbrev pub recheck_words : List ℕ → List ℕ → Option Words
recheck_words dir cert = if is_file_name dir && is_file_name cert then Some (Recheck dir cert) else None

abbrev pub folder_words : List ℕ → List ℕ → List ℕ → Option Words
folder_words command dir last =
    if is_check command then check_words dir last
    else if is_certify command then certify_words dir last
    else if is_recheck command then recheck_words dir last
    else None

-- `story DIR`
abbrev pub story_words : List ℕ → List ℕ → Option Words
story_words command dir = if is_story command && is_file_name dir then Some (Story dir) else None

abbrev pub made_of : Option ℕ → Option ℕ → Option ℕ → Option Words
made_of None size count = None
made_of (Some seed) None count = None
made_of (Some seed) (Some size) None = None
made_of (Some seed) (Some size) (Some count) = Some (Make seed size count)

-- `make SEED SIZE WORKERS`: a seed below 2^31, 1 to 2,000 methods
unfoldable pub seed_of : List ℕ → Option ℕ
seed_of word = number 2147483647 word

unfoldable pub size_of : List ℕ → Option ℕ
size_of word = positive 2000 word

abbrev pub make_words : List ℕ → List ℕ → List ℕ → Option Words
make_words seed size count = made_of (seed_of seed) (size_of size) (workers count)

abbrev pub making_words : List ℕ → List ℕ → List ℕ → List ℕ → Option Words
making_words command seed size count = if is_make command then make_words seed size count else None

-- the vetting that is asked for, where the words ask for one
abbrev pub parse : List (List ℕ) → Option Words
parse (command ∷ dir ∷ []) = story_words command dir
parse (command ∷ dir ∷ last ∷ []) = folder_words command dir last
parse (command ∷ seed ∷ size ∷ count ∷ []) = making_words command seed size count
parse words = None

abbrev pub vetting_words : Vetting → Words
vetting_words (borrowed.Check dir n) = Check dir.now n
vetting_words (borrowed.Certify dir cert) = Certify dir.now cert.now
vetting_words (borrowed.Recheck dir cert) = Recheck dir.now cert.now
vetting_words (borrowed.Story dir) = Story dir.now
vetting_words (borrowed.Make seed size n) = Make seed size n

-- a seed below 2^31, and 1 to 2,000 methods
abbrev pub IsWithin : Vetting → Type 0
IsWithin (borrowed.Check dir n) = Unit {0}
IsWithin (borrowed.Certify dir cert) = Unit {0}
IsWithin (borrowed.Recheck dir cert) = Unit {0}
IsWithin (borrowed.Story dir) = Unit {0}
IsWithin (borrowed.Make seed size n) = (seed < 2147483648) × (1 ≤ size) × (size ≤ 2000)

-- What some words of the command line ask for, and what others do not. Behind each fact stands what a slip would answer.
use Rattle.std.specs.Prelude.{◌≡◌, ℕ, List, [], ◌∷◌, Some, None, codes}
use Rattle.desk_words.specs.Serve.{Serve, database_name}
use Rattle.desk_words.specs.Serve as serving
use Rattle.desk_words.specs.Words.{Check, Make}
use Rattle.desk_words.specs.Words as vetting

abbrev pub check_by : List ℕ → List (List ℕ)
check_by workers = codes "check" ∷ codes "app" ∷ workers ∷ []

abbrev pub make_from : List ℕ → List (List ℕ)
make_from seed = codes "make" ∷ seed ∷ codes "7" ∷ codes "2" ∷ []

abbrev pub serve_at : List ℕ → List (List ℕ)
serve_at office = codes "serve" ∷ office ∷ codes "9" ∷ []

abbrev pub served : List ℕ → Serve
served office = record { office = office; most = 9 }

pub record WordsTell : Type 0 where
  -- `check app 1` asks for one worker
  pub one_worker : vetting.parse (check_by (codes "1")) ≡ Some (Check (codes "app") 1)
  -- no number has a leading zero (else `01` would ask for one worker)
  pub no_leading_zero : vetting.parse (check_by (codes "01")) ≡ None
  -- no check has no workers (else `0` would ask for a check by none)
  pub some_workers : vetting.parse (check_by (codes "0")) ≡ None
  -- the greatest seed is 2^31 - 1
  pub greatest_seed : vetting.parse (make_from (codes "2147483647")) ≡ Some (Make 2147483647 7 2)
  -- 2^31 is no seed (else it would be that of a generated app)
  pub no_greater_seed : vetting.parse (make_from (codes "2147483648")) ≡ None
  -- `serve` asks for a desk (else it would ask for nothing, and `check` for a desk)
  pub serve_is_serve : serving.parse (serve_at (codes "shop")) ≡ Some (served (codes "shop"))
  -- the cases of an office are in its file `desk.sqlite` (else they would be written over its lists)
  pub cases_are_in : database_name (codes "shop") ≡ codes "shop/desk.sqlite"

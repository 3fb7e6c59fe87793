-- What a submission's bytes are, and how they are read. Behind each fact stands what a slip would make.
use Rattle.std.specs.Prelude.{◌≡◌, ◌<◌, ◌≤◌, ℕ, true, List, [], ◌∷◌, ◌++◌, length, Ok, Err, Vec, codes}
use Rattle.std.specs.declared.alloc.Global.{Global}
use Rattle.form_fields.specs.Spelling.{is_token}
use Rattle.case_rules.specs.declared.case.Content.{Content}
use Rattle.client_head.specs.Heads.{request_head}
use Rattle.client_body.specs.Bodies.{body_of}
use Rattle.client_http.specs.declared.request.MakeFault.TheVariants.{NotText, TooLong}
use Rattle.client_http.specs.ReadAs.{IsReadAs}
use Rattle.client_http.specs.Submissions.{Makes}

-- an app of these texts and of one DEX file, which is empty
abbrev pub app : List ℕ → List ℕ → List ℕ → Content
app manifest layouts declaration = record { manifest = manifest; layouts = layouts; declaration = declaration; dex = [] ∷ [] }

-- a byte that is no text
abbrev pub no_text : List ℕ
no_text = 255 ∷ []

pub record RequestsTell : Type 0 where
  -- the length that is announced is that of the body in bytes (else that in characters, and the last bytes would not be read)
  pub counted : (token reference : List ℕ) (content : Content) (count : ℕ) (body : List ℕ) → is_token token ≡ true → count ≤ 67108864
      → IsReadAs token reference content (request_head token count ++ body) → count ≡ length body
  -- each text stands under its own key (else the manifest would stand for the layouts)
  pub texts : body_of (codes "r") (app (codes "m") (codes "l") (codes "d"))
      ≡ codes "{\"declaration\":\"d\",\"dex\":[\"\"],\"layouts\":\"l\",\"manifest\":\"m\",\"reference\":\"r\"}"
  -- a body of more than 67,108,864 bytes is not made (else one of a byte more would be), and it alone is too long
  pub too_long : (token reference : List ℕ) (content : Content) (bytes : Vec ℕ Global)
      → 67108864 < length (body_of reference content) → Makes token reference content (Ok bytes) → ⊥
  pub longest : (token reference : List ℕ) (content : Content)
      → length (body_of reference content) ≤ 67108864 → Makes token reference content (Err TooLong) → ⊥
  -- the first part that is no text is told, the layouts (1) before the declaration (2) (else the last)
  pub first : (token reference : List ℕ) → Makes token reference (app (codes "m") no_text no_text) (Err (NotText 2)) → ⊥

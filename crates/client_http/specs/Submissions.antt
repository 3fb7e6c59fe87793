-- The request of a submission, and why there is none.
use Rattle.std.specs.Prelude.{◌≡◌, ◌<◌, ◌≤◌, ℕ, List, ◌++◌, length, Option, Some, None, Result, Ok, Err, if◌then◌else◌, Vec}
use Rattle.std.specs.declared.alloc.Global.{Global}
use Rattle.std.specs.Str.{is_utf8}
use Rattle.case_rules.specs.declared.case.Content.{Content}
use Rattle.client_head.specs.Heads.{request_head}
use Rattle.client_body.specs.Bodies.{body_of}
use Rattle.client_http.specs.declared.request.MakeFault.{MakeFault}
use Rattle.client_http.specs.declared.request.MakeFault.TheVariants.{NotText, TooLong, Memory}

-- the head and the body
abbrev pub request_of : List ℕ → List ℕ → Content → List ℕ
request_of token reference content = request_head token (length (body_of reference content)) ++ body_of reference content

-- the first of manifest (0), layouts (1) and declaration (2) that is not UTF-8
abbrev pub first_not_text : Content → Option ℕ
first_not_text content =
    if is_utf8 content.manifest then
    (if is_utf8 content.layouts then
    (if is_utf8 content.declaration then None else Some 2) else Some 1) else Some 0

-- what is made of an app: its request, or the first reason why there is none
abbrev pub Makes : List ℕ → List ℕ → Content → Result (Vec ℕ Global) MakeFault → Type 0
Makes token reference content (Ok bytes) =
    (first_not_text content ≡ None) × (length (body_of reference content) ≤ 67108864) × (bytes.items ≡ request_of token reference content)
Makes token reference content (Err (NotText part)) = first_not_text content ≡ Some part
Makes token reference content (Err TooLong) = (first_not_text content ≡ None) × (67108864 < length (body_of reference content))
Makes token reference content (Err Memory) = Unit {0}

-- an app of these parts
abbrev pub content_with : List ℕ → List ℕ → List ℕ → List (List ℕ) → Content
content_with manifest layouts declaration dex =
    record { manifest = manifest; layouts = layouts; declaration = declaration; dex = dex }

-- these are its three texts, and they are UTF-8
abbrev pub AreTexts : Content → List ℕ → List ℕ → List ℕ → Type 0
AreTexts content manifest layouts declaration =
    (first_not_text content ≡ None)
    × (manifest ≡ content.manifest) × (layouts ≡ content.layouts) × (declaration ≡ content.declaration)

-- the fault says which of them is the first that is not
abbrev pub HasNoText : Content → MakeFault → Type 0
HasNoText content fault = (part : ℕ) × (fault ≡ NotText part) × (first_not_text content ≡ Some part)

-- what is made of a body: the head for it and the body, or that it is too long
abbrev pub Joins : List ℕ → List ℕ → Result (Vec ℕ Global) MakeFault → Type 0
Joins token body (Ok bytes) = (length body ≤ 67108864) × (bytes.items ≡ request_head token (length body) ++ body)
Joins token body (Err (NotText part)) = ⊥
Joins token body (Err TooLong) = 67108864 < length body
Joins token body (Err Memory) = Unit {0}

-- what is made of an app whose three texts are UTF-8
abbrev pub MakesFrom : List ℕ → List ℕ → Content → Result (Vec ℕ Global) MakeFault → Type 0
MakesFrom token reference content (Ok bytes) =
    (length (body_of reference content) ≤ 67108864) × (bytes.items ≡ request_of token reference content)
MakesFrom token reference content (Err (NotText part)) = ⊥
MakesFrom token reference content (Err TooLong) = 67108864 < length (body_of reference content)
MakesFrom token reference content (Err Memory) = Unit {0}

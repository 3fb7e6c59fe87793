-- The bytes of some replies, and what their failures say. Behind each fact stands what a slip would do.
use Rattle.std.specs.Prelude.{◌≡◌, ℕ, true, false, List, [], ◌∷◌, ◌++◌, length, Some, Err, codes, replicate}
use Rattle.desk_http.specs.declared.reply.SendFault.TheVariants.{Memory}
use Rattle.desk_http.specs.Replies.{reply_bytes, Sends}
use Rattle.desk_links.specs.Links.{Told, with_written}
use Rattle.vet_base.specs.Outside.{HasRisen}

-- a line of a head
abbrev pub line : List ℕ → List ℕ
line text = text ++ 13 ∷ 10 ∷ []

-- a link to which nothing comes and nothing was written
abbrev pub silent : Told
silent = record { coming = []; written = []; begun = true; ended = []; left = []; missed = 0 }

pub record RepliesTell : Type 0 where
  -- text is told as plain text, behind its length and an empty line (else as JSON, with a length of 4, or with no line between)
  pub text : reply_bytes 200 true (codes "ok\n") ≡ line (codes "HTTP/1.1 200 OK") ++ line (codes "content-type: text/plain") ++ line (codes "content-length: 3") ++ line (codes "connection: close") ++ line [] ++ codes "ok\n"
  pub json : reply_bytes 404 false (codes "{}") ≡ line (codes "HTTP/1.1 404 Not Found") ++ line (codes "content-type: application/json") ++ line (codes "content-length: 2") ++ line (codes "connection: close") ++ line [] ++ codes "{}"
  pub text_not_found : reply_bytes 404 true (codes "no such case") ≡ line (codes "HTTP/1.1 404 Not Found") ++ line (codes "content-type: text/plain") ++ line (codes "content-length: 12") ++ line (codes "connection: close") ++ line [] ++ codes "no such case"
  -- a body of 1,025 bytes stands whole behind the 86 of its head (else 1,024 of them)
  pub whole_body : length (reply_bytes 200 true (replicate 1025 120)) ≡ 1111
  -- after want of memory nothing was written (else it would be told of a link that failed behind the first byte)
  pub nothing_written : Sends (Some silent) (Some (with_written (72 ∷ []) silent)) (reply_bytes 200 true []) (Err Memory) → ⊥
  -- a link of which no call failed has not failed (else every reply would)
  pub not_risen : HasRisen 0 0 → ⊥

-- The head of a submission as bytes of HTTP/1.1 (RFC 9112, sections 2, 3 and 5), and how the desk reads it.
use Rattle.std.specs.Prelude.{◌≡◌, ◌≤◌, ℕ, true, List, ◌++◌, length, Some, Ok, codes, decimal}
use Rattle.httparse.specs.Grammar.{RequestHead}
use Rattle.desk_http.specs.Fields.{desk_token, content_length, is_post, body_length, token_of}
use Rattle.desk_http.specs.Replies.{crlf, field}
use Rattle.desk_http.specs.Requests.{IsHead}
use Rattle.desk_routes.specs.Routes.{cases}

unfoldable pub request_line : List ℕ
request_line = codes "POST /cases HTTP/1.1"

unfoldable pub host : List ℕ
host = codes "host"

unfoldable pub this_machine : List ℕ
this_machine = codes "127.0.0.1"

-- the request line, three fields and an empty line, for a body of so many bytes
unfoldable pub request_head : List ℕ → ℕ → List ℕ
request_head token count =
    request_line ++ crlf
    ++ field host this_machine
    ++ field desk_token token
    ++ field content_length (decimal count)
    ++ crlf

-- Whatever stands behind them, the bytes are the head of a POST to the cases with this token and so long a body.
pub record IsHeadOf (token : List ℕ) (count : ℕ) (bytes : List ℕ) : Type 0 where
  pub head : RequestHead
  pub is_head : (body : List ℕ) → IsHead (bytes ++ body) (length bytes) head
  pub few : length head.fields ≤ 64
  pub announced : body_length head ≡ Ok count
  pub post : is_post head.method ≡ true
  pub target : head.target ≡ cases
  pub token_is : token_of head ≡ Some token

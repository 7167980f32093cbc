-- The bytes of a reply.
use Rattle.std.specs.Prelude.{ℕ, ◌==◌, ◌&&◌, Bool, not, nat_le, if◌then◌else◌, codes, List, [], ◌∷◌, ◌++◌, length}
use Rattle.std.specs.List.{list_all}
use Rattle.std.specs.Fmt.{decimal}
use Rattle.http_wire.specs.declared.message.Reply.{Reply}

-- the phrases of statuses
abbrev pub phrases : List (ℕ × List ℕ)
phrases =
    (200, codes "OK")
    ∷ (201, codes "Created")
    ∷ (204, codes "No Content")
    ∷ (400, codes "Bad Request")
    ∷ (403, codes "Forbidden")
    ∷ (404, codes "Not Found")
    ∷ (405, codes "Method Not Allowed")
    ∷ (409, codes "Conflict")
    ∷ (410, codes "Gone")
    ∷ (412, codes "Precondition Failed")
    ∷ (413, codes "Content Too Large")
    ∷ (422, codes "Unprocessable Content")
    ∷ (423, codes "Locked")
    ∷ (431, codes "Request Header Fields Too Large")
    ∷ (500, codes "Internal Server Error")
    ∷ (501, codes "Not Implemented")
    ∷ (503, codes "Service Unavailable")
    ∷ (507, codes "Insufficient Storage")
    ∷ []

-- the text beside a number in such a table, empty where the number isn't in it
abbrev pub text_beside : List (ℕ × List ℕ) → ℕ → List ℕ
text_beside [] n = []
text_beside (row ∷ rows) n = if n == row.0 then row.1 else text_beside rows n

-- the phrase of a status; a status outside the table has none
abbrev pub phrase : ℕ → List ℕ
phrase status = text_beside phrases status

-- visible ASCII, or a space
abbrev pub is_visible : ℕ → Bool
is_visible byte = nat_le 32 byte && nat_le byte 126

-- a content type that is sent as it is: visible ASCII and spaces, and not empty
abbrev pub is_sendable : List ℕ → Bool
is_sendable text = not (length text == 0) && list_all is_visible text

-- the content type that is sent
abbrev pub sent_type : List ℕ → List ℕ
sent_type text = if is_sendable text then text else codes "application/octet-stream"

-- the fields that tell of the body, and the body: a 204 has none of them
abbrev pub body_fields : Reply → List ℕ
body_fields reply =
    if reply.status == 204 then []
    else codes "Content-Type: " ++ sent_type reply.content_type ++ codes "\r\nContent-Length: " ++ decimal (length reply.body) ++ codes "\r\n"

-- the bytes of a reply
abbrev pub reply_text : Reply → List ℕ
reply_text reply =
    codes "HTTP/1.1 " ++ decimal reply.status ++ codes " " ++ phrase reply.status ++ codes "\r\n"
    ++ body_fields reply
    ++ (if reply.close then codes "Connection: close\r\n" else [])
    ++ codes "\r\n"
    ++ (if reply.status == 204 then [] else reply.body)

-- the reply of want of memory
abbrev pub no_memory_reply : Bool → Reply
no_memory_reply close = record {
  status = 507;
  content_type = codes "application/json";
  body = codes "{\"message\":\"out of memory\"}";
  close = close;
}

-- the bytes of a reply with a body, from its parts
abbrev pub whole_text : List ℕ → List ℕ → List ℕ → List ℕ → List ℕ → List ℕ → List ℕ
whole_text status phrase content_type size closing body =
    codes "HTTP/1.1 " ++ status ++ codes " " ++ phrase ++ codes "\r\nContent-Type: " ++ content_type ++ codes "\r\nContent-Length: " ++ size
    ++ codes "\r\n" ++ closing ++ codes "\r\n" ++ body

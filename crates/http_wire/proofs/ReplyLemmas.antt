-- A reply's bytes are those of its parts.
use Rattle.std.proofs.Common.{◌≡◌, ◌==◌, ℕ, Bool, true, false, List, [], ◌∷◌, refl, sym, ap, ◌∙◌, arith, codes, ◌++◌, append_assoc, length, if◌then◌else◌}
use Rattle.std.proofs.lemmas.List.{append-nil}
use Rattle.std.proofs.lemmas.Bool.Decides.{nat_tests}
use Rattle.http_wire.specs.declared.message.Reply.{Reply}
use Rattle.http_wire.specs.ReplyText.{phrase, sent_type, reply_text, whole_text}
use Rattle.std.specs.Fmt.{decimal}
use Rattle.std.proofs.lemmas.Fmt.{decimal-digits_value}
use Rattle.http_wire.proofs.FieldLemmas.{own}

pub decimal_507 : decimal 507 ≡ codes "507"
decimal_507 = decimal-digits_value own (codes "507") refl (omega arith) (λ e. absurd (omega (arith, e))) (omega arith)

pub decimal_27 : decimal 27 ≡ codes "27"
decimal_27 = decimal-digits_value own (codes "27") refl (omega arith) (λ e. absurd (omega (arith, e))) (omega arith)

decimal_204 : decimal 204 ≡ codes "204"
decimal_204 = decimal-digits_value own (codes "204") refl (omega arith) (λ e. absurd (omega (arith, e))) (omega arith)

-- the parts one behind the other, bracketed from the right
abbrev pub pile : List (List ℕ) → List ℕ
pile [] = []
pile (part ∷ parts) = part ++ pile parts

-- the same behind a front, bracketed from the left
abbrev glue : List ℕ → List (List ℕ) → List ℕ
glue front [] = front
glue front (part ∷ parts) = glue (front ++ part) parts

glued : (front : List ℕ) (parts : List (List ℕ)) → front ++ pile parts ≡ glue front parts
glued front [] = append-nil front
glued front (part ∷ parts) = sym (append_assoc front part (pile parts)) ∙ glued (front ++ part) parts

no_content_text : (close : Bool) (kind body : List ℕ)
    → pile (codes "HTTP/1.1 204 No Content\r\n" ∷ (if close then codes "Connection: close\r\n" else []) ∷ codes "\r\n" ∷ [])
    ≡ reply_text (record { status = 204; content_type = kind; body = body; close = close })
no_content_text true kind body = rw decimal_204 refl
no_content_text false kind body = rw decimal_204 refl

-- a reply without a body
pub no_content : (reply : Reply) (closing : List ℕ) → reply.status ≡ 204 → closing ≡ (if reply.close then codes "Connection: close\r\n" else [])
    → pile (codes "HTTP/1.1 204 No Content\r\n" ∷ closing ∷ codes "\r\n" ∷ []) ≡ reply_text reply
no_content reply closing is closed =
    ap (λ (l : List ℕ). pile (codes "HTTP/1.1 204 No Content\r\n" ∷ l ∷ codes "\r\n" ∷ [])) closed
    ∙ no_content_text reply.close reply.content_type reply.body ∙ sym (ap at is)
  where
    at : ℕ → List ℕ
    at n = reply_text (record { status = n; content_type = reply.content_type; body = reply.body; close = reply.close })

-- the fields that tell of the body
body_fields_text : (front kind size : List ℕ)
    → front ++ codes "\r\n" ++ (codes "Content-Type: " ++ kind ++ codes "\r\nContent-Length: " ++ size ++ codes "\r\n")
    ≡ front ++ codes "\r\nContent-Type: " ++ kind ++ codes "\r\nContent-Length: " ++ size ++ codes "\r\n"
body_fields_text front kind size =
    let parts : List (List ℕ) = kind ∷ codes "\r\nContent-Length: " ∷ size ∷ codes "\r\n" ∷ [] in
    ap (λ (l : List ℕ). (front ++ codes "\r\n") ++ l) (sym (glued [] (codes "Content-Type: " ∷ parts)))
    ∙ append_assoc front (codes "\r\n") (pile (codes "Content-Type: " ∷ parts)) ∙ glued front (codes "\r\nContent-Type: " ∷ parts)

other_status : (n : ℕ) → (n ≡ 204 → ⊥) → (n == 204) ≡ false
other_status n other = grind (arith, nat_tests)

-- a reply with a body
pub whole_is : (reply : Reply) → (reply.status == 204) ≡ false
    → whole_text (decimal reply.status) (phrase reply.status) (sent_type reply.content_type) (decimal (length reply.body))
    (if reply.close then codes "Connection: close\r\n" else []) reply.body
    ≡ reply_text reply
whole_is reply is = sym (ap at is ∙ ap behind (body_fields_text front (sent_type reply.content_type) (decimal (length reply.body))))
  where
    front : List ℕ
    front = codes "HTTP/1.1 " ++ decimal reply.status ++ codes " " ++ phrase reply.status

    behind : List ℕ → List ℕ
    behind l = l ++ (if reply.close then codes "Connection: close\r\n" else []) ++ codes "\r\n" ++ reply.body

    at : Bool → List ℕ
    at none =
        front ++ codes "\r\n"
        ++ (if none then [] else codes "Content-Type: " ++ sent_type reply.content_type ++ codes "\r\nContent-Length: " ++ decimal (length reply.body)
        ++ codes "\r\n")
        ++ (if reply.close then codes "Connection: close\r\n" else [])
        ++ codes "\r\n"
        ++ (if none then [] else reply.body)

-- the same from its parts
pub whole_reply : (reply : Reply) (status reason kind size closing body : List ℕ) → (reply.status ≡ 204 → ⊥) → status ≡ decimal reply.status
    → reason ≡ phrase reply.status → kind ≡ sent_type reply.content_type → size ≡ decimal (length reply.body)
    → closing ≡ (if reply.close then codes "Connection: close\r\n" else []) → body ≡ reply.body
    → whole_text status reason kind size closing body ≡ reply_text reply
whole_reply reply status reason kind size closing body other status_is reason_is kind_is size_is closing_is body_is =
    ap (λ (x : List ℕ). whole_text x reason kind size closing body) status_is
    ∙ ap (λ (x : List ℕ). whole_text (decimal reply.status) x kind size closing body) reason_is
    ∙ ap (λ (x : List ℕ). whole_text (decimal reply.status) (phrase reply.status) x size closing body) kind_is
    ∙ ap (λ (x : List ℕ). whole_text (decimal reply.status) (phrase reply.status) (sent_type reply.content_type) x closing body) size_is
    ∙ ap (λ (x : List ℕ). whole_text (decimal reply.status) (phrase reply.status) (sent_type reply.content_type) (decimal (length reply.body)) x body)
    closing_is
    ∙ ap (whole_text (decimal reply.status) (phrase reply.status) (sent_type reply.content_type) (decimal (length reply.body))
    (if reply.close then codes "Connection: close\r\n" else [])) body_is
    ∙ whole_is reply (other_status reply.status other)

-- the parts are the text
pub whole_joined : (status reason kind size closing body : List ℕ)
    → pile (codes "HTTP/1.1 " ∷ status ∷ codes " " ∷ reason ∷ codes "\r\nContent-Type: " ∷ kind ∷ codes "\r\nContent-Length: " ∷ size ∷ codes "\r\n"
    ∷ closing ∷ codes "\r\n" ∷ body ∷ [])
    ≡ whole_text status reason kind size closing body
whole_joined status reason kind size closing body =
    glued [] (codes "HTTP/1.1 " ∷ status ∷ codes " " ∷ reason ∷ codes "\r\nContent-Type: " ∷ kind ∷ codes "\r\nContent-Length: " ∷ size ∷ codes "\r\n"
    ∷ closing ∷ codes "\r\n" ∷ body ∷ [])

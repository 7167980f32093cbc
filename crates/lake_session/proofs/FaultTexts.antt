-- The replies to messages that aren't read, as bytes.
use Rattle.std.proofs.Common.{◌≡◌, ◌∙◌, ℕ, List, Option, Some, codes, option_map, refl, sym, ap, arith}
use Rattle.std.specs.Fmt.{decimal}
use Rattle.std.proofs.lemmas.Fmt.{decimal-digits_value}
use Rattle.http_wire.specs.ReplyText.{reply_text, whole_text}
use Rattle.http_wire.specs.declared.fault.WireFault.{WireFault}
use Rattle.http_wire.specs.declared.fault.WireFault.TheVariants.{BadHead, BadLength, BodyTooLong, Chunked, HeadTooLong}
use Rattle.http_wire.proofs.FieldLemmas.{own}
use Rattle.http_wire.proofs.ReplyLemmas.{decimal_27}
use Rattle.lake_session.specs.SessionTexts.{reply_to_fault}

-- ---- the numbers in them

decimal_400 : decimal 400 ≡ codes "400"
decimal_400 = decimal-digits_value own (codes "400") refl (omega arith) (λ e. absurd (omega (arith, e))) (omega arith)

decimal_413 : decimal 413 ≡ codes "413"
decimal_413 = decimal-digits_value own (codes "413") refl (omega arith) (λ e. absurd (omega (arith, e))) (omega arith)

decimal_431 : decimal 431 ≡ codes "431"
decimal_431 = decimal-digits_value own (codes "431") refl (omega arith) (λ e. absurd (omega (arith, e))) (omega arith)

decimal_501 : decimal 501 ≡ codes "501"
decimal_501 = decimal-digits_value own (codes "501") refl (omega arith) (λ e. absurd (omega (arith, e))) (omega arith)

decimal_24 : decimal 24 ≡ codes "24"
decimal_24 = decimal-digits_value own (codes "24") refl (omega arith) (λ e. absurd (omega (arith, e))) (omega arith)

decimal_30 : decimal 30 ≡ codes "30"
decimal_30 = decimal-digits_value own (codes "30") refl (omega arith) (λ e. absurd (omega (arith, e))) (omega arith)

decimal_41 : decimal 41 ≡ codes "41"
decimal_41 = decimal-digits_value own (codes "41") refl (omega arith) (λ e. absurd (omega (arith, e))) (omega arith)

-- ---- the bytes

-- the bytes of a reply to a fault, where there is one
abbrev pub fault_text : WireFault → Option (List ℕ)
fault_text fault = option_map reply_text (reply_to_fault fault)

-- those of one with this status and this body, of this size
abbrev pub closing_text : (status phrase size body : List ℕ) → Option (List ℕ)
closing_text status phrase size body = Some (whole_text status phrase (codes "application/json") size (codes "Connection: close\r\n") body)

at : (fault known : WireFault) (text : Option (List ℕ)) → fault_text known ≡ text → fault ≡ known → text ≡ fault_text fault
at fault known text is same = sym (ap fault_text same ∙ is)

pub bad_head : (fault : WireFault) → fault ≡ BadHead
    → closing_text (codes "400") (codes "Bad Request") (codes "30") (codes "{\"message\":\"bad request head\"}") ≡ fault_text fault
bad_head fault = at fault BadHead _ (rw (decimal_400, decimal_30) refl)

pub bad_length : (fault : WireFault) → fault ≡ BadLength
    → closing_text (codes "400") (codes "Bad Request") (codes "24") (codes "{\"message\":\"bad length\"}") ≡ fault_text fault
bad_length fault = at fault BadLength _ (rw (decimal_400, decimal_24) refl)

pub head_too_long : (fault : WireFault) → fault ≡ HeadTooLong
    → closing_text (codes "431") (codes "Request Header Fields Too Large") (codes "27") (codes "{\"message\":\"head too long\"}") ≡ fault_text fault
head_too_long fault = at fault HeadTooLong _ (rw (decimal_431, decimal_27) refl)

pub body_too_long : (fault : WireFault) (n : ℕ) → fault ≡ BodyTooLong n
    → closing_text (codes "413") (codes "Content Too Large") (codes "27") (codes "{\"message\":\"body too long\"}") ≡ fault_text fault
body_too_long fault n = at fault (BodyTooLong n) _ (rw (decimal_413, decimal_27) refl)

pub chunked : (fault : WireFault) → fault ≡ Chunked
    → closing_text (codes "501") (codes "Not Implemented") (codes "41") (codes "{\"message\":\"chunked bodies are not read\"}") ≡ fault_text fault
chunked fault = at fault Chunked _ (rw (decimal_501, decimal_41) refl)

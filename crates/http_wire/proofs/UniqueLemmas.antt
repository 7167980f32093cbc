-- The same bytes have one answer.
use Rattle.std.proofs.Common.{◌≡◌, ◌+◌, ◌==◌, ℕ, Bool, true, false, nat_le, List, [], length, take, drop, codes, Option, Some, None, Result, Ok, Err}
use Rattle.std.proofs.Common.{inl, inr, refl, sym, ap, ◌∙◌, if◌then◌else◌}
use Rattle.std.specs.List.{list_any}
use Rattle.httparse.specs.Grammar.{RequestHead, ResponseHead}
use Rattle.httparse.proofs.GrammarLemmas.{request_unique, response_unique}
use Rattle.http_wire.specs.declared.message.Field.{Field}
use Rattle.http_wire.specs.declared.message.Request.{Request}
use Rattle.http_wire.specs.declared.message.Reply.{Reply}
use Rattle.http_wire.specs.declared.fault.WireFault.{WireFault}
use Rattle.http_wire.specs.declared.fault.WireFault.TheVariants.{Ended, Truncated, Chunked, BodyTooLong}
use Rattle.http_wire.specs.MessageFields.{is_named, values_of, stated_length, length_within, body_length}
use Rattle.http_wire.specs.MessageHeads.{Opening, headed, too_long, unended, opening}
use Rattle.http_wire.specs.Messages.{IsRequestHeadOf, IsReplyHeadOf, fields_of, request_of, reply_of, with_body, Gives, ReadsRequestAt, ReadsReplyAt}

module _ {Head Message : Type 0} (IsHeadOf : List ℕ → Head → Type 0) (fields : Head → List Field) (message : Head → List ℕ → Message) (limit : Option ℕ)
    (one_head : (bytes : List ℕ) (h k : Head) → IsHeadOf bytes h → IsHeadOf bytes k → h ≡ k) where
  one_given : (o : Opening) (a b : Result (Message × List ℕ) WireFault) → Gives IsHeadOf fields message limit o a → Gives IsHeadOf fields message limit o b
      → a ≡ b
  one_given too_long a b x y = x ∙ sym y
  one_given (unended part) a b x y = x ∙ sym y
  one_given (headed front behind) a b (inl x) (inl y) =
      x.2 ∙ ap (λ (h : Head). with_body (message h) front behind (body_length limit (fields h))) (one_head front x.0 y.0 x.1 y.1) ∙ sym y.2
  one_given (headed front behind) a b (inl x) (inr y) = absurd (y.0 x.0 x.1)
  one_given (headed front behind) a b (inr x) (inl y) = absurd (x.0 y.0 y.1)
  one_given (headed front behind) a b (inr x) (inr y) = x.1 ∙ sym y.1

pub one_request : (bytes : List ℕ) (a b : Result (Request × List ℕ) WireFault) → ReadsRequestAt bytes a → ReadsRequestAt bytes b → a ≡ b
one_request bytes a b x y =
    one_given IsRequestHeadOf (λ (head : RequestHead). fields_of head.fields) request_of (Some 67108864)
    (λ front h k whole other. (request_unique front h k [] [] whole.reads other.reads).0) (opening bytes) a b x y

pub one_reply : (bytes : List ℕ) (a b : Result (Reply × List ℕ) WireFault) → ReadsReplyAt bytes a → ReadsReplyAt bytes b → a ≡ b
one_reply bytes a b x y =
    one_given IsReplyHeadOf (λ (head : ResponseHead). fields_of head.fields) reply_of None
    (λ front h k whole other. (response_unique front h k [] [] whole.reads other.reads).0) (opening bytes) a b x y

-- ---- a body without a limit

module _ {Head Message : Type 0} (IsHeadOf : List ℕ → Head → Type 0) (fields : Head → List Field) (message : Head → List ℕ → Message) (n : ℕ) where
  abbrev Long : Result (Message × List ℕ) WireFault
  Long = Err (BodyTooLong n)

  all_there : (answer : Result (Message × List ℕ) WireFault) (b : Bool) (value : Message × List ℕ) (end : ℕ) → answer ≡ Long
      → answer ≡ (if b then Ok value else Err (Truncated end)) → ⊥
  all_there answer true value end is other = cc
  all_there answer false value end is other = cc

  ended : (answer : Result (Message × List ℕ) WireFault) (b : Bool) (end : ℕ) → answer ≡ Long → answer ≡ Err (if b then Ended else Truncated end) → ⊥
  ended answer true end is other = cc
  ended answer false end is other = cc

  behind_head : (answer : Result (Message × List ℕ) WireFault) (h : Head) (front behind : List ℕ) (coded : Bool) (stated : Option ℕ) → answer ≡ Long
      → answer ≡ with_body (message h) front behind (if coded then Err Chunked else length_within None stated) → ⊥
  behind_head answer h front behind true stated is other = cc
  behind_head answer h front behind false None is other = cc
  behind_head answer h front behind false (Some m) is other =
      all_there answer (nat_le m (length behind)) (message h (take m behind), drop m behind) (length front + length behind) is other

  never_given : (o : Opening) (answer : Result (Message × List ℕ) WireFault) → answer ≡ Long → Gives IsHeadOf fields message None o answer → ⊥
  never_given too_long answer is given = cc
  never_given (unended part) answer is given = ended answer (length part == 0) (length part) is given
  never_given (headed front behind) answer is (inl x) =
      behind_head answer x.0 front behind (list_any (is_named (codes "transfer-encoding")) (fields x.0))
      (stated_length (values_of (codes "content-length") (fields x.0))) is x.2
  never_given (headed front behind) answer is (inr x) = cc

-- no reply is too long
pub never_long : (bytes : List ℕ) (n : ℕ) → ReadsReplyAt bytes (Err (BodyTooLong n)) → ⊥
never_long bytes n reads =
    never_given IsReplyHeadOf (λ (head : ResponseHead). fields_of head.fields) reply_of n (opening bytes) (Err (BodyTooLong n)) refl reads

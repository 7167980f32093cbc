-- A head, what it says and its body make the answer.
use Rattle.std.proofs.Common.{◌≡◌, ◌≤◌, ◌<◌, ◌+◌, ◌==◌, inl, inr, ℕ, suc, Bool, true, false, List, [], ◌∷◌, ◌++◌, length, take, drop, Option, Result}
use Rattle.std.proofs.Common.{Ok, Err, IfSome, refl, sym, ap, subst, ◌∙◌, arith, true≢false, nat_le, if◌then◌else◌}
use Rattle.std.specs.Prelude.{Vec}
use Rattle.std.specs.Global.{Global}
use Rattle.std.proofs.lemmas.List.{append-nil, length-append, length-take-le, take_at, drop_at}
use Rattle.std.proofs.lemmas.Bool.Decides.{nat_tests}
use Rattle.http_wire.specs.declared.message.Field.{Field}
use Rattle.http_wire.specs.declared.fault.WireFault.{WireFault}
use Rattle.http_wire.specs.declared.fault.WireFault.TheVariants.{Ended, Truncated, HeadTooLong, BadHead, Chunked, BadLength, BodyTooLong, ReadFault, NoMemory}
use Rattle.http_wire.specs.Filling.{HasReadCause}
use Rattle.http_wire.specs.BodyReading.{IsBodyFault, IsBody, IsBodyRead, IsBodyAnswer}
use Rattle.http_wire.specs.HeadSearch.{EndsIn, HeadCame, IsHeadRead, IsHeadAnswer}
use Rattle.http_wire.specs.MessageFields.{body_length}
use Rattle.http_wire.specs.MessageHeads.{Opening, headed, too_long, unended, opening}
use Rattle.http_wire.specs.Messages.{with_body, Gives, Reads, IsUnfinished, IsReadOf, IsAnswer}
use Rattle.http_wire.specs.Parsing.{IsParse}
use Rattle.http_wire.proofs.ReadingLemmas.{gave_as, gave_then}

abbrev is_read : {T : Type 0} → Result T WireFault → Bool
is_read (Ok value) = false
is_read (Err Ended) = false
is_read (Err (Truncated n)) = false
is_read (Err HeadTooLong) = false
is_read (Err BadHead) = false
is_read (Err Chunked) = false
is_read (Err BadLength) = false
is_read (Err (BodyTooLong n)) = false
is_read (Err ReadFault) = true
is_read (Err NoMemory) = false

pub le_true : (a b : ℕ) → a ≤ b → nat_le a b ≡ true
le_true a b h = grind (arith, nat_tests)

le_false : (a b : ℕ) → b < a → nat_le a b ≡ false
le_false a b h = grind (arith, nat_tests)

some_length : (n : ℕ) → (suc n == 0) ≡ false
some_length n = grind (arith, nat_tests)

module _ {Head Message : Type 0} (IsHeadOf : List ℕ → Head → Type 0) (fields : Head → List Field) (message : Head → List ℕ → Message) (limit : Option ℕ) where
  pub gives_as : (a b : Opening) (answer : Result (Message × List ℕ) WireFault) → a ≡ b → Gives IsHeadOf fields message limit b answer
      → Gives IsHeadOf fields message limit a answer
  gives_as a b answer same gives = subst (λ (o : Opening). Gives IsHeadOf fields message limit o answer) (sym same) gives

  ends : (given : List ℕ) (fault : WireFault) → EndsIn given fault → Reads IsHeadOf fields message limit given (Err fault)
  ends given fault end = gives_as (opening given) (unended end.0) (Err fault) end.1 (ap Err end.2)

  -- a part of a head is no message yet
  unfinished_part : (given part : List ℕ) → opening given ≡ unended part → IsUnfinished IsHeadOf fields message limit given
  unfinished_part given [] opens = inl (gives_as (opening given) (unended []) (Err Ended) opens refl)
  unfinished_part given (b ∷ part) opens =
      inr (
        length (b ∷ part),
        gives_as (opening given) (unended (b ∷ part)) (Err (Truncated (length (b ∷ part)))) opens
            (ap (λ (t : Bool). Err (if t then Ended else Truncated (length (b ∷ part)))) (sym (some_length (length part)))),
      )

  -- no head came
  head_fault_read : (given held last rest : List ℕ) (fault : WireFault) → IsHeadRead given held rest (Err fault)
      → IsReadOf IsHeadOf fields message limit given (Err fault) last rest
  unfolding IsHeadRead IsReadOf
  head_fault_read given held last rest HeadTooLong long = gives_as (opening given) too_long (Err HeadTooLong) long refl
  head_fault_read given held last rest Ended end = (ends given Ended end.0, end.1)
  head_fault_read given held last rest (Truncated n) end = (ends given (Truncated n) end.0, end.1)
  head_fault_read given held last rest ReadFault part = unfinished_part given part.0 part.1
  head_fault_read given held last rest NoMemory none = tt
  head_fault_read given held last rest BadHead none = absurd none
  head_fault_read given held last rest Chunked none = absurd none
  head_fault_read given held last rest BadLength none = absurd none
  head_fault_read given held last rest (BodyTooLong n) none = absurd none

  pub head_fault : (before had held last : List ℕ) (left : Option (List ℕ)) (fault : WireFault) → IsHeadAnswer before had held left (Err fault)
      → IsAnswer IsHeadOf fields message limit before had (Err fault) last left
  head_fault before had held last left fault answer =
      gave_as before had (λ given rest. IsHeadRead given held rest (Err fault))
      (λ given rest. IsReadOf IsHeadOf fields message limit given (Err fault) last rest) left answer
      (λ given rest read. head_fault_read given held last rest fault read)

  module _ (held : List ℕ) (n : ℕ) where
    abbrev HasHead : (given rest : List ℕ) → Type 0
    HasHead given rest = IsHeadRead given held rest (Ok n)

    module _ (given rest : List ℕ) (head_read : HasHead given rest) where
      came : HeadCame given held n
      unfolding IsHeadRead
      came = head_read

      -- so begin all bytes that are given
      opens_all : opening given ≡ headed (take n held) (drop n held)
      opens_all = ap opening (sym (append-nil given)) ∙ came.opens [] ∙ ap (headed (take n held)) (append-nil (drop n held))

      -- the head isn't one, or its fields refuse the message
      parse_fault_read : (last : List ℕ) (fault : WireFault) → IsParse IsHeadOf fields message limit (take n held) (Err fault)
          → IsReadOf IsHeadOf fields message limit given (Err fault) last rest
      unfolding IsParse IsReadOf
      parse_fault_read last BadHead none = gives_as (opening given) _ (Err BadHead) opens_all (inr (none, refl))
      parse_fault_read last NoMemory none = tt
      parse_fault_read last Chunked is =
          gives_as (opening given) _ (Err Chunked) opens_all
          (inl (is.0, is.1, ap (with_body (message is.0) (take n held) (drop n held)) (sym is.2)))
      parse_fault_read last BadLength is =
          gives_as (opening given) _ (Err BadLength) opens_all
          (inl (is.0, is.1, ap (with_body (message is.0) (take n held) (drop n held)) (sym is.2)))
      parse_fault_read last (BodyTooLong m) is =
          gives_as (opening given) _ (Err (BodyTooLong m)) opens_all
          (inl (is.0, is.1, ap (with_body (message is.0) (take n held) (drop n held)) (sym is.2)))
      parse_fault_read last Ended none = absurd none
      parse_fault_read last (Truncated m) none = absurd none
      parse_fault_read last HeadTooLong none = absurd none
      parse_fault_read last ReadFault none = absurd none

      module _ (parsed : Message) (size : ℕ) (parse : IsParse IsHeadOf fields message limit (take n held) (Ok (parsed, size))) (more behind : List ℕ)
          (behind_is : behind ≡ drop n held ++ more) where
        head_of : (head : Head) × IsHeadOf (take n held) head × (parsed ≡ message head []) × (body_length limit (fields head) ≡ Ok size)
        unfolding IsParse
        head_of = parse

        opens_behind : opening (given ++ more) ≡ headed (take n held) behind
        opens_behind = came.opens more ∙ ap (headed (take n held)) (sym behind_is)

        -- a body that isn't all there
        short_body : length behind < size → Reads IsHeadOf fields message limit (given ++ more) (Err (Truncated (n + length behind)))
        short_body less =
            let long : length (take n held) ≡ n = length-take-le n held came.within in
            gives_as (opening (given ++ more)) (headed (take n held) behind) (Err (Truncated (n + length behind))) opens_behind
            (inl (
              head_of.0,
              head_of.1,
              ap (λ (k : ℕ). Err (Truncated (k + length behind))) (sym long)
                  ∙ ap (λ (t : Bool). if t then Ok (message head_of.0 (take size behind), drop size behind) else Err (Truncated (length
                  (take n held) + length behind)))
                  (sym (le_false size (length behind) less))
                  ∙ ap (with_body (message head_of.0) (take n held) behind) (sym head_of.3),
            ))

        -- the body came
        body_read : (body last end : List ℕ) (value : Message) → IsBody behind body size last
            → ((head : Head) → parsed ≡ message head [] → value ≡ message head body)
            → IsReadOf IsHeadOf fields message limit (given ++ more) (Ok value) last end
        unfolding IsReadOf
        body_read body last end value is made =
            let front : take size behind ≡ body = ap (take size) (sym is.whole) ∙ take_at body last size is.long in
            let behind_body : drop size behind ≡ last = ap (drop size) (sym is.whole) ∙ drop_at body last size is.long in
            let enough : size ≤ length behind = omega (arith, is.long, ap length is.whole, length-append body last) in
            gives_as (opening (given ++ more)) (headed (take n held) behind) (Ok (value, last)) opens_behind
            (inl (
              head_of.0,
              head_of.1,
              ap (λ (v : Message). Ok (v, last)) (made head_of.0 head_of.2 ∙ ap (message head_of.0) (sym front))
                  ∙ ap (λ (l : List ℕ). Ok (message head_of.0 (take size behind), l)) (sym behind_body)
                  ∙ ap (λ (t : Bool). if t then Ok (message head_of.0 (take size behind), drop size behind) else Err (Truncated (length
                  (take n held) + length behind)))
                  (sym (le_true size (length behind) enough))
                  ∙ ap (with_body (message head_of.0) (take n held) behind) (sym head_of.3),
            ))

        -- the body didn't come
        body_fault_read : (last end : List ℕ) (fault : WireFault) → IsBodyFault behind end n size fault
            → IsReadOf IsHeadOf fields message limit (given ++ more) (Err fault) last end
        unfolding IsBodyFault IsReadOf
        body_fault_read last end (Truncated m) is =
            (subst (λ (k : ℕ). Reads IsHeadOf fields message limit (given ++ more) (Err (Truncated k))) (sym is.1) (short_body is.0), is.2)
        body_fault_read last end ReadFault is = inr (n + length behind, short_body is)
        body_fault_read last end NoMemory is = tt
        body_fault_read last end Ended is = absurd is
        body_fault_read last end HeadTooLong is = absurd is
        body_fault_read last end BadHead is = absurd is
        body_fault_read last end Chunked is = absurd is
        body_fault_read last end BadLength is = absurd is
        body_fault_read last end (BodyTooLong m) is = absurd is

    module _ (before had : List ℕ) (left : Option (List ℕ)) (head_came : IsHeadAnswer before had held left (Ok n)) where
      pub parse_fault_answer : (last : List ℕ) (fault : WireFault) → IsParse IsHeadOf fields message limit (take n held) (Err fault)
          → IsAnswer IsHeadOf fields message limit before had (Err fault) last left
      parse_fault_answer last fault parse =
          gave_as before had HasHead (λ given rest. IsReadOf IsHeadOf fields message limit given (Err fault) last rest) left head_came
          (λ given rest head_read. parse_fault_read given rest head_read last fault parse)

      module _ (parsed : Message) (size : ℕ) (parse : IsParse IsHeadOf fields message limit (take n held) (Ok (parsed, size))) (behind last : List ℕ)
          (is : behind ≡ drop n held) (after : Option (List ℕ)) where
        pub body_answer : (body : Vec ℕ Global) (value : Message)
            → IfSome left (λ l. IsBodyAnswer behind l n size last after (Ok body))
            → ((head : Head) → parsed ≡ message head [] → value ≡ message head body.items)
            → IsAnswer IsHeadOf fields message limit before had (Ok value) last after
        body_answer body value came_body made =
            gave_then before had HasHead (λ given rest. IsReadOf IsHeadOf fields message limit given (Ok value) last rest) left head_came behind
            (λ given rest. IsBodyRead given rest n size last (Ok body)) after came_body
            (λ given rest more end head_read body_is.
            body_read given rest head_read parsed size parse more (behind ++ more) (ap (λ (l : List ℕ). l ++ more) is) body.items last end value body_is made)

        pub body_fault_answer : (fault : WireFault) → IfSome left (λ l. IsBodyAnswer behind l n size last after (Err fault))
            → IsAnswer IsHeadOf fields message limit before had (Err fault) last after
        body_fault_answer fault came_body =
            gave_then before had HasHead (λ given rest. IsReadOf IsHeadOf fields message limit given (Err fault) last rest) left head_came behind
            (λ given rest. IsBodyRead given rest n size last (Err fault)) after came_body
            (λ given rest more end head_read fault_is.
            body_fault_read given rest head_read parsed size parse more (behind ++ more) (ap (λ (l : List ℕ). l ++ more) is) last end fault fault_is)

-- a head's parse isn't refused by the source
pub parse_cause : {Head Message T : Type 0} (IsHeadOf : List ℕ → Head → Type 0) (fields : Head → List Field) (message : Head → List ℕ → Message)
    (limit : Option ℕ)
    (bytes : List ℕ) (before now : ℕ) → before ≤ now → (fault : WireFault) → IsParse IsHeadOf fields message limit bytes (Err fault)
    → HasReadCause {T = T} before now (Err fault)
unfolding IsParse
parse_cause {T = T} IsHeadOf fields message limit bytes before now later Ended is = absurd is
parse_cause {T = T} IsHeadOf fields message limit bytes before now later (Truncated n) is = absurd is
parse_cause {T = T} IsHeadOf fields message limit bytes before now later HeadTooLong is = absurd is
parse_cause {T = T} IsHeadOf fields message limit bytes before now later ReadFault is = absurd is
parse_cause {T = T} IsHeadOf fields message limit bytes before now later BadHead is =
    record { later = later; failed = λ same. absurd (true≢false (sym (ap (is_read {T = T}) same))) }
parse_cause {T = T} IsHeadOf fields message limit bytes before now later Chunked is =
    record { later = later; failed = λ same. absurd (true≢false (sym (ap (is_read {T = T}) same))) }
parse_cause {T = T} IsHeadOf fields message limit bytes before now later BadLength is =
    record { later = later; failed = λ same. absurd (true≢false (sym (ap (is_read {T = T}) same))) }
parse_cause {T = T} IsHeadOf fields message limit bytes before now later (BodyTooLong n) is =
    record { later = later; failed = λ same. absurd (true≢false (sym (ap (is_read {T = T}) same))) }
parse_cause {T = T} IsHeadOf fields message limit bytes before now later NoMemory is =
    record { later = later; failed = λ same. absurd (true≢false (sym (ap (is_read {T = T}) same))) }

-- What a call answers that reads a text which reads back.
use Rattle.std.proofs.Common.{◌≡◌, ℕ, Bool, true, false, nat_lt, List, ◌++◌, length, Option, Result, Ok, Err, refl, sym, subst, ◌∙◌, true≢false, if◌then◌else◌}
use Rattle.http_wire.specs.declared.message.Request.{Request}
use Rattle.http_wire.specs.declared.fault.WireFault.{WireFault}
use Rattle.http_wire.specs.declared.fault.WireFault.TheVariants.{Ended, Truncated, HeadTooLong, BadHead, Chunked, BadLength, BodyTooLong, ReadFault, NoMemory}
use Rattle.http_wire.specs.Messages.{IsRequestAnswer, ReadsRequestAt}
use Rattle.http_wire.proofs.LongerBytes.{IsRequestAnswerOfAll, request_of_all}
use Rattle.http_wire.proofs.UniqueLemmas.{one_request}
use Rattle.lakectl_words.specs.WireRequests.{head_text}
use Rattle.lakectl_requests.specs.SentReadings.{IsSentAnswer, read_back}

-- the fault tells of a limit
abbrev is_limit : WireFault → Bool
is_limit HeadTooLong = true
is_limit (BodyTooLong n) = true
is_limit Ended = false
is_limit (Truncated n) = false
is_limit BadHead = false
is_limit Chunked = false
is_limit BadLength = false
is_limit ReadFault = false
is_limit NoMemory = false

same_fault : {T : Type 0} (a b : WireFault) (x y : Result T WireFault) → x ≡ Err a → y ≡ Err b → x ≡ y → a ≡ b
same_fault a b x y is other same = cc

no_fault : {T : Type 0} (a : T) (b : WireFault) (x y : Result T WireFault) → x ≡ Ok a → y ≡ Err b → x ≡ y → ⊥
no_fault a b x y is other same = cc

module _ (r : Request) (rest : List ℕ) where
  -- what is read of a text, by whether its head and its body are above their limits
  abbrev of_lengths : Bool → Bool → Result (Request × List ℕ) WireFault
  of_lengths long large = if long then Err HeadTooLong else if large then Err (BodyTooLong (length r.body)) else Ok (r, rest)

  of_limit : (long large : Bool) (fault : WireFault) → of_lengths long large ≡ Err fault → is_limit fault ≡ true
  of_limit true large fault is = subst (λ f. is_limit f ≡ true) (same_fault HeadTooLong fault _ _ refl refl is) refl
  of_limit false true fault is = subst (λ f. is_limit f ≡ true) (same_fault (BodyTooLong (length r.body)) fault _ _ refl refl is) refl
  of_limit false false fault is = absurd (no_fault (r, rest) fault _ _ refl refl is)

  module _ (bytes : List ℕ) (reads : ReadsRequestAt bytes (read_back r rest)) where
    no_other : (fault : WireFault) → is_limit fault ≡ false → ReadsRequestAt bytes (Err fault) → ⊥
    no_other fault other reads_fault =
        true≢false (sym (of_limit (nat_lt 16384 (length (head_text r))) (nat_lt 67108864 (length r.body)) fault
        (one_request bytes (read_back r rest) (Err fault) reads reads_fault)) ∙ other)

    answer_of_bytes : (result : Result Request WireFault) (held : List ℕ) (left : Option (List ℕ))
        → IsRequestAnswerOfAll bytes result held left → IsSentAnswer r rest result held left
    answer_of_bytes (Ok read) held left answer =
        (answer.0, answer.1, one_request bytes (read_back r rest) (Ok (read, held ++ answer.0)) reads answer.2)
    answer_of_bytes (Err ReadFault) held left answer = tt
    answer_of_bytes (Err NoMemory) held left answer = tt
    answer_of_bytes (Err HeadTooLong) held left answer = one_request bytes (read_back r rest) (Err HeadTooLong) reads answer
    answer_of_bytes (Err (BodyTooLong n)) held left answer = one_request bytes (read_back r rest) (Err (BodyTooLong n)) reads answer
    answer_of_bytes (Err Ended) held left answer = no_other Ended refl answer
    answer_of_bytes (Err (Truncated n)) held left answer = no_other (Truncated n) refl answer
    answer_of_bytes (Err BadHead) held left answer = no_other BadHead refl answer
    answer_of_bytes (Err Chunked) held left answer = no_other Chunked refl answer
    answer_of_bytes (Err BadLength) held left answer = no_other BadLength refl answer

    pub call_answer : (before had : List ℕ) → before ++ had ≡ bytes → (result : Result Request WireFault) (held : List ℕ) (left : Option (List ℕ))
        → IsRequestAnswer before had result held left → IsSentAnswer r rest result held left
    call_answer before had all result held left answer =
        answer_of_bytes result held left (request_of_all before had bytes all result held left answer)

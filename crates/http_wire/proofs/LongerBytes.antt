-- What stands behind a message changes nothing of it.
use Rattle.std.proofs.Common.{◌≡◌, ◌≤◌, ◌+◌, ◌==◌, ◌&&◌, inl, inr, ℕ, zero, suc, Bool, true, false, List, [], ◌∷◌, ◌++◌, length, take, drop, Option, Some}
use Rattle.std.proofs.Common.{None, Result, Ok, Err, refl, sym, ap, subst, ◌∙◌, arith, append_assoc, true≢false, nat_le, nat_lt, if◌then◌else◌}
use Rattle.std.specs.Bool.{⊤}
use Rattle.std.proofs.lemmas.List.{append-nil, append_cancel_left, length-append, take-append-drop, take-append-le, drop-append-le}
use Rattle.std.proofs.lemmas.Bool.Decides.{nat_tests}
use Rattle.httparse.specs.Grammar.{RequestHead, ResponseHead}
use Rattle.http_wire.specs.declared.message.Field.{Field}
use Rattle.http_wire.specs.declared.message.Request.{Request}
use Rattle.http_wire.specs.declared.message.Reply.{Reply}
use Rattle.http_wire.specs.declared.fault.WireFault.{WireFault}
use Rattle.http_wire.specs.declared.fault.WireFault.TheVariants.{Ended, Truncated, HeadTooLong, BadHead, Chunked, BadLength, BodyTooLong, ReadFault, NoMemory}
use Rattle.http_wire.specs.MessageFields.{body_length}
use Rattle.http_wire.specs.MessageHeads.{ends_empty, skip_pairs, first_front, Opening, headed, too_long, unended, opening_at, opening}
use Rattle.http_wire.specs.Messages.{IsRequestHeadOf, IsReplyHeadOf, fields_of, request_of, reply_of, end_fault, with_body, Gives, Reads, Stays}
use Rattle.http_wire.specs.Messages.{IsUnfinished, IsReadOf, IsAnswer, IsRequestAnswer, IsReplyAnswer, ReadsRequestAt, ReadsReplyAt}
use Rattle.http_wire.proofs.HeadLemmas.{end_of_one}
use Rattle.http_wire.proofs.AnswerLemmas.{gives_as, le_true}

-- ---- how bytes begin

none_found : (x : Option (List ℕ × List ℕ)) (found : List ℕ × List ℕ) → x ≡ None → x ≡ Some found → ⊥
none_found x found none is = cc

-- more stands behind a front that was found
abbrev behind_front : (more : List ℕ) → Option (List ℕ × List ℕ) → Option (List ℕ × List ℕ)
behind_front more None = None
behind_front more (Some found) = Some (found.0, found.1 ++ more)

first_either : (more : List ℕ) (test : Bool) (here found : List ℕ × List ℕ) (later later_more : Option (List ℕ × List ℕ))
    → (later ≡ Some found → later_more ≡ behind_front more (Some found)) → (if test then Some here else later) ≡ Some found
    → (if test then behind_front more (Some here) else later_more) ≡ behind_front more (Some found)
first_either more true here found later later_more on is = ap (behind_front more) is
first_either more false here found later later_more on is = on is

-- a front that was found stays the first
first_longer : (test : List ℕ → Bool) (front rest more : List ℕ) (found : List ℕ × List ℕ) → first_front test front rest ≡ Some found
    → first_front test front (rest ++ more) ≡ behind_front more (Some found)
first_longer test front [] [] found is =
    first_either [] (test front) (front, []) found None None (λ none. absurd (none_found None found refl none)) is
first_longer test front [] (b ∷ more) found is =
    first_either (b ∷ more) (test front) (front, []) found None (first_front test (front ++ b ∷ []) more) (λ none. absurd (none_found None found refl none)) is
first_longer test front (b ∷ rest) more found is =
    first_either more (test front) (front, b ∷ rest) found (first_front test (front ++ b ∷ []) rest) (first_front test (front ++ b ∷ []) (rest ++ more))
    (first_longer test (front ++ b ∷ []) rest more found) is

passes : (test : Bool) (here found : List ℕ × List ℕ) → (if test then Some here else None) ≡ Some found → test ≡ true
passes true here found is = refl
passes false here found is = absurd (none_found None found refl is)

pair_either : (pair : Bool) (on stay on_more more : List ℕ) (found : List ℕ × List ℕ)
    → (first_front ends_empty [] on ≡ Some found → on_more ≡ on ++ more)
    → first_front ends_empty [] (if pair then on else stay) ≡ Some found
    → (if pair then on_more else stay ++ more) ≡ (if pair then on else stay) ++ more
pair_either true on stay on_more more found goes is = goes is
pair_either false on stay on_more more found goes is = refl

-- the pairs that are skipped before a head are the same
skip_longer : (bytes more : List ℕ) (found : List ℕ × List ℕ) → first_front ends_empty [] (skip_pairs bytes) ≡ Some found
    → skip_pairs (bytes ++ more) ≡ skip_pairs bytes ++ more
skip_longer [] more found is = absurd (none_found None found refl is)
skip_longer (a ∷ []) [] found is = refl
skip_longer (a ∷ []) (b ∷ more) found is =
    let feed : a ≡ 10 = end_of_one a 1 (omega arith) (passes (ends_empty (a ∷ [])) (a ∷ [], []) found is) in
    rw feed refl
skip_longer (a ∷ b ∷ bytes) more found is =
    pair_either ((a == 13) && (b == 10)) (skip_pairs bytes) (a ∷ b ∷ bytes) (skip_pairs (bytes ++ more)) more found (skip_longer bytes more found) is

-- the first n of longer bytes are the first n, and maybe more
first_of_longer : (n : ℕ) (bytes more : List ℕ) → (first : List ℕ) × (take n (bytes ++ more) ≡ take n bytes ++ first)
first_of_longer zero bytes more = ([], refl)
first_of_longer (suc n) [] more = (take (suc n) more, refl)
first_of_longer (suc n) (b ∷ bytes) more = let of = first_of_longer n bytes more in (of.0, ap (λ (l : List ℕ). b ∷ l) of.1)

rest_of_longer : (n : ℕ) (bytes more first : List ℕ) → take n (bytes ++ more) ≡ take n bytes ++ first
    → first ++ drop n (bytes ++ more) ≡ drop n bytes ++ more
rest_of_longer n bytes more first is =
    append_cancel_left (take n bytes) (first ++ drop n (bytes ++ more)) (drop n bytes ++ more)
    (sym (append_assoc (take n bytes) first (drop n (bytes ++ more))) ∙ ap (λ (l : List ℕ). l ++ drop n (bytes ++ more)) (sym is)
    ∙ take-append-drop n (bytes ++ more) ∙ ap (λ (l : List ℕ). l ++ more) (sym (take-append-drop n bytes))
    ∙ append_assoc (take n bytes) (drop n bytes) more)

abbrev is_headed : Opening → Bool
is_headed (headed front behind) = true
is_headed too_long = false
is_headed (unended part) = false

abbrev is_long : Opening → Bool
is_long (headed front behind) = false
is_long too_long = true
is_long (unended part) = false

unheaded : (short : Bool) (part front behind : List ℕ) → (if short then unended part else too_long) ≡ headed front behind → ⊥
unheaded true part front behind is = true≢false (sym (ap is_headed is))
unheaded false part front behind is = true≢false (sym (ap is_headed is))

found_of : (bytes front behind : List ℕ) (o : Option (List ℕ × List ℕ)) → opening_at bytes o ≡ headed front behind
    → (found : List ℕ × List ℕ) × (o ≡ Some found) × (opening_at bytes (Some found) ≡ headed front behind)
found_of bytes front behind (Some found) is = (found, refl, is)
found_of bytes front behind None is = absurd (unheaded (nat_lt (length bytes) 16384) (skip_pairs bytes) front behind is)

long_of_test : (short : Bool) (part : List ℕ) → (if short then unended part else too_long) ≡ too_long → short ≡ false
long_of_test true part is = absurd (true≢false (sym (ap is_long is)))
long_of_test false part is = refl

none_of : (bytes : List ℕ) (o : Option (List ℕ × List ℕ)) → opening_at bytes o ≡ too_long → (o ≡ None) × (nat_lt (length bytes) 16384 ≡ false)
none_of bytes (Some found) is = absurd (true≢false (sym (ap is_long is)))
none_of bytes None is = (refl, long_of_test (nat_lt (length bytes) 16384) (skip_pairs bytes) is)

long_of_false : (a b : ℕ) → nat_lt a b ≡ false → b ≤ a
long_of_false a b h = grind (arith, nat_tests)

false_of_long : (a b : ℕ) → b ≤ a → nat_lt a b ≡ false
false_of_long a b h = grind (arith, nat_tests)

-- more bytes stand behind a head
abbrev behind_head : (more : List ℕ) → Opening → Opening
behind_head more (headed front behind) = headed front (behind ++ more)
behind_head more too_long = too_long
behind_head more (unended part) = unended part

headed_longer : (bytes more front behind : List ℕ) → opening bytes ≡ headed front behind → opening (bytes ++ more) ≡ headed front (behind ++ more)
unfolding opening
headed_longer bytes more front behind is =
    let first : List ℕ = skip_pairs (take 16384 bytes) in
    let at = found_of bytes front behind (first_front ends_empty [] first) is in
    let of = first_of_longer 16384 bytes more in
    ap (λ (l : List ℕ). opening_at (bytes ++ more) (first_front ends_empty [] l))
    (ap skip_pairs of.1 ∙ skip_longer (take 16384 bytes) of.0 at.0 at.1)
    ∙ ap (opening_at (bytes ++ more)) (first_longer ends_empty [] first of.0 at.0 at.1)
    ∙ ap (headed at.0.0)
    (append_assoc at.0.1 of.0 (drop 16384 (bytes ++ more)) ∙ ap (λ (l : List ℕ). at.0.1 ++ l) (rest_of_longer 16384 bytes more of.0 of.1)
    ∙ sym (append_assoc at.0.1 (drop 16384 bytes) more))
    ∙ ap (behind_head more) at.2

long_longer : (bytes more : List ℕ) → opening bytes ≡ too_long → opening (bytes ++ more) ≡ too_long
unfolding opening
long_longer bytes more is =
    let none = none_of bytes (first_front ends_empty [] (skip_pairs (take 16384 bytes))) is in
    let long : 16384 ≤ length bytes = long_of_false (length bytes) 16384 none.1 in
    ap (λ (l : List ℕ). opening_at (bytes ++ more) (first_front ends_empty [] (skip_pairs l))) (take-append-le 16384 bytes more long)
    ∙ ap (opening_at (bytes ++ more)) none.0
    ∙ ap (λ (t : Bool). if t then unended (skip_pairs (bytes ++ more)) else too_long)
    (false_of_long (length (bytes ++ more)) 16384 (omega (arith, long, length-append bytes more)))

-- ---- what is read of them

no_end_stays : (part : List ℕ) → Stays (end_fault part) → ⊥
no_end_stays [] stays = stays
no_end_stays (b ∷ part) stays = either (length (b ∷ part) == 0) stays
  where
    either : (none : Bool) → Stays (if none then Ended else Truncated (length (b ∷ part))) → ⊥
    either true stays = stays
    either false stays = stays

module _ {Head Message : Type 0} (IsHeadOf : List ℕ → Head → Type 0) (fields : Head → List Field) (message : Head → List ℕ → Message) (limit : Option ℕ) where
  abbrev Answer : Type 0
  Answer = Result (Message × List ℕ) WireFault

  -- an answer that stays, whatever comes behind
  abbrev Remains : Answer → Type 0
  Remains (Ok read) = ⊤
  Remains (Err fault) = Stays fault

  abbrev longer : (more : List ℕ) → Answer → Answer
  longer more (Ok read) = Ok (read.0, read.1 ++ more)
  longer more (Err fault) = Err fault

  module _ (head : Head) (front behind more : List ℕ) (answer : Answer) (remains : Remains answer) where
    whole_longer : (n : ℕ) (whole : Bool) → nat_le n (length behind) ≡ whole
        → answer ≡ (if whole then Ok (message head (take n behind), drop n behind) else Err (Truncated (length front + length behind)))
        → longer more answer ≡ with_body (message head) front (behind ++ more) (Ok n)
    whole_longer n true test is =
        let within : n ≤ length behind = within_of n (length behind) test in
        ap (longer more) is
        ∙ ap (λ (l : List ℕ). Ok (message head l, drop n behind ++ more)) (sym (take-append-le n behind more within))
        ∙ ap (λ (l : List ℕ). Ok (message head (take n (behind ++ more)), l)) (sym (drop-append-le n behind more within))
        ∙ ap (λ (t : Bool). if t then Ok (message head (take n (behind ++ more)), drop n (behind ++ more)) else Err (Truncated (length front + length
        (behind ++ more))))
        (sym (le_true n (length (behind ++ more)) (omega (arith, within, length-append behind more))))
      where
        within_of : (a b : ℕ) → nat_le a b ≡ true → a ≤ b
        within_of a b h = grind (arith, nat_tests)
    whole_longer n false test is = absurd (subst Remains is remains)

    body_longer : (size : Result ℕ WireFault) → answer ≡ with_body (message head) front behind size
        → longer more answer ≡ with_body (message head) front (behind ++ more) size
    body_longer (Ok n) is = whole_longer n (nat_le n (length behind)) refl is
    body_longer (Err fault) is = ap (longer more) is

  reads_longer : (bytes more : List ℕ) (answer : Answer) → Remains answer → Reads IsHeadOf fields message limit bytes answer
      → Reads IsHeadOf fields message limit (bytes ++ more) (longer more answer)
  reads_longer bytes more answer remains reads = at (opening bytes) refl reads
    where
      at : (o : Opening) → opening bytes ≡ o → Gives IsHeadOf fields message limit o answer
          → Reads IsHeadOf fields message limit (bytes ++ more) (longer more answer)
      at too_long opens gives =
          gives_as IsHeadOf fields message limit (opening (bytes ++ more)) too_long (longer more answer) (long_longer bytes more opens)
          (ap (longer more) gives)
      at (unended part) opens gives = absurd (no_end_stays part (subst Remains gives remains))
      at (headed front behind) opens (inl gives) =
          gives_as IsHeadOf fields message limit (opening (bytes ++ more)) (headed front (behind ++ more)) (longer more answer)
          (headed_longer bytes more front behind opens)
          (inl (gives.0, gives.1, body_longer gives.0 front behind more answer remains (body_length limit (fields gives.0)) gives.2))
      at (headed front behind) opens (inr gives) =
          gives_as IsHeadOf fields message limit (opening (bytes ++ more)) (headed front (behind ++ more)) (longer more answer)
          (headed_longer bytes more front behind opens) (inr (gives.0, ap (longer more) gives.1))

  -- What a call's answer says of all the bytes, those held first and those of the source behind them, and of what is held and left then.
  abbrev pub IsAnswerOfAll : List ℕ → Result Message WireFault → (held : List ℕ) → (left : Option (List ℕ)) → Type 0
  IsAnswerOfAll bytes (Ok value) held left = (rest : List ℕ) × (left ≡ Some rest) × Reads IsHeadOf fields message limit bytes (Ok (value, held ++ rest))
  IsAnswerOfAll bytes (Err NoMemory) held left = ⊤
  IsAnswerOfAll bytes (Err ReadFault) held left =
      (given : List ℕ) × (rest : List ℕ) × (given ++ rest ≡ bytes) × (left ≡ Some rest) × IsUnfinished IsHeadOf fields message limit given
  IsAnswerOfAll bytes (Err Ended) held left = Reads IsHeadOf fields message limit bytes (Err Ended)
  IsAnswerOfAll bytes (Err (Truncated n)) held left = Reads IsHeadOf fields message limit bytes (Err (Truncated n))
  IsAnswerOfAll bytes (Err HeadTooLong) held left = Reads IsHeadOf fields message limit bytes (Err HeadTooLong)
  IsAnswerOfAll bytes (Err BadHead) held left = Reads IsHeadOf fields message limit bytes (Err BadHead)
  IsAnswerOfAll bytes (Err Chunked) held left = Reads IsHeadOf fields message limit bytes (Err Chunked)
  IsAnswerOfAll bytes (Err BadLength) held left = Reads IsHeadOf fields message limit bytes (Err BadLength)
  IsAnswerOfAll bytes (Err (BodyTooLong n)) held left = Reads IsHeadOf fields message limit bytes (Err (BodyTooLong n))

  module _ (before had bytes : List ℕ) (all : before ++ had ≡ bytes) (held : List ℕ) (left : Option (List ℕ)) where
    whole : (more rest : List ℕ) → more ++ rest ≡ had → (before ++ more) ++ rest ≡ bytes
    whole more rest gave = append_assoc before more rest ∙ ap (λ (l : List ℕ). before ++ l) gave ∙ all

    -- an answer of what was given is one of all the bytes
    to_all : (more rest : List ℕ) → more ++ rest ≡ had → (answer : Answer) → Remains answer → Reads IsHeadOf fields message limit (before ++ more) answer
        → Reads IsHeadOf fields message limit bytes (longer rest answer)
    to_all more rest gave answer remains reads =
        subst (λ (l : List ℕ). Reads IsHeadOf fields message limit l (longer rest answer)) (whole more rest gave)
        (reads_longer (before ++ more) rest answer remains reads)

    -- where nothing is left, they are all the bytes
    to_end : (more rest : List ℕ) → more ++ rest ≡ had → rest ≡ [] → (answer : Answer) → Reads IsHeadOf fields message limit (before ++ more) answer
        → Reads IsHeadOf fields message limit bytes answer
    to_end more rest gave ended answer reads =
        subst (λ (l : List ℕ). Reads IsHeadOf fields message limit l answer)
        (sym (append-nil (before ++ more)) ∙ ap (λ (l : List ℕ). (before ++ more) ++ l) (sym ended) ∙ whole more rest gave) reads

    pub answer_of_all : (answer : Result Message WireFault) → IsAnswer IsHeadOf fields message limit before had answer held left
        → IsAnswerOfAll bytes answer held left
    unfolding IsReadOf
    answer_of_all (Ok value) is = (is.rest, is.left_is, to_all is.more is.rest is.gave (Ok (value, held)) tt is.read)
    answer_of_all (Err NoMemory) is = tt
    answer_of_all (Err ReadFault) is = (before ++ is.more, is.rest, whole is.more is.rest is.gave, is.left_is, is.read)
    answer_of_all (Err Ended) is = to_end is.more is.rest is.gave is.read.1 (Err Ended) is.read.0
    answer_of_all (Err (Truncated n)) is = to_end is.more is.rest is.gave is.read.1 (Err (Truncated n)) is.read.0
    answer_of_all (Err HeadTooLong) is = to_all is.more is.rest is.gave (Err HeadTooLong) tt is.read
    answer_of_all (Err BadHead) is = to_all is.more is.rest is.gave (Err BadHead) tt is.read
    answer_of_all (Err Chunked) is = to_all is.more is.rest is.gave (Err Chunked) tt is.read
    answer_of_all (Err BadLength) is = to_all is.more is.rest is.gave (Err BadLength) tt is.read
    answer_of_all (Err (BodyTooLong n)) is = to_all is.more is.rest is.gave (Err (BodyTooLong n)) tt is.read

abbrev request_fields : RequestHead → List Field
request_fields head = fields_of head.fields

abbrev reply_fields : ResponseHead → List Field
reply_fields head = fields_of head.fields

pub longer_request : (bytes more : List ℕ) (request : Request) (behind : List ℕ) → ReadsRequestAt bytes (Ok (request, behind))
    → ReadsRequestAt (bytes ++ more) (Ok (request, behind ++ more))
longer_request bytes more request behind =
    reads_longer IsRequestHeadOf request_fields request_of (Some 67108864) bytes more (Ok (request, behind)) tt

pub longer_request_fault : (bytes more : List ℕ) (fault : WireFault) → Stays fault → ReadsRequestAt bytes (Err fault)
    → ReadsRequestAt (bytes ++ more) (Err fault)
longer_request_fault bytes more fault = reads_longer IsRequestHeadOf request_fields request_of (Some 67108864) bytes more (Err fault)

pub longer_reply : (bytes more : List ℕ) (reply : Reply) (behind : List ℕ) → ReadsReplyAt bytes (Ok (reply, behind))
    → ReadsReplyAt (bytes ++ more) (Ok (reply, behind ++ more))
longer_reply bytes more reply behind = reads_longer IsReplyHeadOf reply_fields reply_of None bytes more (Ok (reply, behind)) tt

pub longer_reply_fault : (bytes more : List ℕ) (fault : WireFault) → Stays fault → ReadsReplyAt bytes (Err fault) → ReadsReplyAt (bytes ++ more) (Err fault)
longer_reply_fault bytes more fault = reads_longer IsReplyHeadOf reply_fields reply_of None bytes more (Err fault)

-- ---- what a call answers, of all the bytes

abbrev pub IsRequestAnswerOfAll : List ℕ → Result Request WireFault → (held : List ℕ) → (left : Option (List ℕ)) → Type 0
IsRequestAnswerOfAll = IsAnswerOfAll IsRequestHeadOf request_fields request_of (Some 67108864)

abbrev pub IsReplyAnswerOfAll : List ℕ → Result Reply WireFault → (held : List ℕ) → (left : Option (List ℕ)) → Type 0
IsReplyAnswerOfAll = IsAnswerOfAll IsReplyHeadOf reply_fields reply_of None

pub request_of_all : (before had bytes : List ℕ) → before ++ had ≡ bytes → (answer : Result Request WireFault) (held : List ℕ) (left : Option (List ℕ))
    → IsRequestAnswer before had answer held left → IsRequestAnswerOfAll bytes answer held left
request_of_all before had bytes all answer held left =
    answer_of_all IsRequestHeadOf request_fields request_of (Some 67108864) before had bytes all held left answer

pub reply_of_all : (before had bytes : List ℕ) → before ++ had ≡ bytes → (answer : Result Reply WireFault) (held : List ℕ) (left : Option (List ℕ))
    → IsReplyAnswer before had answer held left → IsReplyAnswerOfAll bytes answer held left
reply_of_all before had bytes all answer held left = answer_of_all IsReplyHeadOf reply_fields reply_of None before had bytes all held left answer

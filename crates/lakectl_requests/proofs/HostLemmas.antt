-- Which hosts read back.
use Rattle.std.proofs.Common.{◌≡◌, ◌≤◌, ◌+◌, ℕ, nat_le, Bool, true, false, List, [], ◌∷◌, ◌++◌, length, reverse, take, drop, All, codes, Option, Some}
use Rattle.std.proofs.Common.{Result, Ok, Err, refl, sym, ap, subst, inl, inr, ◌∙◌, arith, if◌then◌else◌}
use Rattle.std.proofs.lemmas.Bool.{cases_Bool}
use Rattle.std.proofs.lemmas.List.{reverse-append, reverse-reverse}
use Rattle.httparse.specs.Grammar as Grammar
use Rattle.httparse.specs.Grammar.{AllPass, is_ows, is_value_byte, skip_ows, trim_ows, IsField, RequestHead}
use Rattle.httparse.proofs.TrimLemmas.{AllPass-trim_ows}
use Rattle.http_wire.specs.declared.message.Field.{Field}
use Rattle.http_wire.specs.declared.message.Request.{Request}
use Rattle.http_wire.specs.declared.fault.WireFault.{WireFault}
use Rattle.http_wire.specs.declared.fault.WireFault.TheVariants.{Truncated, HeadTooLong, BadHead}
use Rattle.http_wire.specs.MessageFields.{body_length}
use Rattle.http_wire.specs.MessageHeads.{Opening, headed, too_long, unended, opening}
use Rattle.http_wire.specs.Messages.{IsRequestHeadOf, fields_of, request_of, with_body, end_fault, Gives, ReadsRequestAt}
use Rattle.lakectl_words.specs.WireRequests.{field_of}
use Rattle.lakectl_requests.specs.SentReadings.{IsFieldValue}
use Rattle.lakectl_requests.proofs.WordsLemmas.{made_fields}

-- ---- what is trimmed has no blanks at its ends

skip_length : (bs : List ℕ) → length (skip_ows bs) ≤ length bs
skip_length [] = omega arith
skip_length (b ∷ bs) =
    elim (cases_Bool (is_ows b)) [
      | inl blank ↦ rw blank (omega (arith, skip_length bs))
      | inr other ↦ rw other (omega arith)
    ]

skip_skip : (bs : List ℕ) → skip_ows (skip_ows bs) ≡ skip_ows bs
skip_skip [] = refl
skip_skip (b ∷ bs) =
    elim (cases_Bool (is_ows b)) [
      | inl blank ↦ rw blank (skip_skip bs)
      | inr other ↦ rw (other, other) refl
    ]

skip_behind : (bs : List ℕ) → (front : List ℕ) × (front ++ skip_ows bs ≡ bs)
skip_behind [] = ([], refl)
skip_behind (b ∷ bs) =
    let more = skip_behind bs in
    elim (cases_Bool (is_ows b)) [
      | inl blank ↦ (b ∷ more.0, rw blank (ap (λ (l : List ℕ). b ∷ l) more.1))
      | inr other ↦ ([], rw other refl)
    ]

-- a front of bytes without a blank at their front has none
front_skip : (bs more : List ℕ) → skip_ows (bs ++ more) ≡ bs ++ more → skip_ows bs ≡ bs
front_skip [] more none = refl
front_skip (b ∷ bs) more none =
    elim (cases_Bool (is_ows b)) [
      | inl blank ↦ absurd (omega (
        arith,
        skip_length (bs ++ more),
        ap length (subst (λ (t : Bool). (if t then skip_ows (bs ++ more) else b ∷ (bs ++ more)) ≡ b ∷ (bs ++ more)) blank none),
      ))
      | inr other ↦ rw other refl
    ]

trim_trim : (bs : List ℕ) → trim_ows (trim_ows bs) ≡ trim_ows bs
unfolding trim_ows
trim_trim bs =
    let y : List ℕ = skip_ows bs in
    let z : List ℕ = skip_ows (reverse y) in
    let behind = skip_behind (reverse y) in
    let whole : reverse z ++ reverse behind.0 ≡ y = sym (reverse-append behind.0 z) ∙ ap reverse behind.1 ∙ reverse-reverse y in
    let front : skip_ows (reverse z) ≡ reverse z =
    front_skip (reverse z) (reverse behind.0) (subst (λ (l : List ℕ). skip_ows l ≡ l) (sym whole) (skip_skip bs)) in
    ap (λ (l : List ℕ). reverse (skip_ows (reverse l))) front ∙ ap (λ (l : List ℕ). reverse (skip_ows l)) (reverse-reverse z)
    ∙ ap reverse (skip_skip (reverse y))

-- ---- a request that was read

-- the lines of its fields
pub record HasLines (request : Request) : Type 0 where
  pub lines : List Grammar.Field
  pub valid : All IsField lines
  pub says : fields_of lines ≡ request.fields

-- what is read
abbrev Answer : Type 0
Answer = Result (Request × List ℕ) WireFault

no_answer : (a : Request × List ℕ) (fault : WireFault) (x y : Answer) → x ≡ Ok a → y ≡ Err fault → x ≡ y → ⊥
no_answer a fault x y is other same = cc

one_answer : (a b : Request × List ℕ) (x y : Answer) → x ≡ Ok a → y ≡ Ok b → x ≡ y → b.0 ≡ a.0
one_answer a b x y is other same = cc

module _ (r : Request) (rest : List ℕ) where
  abbrev read : Answer
  read = Ok (r, rest)

  -- what a head gives with the bytes behind it, where its body is all there or isn't
  abbrev there : RequestHead → (front behind : List ℕ) → (n : ℕ) → Bool → Answer
  there head front behind n b =
      if b then Ok (request_of head (take n behind), drop n behind) else Err (Truncated (length front + length behind))

  of_body : (head : RequestHead) (front behind : List ℕ) (n : ℕ) (b : Bool) → IsRequestHeadOf front head → read ≡ there head front behind n b
      → HasLines r
  of_body head front behind n true whole is = record {
    lines = head.fields;
    valid = whole.reads.0.fields;
    says = ap (λ (q : Request). q.fields) (one_answer (r, rest) (request_of head (take n behind), drop n behind) _ _ refl refl is);
  }
  of_body head front behind n false whole is = absurd (no_answer (r, rest) (Truncated (length front + length behind)) _ _ refl refl is)

  of_length : (head : RequestHead) (front behind : List ℕ) → IsRequestHeadOf front head → (size : Result ℕ WireFault)
      → read ≡ with_body (request_of head) front behind size → HasLines r
  of_length head front behind whole (Err fault) is = absurd (no_answer (r, rest) fault _ _ refl refl is)
  of_length head front behind whole (Ok n) is = of_body head front behind n (nat_le n (length behind)) whole is

  of_opening : (o : Opening) → Gives IsRequestHeadOf (λ (head : RequestHead). fields_of head.fields) request_of (Some 67108864) o (Ok (r, rest)) → HasLines r
  of_opening too_long is = absurd (no_answer (r, rest) HeadTooLong _ _ refl refl is)
  of_opening (unended part) is = absurd (no_answer (r, rest) (end_fault part) _ _ refl refl is)
  of_opening (headed front behind) (inl x) = of_length x.0 front behind x.1 (body_length (Some 67108864) (fields_of x.0.fields)) x.2
  of_opening (headed front behind) (inr x) = absurd (no_answer (r, rest) BadHead _ _ refl refl x.1)

  pub lines_read : (bytes : List ℕ) → ReadsRequestAt bytes (Ok (r, rest)) → HasLines r
  lines_read bytes reads = of_opening (opening bytes) reads

-- ---- its host

first_value : List Field → List ℕ
first_value [] = []
first_value (field ∷ fields) = field.value

first_host : (host : List ℕ) (more : List Field) (lines : List Grammar.Field) → All IsField lines
    → fields_of lines ≡ field_of (codes "Host") host ∷ more → IsFieldValue host
unfolding first_value
first_host host more [] valid says = absurd (omega (arith, ap length says))
first_host host more (line ∷ lines) valid says =
    let value : trim_ows line.raw ≡ host = ap first_value says in
    let is : IsField line = valid 0 line (omega arith) in
    record {
      bytes = subst (AllPass is_value_byte) value (AllPass-trim_ows is_value_byte line.raw is.raw);
      ends = ap trim_ows (sym value) ∙ trim_trim line.raw ∙ value;
    }

-- only such a host is read back
pub host_read : (host : List ℕ) (user kind : Option (List ℕ)) (r : Request) (bytes rest : List ℕ) → r.fields ≡ made_fields host user kind r.body
    → ReadsRequestAt bytes (Ok (r, rest)) → IsFieldValue host
host_read host user kind r bytes rest fields reads =
    let read = lines_read r rest bytes reads in
    first_host host _ read.lines read.valid (read.says ∙ fields)

-- What comes of a request that a session of its own serves.
use Rattle.std.proofs.Common.{◌≡◌, ◌≢◌, ◌⊎◌, inl, inr, ℕ, Bool, true, false, List, [], ◌∷◌, ◌++◌, length, Option, Some, None, Result, Ok, Err}
use Rattle.std.proofs.Common.{if◌then◌else◌, nat_lt, refl, sym, ap, subst, ◌∙◌, ◌<◌, arith, append-nil}
use Rattle.std.specs.Bool.{⊤}
use Rattle.std.proofs.lemmas.List.Elements.{All-head}
use Rattle.lake_base.specs.Outside.{Rose}
use Rattle.http_wire.specs.Messages.{ReadsRequestAt}
use Rattle.http_wire.specs.declared.fault.WireFault.{WireFault}
use Rattle.http_wire.specs.declared.fault.WireFault.TheVariants.{BodyTooLong, Ended, HeadTooLong, Truncated}
use Rattle.http_wire.specs.declared.message.Request.{Request}
use Rattle.http_wire.proofs.UniqueLemmas.{one_request}
use Rattle.lakectl_words.specs.WireRequests.{head_text}
use Rattle.lakectl_requests.specs.SentReadings.{read_back}
use Rattle.lake_session.specs.SessionItems.{AreFirst, NoneCloses, SessionItem, item_text}
use Rattle.lake_session.specs.SessionTurns.{IsLeft}
use Rattle.lake_session.specs.WholeSessions.{AreRequests, HasCause, IsEnded, IsSession}
use Rattle.lake_session.proofs.ItemLemmas.{fault_of_all, first_longer}
use Rattle.lake_session.specs.declared.report.End.{End}
use Rattle.lake_session.specs.declared.report.End.TheVariants as end
use Rattle.lake_session.specs.declared.report.Placed.{Placed}
use Rattle.lakectl_session.specs.Exchanges.{Answered, AnsweredUnwritten, Exchanges, LakeView, ServesItems, Starved, Unread, UnservedUnwritten}
use Rattle.lakectl_session.specs.SessionsInMemory.{IsClosingText, IsSessionOf, in_memory}

-- ---- how a request's text reads

abbrev Read : Type 0
Read = Result (Request × List ℕ) WireFault

abbrev picked : (long large : Bool) → Request → Read
picked long large request = if long then Err HeadTooLong else if large then Err (BodyTooLong (length request.body)) else Ok (request, [])

picked_request : (long large : Bool) (request r : Request) (rest : List ℕ) → picked long large request ≡ Ok (r, rest) → r ≡ request
picked_request true large request r rest is = let never : ⊥ = cc is in absurd never
picked_request false true request r rest is = let never : ⊥ = cc is in absurd never
picked_request false false request r rest is =
    let both : (request, []) ≡ (r, rest) = cc is in
    sym (ap (λ (p : Request × List ℕ). p.0) both)

picked_whole : (long large : Bool) (request r : Request) (rest : List ℕ) → picked long large request ≡ Ok (r, rest)
    → picked long large request ≡ Ok (request, [])
picked_whole true large request r rest is = let never : ⊥ = cc is in absurd never
picked_whole false true request r rest is = let never : ⊥ = cc is in absurd never
picked_whole false false request r rest is = refl

picked_fault : (long large : Bool) (request : Request) (fault : WireFault) → picked long large request ≡ Err fault
    → (fault ≡ HeadTooLong) ⊎ ((n : ℕ) × (fault ≡ BodyTooLong n))
picked_fault true large request fault is = let same : HeadTooLong ≡ fault = cc is in inl (sym same)
picked_fault false true request fault is =
    let same : BodyTooLong (length request.body) ≡ fault = cc is in inr (length request.body, sym same)
picked_fault false false request fault is = let never : ⊥ = cc is in absurd never

read_request : (request r : Request) (rest : List ℕ) → read_back request [] ≡ Ok (r, rest) → r ≡ request
read_request request r rest is =
    picked_request (nat_lt 16384 (length (head_text request))) (nat_lt 67108864 (length request.body)) request r rest is

-- what is read of a request that is read at all
read_whole : (request r : Request) (rest : List ℕ) → read_back request [] ≡ Ok (r, rest) → read_back request [] ≡ Ok (request, [])
read_whole request r rest is =
    picked_whole (nat_lt 16384 (length (head_text request))) (nat_lt 67108864 (length request.body)) request r rest is

read_fault : (request : Request) (fault : WireFault) → read_back request [] ≡ Err fault
    → (fault ≡ HeadTooLong) ⊎ ((n : ℕ) × (fault ≡ BodyTooLong n))
read_fault request fault is = picked_fault (nat_lt 16384 (length (head_text request))) (nat_lt 67108864 (length request.body)) request fault is

not_ended : (request : Request) → read_back request [] ≡ Err Ended → ⊥
not_ended request is = elim (read_fault request Ended is) [
  | inl head ↦ let never : ⊥ = cc head in never
  | inr body ↦ let told : Ended ≡ BodyTooLong body.0 = body.1 in let never : ⊥ = cc told in never
]

not_truncated : (request : Request) (n : ℕ) → read_back request [] ≡ Err (Truncated n) → ⊥
not_truncated request n is = elim (read_fault request (Truncated n) is) [
  | inl head ↦ let never : ⊥ = cc head in never
  | inr body ↦ let told : Truncated n ≡ BodyTooLong body.0 = body.1 in let never : ⊥ = cc told in never
]

-- ---- lists of items

none_behind : (before : List SessionItem) (last : SessionItem) → [] ≡ before ++ last ∷ [] → ⊥
none_behind [] last is = let never : ⊥ = cc is in never
none_behind (item ∷ before) last is = let never : ⊥ = cc is in never

-- the first of two or more items doesn't close
first_open : (item other : SessionItem) (more before : List SessionItem) (last : SessionItem) → item ∷ other ∷ more ≡ before ++ last ∷ []
    → NoneCloses before → item.request.close ≡ false
first_open item other more [] last is none = let never : ⊥ = cc is in absurd never
first_open item other more (first ∷ before) last is none =
    let same : item ≡ first = cc is in
    ap (λ (i : SessionItem). i.request.close) same ∙ All-head (λ (i : SessionItem). i.request.close ≡ false) first before none

-- ---- a session over the bytes of a request

-- what all the bytes behind the requests read as, by how the session ended
abbrev LeavesFault : End → (left : List ℕ) → Type 0
LeavesFault end.SourceEnded left = ReadsRequestAt left (Err Ended)
LeavesFault (end.Wire fault) left = ReadsRequestAt left (Err fault)
LeavesFault ended left = ⊤

leaves_fault : (ended : End) (rest left : List ℕ) → IsLeft ended rest left → LeavesFault ended (rest ++ left)
leaves_fault end.SourceEnded rest left is = fault_of_all Ended rest left is
leaves_fault (end.Wire fault) rest left is = fault_of_all fault rest left is
leaves_fault end.Closed rest left is = tt
leaves_fault end.ReadFault rest left is = tt
leaves_fault end.WriteFault rest left is = tt
leaves_fault end.RequestLimit rest left is = tt
leaves_fault end.NoMemory rest left is = tt

module _ (request : Request) (text : List ℕ) (closing : IsClosingText request text) (old now : LakeView) where
  -- what is known of a session with these items that ended so and wrote this
  record Course (items : List SessionItem) (ended : End) (out : List ℕ) : Type 0 where
    rest : Option (List ℕ)
    left : List ℕ
    first : AreFirst items text left
    is_left : LeavesFault ended left
    placed : List Placed
    is_end : IsEnded items ended rest out placed
    quiet : ended ≢ end.ReadFault
    serves : ServesItems old now items

  -- what was written, where the sink didn't fail
  abbrev IsTold : End → (out : List ℕ) → Option (List ℕ) → Type 0
  IsTold ended out written = ((written ≡ Some out) × (ended ≢ end.WriteFault)) ⊎ ((written ≡ None) × (ended ≡ end.WriteFault))

  -- the bytes have one reading
  same_read : (read : Read) → ReadsRequestAt text read → read_back request [] ≡ read
  same_read read reads = one_request text (read_back request []) read closing.reads reads

  its_request : (item : SessionItem) (items : List SessionItem) (left : List ℕ) → AreFirst (item ∷ items) text left → item.request ≡ request
  its_request item items left first = read_request request item.request first.0 (same_read (Ok (item.request, first.0)) first.1)

  its_bytes : (item : SessionItem) (items : List SessionItem) (left : List ℕ) → AreFirst (item ∷ items) text left
      → read_back request [] ≡ Ok (request, [])
  its_bytes item items left first = read_whole request item.request first.0 (same_read (Ok (item.request, first.0)) first.1)

  never_open : (item : SessionItem) (items : List SessionItem) (left : List ℕ) → AreFirst (item ∷ items) text left
      → item.request.close ≡ false → ⊥
  never_open item items left first stays =
      let closed : item.request.close ≡ true = ap (λ (r : Request). r.close) (its_request item items left first) ∙ closing.close in
      let both : true ≡ false = sym closed ∙ stays in
      cc both

  open_item : (item : SessionItem) (items : List SessionItem) (left : List ℕ) → AreFirst (item ∷ items) text left → NoneCloses (item ∷ items) → ⊥
  open_item item items left first none = never_open item items left first (All-head (λ (i : SessionItem). i.request.close ≡ false) item items none)

  -- nothing was served
  fault_of : (fault : WireFault) (left : List ℕ) → left ≡ text → ReadsRequestAt left (Err fault) → read_back request [] ≡ Err fault
  fault_of fault left same reads = same_read (Err fault) (subst (λ (bytes : List ℕ). ReadsRequestAt bytes (Err fault)) same reads)

  unserved : (ended : End) (out : List ℕ) → Course [] ended out → (written : Option (List ℕ)) → IsTold ended out written
      → Exchanges request old now written
  unserved end.SourceEnded out course written told = absurd (not_ended request (fault_of Ended course.left course.first course.is_left))
  unserved end.Closed out course written told = absurd (none_behind course.is_end.0 course.is_end.1 course.is_end.2)
  unserved end.ReadFault out course written told = absurd (course.quiet refl)
  unserved end.WriteFault out course written told = elim told [
    | inl whole ↦ absurd (whole.1 refl)
    | inr part ↦ UnservedUnwritten course.serves part.0
  ]
  unserved (end.Wire fault) out course written told = elim told [
    | inl whole ↦ elim course.is_end.1 [
      | inl cut ↦ absurd (not_truncated request cut.0 (fault_of (Truncated cut.0) course.left course.first
          (subst (λ (f : WireFault). ReadsRequestAt course.left (Err f)) cut.1 course.is_left)))
      | inr answered ↦ Unread fault answered.0 (fault_of fault course.left course.first course.is_left) answered.1 course.serves
          (whole.0 ∙ ap Some answered.2.0)
    ]
    | inr part ↦ let never : ⊥ = cc part.1 in absurd never
  ]
  unserved end.RequestLimit out course written told = let never : ⊥ = cc course.is_end.1 in absurd never
  unserved end.NoMemory out course written told = elim told [
    | inl whole ↦ Starved course.serves (whole.0 ∙ ap Some course.is_end.1.0)
    | inr part ↦ let never : ⊥ = cc part.1 in absurd never
  ]

  -- one request was
  one : (item : SessionItem) (ended : End) (out : List ℕ) → Course (item ∷ []) ended out → (written : Option (List ℕ)) → IsTold ended out written
      → Exchanges request old now written
  one item end.Closed out course written told = elim told [
    | inl whole ↦ Answered item (its_request item [] course.left course.first) (its_bytes item [] course.left course.first) course.serves
        (whole.0 ∙ ap Some (course.is_end.5.0 ∙ append-nil (item_text 1 item ++ []) ∙ append-nil (item_text 1 item)))
    | inr part ↦ let never : ⊥ = cc part.1 in absurd never
  ]
  one item end.WriteFault out course written told = elim told [
    | inl whole ↦ absurd (whole.1 refl)
    | inr part ↦ AnsweredUnwritten item (its_request item [] course.left course.first) (its_bytes item [] course.left course.first)
        course.serves part.0
  ]
  one item end.SourceEnded out course written told = absurd (open_item item [] course.left course.first course.is_end.0.0)
  one item end.ReadFault out course written told = absurd (course.quiet refl)
  one item (end.Wire fault) out course written told = absurd (open_item item [] course.left course.first course.is_end.0.0)
  one item end.RequestLimit out course written told = absurd (open_item item [] course.left course.first course.is_end.0)
  one item end.NoMemory out course written told = absurd (open_item item [] course.left course.first course.is_end.0.0)

  -- no others are, behind one that closes
  open_first : (item other : SessionItem) (more : List SessionItem) (left : List ℕ) → AreFirst (item ∷ other ∷ more) text left
      → (before : List SessionItem) (last : SessionItem) → item ∷ other ∷ more ≡ before ++ last ∷ [] → NoneCloses before → ⊥
  open_first item other more left first before last is none =
      never_open item (other ∷ more) left first (first_open item other more before last is none)

  many : (item other : SessionItem) (more : List SessionItem) (ended : End) (out : List ℕ) → Course (item ∷ other ∷ more) ended out → ⊥
  many item other more end.Closed out course =
      open_first item other more course.left course.first course.is_end.0 course.is_end.1 course.is_end.2 course.is_end.3.0
  many item other more end.WriteFault out course = elim course.is_end [
    | inl part ↦ open_first item other more course.left course.first part.0 part.1 part.3 part.4.0
    | inr whole ↦ open_item item (other ∷ more) course.left course.first whole.2.0
  ]
  many item other more end.SourceEnded out course = open_item item (other ∷ more) course.left course.first course.is_end.0.0
  many item other more end.ReadFault out course = absurd (course.quiet refl)
  many item other more (end.Wire fault) out course = open_item item (other ∷ more) course.left course.first course.is_end.0.0
  many item other more end.RequestLimit out course = open_item item (other ∷ more) course.left course.first course.is_end.0
  many item other more end.NoMemory out course = open_item item (other ∷ more) course.left course.first course.is_end.0.0

  came : (items : List SessionItem) (ended : End) (out : List ℕ) → Course items ended out → (written : Option (List ℕ)) → IsTold ended out written
      → Exchanges request old now written
  came [] ended out course written told = unserved ended out course written told
  came (item ∷ []) ended out course written told = one item ended out course written told
  came (item ∷ other ∷ more) ended out course written told = absurd (many item other more ended out course)

  -- ---- what is known of it

  never_read_fault : (left : Option (List ℕ)) (out : List ℕ) (faults : ℕ) (ended : End)
      → HasCause (in_memory old (Some text) [] 0) (in_memory now left out faults) ended → ended ≢ end.ReadFault
  never_read_fault left out faults ended cause is =
      let rose : Rose 0 0 = subst (HasCause (in_memory old (Some text) [] 0) (in_memory now left out faults)) is cause in
      let low : 0 < 0 = rose (omega arith) in
      omega (arith, low)

  told_of : (written : Option (List ℕ)) → (s : IsSessionOf text old now written) → IsTold s.report.end s.out written
  told_of None s = inr (refl, s.failed refl)
  told_of (Some bytes) s = inl (ap Some (s.whole bytes refl), s.wrote (ap Some (s.whole bytes refl)))

  -- WHAT CAME OF THE REQUEST
  pub exchanged : (written : Option (List ℕ)) → IsSessionOf text old now written → Exchanges request old now written
  exchanged written s =
      let session : IsSession (in_memory old (Some text) [] 0) (in_memory now s.left s.out s.faults) s.report = s.is in
      let requests : AreRequests session.items s.report.end text s.left session.rest = session.requests in
      let wrote : Some s.out ≡ Some session.out = session.written in
      let same : s.out ≡ session.out = cc wrote in
      let course : Course session.items s.report.end s.out = record {
        rest = session.rest;
        left = requests.rest ++ requests.left;
        first = subst (λ (b : List ℕ). AreFirst session.items b (requests.rest ++ requests.left)) requests.gave
            (first_longer session.items requests.given requests.rest requests.left requests.first);
        is_left = leaves_fault s.report.end requests.rest requests.left requests.is_left;
        placed = s.report.placed;
        is_end = subst (λ out. IsEnded session.items s.report.end session.rest out s.report.placed) (sym same) session.ended;
        quiet = never_read_fault s.left s.out s.faults s.report.end session.cause;
        serves = record {
          moment = session.moment;
          kept = session.kept;
          goes = session.goes;
          edge = session.edge;
          history = session.history;
          counted = session.counted;
          fitting = session.fitting;
          tells = session.tells;
        };
      } in
      came session.items s.report.end s.out course written (told_of written s)

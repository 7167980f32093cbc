-- How a session ends in which nothing failed: by what its requests ask, and by what stands behind them.
use Rattle.std.proofs.Common.{◌≡◌, ◌≢◌, ◌<◌, inl, inr, ℕ, true, false, List, [], ◌∷◌, ◌++◌, length, Option, Some, None, Ok, Err, All, refl, sym, ap, subst, ◌∙◌}
use Rattle.std.proofs.Common.{append-nil, arith, length-append}
use Rattle.std.proofs.lemmas.List.{length-map, map-append}
use Rattle.std.proofs.lemmas.List.Elements.{All-cons, All-head, All-map, All-nil, All-tail}
use Rattle.call_placement.proofs.AloneLemmas.{all_front, all_rest}
use Rattle.http_wire.proofs.LongerBytes.{longer_request_fault}
use Rattle.http_wire.proofs.UniqueLemmas.{one_request}
use Rattle.http_wire.specs.Messages.{ReadsRequestAt}
use Rattle.http_wire.specs.ReplyText.{reply_text}
use Rattle.http_wire.specs.declared.fault.WireFault.{WireFault}
use Rattle.http_wire.specs.declared.fault.WireFault.TheVariants.{BadHead, BadLength, BodyTooLong, Chunked, Ended, HeadTooLong, NoMemory, ReadFault, Truncated}
use Rattle.http_wire.specs.declared.message.Reply.{Reply}
use Rattle.http_wire.specs.declared.message.Request.{Request}
use Rattle.lake_session.specs.declared.report.End.{End}
use Rattle.lake_session.specs.declared.report.End.TheVariants as end
use Rattle.lake_session.specs.declared.report.Placed.{Placed}
use Rattle.lake_session.specs.SessionItems.{NoneCloses, SessionItem, texts}
use Rattle.lake_session.specs.SessionTexts.{reply_to_fault}
use Rattle.lake_session.specs.SessionTurns.{HasFault, IsLeft}
use Rattle.lake_session.specs.WholeSessions.{IsEnded}
use Rattle.session_laws.specs.LikeSessions.{finds_end, requests}

-- none of these asks for the connection to close
abbrev pub NoneAsks : List Request → Type 0
NoneAsks asked = All (λ (r : Request). r.close ≡ false) asked

-- the end that a fault of the bytes makes
abbrev pub end_of : WireFault → End
end_of Ended = end.SourceEnded
end_of fault = end.Wire fault

-- what is written then
abbrev pub text_of : Option Reply → List ℕ
text_of (Some sent) = reply_text sent
text_of None = []

-- A SESSION STOPS behind these requests, before these bytes, given or not, so, and this is written behind the replies
pub data Stops (asked : List Request) (behind : List ℕ) (ended : End) (tail : List ℕ) : Type 0 where
  AtClose : (before : List Request) (last : Request) → ended ≡ end.Closed → asked ≡ before ++ last ∷ [] → NoneAsks before → length before < 10000
      → last.close ≡ true → tail ≡ [] → Stops asked behind ended tail
  AtLimit : ended ≡ end.RequestLimit → NoneAsks asked → length asked ≡ 10000 → tail ≡ [] → Stops asked behind ended tail
  AtFault : (fault : WireFault) → ended ≡ end_of fault → NoneAsks asked → length asked < 10000 → ReadsRequestAt behind (Err fault)
      → tail ≡ text_of (reply_to_fault fault) → Stops asked behind ended tail

-- ---- from a session's end

all_asked : (items : List SessionItem) → NoneCloses items → NoneAsks (requests items)
all_asked items none = All-map (λ (r : Request). r.close ≡ false) (λ (item : SessionItem). item.request) items none

asked_length : (items : List SessionItem) → length (requests items) ≡ length items
asked_length items = length-map items (λ (item : SessionItem). item.request)

-- a fault of what was given is one of all
ended_reads : (fault : WireFault) (given left : List ℕ) → ReadsRequestAt given (Err fault) → left ≡ [] → ReadsRequestAt (given ++ left) (Err fault)
ended_reads fault given left reads none =
    subst (λ (l : List ℕ). ReadsRequestAt l (Err fault)) (sym (append-nil given) ∙ ap (λ (l : List ℕ). given ++ l) (sym none)) reads

fault_reads : (fault : WireFault) (given left : List ℕ) → HasFault fault given left → ReadsRequestAt (given ++ left) (Err fault)
fault_reads Ended given left has = ended_reads Ended given left has.0 has.1
fault_reads (Truncated n) given left has = ended_reads (Truncated n) given left has.0 has.1
fault_reads HeadTooLong given left has = longer_request_fault given left HeadTooLong tt has
fault_reads BadHead given left has = longer_request_fault given left BadHead tt has
fault_reads Chunked given left has = longer_request_fault given left Chunked tt has
fault_reads BadLength given left has = longer_request_fault given left BadLength tt has
fault_reads (BodyTooLong n) given left has = longer_request_fault given left (BodyTooLong n) tt has
fault_reads ReadFault given left has = longer_request_fault given left ReadFault tt has
fault_reads NoMemory given left has = longer_request_fault given left NoMemory tt has

wire_end : (fault : WireFault) → fault ≢ Ended → end.Wire fault ≡ end_of fault
wire_end Ended other = absurd (other refl)
wire_end (Truncated n) other = refl
wire_end HeadTooLong other = refl
wire_end BadHead other = refl
wire_end Chunked other = refl
wire_end BadLength other = refl
wire_end (BodyTooLong n) other = refl
wire_end ReadFault other = refl
wire_end NoMemory other = refl

cut_short : (n : ℕ) → Truncated n ≢ Ended
cut_short n is = absurd (cc (is))

replied : (fault : WireFault) (sent : Reply) → reply_to_fault fault ≡ Some sent → fault ≢ Ended
replied fault sent replies is = let never = sym (ap reply_to_fault is) ∙ replies in absurd (cc (never))

-- a session ended so, and this was written behind the replies
pub record Ending (items : List SessionItem) (behind : List ℕ) (ended : End) (out : List ℕ) : Type 0 where
  pub tail : List ℕ
  pub written : out ≡ texts 1 items ++ tail
  pub stops : Stops (requests items) behind ended tail

module _ (items : List SessionItem) (rest : Option (List ℕ)) (given left out : List ℕ) (placed : List Placed) where
  pub ending : (ended : End) → IsEnded items ended rest out placed → IsLeft ended given left → ended ≢ end.ReadFault → ended ≢ end.WriteFault
      → ended ≢ end.NoMemory → Ending items (given ++ left) ended out
  ending end.Closed (before, last, is, opens, closes, written) behind read wrote memory = record {
    tail = [];
    written = written.0;
    stops = AtClose (requests before) last.request refl
        (ap requests is ∙ map-append (λ (item : SessionItem). item.request) before (last ∷ [])) (all_asked before opens.0)
        (subst (λ (n : ℕ). n < 10000) (sym (asked_length before)) opens.1) closes refl;
  }
  ending end.RequestLimit (none, count, written) behind read wrote memory = record {
    tail = [];
    written = written.0;
    stops = AtLimit refl (all_asked items none) (asked_length items ∙ count) refl;
  }
  ending end.SourceEnded (opens, written) behind read wrote memory = record {
    tail = [];
    written = written.0;
    stops = AtFault Ended refl (all_asked items opens.0) (subst (λ (n : ℕ). n < 10000) (sym (asked_length items)) opens.1)
        (fault_reads Ended given left behind) refl;
  }
  ending (end.Wire fault) (opens, inl (n, is, written)) behind read wrote memory = record {
    tail = [];
    written = written.0;
    stops = AtFault fault (wire_end fault (λ ended. cut_short n (sym is ∙ ended))) (all_asked items opens.0)
        (subst (λ (n : ℕ). n < 10000) (sym (asked_length items)) opens.1) (fault_reads fault given left behind)
        (ap (λ (f : WireFault). text_of (reply_to_fault f)) (sym is));
  }
  ending (end.Wire fault) (opens, inr (sent, replies, written)) behind read wrote memory = record {
    tail = reply_text sent;
    written = written.0;
    stops = AtFault fault (wire_end fault (replied fault sent replies)) (all_asked items opens.0)
        (subst (λ (n : ℕ). n < 10000) (sym (asked_length items)) opens.1) (fault_reads fault given left behind) (ap text_of (sym replies));
  }
  ending end.ReadFault is behind read wrote memory = absurd (read refl)
  ending end.WriteFault is behind read wrote memory = absurd (wrote refl)
  ending end.NoMemory is behind read wrote memory = absurd (memory refl)

-- what a source has left of which the end was found
pub none_left : (ended : End) (given left : List ℕ) → IsLeft ended given left → finds_end ended ≡ true → left ≡ []
none_left end.SourceEnded given left is finds = is.1
none_left (end.Wire (Truncated n)) given left is finds = is.1
none_left (end.Wire Ended) given left is finds = is.1
none_left (end.Wire HeadTooLong) given left is finds = absurd (cc (finds))
none_left (end.Wire BadHead) given left is finds = absurd (cc (finds))
none_left (end.Wire Chunked) given left is finds = absurd (cc (finds))
none_left (end.Wire BadLength) given left is finds = absurd (cc (finds))
none_left (end.Wire (BodyTooLong n)) given left is finds = absurd (cc (finds))
none_left (end.Wire ReadFault) given left is finds = absurd (cc (finds))
none_left (end.Wire NoMemory) given left is finds = absurd (cc (finds))
none_left end.ReadFault given left is finds = absurd (cc (finds))
none_left end.WriteFault given left is finds = absurd (cc (finds))
none_left end.NoMemory given left is finds = absurd (cc (finds))
none_left end.Closed given left is finds = absurd (cc (finds))
none_left end.RequestLimit given left is finds = absurd (cc (finds))

-- ---- no session goes on where another stops

never_empty : (front : List Request) (request : Request) (more : List Request) → [] ≡ front ++ request ∷ more → ⊥
never_empty [] request more is = absurd (cc (is))
never_empty (f ∷ front) request more is = absurd (cc (is))

front_all : (front before : List Request) (last request : Request) (more : List Request) → before ++ last ∷ [] ≡ front ++ request ∷ more
    → NoneAsks before → NoneAsks front
front_all [] before last request more is none = All-nil (λ (r : Request). r.close ≡ false)
front_all (f ∷ front) [] last request more is none =
    let rest : [] ≡ front ++ request ∷ more = cc (is) in absurd (never_empty front request more rest)
front_all (f ∷ front) (b ∷ before) last request more is none =
    let same : b ≡ f = cc (is) in
    let rest : before ++ last ∷ [] ≡ front ++ request ∷ more = cc (is) in
    All-cons (λ (r : Request). r.close ≡ false) f front
    (ap (λ (r : Request). r.close) (sym same) ∙ All-head (λ (r : Request). r.close ≡ false) b before none)
    (front_all front before last request more rest (All-tail (λ (r : Request). r.close ≡ false) b before none))

-- of the requests before the last none asks for the connection to close, and they are fewer than 10,000
none_before : (asked front : List Request) (behind : List ℕ) (ended : End) (tail : List ℕ) (request : Request) (more : List Request)
    → Stops asked behind ended tail → asked ≡ front ++ request ∷ more → NoneAsks front × (length front < 10000)
none_before asked front behind ended tail request more (AtClose before last is ends none few closes nothing) longer =
    let same = sym ends ∙ longer in
    let count = ap length same in (
      front_all front before last request more same none,
      omega (arith, few, count, length-append before (last ∷ []), length-append front (request ∷ more)),
    )
none_before asked front behind ended tail request more (AtLimit is none count nothing) longer =
    let size = ap length longer in (
      all_front (λ (r : Request). r.close ≡ false) front (request ∷ more) (subst NoneAsks longer none),
      omega (arith, count, size, length-append front (request ∷ more)),
    )
none_before asked front behind ended tail request more (AtFault fault is none few reads text) longer =
    let size = ap length longer in (
      all_front (λ (r : Request). r.close ≡ false) front (request ∷ more) (subst NoneAsks longer none),
      omega (arith, few, size, length-append front (request ∷ more)),
    )

never_closes : (before : List Request) (last : Request) → NoneAsks (before ++ last ∷ []) → last.close ≡ true → ⊥
never_closes before last none closes =
    let never = sym closes ∙ All-head (λ (r : Request). r.close ≡ false) last []
    (all_rest (λ (r : Request). r.close ≡ false) before (last ∷ []) none) in absurd (cc (never))

never_full : (n : ℕ) → n ≡ 10000 → n < 10000 → ⊥
never_full n is few = omega (arith, is, few)

module _ (asked : List Request) (behind : List ℕ) (ended : End) (tail : List ℕ) where
  pub not_beyond : (others : List Request) (other_behind : List ℕ) (other_ended : End) (other_tail : List ℕ) (request : Request) (after : List ℕ)
      (more : List Request) → Stops asked behind ended tail → Stops others other_behind other_ended other_tail → others ≡ asked ++ request ∷ more
      → ReadsRequestAt behind (Ok (request, after)) → ⊥
  not_beyond others other_behind other_ended other_tail request after more (AtClose before last is ends none few closes nothing) two longer reads =
      let b = none_before others asked other_behind other_ended other_tail request more two longer in
      never_closes before last (subst NoneAsks ends b.0) closes
  not_beyond others other_behind other_ended other_tail request after more (AtLimit is none count nothing) two longer reads =
      let b = none_before others asked other_behind other_ended other_tail request more two longer in
      never_full (length asked) count b.1
  not_beyond others other_behind other_ended other_tail request after more (AtFault fault is none few faulty text) two longer reads =
      let never = one_request behind (Err fault) (Ok (request, after)) faulty reads in absurd (cc (never))

  -- ---- and two that stop at one place end the same

  pub one_end : (other_ended : End) (other_tail : List ℕ) → Stops asked behind ended tail → Stops asked behind other_ended other_tail
      → (ended ≡ other_ended) × (tail ≡ other_tail)
  one_end other_ended other_tail (AtClose before last is ends none few closes nothing) (AtClose b l so e n f c other_nothing) =
      (is ∙ sym so, nothing ∙ sym other_nothing)
  one_end other_ended other_tail (AtClose before last is ends none few closes nothing) (AtLimit so other_none count other_nothing) =
      absurd (never_closes before last (subst NoneAsks ends other_none) closes)
  one_end other_ended other_tail (AtClose before last is ends none few closes nothing) (AtFault fault so other_none other_few reads text) =
      absurd (never_closes before last (subst NoneAsks ends other_none) closes)
  one_end other_ended other_tail (AtLimit is none count nothing) (AtClose before last so ends other_none few closes other_nothing) =
      absurd (never_closes before last (subst NoneAsks ends none) closes)
  one_end other_ended other_tail (AtLimit is none count nothing) (AtLimit so other_none other_count other_nothing) =
      (is ∙ sym so, nothing ∙ sym other_nothing)
  one_end other_ended other_tail (AtLimit is none count nothing) (AtFault fault so other_none few reads text) =
      absurd (never_full (length asked) count few)
  one_end other_ended other_tail (AtFault fault is none few reads text) (AtClose before last so ends other_none other_few closes nothing) =
      absurd (never_closes before last (subst NoneAsks ends none) closes)
  one_end other_ended other_tail (AtFault fault is none few reads text) (AtLimit so other_none count nothing) =
      absurd (never_full (length asked) count few)
  one_end other_ended other_tail (AtFault fault is none few reads text) (AtFault again so other_none other_few other_reads other_text) =
      let both = one_request behind (Err fault) (Err again) reads other_reads in
      let same : fault ≡ again = cc (both) in (
        is ∙ (ap end_of same ∙ sym so),
        text ∙ (ap (λ (f : WireFault). text_of (reply_to_fault f)) same ∙ sym other_text),
      )

-- One more item behind others: of their requests, moments, texts and reports.
use Rattle.std.proofs.Common.{◌≡◌, ◌+◌, ℕ, suc, true, List, [], ◌∷◌, ◌++◌, map, length, Ok, Err, refl, sym, ap, subst, ◌∙◌, append_assoc, append-nil, arith}
use Rattle.http_wire.specs.Messages.{ReadsRequestAt}
use Rattle.http_wire.proofs.LongerBytes.{longer_request, longer_request_fault}
use Rattle.http_wire.specs.declared.fault.WireFault.{WireFault}
use Rattle.http_wire.specs.declared.fault.WireFault.TheVariants.{BadHead, BadLength, BodyTooLong, Chunked, Ended, HeadTooLong, NoMemory, ReadFault, Truncated}
use Rattle.lake_session.specs.SessionTurns.{HasFault}
use Rattle.lake_session.specs.SessionItems.{AreFirst, SessionItem, call_item, item_text, moments, placed_item, placed_items, texts}

pub first_more : (items : List SessionItem) (item : SessionItem) (bytes left rest : List ℕ) → AreFirst items bytes left
    → ReadsRequestAt left (Ok (item.request, rest)) → AreFirst (items ++ item ∷ []) bytes rest
first_more [] item bytes left rest first reads =
    (rest, subst (λ b. ReadsRequestAt b (Ok (item.request, rest))) first reads, refl)
first_more (one ∷ items) item bytes left rest first reads =
    (first.0, first.1, first_more items item first.0 left rest first.2 reads)

-- what stands behind all bytes stands behind those that are left of them
pub first_longer : (items : List SessionItem) (bytes rest more : List ℕ) → AreFirst items bytes rest → AreFirst items (bytes ++ more) (rest ++ more)
first_longer [] bytes rest more first = ap (λ l. l ++ more) first
first_longer (item ∷ items) bytes rest more first =
    (first.0 ++ more, longer_request bytes more item.request first.0 first.1, first_longer items first.0 rest more first.2)

fault_at_end : (fault : WireFault) (given left : List ℕ) → left ≡ [] → ReadsRequestAt given (Err fault) → ReadsRequestAt (given ++ left) (Err fault)
fault_at_end fault given left none =
    subst (λ b. ReadsRequestAt b (Err fault)) (sym (append-nil given) ∙ ap (λ l. given ++ l) (sym none))

-- the fault of what was given is one of all the bytes
pub fault_of_all : (fault : WireFault) (given left : List ℕ) → HasFault fault given left → ReadsRequestAt (given ++ left) (Err fault)
fault_of_all Ended given left (reads, none) = fault_at_end Ended given left none reads
fault_of_all (Truncated n) given left (reads, none) = fault_at_end (Truncated n) given left none reads
fault_of_all HeadTooLong given left reads = longer_request_fault given left HeadTooLong tt reads
fault_of_all BadHead given left reads = longer_request_fault given left BadHead tt reads
fault_of_all Chunked given left reads = longer_request_fault given left Chunked tt reads
fault_of_all BadLength given left reads = longer_request_fault given left BadLength tt reads
fault_of_all (BodyTooLong n) given left reads = longer_request_fault given left (BodyTooLong n) tt reads
fault_of_all ReadFault given left reads = longer_request_fault given left ReadFault tt reads
fault_of_all NoMemory given left reads = longer_request_fault given left NoMemory tt reads

pub moments_more : (items : List SessionItem) (item : SessionItem) → moments (items ++ item ∷ []) ≡ moments items ++ item.moment ∷ []
moments_more [] item = refl
moments_more (one ∷ items) item = ap (λ later. one.moment ∷ later) (moments_more items item)

pub moments_long : (items : List SessionItem) → length items ≡ length (moments items)
moments_long [] = refl
moments_long (one ∷ items) = ap suc (moments_long items)

pub texts_more : (number : ℕ) (items : List SessionItem) (item : SessionItem)
    → texts number (items ++ item ∷ []) ≡ texts number items ++ item_text (number + length items) item
texts_more number [] item = append-nil (item_text number item) ∙ ap (λ n. item_text n item) (omega arith)
texts_more number (one ∷ items) item =
    ap (λ later. item_text number one ++ later)
    (texts_more (number + 1) items item ∙ ap (λ n. texts (number + 1) items ++ item_text n item) (omega arith))
    ∙ sym (append_assoc (item_text number one) (texts (number + 1) items) (item_text (number + length (one ∷ items)) item))

pub placed_more : (number : ℕ) (items : List SessionItem) (item : SessionItem)
    → placed_items number (items ++ item ∷ []) ≡ placed_items number items ++ placed_item (number + length items) item true ∷ []
placed_more number [] item = ap (λ n. placed_item n item true ∷ []) (omega arith)
placed_more number (one ∷ items) item =
    ap (λ later. placed_item number one true ∷ later)
    (placed_more (number + 1) items item ∙ ap (λ n. placed_items (number + 1) items ++ placed_item n item true ∷ []) (omega arith))

pub calls_more : (items : List SessionItem) (item : SessionItem) → map call_item (items ++ item ∷ []) ≡ map call_item items ++ call_item item ∷ []
calls_more [] item = refl
calls_more (one ∷ items) item = ap (λ later. call_item one ∷ later) (calls_more items item)

pub calls_long : (items : List SessionItem) → length (map call_item items) ≡ length items
calls_long [] = refl
calls_long (one ∷ items) = ap suc (calls_long items)

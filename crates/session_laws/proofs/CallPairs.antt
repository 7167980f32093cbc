-- The calls of two sessions, pair by pair.
use Rattle.std.proofs.Common.{◌≡◌, ◌⊎◌, inl, inr, ◌==◌, ◌+◌, ℕ, max, true, false, List, [], ◌∷◌, ◌++◌, length, map, All, Some, refl, sym, ap, subst, ◌∙◌}
use Rattle.std.proofs.Common.{append-nil, append_assoc}
use Rattle.std.proofs.lemmas.Bool.{and_from, eq-eqb}
use Rattle.std.proofs.lemmas.List.Elements.{All-cons, All-head, All-nil, All-tail}
use Rattle.call_placement.proofs.AloneLemmas.{all_front, all_rest}
use Rattle.call_placement.specs.Alone.{AreOwn}
use Rattle.call_placement.specs.Points.{is_own}
use Rattle.call_placement.specs.Rules.{Caller}
use Rattle.call_placement.specs.Served.{IsServed}
use Rattle.call_placement.specs.Sessions.{AddsOnly, AreServed, IsItemServed, caller}
use Rattle.lake_model.specs.declared.history.HistoryEntry.{HistoryEntry}
use Rattle.lake_model.specs.State.{State}
use Rattle.lake_calls.specs.LakeRules.{lake_rules}
use Rattle.lake_calls.specs.Requests.{Asked, Asks, CallRequest, Malformed, form_of}
use Rattle.lake_calls.specs.declared.call.Call.{Call}
use Rattle.lake_calls.specs.declared.reply.CallReply.{CallReply}
use Rattle.lake_calls.specs.declared.reply.CallReply.TheVariants as reply
use Rattle.lake_calls.specs.declared.reply.FormRefusal.{FormRefusal}
use Rattle.api_forms.specs.CallForms.{asked}
use Rattle.seat_laws.proofs.ClashLemmas.{front_apart, one_told, rest_apart}
use Rattle.seat_laws.proofs.LikeLemmas.{like_calls}
use Rattle.seat_laws.specs.Clashes.{NoneClashes}
use Rattle.seat_laws.specs.LikeMoments.{Agree}
use Rattle.seat_laws.specs.LikeReplies.{AreLikeReplies, Same}
use Rattle.seat_laws.specs.Troubles.{is_trouble}
use Rattle.lake_core.specs.declared.standing.LakeOrigin.{LakeOrigin}
use Rattle.flow_steps.specs.FlowSeats.{opened_state}
use Rattle.std.proofs.lemmas.List.{append_cancel_left}
use Rattle.lake_session.specs.SessionItems.{SessionItem, call_item, moments}
use Rattle.lake_session.specs.SessionViews.{SessionView}
use Rattle.lake_session.specs.WholeSessions.{IsSession}
use Rattle.lake_session.specs.declared.report.SessionReport.{SessionReport}
use Rattle.session_laws.specs.LikeSessions.{requests, tolds}

-- these entries are of a seat
abbrev pub OfSeat : (seat : ℕ) → List HistoryEntry → Type 0
OfSeat seat entries = All (λ (e : HistoryEntry). e.by.seat ≡ seat) entries

-- THE CALL OF AN ITEM WAS SERVED: its form was refused, or its call was served and added these entries, its own
pub data ServedBy (opened : State) (by : Caller) (before added : List HistoryEntry) (item : SessionItem) : Type 0 where
  OfForm : (refusal : FormRefusal) → asked item.request ≡ Malformed refusal
      → (item.told ≡ reply.Malformed refusal) ⊎ (item.told ≡ reply.NoMemory) → added ≡ [] → ServedBy opened by before added item
  OfCall : (call : Call) (position edge : ℕ) → asked item.request ≡ Asks call
      → IsServed lake_rules opened by before (before ++ added) (record { asked = Asks call; moment = item.moment }) item.met item.told position edge
      → AddsOnly lake_rules by before (before ++ added) → AreOwn lake_rules by added → ServedBy opened by before added item

-- ITEMS OF A SEAT ADDED THESE ENTRIES, one behind the other
abbrev pub Adds : (opened : State) (seat number : ℕ) (before : List HistoryEntry) → List SessionItem → (added : List HistoryEntry) → Type 0
Adds opened seat number before [] added = added ≡ []
Adds opened seat number before (item ∷ items) added =
    (here : List HistoryEntry) × (later : List HistoryEntry) × (added ≡ here ++ later) × ServedBy opened (caller seat number) before here item
    × Adds opened seat (number + 1) (before ++ here) items later

-- ---- of items that were served

-- entries of a seat, and of one call
own_entries : (by : Caller) (entries : List HistoryEntry) → OfSeat by.seat entries
    → All (λ (e : HistoryEntry). e.by.seat ≡ by.seat → e.by.call ≡ by.call) entries → AreOwn lake_rules by entries
own_entries by [] seats calls = All-nil (λ (e : HistoryEntry). is_own lake_rules by e ≡ true)
own_entries by (e ∷ entries) seats calls =
    let seat = All-head (λ (e : HistoryEntry). e.by.seat ≡ by.seat) e entries seats in
    let call = All-head (λ (e : HistoryEntry). e.by.seat ≡ by.seat → e.by.call ≡ by.call) e entries calls seat in
    All-cons (λ (e : HistoryEntry). is_own lake_rules by e ≡ true) e entries
    (and_from (e.by.seat == by.seat) (e.by.call == by.call) (eq-eqb e.by.seat by.seat seat) (eq-eqb e.by.call by.call call))
    (own_entries by entries (All-tail (λ (e : HistoryEntry). e.by.seat ≡ by.seat) e entries seats)
    (All-tail (λ (e : HistoryEntry). e.by.seat ≡ by.seat → e.by.call ≡ by.call) e entries calls))

-- what one item added, where that is its seat's
record OnePart (opened : State) (by : Caller) (before now : List HistoryEntry) (item : SessionItem) : Type 0 where
  pub added : List HistoryEntry
  pub is : now ≡ before ++ added
  pub served : OfSeat by.seat added → ServedBy opened by before added item

form_is : (told : CallReply) (refusal : FormRefusal) (A B : Type 0) → ((told ≡ reply.Malformed refusal) × A) ⊎ ((told ≡ reply.NoMemory) × B)
    → (told ≡ reply.Malformed refusal) ⊎ (told ≡ reply.NoMemory)
form_is told refusal A B (inl refused) = inl refused.0
form_is told refusal A B (inr starved) = inr starved.0

one_part : (opened : State) (by : Caller) (before now : List HistoryEntry) (item : SessionItem) (edge next_edge : ℕ) (a : Asked)
    → asked item.request ≡ a → IsItemServed lake_rules opened by edge before now (call_item item) next_edge (form_of a)
    → OnePart opened by before now item
one_part opened by before now item edge next_edge (Malformed refusal) form served = record {
  added = [];
  is = served.1 ∙ sym (append-nil before);
  served = λ seats. OfForm refusal form (form_is item.told refusal (item.position ≡ edge) (item.position ≡ length before) served.0) refl;
}
one_part opened by before now item edge next_edge (Asks call) asks served =
    let only = served.1 in
    record {
      added = only.0;
      is = only.1;
      served = λ seats. OfCall call item.position next_edge asks
          (subst (λ (a : Asked). IsServed lake_rules opened by before (before ++ only.0) (record { asked = a; moment = item.moment }) item.met item.told
          item.position next_edge) asks
          (subst (λ (l : List HistoryEntry). IsServed lake_rules opened by before l (record { asked = asked item.request; moment = item.moment }) item.met
          item.told item.position next_edge) only.1 served.0))
          (only.0, refl, only.2) (own_entries by only.0 seats only.2);
    }

-- what items added
pub record Parts (opened : State) (seat number : ℕ) (before : List HistoryEntry) (items : List SessionItem) (after : List HistoryEntry) : Type 0 where
  pub added : List HistoryEntry
  pub is : after ≡ before ++ added
  pub adds : OfSeat seat added → Adds opened seat number before items added

pub parts : (opened : State) (seat number edge : ℕ) (before : List HistoryEntry) (items : List SessionItem) (after : List HistoryEntry) (last : ℕ)
    → AreServed lake_rules opened seat number edge before (map call_item items) after last → Parts opened seat number before items after
parts opened seat number edge before [] after last (same, last_is) = record {
  added = [];
  is = same ∙ sym (append-nil before);
  adds = λ seats. refl;
}
parts opened seat number edge before (item ∷ items) after last (between, next_edge, here, later) =
    let first = one_part opened (caller seat number) before between item edge next_edge (asked item.request) refl here in
    let rest = parts opened seat (number + 1) (max edge next_edge) between items after last later in
    record {
      added = first.added ++ rest.added;
      is = rest.is ∙ (ap (λ (l : List HistoryEntry). l ++ rest.added) first.is ∙ append_assoc before first.added rest.added);
      adds = λ seats. (
        first.added,
        rest.added,
        refl,
        first.served (all_front (λ (e : HistoryEntry). e.by.seat ≡ seat) first.added rest.added seats),
        subst (λ (l : List HistoryEntry). Adds opened seat (number + 1) l items rest.added) first.is
            (rest.adds (all_rest (λ (e : HistoryEntry). e.by.seat ≡ seat) first.added rest.added seats)),
      );
    }

-- what the calls of a session added, whose seat was alone
pub session_adds : (old now : SessionView) (report : SessionReport) (session : IsSession old now report) (origin : LakeOrigin)
    → old.seat.origin ≡ Some origin → old.seat.alone ≡ true
    → Adds (opened_state origin) old.seat.number 1 old.seat.seen session.items session.goes.added
session_adds old now report session origin from alone =
    let served = (session.history origin from).served in
    let p = parts (opened_state origin) old.seat.number 1 (length old.seat.seen) old.seat.seen session.items now.seat.seen session.edge served in
    let same : p.added ≡ session.goes.added =
    append_cancel_left old.seat.seen p.added session.goes.added (sym p.is ∙ session.goes.seen) in
    subst (Adds (opened_state origin) old.seat.number 1 old.seat.seen session.items) same
    (p.adds (subst (OfSeat old.seat.number) (sym same) (session.goes.alone alone)))

-- ---- two items

form_told : (told : CallReply) (refusal : FormRefusal) → (told ≡ reply.Malformed refusal) ⊎ (told ≡ reply.NoMemory) → is_trouble told ≡ false
    → told ≡ reply.Malformed refusal
form_told told refusal (inl is) calm = is
form_told told refusal (inr is) calm = let never = sym (ap is_trouble is) ∙ calm in absurd (cc (never))

-- the same request at the same moment is told the same, and adds the same
like_items : (opened : State) (by : Caller) (before added more : List HistoryEntry) (item other : SessionItem) → item.request ≡ other.request
    → item.moment ≡ other.moment → ServedBy opened by before added item → ServedBy opened by before more other
    → is_trouble item.told ≡ false → is_trouble other.told ≡ false → AreLikeReplies item.told other.told × (added ≡ more)
like_items opened by before added more item other requests moments (OfForm refusal is told none) (OfForm refused so tells nothing) calm still =
    let same : Malformed refusal ≡ Malformed refused = sym is ∙ (ap asked requests ∙ so) in
    let refusals : refusal ≡ refused = cc (same) in (
      Same (form_told item.told refusal told calm ∙ (ap reply.Malformed refusals ∙ sym (form_told other.told refused tells still))),
      none ∙ sym nothing,
    )
like_items opened by before added more item other requests moments (OfForm refusal is told none) (OfCall call position edge so served only own) calm still =
    let same : Malformed refusal ≡ Asks call = sym is ∙ (ap asked requests ∙ so) in absurd (cc (same))
like_items opened by before added more item other requests moments (OfCall call position edge is served only own) (OfForm refused so tells nothing) calm still =
    let same : Asks call ≡ Malformed refused = sym is ∙ (ap asked requests ∙ so) in absurd (cc (same))
like_items opened by before added more item other requests moments (OfCall call position edge is served only own)
    (OfCall called other_position other_edge so other_served other_only other_own) calm still =
    let same : Asks called ≡ Asks call = sym so ∙ (ap asked (sym requests) ∙ is) in
    let asks : CallRequest = record { asked = Asks call; moment = item.moment } in
    let again : record { asked = Asks called; moment = other.moment } ≡ asks = λ i. record { asked = same i; moment = sym moments i } in
    like_calls call item.moment opened by before added more item.met other.met item.told other.told position other_position edge other_edge served
    (subst (λ (r : CallRequest). IsServed lake_rules opened by before (before ++ more) r other.met other.told other_position other_edge) again other_served)
    own other_own calm still

-- ---- all items

-- none of these is told of a trouble
abbrev pub AreCalm : List SessionItem → Type 0
AreCalm items = All (λ (item : SessionItem). is_trouble item.told ≡ false) items

-- two lists of items were told the same, at the same moments, and added the same
pub record AreLike (items others : List SessionItem) (added more : List HistoryEntry) : Type 0 where
  pub told : tolds items ≡ tolds others
  pub read_at : moments items ≡ moments others
  pub entries : added ≡ more

pub like_all : (opened : State) (seat number : ℕ) (before : List HistoryEntry) (items others : List SessionItem) (added more : List HistoryEntry)
    → Adds opened seat number before items added → Adds opened seat number before others more → requests items ≡ requests others
    → Agree (moments items) (moments others) → AreCalm items → AreCalm others → NoneClashes (tolds items) (tolds others)
    → AreLike items others added more
like_all opened seat number before [] [] added more none nothing is agree calm still apart =
    record { told = refl; read_at = refl; entries = none ∙ sym nothing }
like_all opened seat number before [] (other ∷ others) added more none adds is agree calm still apart = absurd (cc (is))
like_all opened seat number before (item ∷ items) [] added more adds none is agree calm still apart = absurd (cc (is))
like_all opened seat number before (item ∷ items) (other ∷ others) added more (here, later, parted, served, adds)
    (other_here, other_later, other_parted, other_served, other_adds) is agree calm still apart =
    let same : item.request ≡ other.request = cc (is) in
    let rest : requests items ≡ requests others = cc (is) in
    let calms = λ (one : SessionItem). is_trouble one.told ≡ false in
    let like = like_items opened (caller seat number) before here other_here item other same agree.0 served other_served (All-head calms item items calm)
    (All-head calms other others still) in
    let told : item.told ≡ other.told =
    one_told item.told other.told (front_apart (item.told ∷ []) (tolds items) (other.told ∷ []) (tolds others) apart) like.0 in
    let behind = like_all opened seat (number + 1) (before ++ here) items others later other_later adds
    (subst (λ (l : List HistoryEntry). Adds opened seat (number + 1) (before ++ l) others other_later) (sym like.1) other_adds) rest agree.1
    (All-tail calms item items calm) (All-tail calms other others still)
    (rest_apart (item.told ∷ []) (tolds items) (other.told ∷ []) (tolds others) apart) in
    record {
      told = λ i. told i ∷ behind.told i;
      read_at = λ i. agree.0 i ∷ behind.read_at i;
      entries = parted ∙ ((λ i. like.1 i ++ behind.entries i) ∙ sym other_parted);
    }

-- The bytes that a lone seat's session is asked for are had.
use Rattle.std.proofs.Common.{◌≡◌, ◌+◌, ℕ, max, false, List, [], ◌∷◌, ◌++◌, length, All, refl, sym, subst, ◌∙◌}
use Rattle.std.proofs.lemmas.List.Elements.{All-append, All-cons, All-head, All-nil, All-tail}
use Rattle.block_store.specs.Blocks.{HeldObjects}
use Rattle.call_placement.proofs.AloneLemmas.{all_front}
use Rattle.call_placement.proofs.SessionLemmas.{are_placed}
use Rattle.call_placement.specs.Alone.{AreOwn}
use Rattle.call_placement.specs.Served.{IsServed}
use Rattle.call_placement.specs.Sessions.{AddsOnly, Item, caller}
use Rattle.lake_model.specs.State.{State}
use Rattle.lake_model.specs.declared.history.HistoryEntry.{HistoryEntry}
use Rattle.lake_calls.proofs.RuleLemmas.{lawful}
use Rattle.lake_calls.specs.CallExceptions.{CallMet}
use Rattle.lake_calls.specs.LakeRules.{lake_rules}
use Rattle.lake_calls.specs.Requests.{Asks, CallRequest}
use Rattle.lake_calls.specs.declared.call.Call.{Call}
use Rattle.lake_calls.specs.declared.objects.ReadCall.{ReadCall}
use Rattle.lake_calls.specs.declared.reply.CallReply.{CallReply}
use Rattle.lake_calls.specs.declared.reply.CallReply.TheVariants as reply
use Rattle.lake_calls.specs.declared.reply.Refusal.TheVariants as refusal
use Rattle.lake_core.specs.declared.standing.LakeOrigin.{LakeOrigin}
use Rattle.flow_steps.specs.FlowSeats.{opened_state, state_at}
use Rattle.lake_session.specs.AnswerWords.{IsHeldReply}
use Rattle.seat_laws.proofs.ExpiryFreeLemmas.{none_expires, replay_kept}
use Rattle.seat_laws.specs.Expiries.{HasNoneExpired, NoneExpires, is_expiry}
use Rattle.seat_laws.specs.Troubles.{is_unread}
use Rattle.lake_session.specs.SessionItems.{SessionItem}
use Rattle.lake_session.specs.SessionViews.{SessionView}
use Rattle.lake_session.specs.WholeSessions.{IsSession, TellsHeld}
use Rattle.lake_session.specs.declared.report.SessionReport.{SessionReport}
use Rattle.session_laws.specs.LikeSessions.{HasBytes, HoldsAll}
use Rattle.session_laws.proofs.CallPairs.{Adds, OfCall, OfForm, ServedBy, session_adds}

-- bytes are had of a lake of which no commit is expired
pub held_read : (c : ReadCall) (state : State) (objects : HeldObjects) (told : CallReply) → HasNoneExpired state → IsHeldReply c state objects told
    → is_unread told ≡ false
held_read c state objects (reply.Refused refusal.TooManyTries) none held = absurd held
held_read c state objects (reply.Refused (refusal.Lost path)) none held =
    let never = sym held.expired ∙ none c.repo held.repository held.id held.stands in absurd (cc (never))
held_read c state objects (reply.Refused (refusal.Damaged path)) none held =
    let never = sym held.expired ∙ none c.repo held.repository held.id held.stands in absurd (cc (never))
held_read c state objects told none held = refl

-- ---- no commit expires

call_expires : (call : Call) (opened : State) (seat number : ℕ) (before added : List HistoryEntry) (moment : ℕ) (met : CallMet) (told : CallReply)
    (position edge : ℕ)
    → IsServed lake_rules opened (caller seat number) before (before ++ added) (record { asked = Asks call; moment = moment }) met told position edge
    → AddsOnly lake_rules (caller seat number) before (before ++ added) → AreOwn lake_rules (caller seat number) added → NoneExpires added
call_expires call opened seat number before added moment met told position edge served only own =
    let item : Item CallRequest CallMet CallReply =
    record { request = record { asked = Asks call; moment = moment }; met = met; reply = told; position = position } in
    let placed = are_placed lake_rules lawful opened seat number (max (length before) edge) before (before ++ added) (item ∷ [])
    (before ++ added, edge, (served, only), (refl, refl)) in
    none_expires call moment opened (caller seat number) (length before) placed.0 before added met told position placed.1 own

one_expires : (opened : State) (seat number : ℕ) (before added : List HistoryEntry) (item : SessionItem)
    → ServedBy opened (caller seat number) before added item → NoneExpires added
one_expires opened seat number before added item (OfForm refused is told nothing) =
    subst NoneExpires (sym nothing) (All-nil (λ (e : HistoryEntry). is_expiry e.kind ≡ false))
one_expires opened seat number before added item (OfCall call position edge asks served only own) =
    call_expires call opened seat number before added item.moment item.met item.told position edge served only own

all_expire : (opened : State) (seat number : ℕ) (before : List HistoryEntry) (items : List SessionItem) (added : List HistoryEntry)
    → Adds opened seat number before items added → NoneExpires added
all_expire opened seat number before [] added nothing =
    subst NoneExpires (sym nothing) (All-nil (λ (e : HistoryEntry). is_expiry e.kind ≡ false))
all_expire opened seat number before (item ∷ items) added (here, later, parted, served, adds) =
    subst NoneExpires (sym parted)
    (All-append (λ (e : HistoryEntry). is_expiry e.kind ≡ false) here later (one_expires opened seat number before here item served)
    (all_expire opened seat (number + 1) (before ++ here) items later adds))

-- ---- so bytes are had

module _ (origin : LakeOrigin) (all : List HistoryEntry) (fresh : HasNoneExpired (opened_state origin)) (none : NoneExpires all) where
  one_had : (item : SessionItem) → TellsHeld origin all item → HasBytes item
  one_had item tells c asks =
      let t = tells c asks in
      let front = all_front (λ (e : HistoryEntry). is_expiry e.kind ≡ false) t.0 t.1 (subst NoneExpires t.2 none) in
      held_read c (state_at origin t.0) t.4 item.told (replay_kept (opened_state origin) t.0 front fresh) t.6

  all_had : (items : List SessionItem) → All (TellsHeld origin all) items → All HasBytes items
  all_had [] tells = All-nil HasBytes
  all_had (item ∷ items) tells =
      All-cons HasBytes item items (one_had item (All-head (TellsHeld origin all) item items tells))
      (all_had items (All-tail (TellsHeld origin all) item items tells))

-- THE BYTES THAT A SESSION IS ASKED FOR ARE HAD
pub bytes_had : (old now : SessionView) (report : SessionReport) (session : IsSession old now report) → HoldsAll old → All HasBytes session.items
bytes_had old now report session holds =
    let adds = session_adds old now report session holds.origin holds.from holds.alone in
    let added = all_expire (opened_state holds.origin) old.seat.number 1 old.seat.seen session.items session.goes.added adds in
    let none = All-append (λ (e : HistoryEntry). is_expiry e.kind ≡ false) old.seat.seen session.goes.added holds.none_expires added in
    all_had holds.origin now.seat.seen holds.none_expired (subst NoneExpires (sym session.goes.seen) none) session.items
    (session.tells holds.origin holds.objects holds.alone holds.from holds.held holds.fits)

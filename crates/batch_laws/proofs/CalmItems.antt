-- An exchange at a lone seat in which nothing failed is told of no trouble.
use Rattle.std.proofs.Common.{◌≡◌, ◌≢◌, ◌<◌, ◌≤◌, inl, inr, ℕ, Bool, true, false, List, [], ◌∷◌, ◌++◌, length, Some, sym, ap, subst, ◌∙◌}
use Rattle.std.proofs.Common.{arith}
use Rattle.std.specs.FinMap.{get}
use Rattle.std.specs.List.{Contains}
use Rattle.std.proofs.lemmas.List.Elements.{All-append, All-cons, All-head, All-nil, Contains-append_right}
use Rattle.block_store.specs.Blocks.{HeldObjects}
use Rattle.call_placement.proofs.AloneLemmas.{all_front}
use Rattle.call_placement.specs.Placed.{IsItemPlaced}
use Rattle.call_placement.specs.Sessions.{caller}
use Rattle.http_wire.specs.ReplyText.{no_memory_reply, reply_text}
use Rattle.http_wire.specs.declared.message.Request.{Request}
use Rattle.lake_core.specs.Faults.{HasFault}
use Rattle.lake_model.specs.History.{faulted_entry, replay}
use Rattle.lake_model.specs.State.{State}
use Rattle.lake_model.specs.declared.history.HistoryEntry.{HistoryEntry}
use Rattle.lake_calls.specs.CallExceptions.{HasRisen}
use Rattle.lake_calls.specs.HeldBodies.{FitsState}
use Rattle.lake_calls.specs.LakeRules.{by_caller, lake_rules}
use Rattle.lake_calls.specs.Requests.{Asked, Asks, form_of}
use Rattle.lake_calls.specs.declared.call.Call.TheVariants.{Objects}
use Rattle.lake_calls.specs.declared.objects.ObjectCall.TheVariants as object
use Rattle.lake_calls.specs.declared.objects.ReadCall.{ReadCall}
use Rattle.lake_calls.specs.declared.reply.CallReply.TheVariants as reply
use Rattle.api_forms.specs.CallForms.{asked}
use Rattle.flow_steps.specs.FlowSeats.{opened_state, state_at}
use Rattle.lake_batch.proofs.SeatLemmas.{starved_text}
use Rattle.lake_batch.specs.CommandWords.{SessionItem, call_item, item_text}
use Rattle.lake_batch.specs.CommandWords.{closes_behind, last_reply, told_text}
use Rattle.shared_lake.specs.SeatSteps.{LakeSeat}
use Rattle.lake_batch.specs.CommandWords.{StoreView}
use Rattle.lake_batch.specs.CommandWords.{AreCounted, TellsHeld}
use Rattle.lake_batch.specs.CommandWords.{Answered, AnsweredUnwritten, Exchanges, LakeView, ServesItems, Starved, Unread, UnservedUnwritten}
use Rattle.seat_laws.specs.Expiries.{HasNoneExpired, NoneExpires, is_expiry}
use Rattle.seat_laws.specs.Troubles.{is_trouble, is_unread}
use Rattle.seat_laws.proofs.ExpiryFreeLemmas.{none_expires, replay_kept}
use Rattle.seat_laws.proofs.TroubleLemmas.{none_told}
use Rattle.session_laws.proofs.HadBytes.{held_read}
use Rattle.batch_laws.specs.ToldReplies.{told_to}
use Rattle.batch_laws.proofs.ExchangePairs.{AreCalm, IsCalm}
use Rattle.batch_laws.proofs.LoneSeats.{IsLone, OfCall, OfForm, ServedBy, by_one, seen_still, served_by}

-- ---- the store of objects

none_rose : (before now : ℕ) → before ≤ now → now ≡ 0 → (now < 18446744073709551615 → before < now) → ⊥
none_rose before now le is rose = let risen = rose (omega (arith, is)) in omega (arith, le, is, risen)

no_fault : (seat : LakeSeat) (old now : StoreView) (item : SessionItem) → AreCounted seat old (item ∷ []) now → now.faults ≡ 0 → HasRisen item.met.block_faults → ⊥
no_fault seat old now item (between, counted, given, later) calm rose =
    let same : between.faults ≡ 0 = sym (ap (λ (s : StoreView). s.faults) later) ∙ calm in
    none_rose old.faults between.faults counted.faults_rise same (subst HasRisen counted.faults rose)

-- ---- an item

module _ (opened : State) (old now : LakeView) (lone : IsLone opened old.seat) (none : NoneExpires old.seat.seen) where
  -- no commit expires in the call of an item
  module _ (item : SessionItem) (serves : ServesItems old now (item ∷ [])) where
    added_expires : ServedBy opened old.seat.seen serves.goes.added item → NoneExpires serves.goes.added
    added_expires (OfForm refusal is told nothing) = subst NoneExpires (sym nothing) (All-nil (λ (e : HistoryEntry). is_expiry e.kind ≡ false))
    added_expires (OfCall call position edge asks served own) =
        let stand = (serves.history lone.origin lone.from).stand in
        let at = length old.seat.seen in
        let whole = subst (λ (l : List HistoryEntry). IsItemPlaced lake_rules (opened_state lone.origin) (caller old.seat.number 1) at stand.0 old.seat.seen l
        (call_item item) (form_of (asked item.request))) serves.goes.seen stand.1 in
        let alone = subst (λ (n : ℕ). IsItemPlaced lake_rules (opened_state lone.origin) (caller n 1) at stand.0 old.seat.seen
        (old.seat.seen ++ serves.goes.added) (call_item item) (form_of (asked item.request))) lone.number whole in
        let placed = subst (λ (s : State). IsItemPlaced lake_rules s by_one at stand.0 old.seat.seen (old.seat.seen ++ serves.goes.added) (call_item item)
        (form_of (asked item.request))) lone.opened_as alone in
        let called = subst (λ (a : Asked). IsItemPlaced lake_rules opened by_one at stand.0 old.seat.seen (old.seat.seen ++ serves.goes.added)
        (record { request = record { asked = a; moment = item.moment }; met = item.met; reply = item.told; position = item.position }) (form_of a)) asks
        placed in
        none_expires call item.moment opened by_one at stand.0 old.seat.seen serves.goes.added item.met item.told item.position called own

    item_expires : NoneExpires now.seat.seen
    item_expires =
        subst NoneExpires (sym serves.goes.seen)
        (All-append (λ (e : HistoryEntry). is_expiry e.kind ≡ false) old.seat.seen serves.goes.added none
        (added_expires (served_by opened old now item lone serves)))

  module _ (fresh : HasNoneExpired opened) (objects : HeldObjects) (held : old.store.held ≡ Some objects)
      (fits : FitsState (replay opened old.seat.seen) (get objects)) (calm : now.store.faults ≡ 0) (unnoted : HasFault now.seat.seen → ⊥) where
    -- what an item is told that reads an object
    read_had : (item : SessionItem) (serves : ServesItems old now (item ∷ [])) (c : ReadCall) → asked item.request ≡ Asks (Objects (object.Read c))
        → is_unread item.told ≡ false
    read_had item serves c asks =
        let fitting = subst (λ (s : State). FitsState (replay s old.seat.seen) (get objects)) (sym lone.opened_as) fits in
        let tells = All-head (TellsHeld lone.origin now.seat.seen) item [] (serves.tells lone.origin objects lone.alone lone.from held fitting) c asks in
        let seen = tells.0 in
        let all = subst NoneExpires tells.2 (item_expires item serves) in
        let front = all_front (λ (e : HistoryEntry). is_expiry e.kind ≡ false) seen tells.1 all in
        let state : HasNoneExpired (state_at lone.origin seen) =
        subst (λ (s : State). HasNoneExpired (replay s seen)) (sym lone.opened_as) (replay_kept opened seen front fresh) in
        held_read c (state_at lone.origin seen) tells.4 item.told state tells.6

    item_calm : (item : SessionItem) (serves : ServesItems old now (item ∷ [])) → item.told ≢ reply.NoMemory
        → ServedBy opened old.seat.seen serves.goes.added item → is_trouble item.told ≡ false
    item_calm item serves memory (OfForm refused is (inl told) nothing) = ap is_trouble told
    item_calm item serves memory (OfForm refused is (inr starved) nothing) = absurd (memory starved)
    item_calm item serves memory (OfCall call position edge asks served own) =
        none_told call item.moment opened by_one old.seat.seen serves.goes.added item.met item.told position edge served own memory
        (λ operation among. unnoted (record {
          by = by_caller by_one;
          tried = operation;
          among = subst (λ (l : List HistoryEntry). Contains l (faulted_entry (by_caller by_one) operation)) (sym serves.goes.seen)
              (Contains-append_right old.seat.seen serves.goes.added _ among);
        }))
        (no_fault now.seat old.store now.store item serves.counted calm)
        (λ c reads. read_had item serves c (asks ∙ ap Asks reads))

    -- an exchange of which it isn't written that no memory was left
    module _ (request : Request) (written : List ℕ) (fed : (close : Bool) → written ≡ reply_text (no_memory_reply close) → ⊥) where
      not_starved : (item : SessionItem) → Some written ≡ Some (item_text 1 item) → item.told ≢ reply.NoMemory
      not_starved item text starved =
          let is : written ≡ item_text 1 item = cc (text) in
          let close = closes_behind 1 item.request in
          fed close (is ∙ (ap (told_text close) starved ∙ starved_text close))

      pub exchange_calm : (e : Exchanges request old now (Some written)) → AreCalm (told_to request old now (Some written) e) × NoneExpires now.seat.seen
      exchange_calm (Answered item is read serves text) = (
        All-cons IsCalm item.told []
            (item_calm item serves (not_starved item text) (served_by opened old now item lone serves)) (All-nil IsCalm),
        item_expires item serves,
      )
      exchange_calm (Unread fault sent is replies serves text) = (
        All-nil IsCalm,
        subst NoneExpires (sym (seen_still opened old now lone serves)) none,
      )
      exchange_calm (Starved serves text) = let is : written ≡ reply_text last_reply = cc (text) in absurd (fed true is)
      exchange_calm (AnsweredUnwritten item is read serves never) = absurd (cc (never))
      exchange_calm (UnservedUnwritten serves never) = absurd (cc (never))

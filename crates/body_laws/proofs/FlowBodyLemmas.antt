-- Bodies behind a call of a seat that is alone.
use Rattle.std.proofs.Common.{◌≡◌, ◌≢◌, ◌<◌, ◌&&◌, ◌==◌, ◌++◌, ℕ, true, List, [], ◌∷◌, Option, Some, refl, ap, eq-eqb, sym, subst, ◌∙◌}
use Rattle.std.specs.Prelude.{All}
use Rattle.std.specs.FinMap.{get}
use Rattle.block_store.specs.Blocks.{HeldObjects}
use Rattle.std.proofs.lemmas.List.{append_cancel_left}
use Rattle.std.proofs.lemmas.List.Elements.{All-cons, All-head, All-nil, All-tail}
use Rattle.lake_model.specs.declared.history.HistoryEntry.{HistoryEntry}
use Rattle.lake_model.specs.State.{State}
use Rattle.lake_laws.proofs.HistoryLemmas.{legal_before, legal_behind, replay-append}
use Rattle.lake_laws.proofs.SoundnessLemmas.{IsSound-replay}
use Rattle.call_placement.specs.Alone.{AreOwn}
use Rattle.call_placement.specs.Points.{is_own}
use Rattle.call_placement.specs.Sessions.{caller}
use Rattle.shared_lake.specs.SeatSteps.{LakeSeat}
use Rattle.lake_calls.specs.CallExceptions.{CallMet}
use Rattle.lake_calls.specs.Calls.{UploadCall}
use Rattle.lake_calls.specs.HeldBodies.{FitsState}
use Rattle.lake_calls.specs.LakeRules.{lake_rules}
use Rattle.lake_calls.specs.Requests.{Asks, CallRequest}
use Rattle.lake_calls.specs.declared.call.Call.TheVariants.{Objects}
use Rattle.lake_calls.specs.declared.objects.ObjectCall.TheVariants as object
use Rattle.lake_calls.specs.declared.reply.CallReply.{CallReply}
use Rattle.lake_core.specs.declared.standing.LakeOrigin.{LakeOrigin}
use Rattle.flow_steps.specs.FlowSeats.{GoesOn, opened_state, state_at}
use Rattle.flow_steps.specs.Flows.{IsFlow}
use Rattle.body_laws.specs.BodiesKept.{KeepsFitting}
use Rattle.body_laws.specs.BodyChanges.{Bodies, HoldsUploads, KeepsLive}
use Rattle.body_laws.proofs.FitLemmas.{fits_over, kept_given}
use Rattle.body_laws.proofs.StagedLemmas.{staged_held}

-- ---- what a seat that is alone has seen more

-- entries that are all of a seat and of others are none
pub none_of_both : (seat : ℕ) (xs : List HistoryEntry) → All (λ (e : HistoryEntry). e.by.seat ≢ seat) xs
    → All (λ (e : HistoryEntry). e.by.seat ≡ seat) xs → xs ≡ []
none_of_both seat [] others own = refl
none_of_both seat (x ∷ xs) others own =
    absurd (All-head (λ (e : HistoryEntry). e.by.seat ≢ seat) x xs others (All-head (λ (e : HistoryEntry). e.by.seat ≡ seat) x xs own))

own_entry : (seat call : ℕ) (entry : HistoryEntry) → entry.by.seat ≡ seat → entry.by.call ≡ call → is_own lake_rules (caller seat call) entry ≡ true
own_entry seat call entry of_seat of_call =
    ap (λ b. b && (entry.by.call == call)) (eq-eqb entry.by.seat seat of_seat) ∙ eq-eqb entry.by.call call of_call

-- what a seat that is alone has seen more in a call are the call's entries
own_alone : (origin : LakeOrigin) (call : ℕ) (old new : LakeSeat) (added : List HistoryEntry) → GoesOn origin call old new → old.alone ≡ true
    → new.seen ≡ old.seen ++ added → AreOwn lake_rules (caller old.number call) added
own_alone origin call old new added goes alone is =
    let same : goes.added ≡ added = append_cancel_left old.seen goes.added added (sym goes.seen ∙ is) in
    subst (AreOwn lake_rules (caller old.number call)) same (own goes.added (goes.alone alone) goes.of_call)
  where
    own : (xs : List HistoryEntry) → All (λ (e : HistoryEntry). e.by.seat ≡ old.number) xs
        → All (λ (e : HistoryEntry). e.by.seat ≡ old.number → e.by.call ≡ call) xs → AreOwn lake_rules (caller old.number call) xs
    own [] of_seat of_call = All-nil _
    own (x ∷ xs) of_seat of_call =
        let seat = All-head (λ (e : HistoryEntry). e.by.seat ≡ old.number) x xs of_seat in
        All-cons (λ (e : HistoryEntry). is_own lake_rules (caller old.number call) e ≡ true) x xs
        (own_entry old.number call x seat (All-head (λ (e : HistoryEntry). e.by.seat ≡ old.number → e.by.call ≡ call) x xs of_call seat))
        (own xs (All-tail (λ (e : HistoryEntry). e.by.seat ≡ old.number) x xs of_seat)
        (All-tail (λ (e : HistoryEntry). e.by.seat ≡ old.number → e.by.call ≡ call) x xs of_call))

pub flow_fits : (old new : LakeSeat) (call : ℕ) (request : CallRequest) (met : CallMet) (told : CallReply) (position edge : ℕ) (added : List HistoryEntry)
    (held now : Bodies) (flow : IsFlow old new call request met told position edge) → old.alone ≡ true → new.seen ≡ old.seen ++ added
    → FitsState (state_at flow.origin old.seen) held → KeepsLive (state_at flow.origin old.seen) held now → HoldsUploads request added now
    → FitsState (state_at flow.origin new.seen) now
flow_fits old new call request met told position edge added held now flow alone is fits keeps holds =
    let opened = opened_state flow.origin in
    let staged = staged_held opened (caller old.number call) old.seen new.seen added request met told position edge now flow.served is
    (own_alone flow.origin call old new added flow.goes alone is) holds in
    let sound = IsSound-replay opened old.seen flow.goes.sound (legal_before opened new.seen old.seen added is flow.goes.legal) in
    let legal = legal_behind opened new.seen old.seen added is flow.goes.legal in
    subst (λ es. FitsState (state_at flow.origin es) now) (sym is)
    (subst (λ (s : State). FitsState s now) (sym (replay-append opened old.seen added))
    (fits_over (state_at flow.origin old.seen) added held now sound legal keeps staged fits))

-- ---- in the words of a store

-- where a store holds behind a call of a seat what it held under the numbers that were given out, and what it uploaded, that fits
pub fits_behind : (old new : LakeSeat) (call : ℕ) (request : CallRequest) (met : CallMet) (told : CallReply) (position edge : ℕ)
    (flow : IsFlow old new call request met told position edge) (origin : LakeOrigin) (objects now : HeldObjects) → old.alone ≡ true
    → old.origin ≡ Some origin → FitsState (state_at origin old.seen) (get objects)
    → ((number : ℕ) → number < (state_at origin old.seen).next_number → get now number ≡ get objects number)
    → HoldsUploads request flow.goes.added (get now) → FitsState (state_at origin new.seen) (get now)
fits_behind old new call request met told position edge flow origin objects now alone from fits keeps holds =
    let both : Some flow.origin ≡ Some origin = sym flow.goes.from ∙ from in
    let same : flow.origin ≡ origin = cc (both) in
    let sound = IsSound-replay (opened_state flow.origin) old.seen flow.goes.sound
    (legal_before (opened_state flow.origin) new.seen old.seen flow.goes.added flow.goes.seen flow.goes.legal) in
    subst (λ (o : LakeOrigin). FitsState (state_at o new.seen) (get now)) same
    (flow_fits old new call request met told position edge flow.goes.added (get objects) (get now) flow alone flow.goes.seen
    (subst (λ (o : LakeOrigin). FitsState (state_at o old.seen) (get objects)) (sym same) fits)
    (kept_given (state_at flow.origin old.seen) (get objects) (get now) sound
    (subst (λ (o : LakeOrigin). (number : ℕ) → number < (state_at o old.seen).next_number → get now number ≡ get objects number) (sym same) keeps))
    holds)

-- so they do where a call that uploads nothing left what is held as it was
pub fits_unchanged : (old new : LakeSeat) (call : ℕ) (request : CallRequest) (met : CallMet) (told : CallReply) (position edge : ℕ)
    (held held_now : Option HeldObjects) → IsFlow old new call request met told position edge
    → ((u : UploadCall) → request.asked ≢ Asks (Objects (object.Upload u))) → held_now ≡ held → KeepsFitting old new held held_now
fits_unchanged old new call request met told position edge held held_now flow none same origin objects alone from is fits = (
  objects,
  same ∙ is,
  fits_behind old new call request met told position edge flow origin objects objects alone from fits (λ number below. refl)
      (λ u number asked staged. absurd (none u asked)),
)

-- Calls of a lone seat in which nothing failed are told of no trouble.
use Rattle.std.proofs.Common.{◌≡◌, ◌≢◌, ◌<◌, ◌≤◌, ◌+◌, inl, inr, ℕ, false, List, [], ◌∷◌, ◌++◌, All, sym, ap, subst, ◌∙◌, arith}
use Rattle.std.specs.List.{Contains}
use Rattle.std.proofs.lemmas.List.Elements.{All-cons, All-head, All-nil, All-tail, Contains-append_left, Contains-append_right}
use Rattle.call_placement.specs.Rules.{Caller}
use Rattle.call_placement.specs.Sessions.{caller}
use Rattle.lake_base.specs.Outside.{last_count}
use Rattle.lake_core.specs.Faults.{HasFault}
use Rattle.lake_model.specs.History.{faulted_entry}
use Rattle.lake_model.specs.State.{State}
use Rattle.lake_model.specs.declared.history.HistoryEntry.{HistoryEntry}
use Rattle.shared_lake.specs.SeatSteps.{LakeSeat}
use Rattle.lake_calls.specs.CallExceptions.{HasRisen}
use Rattle.lake_calls.specs.LakeRules.{by_caller}
use Rattle.lake_calls.specs.Requests.{Asks}
use Rattle.lake_calls.specs.declared.reply.CallReply.TheVariants as reply
use Rattle.seat_laws.proofs.TroubleLemmas.{none_told}
use Rattle.seat_laws.specs.Troubles.{is_trouble}
use Rattle.lake_session.specs.SessionItems.{SessionItem}
use Rattle.lake_session.specs.SessionViews.{StoreView}
use Rattle.lake_session.specs.WholeSessions.{AreCounted}
use Rattle.session_laws.specs.LikeSessions.{HasBytes}
use Rattle.session_laws.proofs.CallPairs.{Adds, AreCalm, OfCall, OfForm, ServedBy}

-- the store's count of faults doesn't fall
pub faults_rise : (seat : LakeSeat) (old now : StoreView) (items : List SessionItem) → AreCounted seat old items now → old.faults ≤ now.faults
faults_rise seat old now [] same = let is = ap (λ (s : StoreView). s.faults) same in omega (arith, is)
faults_rise seat old now (item ∷ items) (between, counted, given, later) =
    let first = counted.faults_rise in
    let rest = faults_rise seat between now items later in
    omega (arith, first, rest)

none_rose : (before between now : ℕ) → before ≤ between → between ≤ now → now ≤ before → now < 18446744073709551615
    → (between < 18446744073709551615 → before < between) → ⊥
none_rose before between now first later still counting rose =
    let risen = rose (omega (arith, later, counting)) in omega (arith, first, later, still, risen)

one_calm : (opened : State) (by : Caller) (before added : List HistoryEntry) (item : SessionItem) → ServedBy opened by before added item
    → (HasRisen item.met.block_faults → ⊥) → (HasFault added → ⊥) → item.told ≢ reply.NoMemory → HasBytes item
    → is_trouble item.told ≡ false
one_calm opened by before added item (OfForm refused is (inl told) nothing) quiet unnoted memory had = ap is_trouble told
one_calm opened by before added item (OfForm refused is (inr starved) nothing) quiet unnoted memory had = absurd (memory starved)
one_calm opened by before added item (OfCall call position edge asks served only own) quiet unnoted memory had =
    none_told call item.moment opened by before added item.met item.told position edge served own memory
    (λ operation among. unnoted (record { by = by_caller by; tried = operation; among = among })) quiet (λ c reads. had c (asks ∙ ap Asks reads))

-- a note in a part of the entries is one in all
noted_first : (here later added : List HistoryEntry) → added ≡ here ++ later → HasFault here → HasFault added
noted_first here later added is fault = record {
  by = fault.by;
  tried = fault.tried;
  among = subst (λ (l : List HistoryEntry). Contains l (faulted_entry fault.by fault.tried)) (sym is)
      (Contains-append_left here later (faulted_entry fault.by fault.tried) fault.among);
}

noted_later : (here later added : List HistoryEntry) → added ≡ here ++ later → HasFault later → HasFault added
noted_later here later added is fault = record {
  by = fault.by;
  tried = fault.tried;
  among = subst (λ (l : List HistoryEntry). Contains l (faulted_entry fault.by fault.tried)) (sym is)
      (Contains-append_right here later (faulted_entry fault.by fault.tried) fault.among);
}

pub all_calm : (of : LakeSeat) (opened : State) (seat number : ℕ) (before : List HistoryEntry) (items : List SessionItem) (added : List HistoryEntry) (old now : StoreView)
    → Adds opened seat number before items added → AreCounted of old items now → now.faults ≤ old.faults → now.faults < last_count
    → (HasFault added → ⊥) → All (λ (item : SessionItem). item.told ≢ reply.NoMemory) items
    → All HasBytes items → AreCalm items
all_calm of opened seat number before [] added old now adds counted still counting unnoted memory had =
    All-nil (λ (item : SessionItem). is_trouble item.told ≡ false)
all_calm of opened seat number before (item ∷ items) added old now (here, later, parted, served, adds) (between, counted, given, counts) still counting unnoted memory
    had =
    let rise = faults_rise of between now items counts in
    let first = counted.faults_rise in
    let quiet : HasRisen item.met.block_faults → ⊥ =
    λ rose. none_rose old.faults between.faults now.faults first rise still counting (subst HasRisen counted.faults rose) in
    All-cons (λ (one : SessionItem). is_trouble one.told ≡ false) item items
    (one_calm opened (caller seat number) before here item served quiet (λ fault. unnoted (noted_first here later added parted fault))
    (All-head (λ (one : SessionItem). one.told ≢ reply.NoMemory) item items memory) (All-head HasBytes item items had))
    (all_calm of opened seat (number + 1) (before ++ here) items later between now adds counts (omega (arith, first, still)) counting
    (λ fault. unnoted (noted_later here later added parted fault)) (All-tail (λ (one : SessionItem). one.told ≢ reply.NoMemory) item items memory)
    (All-tail HasBytes item items had))

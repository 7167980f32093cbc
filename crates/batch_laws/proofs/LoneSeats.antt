-- A seat that is alone at a lake, and the one call that a session of its own serves.
use Rattle.std.proofs.Common.{◌≡◌, ◌⊎◌, inl, inr, ◌==◌, ℕ, true, false, List, [], ◌∷◌, ◌++◌, length, Some, All, refl, sym, ap, subst, ◌∙◌}
use Rattle.std.proofs.Common.{append-nil}
use Rattle.std.proofs.lemmas.Bool.{and_from, eq-eqb}
use Rattle.std.proofs.lemmas.List.{append_cancel_left}
use Rattle.std.proofs.lemmas.List.Elements.{All-cons, All-head, All-nil, All-tail}
use Rattle.call_placement.specs.Alone.{AreOwn}
use Rattle.call_placement.specs.Points.{is_own}
use Rattle.call_placement.specs.Rules.{Caller}
use Rattle.call_placement.specs.Served.{IsServed}
use Rattle.call_placement.specs.Sessions.{AreServed, IsItemServed, caller}
use Rattle.lake_model.specs.declared.history.HistoryEntry.{HistoryEntry}
use Rattle.lake_model.specs.State.{State}
use Rattle.lake_calls.specs.LakeRules.{lake_rules}
use Rattle.lake_calls.specs.Requests.{Asked, Asks, CallRequest, Malformed, form_of}
use Rattle.lake_calls.specs.declared.call.Call.{Call}
use Rattle.lake_calls.specs.declared.reply.CallReply.{CallReply}
use Rattle.lake_calls.specs.declared.reply.CallReply.TheVariants as reply
use Rattle.lake_calls.specs.declared.reply.FormRefusal.{FormRefusal}
use Rattle.api_forms.specs.CallForms.{asked}
use Rattle.lake_core.specs.declared.standing.LakeOrigin.{LakeOrigin}
use Rattle.shared_lake.specs.SeatSteps.{LakeSeat}
use Rattle.flow_steps.specs.FlowSeats.{opened_state}
use Rattle.seat_laws.specs.LikeReplies.{AreLikeReplies, Same}
use Rattle.seat_laws.specs.Troubles.{is_trouble}
use Rattle.seat_laws.proofs.LikeLemmas.{like_calls}
use Rattle.lake_batch.specs.CommandWords.{SessionItem, call_item}
use Rattle.lake_batch.specs.CommandWords.{GoesThrough}
use Rattle.lake_batch.specs.CommandWords.{LakeView, ServesItems}

-- the only seat at a lake that was opened as this state, of the number 0
pub record IsLone (opened : State) (seat : LakeSeat) : Type 0 where
  pub origin : LakeOrigin
  pub from : seat.origin ≡ Some origin
  pub opened_as : opened_state origin ≡ opened
  pub number : seat.number ≡ 0
  pub alone : seat.alone ≡ true

pub lone_further : (opened : State) (old now : LakeSeat) → GoesThrough old now → IsLone opened old → IsLone opened now
lone_further opened old now goes lone = record {
  origin = lone.origin;
  from = ap (λ (s : LakeSeat). s.origin) goes.seat ∙ lone.from;
  opened_as = lone.opened_as;
  number = ap (λ (s : LakeSeat). s.number) goes.seat ∙ lone.number;
  alone = ap (λ (s : LakeSeat). s.alone) goes.seat ∙ lone.alone;
}

-- a call of that seat, in a session of its own
abbrev pub by_one : Caller
by_one = caller 0 1

-- THE CALL OF AN ITEM WAS SERVED: its form was refused, or its call was served and added these entries
pub data ServedBy (opened : State) (before added : List HistoryEntry) (item : SessionItem) : Type 0 where
  OfForm : (refusal : FormRefusal) → asked item.request ≡ Malformed refusal
      → (item.told ≡ reply.Malformed refusal) ⊎ (item.told ≡ reply.NoMemory) → added ≡ [] → ServedBy opened before added item
  OfCall : (call : Call) (position edge : ℕ) → asked item.request ≡ Asks call
      → IsServed lake_rules opened by_one before (before ++ added) (record { asked = Asks call; moment = item.moment }) item.met item.told position edge
      → AreOwn lake_rules by_one added → ServedBy opened before added item

-- entries of the seat, and of this call
own_entries : (entries : List HistoryEntry) → All (λ (e : HistoryEntry). e.by.seat ≡ 0) entries
    → All (λ (e : HistoryEntry). e.by.seat ≡ 0 → e.by.call ≡ 1) entries → AreOwn lake_rules by_one entries
own_entries [] seats calls = All-nil (λ (e : HistoryEntry). is_own lake_rules by_one e ≡ true)
own_entries (e ∷ entries) seats calls =
    let seat : e.by.seat ≡ 0 = All-head (λ (e : HistoryEntry). e.by.seat ≡ 0) e entries seats in
    let call : e.by.call ≡ 1 = All-head (λ (e : HistoryEntry). e.by.seat ≡ 0 → e.by.call ≡ 1) e entries calls seat in
    All-cons (λ (e : HistoryEntry). is_own lake_rules by_one e ≡ true) e entries (and_from (e.by.seat == 0) (e.by.call == 1) (eq-eqb e.by.seat 0 seat) (eq-eqb e.by.call 1 call))
    (own_entries entries (All-tail (λ (e : HistoryEntry). e.by.seat ≡ 0) e entries seats)
    (All-tail (λ (e : HistoryEntry). e.by.seat ≡ 0 → e.by.call ≡ 1) e entries calls))

module _ (opened : State) (before added now : List HistoryEntry) (item : SessionItem) (edge next_edge : ℕ) (is : now ≡ before ++ added)
    (seats : All (λ (e : HistoryEntry). e.by.seat ≡ 0) added) where
  by_asked : (a : Asked) → asked item.request ≡ a
      → IsItemServed lake_rules opened by_one edge before now (call_item item) next_edge (form_of a) → ServedBy opened before added item
  by_asked (Malformed refusal) form served =
      OfForm refusal form (told served.0) (append_cancel_left before added [] (sym is ∙ (served.1 ∙ sym (append-nil before))))
    where
      told : ((item.told ≡ reply.Malformed refusal) × (item.position ≡ edge)) ⊎ ((item.told ≡ reply.NoMemory) × (item.position ≡ length before))
          → (item.told ≡ reply.Malformed refusal) ⊎ (item.told ≡ reply.NoMemory)
      told (inl refused) = inl refused.0
      told (inr starved) = inr starved.0
  by_asked (Asks call) asks served =
      let only = served.1 in
      let same : only.0 ≡ added = append_cancel_left before only.0 added (sym only.1 ∙ is) in
      let calls = subst (All (λ (e : HistoryEntry). e.by.seat ≡ 0 → e.by.call ≡ 1)) same only.2 in
      OfCall call item.position next_edge asks
      (subst (λ (a : Asked). IsServed lake_rules opened by_one before (before ++ added) (record { asked = a; moment = item.moment }) item.met item.told
      item.position next_edge) asks
      (subst (λ (l : List HistoryEntry). IsServed lake_rules opened by_one before l (record { asked = asked item.request; moment = item.moment }) item.met
      item.told item.position next_edge) is served.0))
      (own_entries added seats calls)

-- the one of a list of one
one_of : (opened : State) (seat edge last : ℕ) (before after : List HistoryEntry) (item : SessionItem)
    → AreServed lake_rules opened seat 1 edge before (call_item item ∷ []) after last
    → (between : List HistoryEntry) × (next_edge : ℕ)
    × IsItemServed lake_rules opened (caller seat 1) edge before between (call_item item) next_edge (form_of (asked item.request)) × (after ≡ between)
one_of opened seat edge last before after item (between, next_edge, here, (same, last_is)) = (between, next_edge, here, same)

-- so it was in a session of one item
pub served_by : (opened : State) (old now : LakeView) (item : SessionItem) → IsLone opened old.seat → (serves : ServesItems old now (item ∷ []))
    → ServedBy opened old.seat.seen serves.goes.added item
served_by opened old now item lone serves =
    let at = length old.seat.seen in
    let one = one_of (opened_state lone.origin) old.seat.number at serves.edge old.seat.seen now.seat.seen item
    (serves.history lone.origin lone.from).served in
    let alone = subst (λ (n : ℕ). IsItemServed lake_rules (opened_state lone.origin) (caller n 1) at old.seat.seen one.0 (call_item item) one.1
    (form_of (asked item.request))) lone.number one.2 in
    let here = subst (λ (s : State). IsItemServed lake_rules s by_one at old.seat.seen one.0 (call_item item) one.1
    (form_of (asked item.request))) lone.opened_as alone in
    by_asked opened old.seat.seen serves.goes.added one.0 item at one.1 (sym one.3 ∙ serves.goes.seen)
    (subst (λ (n : ℕ). All (λ (e : HistoryEntry). e.by.seat ≡ n) serves.goes.added) lone.number (serves.goes.alone lone.alone))
    (asked item.request) refl here

-- a session of none left what was seen
pub seen_still : (opened : State) (old now : LakeView) → IsLone opened old.seat → ServesItems old now [] → now.seat.seen ≡ old.seat.seen
seen_still opened old now lone serves = (serves.history lone.origin lone.from).served.0

-- ---- two of them

form_told : (told : CallReply) (refusal : FormRefusal) → (told ≡ reply.Malformed refusal) ⊎ (told ≡ reply.NoMemory) → is_trouble told ≡ false
    → told ≡ reply.Malformed refusal
form_told told refusal (inl is) calm = is
form_told told refusal (inr is) calm = let never = sym (ap is_trouble is) ∙ calm in absurd (cc (never))

-- the same request at the same moment is told the same, and adds the same
pub like_items : (opened : State) (before added more : List HistoryEntry) (item other : SessionItem) → item.request ≡ other.request
    → item.moment ≡ other.moment → ServedBy opened before added item → ServedBy opened before more other
    → is_trouble item.told ≡ false → is_trouble other.told ≡ false → AreLikeReplies item.told other.told × (added ≡ more)
like_items opened before added more item other requests moments (OfForm refusal is told none) (OfForm refused so tells nothing) calm still =
    let same : Malformed refusal ≡ Malformed refused = sym is ∙ (ap asked requests ∙ so) in
    let refusals : refusal ≡ refused = cc (same) in (
      Same (form_told item.told refusal told calm ∙ (ap reply.Malformed refusals ∙ sym (form_told other.told refused tells still))),
      none ∙ sym nothing,
    )
like_items opened before added more item other requests moments (OfForm refusal is told none) (OfCall call position edge so served own) calm still =
    let same : Malformed refusal ≡ Asks call = sym is ∙ (ap asked requests ∙ so) in absurd (cc (same))
like_items opened before added more item other requests moments (OfCall call position edge is served own) (OfForm refused so tells nothing) calm still =
    let same : Asks call ≡ Malformed refused = sym is ∙ (ap asked requests ∙ so) in absurd (cc (same))
like_items opened before added more item other requests moments (OfCall call position edge is served own)
    (OfCall called other_position other_edge so other_served other_own) calm still =
    let same : Asks called ≡ Asks call = sym so ∙ (ap asked (sym requests) ∙ is) in
    let asks : CallRequest = record { asked = Asks call; moment = item.moment } in
    let again : record { asked = Asks called; moment = other.moment } ≡ asks = λ i. record { asked = same i; moment = sym moments i } in
    like_calls call item.moment opened by_one before added more item.met other.met item.told other.told position other_position edge other_edge served
    (subst (λ (r : CallRequest). IsServed lake_rules opened by_one before (before ++ more) r other.met other.told other_position other_edge) again other_served)
    own other_own calm still

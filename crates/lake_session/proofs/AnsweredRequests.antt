-- A request was answered: by the call that it asks for, by the refusal of its form, or by want of memory.
use Rattle.std.proofs.Common.{◌≡◌, ◌∙◌, ℕ, [], length, Option, Some, None, Err, inl, inr, refl, sym, subst, arith}
use Rattle.std.proofs.lemmas.List.{append-nil}
use Rattle.std.proofs.lemmas.List.Elements.{All-nil}
use Rattle.block_store.specs.Blocks.{HeldObjects}
use Rattle.http_wire.specs.declared.message.Request.{Request}
use Rattle.lake_core.specs.declared.standing.LakeOrigin.{LakeOrigin}
use Rattle.lake_api.specs.AnswerWords.{Answered, IsCallAnswered, IsFlow, LakeSeat, ReadsGiven, ReadsHeld, asked_at, counted_between, opened_state}
use Rattle.call_placement.specs.Served.{ByMemory, Keeps, IsServed}
use Rattle.call_placement.specs.Sessions.{IsItemServed, IsOnlyServed, caller}
use Rattle.lake_calls.specs.CallExceptions.{CallMet, nothing_met}
use Rattle.lake_calls.specs.Courses.{nothing_fixed}
use Rattle.lake_calls.specs.LakeRules.{lake_rules}
use Rattle.lake_calls.specs.Requests.{Asked, Asks, Malformed, CallRequest, form_of}
use Rattle.lake_calls.specs.declared.call.Call.{Call}
use Rattle.lake_calls.specs.declared.reply.CallReply.{CallReply}
use Rattle.lake_calls.specs.declared.reply.CallReply.TheVariants as reply
use Rattle.lake_calls.specs.declared.reply.FormRefusal.{FormRefusal}
use Rattle.lake_api.proofs.AnswerLemmas.{reached_nothing, served_stopped}
use Rattle.api_routes.specs.declared.fault.FormFault.{FormFault}
use Rattle.api_routes.specs.declared.fault.FormFault.TheVariants as form
use Rattle.api_forms.specs.CallForms.{IsAsked, asked}
use Rattle.lake_session.specs.SessionViews.{IsRequestAnswered, StoreView}

-- ---- a call

-- a flow served its call and no other of its seat, from the one origin that this has
only_served : (old new : LakeSeat) (number : ℕ) (request : CallRequest) (met : CallMet) (told : CallReply) (position edge : ℕ) (origin : LakeOrigin)
    → IsFlow old new number request met told position edge → old.origin ≡ Some origin
    → IsOnlyServed lake_rules (opened_state origin) (caller old.number number) old.seen new.seen
    (record { request = request; met = met; reply = told; position = position }) edge
only_served old new number request met told position edge origin flow from =
    let one : flow.origin ≡ origin = cc (flow.goes.from, from) in
    subst (λ (o : LakeOrigin). IsOnlyServed lake_rules (opened_state o) (caller old.number number) old.seen new.seen
    (record { request = request; met = met; reply = told; position = position }) edge) one
    (flow.served, (flow.goes.added, flow.goes.seen, flow.goes.of_call))

-- the call that is asked for was answered
by_call : (number edge : ℕ) (request : Request) (moment : ℕ) (before now : StoreView) (old new : LakeSeat) (answer : Answered) (call : Call)
    → asked request ≡ Asks call
    → IsCallAnswered old new number call moment (counted_between before.faults before.misses now.faults now.misses now.missed) before.held now.held answer
    → IsRequestAnswered number edge request moment before now old new answer
by_call number edge request moment before now old new answer call asks is = record {
  met = is.met;
  served = λ origin from. subst (λ (a : Asked). IsItemServed lake_rules (opened_state origin) (caller old.number number) edge old.seen new.seen
      (record { request = record { asked = a; moment = moment }; met = is.met; reply = answer.reply; position = answer.position }) answer.edge (form_of a))
      (sym asks)
      (only_served old new number (asked_at call moment) is.met answer.reply answer.position answer.edge origin is.flow from);
  moves = inr (is.flow.origin, is.flow.goes, is.turn);
  counted = record {
    faults = is.faults;
    misses = is.misses;
    missed_last = is.missed_last;
    faults_rise = is.counts.0;
    misses_rise = is.counts.1;
  };
  fitting = is.fitting;
  given = λ other asks_other.
      let same : call ≡ other = cc (asks, asks_other) in
      subst (λ (c : Call). ReadsGiven old new before.held c is.met.bytes answer.reply answer.position) same is.given;
  reads = λ other asks_other.
      let same : call ≡ other = cc (asks, asks_other) in
      subst (λ (c : Call). ReadsHeld old before.held c answer.reply answer.position) same is.reads;
}

-- the same by what a store shows, whose value now is the one that the call left
module _ {D : Type 0} (held : D → Option HeldObjects) (faults misses missed : D → ℕ) where
  abbrev view : D → StoreView
  view store = record { held = held store; faults = faults store; misses = misses store; missed = missed store }

  pub call_answered : (number edge : ℕ) (request : Request) (moment : ℕ) (before now left : D) (old new : LakeSeat) (answer : Answered) (call : Call)
      → now ≡ left → asked request ≡ Asks call
      → IsCallAnswered old new number call moment (counted_between (faults before) (misses before) (faults left) (misses left) (missed left))
      (held before) (held left) answer
      → IsRequestAnswered number edge request moment (view before) (view now) old new answer
  call_answered number edge request moment before now left old new answer call same asks is =
      subst (λ (d : D). IsRequestAnswered number edge request moment (view before) (view d) old new answer) (sym same)
      (by_call number edge request moment (view before) (view left) old new answer call asks is)

-- ---- a request that asks for no call, or for which memory ran out: nothing changed

module _ (number edge : ℕ) (request : Request) (moment : ℕ) (store : StoreView) (seat : LakeSeat) (answer : Answered) where
  -- what it met: counts that stood still
  abbrev still_met : CallMet
  still_met = record nothing_met {
    block_faults = record { before = store.faults; now = store.faults };
    misses = record { before = store.misses; now = store.misses };
    missed_last = store.missed;
  }

  -- it was served so, by what is asked
  abbrev Served : Asked → LakeOrigin → Type 0
  Served what origin =
      IsItemServed lake_rules (opened_state origin) (caller seat.number number) edge seat.seen seat.seen
      (record { request = record { asked = what; moment = moment }; met = still_met; reply = answer.reply; position = answer.position })
      answer.edge (form_of what)

  unchanged : ((origin : LakeOrigin) → Served (asked request) origin)
      → ((call : Call) → asked request ≡ Asks call → ReadsGiven seat seat store.held call None answer.reply answer.position)
      → ((call : Call) → asked request ≡ Asks call → ReadsHeld seat store.held call answer.reply answer.position)
      → IsRequestAnswered number edge request moment store store seat seat answer
  unchanged served given reads = record {
    met = still_met;
    served = λ origin from. served origin;
    moves = inl refl;
    counted = record { faults = refl; misses = refl; missed_last = refl; faults_rise = omega arith; misses_rise = omega arith };
    fitting = λ origin objects alone from held fits. (objects, held, fits);
    given = given;
    reads = reads;
  }

  -- a call for which memory ran out passed no point
  starved_call : answer.reply ≡ reply.NoMemory → answer.edge ≡ length seat.seen → (call : Call) (origin : LakeOrigin)
      → IsServed lake_rules (opened_state origin) (caller seat.number number) seat.seen seat.seen (asked_at call moment) still_met answer.reply
      (length seat.seen) answer.edge
  starved_call told edge_is call origin =
      served_stopped (opened_state origin) (caller seat.number number) (asked_at call moment) still_met answer.reply nothing_fixed seat.seen []
      (lake_rules.course (asked_at call moment) nothing_fixed) seat.seen seat.seen answer.edge refl
      (reached_nothing (opened_state origin) (caller seat.number number) (asked_at call moment) seat.seen) (ByMemory told) (Keeps told refl edge_is)

  -- memory ran out, which was told at all that the seat had seen
  starved_served : answer.reply ≡ reply.NoMemory → answer.position ≡ length seat.seen → answer.edge ≡ answer.position
      → (what : Asked) (origin : LakeOrigin) → Served what origin
  starved_served told position edge_is (Asks call) origin = (
    subst (λ (at : ℕ). IsServed lake_rules (opened_state origin) (caller seat.number number) seat.seen seat.seen (asked_at call moment) still_met
        answer.reply at answer.edge) (sym position) (starved_call told (edge_is ∙ position) call origin),
    ([], sym (append-nil seat.seen), All-nil _),
  )
  starved_served told position edge_is (Malformed refusal) origin = (inr (told, position), refl, edge_is)

  -- a request that is no call was answered by the refusal of its form, at the edge, or by want of memory
  pub no_call : (fault : FormFault) → IsAsked (Err fault) (asked request)
      → ((refusal : FormRefusal) → fault ≡ form.Refused refusal → (answer.reply ≡ reply.Malformed refusal) × (answer.position ≡ edge))
      → (fault ≡ form.NoMemory → (answer.reply ≡ reply.NoMemory) × (answer.position ≡ length seat.seen))
      → answer.edge ≡ answer.position → IsRequestAnswered number edge request moment store store seat seat answer
  no_call fault asks refused starved edge_is = elim asks [
    | inl memory ↦
        let told = starved memory in
        unchanged (λ origin. starved_served told.0 told.1 edge_is (asked request) origin)
        (λ call asks_call. subst (λ (r : CallReply). ReadsGiven seat seat store.held call None r answer.position) (sym told.0)
        (λ c origin objects is from held. (told.1, tt)))
        (λ call asks_call. subst (λ (r : CallReply). ReadsHeld seat store.held call r answer.position) (sym told.0)
        (λ c origin objects is alone from held fits. (told.1, tt)))
    | inr form_refused ↦
        let told = refused form_refused.0 form_refused.1 in
        unchanged (λ origin. subst (λ (a : Asked). Served a origin) (sym form_refused.2) (inl told, refl, edge_is))
        (λ call asks_call. let never : ⊥ = cc (form_refused.2, asks_call) in absurd never)
        (λ call asks_call. let never : ⊥ = cc (form_refused.2, asks_call) in absurd never)
  ]

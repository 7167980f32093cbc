-- One turn of a session, of what its steps tell.
use Rattle.std.proofs.Common.{◌≡◌, inl, inr, ℕ, Bool, true, false, List, [], ◌∷◌, ◌++◌, max, Some, IfSome, Result, Ok, Err}
use Rattle.std.proofs.Common.{OnErr, is_ok, refl, sym, ap, subst, ◌∙◌}
use Rattle.lake_base.specs.Outside.{Rose}
use Rattle.lake_base.specs.declared.outside.Failed.{Failed}
use Rattle.http_wire.specs.Messages.{IsReadOf, ReadsRequestAt}
use Rattle.http_wire.specs.ReplyText.{reply_text}
use Rattle.http_wire.specs.declared.fault.WireFault.{WireFault}
use Rattle.http_wire.specs.declared.fault.WireFault.TheVariants.{BadHead, BadLength, BodyTooLong, Chunked, Ended, HeadTooLong, NoMemory, ReadFault, Truncated}
use Rattle.http_wire.specs.declared.message.Reply.{Reply}
use Rattle.http_wire.specs.declared.message.Request.{Request}
use Rattle.lake_core.specs.declared.standing.LakeOrigin.{LakeOrigin}
use Rattle.call_placement.specs.Sessions.{caller}
use Rattle.lake_calls.specs.Requests.{Asked, Asks}
use Rattle.lake_calls.specs.declared.call.Call.{Call}
use Rattle.lake_calls.specs.declared.reply.CallReply.{CallReply}
use Rattle.lake_api.specs.AnswerWords.{Answered, ReadsGiven, ReadsHeld, opened_state}
use Rattle.api_forms.specs.CallForms.{asked}
use Rattle.lake_session.specs.declared.replies.Printed.{Printed}
use Rattle.lake_session.specs.declared.report.End.{End}
use Rattle.lake_session.specs.declared.report.End.TheVariants as end
use Rattle.lake_session.specs.FaultEnds.{EndsBehind, EndsByFault}
use Rattle.lake_session.specs.PrintedAnswers.{IsPrinted, Starved, StarvedForm, Whole, sent_by, tells_form, told_by}
use Rattle.lake_session.specs.SessionItems.{KeepsTelling, SessionItem, item_text, placed_item}
use Rattle.lake_session.specs.SessionTexts.{Writes, last_reply, reply_to_fault, told_text}
use Rattle.lake_session.specs.SessionTurns.{EndsSo, EndsUnserved, IsLeft, NothingServed, ServesWhole, Tally, TurnEnds, end_behind}
use Rattle.lake_session.specs.SessionViews.{IsRequestAnswered, ServesItem, SessionView, TakesRequest}
use Rattle.lake_session.proofs.TakenLemmas.{ReadsFault, behind, given_behind, left_behind}
use Rattle.lake_session.proofs.FormLemmas.{IsServedSo, no_form, starves_form, starves_item}
use Rattle.lake_session.proofs.TextLemmas.{starved_text}

-- ---- a message that isn't read

module _ (number : ℕ) (old now : SessionView) (tally tally_now : Tally) (nothing : NothingServed old now)
    (tally_is : tally_now ≡ record tally { held = tally_now.held }) where
  abbrev Takes : WireFault → Type 0
  Takes fault = TakesRequest tally.held tally_now.held old.unread now.unread (Err fault)

  ends_so : (fault : WireFault) (takes : Takes fault) (ended : End)
      → ((given left : List ℕ) → ReadsFault fault tally_now.held given left → IsLeft ended given left)
      → EndsUnserved (behind tally.held tally_now.held now.unread fault old.unread takes) old now ended → EndsSo old now tally tally_now ended
  ends_so fault takes ended says ends = record {
    behind = behind tally.held tally_now.held now.unread fault old.unread takes;
    read = left_behind tally.held tally_now.held now.unread fault (IsLeft ended) says old.unread takes;
    nothing = nothing;
    tally_is = tally_is;
    ends = ends;
  }

  answered : (fault : WireFault) (sent : Reply) (answer : End) → Takes fault
      → ((given left : List ℕ) → ReadsFault fault tally_now.held given left → ReadsRequestAt given (Err fault))
      → ((given left : List ℕ) → ReadsFault fault tally_now.held given left → IsLeft (end.Wire fault) given left)
      → reply_to_fault fault ≡ Some sent → EndsBehind (end.Wire fault) sent old.written now.written old.write_faults now.write_faults answer
      → TurnEnds number old now tally tally_now (Some answer)
  answered fault sent answer takes reads says due (inl (is, wrote)) =
      subst (λ e. TurnEnds number old now tally tally_now (Some e)) (sym is) (ends_so fault takes (end.Wire fault) says (inr (sent, due, wrote)))
  answered fault sent answer takes reads says due (inr (is, rose, front)) =
      subst (λ e. TurnEnds number old now tally tally_now (Some e)) (sym is)
      (inr (ends_so fault takes end.WriteFault (λ given left read. tt) (
        rose,
        sent,
        inl (fault, given_behind tally.held tally_now.held now.unread fault (λ bytes. ReadsRequestAt bytes (Err fault)) reads old.unread takes, due),
        front,
      )))

  pub fault_turn : (fault : WireFault) (answer : End) → Takes fault → (fault ≡ ReadFault → Rose old.read_faults now.read_faults)
      → EndsByFault fault old.written now.written old.write_faults now.write_faults answer → TurnEnds number old now tally tally_now (Some answer)
  unfolding IsReadOf
  fault_turn Ended answer takes rose ends =
      subst (λ e. TurnEnds number old now tally tally_now (Some e)) (sym ends.0)
      (ends_so Ended takes end.SourceEnded (λ given left read. read) ends.1)
  fault_turn ReadFault answer takes rose ends =
      subst (λ e. TurnEnds number old now tally tally_now (Some e)) (sym ends.0)
      (ends_so ReadFault takes end.ReadFault (λ given left read. read) (rose refl, ends.1))
  fault_turn (Truncated n) answer takes rose ends =
      subst (λ e. TurnEnds number old now tally tally_now (Some e)) (sym ends.0)
      (ends_so (Truncated n) takes (end.Wire (Truncated n)) (λ given left read. read) (inl (n, refl, ends.1)))
  fault_turn NoMemory answer takes rose (inl (is, wrote)) =
      subst (λ e. TurnEnds number old now tally tally_now (Some e)) (sym is) (ends_so NoMemory takes end.NoMemory (λ given left read. tt) wrote)
  fault_turn NoMemory answer takes rose (inr (is, failed, front)) =
      subst (λ e. TurnEnds number old now tally tally_now (Some e)) (sym is)
      (inr (ends_so NoMemory takes end.WriteFault (λ given left read. tt) (failed, last_reply, inr refl, front)))
  fault_turn HeadTooLong answer takes rose ends =
      answered HeadTooLong ends.0 answer takes (λ given left read. read) (λ given left read. read) ends.1 ends.2
  fault_turn BadHead answer takes rose ends = answered BadHead ends.0 answer takes (λ given left read. read) (λ given left read. read) ends.1 ends.2
  fault_turn Chunked answer takes rose ends = answered Chunked ends.0 answer takes (λ given left read. read) (λ given left read. read) ends.1 ends.2
  fault_turn BadLength answer takes rose ends = answered BadLength ends.0 answer takes (λ given left read. read) (λ given left read. read) ends.1 ends.2
  fault_turn (BodyTooLong n) answer takes rose ends =
      answered (BodyTooLong n) ends.0 answer takes (λ given left read. read) (λ given left read. read) ends.1 ends.2

-- ---- a request that was answered

module _ (number edge moment : ℕ) (request : Request) (old now : SessionView) (answer : Answered)
    (answers : IsRequestAnswered number edge request moment old.store now.store old.seat now.seat answer) (printed : Printed) where
  abbrev pub told : CallReply
  told = told_by answer.reply printed.reply

  -- what was printed is placed
  is_placed : IsPrinted now.seat answer printed → (origin : LakeOrigin) → old.seat.origin ≡ Some origin
      → IsServedSo (opened_state origin) (caller old.seat.number number) edge old.seat.seen now.seat.seen moment answers.met (asked request) told
      printed.position printed.edge
  is_placed (Whole is) origin from =
      subst (λ (p : Printed). IsServedSo (opened_state origin) (caller old.seat.number number) edge old.seat.seen now.seat.seen moment answers.met
      (asked request) (told_by answer.reply p.reply) p.position p.edge) (sym is) (answers.served origin from)
  is_placed (Starved none is) origin from =
      subst (λ (p : Printed). IsServedSo (opened_state origin) (caller old.seat.number number) edge old.seat.seen now.seat.seen moment answers.met
      (asked request) (told_by answer.reply p.reply) p.position p.edge) (sym is)
      (starves_item (opened_state origin) (caller old.seat.number number) edge old.seat.seen now.seat.seen moment answers.met (asked request) answer.reply
      answer.position answer.edge none (answers.served origin from))
  is_placed (StarvedForm form is) origin from =
      subst (λ (p : Printed). IsServedSo (opened_state origin) (caller old.seat.number number) edge old.seat.seen now.seat.seen moment answers.met
      (asked request) (told_by answer.reply p.reply) p.position p.edge) (sym is)
      (starves_form (opened_state origin) (caller old.seat.number number) edge old.seat.seen now.seat.seen moment answers.met (asked request) answer.reply
      answer.position answer.edge form (answers.served origin from))

  -- what asks for a call isn't told that its form was refused
  form_of_no_call : (call : Call) → asked request ≡ Asks call → tells_form answer.reply ≡ true → (origin : LakeOrigin) → old.seat.origin ≡ Some origin → ⊥
  form_of_no_call call asks form origin from =
      let served = subst (λ (a : Asked). IsServedSo (opened_state origin) (caller old.seat.number number) edge old.seat.seen now.seat.seen moment answers.met a
      answer.reply answer.position answer.edge) asks (answers.served origin from) in
      no_form call moment (opened_state origin) (caller old.seat.number number) old.seat.seen now.seat.seen answers.met answer.reply answer.position
      answer.edge served.0 form

  reads_so : IsPrinted now.seat answer printed → (call : Call) → asked request ≡ Asks call
      → ReadsHeld old.seat old.store.held call told printed.position
  reads_so (Whole is) call asks =
      subst (λ (p : Printed). ReadsHeld old.seat old.store.held call (told_by answer.reply p.reply) p.position) (sym is) (answers.reads call asks)
  reads_so (Starved none is) call asks =
      subst (λ (p : Printed). ReadsHeld old.seat old.store.held call (told_by answer.reply p.reply) p.position) (sym is)
      (λ c origin objects one alone from held fits. let read = answers.reads call asks c origin objects one alone from held fits in (read.0, tt))
  reads_so (StarvedForm form is) call asks =
      subst (λ (p : Printed). ReadsHeld old.seat old.store.held call (told_by answer.reply p.reply) p.position) (sym is)
      (λ c origin objects one alone from held fits. absurd (form_of_no_call call asks form origin from))

  given_so : IsPrinted now.seat answer printed → (call : Call) → asked request ≡ Asks call
      → ReadsGiven old.seat now.seat old.store.held call answers.met.bytes told printed.position
  given_so (Whole is) call asks =
      subst (λ (p : Printed). ReadsGiven old.seat now.seat old.store.held call answers.met.bytes (told_by answer.reply p.reply) p.position) (sym is)
      (answers.given call asks)
  given_so (Starved none is) call asks =
      subst (λ (p : Printed). ReadsGiven old.seat now.seat old.store.held call answers.met.bytes (told_by answer.reply p.reply) p.position) (sym is)
      (λ c origin objects one from held. let given = answers.given call asks c origin objects one from held in (given.0, tt))
  given_so (StarvedForm form is) call asks =
      subst (λ (p : Printed). ReadsGiven old.seat now.seat old.store.held call answers.met.bytes (told_by answer.reply p.reply) p.position) (sym is)
      (λ c origin objects one from held. absurd (form_of_no_call call asks form origin from))

  abbrev pub item : SessionItem
  item = record { request = request; moment = moment; met = answers.met; told = told; position = printed.position }

  -- the item of the request
  pub serves : (next_edge : ℕ) (held held_now : List ℕ) → IsPrinted now.seat answer printed → next_edge ≡ max edge printed.edge
      → TakesRequest held held_now old.unread now.unread (Ok request)
      → IfSome now.readings (λ readings. IfSome old.readings (λ before. readings ≡ before ++ moment ∷ []))
      → IfSome now.readings (λ readings. (before : List ℕ) × (old.readings ≡ Some before)) → KeepsTelling 1 old.readings now.readings
      → ServesItem number edge next_edge held held_now old now item
  serves next_edge held held_now is_printed edge_is reads clock clock_told clock_kept = record {
    request = reads;
    moment = clock;
    clock_told = clock_told;
    clock_kept = clock_kept;
    call_edge = printed.edge;
    served = is_placed is_printed;
    edge_is = edge_is;
    moves = answers.moves;
    counted = answers.counted;
    fitting = answers.fitting;
    given = given_so is_printed;
    reads = reads_so is_printed;
  }

  -- the text that is sent is the item's
  pub sends : IsPrinted now.seat answer printed → (close : Bool) → reply_text (sent_by close printed.reply) ≡ told_text close told
  sends (Whole is) close =
      ap (λ (p : Printed). reply_text (sent_by close p.reply)) is ∙ sym (ap (λ (p : Printed). told_text close (told_by answer.reply p.reply)) is)
  sends (Starved none is) close =
      ap (λ (p : Printed). reply_text (sent_by close p.reply)) is ∙ sym (starved_text close)
      ∙ sym (ap (λ (p : Printed). told_text close (told_by answer.reply p.reply)) is)
  sends (StarvedForm form is) close =
      ap (λ (p : Printed). reply_text (sent_by close p.reply)) is ∙ sym (starved_text close)
      ∙ sym (ap (λ (p : Printed). told_text close (told_by answer.reply p.reply)) is)

-- what came of the turn, by whether the reply was written and its client asks for the connection to close
module _ {T : Type 0} (number : ℕ) (old now : SessionView) (tally tally_now : Tally) (item : SessionItem)
    (serves : ServesItem number tally.edge tally_now.edge tally.held tally_now.held old now item) where
  by_close : (close : Bool) (done : T) → item.request.close ≡ close → ServesWhole number old now tally tally_now item
      → TurnEnds number old now tally tally_now (end_behind {T = T} (Ok done) close)
  by_close true done is whole = (item, whole, is)
  by_close false done is whole = (item, whole, is)

  pub served_turn : (sent : Result T Failed) → tally_now.placed ≡ tally.placed ++ placed_item number item (is_ok sent) ∷ []
      → Writes old.written now.written (item_text number item) sent → OnErr sent (Rose old.write_faults now.write_faults)
      → TurnEnds number old now tally tally_now (end_behind sent item.request.close)
  served_turn (Ok done) placed wrote failed =
      by_close item.request.close done refl (record { serves = serves; placed = placed; wrote = wrote })
  served_turn (Err fault) placed wrote failed = inl (item, record { serves = serves; placed = placed; wrote = wrote; failed = failed })

-- Two sessions over the same bytes came to the same.
use Rattle.std.proofs.Common.{◌≡◌, ◌≢◌, ◌+◌, ℕ, true, List, [], ◌∷◌, ◌++◌, Option, Some, IfSome, refl, sym, ap, subst, ◌∙◌, arith}
use Rattle.std.proofs.lemmas.List.{append_cancel_left}
use Rattle.http_wire.specs.SinkFronts.{Wrote}
use Rattle.http_wire.specs.declared.message.Request.{Request}
use Rattle.lake_base.specs.Outside.{Quiet, Rose}
use Rattle.lake_model.specs.State.{State}
use Rattle.lake_model.specs.declared.history.HistoryEntry.{HistoryEntry}
use Rattle.lake_core.specs.declared.standing.LakeOrigin.{LakeOrigin}
use Rattle.flow_steps.specs.FlowSeats.{opened_state}
use Rattle.seat_laws.specs.Clashes.{NoneClashes}
use Rattle.seat_laws.specs.LikeMoments.{Agree}
use Rattle.lake_session.specs.SessionItems.{AreFirst, SessionItem, item_text, moments, texts}
use Rattle.lake_session.specs.SessionTexts.{closes_behind, told_text}
use Rattle.lake_session.specs.SessionViews.{SessionView}
use Rattle.lake_session.specs.WholeSessions.{AreRequests, HasCause, IsSession}
use Rattle.lake_session.specs.declared.report.End.TheVariants as end
use Rattle.lake_session.specs.declared.report.SessionReport.{SessionReport}
use Rattle.session_laws.specs.LikeSessions.{AreOneSession, BeginAlike, HaveOneClock, Takes, WentWell, finds_end, requests, tolds}
use Rattle.session_laws.proofs.CallPairs.{session_adds, Adds, AreCalm, like_all}
use Rattle.session_laws.proofs.CalmCalls.{all_calm}
use Rattle.session_laws.proofs.RequestPairs.{Ahead, Back, Compared, Level, compare, first_longer}
use Rattle.session_laws.proofs.SessionEnds.{Ending, Stops, ending, none_left, not_beyond, one_end}

-- ---- a session

never_rose : (before now : ℕ) → Quiet before now → Rose before now → ⊥
never_rose before now quiet rose =
    let same = quiet.same in
    let risen = rose quiet.counting in omega (arith, same, risen)

module _ (old now : SessionView) (report : SessionReport) (one : IsSession old now report) (well : WentWell old now report one) where
  -- no stream failed
  never_read : report.end ≢ end.ReadFault
  never_read is = never_rose old.read_faults now.read_faults well.source (subst (HasCause old now) is one.cause)

  never_wrote : report.end ≢ end.WriteFault
  never_wrote is = never_rose old.write_faults now.write_faults well.sink (subst (HasCause old now) is one.cause)

  -- its requests are the first messages of all the bytes, and behind them it stopped
  module _ (bytes : List ℕ) (unread : old.unread ≡ Some bytes) where
    pub asked_of : AreRequests one.items report.end bytes now.unread one.rest
    asked_of = subst (λ (o : Option (List ℕ)). IfSome o (λ had. AreRequests one.items report.end had now.unread one.rest)) unread one.requests

    pub first_of : AreFirst one.items bytes (asked_of.rest ++ asked_of.left)
    first_of =
        subst (λ (l : List ℕ). AreFirst one.items l (asked_of.rest ++ asked_of.left)) asked_of.gave
        (first_longer one.items asked_of.given asked_of.rest asked_of.left asked_of.first)

    pub ending_of : Ending one.items (asked_of.rest ++ asked_of.left) report.end one.out
    ending_of =
        ending one.items one.rest asked_of.rest asked_of.left one.out report.placed report.end one.ended asked_of.is_left never_read never_wrote well.ended

  -- the moments are the readings taken
  pub moments_of : (taken : List ℕ) → Takes old now taken → moments one.items ≡ taken
  moments_of taken takes =
      let told : (before : List ℕ) × (old.readings ≡ Some before) × (takes.before ++ taken ≡ before ++ moments one.items) =
      subst (λ (o : Option (List ℕ)). IfSome o (λ readings. (before : List ℕ) × (old.readings ≡ Some before) × (readings ≡ before ++ moments one.items)))
      takes.ends one.moment in
      let both : Some told.0 ≡ Some takes.before = sym told.1 ∙ takes.begins in
      let same : told.0 ≡ takes.before = cc (both) in
      append_cancel_left takes.before (moments one.items) taken
      (sym (told.2 ∙ ap (λ (l : List ℕ). l ++ moments one.items) same))

  -- what its calls added, and that they were told of no trouble
  module _ (origin : LakeOrigin) (from : old.seat.origin ≡ Some origin) (alone : old.seat.alone ≡ true) where
    pub adds_of : Adds (opened_state origin) old.seat.number 1 old.seat.seen one.items one.goes.added
    adds_of = session_adds old now report one origin from alone

    pub calm_of : AreCalm one.items
    calm_of =
        let still = well.objects.same in
        all_calm now.seat (opened_state origin) old.seat.number 1 old.seat.seen one.items one.goes.added old.store now.store adds_of one.counted
        (omega (arith, still)) well.objects.counting well.pairs well.memory well.bodies

-- ---- two sessions

-- what is written of items that are told the same
texts_same : (number : ℕ) (items others : List SessionItem) → requests items ≡ requests others → tolds items ≡ tolds others
    → texts number items ≡ texts number others
texts_same number [] [] asked told = refl
texts_same number [] (other ∷ others) asked told = absurd (cc (asked))
texts_same number (item ∷ items) [] asked told = absurd (cc (asked))
texts_same number (item ∷ items) (other ∷ others) asked told =
    let one : item.request ≡ other.request = cc (asked) in
    let later : requests items ≡ requests others = cc (asked) in
    let same : item.told ≡ other.told = cc (told) in
    let behind : tolds items ≡ tolds others = cc (told) in
    let here : item_text number item ≡ item_text number other = λ i. told_text (closes_behind number (one i)) (same i) in
    let rest = texts_same (number + 1) items others later behind in
    λ i. here i ++ rest i

module _ (old now other other_now : SessionView) (report other_report : SessionReport) (one : IsSession old now report)
    (two : IsSession other other_now other_report) (begin : BeginAlike old other) (clock : HaveOneClock old now other other_now)
    (well : WentWell old now report one) (other_well : WentWell other other_now other_report two)
    (apart : NoneClashes (tolds one.items) (tolds two.items)) where
  abbrev asks : AreRequests one.items report.end begin.bytes now.unread one.rest
  asks = asked_of old now report one well begin.bytes begin.unread

  abbrev other_asks : AreRequests two.items other_report.end begin.bytes other_now.unread two.rest
  other_asks = asked_of other other_now other_report two other_well begin.bytes begin.other_unread

  -- the other's calls, as if at the first one's lake
  other_adds : Adds (opened_state begin.origin) old.seat.number 1 old.seat.seen two.items two.goes.added
  other_adds =
      let there = adds_of other other_now other_report two other_well begin.other_origin begin.other_from begin.other_alone in
      let opened = subst (λ (s : State). Adds s other.seat.number 1 other.seat.seen two.items two.goes.added) (sym begin.opened) there in
      let number = subst (λ (n : ℕ). Adds (opened_state begin.origin) n 1 other.seat.seen two.items two.goes.added) (sym begin.number) opened in
      subst (λ (l : List HistoryEntry). Adds (opened_state begin.origin) old.seat.number 1 l two.items two.goes.added) (sym begin.seen) number

  agree : Agree (moments one.items) (moments two.items)
  agree =
      subst (λ (l : List ℕ). Agree l (moments two.items)) (sym (moments_of old now report one well clock.taken clock.takes))
      (subst (Agree clock.taken) (sym (moments_of other other_now other_report two other_well clock.other_taken clock.other_takes)) clock.agree)

  level : requests one.items ≡ requests two.items → asks.rest ++ asks.left ≡ other_asks.rest ++ other_asks.left
      → AreOneSession old now report one other other_now other_report two
  level asked behind =
      let like = like_all (opened_state begin.origin) old.seat.number 1 old.seat.seen one.items two.items one.goes.added two.goes.added
      (adds_of old now report one well begin.origin begin.from begin.alone) other_adds asked agree
      (calm_of old now report one well begin.origin begin.from begin.alone)
      (calm_of other other_now other_report two other_well begin.other_origin begin.other_from begin.other_alone) apart in
      let first = ending_of old now report one well begin.bytes begin.unread in
      let second = ending_of other other_now other_report two other_well begin.bytes begin.other_unread in
      let placed = subst (λ (l : List ℕ). Stops (requests two.items) l other_report.end second.tail) (sym behind) second.stops in
      let stops = subst (λ (l : List Request). Stops l (asks.rest ++ asks.left) other_report.end second.tail) (sym asked) placed in
      let ends = one_end (requests one.items) (asks.rest ++ asks.left) report.end first.tail other_report.end second.tail first.stops stops in
      let same_texts = texts_same 1 one.items two.items asked like.told in
      let tails = ends.1 in
      let outs : one.out ≡ two.out = first.written ∙ ((λ i. same_texts i ++ tails i) ∙ sym second.written) in
      record {
        out = one.out;
        written = one.written;
        other_written = subst (Wrote other.written other_now.written) (sym outs) two.written;
        ended = ends.0;
        asked = asked;
        read_at = like.read_at;
        told = like.told;
        history = one.goes.seen ∙ ((λ i. begin.seen i ++ like.entries i) ∙ sym two.goes.seen);
        behind = record {
          given = asks.rest;
          left = asks.left;
          other_given = other_asks.rest;
          other_left = other_asks.left;
          given_is = asks.behind_is;
          left_is = asks.unread_is;
          other_given_is = other_asks.behind_is;
          other_left_is = other_asks.unread_is;
          same = behind;
        };
        unread = λ finds. (
          asks.unread_is ∙ ap Some (none_left report.end asks.rest asks.left asks.is_left finds),
          other_asks.unread_is
              ∙ ap Some (none_left other_report.end other_asks.rest other_asks.left other_asks.is_left (ap finds_end (sym ends.0) ∙ finds)),
        );
      }

  by_compared : Compared one.items two.items (asks.rest ++ asks.left) (other_asks.rest ++ other_asks.left)
      → AreOneSession old now report one other other_now other_report two
  by_compared (Level asked behind) = level asked behind
  by_compared (Ahead request behind more is reads) =
      let first = ending_of old now report one well begin.bytes begin.unread in
      let second = ending_of other other_now other_report two other_well begin.bytes begin.other_unread in
      absurd (not_beyond (requests one.items) (asks.rest ++ asks.left) report.end first.tail (requests two.items)
      (other_asks.rest ++ other_asks.left) other_report.end second.tail request behind more first.stops second.stops is reads)
  by_compared (Back request behind more is reads) =
      let first = ending_of old now report one well begin.bytes begin.unread in
      let second = ending_of other other_now other_report two other_well begin.bytes begin.other_unread in
      absurd (not_beyond (requests two.items) (other_asks.rest ++ other_asks.left) other_report.end second.tail (requests one.items)
      (asks.rest ++ asks.left) report.end first.tail request behind more second.stops first.stops is reads)

-- TWO SESSIONS OVER THE SAME BYTES CAME TO THE SAME
pub cut_sessions : (old now other other_now : SessionView) (report other_report : SessionReport) (one : IsSession old now report)
    (two : IsSession other other_now other_report) → BeginAlike old other → HaveOneClock old now other other_now → WentWell old now report one
    → WentWell other other_now other_report two → NoneClashes (tolds one.items) (tolds two.items)
    → AreOneSession old now report one other other_now other_report two
cut_sessions old now other other_now report other_report one two begin clock well other_well apart =
    by_compared old now other other_now report other_report one two begin clock well other_well apart
    (compare one.items two.items begin.bytes _ _ (first_of old now report one well begin.bytes begin.unread)
    (first_of other other_now other_report two other_well begin.bytes begin.other_unread))

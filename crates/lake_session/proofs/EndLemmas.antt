-- How a session ends behind what was served so far.
use Rattle.std.proofs.Common.{◌≡◌, ◌+◌, ◌<◌, ◌≤◌, inl, inr, ℕ, true, false, List, [], ◌∷◌, ◌++◌, map, length, Option, Some, None, IfSome}
use Rattle.std.proofs.Common.{refl, sym, ap, subst, ◌∙◌, append-nil, arith, length-append}
use Rattle.lake_base.specs.Outside.{Rose}
use Rattle.http_wire.specs.Filling.{Gave}
use Rattle.http_wire.specs.ReplyText.{reply_text}
use Rattle.http_wire.proofs.ReadingLemmas.{gave_then}
use Rattle.http_wire.specs.SinkFronts.{IsPrefix, Wrote, WroteFront}
use Rattle.call_placement.proofs.SessionLemmas.{are_placed}
use Rattle.lake_calls.specs.LakeRules.{lake_rules}
use Rattle.lake_calls.proofs.RuleLemmas.{lawful}
use Rattle.lake_api.specs.AnswerWords.{KeepsFitting, opened_state}
use Rattle.lake_session.specs.declared.report.End.{End}
use Rattle.lake_session.specs.declared.report.End.TheVariants as end
use Rattle.lake_session.specs.declared.report.Placed.{Placed}
use Rattle.lake_session.specs.declared.report.SessionReport.{SessionReport}
use Rattle.lake_session.specs.SessionItems.{AreFirst, KeepsTelling, SessionItem, call_item, item_text, placed_item, placed_items, texts}
use Rattle.lake_session.specs.SessionTexts.{last_reply}
use Rattle.lake_session.specs.SessionTurns.{EndsSo, IsLeft, IsTurn, ServesInPart, ServesWhole, Tally, TurnEnds}
use Rattle.lake_session.specs.SessionViews.{SessionView}
use Rattle.lake_session.specs.WholeSessions.{AllTellHeld, AreCounted, AreRequests, AreWritten, GoesThrough, HasCause, IsEnded, IsSession}
use Rattle.lake_session.proofs.ItemLemmas.{first_longer}
use Rattle.lake_session.proofs.SoFarLemmas.{AreAllServed, Behind, HasRead, HasTold, SoFar, goes_behind, wrote_more, wrote_whole}

-- what is said of items, however the session ended behind them
pub record Items (old next : SessionView) (items : List SessionItem) (edge : ℕ) : Type 0 where
  pub told : HasTold old.readings next.readings items
  pub kept : KeepsTelling (length items) old.readings next.readings
  pub goes : GoesThrough old.seat next.seat
  pub served : AreAllServed old.seat next.seat items edge
  pub counted : AreCounted next.seat old.store items next.store
  pub fitting : KeepsFitting old.seat next.seat old.store.held next.store.held
  pub tells : AllTellHeld old.seat next.seat old.store.held items
  pub rose : (old.read_faults ≤ next.read_faults) × (old.write_faults ≤ next.write_faults)

-- how it ended
pub record Ending (old next : SessionView) (items : List SessionItem) (rest : Option (List ℕ)) (ended : End) (placed : List Placed) : Type 0 where
  pub requests : IfSome old.unread (λ bytes. AreRequests items ended bytes next.unread rest)
  pub out : List ℕ
  pub wrote : Wrote old.written next.written out
  pub is_end : IsEnded items ended rest out placed
  pub cause : HasCause old next ended

-- the requests of a session that ended behind what is held, of which nothing is said
requests_held : (unread left : Option (List ℕ)) (held : List ℕ) (items : List SessionItem) (ended : End)
    → ((rest last : List ℕ) → IsLeft ended rest last) → HasRead unread left held items
    → IfSome unread (λ bytes. AreRequests items ended bytes left (Some held))
requests_held None left held items ended free read = tt
requests_held (Some bytes) left held items ended free read = record {
  given = read.more;
  left = read.rest;
  rest = held;
  gave = read.gave;
  unread_is = read.left_is;
  behind_is = refl;
  first = read.read;
  is_left = free held read.rest;
}

-- or behind what is held and was given then
requests_read : (unread left next : Option (List ℕ)) (held : List ℕ) (items : List SessionItem) (ended : End) (behind : Option (List ℕ))
    → HasRead unread left held items
    → IfSome left (λ had. Gave held had next (λ given last. (behind ≡ Some given) × IsLeft ended given last))
    → IfSome unread (λ bytes. AreRequests items ended bytes next behind)
requests_read None left next held items ended behind read goes = tt
requests_read (Some bytes) left next held items ended behind read goes =
    let all = gave_then [] bytes (λ given last. AreFirst items given held)
    (λ given last. (rest : List ℕ) × (behind ≡ Some rest) × AreFirst items given rest × IsLeft ended rest last) left read held
    (λ given last. (behind ≡ Some given) × IsLeft ended given last) next goes
    (λ given was more last first is. (held ++ more, is.0, first_longer items given held more first, is.1)) in
    record {
      given = all.more;
      left = all.rest;
      rest = all.read.0;
      gave = all.gave;
      unread_is = all.left_is;
      behind_is = all.read.1;
      first = all.read.2;
      is_left = all.read.3;
    }

-- THE SESSION, of what is said of its items and of its end
pub session_of : (old next : SessionView) (items : List SessionItem) (rest : Option (List ℕ)) (edge : ℕ) (report : SessionReport)
    → Items old next items edge → Ending old next items rest report.end report.placed
    → report.from ≡ length old.seat.seen → report.to ≡ length next.seat.seen → IsSession old next report
session_of old next items rest edge report of_items ending from to = record {
  items = items;
  rest = rest;
  requests = ending.requests;
  read_faults = of_items.rose.0;
  write_faults = of_items.rose.1;
  moment = of_items.told;
  kept = of_items.kept;
  goes = of_items.goes;
  edge = edge;
  history = λ origin is. record {
    served = of_items.served origin is;
    stand = are_placed lake_rules lawful (opened_state origin) old.seat.number 1 edge old.seat.seen next.seat.seen (map call_item items)
        (of_items.served origin is);
  };
  counted = of_items.counted;
  fitting = of_items.fitting;
  tells = of_items.tells;
  out = ending.out;
  written = ending.wrote;
  ended = ending.is_end;
  cause = ending.cause;
  from = from;
  to = to;
}

-- ---- nothing more was served

-- the counts of streams haven't fallen
abbrev Rises : (old now : SessionView) → Type 0
Rises old now = (old.read_faults ≤ now.read_faults) × (old.write_faults ≤ now.write_faults)

rises_twice : (old now next : SessionView) → Rises old now → Rises now next → Rises old next
rises_twice old now next first further = (omega (arith, first.0, further.0), omega (arith, first.1, further.1))

unserved_items : (old now next : SessionView) (tally tally_next : Tally) (items : List SessionItem) (ended : End) → SoFar old now tally items
    → EndsSo now next tally tally_next ended → Rises now next → Items old next items tally.edge
unserved_items old now next tally tally_next items ended so ends rise = record {
  told = subst (λ r. HasTold old.readings r items) (sym ends.nothing.readings) so.told;
  kept = subst (KeepsTelling (length items) old.readings) (sym ends.nothing.readings) so.kept;
  goes = subst (GoesThrough old.seat) (sym ends.nothing.seat) so.goes;
  served = subst (λ s. AreAllServed old.seat s items tally.edge) (sym ends.nothing.seat) so.served;
  counted = subst (λ s. AreCounted s old.store items next.store) (sym ends.nothing.seat)
      (subst (AreCounted now.seat old.store items) (sym ends.nothing.store) so.counted);
  fitting = subst (λ s. KeepsFitting old.seat s old.store.held next.store.held) (sym ends.nothing.seat)
      (subst (λ store. KeepsFitting old.seat now.seat old.store.held store.held) (sym ends.nothing.store) so.fitting);
  tells = subst (λ s. AllTellHeld old.seat s old.store.held items) (sym ends.nothing.seat) so.tells;
  rose = rises_twice old now next so.rose rise;
}

-- the sink has what it had
wrote_nothing : (before now next : Option (List ℕ)) (out : List ℕ) → next ≡ now → Wrote before now out → Wrote before next out
wrote_nothing before now next out same wrote = subst (λ n. Wrote before n out) (sym same) wrote

rose_since : (first before now : ℕ) → first ≤ before → Rose before now → Rose first now
rose_since first before now later rose counting = omega (arith, later, rose counting)

-- a front of a text was written behind what was
front_behind : (before now next : Option (List ℕ)) (out text : List ℕ) → Wrote before now out → WroteFront now next text
    → (front : List ℕ) × IsPrefix front text × Wrote before next (out ++ front)
front_behind before now next out text wrote part = (part.out, part.front, wrote_more before now next out part.out wrote part.wrote)

-- what is reported of items behind which nothing more was served
unserved_placed : (now next : SessionView) (tally tally_next : Tally) (items : List SessionItem) (ended : End) → EndsSo now next tally tally_next ended
    → tally.placed ≡ placed_items 1 items → tally_next.placed ≡ placed_items 1 items
unserved_placed now next tally tally_next items ended ends placed = ap (λ (t : Tally). t.placed) ends.tally_is ∙ placed

-- the replies to items are all that was written
only_these : (items : List SessionItem) (placed : List Placed) → placed ≡ placed_items 1 items → AreWritten items [] (texts 1 items) placed
only_these items placed is = (sym (append-nil (texts 1 items)), is)

unserved_ending : (old now next : SessionView) (tally tally_next : Tally) (items : List SessionItem) (ended : End) → length items < 10000
    → SoFar old now tally items → (ends : EndsSo now next tally tally_next ended) → Ending old next items ends.behind ended tally_next.placed
unserved_ending old now next tally tally_next items end.SourceEnded few so ends = record {
  requests = requests_read old.unread now.unread next.unread tally.held items end.SourceEnded ends.behind so.read ends.read;
  out = texts 1 items;
  wrote = wrote_nothing old.written now.written next.written (texts 1 items) ends.ends so.wrote;
  is_end = (
    (so.none, few),
    only_these items tally_next.placed (unserved_placed now next tally tally_next items end.SourceEnded ends so.placed),
  );
  cause = tt;
}
unserved_ending old now next tally tally_next items end.ReadFault few so ends = record {
  requests = requests_read old.unread now.unread next.unread tally.held items end.ReadFault ends.behind so.read ends.read;
  out = texts 1 items;
  wrote = wrote_nothing old.written now.written next.written (texts 1 items) ends.ends.1 so.wrote;
  is_end = ((so.none, few), only_these items tally_next.placed (unserved_placed now next tally tally_next items end.ReadFault ends so.placed));
  cause = rose_since old.read_faults now.read_faults next.read_faults so.rose.0 ends.ends.0;
}
unserved_ending old now next tally tally_next items (end.Wire fault) few so ends = elim ends.ends [
  | inl (n, is, same) ↦ record {
    requests = requests;
    out = texts 1 items;
    wrote = wrote_nothing old.written now.written next.written (texts 1 items) same so.wrote;
    is_end = ((so.none, few), inl (n, is, only_these items tally_next.placed placed));
    cause = tt;
  }
  | inr (sent, is, wrote) ↦ record {
    requests = requests;
    out = texts 1 items ++ reply_text sent;
    wrote = wrote_more old.written now.written next.written (texts 1 items) (reply_text sent) so.wrote wrote;
    is_end = ((so.none, few), inr (sent, is, (refl, placed)));
    cause = tt;
  }
]
  where
    requests : IfSome old.unread (λ bytes. AreRequests items (end.Wire fault) bytes next.unread ends.behind)
    requests = requests_read old.unread now.unread next.unread tally.held items (end.Wire fault) ends.behind so.read ends.read

    placed : tally_next.placed ≡ placed_items 1 items
    placed = unserved_placed now next tally tally_next items (end.Wire fault) ends so.placed
unserved_ending old now next tally tally_next items end.NoMemory few so ends = record {
  requests = requests_read old.unread now.unread next.unread tally.held items end.NoMemory ends.behind so.read ends.read;
  out = texts 1 items ++ reply_text last_reply;
  wrote = wrote_more old.written now.written next.written (texts 1 items) (reply_text last_reply) so.wrote ends.ends;
  is_end = ((so.none, few), (refl, unserved_placed now next tally tally_next items end.NoMemory ends so.placed));
  cause = tt;
}
unserved_ending old now next tally tally_next items end.WriteFault few so ends =
    let part = front_behind old.written now.written next.written (texts 1 items) (reply_text ends.ends.1) so.wrote ends.ends.3 in
    record {
      requests = requests_read old.unread now.unread next.unread tally.held items end.WriteFault ends.behind so.read ends.read;
      out = texts 1 items ++ part.0;
      wrote = part.2;
      is_end = inr (
        ends.ends.1,
        part.0,
        (so.none, few),
        ends.ends.2,
        part.1,
        (refl, unserved_placed now next tally tally_next items end.WriteFault ends so.placed),
      );
      cause = rose_since old.write_faults now.write_faults next.write_faults so.rose.1 ends.ends.0;
    }
unserved_ending old now next tally tally_next items end.Closed few so ends = absurd ends.ends
unserved_ending old now next tally tally_next items end.RequestLimit few so ends = absurd ends.ends

-- ---- an item was served, and the session ended behind it

behind_items : (number : ℕ) (old next : SessionView) (tally : Tally) (items : List SessionItem) (item : SessionItem)
    → Behind number old next tally items item → Rises old next → Items old next (items ++ item ∷ []) tally.edge
behind_items number old next tally items item behind rise = record {
  told = behind.told;
  kept = behind.kept;
  goes = behind.goes;
  served = behind.served;
  counted = behind.counted;
  fitting = behind.fitting;
  tells = behind.tells;
  rose = rise;
}

-- the requests then, where the end says nothing of what stands behind them
behind_requests : (number : ℕ) (old next : SessionView) (tally : Tally) (items : List SessionItem) (item : SessionItem) (ended : End)
    → ((rest last : List ℕ) → IsLeft ended rest last) → Behind number old next tally items item
    → IfSome old.unread (λ bytes. AreRequests (items ++ item ∷ []) ended bytes next.unread (Some tally.held))
behind_requests number old next tally items item ended free behind =
    requests_held old.unread next.unread tally.held (items ++ item ∷ []) ended free behind.read

closed_ending : (number : ℕ) (old now next : SessionView) (tally tally_next : Tally) (items : List SessionItem) (item : SessionItem)
    → number ≡ length items + 1 → number ≤ 10000 → SoFar old now tally items → ServesWhole number now next tally tally_next item
    → item.request.close ≡ true → Behind number old next tally_next items item
    → Ending old next (items ++ item ∷ []) (Some tally_next.held) end.Closed tally_next.placed
closed_ending number old now next tally tally_next items item at few so serves closes behind =
    let wrote = wrote_whole number old now next tally tally_next items item at so serves in
    record {
      requests = behind_requests number old next tally_next items item end.Closed (λ rest last. tt) behind;
      out = texts 1 (items ++ item ∷ []);
      wrote = wrote.0;
      is_end = (items, item, refl, (so.none, omega (arith, at, few)), closes, only_these (items ++ item ∷ []) tally_next.placed wrote.1);
      cause = tt;
    }

in_part_ending : (number : ℕ) (old now next : SessionView) (tally tally_next : Tally) (items : List SessionItem) (item : SessionItem)
    → number ≡ length items + 1 → number ≤ 10000 → SoFar old now tally items → ServesInPart number now next tally tally_next item
    → Behind number old next tally_next items item
    → Ending old next (items ++ item ∷ []) (Some tally_next.held) end.WriteFault tally_next.placed
in_part_ending number old now next tally tally_next items item at few so serves behind =
    let long : number ≡ length (items ++ item ∷ []) = at ∙ sym (length-append items (item ∷ [])) in
    let part = front_behind old.written now.written next.written (texts 1 items) (item_text number item) so.wrote serves.wrote in
    record {
      requests = behind_requests number old next tally_next items item end.WriteFault (λ rest last. tt) behind;
      out = texts 1 items ++ part.0;
      wrote = part.2;
      is_end = inl (
        items,
        item,
        part.0,
        refl,
        (so.none, omega (arith, at, few)),
        subst (λ n. IsPrefix part.0 (item_text n item)) long part.1,
        refl,
        serves.placed ∙ ap (λ placed. placed ++ placed_item number item false ∷ []) so.placed
            ∙ ap (λ n. placed_items 1 items ++ placed_item n item false ∷ []) long,
      );
      cause = rose_since old.write_faults now.write_faults next.write_faults so.rose.1 serves.failed;
    }

-- ---- all

module _ (number : ℕ) (old now next : SessionView) (tally tally_next : Tally) (items : List SessionItem) (few : number ≤ 10000)
    (at : number ≡ length items + 1) (so : SoFar old now tally items) (report : SessionReport) (placed : report.placed ≡ tally_next.placed)
    (from : report.from ≡ length old.seat.seen) (to : report.to ≡ length next.seat.seen) (rise : Rises now next) where
  fewer : length items < 10000
  fewer = omega (arith, few, at)

  of_unserved : EndsSo now next tally tally_next report.end → IsSession old next report
  of_unserved ends =
      session_of old next items ends.behind tally.edge report (unserved_items old now next tally tally_next items report.end so ends rise)
      (subst (Ending old next items ends.behind report.end) (sym placed)
      (unserved_ending old now next tally tally_next items report.end fewer so ends)) from to

  -- behind an item that was served, by how that ended
  of_served : (item : SessionItem) (ended : End) → report.end ≡ ended → Behind number old next tally_next items item
      → Ending old next (items ++ item ∷ []) (Some tally_next.held) ended tally_next.placed → IsSession old next report
  of_served item ended is behind ending =
      session_of old next (items ++ item ∷ []) (Some tally_next.held) tally_next.edge report
      (behind_items number old next tally_next items item behind (rises_twice old now next so.rose rise))
      (subst (λ e. Ending old next (items ++ item ∷ []) (Some tally_next.held) e report.placed) (sym is)
      (subst (Ending old next (items ++ item ∷ []) (Some tally_next.held) ended) (sym placed) ending)) from to

  by_end : (ended : End) → report.end ≡ ended → TurnEnds number now next tally tally_next (Some ended) → IsSession old next report
  by_end end.Closed is (item, whole, closes) =
      let behind = goes_behind number old now next tally tally_next items item at so whole.serves in
      of_served item end.Closed is behind (closed_ending number old now next tally tally_next items item at few so whole closes behind)
  by_end end.WriteFault is (inl (item, part)) =
      let behind = goes_behind number old now next tally tally_next items item at so part.serves in
      of_served item end.WriteFault is behind (in_part_ending number old now next tally tally_next items item at few so part behind)
  by_end end.WriteFault is (inr ends) = of_unserved (subst (EndsSo now next tally tally_next) (sym is) ends)
  by_end end.SourceEnded is came = of_unserved (subst (EndsSo now next tally tally_next) (sym is) came)
  by_end end.ReadFault is came = of_unserved (subst (EndsSo now next tally tally_next) (sym is) came)
  by_end (end.Wire fault) is came = of_unserved (subst (EndsSo now next tally tally_next) (sym is) came)
  by_end end.RequestLimit is came = of_unserved (subst (EndsSo now next tally tally_next) (sym is) came)
  by_end end.NoMemory is came = of_unserved (subst (EndsSo now next tally tally_next) (sym is) came)

-- a turn ended the session
pub ends_behind : (number : ℕ) (old now next : SessionView) (tally tally_next : Tally) (items : List SessionItem) → number ≤ 10000
    → number ≡ length items + 1 → SoFar old now tally items → (report : SessionReport) → report.placed ≡ tally_next.placed
    → report.from ≡ length old.seat.seen → report.to ≡ length next.seat.seen → IsTurn number now next tally tally_next (Some report.end)
    → IsSession old next report
ends_behind number old now next tally tally_next items few at so report placed from to turn =
    by_end number old now next tally tally_next items few at so report placed from to (turn.read_faults, turn.write_faults) report.end refl turn.came

-- 10,000 were answered
pub ends_at_limit : (old now : SessionView) (tally : Tally) (items : List SessionItem) (report : SessionReport) → length items ≡ 10000
    → SoFar old now tally items → report.end ≡ end.RequestLimit → report.placed ≡ tally.placed → report.from ≡ length old.seat.seen
    → report.to ≡ length now.seat.seen → IsSession old now report
ends_at_limit old now tally items report all so is placed from to =
    session_of old now items (Some tally.held) tally.edge report
    (record {
      told = so.told;
      kept = so.kept;
      goes = so.goes;
      served = so.served;
      counted = so.counted;
      fitting = so.fitting;
      tells = so.tells;
      rose = so.rose;
    })
    (subst (λ e. Ending old now items (Some tally.held) e report.placed) (sym is)
    (subst (Ending old now items (Some tally.held) end.RequestLimit) (sym placed)
    (record {
      requests = requests_held old.unread now.unread tally.held items end.RequestLimit (λ rest last. tt) so.read;
      out = texts 1 items;
      wrote = so.wrote;
      is_end = (so.none, all, only_these items tally.placed so.placed);
      cause = tt;
    }))) from to

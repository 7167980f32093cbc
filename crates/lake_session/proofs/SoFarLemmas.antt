-- A session so far: requests were served, each reply was written, and no client asked for the connection to close.
use Rattle.std.proofs.Common.{◌≡◌, ◌+◌, ◌≤◌, ℕ, true, false, List, [], ◌∷◌, ◌++◌, All, map, length, max, Option, Some, None, IfSome, Ok}
use Rattle.std.proofs.Common.{refl, sym, ap, subst, ◌∙◌, append_assoc, append-nil, length-append, arith}
use Rattle.std.proofs.lemmas.List.Elements.{All-append, All-cons, All-head, All-nil, All-tail}
use Rattle.block_store.specs.Blocks.{HeldObjects}
use Rattle.http_wire.specs.Filling.{Gave}
use Rattle.http_wire.specs.Messages.{IsReadOf, ReadsRequestAt}
use Rattle.http_wire.proofs.ReadingLemmas.{gave_then}
use Rattle.http_wire.specs.SinkFronts.{Wrote}
use Rattle.lake_model.specs.declared.history.HistoryEntry.{HistoryEntry}
use Rattle.lake_core.specs.declared.standing.LakeOrigin.{LakeOrigin}
use Rattle.lake_api.specs.AnswerWords.{KeepsFitting, LakeSeat, opened_state}
use Rattle.call_placement.specs.Sessions.{AreServed, IsItemServed, caller}
use Rattle.call_placement.proofs.ServedLemmas.{one_more}
use Rattle.lake_calls.specs.LakeRules.{lake_rules}
use Rattle.lake_calls.specs.Requests.{form_of}
use Rattle.api_forms.specs.CallForms.{asked}
use Rattle.lake_session.specs.SessionItems.{AreFirst, KeepsTelling, NoneCloses, SessionItem, call_item, item_text, moments, placed_item, placed_items}
use Rattle.lake_session.specs.SessionItems.{texts}
use Rattle.lake_session.specs.SessionTurns.{ServesWhole, Tally}
use Rattle.lake_session.specs.SessionViews.{HasCounted, ServesItem, SessionView, StoreView, TakesRequest}
use Rattle.lake_session.specs.WholeSessions.{AllTellHeld, AreCounted, GoesThrough, TellsGivenTo, TellsHeld}
use Rattle.lake_session.proofs.ClockLemmas.{keeps_more, keeps_none}
use Rattle.lake_session.proofs.ItemLemmas.{calls_long, calls_more, first_longer, first_more, moments_long, moments_more, placed_more, texts_more}
use Rattle.lake_session.proofs.SeatLemmas.{fits_at_first, fits_further, goes_further, moved_origin, seen_more, stays}

-- the calls of items were served, from one seat to the other
abbrev pub AreAllServed : (old now : LakeSeat) → List SessionItem → (edge : ℕ) → Type 0
AreAllServed old now items edge = (origin : LakeOrigin) → old.origin ≡ Some origin
    → AreServed lake_rules (opened_state origin) old.number 1 (length old.seen) old.seen (map call_item items) now.seen edge

-- the requests of items are first in the bytes that were given, and these are held behind them
abbrev pub HasRead : (unread left : Option (List ℕ)) → (held : List ℕ) → List SessionItem → Type 0
HasRead unread left held items = IfSome unread (λ bytes. Gave [] bytes left (λ given rest. AreFirst items given held))

-- the clock gave their moments
abbrev pub HasTold : (readings readings_now : Option (List ℕ)) → List SessionItem → Type 0
HasTold readings readings_now items = IfSome readings_now (λ now. (before : List ℕ) × (readings ≡ Some before) × (now ≡ before ++ moments items))

pub record SoFar (old now : SessionView) (tally : Tally) (items : List SessionItem) : Type 0 where
  pub read : HasRead old.unread now.unread tally.held items
  pub told : HasTold old.readings now.readings items
  pub kept : KeepsTelling (length items) old.readings now.readings
  pub goes : GoesThrough old.seat now.seat
  pub served : AreAllServed old.seat now.seat items tally.edge
  pub counted : AreCounted now.seat old.store items now.store
  pub fitting : KeepsFitting old.seat now.seat old.store.held now.store.held
  pub tells : AllTellHeld old.seat now.seat old.store.held items
  pub wrote : Wrote old.written now.written (texts 1 items)
  pub placed : tally.placed ≡ placed_items 1 items
  pub none : NoneCloses items
  pub rose : (old.read_faults ≤ now.read_faults) × (old.write_faults ≤ now.write_faults)

-- ---- pieces

pub read_none : (unread : Option (List ℕ)) → HasRead unread unread [] []
read_none None = tt
read_none (Some bytes) = record { more = []; rest = bytes; gave = refl; left_is = refl; read = refl }

read_more : (unread left next : Option (List ℕ)) (held held_next : List ℕ) (items : List SessionItem) (item : SessionItem)
    → HasRead unread left held items → TakesRequest held held_next left next (Ok item.request) → HasRead unread next held_next (items ++ item ∷ [])
unfolding IsReadOf
read_more None left next held held_next items item read one = tt
read_more (Some bytes) left next held held_next items item read one =
    gave_then [] bytes (λ given rest. AreFirst items given held) (λ given rest. AreFirst (items ++ item ∷ []) given held_next) left read held
    (λ given rest. ReadsRequestAt given (Ok (item.request, held_next))) next one
    (λ given rest more last first reads. first_more items item (given ++ more) (held ++ more) held_next (first_longer items given held more first) reads)

pub told_none : (readings : Option (List ℕ)) → HasTold readings readings []
told_none None = tt
told_none (Some now) = (now, refl, sym (append-nil now))

told_more : (readings between next : Option (List ℕ)) (items : List SessionItem) (item : SessionItem) → HasTold readings between items
    → IfSome next (λ now. IfSome between (λ before. now ≡ before ++ item.moment ∷ []))
    → IfSome next (λ now. (before : List ℕ) × (between ≡ Some before)) → HasTold readings next (items ++ item ∷ [])
told_more readings between None items item told one clock = tt
told_more readings between (Some now) items item told one clock =
    let was = subst (λ b. HasTold readings b items) clock.1 told in
    let is = subst (λ b. IfSome b (λ before. now ≡ before ++ item.moment ∷ [])) clock.1 one in (
      was.0,
      was.1,
      is ∙ ap (λ b. b ++ item.moment ∷ []) was.2 ∙ append_assoc was.0 (moments items) (item.moment ∷ [])
          ∙ ap (λ m. was.0 ++ m) (sym (moments_more items item)),
    )

pub wrote_none : (written : Option (List ℕ)) → Wrote written written []
wrote_none None = tt
wrote_none (Some before) = sym (ap Some (append-nil before))

pub wrote_more : (written between next : Option (List ℕ)) (one more : List ℕ) → Wrote written between one → Wrote between next more
    → Wrote written next (one ++ more)
wrote_more None between next one more first behind = tt
wrote_more (Some before) between next one more first behind =
    let is = subst (λ b. Wrote b next more) first behind in
    is ∙ ap Some (append_assoc before one more)

-- what was told of bytes that the store gave stays told where the seat has seen more
module _ (seat next : LakeSeat) (added : List HistoryEntry) (more : next.seen ≡ seat.seen ++ added) (origin_is : next.origin ≡ seat.origin) where
  given_later : (held : Option HeldObjects) (item : SessionItem) → TellsGivenTo seat held item → TellsGivenTo next held item
  given_later held item tells origin from c objects asks is =
      let told = tells origin (sym origin_is ∙ from) c objects asks is in
      (told.0, told.1 ++ added, more ∙ ap (λ l. l ++ added) told.2 ∙ append_assoc told.0 told.1 added, told.3, told.4)

  counted_later : (before now : StoreView) (items : List SessionItem) → AreCounted seat before items now → AreCounted next before items now
  counted_later before now [] counted = counted
  counted_later before now (item ∷ items) counted =
      (counted.0, counted.1, given_later before.held item counted.2, counted_later counted.0 now items counted.3)

counted_more : (seat : LakeSeat) (before between next : StoreView) (items : List SessionItem) (item : SessionItem)
    → AreCounted seat before items between → HasCounted between next item.met → TellsGivenTo seat between.held item
    → AreCounted seat before (items ++ item ∷ []) next
counted_more seat before between next [] item counted one given =
    (next, subst (λ b. HasCounted b next item.met) counted one, subst (λ (b : StoreView). TellsGivenTo seat b.held item) counted given, refl)
counted_more seat before between next (first ∷ items) item counted one given =
    (counted.0, counted.1, counted.2, counted_more seat counted.0 between next items item counted.3 one given)

-- an item tells of bytes that the store gave
gives_item : (number edge next_edge : ℕ) (ahead ahead_now : List ℕ) (now next : SessionView) (item : SessionItem)
    → ServesItem number edge next_edge ahead ahead_now now next item → TellsGivenTo next.seat now.store.held item
gives_item number edge next_edge ahead ahead_now now next item serves origin from c objects asks is =
    let given = serves.given _ asks c origin objects refl (sym (moved_origin number now.seat next.seat serves.moves) ∙ from) is in
    (next.seat.seen, [], sym (append-nil next.seat.seen), given.0, given.1)

served_more : (number : ℕ) (old now next : LakeSeat) (items : List SessionItem) (item : SessionItem) (edge call_edge edge_now : ℕ)
    → number ≡ length items + 1 → now.number ≡ old.number → now.origin ≡ old.origin → edge_now ≡ max edge call_edge
    → AreAllServed old now items edge
    → ((origin : LakeOrigin) → now.origin ≡ Some origin → IsItemServed lake_rules (opened_state origin) (caller now.number number) edge now.seen
    next.seen (call_item item) call_edge (form_of (asked item.request)))
    → AreAllServed old next (items ++ item ∷ []) edge_now
served_more number old now next items item edge call_edge edge_now at number_is origin_is edge_is served one origin from =
    let opened = opened_state origin in
    let numbered : number ≡ 1 + length (map call_item items) = at ∙ ap (λ n. n + 1) (sym (calls_long items)) ∙ omega arith in
    subst (λ e. AreServed lake_rules opened old.number 1 (length old.seen) old.seen (map call_item (items ++ item ∷ [])) next.seen e) (sym edge_is)
    (subst (λ calls. AreServed lake_rules opened old.number 1 (length old.seen) old.seen calls next.seen (max edge call_edge)) (sym (calls_more items item))
    (one_more lake_rules opened old.number 1 (length old.seen) edge call_edge old.seen now.seen next.seen (map call_item items) (call_item item)
    (served origin from)
    (subst (λ n. IsItemServed lake_rules opened (caller old.number n) edge now.seen next.seen (call_item item) call_edge (form_of (asked item.request)))
    numbered
    (subst (λ s. IsItemServed lake_rules opened (caller s number) edge now.seen next.seen (call_item item) call_edge (form_of (asked item.request))) number_is
    (one origin (origin_is ∙ from))))))

-- what was told stays told of all that is seen later
tell_later : (origin : LakeOrigin) (all added next : List HistoryEntry) → next ≡ all ++ added → (items : List SessionItem)
    → All (TellsHeld origin all) items → All (TellsHeld origin next) items
tell_later origin all added next is [] tells = All-nil (TellsHeld origin next)
tell_later origin all added next is (item ∷ items) tells =
    All-cons (TellsHeld origin next) item items
    (λ c asks.
    let told = All-head (TellsHeld origin all) item items tells c asks in
    (told.0, told.1 ++ added, is ∙ ap (λ l. l ++ added) told.2 ∙ append_assoc told.0 told.1 added, told.3, told.4, told.5, told.6))
    (tell_later origin all added next is items (All-tail (TellsHeld origin all) item items tells))

-- an item behind others tells of bytes as they are held, as they do
tells_more : (number edge next_edge : ℕ) (ahead ahead_now : List ℕ) (old : LakeSeat) (held : Option HeldObjects) (now next : SessionView)
    (items : List SessionItem) (item : SessionItem)
    → now.seat.alone ≡ old.alone → now.seat.origin ≡ old.origin → KeepsFitting old now.seat held now.store.held
    → AllTellHeld old now.seat held items → ServesItem number edge next_edge ahead ahead_now now next item → AllTellHeld old next.seat held (items ++ item ∷ [])
tells_more number edge next_edge ahead ahead_now old held now next items item alone_is origin_is fitting tells serves origin objects alone from is fits =
    let here = fitting origin objects alone from is fits in
    let more = seen_more number now.seat next.seat serves.moves in
    let all = next.seat.seen in
    All-append (TellsHeld origin all) items (item ∷ []) (tell_later origin now.seat.seen more.0 all more.1 items (tells origin objects alone from is fits))
    (All-cons (TellsHeld origin all) item []
    (λ c asks.
    let read = serves.reads _ asks c origin here.0 refl (alone_is ∙ alone) (origin_is ∙ from) here.1 here.2 in
    (now.seat.seen, more.0, more.1, read.0, here.0, here.2, read.1))
    (All-nil (TellsHeld origin all)))

-- ---- so far

pub begins : (at : SessionView) → SoFar at at (record { placed = []; edge = length at.seat.seen; held = [] }) []
begins at = record {
  read = read_none at.unread;
  told = told_none at.readings;
  kept = keeps_none at.readings;
  goes = stays at.seat;
  served = λ origin from. (refl, refl);
  counted = refl;
  fitting = fits_at_first at.seat at.store.held;
  tells = λ origin objects alone from is fits. All-nil (TellsHeld origin at.seat.seen);
  wrote = wrote_none at.written;
  placed = refl;
  none = All-nil (λ (item : SessionItem). item.request.close ≡ false);
  rose = (omega arith, omega arith);
}

-- what an item that was served leaves, but for its reply
pub record Behind (number : ℕ) (old next : SessionView) (tally_next : Tally) (items : List SessionItem) (item : SessionItem) : Type 0 where
  pub read : HasRead old.unread next.unread tally_next.held (items ++ item ∷ [])
  pub told : HasTold old.readings next.readings (items ++ item ∷ [])
  pub kept : KeepsTelling (length (items ++ item ∷ [])) old.readings next.readings
  pub goes : GoesThrough old.seat next.seat
  pub served : AreAllServed old.seat next.seat (items ++ item ∷ []) tally_next.edge
  pub counted : AreCounted next.seat old.store (items ++ item ∷ []) next.store
  pub fitting : KeepsFitting old.seat next.seat old.store.held next.store.held
  pub tells : AllTellHeld old.seat next.seat old.store.held (items ++ item ∷ [])

pub goes_behind : (number : ℕ) (old now next : SessionView) (tally tally_next : Tally) (items : List SessionItem) (item : SessionItem)
    → number ≡ length items + 1 → SoFar old now tally items → ServesItem number tally.edge tally_next.edge tally.held tally_next.held now next item
    → Behind number old next tally_next items item
goes_behind number old now next tally tally_next items item at so serves =
    let number_is = ap (λ (s : LakeSeat). s.number) so.goes.seat in
    let origin_is = ap (λ (s : LakeSeat). s.origin) so.goes.seat in
    let alone_is = ap (λ (s : LakeSeat). s.alone) so.goes.seat in
    let more = seen_more number now.seat next.seat serves.moves in
    let long : length items + 1 ≡ length (items ++ item ∷ []) = omega (arith, length-append items (item ∷ [])) in
    record {
      read = read_more old.unread now.unread next.unread tally.held tally_next.held items item so.read serves.request;
      told = told_more old.readings now.readings next.readings items item so.told serves.moment serves.clock_told;
      kept = subst (λ (n : ℕ). KeepsTelling n old.readings next.readings) long
          (keeps_more old.readings now.readings next.readings (moments items) (length items) (moments_long items) so.told so.kept serves.clock_kept);
      goes = goes_further number old.seat now.seat next.seat so.goes serves.moves;
      served = served_more number old.seat now.seat next.seat items item tally.edge serves.call_edge tally_next.edge at number_is origin_is
          serves.edge_is so.served serves.served;
      counted = counted_more next.seat old.store now.store next.store items item
          (counted_later now.seat next.seat more.0 more.1 (moved_origin number now.seat next.seat serves.moves) old.store now.store items so.counted)
          serves.counted (gives_item number tally.edge tally_next.edge tally.held tally_next.held now next item serves);
      fitting = fits_further old.seat now.seat next.seat old.store.held now.store.held next.store.held alone_is origin_is so.fitting serves.fitting;
      tells = tells_more number tally.edge tally_next.edge tally.held tally_next.held old.seat old.store.held now next items item alone_is origin_is
          so.fitting so.tells serves;
    }

-- its reply is written whole behind those of the others
pub wrote_whole : (number : ℕ) (old now next : SessionView) (tally tally_next : Tally) (items : List SessionItem) (item : SessionItem)
    → number ≡ length items + 1 → SoFar old now tally items → ServesWhole number now next tally tally_next item
    → Wrote old.written next.written (texts 1 (items ++ item ∷ [])) × (tally_next.placed ≡ placed_items 1 (items ++ item ∷ []))
wrote_whole number old now next tally tally_next items item at so serves =
    let n : number ≡ 1 + length items = at ∙ omega arith in (
      subst (Wrote old.written next.written) (sym (texts_more 1 items item))
          (wrote_more old.written now.written next.written (texts 1 items) (item_text (1 + length items) item) so.wrote
          (subst (λ k. Wrote now.written next.written (item_text k item)) n serves.wrote)),
      serves.placed ∙ ap (λ placed. placed ++ placed_item number item true ∷ []) so.placed
          ∙ ap (λ k. placed_items 1 items ++ placed_item k item true ∷ []) n ∙ sym (placed_more 1 items item),
    )

-- an item more, whose client didn't ask for the connection to close
pub one_further : (number : ℕ) (old now next : SessionView) (tally tally_next : Tally) (items : List SessionItem) (item : SessionItem)
    → number ≡ length items + 1 → SoFar old now tally items → ServesWhole number now next tally tally_next item → item.request.close ≡ false
    → (now.read_faults ≤ next.read_faults) × (now.write_faults ≤ next.write_faults)
    → SoFar old next tally_next (items ++ item ∷ [])
one_further number old now next tally tally_next items item at so serves stays_open rose =
    let behind = goes_behind number old now next tally tally_next items item at so serves.serves in
    let wrote = wrote_whole number old now next tally tally_next items item at so serves in
    record {
      read = behind.read;
      told = behind.told;
      kept = behind.kept;
      goes = behind.goes;
      served = behind.served;
      counted = behind.counted;
      fitting = behind.fitting;
      tells = behind.tells;
      wrote = wrote.0;
      placed = wrote.1;
      none = All-append (λ (i : SessionItem). i.request.close ≡ false) items (item ∷ []) so.none
          (All-cons (λ (i : SessionItem). i.request.close ≡ false) item [] stays_open (All-nil (λ (i : SessionItem). i.request.close ≡ false)));
      rose = (omega (arith, so.rose.0, rose.0), omega (arith, so.rose.1, rose.1));
    }

-- so many items were served so far
abbrev pub AreUnderWay : (number : ℕ) → (old now : SessionView) → Tally → Type 0
AreUnderWay number old now tally = (items : List SessionItem) × (number ≡ length items) × SoFar old now tally items

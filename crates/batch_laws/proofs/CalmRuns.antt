-- A run of lines at a lone seat in which nothing failed is told of no trouble.
use Rattle.std.proofs.Common.{◌≡◌, ◌≤◌, ◌==◌, ℕ, true, false, List, [], ◌∷◌, Option, Some, Ok, Err, codes, refl, sym, ap, subst, ◌∙◌}
use Rattle.std.proofs.Common.{arith}
use Rattle.std.specs.FinMap.{get}
use Rattle.std.specs.List.{Contains}
use Rattle.std.proofs.lemmas.List.Elements.{All-append, All-nil, Contains-append_left}
use Rattle.block_store.specs.Blocks.{HeldObjects}
use Rattle.http_wire.specs.declared.message.Request.{Request}
use Rattle.lake_base.specs.declared.outside.Trouble.{Trouble}
use Rattle.lake_base.specs.declared.outside.Trouble.TheVariants as trouble
use Rattle.lake_core.specs.Faults.{HasFault}
use Rattle.lake_model.specs.History.{faulted_entry, replay}
use Rattle.lake_model.specs.State.{State}
use Rattle.lake_model.specs.declared.history.HistoryEntry.{HistoryEntry}
use Rattle.lake_calls.specs.HeldBodies.{FitsState}
use Rattle.lakectl_shown.specs.declared.showing.Shown.{Shown}
use Rattle.lakectl_verbs.specs.LineForms.{line_of}
use Rattle.lakectl_verbs.specs.declared.line.LineWords.{LineWords}
use Rattle.lakectl_verbs.specs.declared.line.LineWords.TheVariants as line
use Rattle.lake_batch.specs.CommandWords.{Answered, AnsweredUnwritten, Exchanges, LakeView, Starved, Unread, UnservedUnwritten}
use Rattle.lake_batch.specs.CommandWords.{Behind, CommandShows, CommandStops, CommandView, LineEnds, LineShows, LineStops, NoFile, Sent, Unsent, Usage}
use Rattle.batch_lines.specs.ServedLines.{AreServed, LineEffect, LineReply, any_failed, any_starved}
use Rattle.lake_batch.proofs.SeatLemmas.{Passes, pass_lines}
use Rattle.seat_laws.specs.Expiries.{HasNoneExpired, NoneExpires}
use Rattle.batch_laws.specs.ToldReplies.{told_in, told_to_command, told_to_line, told_to_words}
use Rattle.session_laws.proofs.CalmCalls.{faults_rise}
use Rattle.batch_laws.proofs.CalmItems.{exchange_calm}
use Rattle.batch_laws.proofs.ExchangePairs.{AreCalm, IsCalm}
use Rattle.batch_laws.proofs.LoneSeats.{IsLone, lone_further}
use Rattle.batch_laws.proofs.RunPairs.{Calms, calms_of}
use Rattle.batch_laws.proofs.StarvedReplies.{shown_starved}

-- ---- counts don't fall

same_faults : (old now : CommandView) → now ≡ old → old.lake.store.faults ≤ now.lake.store.faults
same_faults old now same = let is = ap (λ (v : CommandView). v.lake.store.faults) same in omega (arith, is)

exchange_rises : (request : Request) (old now : LakeView) (written : Option (List ℕ)) → Exchanges request old now written
    → old.store.faults ≤ now.store.faults
exchange_rises request old now written (Answered item is read serves text) = faults_rise now.seat old.store now.store (item ∷ []) serves.counted
exchange_rises request old now written (Unread fault sent is replies serves text) = faults_rise now.seat old.store now.store [] serves.counted
exchange_rises request old now written (Starved serves text) = faults_rise now.seat old.store now.store [] serves.counted
exchange_rises request old now written (AnsweredUnwritten item is read serves text) = faults_rise now.seat old.store now.store (item ∷ []) serves.counted
exchange_rises request old now written (UnservedUnwritten serves text) = faults_rise now.seat old.store now.store [] serves.counted

module _ (old now : CommandView) where
  shown_rises : (host : List ℕ) (words : List (List ℕ)) (shown : Shown) → CommandShows host words old now shown
      → old.lake.store.faults ≤ now.lake.store.faults
  shown_rises host words shown (Usage fault is same shows) = same_faults old now same
  shown_rises host words shown (NoFile call name is names missing same shows) = same_faults old now same
  shown_rises host words shown (Sent call request written read is sent exchanged reads shows saved) =
      exchange_rises request old.lake now.lake (Some written) exchanged

  stopped_rises : (host : List ℕ) (words : List (List ℕ)) (trouble : Trouble) → CommandStops host words old now trouble
      → old.lake.store.faults ≤ now.lake.store.faults
  stopped_rises host words trouble (Unsent same named) = same_faults old now same
  stopped_rises host words trouble (Behind call request written is sent exchanged saved named) =
      exchange_rises request old.lake now.lake written exchanged

  shows_rises : (shown : Shown) (words : LineWords) → LineShows words old now shown → old.lake.store.faults ≤ now.lake.store.faults
  shows_rises shown line.Skipped is = same_faults old now is.0
  shows_rises shown line.Bad is = same_faults old now is.0
  shows_rises shown (line.Words words) is = shown_rises _ words shown is

  stops_rises : (trouble : Trouble) (words : LineWords) → LineStops words old now trouble → old.lake.store.faults ≤ now.lake.store.faults
  stops_rises trouble line.Skipped is = same_faults old now is.0
  stops_rises trouble line.Bad is = same_faults old now is.0
  stops_rises trouble (line.Words words) is = stopped_rises _ words trouble is

  line_rises : (bytes : List ℕ) (answer : LineReply) → LineEnds bytes old now answer → old.lake.store.faults ≤ now.lake.store.faults
  line_rises bytes (Ok shown) ends = shows_rises shown (line_of bytes) ends
  line_rises bytes (Err trouble) ends = stops_rises trouble (line_of bytes) ends

lines_rise : (lines : List (List ℕ)) (first last : CommandView) (effects : List LineEffect) → AreServed LineEnds lines first effects last
    → first.lake.store.faults ≤ last.lake.store.faults
lines_rise [] first last [] run = same_faults first last run
lines_rise [] first last (effect ∷ effects) run = absurd run
lines_rise (bytes ∷ lines) first last [] run = absurd run
lines_rise (bytes ∷ lines) first last (effect ∷ effects) (next, is, rest) =
    let here = line_rises first next bytes is.reply is.gives in
    let later = lines_rise lines next last effects rest in
    omega (arith, here, later)

-- ---- a line

-- a lone seat, none of whose commits expire, and a store whose bodies fit what it has seen
pub record IsReady (opened : State) (view : CommandView) : Type 0 where
  pub lone : IsLone opened view.lake.seat
  pub none : NoneExpires view.lake.seat.seen
  pub objects : HeldObjects
  pub held : view.lake.store.held ≡ Some objects
  pub fits : FitsState (replay opened view.lake.seat.seen) (get objects)

module _ (opened : State) (fresh : HasNoneExpired opened) (old now : CommandView) (sound : IsReady opened old) (calm : now.lake.store.faults ≡ 0)
    (unnoted : HasFault now.lake.seat.seen → ⊥) where
  -- nothing was asked
  unasked : now ≡ old → AreCalm [] × NoneExpires now.lake.seat.seen
  unasked same = (
    All-nil IsCalm,
    subst NoneExpires (sym (ap (λ (v : CommandView). v.lake.seat.seen) same)) sound.none,
  )

  command_calm : (host : List ℕ) (words : List (List ℕ)) (shown : Shown) → (shown.status == 7) ≡ false → (one : CommandShows host words old now shown)
      → AreCalm (told_to_command host words old now shown one) × NoneExpires now.lake.seat.seen
  command_calm host words shown fed (Usage fault is same shows) = unasked same
  command_calm host words shown fed (NoFile call name is names missing same shows) = unasked same
  command_calm host words shown fed (Sent call request written read is sent exchanged reads shows saved) =
      exchange_calm opened old.lake now.lake sound.lone sound.none fresh sound.objects sound.held sound.fits calm unnoted request written
      (λ close text. let never : true ≡ false =
      sym (shown_starved call.layout close written read text reads) ∙ (ap (λ (s : Shown). s.status == 7) (sym shows) ∙ fed) in absurd (cc (never)))
      exchanged

  words_calm : (words : LineWords) (shown : Shown) → (shown.status == 7) ≡ false → (one : LineShows words old now shown)
      → AreCalm (told_to_words words old now shown one) × NoneExpires now.lake.seat.seen
  words_calm line.Skipped shown fed is = unasked is.0
  words_calm line.Bad shown fed is = unasked is.0
  words_calm (line.Words words) shown fed is = command_calm (codes "localhost") words shown fed is

  line_calm : (bytes : List ℕ) (answer : LineReply) (ends : LineEnds bytes old now answer) → Calms answer
      → AreCalm (told_to_line bytes old now answer ends) × NoneExpires now.lake.seat.seen
  line_calm bytes (Ok shown) ends calms = words_calm (line_of bytes) shown calms.0 ends
  line_calm bytes (Err trouble.NoMemory) ends calms = let never = calms.0 in absurd (cc (never))
  line_calm bytes (Err trouble.Failed) ends calms = let never = calms.1 in absurd (cc (never))

-- what a line left is sound
sound_behind : {most : ℕ} (opened : State) (old now : CommandView) → IsReady opened old → Passes most old.lake now.lake
    → NoneExpires now.lake.seat.seen → IsReady opened now
sound_behind opened old now sound passes none =
    let kept = passes.fits sound.lone.origin sound.objects sound.lone.alone sound.lone.from sound.held
    (subst (λ (s : State). FitsState (replay s old.lake.seat.seen) (get sound.objects)) (sym sound.lone.opened_as) sound.fits) in
    record {
      lone = lone_further opened old.lake.seat now.lake.seat passes.goes sound.lone;
      none = none;
      objects = kept.0;
      held = kept.1;
      fits = subst (λ (s : State). FitsState (replay s now.lake.seat.seen) (get kept.0)) sound.lone.opened_as kept.2;
    }

-- ---- all lines

-- a note among what was seen is among what is seen later
fault_stays : {most : ℕ} (old now : CommandView) → Passes most old.lake now.lake → HasFault old.lake.seat.seen → HasFault now.lake.seat.seen
fault_stays old now passes fault = record {
  by = fault.by;
  tried = fault.tried;
  among = subst (λ (l : List HistoryEntry). Contains l (faulted_entry fault.by fault.tried)) (sym passes.goes.seen)
      (Contains-append_left old.lake.seat.seen passes.goes.added _ fault.among);
}

none_left : (low high : ℕ) → low ≤ high → high ≡ 0 → low ≡ 0
none_left low high le is = omega (arith, le, is)

pub calm_run : (opened : State) → HasNoneExpired opened → (lines : List (List ℕ)) (one end : CommandView) (effects : List LineEffect)
    (run : AreServed LineEnds lines one effects end) → IsReady opened one → any_starved effects ≡ false → any_failed effects ≡ false
    → end.lake.store.faults ≡ 0 → (HasFault end.lake.seat.seen → ⊥) → AreCalm (told_in lines one effects end run)
calm_run opened fresh [] one end effects run sound starved failed calm unnoted = All-nil IsCalm
calm_run opened fresh (bytes ∷ lines) one end [] run sound starved failed calm unnoted = absurd run
calm_run opened fresh (bytes ∷ lines) one end (effect ∷ effects) (next, is, rest) sound starved failed calm unnoted =
    let calms = calms_of effect effects is.reply is.comes starved failed in
    let later = pass_lines lines next end effects rest in
    let here = line_calm opened fresh one next sound (none_left _ _ (lines_rise lines next end effects rest) calm)
    (λ fault. unnoted (fault_stays next end later fault)) bytes is.reply is.gives calms.0 in
    let passes = pass_lines (bytes ∷ []) one next (effect ∷ []) (next, is, refl) in
    All-append IsCalm (told_to_line bytes one next is.reply is.gives) (told_in lines next effects end rest) here.0
    (calm_run opened fresh lines next end effects rest (sound_behind opened one next sound passes here.1) calms.1 calms.2 calm unnoted)

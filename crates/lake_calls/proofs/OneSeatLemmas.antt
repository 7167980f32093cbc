-- Where nothing clashes, the one-seat course of a call has one reply and adds one list of entries.
use Rattle.std.proofs.Common.{◌≡◌, ℕ, List, [], ◌∷◌, ◌++◌, refl, ap, sym, ◌∙◌, subst}
use Rattle.std.specs.Prelude.{None}
use Rattle.call_placement.specs.Rules.{Caller}
use Rattle.call_placement.specs.Points as placed
use Rattle.call_placement.specs.Alone.{DoneAlone, EndsAlone, GoesAlone, RefusedAlone}
use Rattle.call_placement.proofs.AloneLemmas.{goes_alone}
use Rattle.call_placement.proofs.OneValueLemmas.{one_value}
use Rattle.lake_model.specs.declared.history.HistoryEntry.{HistoryEntry}
use Rattle.lake_model.specs.History.{after, replay}
use Rattle.lake_model.specs.State.{State}
use Rattle.lake_calls.specs.CallExceptions.{CallMet}
use Rattle.lake_calls.specs.CallRefusals.{IsClashOf}
use Rattle.lake_calls.specs.Courses.{CallPoint, Answers, Finds, ResolvesSource, ResolvesParent, Looks, Prepares, Makes}
use Rattle.lake_calls.specs.LakeRules.{lake_rules}
use Rattle.lake_calls.specs.NoClashes.{AreOneButForClash, NothingClashes}
use Rattle.lake_calls.specs.Requests.{Asks, CallRequest}
use Rattle.lake_calls.specs.ServedAlone.{IsServedAlone}
use Rattle.lake_calls.specs.declared.call.Call.{Call}
use Rattle.lake_calls.specs.declared.reply.CallReply.{CallReply}
use Rattle.lake_calls.proofs.ClashLemmas.{IsClear}
use Rattle.lake_calls.proofs.DeterminedLemmas.{clear_rules, clearly_determined}
use Rattle.lake_calls.proofs.RuleLemmas.{lawful}
use Rattle.lake_calls.proofs.ShownLemmas.{as_shown, shown, shown_determined, shown_rules}

-- the state behind entries
replay_same : (opened : State) (entries : List HistoryEntry) → placed.replay lake_rules opened entries ≡ replay opened entries
replay_same opened [] = refl
replay_same opened (entry ∷ entries) = replay_same (after opened entry) entries

module _ (opened : State) (by : Caller) (seen : List HistoryEntry) (request : CallRequest) (met : CallMet) where
  -- where a course stands, nothing clashes
  clear_at : NothingClashes opened by seen request → (reply : CallReply) (added : List HistoryEntry)
      (goes : GoesAlone lake_rules opened by seen request met reply added) (point : CallPoint) (later : List CallPoint) → goes.left ≡ point ∷ later
      → IsClear point (placed.replay lake_rules opened (seen ++ placed.entries_of lake_rules by goes.passed))
  clear_at none reply added goes (Makes operation) later is =
      subst (λ s. IsClashOf s operation None) (sym (replay_same opened (seen ++ placed.entries_of lake_rules by goes.passed)))
      (none goes.fixed goes.passed later operation (goes.course ∙ ap (λ w. goes.passed ++ w) is) goes.points)
  clear_at none reply added goes Answers later is = tt
  clear_at none reply added goes (Finds c) later is = tt
  clear_at none reply added goes (ResolvesSource commit) later is = tt
  clear_at none reply added goes (ResolvesParent commit parent message) later is = tt
  clear_at none reply added goes (Looks repo branch) later is = tt
  clear_at none reply added goes (Prepares repo branch kind about) later is = tt

  clear_end : (course passed left : List CallPoint) (state : State) (reply : CallReply) (more : List HistoryEntry)
      → ((point : CallPoint) (later : List CallPoint) → left ≡ point ∷ later → IsClear point state)
      → EndsAlone lake_rules by request met course passed left state reply more → EndsAlone clear_rules by request met course passed left state reply more
  clear_end course passed left state reply more clear (DoneAlone last is passes answers added) = DoneAlone last is passes answers added
  clear_end course passed left state reply more clear (RefusedAlone point later is refuses added) =
      RefusedAlone point later is (clear point later is, refuses) added

  goes_clear : NothingClashes opened by seen request → (reply : CallReply) (added : List HistoryEntry)
      → GoesAlone lake_rules opened by seen request met reply added → GoesAlone clear_rules opened by seen request met reply added
  goes_clear none reply added goes = record {
    fixed = goes.fixed;
    passed = goes.passed;
    left = goes.left;
    course = goes.course;
    points = goes.points;
    more = goes.more;
    added_is = goes.added_is;
    ended = clear_end _ goes.passed goes.left _ reply goes.more (clear_at none reply added goes) goes.ended;
  }

  shown_end : (course passed left : List CallPoint) (state : State) (reply : CallReply) (more : List HistoryEntry)
      → EndsAlone lake_rules by request met course passed left state reply more
      → EndsAlone shown_rules by request met course passed left state (shown reply) more
  shown_end course passed left state reply more (DoneAlone last is passes answers added) = DoneAlone last is passes (reply, answers, refl) added
  shown_end course passed left state reply more (RefusedAlone point later is refuses added) =
      RefusedAlone point later is (reply, refuses, refl) added

  goes_shown : (reply : CallReply) (added : List HistoryEntry)
      → GoesAlone lake_rules opened by seen request met reply added → GoesAlone shown_rules opened by seen request met (shown reply) added
  goes_shown reply added goes = record {
    fixed = goes.fixed;
    passed = goes.passed;
    left = goes.left;
    course = goes.course;
    points = goes.points;
    more = goes.more;
    added_is = goes.added_is;
    ended = shown_end _ goes.passed goes.left _ reply goes.more goes.ended;
  }

-- EACH CALL HAS ONE REPLY AND ADDS ONE LIST OF ENTRIES, where nothing clashes
pub one_alone : (call : Call) (moment : ℕ) (opened : State) (by : Caller) (seen : List HistoryEntry) (met : CallMet) (reply other : CallReply)
    (added more : List HistoryEntry)
    → NothingClashes opened by seen (record { asked = Asks call; moment = moment })
    → GoesAlone lake_rules opened by seen (record { asked = Asks call; moment = moment }) met reply added
    → GoesAlone lake_rules opened by seen (record { asked = Asks call; moment = moment }) met other more
    → (reply ≡ other) × (added ≡ more)
one_alone call moment opened by seen met reply other added more none a b =
    let request : CallRequest = record { asked = Asks call; moment = moment } in
    one_value clear_rules request (clearly_determined call moment) opened by seen met reply other added more
    (goes_clear opened by seen request met none reply added a) (goes_clear opened by seen request met none other more b)

-- WHERE SOMETHING CLASHES TOO, but for the clash that is told
pub one_but_for_clash : (call : Call) (moment : ℕ) (opened : State) (by : Caller) (seen : List HistoryEntry) (met : CallMet) (reply other : CallReply)
    (added more : List HistoryEntry)
    → GoesAlone lake_rules opened by seen (record { asked = Asks call; moment = moment }) met reply added
    → GoesAlone lake_rules opened by seen (record { asked = Asks call; moment = moment }) met other more
    → AreOneButForClash reply other × (added ≡ more)
one_but_for_clash call moment opened by seen met reply other added more a b =
    let request : CallRequest = record { asked = Asks call; moment = moment } in
    let one = one_value shown_rules request (shown_determined call moment) opened by seen met (shown reply) (shown other) added more
    (goes_shown opened by seen request met reply added a) (goes_shown opened by seen request met other more b) in
    (as_shown reply other one.0, one.1)

-- SO HAS EACH CALL THAT WAS SERVED WHILE ITS SEAT WAS ALONE
pub one_served : (call : Call) (moment : ℕ) (opened : State) (by : Caller) (before : List HistoryEntry) (met : CallMet) (reply other : CallReply)
    (added more : List HistoryEntry)
    → NothingClashes opened by before (record { asked = Asks call; moment = moment })
    → IsServedAlone opened by before (record { asked = Asks call; moment = moment }) met reply added
    → IsServedAlone opened by before (record { asked = Asks call; moment = moment }) met other more
    → (reply ≡ other) × (added ≡ more)
one_served call moment opened by before met reply other added more none a b =
    let request : CallRequest = record { asked = Asks call; moment = moment } in
    one_alone call moment opened by before met reply other added more none
    (goes_alone lake_rules lawful opened by before (before ++ added) added request met reply a.0 a.1 a.2 a.3 refl a.4)
    (goes_alone lake_rules lawful opened by before (before ++ more) more request met other b.0 b.1 b.2 b.3 refl b.4)

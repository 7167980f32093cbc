-- A call that was served is told of no form; and what is told in its place where memory ran out.
use Rattle.std.proofs.Common.{◌≡◌, inl, inr, ℕ, Bool, true, false, true≢false, List, [], ◌∷◌, length, refl, sym, ap, ◌∙◌}
use Rattle.lake_model.specs.declared.history.HistoryEntry.{HistoryEntry}
use Rattle.lake_model.specs.State.{State}
use Rattle.call_placement.specs.Rules.{Caller}
use Rattle.call_placement.specs.Served.{ByCause, ByLateCause, ByMemory, ByState, Broken, Done, Ends, Faulted, Hinders, IsOfFault, IsServed, Stopped}
use Rattle.call_placement.specs.Sessions.{IsItemServed, Item}
use Rattle.call_placement.proofs.StarvedLemmas.{starves}
use Rattle.lake_calls.specs.CallExceptions.{CallMet, IsException}
use Rattle.lake_calls.specs.Courses.{Answers, CallPoint, Finds, Looks, Makes, Prepares, ResolvesParent, ResolvesSource}
use Rattle.lake_calls.specs.LakeRules.{lake_rules}
use Rattle.lake_calls.specs.Requests.{Asked, Asks, CallRequest, Malformed, form_of}
use Rattle.lake_calls.specs.declared.call.Call.{Call}
use Rattle.lake_calls.specs.declared.reply.CallReply.{CallReply}
use Rattle.lake_calls.specs.declared.reply.CallReply.TheVariants as reply
use Rattle.lake_calls.proofs.RefusedLemmas.{point_refused}
use Rattle.lake_calls.proofs.RuleLemmas.{tells_done}
use Rattle.lake_session.specs.PrintedAnswers.{tells_form}

-- a reply that is another than a form's refusal
other_than_form : (told other : CallReply) → told ≡ other → tells_form other ≡ false → tells_form told ≡ true → ⊥
other_than_form told other is none form = true≢false (sym form ∙ ap tells_form is ∙ none)

-- an exception is a refusal
excepted : (seat : ℕ) (uploads : Bool) (left : List CallPoint) (met : CallMet) (opened : State) (from : ℕ) (seen : List HistoryEntry) (told : CallReply)
    → IsException seat uploads left met opened from seen told → tells_form told ≡ true → ⊥
excepted seat uploads (Finds c ∷ points) met opened from seen told (inl many) form = other_than_form told _ many.1 refl form
excepted seat uploads (Finds c ∷ points) met opened from seen told (inr (inl fault)) form = other_than_form told _ fault.1 refl form
excepted seat uploads (Finds c ∷ points) met opened from seen told (inr (inr (inl lost))) form = other_than_form told _ lost.1 refl form
excepted seat uploads (Finds c ∷ points) met opened from seen told (inr (inr (inr damaged))) form = other_than_form told _ damaged.1 refl form
excepted seat uploads [] met opened from seen told (inl many) form = other_than_form told _ many.1 refl form
excepted seat uploads [] met opened from seen told (inr fault) form = other_than_form told _ fault.1 refl form
excepted seat uploads (Answers ∷ points) met opened from seen told (inl many) form = other_than_form told _ many.1 refl form
excepted seat uploads (Answers ∷ points) met opened from seen told (inr fault) form = other_than_form told _ fault.1 refl form
excepted seat uploads (ResolvesSource c ∷ points) met opened from seen told (inl many) form = other_than_form told _ many.1 refl form
excepted seat uploads (ResolvesSource c ∷ points) met opened from seen told (inr fault) form = other_than_form told _ fault.1 refl form
excepted seat uploads (ResolvesParent c p m ∷ points) met opened from seen told (inl many) form = other_than_form told _ many.1 refl form
excepted seat uploads (ResolvesParent c p m ∷ points) met opened from seen told (inr fault) form = other_than_form told _ fault.1 refl form
excepted seat uploads (Looks r b ∷ points) met opened from seen told (inl many) form = other_than_form told _ many.1 refl form
excepted seat uploads (Looks r b ∷ points) met opened from seen told (inr fault) form = other_than_form told _ fault.1 refl form
excepted seat uploads (Prepares r b k a ∷ points) met opened from seen told (inl many) form = other_than_form told _ many.1 refl form
excepted seat uploads (Prepares r b k a ∷ points) met opened from seen told (inr fault) form = other_than_form told _ fault.1 refl form
excepted seat uploads (Makes o ∷ points) met opened from seen told (inl many) form = other_than_form told _ many.1 refl form
excepted seat uploads (Makes o ∷ points) met opened from seen told (inr fault) form = other_than_form told _ fault.1 refl form

module _ (call : Call) (moment : ℕ) (opened : State) (by : Caller) (before after : List HistoryEntry) (met : CallMet) (told : CallReply)
    (position edge : ℕ) where
  abbrev request : CallRequest
  request = record { asked = Asks call; moment = moment }

  of_fault : IsOfFault lake_rules met told → tells_form told ≡ true → ⊥
  of_fault (inl failed) form = other_than_form told _ failed.1 refl form
  of_fault (inr memory) form = other_than_form told _ memory refl form

  hindered : (left : List CallPoint) (found : List HistoryEntry) → Hinders lake_rules opened by request met (length before) left found told
      → tells_form told ≡ true → ⊥
  hindered left found (ByState point later is refused) form = let r = point_refused call point _ told refused in other_than_form told _ r.2 refl form
  hindered left found (ByCause some cause) form = excepted by.seat _ left met opened (length before) found told cause form
  hindered left found (ByLateCause none cause) form = absurd cause
  hindered left found (ByMemory memory) form = other_than_form told _ memory refl form

  ends_no_form : (course passed left : List CallPoint) (seen next : List HistoryEntry)
      → Ends lake_rules opened by request met (length before) course passed left seen told position edge next → tells_form told ≡ true → ⊥
  ends_no_form course passed left seen next (Done last found is came passes answers stands at at_edge) form = other_than_form told _ answers.4 refl form
  ends_no_form course passed left seen next (Stopped found came hinders at gives) form = hindered left found hinders form
  ends_no_form course passed left seen next (Faulted point later operation found is makes came passes says stands at at_edge) form = of_fault says form
  ends_no_form course passed left seen next (Broken refusal operation first found came hinders owes goes takes says stands at at_edge) form = of_fault says form

  pub no_form : IsServed lake_rules opened by before after request met told position edge → tells_form told ≡ true → ⊥
  no_form s form = ends_no_form (lake_rules.course request s.fixed) s.passed s.left s.seen s.next s.ended form

module _ (opened : State) (by : Caller) (edge : ℕ) (before after : List HistoryEntry) (moment : ℕ) (met : CallMet) where
  -- an item that is told this at this position
  abbrev pub item_of : Asked → CallReply → (position : ℕ) → Item CallRequest CallMet CallReply
  item_of asked told position = record { request = record { asked = asked; moment = moment }; met = met; reply = told; position = position }

  abbrev pub IsServedSo : Asked → CallReply → (position next_edge : ℕ) → Type 0
  IsServedSo asked told position next_edge = IsItemServed lake_rules opened by edge before after (item_of asked told position) next_edge (form_of asked)

  -- it is served too where memory ran out as its reply was printed; a form's refusal had another position
  pub starves_item : (asked : Asked) (told : CallReply) (position next_edge : ℕ) → tells_form told ≡ false → IsServedSo asked told position next_edge
      → IsServedSo asked reply.NoMemory position next_edge
  starves_item (Asks call) told position next_edge none served = (
    starves lake_rules tells_done opened by before after (record { asked = Asks call; moment = moment }) met told reply.NoMemory position next_edge
        refl served.0,
    served.1,
  )
  starves_item (Malformed refusal) told position next_edge none (inl refused, stays, at) = absurd (true≢false (sym (ap tells_form refused.0) ∙ none))
  starves_item (Malformed refusal) told position next_edge none (inr starved, stays, at) = (inr (refl, starved.1), stays, at)

  pub starves_form : (asked : Asked) (told : CallReply) (position next_edge : ℕ) → tells_form told ≡ true → IsServedSo asked told position next_edge
      → IsServedSo asked reply.NoMemory (length after) (length after)
  starves_form (Asks call) told position next_edge form served =
      absurd (no_form call moment opened by before after met told position next_edge served.0 form)
  starves_form (Malformed refusal) told position next_edge form (one, stays, at) = (inr (refl, ap length stays), stays, refl)

-- What a call leaves that makes a new head: done, refused, or where the store failed.
use Rattle.std.proofs.Common.{◌≡◌, ◌≢◌, ℕ, Bool, true, false, List, [], ◌∷◌, ◌++◌, length, refl, sym, ap, ◌∙◌, ◌⊎◌, inl, inr, subst, append_assoc}
use Rattle.std.proofs.lemmas.List.{append-nil}
use Rattle.std.specs.Prelude.{Option, Some, None}
use Rattle.lake_model.specs.declared.history.HistoryEntry.{HistoryEntry}
use Rattle.lake_model.specs.declared.history.Operation.{Operation}
use Rattle.lake_model.specs.State.{State}
use Rattle.lake_model.specs.History.{faulted_entry}
use Rattle.call_placement.specs.Rules.{Caller}
use Rattle.call_placement.specs.Points.{AreOfOtherCalls, Came, HavePassed, made, replay}
use Rattle.call_placement.specs.Served.{Broken, ByCause, ByLateCause, ByMemory, ByState, Done, Ends, Faulted, GivenUp, GivesUp, Hinders, IsOfFault}
use Rattle.call_placement.specs.Served.{Keeps, OwesNothing, Shut, Stopped}
use Rattle.call_placement.proofs.WalkLemmas.{nothing_came}
use Rattle.lake_calls.specs.CallExceptions.{CallMet, IsException, IsReadException}
use Rattle.lake_calls.specs.Courses.{Answers, CallPoint, Finds, Looks, Makes, Prepares, ResolvesParent, ResolvesSource, made_by}
use Rattle.lake_calls.specs.DoneReplies.{is_reply_done, is_upload}
use Rattle.lake_calls.specs.LakeRules.{by_caller, lake_rules}
use Rattle.lake_calls.specs.Requests.{Asks, CallRequest}
use Rattle.lake_calls.specs.declared.call.Call.{Call}
use Rattle.lake_calls.specs.declared.objects.ReadCall.{ReadCall}
use Rattle.lake_calls.specs.declared.reply.CallReply.{CallReply}
use Rattle.lake_calls.specs.declared.reply.CallReply.TheVariants as reply
use Rattle.lake_calls.specs.declared.reply.Refusal.{Refusal}
use Rattle.lake_calls.specs.declared.reply.Refusal.TheVariants as refusal
use Rattle.lake_calls.proofs.RefusedLemmas.{IsOther, IsRefused, point_refused}
use Rattle.lake_calls.proofs.RuleLemmas.{tells_done}
use Rattle.commit_laws.specs.OwnSeals.{HasNotSealed, HasOwnSeal, HasTwoPoints, AskedHead, head_entry, head_operation, seal_operation}
use Rattle.commit_laws.proofs.PointLemmas.{AllRead, Far, Ready, Sealed, StandsBehind, Unsealed}
use Rattle.commit_laws.proofs.PointLemmas.{Whole, apart_both, came_readings, has_not_sealed, has_sealed}
use Rattle.commit_laws.proofs.PointLemmas.{head_point, owes_nothing, points_of, ready_point, seal_point, stands_behind}

-- ---- replies

-- a reply that is done is no refusal
told_apart : (told : CallReply) → is_reply_done told ≡ true → is_reply_done told ≡ false → ⊥
told_apart told done undone = absurd (cc (done, undone))

abbrev cause_of : CallReply → Refusal
cause_of (reply.Refused cause) = cause
cause_of _ = refusal.Stopped

pub same_cause : (one other : Refusal) → reply.Refused one ≡ reply.Refused other → one ≡ other
same_cause one other same = ap cause_of same

-- no refusal says that memory ran out
pub not_starved : (cause : Refusal) → reply.Refused cause ≡ reply.NoMemory → ⊥
not_starved cause same = absurd cc

-- no exception says that the store failed
either_other : (A B : Type 0) (told : CallReply)
    → (A × (told ≡ reply.Refused refusal.TooManyTries)) ⊎ (B × (told ≡ reply.Refused refusal.BlockFault)) → told ≡ reply.Refused refusal.StoreFault → ⊥
either_other A B told (inl is) fails = absurd (let same = same_cause refusal.TooManyTries refusal.StoreFault (sym is.1 ∙ fails) in cc)
either_other A B told (inr is) fails = absurd (let same = same_cause refusal.BlockFault refusal.StoreFault (sym is.1 ∙ fails) in cc)

read_other : (c : ReadCall) (met : CallMet) (opened : State) (from : ℕ) (seen : List HistoryEntry) (told : CallReply)
    → IsReadException c met opened from seen told → told ≡ reply.Refused refusal.StoreFault → ⊥
read_other c met opened from seen told (inl is) fails =
    absurd (let same = same_cause refusal.TooManyTries refusal.StoreFault (sym is.1 ∙ fails) in cc)
read_other c met opened from seen told (inr (inl is)) fails =
    absurd (let same = same_cause refusal.BlockFault refusal.StoreFault (sym is.1 ∙ fails) in cc)
read_other c met opened from seen told (inr (inr (inl is))) fails =
    absurd (let same = same_cause (refusal.Lost c.path) refusal.StoreFault (sym is.1 ∙ fails) in cc)
read_other c met opened from seen told (inr (inr (inr is))) fails =
    absurd (let same = same_cause (refusal.Damaged c.path) refusal.StoreFault (sym is.1 ∙ fails) in cc)

exception_other : (seat : ℕ) (uploads : Bool) (left : List CallPoint) (met : CallMet) (opened : State) (from : ℕ) (seen : List HistoryEntry)
    (told : CallReply) → IsException seat uploads left met opened from seen told → told ≡ reply.Refused refusal.StoreFault → ⊥
exception_other seat uploads [] met opened from seen told = either_other _ _ told
exception_other seat uploads (Finds c ∷ left) met opened from seen told = read_other c met opened from seen told
exception_other seat uploads (Answers ∷ left) met opened from seen told = either_other _ _ told
exception_other seat uploads (ResolvesSource commit ∷ left) met opened from seen told = either_other _ _ told
exception_other seat uploads (ResolvesParent commit parent message ∷ left) met opened from seen told = either_other _ _ told
exception_other seat uploads (Looks repo branch ∷ left) met opened from seen told = either_other _ _ told
exception_other seat uploads (Prepares repo branch kind about ∷ left) met opened from seen told = either_other _ _ told
exception_other seat uploads (Makes operation ∷ left) met opened from seen told = either_other _ _ told

-- no refusal of a state says so either
other_fault : (told : CallReply) → told ≡ reply.Refused refusal.StoreFault → IsRefused told → ⊥
other_fault told fails is = subst IsOther (sym (same_cause refusal.StoreFault is.0 (sym fails ∙ is.2))) is.1

module _ (opened : State) (by : Caller) (call : Call) (moment : ℕ) (met : CallMet) (before : List HistoryEntry) where
  abbrev request : CallRequest
  request = record { asked = Asks call; moment = moment }

  -- what hinders a call isn't told as done
  hindered_undone : (left : List CallPoint) (found : List HistoryEntry) (told : CallReply)
      → Hinders lake_rules opened by request met (length before) left found told → is_reply_done told ≡ false
  hindered_undone left found told (ByState point later is refuses) = tells_done.refused by request point (replay lake_rules opened found) told refuses
  hindered_undone left found told (ByCause some cause) = tells_done.excepted by request left met opened (length before) found told cause
  hindered_undone left found told (ByLateCause none cause) = absurd cause
  hindered_undone left found told (ByMemory want) = tells_done.starved told want

  fault_undone : (told : CallReply) → IsOfFault lake_rules met told → is_reply_done told ≡ false
  fault_undone told (inl fails) = tells_done.failed met told fails
  fault_undone told (inr want) = tells_done.starved told want

  -- and a refusal that hinders it comes while points are left, and doesn't say that the store failed
  pub hindered_left : (left : List CallPoint) (found : List HistoryEntry) (cause : Refusal)
      → Hinders lake_rules opened by request met (length before) left found (reply.Refused cause) → left ≢ []
  hindered_left left found cause (ByState point later is refuses) none = absurd (cc (is, none))
  hindered_left left found cause (ByCause some excepts) none = some none
  hindered_left left found cause (ByLateCause late excepts) none = absurd excepts
  hindered_left left found cause (ByMemory want) none = absurd (not_starved cause want)

  hindered_other : (left : List CallPoint) (found : List HistoryEntry)
      → Hinders lake_rules opened by request met (length before) left found (reply.Refused refusal.StoreFault) → ⊥
  hindered_other left found (ByState point later is refuses) =
      other_fault (reply.Refused refusal.StoreFault) refl (point_refused call point (replay lake_rules opened found) (reply.Refused refusal.StoreFault) refuses)
  hindered_other left found (ByCause some cause) =
      exception_other by.seat (is_upload call) left met opened (length before) found (reply.Refused refusal.StoreFault) cause refl
  hindered_other left found (ByLateCause none cause) = cause
  hindered_other left found (ByMemory want) = not_starved refusal.StoreFault want

  -- of a fault it is told that the store failed
  pub fault_told : (cause : Refusal) → IsOfFault lake_rules met (reply.Refused cause) → cause ≡ refusal.StoreFault
  fault_told cause (inl fails) = same_cause cause refusal.StoreFault fails.1
  fault_told cause (inr want) = absurd (not_starved cause want)

  -- one that owes nothing adds nothing
  pub given_up : (owed : Option Operation) (told : CallReply) (found next : List HistoryEntry) (next_edge : ℕ) → owed ≡ None
      → GivesUp lake_rules opened by owed told found next next_edge → Came lake_rules by found next × (next_edge ≡ length found)
  given_up owed told found next next_edge none (OwesNothing owes is edge) =
      (subst (Came lake_rules by found) (sym is) (nothing_came lake_rules by found), edge)
  given_up owed told found next next_edge none (GivenUp operation seen owes came unshut is edge) = absurd (cc (none, owes))
  given_up owed told found next next_edge none (Shut came shut edge) = (came, edge)
  given_up owed told found next next_edge none (Keeps want is edge) =
      (subst (Came lake_rules by found) (sym is) (nothing_came lake_rules by found), edge)

  module _ (head : AskedHead) where
    -- a course of these points has more than one left
    several_left : (reads : List CallPoint) (last : CallPoint) → reads ++ points_of head ≡ last ∷ [] → ⊥
    several_left [] last is = absurd cc
    several_left (read ∷ []) last is = absurd cc
    several_left (read ∷ next ∷ reads) last is = absurd cc

    -- where the next of its points makes an operation, before the seal, that is the seal
    next_seal : (reads later : List CallPoint) (point : CallPoint) (operation : Operation) → AllRead reads → reads ++ points_of head ≡ point ∷ later
        → made_by point ≡ Some operation → operation ≡ seal_operation head
    next_seal [] later point operation all is makes =
        let same : seal_point head ≡ point = cc in
        let both : Some operation ≡ Some (seal_operation head) = sym makes ∙ ap made_by (sym same) in
        cc
    next_seal (read ∷ reads) later point operation all is makes =
        let same : read ≡ point = cc in
        let none : made_by point ≡ None = ap made_by (sym same) ∙ all.0 in
        absurd (cc (none, makes))

    next_head : (left later : List CallPoint) (point : CallPoint) (operation : Operation) → left ≡ head_point head ∷ [] → left ≡ point ∷ later
        → made_by point ≡ Some operation → operation ≡ head_operation head
    next_head left later point operation is also makes =
        let same : head_point head ≡ point = cc in
        let both : Some operation ≡ Some (head_operation head) = sym makes ∙ ap made_by (sym same) in
        cc

    next_reads : (left later more : List CallPoint) (point : CallPoint) (operation : Operation) → left ≡ ready_point head ∷ more → left ≡ point ∷ later
        → made_by point ≡ Some operation → ⊥
    next_reads left later more point operation is also makes =
        let same : ready_point head ≡ point = cc in
        let none : made_by point ≡ None = ap made_by (sym same) in
        absurd (cc (none, makes))

    module _ (after later : List HistoryEntry) (position next_edge : ℕ) (apart : AreOfOtherCalls lake_rules by later) where
      abbrev Walked : (passed : List CallPoint) (seen : List HistoryEntry) → Type 0
      Walked passed seen = HavePassed lake_rules opened by request passed before seen

      behind_seal : (reads more passed : List CallPoint) (seen : List HistoryEntry) → AllRead reads → AllRead more → passed ≡ reads ++ seal_point head ∷ more
          → Walked passed seen → StandsBehind opened by request head before seen
      behind_seal reads more passed seen all none is walked =
          stands_behind opened by request head reads more before before seen all none (nothing_came lake_rules by before)
          (subst (λ ps. Walked ps seen) is walked)

      -- ---- done

      abbrev Ended : (course passed left : List CallPoint) (seen : List HistoryEntry) → CallReply → (next : List HistoryEntry) → Type 0
      Ended course passed left seen told next =
          Ends lake_rules opened by request met (length before) course passed left seen told position next_edge next

      pub done_points : (course passed left : List CallPoint) (seen next : List HistoryEntry) (told : CallReply) → Far head passed left → Walked passed seen
          → Ended course passed left seen told next → is_reply_done told ≡ true → after ≡ next ++ later
          → HasTwoPoints by before after head position next_edge
      done_points course passed left seen next told (Unsealed _ reads _ left_is) walked (Done last _ is _ _ _ _ _ _) done whole =
          absurd (several_left reads last (sym left_is ∙ is))
      done_points course passed left seen next told (Sealed _ _ _ left_is) walked (Done last _ is _ _ _ _ _ _) done whole =
          absurd cc
      done_points course passed left seen next told (Ready reads all passed_is left_is) walked (Done last found is came _ _ next_is place edge) done whole =
          let same : last ≡ head_point head = cc in
          has_sealed opened by request head before after seen found (head_entry by head ∷ []) next later position next_edge
          (next_is ∙ ap (λ p. found ++ made lake_rules by (made_by p)) same) place (edge ∙ sym place) apart whole
          (behind_seal reads (ready_point head ∷ []) passed seen all (refl, tt) passed_is walked) came
      done_points course passed left seen next told (Whole _ _ _ left_is) walked (Done last _ is _ _ _ _ _ _) done whole =
          absurd cc
      done_points course passed left seen next told far walked (Stopped found _ hinders _ _) done whole =
          absurd (told_apart told done (hindered_undone left found told hinders))
      done_points course passed left seen next told far walked (Faulted _ _ _ _ _ _ _ _ says _ _ _) done whole =
          absurd (told_apart told done (fault_undone told says))
      done_points course passed left seen next told far walked (Broken _ _ _ _ _ _ _ _ _ says _ _ _) done whole =
          absurd (told_apart told done (fault_undone told says))

      -- ---- refused

      abbrev IsLeft : List HistoryEntry → List HistoryEntry → Type 0
      IsLeft sealed unsealed =
          HasOwnSeal by before after head sealed position next_edge ⊎ HasNotSealed by before after unsealed position next_edge

      -- what a call that stops behind its seal leaves
      pub stopped_sealed : (reads more passed : List CallPoint) (seen found next : List HistoryEntry) → AllRead reads → AllRead more
          → passed ≡ reads ++ seal_point head ∷ more → Walked passed seen → Came lake_rules by seen found → position ≡ length found
          → Came lake_rules by found next × (next_edge ≡ length found) → after ≡ next ++ later → HasOwnSeal by before after head [] position next_edge
      stopped_sealed reads more passed seen found next all none passed_is walked came place on whole =
          has_sealed opened by request head before after seen found [] found (on.0.0 ++ later) position next_edge
          (sym (append-nil found)) place (on.1 ∙ sym place) (apart_both opened by request head on.0.0 later on.0.1 apart)
          (whole ∙ ap (λ w. w ++ later) on.0.2 ∙ append_assoc found on.0.0 later)
          (behind_seal reads more passed seen all none passed_is walked) came

      -- and one that stops anywhere
      stopped_left : (passed left : List CallPoint) (seen found next : List HistoryEntry) → Far head passed left → left ≢ [] → Walked passed seen
          → Came lake_rules by seen found → position ≡ length found → Came lake_rules by found next × (next_edge ≡ length found) → after ≡ next ++ later
          → IsLeft [] []
      stopped_left passed left seen found next (Unsealed all reads these left_is) some walked came place on whole =
          inr (has_not_sealed opened by request head before after seen found [] found (on.0.0 ++ later) position next_edge
          (sym (append-nil found)) place (on.1 ∙ sym place) (apart_both opened by request head on.0.0 later on.0.1 apart)
          (whole ∙ ap (λ w. w ++ later) on.0.2 ∙ append_assoc found on.0.0 later)
          (came_readings opened by request passed before seen all walked) came)
      stopped_left passed left seen found next (Sealed reads all passed_is left_is) some walked came place on whole =
          inl (stopped_sealed reads [] passed seen found next all tt passed_is walked came place on whole)
      stopped_left passed left seen found next (Ready reads all passed_is left_is) some walked came place on whole =
          inl (stopped_sealed reads (ready_point head ∷ []) passed seen found next all (refl, tt) passed_is walked came place on whole)
      stopped_left passed left seen found next (Whole reads all passed_is left_is) some walked came place on whole = absurd (some left_is)

      -- a reply that is refused isn't a whole course's
      pub answered_refused : (course : List CallPoint) (state : State) (cause : Refusal)
          → lake_rules.answers by request met course state (reply.Refused cause) → ⊥
      answered_refused course state cause answers =
          told_apart (reply.Refused cause) (tells_done.answered by request met course state (reply.Refused cause) answers) refl

      pub refused_left : (course passed left : List CallPoint) (seen next : List HistoryEntry) (cause : Refusal) → Far head passed left → Walked passed seen
          → Ended course passed left seen (reply.Refused cause) next → cause ≢ refusal.StoreFault → after ≡ next ++ later → IsLeft [] []
      refused_left course passed left seen next cause far walked (Done _ found _ _ _ answers _ _ _) other whole =
          absurd (answered_refused course (replay lake_rules opened found) cause answers)
      refused_left course passed left seen next cause far walked (Stopped found came hinders place gives) other whole =
          stopped_left passed left seen found next far (hindered_left left found cause hinders) walked came place
          (given_up _ (reply.Refused cause) found next next_edge (owes_nothing head passed left far) gives) whole
      refused_left course passed left seen next cause far walked (Faulted _ _ _ _ _ _ _ _ says _ _ _) other whole =
          absurd (other (fault_told cause says))
      refused_left course passed left seen next cause far walked (Broken _ _ _ _ _ _ _ _ _ says _ _ _) other whole =
          absurd (other (fault_told cause says))

      -- ---- where the store failed

      abbrev note : Operation → List HistoryEntry
      note operation = faulted_entry (by_caller by) operation ∷ []

      faulted_left : (passed left more : List CallPoint) (point : CallPoint) (operation : Operation) (seen found next : List HistoryEntry)
          → Far head passed left → Walked passed seen → left ≡ point ∷ more → made_by point ≡ Some operation
          → Came lake_rules by seen found → next ≡ found ++ note operation
          → position ≡ length next → next_edge ≡ length next → after ≡ next ++ later → IsLeft (note (head_operation head)) (note (seal_operation head))
      faulted_left passed left more point operation seen found next (Unsealed all reads these left_is) walked is makes came next_is place edge whole =
          let same = next_seal reads more point operation these (sym left_is ∙ is) makes in
          inr (has_not_sealed opened by request head before after seen found (note (seal_operation head)) next later position next_edge
          (next_is ∙ ap (λ o. found ++ note o) same) place (edge ∙ sym place) apart whole
          (came_readings opened by request passed before seen all walked) came)
      faulted_left passed left more point operation seen found next (Sealed reads all passed_is left_is) walked is makes came next_is place edge whole =
          absurd (next_reads left more (head_point head ∷ []) point operation left_is is makes)
      faulted_left passed left more point operation seen found next (Ready reads all passed_is left_is) walked is makes came next_is place edge whole =
          let same = next_head left more point operation left_is is makes in
          inl (has_sealed opened by request head before after seen found (note (head_operation head)) next later position next_edge
          (next_is ∙ ap (λ o. found ++ note o) same) place (edge ∙ sym place) apart whole
          (behind_seal reads (ready_point head ∷ []) passed seen all (refl, tt) passed_is walked) came)
      faulted_left passed left more point operation seen found next (Whole reads all passed_is left_is) walked is makes came next_is place edge whole =
          absurd cc

      pub failed_left : (course passed left : List CallPoint) (seen next : List HistoryEntry) → Far head passed left → Walked passed seen
          → Ended course passed left seen (reply.Refused refusal.StoreFault) next → after ≡ next ++ later
          → IsLeft (note (head_operation head)) (note (seal_operation head))
      failed_left course passed left seen next far walked (Done _ found _ _ _ answers _ _ _) whole =
          absurd (answered_refused course (replay lake_rules opened found) refusal.StoreFault answers)
      failed_left course passed left seen next far walked (Stopped found _ hinders _ _) whole =
          absurd (hindered_other left found hinders)
      failed_left course passed left seen next far walked (Faulted point more operation found is makes came _ _ next_is place edge) whole =
          faulted_left passed left more point operation seen found next far walked is makes came next_is place edge whole
      failed_left course passed left seen next far walked (Broken _ _ _ _ _ _ owes _ _ _ _ _ _) whole =
          let none = owes_nothing head passed left far in
          absurd (cc (none, owes))

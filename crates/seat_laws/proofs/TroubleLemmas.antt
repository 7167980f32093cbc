-- Of which trouble a call is told whose seat is alone.
use Rattle.std.proofs.Common.{◌≡◌, ◌≢◌, ◌==◌, ℕ, Bool, true, false, List, [], ◌∷◌, ◌++◌, length, refl, ap, sym, ◌∙◌, append_assoc, subst}
use Rattle.std.specs.Prelude.{All, drop}
use Rattle.std.specs.List.{Contains}
use Rattle.std.proofs.lemmas.Bool.{and_parts, eqb-true}
use Rattle.std.proofs.lemmas.List.{append_cancel_left}
use Rattle.std.proofs.lemmas.List.Elements.{All-weaker, Contains-append_right}
use mathlib.Core.Logic.{inl, inr}
use Rattle.lake_values.proofs.OrderLemmas.{Contains-first}
use Rattle.call_placement.specs.Rules.{Caller}
use Rattle.call_placement.specs.Points.{is_own}
use Rattle.call_placement.specs.Served.{Broken, ByCause, ByLateCause, ByMemory, ByState, Done, Ends, Faulted, IsServed, Stopped}
use Rattle.call_placement.specs.Alone.{AreOwn}
use Rattle.call_placement.proofs.AloneLemmas.{all_front}
use Rattle.call_placement.proofs.PlacedLemmas.{given_front}
use Rattle.call_placement.proofs.WalkLemmas.{drop_front, further, passed_added}
use Rattle.lake_model.specs.History.{faulted_entry}
use Rattle.lake_model.specs.State.{State}
use Rattle.lake_model.specs.declared.history.HistoryEntry.{HistoryEntry}
use Rattle.lake_model.specs.declared.history.Operation.{Operation}
use Rattle.lake_calls.specs.CallExceptions.{CallMet, HasRisen, HasTriedEnough, IsException, IsReadException}
use Rattle.lake_calls.specs.Courses.{CallPoint, Answers, Finds, Fixed, Looks, Makes, Prepares, ResolvesParent, ResolvesSource, call_course}
use Rattle.lake_calls.specs.DoneReplies.{is_upload}
use Rattle.lake_calls.specs.LakeRules.{by_caller, lake_rules}
use Rattle.lake_calls.specs.Requests.{Asks, CallRequest}
use Rattle.lake_calls.specs.declared.call.Call.{Call}
use Rattle.lake_calls.specs.declared.call.Call.TheVariants.{Names, Objects, Heads, Settings}
use Rattle.lake_calls.specs.declared.call.SettingCall.TheVariants.{GetProtection, SetProtection, GetHooks, SetHooks}
use Rattle.lake_calls.specs.declared.heads.HeadCall.TheVariants as head
use Rattle.lake_calls.specs.declared.names.NamingCall.TheVariants as naming
use Rattle.lake_calls.specs.declared.objects.ObjectCall.TheVariants as object
use Rattle.lake_calls.specs.declared.objects.ReadCall.{ReadCall}
use Rattle.lake_calls.specs.declared.reply.CallReply.{CallReply}
use Rattle.lake_calls.specs.declared.reply.CallReply.TheVariants as reply
use Rattle.lake_calls.proofs.NothingMetLemmas.{never_tried}
use Rattle.lake_calls.proofs.RuleLemmas.{lawful}
use Rattle.seat_laws.specs.Troubles.{is_trouble, is_unread}
use Rattle.seat_laws.proofs.PlainLemmas.{point_plain}

-- ---- which calls look for an object

abbrev reads : Call → Bool
reads (Objects (object.Read c)) = true
reads call = false

reads_what : (call : Call) → reads call ≡ true → (c : ReadCall) × (call ≡ Objects (object.Read c))
reads_what (Objects (object.Read c)) is = (c, refl)
reads_what call is = absurd (cc (is))

abbrev finds : List CallPoint → Bool
finds [] = false
finds (Finds c ∷ points) = true
finds (point ∷ points) = finds points

finds_behind : (passed points : List CallPoint) (c : ReadCall) → finds (passed ++ Finds c ∷ points) ≡ true
finds_behind [] points c = refl
finds_behind (Answers ∷ passed) points c = finds_behind passed points c
finds_behind (Finds d ∷ passed) points c = refl
finds_behind (ResolvesSource id ∷ passed) points c = finds_behind passed points c
finds_behind (ResolvesParent a b m ∷ passed) points c = finds_behind passed points c
finds_behind (Looks r b ∷ passed) points c = finds_behind passed points c
finds_behind (Prepares r b k a ∷ passed) points c = finds_behind passed points c
finds_behind (Makes o ∷ passed) points c = finds_behind passed points c

course_finds : (call : Call) (moment : ℕ) (fixed : Fixed) → finds (call_course call moment fixed) ≡ reads call
course_finds (Names (naming.ListRepositories after amount)) moment fixed = refl
course_finds (Names (naming.CreateRepository c)) moment fixed = refl
course_finds (Names (naming.ListBranches c)) moment fixed = refl
course_finds (Names (naming.CreateBranch c)) moment fixed = refl
course_finds (Names (naming.GetBranch c)) moment fixed = refl
course_finds (Names (naming.DeleteBranch c)) moment fixed = refl
course_finds (Names (naming.ResetBranch c)) moment fixed = refl
course_finds (Names (naming.ListTags c)) moment fixed = refl
course_finds (Names (naming.CreateTag c)) moment fixed = refl
course_finds (Names (naming.GetTag c)) moment fixed = refl
course_finds (Names (naming.DeleteTag c)) moment fixed = refl
course_finds (Objects (object.Upload u)) moment fixed = refl
course_finds (Objects (object.Link c)) moment fixed = refl
course_finds (Objects (object.Delete c)) moment fixed = refl
course_finds (Objects (object.Copy c)) moment fixed = refl
course_finds (Objects (object.Read c)) moment fixed = refl
course_finds (Objects (object.Stat c)) moment fixed = refl
course_finds (Objects (object.List c)) moment fixed = refl
course_finds (Heads (head.Commit c)) moment fixed = refl
course_finds (Heads (head.Merge c)) moment fixed = refl
course_finds (Heads (head.Revert c)) moment fixed = refl
course_finds (Heads (head.CherryPick c)) moment fixed = refl
course_finds (Heads (head.Log c)) moment fixed = refl
course_finds (Heads (head.GetCommit repo id)) moment fixed = refl
course_finds (Settings (GetProtection repo)) moment fixed = refl
course_finds (Settings (SetProtection repo protection)) moment fixed = refl
course_finds (Settings (GetHooks repo)) moment fixed = refl
course_finds (Settings (SetHooks repo hooks)) moment fixed = refl

-- ---- own entries

own_seat : (by : Caller) (entry : HistoryEntry) → is_own lake_rules by entry ≡ true → entry.by.seat ≡ by.seat
own_seat by entry own = eqb-true entry.by.seat by.seat (and_parts (entry.by.seat == by.seat) (entry.by.call == by.call) own).0

module _ (call : Call) (moment : ℕ) (opened : State) (by : Caller) (before added : List HistoryEntry) (met : CallMet) (told : CallReply)
    (own : AreOwn lake_rules by added) (memory : told ≢ reply.NoMemory)
    (unnoted : (operation : Operation) → Contains added (faulted_entry (by_caller by) operation) → ⊥)
    (calm : HasRisen met.block_faults → ⊥)
    (had : (c : ReadCall) → call ≡ Objects (object.Read c) → is_unread told ≡ false) where
  abbrev request : CallRequest
  request = record { asked = Asks call; moment = moment }

  -- what is found behind what was seen is the call's own
  module _ (front rest found : List HistoryEntry) (is : found ≡ before ++ front) (whole : before ++ added ≡ found ++ rest) where
    split : added ≡ front ++ rest
    split = append_cancel_left before added (front ++ rest) (whole ∙ (ap (λ w. w ++ rest) is ∙ append_assoc before front rest))

    of_seat : All (λ (e : HistoryEntry). e.by.seat ≡ by.seat) (drop (length before) found)
    of_seat =
        subst (All (λ (e : HistoryEntry). e.by.seat ≡ by.seat)) (sym (drop_front before front found is))
        (All-weaker (λ (e : HistoryEntry). is_own lake_rules by e ≡ true) (λ (e : HistoryEntry). e.by.seat ≡ by.seat) (own_seat by) front
        (all_front (λ (e : HistoryEntry). is_own lake_rules by e ≡ true) front rest (subst (AreOwn lake_rules by) split own)))

    not_tried : (left : List CallPoint) → HasTriedEnough by.seat left met (length before) found → ⊥
    not_tried left tried = never_tried by.seat left met (length before) found of_seat tried

    unread : is_unread told ≡ true → (c : ReadCall) → call ≡ Objects (object.Read c) → ⊥
    unread is c reads = let never = sym is ∙ had c reads in absurd (cc (never))

    not_read : (c d : ReadCall) → call ≡ Objects (object.Read d) → IsReadException c met opened (length before) found told → ⊥
    not_read c d reads (inl is) = unread (ap is_unread is.1) d reads
    not_read c d reads (inr (inl is)) = calm is.0
    not_read c d reads (inr (inr (inl is))) = unread (ap is_unread is.1) d reads
    not_read c d reads (inr (inr (inr is))) = unread (ap is_unread is.1) d reads

    not_caused : (fixed : Fixed) (passed left : List CallPoint) → call_course call moment fixed ≡ passed ++ left
        → IsException by.seat (is_upload call) left met opened (length before) found told → ⊥
    not_caused fixed passed [] course (inl is) = not_tried [] is.0
    not_caused fixed passed [] course (inr is) = calm is.0.counted
    not_caused fixed passed (Finds c ∷ points) course is =
        let some = reads_what call (sym (course_finds call moment fixed) ∙ (ap finds course ∙ finds_behind passed points c)) in
        not_read c some.0 some.1 is
    not_caused fixed passed (Answers ∷ points) course (inl is) = not_tried _ is.0
    not_caused fixed passed (Answers ∷ points) course (inr is) = calm is.0.counted
    not_caused fixed passed (ResolvesSource id ∷ points) course (inl is) = not_tried _ is.0
    not_caused fixed passed (ResolvesSource id ∷ points) course (inr is) = calm is.0.counted
    not_caused fixed passed (ResolvesParent a b m ∷ points) course (inl is) = not_tried _ is.0
    not_caused fixed passed (ResolvesParent a b m ∷ points) course (inr is) = calm is.0.counted
    not_caused fixed passed (Looks r b ∷ points) course (inl is) = not_tried _ is.0
    not_caused fixed passed (Looks r b ∷ points) course (inr is) = calm is.0.counted
    not_caused fixed passed (Prepares r b k a ∷ points) course (inl is) = not_tried _ is.0
    not_caused fixed passed (Prepares r b k a ∷ points) course (inr is) = calm is.0.counted
    not_caused fixed passed (Makes o ∷ points) course (inl is) = not_tried _ is.0
    not_caused fixed passed (Makes o ∷ points) course (inr is) = calm is.0.counted

  -- no note stands in what was added
  not_noted : (operation : Operation) (front found next rest : List HistoryEntry) → found ≡ before ++ front
      → next ≡ found ++ faulted_entry (by_caller by) operation ∷ [] → before ++ added ≡ next ++ rest → ⊥
  not_noted operation front found next rest is noted whole =
      let entry = faulted_entry (by_caller by) operation in
      let all : before ++ added ≡ found ++ entry ∷ rest = whole ∙ (ap (λ w. w ++ rest) noted ∙ append_assoc found (entry ∷ []) rest) in
      unnoted operation (subst (λ w. Contains w entry) (sym (split front (entry ∷ rest) found is all))
      (Contains-append_right front (entry ∷ rest) entry (Contains-first entry rest)))

  calm_end : (fixed : Fixed) (passed left : List CallPoint) (seen front : List HistoryEntry) (position edge : ℕ) (next rest : List HistoryEntry)
      → call_course call moment fixed ≡ passed ++ left → seen ≡ before ++ front
      → Ends lake_rules opened by request met (length before) (call_course call moment fixed) passed left seen told position edge next
      → before ++ added ≡ next ++ rest → is_trouble told ≡ false
  calm_end fixed passed left seen front position edge next rest course seen_is (Done last found left_is came passes answers is at edge_is) whole =
      ap is_trouble answers.4
  calm_end fixed passed left seen front position edge next rest course seen_is (Stopped found came (ByState point later left_is refuses) at up) whole =
      point_plain call point _ told refuses
  calm_end fixed passed left seen front position edge next rest course seen_is (Stopped found came (ByCause some cause) at up) whole =
      let given = given_front lake_rules opened by (lake_rules.owed request passed) told edge found next up in
      absurd (not_caused (front ++ came.0) (given.0 ++ rest) found (further before seen front came.0 found came.2 seen_is)
      (further found next given.0 rest (before ++ added) whole given.1) fixed passed left course cause)
  calm_end fixed passed left seen front position edge next rest course seen_is (Stopped found came (ByLateCause none cause) at up) whole = absurd cause
  calm_end fixed passed left seen front position edge next rest course seen_is (Stopped found came (ByMemory want) at up) whole = absurd (memory want)
  calm_end fixed passed left seen front position edge next rest course seen_is
      (Faulted point later operation found left_is makes came passes fails is at edge_is) whole =
      absurd (not_noted operation (front ++ came.0) found next rest (further before seen front came.0 found came.2 seen_is) is whole)
  calm_end fixed passed left seen front position edge next rest course seen_is
      (Broken refusal operation hindered found first hinders owes came takes fails is at edge_is) whole =
      absurd (not_noted operation (front ++ (first.0 ++ came.0)) found next rest
      (further before seen front (first.0 ++ came.0) found (further seen hindered first.0 came.0 found came.2 first.2) seen_is) is whole)

-- A CALL WHOSE SEAT IS ALONE IS TOLD OF NO TROUBLE, where there was none
pub none_told : (call : Call) (moment : ℕ) (opened : State) (by : Caller) (before added : List HistoryEntry) (met : CallMet) (told : CallReply)
    (position edge : ℕ)
    → IsServed lake_rules opened by before (before ++ added) (record { asked = Asks call; moment = moment }) met told position edge
    → AreOwn lake_rules by added → told ≢ reply.NoMemory
    → ((operation : Operation) → Contains added (faulted_entry (by_caller by) operation) → ⊥)
    → (HasRisen met.block_faults → ⊥)
    → ((c : ReadCall) → call ≡ Objects (object.Read c) → is_unread told ≡ false) → is_trouble told ≡ false
none_told call moment opened by before added met told position edge s own memory unnoted calm had =
    let a = passed_added lake_rules lawful opened by (record { asked = Asks call; moment = moment }) s.passed before s.seen s.points in
    calm_end call moment opened by before added met told own memory unnoted calm had s.fixed s.passed s.left s.seen a.0 position edge s.next s.later
    s.course a.1 s.ended s.whole

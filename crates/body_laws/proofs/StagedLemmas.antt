-- A call stages no own objects but those that it uploads.
use Rattle.std.proofs.Common.{◌≡◌, ℕ, true, List, [], ◌∷◌, ◌++◌, Option, Some, refl, sym, ap, subst, ◌∙◌, append_assoc}
use Rattle.std.specs.Prelude.{All}
use Rattle.std.proofs.lemmas.List.{append-nil, append_cancel_left}
use Rattle.std.proofs.lemmas.List.Elements.{All-append, All-cons, All-head, All-nil, All-tail}
use Rattle.lake_values.specs.Body.{Fits}
use Rattle.lake_values.specs.Entry.{EntryValue}
use Rattle.lake_values.specs.declared.entry.Change.TheVariants.{Put, Delete}
use Rattle.lake_values.proofs.OrderLemmas.{Contains-first, Contains-later}
use Rattle.lake_model.specs.declared.history.EntryKind.{EntryKind}
use Rattle.lake_model.specs.declared.history.EntryKind.TheVariants.{Accepted, Faulted}
use Rattle.lake_model.specs.declared.history.HistoryEntry.{HistoryEntry}
use Rattle.lake_model.specs.declared.history.Operation.{Operation}
use Rattle.lake_model.specs.declared.history.Operation.TheVariants.{TicketTake, TicketDrop, Stage}
use Rattle.lake_model.specs.State.{State}
use Rattle.lake_laws.specs.LiveNumbers.{KindStages}
use Rattle.call_placement.specs.Alone.{AreOwn}
use Rattle.call_placement.specs.Points.{AreOfOtherCalls, Came, HavePassed, is_own, made}
use Rattle.call_placement.specs.Rules.{Caller}
use Rattle.call_placement.specs.Served.{Broken, Done, Ends, Faulted as FaultedAt, GivesUp, GivenUp, IsServed, Keeps, OwesNothing, Shut, Stopped}
use Rattle.call_placement.proofs.WalkLemmas.{others_apart}
use Rattle.lake_calls.specs.CallExceptions.{CallMet, number_at}
use Rattle.lake_calls.specs.Calls.{UploadCall}
use Rattle.lake_calls.specs.Courses.{CallPoint, Answers, Finds, ResolvesSource, ResolvesParent, Looks, Prepares, Makes, Fixed, upload_entry}
use Rattle.lake_calls.specs.DoneReplies.{owed_behind}
use Rattle.lake_calls.specs.HeldBodies.{HoldsBody}
use Rattle.lake_calls.specs.LakeRules.{asked_course, lake_rules}
use Rattle.lake_calls.specs.Requests.{Asked, Asks, CallRequest, Malformed}
use Rattle.lake_calls.specs.declared.call.Call.TheVariants.{Names, Objects, Heads, Settings}
use Rattle.lake_calls.specs.declared.call.SettingCall.TheVariants.{GetProtection, SetProtection, GetHooks, SetHooks}
use Rattle.lake_calls.specs.declared.heads.HeadCall.TheVariants as head
use Rattle.lake_calls.specs.declared.names.NamingCall.TheVariants as naming
use Rattle.lake_calls.specs.declared.objects.ObjectCall.TheVariants as object
use Rattle.lake_calls.specs.declared.reply.CallReply.{CallReply}
use Rattle.body_laws.specs.BodyChanges.{Bodies, HoldsUploads, KindHolds, StagesHeld}
use Rattle.body_laws.proofs.FitLemmas.{same_number}

-- ---- what a call stages

module _ (asked : Asked) (moment : ℕ) where
  -- an entry of an own object is that of the body that is uploaded
  abbrev Uploads : EntryValue → Type 0
  Uploads entry = (number : ℕ) → number_at entry.place ≡ Some number
      → (u : UploadCall) × (asked ≡ Asks (Objects (object.Upload u))) × (entry ≡ upload_entry u moment number)

  abbrev OperationUploads : Operation → Type 0
  OperationUploads (Stage repo branch path (Put entry)) = Uploads entry
  OperationUploads operation = Unit {0}

  abbrev KindUploads : EntryKind → Type 0
  KindUploads (Accepted operation) = OperationUploads operation
  KindUploads (Faulted operation) = Unit {0}

  abbrev PointUploads : CallPoint → Type 0
  PointUploads (Makes operation) = OperationUploads operation
  PointUploads point = Unit {0}

  abbrev Each : List CallPoint → Type 0
  Each [] = Unit {0}
  Each (point ∷ points) = PointUploads point × Each points

  each_front : (front back : List CallPoint) → Each (front ++ back) → Each front
  each_front [] back each = tt
  each_front (point ∷ front) back each = (each.0, each_front front back each.1)

  each_back : (front back : List CallPoint) → Each (front ++ back) → Each back
  each_back [] back each = each
  each_back (point ∷ front) back each = each_back front back each.1

  -- what a stopped call gives up is no object
  owed_uploads : (passed : List CallPoint) (operation : Operation) → owed_behind passed ≡ Some operation → OperationUploads operation
  owed_uploads (Makes (TicketTake repo branch number) ∷ []) operation is =
      let same : TicketDrop number ≡ operation = cc (is) in subst OperationUploads same tt
  owed_uploads (Makes (TicketTake repo branch number) ∷ Looks other name ∷ []) operation is =
      let same : TicketDrop number ≡ operation = cc (is) in subst OperationUploads same tt
  owed_uploads passed operation is = absurd cc

own_upload : (u : UploadCall) (moment given : ℕ) → Uploads (Asks (Objects (object.Upload u))) moment (upload_entry u moment given)
own_upload u moment given number is = let same : given ≡ number = cc (is) in (u, refl, ap (upload_entry u moment) same)

-- each point of each course
course_uploads : (asked : Asked) (moment : ℕ) (fixed : Fixed) → Each asked moment (asked_course asked moment fixed)
course_uploads (Asks (Names (naming.ListRepositories after amount))) moment fixed = (tt, tt)
course_uploads (Asks (Names (naming.CreateRepository c))) moment fixed = (tt, tt)
course_uploads (Asks (Names (naming.ListBranches c))) moment fixed = (tt, tt)
course_uploads (Asks (Names (naming.CreateBranch c))) moment fixed = (tt, tt)
course_uploads (Asks (Names (naming.GetBranch c))) moment fixed = (tt, tt)
course_uploads (Asks (Names (naming.DeleteBranch c))) moment fixed = (tt, tt)
course_uploads (Asks (Names (naming.ResetBranch c))) moment fixed = (tt, tt)
course_uploads (Asks (Names (naming.ListTags c))) moment fixed = (tt, tt)
course_uploads (Asks (Names (naming.CreateTag c))) moment fixed = (tt, tt)
course_uploads (Asks (Names (naming.GetTag c))) moment fixed = (tt, tt)
course_uploads (Asks (Names (naming.DeleteTag c))) moment fixed = (tt, tt)
course_uploads (Asks (Objects (object.Upload u))) moment fixed = (tt, (tt, (own_upload u moment fixed.number, tt)))
course_uploads (Asks (Objects (object.Link c))) moment fixed = (tt, ((λ number is. absurd cc), tt))
course_uploads (Asks (Objects (object.Delete c))) moment fixed = (tt, (tt, tt))
course_uploads (Asks (Objects (object.Copy c))) moment fixed = (tt, (tt, tt))
course_uploads (Asks (Objects (object.Read c))) moment fixed = (tt, tt)
course_uploads (Asks (Objects (object.Stat c))) moment fixed = (tt, tt)
course_uploads (Asks (Objects (object.List c))) moment fixed = (tt, tt)
course_uploads (Asks (Heads (head.Commit c))) moment fixed = (tt, (tt, (tt, tt)))
course_uploads (Asks (Heads (head.Merge c))) moment fixed = (tt, (tt, (tt, (tt, tt))))
course_uploads (Asks (Heads (head.Revert c))) moment fixed = (tt, (tt, (tt, (tt, tt))))
course_uploads (Asks (Heads (head.CherryPick c))) moment fixed = (tt, (tt, (tt, (tt, tt))))
course_uploads (Asks (Heads (head.Log c))) moment fixed = (tt, tt)
course_uploads (Asks (Heads (head.GetCommit repo id))) moment fixed = (tt, tt)
course_uploads (Asks (Settings (GetProtection repo))) moment fixed = (tt, tt)
course_uploads (Asks (Settings (SetProtection repo protection))) moment fixed = (tt, tt)
course_uploads (Asks (Settings (GetHooks repo))) moment fixed = (tt, tt)
course_uploads (Asks (Settings (SetHooks repo hooks))) moment fixed = (tt, tt)
course_uploads (Malformed refused) moment fixed = tt

-- ---- what came of it

module _ (by : Caller) (request : CallRequest) where
  -- an own entry stages no own object but one that is uploaded
  abbrev Good : HistoryEntry → Type 0
  Good entry = is_own lake_rules by entry ≡ true → KindUploads request.asked request.moment entry.kind

  abbrev Adds : (from next : List HistoryEntry) → Type 0
  Adds from next = (added : List HistoryEntry) × (next ≡ from ++ added) × All Good added

  adds_none : (from : List HistoryEntry) → Adds from from
  adds_none from = ([], sym (append-nil from), All-nil Good)

  adds_more : (from now next : List HistoryEntry) → Adds from now → Adds now next → Adds from next
  adds_more from now next one two = (
    one.0 ++ two.0,
    two.1 ∙ ap (λ w. w ++ two.0) one.1 ∙ append_assoc from one.0 two.0,
    All-append Good one.0 two.0 one.2 two.2,
  )

  apart_good : (xs : List HistoryEntry) → AreOfOtherCalls lake_rules by xs → All Good xs
  apart_good xs apart k d within own = absurd (let other = apart k d within in cc (other, own))

  adds_came : (from next : List HistoryEntry) → Came lake_rules by from next → Adds from next
  adds_came from next came = (came.0, came.2, apart_good came.0 (others_apart lake_rules by came.0 came.1))

  adds_entry : (from next : List HistoryEntry) (entry : HistoryEntry) → KindUploads request.asked request.moment entry.kind → next ≡ from ++ entry ∷ []
      → Adds from next
  adds_entry from next entry uploads is = (entry ∷ [], is, All-cons Good entry [] (λ own. uploads) (All-nil Good))

  adds_point : (point : CallPoint) (from next : List HistoryEntry) → PointUploads request.asked request.moment point
      → next ≡ from ++ made lake_rules by (lake_rules.makes point) → Adds from next
  adds_point (Makes operation) from next uploads is = adds_entry from next (lake_rules.accepted by operation) uploads is
  adds_point Answers from next uploads is = ([], is, All-nil Good)
  adds_point (Finds c) from next uploads is = ([], is, All-nil Good)
  adds_point (ResolvesSource commit) from next uploads is = ([], is, All-nil Good)
  adds_point (ResolvesParent commit parent message) from next uploads is = ([], is, All-nil Good)
  adds_point (Looks repo branch) from next uploads is = ([], is, All-nil Good)
  adds_point (Prepares repo branch kind about) from next uploads is = ([], is, All-nil Good)

  module _ (opened : State) where
    adds_points : (points : List CallPoint) (from next : List HistoryEntry) → Each request.asked request.moment points
        → HavePassed lake_rules opened by request points from next → Adds from next
    adds_points [] from next each passed = subst (Adds from) (sym passed) (adds_none from)
    adds_points (point ∷ points) from next each passed =
        let step = passed.1 in
        adds_more from passed.0 next
        (adds_more from step.0 passed.0 (adds_came from step.0 step.1) (adds_point point step.0 passed.0 each.0 step.3))
        (adds_points points passed.0 next each.1 passed.2)

    adds_given : (owed : Option Operation) (told : CallReply) (found next : List HistoryEntry) (edge : ℕ)
        → ((operation : Operation) → owed ≡ Some operation → OperationUploads request.asked request.moment operation)
        → GivesUp lake_rules opened by owed told found next edge → Adds found next
    adds_given owed told found next edge kind (OwesNothing none same at) = subst (Adds found) (sym same) (adds_none found)
    adds_given owed told found next edge kind (GivenUp operation seen is came unshut stands at) =
        adds_more found seen next (adds_came found seen came) (adds_entry seen next (lake_rules.accepted by operation) (kind operation is) stands)
    adds_given owed told found next edge kind (Shut came shut at) = adds_came found next came
    adds_given owed told found next edge kind (Keeps memory same at) = subst (Adds found) (sym same) (adds_none found)

    adds_end : (met : CallMet) (start : ℕ) (course passed left : List CallPoint) (seen : List HistoryEntry) (told : CallReply) (position edge : ℕ)
        (next : List HistoryEntry) → Each request.asked request.moment left
        → Ends lake_rules opened by request met start course passed left seen told position edge next → Adds seen next
    adds_end met start course passed left seen told position edge next each (Done last found is came passes answers stands at ends) =
        adds_more seen found next (adds_came seen found came)
        (adds_point last found next (subst (Each request.asked request.moment) is each).0 stands)
    adds_end met start course passed left seen told position edge next each (Stopped found came hinders at gives) =
        adds_more seen found next (adds_came seen found came)
        (adds_given (lake_rules.owed request passed) told found next edge (owed_uploads request.asked request.moment passed) gives)
    adds_end met start course passed left seen told position edge next each (FaultedAt point later operation found is makes came passes fault stands at ends) =
        adds_more seen found next (adds_came seen found came) (adds_entry found next (lake_rules.faulted by operation) tt stands)
    adds_end met start course passed left seen told position edge next each
        (Broken refusal operation hindered found first hinders owed came unshut fault stands at ends) =
        adds_more seen found next
        (adds_more seen hindered found (adds_came seen hindered first) (adds_came hindered found came))
        (adds_entry found next (lake_rules.faulted by operation) tt stands)

    adds_served : (before after : List HistoryEntry) (met : CallMet) (told : CallReply) (position edge : ℕ)
        → IsServed lake_rules opened by before after request met told position edge → Adds before after
    adds_served before after met told position edge served =
        let each = subst (Each request.asked request.moment) served.course (course_uploads request.asked request.moment served.fixed) in
        adds_more before served.next after
        (adds_more before served.seen served.next
        (adds_points served.passed before served.seen (each_front request.asked request.moment served.passed served.left each) served.points)
        (adds_end met _ _ served.passed served.left served.seen told position edge served.next
        (each_back request.asked request.moment served.passed served.left each) served.ended))
        (served.later, served.whole, apart_good served.later served.apart)

  -- ---- bodies

  module _ (now : Bodies) where
    -- the body of an entry that is uploaded fits it
    holds_upload : (entry : EntryValue) → Uploads request.asked request.moment entry
        → ((u : UploadCall) (number : ℕ) → request.asked ≡ Asks (Objects (object.Upload u)) → number_at entry.place ≡ Some number
        → now number ≡ Some u.body)
        → HoldsBody now entry
    holds_upload entry uploads held number own =
        let one = uploads number own in (
          one.0.body,
          held one.0 number one.1 own,
          subst (λ e. Fits e one.0.body) (sym one.2) (record { size = refl; digest = refl }),
        )

    holds_kind : (kind : EntryKind) → KindUploads request.asked request.moment kind
        → ((u : UploadCall) (number : ℕ) → request.asked ≡ Asks (Objects (object.Upload u)) → KindStages number kind
        → now number ≡ Some u.body)
        → KindHolds now kind
    holds_kind (Accepted (Stage repo branch path (Put entry))) uploads held =
        holds_upload entry uploads (λ u number asked own. held u number asked (same_number entry.place number own))
    holds_kind (Accepted (Stage repo branch path Delete)) uploads held = tt
    holds_kind (Accepted operation) uploads held = tt
    holds_kind (Faulted operation) uploads held = tt

    pub all_held : (added : List HistoryEntry) → All Good added → AreOwn lake_rules by added → HoldsUploads request added now → All (StagesHeld now) added
    all_held [] good own holds = All-nil (StagesHeld now)
    all_held (entry ∷ added) good own holds =
        All-cons (StagesHeld now) entry added
        (holds_kind entry.kind
        (All-head Good entry added good (All-head (λ (e : HistoryEntry). is_own lake_rules by e ≡ true) entry added own))
        (λ u number asked stages. holds u number asked (record { entry = entry; among = Contains-first entry added; stages = stages })))
        (all_held added (All-tail Good entry added good) (All-tail (λ (e : HistoryEntry). is_own lake_rules by e ≡ true) entry added own)
        (λ u number asked staged. holds u number asked
        (record { entry = staged.entry; among = Contains-later entry staged.entry added staged.among; stages = staged.stages })))

pub staged_held : (opened : State) (by : Caller) (before after added : List HistoryEntry) (request : CallRequest) (met : CallMet) (told : CallReply)
    (position edge : ℕ) (now : Bodies) → IsServed lake_rules opened by before after request met told position edge
    → after ≡ before ++ added → AreOwn lake_rules by added → HoldsUploads request added now → All (StagesHeld now) added
staged_held opened by before after added request met told position edge now served is own holds =
    let adds = adds_served by request opened before after met told position edge served in
    let same : adds.0 ≡ added = append_cancel_left before adds.0 added (sym adds.1 ∙ is) in
    all_held by request now added (subst (All (Good by request)) same adds.2) own holds

-- No call lets a commit expire.
use Rattle.std.proofs.Common.{◌≡◌, ℕ, Bool, true, false, cond, List, [], ◌∷◌, ◌++◌, refl, ap, sym, ◌∙◌, subst}
use Rattle.std.specs.Prelude.{All, Option, Some, None, is_some, option_map}
use Rattle.std.specs.List.{filter}
use Rattle.std.specs.Option.{option_map_or, option_or}
use mathlib.Core.Logic.{inl, inr}
use Rattle.std.specs.FinMap.{get, get-empty}
use Rattle.std.proofs.lemmas.List.Elements.{All-append, All-cons, All-head, All-nil, All-tail}
use Rattle.lake_base.specs.Maps.{byte_order}
use Rattle.lake_base.specs.declared.digest.Digest.{Digest}
use Rattle.lake_format.specs.declared.cut.Cut.{Cut}
use Rattle.call_placement.specs.Rules.{Caller}
use Rattle.call_placement.specs.Points.{entries_of, is_own, made}
use Rattle.call_placement.specs.Alone.{AreOwn}
use Rattle.call_placement.specs.Placed.{IsOneMore, IsPlaced, own_entries}
use Rattle.call_placement.specs.Sessions.{Item}
use Rattle.call_placement.proofs.EntryLemmas.{one_more}
use Rattle.call_placement.proofs.WalkLemmas.{drop_front}
use Rattle.lake_model.specs.declared.history.EntryKind.{EntryKind}
use Rattle.lake_model.specs.declared.history.EntryKind.TheVariants.{Accepted, Faulted}
use Rattle.lake_model.specs.declared.history.HistoryEntry.{HistoryEntry}
use Rattle.lake_model.specs.declared.history.Operation.{Operation}
use Rattle.lake_model.specs.declared.history.Operation.TheVariants.{Commit, Expire, Merge, Pick, RepoCreate, TicketTake}
use Rattle.lake_model.specs.Commits.{Draft, commit_draft, draft_on, merge_draft, new_repository, pick_draft, with_draft}
use Rattle.lake_model.specs.History.{after, after_kind, after_operation, replay}
use Rattle.lake_model.specs.State.{Branch, Repository, State, is_expired}
use Rattle.lake_laws.proofs.OperationLemmas.{change_of, changed_by, get_after, kept_if, made_repository, touches}
use Rattle.lake_laws.proofs.PartsLemmas.{ties}
use Rattle.lake_calls.specs.CallExceptions.{CallMet}
use Rattle.lake_calls.specs.Courses.{CallPoint, Fixed, Looks, Makes, call_course, made_by}
use Rattle.lake_calls.specs.DoneReplies.{owed_behind}
use Rattle.lake_calls.specs.LakeRules.{lake_rules}
use Rattle.lake_calls.specs.Requests.{Asks, CallRequest}
use Rattle.lake_calls.specs.declared.call.Call.{Call}
use Rattle.lake_calls.specs.declared.call.Call.TheVariants.{Names, Objects, Heads, Settings}
use Rattle.lake_calls.specs.declared.call.SettingCall.TheVariants.{GetProtection, SetProtection, GetHooks, SetHooks}
use Rattle.lake_calls.specs.declared.heads.HeadCall.TheVariants as head
use Rattle.lake_calls.specs.declared.names.NamingCall.TheVariants as naming
use Rattle.lake_calls.specs.declared.objects.ObjectCall.TheVariants as object
use Rattle.lake_calls.specs.declared.reply.CallReply.{CallReply}
use Rattle.seat_laws.specs.Expiries.{HasNoneExpired, NoneExpires, expires, is_expiry}

-- ---- operations

-- no commit of a repository is expired
abbrev NoneIn : Repository → Type 0
NoneIn r = (id : Digest) → is_expired r id ≡ false

drafted : (cut : Cut) (branch : List ℕ) (draft : Repository → Branch → Draft) (r : Repository) → NoneIn r → NoneIn (draft_on cut branch draft r)
drafted cut branch draft r none = by_branch (get r.branches branch)
  where
    by_branch : (b : Option Branch) → NoneIn (option_map_or (λ b. with_draft cut branch (draft r b) r) b r)
    by_branch None = none
    by_branch (Some b) = none

unexpired : (cut : Cut) (q : List ℕ) (operation : Operation) (r : Repository) → expires operation ≡ false → NoneIn r → NoneIn (change_of cut operation q r)
unexpired cut q (Commit repo branch about) r is none = drafted cut branch (λ r b. commit_draft r b about) r none
unexpired cut q (Merge repo branch source strategy about) r is none = drafted cut branch (merge_draft source strategy about) r none
unexpired cut q (Pick repo branch base source strategy about) r is none = drafted cut branch (pick_draft base source strategy about) r none
unexpired cut q (Expire now commits) r is none = absurd (cc (is))
unexpired cut q operation r is none = none

-- what holds of a repository where one stands
abbrev Holds : Option Repository → Type 0
Holds o = (r : Repository) → o ≡ Some r → NoneIn r

of_none : Holds None
of_none r is = absurd (cc (is))

of_some : (r : Repository) → NoneIn r → Holds (Some r)
of_some r none other is = let same : r ≡ other = cc (is) in subst NoneIn same none

made_none : (cut : Cut) (operation : Operation) (q : List ℕ) → Holds (made_repository cut operation q)
made_none cut (RepoCreate repo branch date) q = by_tie (ties q repo)
  where
    by_tie : (tie : Bool) → Holds (cond tie (Some (new_repository cut date branch)) None)
    by_tie true = of_some (new_repository cut date branch) (λ id. ap is_some (get-empty byte_order id.0))
    by_tie false = of_none
made_none cut operation q = of_none

mapped : (change : Repository → Repository) (o : Option Repository) → ((r : Repository) → NoneIn r → NoneIn (change r)) → Holds o → Holds (option_map change o)
mapped change None keeps holds = of_none
mapped change (Some r) keeps holds = of_some (change r) (keeps r (holds r refl))

either : (a b : Option Repository) → Holds a → Holds b → Holds (option_or a b)
either None b one two = two
either (Some r) b one two = one

operation_kept : (state : State) (seat : ℕ) (operation : Operation) → expires operation ≡ false → HasNoneExpired state
    → HasNoneExpired (after_operation seat operation state)
operation_kept state seat operation is none q r id there =
    let stood : Holds (get state.repositories q) = λ old at some. none q old some at in
    let holds = either (made_repository state.cut operation q) _ (made_none state.cut operation q)
    (mapped (changed_by state.cut operation q) (get state.repositories q)
    (λ old kept. kept_if NoneIn (touches operation q) (change_of state.cut operation q) old (λ tie. unexpired state.cut q operation old is kept) kept) stood) in
    holds r (sym (get_after state seat operation q) ∙ there) id

kind_kept : (state : State) (seat : ℕ) (kind : EntryKind) → is_expiry kind ≡ false → HasNoneExpired state → HasNoneExpired (after_kind seat kind state)
kind_kept state seat (Accepted operation) is none = operation_kept state seat operation is none
kind_kept state seat (Faulted operation) is none = none

pub replay_kept : (state : State) (entries : List HistoryEntry) → NoneExpires entries → HasNoneExpired state
    → HasNoneExpired (replay state entries)
replay_kept state [] none kept = kept
replay_kept state (entry ∷ entries) none kept =
    replay_kept (after state entry) entries (All-tail (λ (e : HistoryEntry). is_expiry e.kind ≡ false) entry entries none)
    (kind_kept state entry.by.seat entry.kind (All-head (λ (e : HistoryEntry). is_expiry e.kind ≡ false) entry entries none) kept)

-- ---- courses

abbrev expires_by : Option Operation → Bool
expires_by None = false
expires_by (Some operation) = expires operation

-- points of which none lets commits expire
abbrev ExpireNone : List CallPoint → Type 0
ExpireNone [] = Unit {0}
ExpireNone (point ∷ points) = (expires_by (made_by point) ≡ false) × ExpireNone points

course_expires_none : (call : Call) (moment : ℕ) (fixed : Fixed) → ExpireNone (call_course call moment fixed)
course_expires_none (Names (naming.ListRepositories after amount)) moment fixed = (refl, tt)
course_expires_none (Names (naming.CreateRepository c)) moment fixed = (refl, tt)
course_expires_none (Names (naming.ListBranches c)) moment fixed = (refl, tt)
course_expires_none (Names (naming.CreateBranch c)) moment fixed = (refl, tt)
course_expires_none (Names (naming.GetBranch c)) moment fixed = (refl, tt)
course_expires_none (Names (naming.DeleteBranch c)) moment fixed = (refl, tt)
course_expires_none (Names (naming.ResetBranch c)) moment fixed = (refl, tt)
course_expires_none (Names (naming.ListTags c)) moment fixed = (refl, tt)
course_expires_none (Names (naming.CreateTag c)) moment fixed = (refl, tt)
course_expires_none (Names (naming.GetTag c)) moment fixed = (refl, tt)
course_expires_none (Names (naming.DeleteTag c)) moment fixed = (refl, tt)
course_expires_none (Objects (object.Upload u)) moment fixed = (refl, (refl, (refl, tt)))
course_expires_none (Objects (object.Link c)) moment fixed = (refl, (refl, tt))
course_expires_none (Objects (object.Delete c)) moment fixed = (refl, (refl, tt))
course_expires_none (Objects (object.Copy c)) moment fixed = (refl, (refl, tt))
course_expires_none (Objects (object.Read c)) moment fixed = (refl, tt)
course_expires_none (Objects (object.Stat c)) moment fixed = (refl, tt)
course_expires_none (Objects (object.List c)) moment fixed = (refl, tt)
course_expires_none (Heads (head.Commit c)) moment fixed = (refl, (refl, (refl, tt)))
course_expires_none (Heads (head.Merge c)) moment fixed = (refl, (refl, (refl, (refl, tt))))
course_expires_none (Heads (head.Revert c)) moment fixed = (refl, (refl, (refl, (refl, tt))))
course_expires_none (Heads (head.CherryPick c)) moment fixed = (refl, (refl, (refl, (refl, tt))))
course_expires_none (Heads (head.Log c)) moment fixed = (refl, tt)
course_expires_none (Heads (head.GetCommit repo id)) moment fixed = (refl, tt)
course_expires_none (Settings (GetProtection repo)) moment fixed = (refl, tt)
course_expires_none (Settings (SetProtection repo protection)) moment fixed = (refl, tt)
course_expires_none (Settings (GetHooks repo)) moment fixed = (refl, tt)
course_expires_none (Settings (SetHooks repo hooks)) moment fixed = (refl, tt)

front_of : (passed left : List CallPoint) → ExpireNone (passed ++ left) → ExpireNone passed × ExpireNone left
front_of [] left none = (tt, none)
front_of (point ∷ passed) left none = let rest = front_of passed left none.1 in ((none.0, rest.0), rest.1)

owed_expires_none : (passed : List CallPoint) → expires_by (owed_behind passed) ≡ false
owed_expires_none (Makes (TicketTake repo branch number) ∷ []) = refl
owed_expires_none (Makes (TicketTake repo branch number) ∷ Looks _ _ ∷ []) = refl
owed_expires_none passed = refl

-- ---- entries

made_expires : (by : Caller) (o : Option Operation) → expires_by o ≡ false → NoneExpires (made lake_rules by o)
made_expires by None is = All-nil (λ (e : HistoryEntry). is_expiry e.kind ≡ false)
made_expires by (Some operation) is =
    All-cons (λ (e : HistoryEntry). is_expiry e.kind ≡ false) (lake_rules.accepted by operation) [] is
    (All-nil (λ (e : HistoryEntry). is_expiry e.kind ≡ false))

entries_expire : (by : Caller) (points : List CallPoint) → ExpireNone points → NoneExpires (entries_of lake_rules by points)
entries_expire by [] none = All-nil (λ (e : HistoryEntry). is_expiry e.kind ≡ false)
entries_expire by (point ∷ points) none =
    All-append (λ (e : HistoryEntry). is_expiry e.kind ≡ false) (made lake_rules by (made_by point)) (entries_of lake_rules by points)
    (made_expires by (made_by point) none.0) (entries_expire by points none.1)

more_expires : (by : Caller) (request : CallRequest) (passed : List CallPoint) (more : List HistoryEntry)
    → IsOneMore lake_rules by request passed more → NoneExpires more
more_expires by request passed more (inl none) = subst NoneExpires (sym none) (All-nil (λ (e : HistoryEntry). is_expiry e.kind ≡ false))
more_expires by request passed more (inr (inl (operation, owes, is))) =
    subst NoneExpires (sym is) (made_expires by (Some operation) (sym (ap expires_by owes) ∙ owed_expires_none passed))
more_expires by request passed more (inr (inr (operation, is))) =
    subst NoneExpires (sym is)
    (All-cons (λ (e : HistoryEntry). is_expiry e.kind ≡ false) (lake_rules.faulted by operation) [] refl
    (All-nil (λ (e : HistoryEntry). is_expiry e.kind ≡ false)))

-- what all pass stays
all_pass : {A : Type 0} (p : A → Bool) (xs : List A) → All (λ x. p x ≡ true) xs → filter p xs ≡ xs
all_pass p [] all = refl
all_pass p (x ∷ xs) all =
    let here : p x ≡ true = All-head (λ x. p x ≡ true) x xs all in
    let rest = all_pass p xs (All-tail (λ x. p x ≡ true) x xs all) in
    λ i. cond (here i) (x ∷ rest i) (rest i)

-- NO CALL LETS A COMMIT EXPIRE
pub none_expires : (call : Call) (moment : ℕ) (opened : State) (by : Caller) (edge next_edge : ℕ) (before added : List HistoryEntry) (met : CallMet)
    (told : CallReply) (position : ℕ)
    → IsPlaced lake_rules opened by edge next_edge before (before ++ added)
    (record { request = record { asked = Asks call; moment = moment }; met = met; reply = told; position = position })
    → AreOwn lake_rules by added → NoneExpires added
none_expires call moment opened by edge next_edge before added met told position is own =
    let item : Item CallRequest CallMet CallReply =
    record { request = record { asked = Asks call; moment = moment }; met = met; reply = told; position = position } in
    let mine : own_entries lake_rules by before (before ++ added) ≡ added =
    ap (filter (is_own lake_rules by)) (drop_front before added (before ++ added) refl) ∙ all_pass (is_own lake_rules by) added own in
    let parts = front_of is.passed is.left (subst ExpireNone is.course (course_expires_none call moment is.fixed)) in
    subst NoneExpires (sym is.own ∙ mine)
    (All-append (λ (e : HistoryEntry). is_expiry e.kind ≡ false) (entries_of lake_rules by is.passed) is.added (entries_expire by is.passed parts.0)
    (more_expires by item.request is.passed is.added (one_more lake_rules opened by edge (before ++ added) item is.passed is.left is.reached is.added
    is.decided)))

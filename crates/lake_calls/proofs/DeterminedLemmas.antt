-- The course of a call has one value, where nothing clashes with the commit that it makes, if it makes one.
use Rattle.std.proofs.Common.{◌≡◌, ℕ, List, [], ◌∷◌, ◌++◌, length, refl, ap, sym, ◌∙◌, subst, arith}
use Rattle.std.proofs.lemmas.List.{length-append}
use Rattle.call_placement.specs.Alone.{IsDetermined}
use Rattle.call_placement.specs.Rules.{Rules}
use Rattle.lake_base.specs.declared.digest.Digest.{Digest}
use Rattle.lake_format.specs.Spelling.{commit_id}
use Rattle.lake_values.specs.Commit.{AboutValue, CommitRecordValue}
use Rattle.lake_values.specs.declared.commit.Strategy.TheVariants.{Refuse}
use Rattle.lake_values.specs.declared.entry.Change.TheVariants as change
use Rattle.lake_model.specs.declared.history.HistoryEntry.{HistoryEntry}
use Rattle.lake_model.specs.declared.history.Operation.{Operation}
use Rattle.lake_model.specs.declared.history.SealFor.{SealFor}
use Rattle.lake_model.specs.declared.history.SealFor.TheVariants as seal
use Rattle.lake_model.specs.declared.reply.SwapKind.{SwapKind}
use Rattle.lake_model.specs.declared.reply.SwapKind.TheVariants as kind
use Rattle.lake_model.specs.declared.history.Operation.TheVariants.{BranchCreate, TagCreate, TicketTake, Stage, Copy}
use Rattle.lake_model.specs.State.{State}
use Rattle.lake_calls.specs.Calls.{MergeCall, PickCall, UploadCall}
use Rattle.lake_calls.specs.CallExceptions.{CallMet}
use Rattle.lake_calls.specs.CallReadings.{known_commit}
use Rattle.lake_calls.specs.Courses.{CallPoint, Fixed, Looks, Makes, call_course, head_points, upload_entry}
use Rattle.lake_calls.specs.Courses.{commit_about, merge_about, pick_about, revert_about}
use Rattle.lake_calls.specs.DoneReplies.{IsDone, IsHeadTold, MakesNoCommit}
use Rattle.lake_calls.specs.LakeRules.{AskedRefused, IsAnswerOf, lake_rules}
use Rattle.lake_calls.specs.Requests.{Asks, CallRequest}
use Rattle.lake_calls.specs.declared.call.Call.{Call}
use Rattle.lake_calls.specs.declared.call.Call.TheVariants.{Names, Objects, Heads, Settings}
use Rattle.lake_calls.specs.declared.call.SettingCall.TheVariants.{GetProtection, SetProtection, GetHooks, SetHooks}
use Rattle.lake_calls.specs.declared.heads.HeadCall.TheVariants as head
use Rattle.lake_calls.specs.declared.names.NamingCall.TheVariants as naming
use Rattle.lake_calls.specs.declared.objects.CopyCall.{CopyCall}
use Rattle.lake_calls.specs.declared.objects.ObjectCall.TheVariants as object
use Rattle.lake_calls.specs.declared.reply.CallReply.{CallReply}
use Rattle.lake_calls.specs.declared.reply.Done.{Done}
use Rattle.lake_calls.specs.declared.reply.Done.TheVariants as done
use Rattle.lake_calls.proofs.AlikeLemmas.{Alike, parent_alike, point_alike, source_alike, steps_alike}
use Rattle.lake_calls.proofs.ClashLemmas.{IsClear}

-- two courses of a call, as long as they go the same way
abbrev pub AreAlike : Call → List CallPoint → List CallPoint → Type 0
AreAlike call [] [] = Unit {0}
AreAlike call [] (q ∷ qs) = ⊥
AreAlike call (p ∷ ps) [] = ⊥
AreAlike call (p ∷ ps) (q ∷ qs) = Alike call p q × (p ≡ q → AreAlike call ps qs)

nothing_before : (passed : List CallPoint) (p : CallPoint) (later : List CallPoint) → [] ≡ passed ++ p ∷ later → ⊥
nothing_before [] p later is = absurd (cc (is))
nothing_before (a ∷ passed) p later is = absurd (cc (is))

-- behind the same points two that are alike come next
pub alike_at : (call : Call) (ps qs passed : List CallPoint) (p q : CallPoint) (later rest : List CallPoint) → AreAlike call ps qs
    → ps ≡ passed ++ p ∷ later → qs ≡ passed ++ q ∷ rest → Alike call p q
alike_at call [] [] passed p q later rest are one two = absurd (nothing_before passed p later one)
alike_at call [] (y ∷ ys) passed p q later rest are one two = absurd are
alike_at call (x ∷ xs) [] passed p q later rest are one two = absurd are
alike_at call (x ∷ xs) (y ∷ ys) [] p q later rest are one two =
    let first : x ≡ p = cc (one) in
    let other : y ≡ q = cc (two) in
    subst (λ w. Alike call p w) other (subst (λ w. Alike call w y) first are.0)
alike_at call (x ∷ xs) (y ∷ ys) (a ∷ passed) p q later rest are one two =
    let here : x ≡ y = cc (one, two) in
    let first : xs ≡ passed ++ p ∷ later = cc (one) in
    let other : ys ≡ passed ++ q ∷ rest = cc (two) in
    alike_at call xs ys passed p q later rest (are.1 here) first other

-- one point that reads or makes what the request alone gives
single : (call : Call) (p : CallPoint) → AreAlike call (p ∷ []) (p ∷ [])
single call p = (point_alike call p, λ same. tt)

-- a change that is staged
staged : (call : Call) (repo branch : List ℕ) (p q : CallPoint) → Alike call p q → AreAlike call (Looks repo branch ∷ p ∷ []) (Looks repo branch ∷ q ∷ [])
staged call repo branch p q alike = (point_alike call (Looks repo branch), λ same. (alike, λ later. tt))

uploaded : (u : UploadCall) (moment : ℕ) (f g : Fixed)
    → AreAlike (Objects (object.Upload u)) (call_course (Objects (object.Upload u)) moment f) (call_course (Objects (object.Upload u)) moment g)
uploaded u moment f g =
    let call = Objects (object.Upload u) in
    let stage : ℕ → CallPoint = λ number. Makes (Stage u.repo u.branch u.path (change.Put (upload_entry u moment number))) in (
      steps_alike call (TicketTake u.repo u.branch f.number) (TicketTake u.repo u.branch g.number) (λ s c is. is)
          (λ s c. refl) (λ s a b. ap (TicketTake u.repo u.branch) (a ∙ sym b)),
      λ same. let number : f.number ≡ g.number = cc (same) in
          staged call u.repo u.branch (stage f.number) (stage g.number)
          (subst (λ n. Alike call (stage f.number) (stage n)) number (point_alike call (stage f.number))),
    )

copied : (c : CopyCall) (moment : ℕ) (f g : Fixed)
    → AreAlike (Objects (object.Copy c)) (call_course (Objects (object.Copy c)) moment f) (call_course (Objects (object.Copy c)) moment g)
copied c moment f g =
    let call = Objects (object.Copy c) in
    staged call c.repo c.branch _ _ (steps_alike call (Copy c.repo c.branch c.path f.source c.source_path f.entry)
    (Copy c.repo c.branch c.path g.source c.source_path g.entry) (λ s c is. is) (λ s c. refl)
    (λ s a b. let source : f.source ≡ g.source = cc (a.0, b.0) in let entry : f.entry ≡ g.entry = cc (a.1, b.1) in cc (source, entry)))

-- a new head
heads : (call : Call) (repo branch : List ℕ) (why : SealFor) (kind : SwapKind) (about : AboutValue)
    → AreAlike call (head_points repo branch why kind about) (head_points repo branch why kind about)
heads call repo branch why kind about =
    (point_alike call _, λ same. (point_alike call _, λ same. (point_alike call _, λ same. tt)))

same_heads : (call : Call) (repo branch : List ℕ) (why : SealFor) (kind other : SwapKind) (about said : AboutValue) → kind ≡ other → about ≡ said
    → AreAlike call (head_points repo branch why kind about) (head_points repo branch why other said)
same_heads call repo branch why kind other about said kinds abouts =
    subst (λ w. AreAlike call (head_points repo branch why kind about) (head_points repo branch why other w)) abouts
    (subst (λ w. AreAlike call (head_points repo branch why kind about) (head_points repo branch why w about)) kinds
    (heads call repo branch why kind about))

merged : (c : MergeCall) (moment : ℕ) (f g : Fixed)
    → AreAlike (Heads (head.Merge c)) (call_course (Heads (head.Merge c)) moment f) (call_course (Heads (head.Merge c)) moment g)
merged c moment f g = (
  source_alike (Heads (head.Merge c)) f.commit g.commit,
  λ same. let commit : f.commit ≡ g.commit = cc (same) in
      same_heads (Heads (head.Merge c)) c.repo c.branch seal.Other _ _ _ _ (ap (λ id. kind.Merge id c.strategy) commit) refl,
)

reverted : (c : PickCall) (moment : ℕ) (f g : Fixed)
    → AreAlike (Heads (head.Revert c)) (call_course (Heads (head.Revert c)) moment f) (call_course (Heads (head.Revert c)) moment g)
reverted c moment f g = (
  parent_alike (Heads (head.Revert c)) f.commit f.parent f.message g.commit g.parent g.message,
  λ same. let commit : f.commit ≡ g.commit = cc (same) in
      let parent : f.parent ≡ g.parent = cc (same) in
      let kinds : kind.Pick f.commit f.parent Refuse ≡ kind.Pick g.commit g.parent Refuse = λ i. kind.Pick (commit i) (parent i) Refuse in
      same_heads (Heads (head.Revert c)) c.repo c.branch seal.Other _ _ _ _ kinds (ap (revert_about c moment) commit),
)

picked : (c : PickCall) (moment : ℕ) (f g : Fixed)
    → AreAlike (Heads (head.CherryPick c)) (call_course (Heads (head.CherryPick c)) moment f) (call_course (Heads (head.CherryPick c)) moment g)
picked c moment f g = (
  parent_alike (Heads (head.CherryPick c)) f.commit f.parent f.message g.commit g.parent g.message,
  λ same. let commit : f.commit ≡ g.commit = cc (same) in
      let parent : f.parent ≡ g.parent = cc (same) in
      let message : f.message ≡ g.message = cc (same) in
      let kinds : kind.Pick f.parent f.commit Refuse ≡ kind.Pick g.parent g.commit Refuse = λ i. kind.Pick (parent i) (commit i) Refuse in
      same_heads (Heads (head.CherryPick c)) c.repo c.branch seal.Other _ _ _ _ kinds (ap (pick_about c moment) message),
)

pub courses_alike : (call : Call) (moment : ℕ) (f g : Fixed) → AreAlike call (call_course call moment f) (call_course call moment g)
courses_alike (Names (naming.ListRepositories after amount)) moment f g = single _ _
courses_alike (Names (naming.CreateRepository c)) moment f g = single _ _
courses_alike (Names (naming.ListBranches c)) moment f g = single _ _
courses_alike (Names (naming.CreateBranch c)) moment f g = (
  steps_alike (Names (naming.CreateBranch c)) (BranchCreate c.repo c.name f.commit) (BranchCreate c.repo c.name g.commit) (λ s c is. is)
      (λ s c. refl) (λ s a b. let same : f.commit ≡ g.commit = cc (a, b) in ap (BranchCreate c.repo c.name) same),
  λ same. tt,
)
courses_alike (Names (naming.GetBranch c)) moment f g = single _ _
courses_alike (Names (naming.DeleteBranch c)) moment f g = single _ _
courses_alike (Names (naming.ResetBranch c)) moment f g = single _ _
courses_alike (Names (naming.ListTags c)) moment f g = single _ _
courses_alike (Names (naming.CreateTag c)) moment f g = (
  steps_alike (Names (naming.CreateTag c)) (TagCreate c.repo c.name f.commit) (TagCreate c.repo c.name g.commit) (λ s c is. is)
      (λ s c. refl) (λ s a b. let same : f.commit ≡ g.commit = cc (a, b) in ap (TagCreate c.repo c.name) same),
  λ same. tt,
)
courses_alike (Names (naming.GetTag c)) moment f g = single _ _
courses_alike (Names (naming.DeleteTag c)) moment f g = single _ _
courses_alike (Objects (object.Upload u)) moment f g = uploaded u moment f g
courses_alike (Objects (object.Link c)) moment f g = staged _ c.repo c.branch _ _ (point_alike _ _)
courses_alike (Objects (object.Delete c)) moment f g = staged _ c.repo c.branch _ _ (point_alike _ _)
courses_alike (Objects (object.Copy c)) moment f g = copied c moment f g
courses_alike (Objects (object.Read c)) moment f g = single _ _
courses_alike (Objects (object.Stat c)) moment f g = single _ _
courses_alike (Objects (object.List c)) moment f g = single _ _
courses_alike (Heads (head.Commit c)) moment f g =
    heads (Heads (head.Commit c)) c.repo c.branch seal.Commit kind.Commit (commit_about c moment)
courses_alike (Heads (head.Merge c)) moment f g = merged c moment f g
courses_alike (Heads (head.Revert c)) moment f g = reverted c moment f g
courses_alike (Heads (head.CherryPick c)) moment f g = picked c moment f g
courses_alike (Heads (head.Log c)) moment f g = single _ _
courses_alike (Heads (head.GetCommit repo id)) moment f g = single _ _
courses_alike (Settings (GetProtection repo)) moment f g = single _ _
courses_alike (Settings (SetProtection repo protection)) moment f g = single _ _
courses_alike (Settings (GetHooks repo)) moment f g = single _ _
courses_alike (Settings (SetHooks repo hooks)) moment f g = single _ _

-- two courses of a call are as long
as_long : (call : Call) (moment : ℕ) (f g : Fixed) → length (call_course call moment f) ≡ length (call_course call moment g)
as_long (Names (naming.ListRepositories after amount)) moment f g = refl
as_long (Names (naming.CreateRepository c)) moment f g = refl
as_long (Names (naming.ListBranches c)) moment f g = refl
as_long (Names (naming.CreateBranch c)) moment f g = refl
as_long (Names (naming.GetBranch c)) moment f g = refl
as_long (Names (naming.DeleteBranch c)) moment f g = refl
as_long (Names (naming.ResetBranch c)) moment f g = refl
as_long (Names (naming.ListTags c)) moment f g = refl
as_long (Names (naming.CreateTag c)) moment f g = refl
as_long (Names (naming.GetTag c)) moment f g = refl
as_long (Names (naming.DeleteTag c)) moment f g = refl
as_long (Objects (object.Upload u)) moment f g = refl
as_long (Objects (object.Link c)) moment f g = refl
as_long (Objects (object.Delete c)) moment f g = refl
as_long (Objects (object.Copy c)) moment f g = refl
as_long (Objects (object.Read c)) moment f g = refl
as_long (Objects (object.Stat c)) moment f g = refl
as_long (Objects (object.List c)) moment f g = refl
as_long (Heads (head.Commit c)) moment f g = refl
as_long (Heads (head.Merge c)) moment f g = refl
as_long (Heads (head.Revert c)) moment f g = refl
as_long (Heads (head.CherryPick c)) moment f g = refl
as_long (Heads (head.Log c)) moment f g = refl
as_long (Heads (head.GetCommit repo id)) moment f g = refl
as_long (Settings (GetProtection repo)) moment f g = refl
as_long (Settings (SetProtection repo protection)) moment f g = refl
as_long (Settings (GetHooks repo)) moment f g = refl
as_long (Settings (SetHooks repo hooks)) moment f g = refl

pub no_front : (call : Call) (moment : ℕ) (f g : Fixed) (next : CallPoint) (later : List CallPoint)
    → call_course call moment g ≡ call_course call moment f ++ next ∷ later → ⊥
no_front call moment f g next later is =
    let long = as_long call moment f g in
    let more = ap length is ∙ length-append (call_course call moment f) (next ∷ later) in absurd (omega (arith, long, more))

-- ---- the reply of a course

-- what is told of a new head is one
one_head : (telling : Digest × CommitRecordValue → Done) (state : State) (repo branch : List ℕ) (kind other : SwapKind) (about said : AboutValue)
    (x y : Done) → kind ≡ other → about ≡ said
    → IsHeadTold telling state repo branch kind about x → IsHeadTold telling state repo branch other said y → x ≡ y
one_head telling state repo branch kind other about said x y kinds abouts a b =
    let d = subst (λ w. IsHeadTold telling state repo branch kind w y) (sym abouts)
    (subst (λ w. IsHeadTold telling state repo branch w said y) (sym kinds) b) in
    let commits : a.1 ≡ d.1 = cc (a.2.0, d.2.0) in
    let ids : a.0 ≡ d.0 = a.2.1 ∙ (ap commit_id commits ∙ sym d.2.1) in
    let told : telling (a.0, a.1) ≡ telling (d.0, d.1) = λ i. telling (ids i, commits i) in
    a.3 ∙ (told ∙ sym d.3)

-- what is told of one course in one state is one
one_told : (call : Call) (moment : ℕ) (f g : Fixed) (met : CallMet) (state : State) (x y : Done)
    → call_course call moment f ≡ call_course call moment g → IsDone call moment f met state x → IsDone call moment g met state y → x ≡ y
one_told (Names (naming.ListRepositories after amount)) moment f g met state x y same a b = cc (a, b)
one_told (Names (naming.CreateRepository c)) moment f g met state x y same a b = a ∙ sym b
one_told (Names (naming.ListBranches c)) moment f g met state x y same a b = cc (a, b)
one_told (Names (naming.CreateBranch c)) moment f g met state x y same a b =
    let commit : f.commit ≡ g.commit = cc (same) in a ∙ (ap done.BranchCreated commit ∙ sym b)
one_told (Names (naming.GetBranch c)) moment f g met state x y same a b = cc (a, b)
one_told (Names (naming.DeleteBranch c)) moment f g met state x y same a b = a ∙ sym b
one_told (Names (naming.ResetBranch c)) moment f g met state x y same a b = a ∙ sym b
one_told (Names (naming.ListTags c)) moment f g met state x y same a b = cc (a, b)
one_told (Names (naming.CreateTag c)) moment f g met state x y same a b =
    let commit : f.commit ≡ g.commit = cc (same) in
    a ∙ (ap (λ id. done.TagCreated (record { name = c.name; commit = id })) commit ∙ sym b)
one_told (Names (naming.GetTag c)) moment f g met state x y same a b = cc (a, b)
one_told (Names (naming.DeleteTag c)) moment f g met state x y same a b = a ∙ sym b
one_told (Objects (object.Upload u)) moment f g met state x y same a b =
    let number : f.number ≡ g.number = cc (same) in
    a ∙ (ap (λ n. done.Uploaded (record { path = u.path; entry = upload_entry u moment n })) number ∙ sym b)
one_told (Objects (object.Link c)) moment f g met state x y same a b = a ∙ sym b
one_told (Objects (object.Delete c)) moment f g met state x y same a b = a ∙ sym b
one_told (Objects (object.Copy c)) moment f g met state x y same a b =
    let entry : f.entry ≡ g.entry = cc (same) in
    a ∙ (ap (λ e. done.Copied (record { path = c.path; entry = e })) entry ∙ sym b)
one_told (Objects (object.Read c)) moment f g met state x y same a b =
    let entry : a.0 ≡ b.0 = cc (a.2, b.2) in
    let bytes : a.1 ≡ b.1 = cc (a.3, b.3) in
    let told = ap (λ e. done.Object e.content_type a.1) entry ∙ ap (done.Object b.0.content_type) bytes in a.5 ∙ (told ∙ sym b.5)
one_told (Objects (object.Stat c)) moment f g met state x y same a b = cc (a, b)
one_told (Objects (object.List c)) moment f g met state x y same a b = cc (a, b)
one_told (Heads (head.Commit c)) moment f g met state x y same a b =
    one_head (λ one. done.Committed (known_commit one)) state c.repo c.branch kind.Commit kind.Commit (commit_about c moment) (commit_about c moment)
    x y refl refl a b
one_told (Heads (head.Merge c)) moment f g met state x y same a b =
    let commit : f.commit ≡ g.commit = cc (same) in
    one_head (λ one. done.Merged one.0) state c.repo c.branch (kind.Merge f.commit c.strategy) (kind.Merge g.commit c.strategy)
    (merge_about c moment) (merge_about c moment) x y (ap (λ id. kind.Merge id c.strategy) commit) refl a b
one_told (Heads (head.Revert c)) moment f g met state x y same a b =
    let commit : f.commit ≡ g.commit = cc (same) in
    let parent : f.parent ≡ g.parent = cc (same) in
    let kinds : kind.Pick f.commit f.parent Refuse ≡ kind.Pick g.commit g.parent Refuse = λ i. kind.Pick (commit i) (parent i) Refuse in
    one_head (λ one. done.Reverted (known_commit one)) state c.repo c.branch (kind.Pick f.commit f.parent Refuse) (kind.Pick g.commit g.parent Refuse)
    (revert_about c moment f.commit) (revert_about c moment g.commit) x y kinds (ap (revert_about c moment) commit) a b
one_told (Heads (head.CherryPick c)) moment f g met state x y same a b =
    let commit : f.commit ≡ g.commit = cc (same) in
    let parent : f.parent ≡ g.parent = cc (same) in
    let message : f.message ≡ g.message = cc (same) in
    let kinds : kind.Pick f.parent f.commit Refuse ≡ kind.Pick g.parent g.commit Refuse = λ i. kind.Pick (parent i) (commit i) Refuse in
    one_head (λ one. done.CherryPicked (known_commit one)) state c.repo c.branch (kind.Pick f.parent f.commit Refuse) (kind.Pick g.parent g.commit Refuse)
    (pick_about c moment f.message) (pick_about c moment g.message) x y kinds (ap (pick_about c moment) message) a b
one_told (Heads (head.Log c)) moment f g met state x y same a b = cc (a, b)
one_told (Heads (head.GetCommit repo id)) moment f g met state x y same a b = cc (a, b)
one_told (Settings (GetProtection repo)) moment f g met state x y same a b = cc (a, b)
one_told (Settings (SetProtection repo protection)) moment f g met state x y same a b = a ∙ sym b
one_told (Settings (GetHooks repo)) moment f g met state x y same a b = cc (a, b)
one_told (Settings (SetHooks repo hooks)) moment f g met state x y same a b = a ∙ sym b

pub one_answer : (call : Call) (moment : ℕ) (met : CallMet) (course : List CallPoint) (state : State) (told other : CallReply)
    → IsAnswerOf (Asks call) moment met course state told → IsAnswerOf (Asks call) moment met course state other → told ≡ other
one_answer call moment met course state told other a b =
    let same = one_told call moment a.0 b.0 met state a.2 b.2 (sym a.1 ∙ b.1) a.3 b.3 in cc (same, a.4, b.4)

-- ---- clashes

-- points of which none makes a commit
abbrev MakeNoCommit : List CallPoint → Type 0
MakeNoCommit [] = Unit {0}
MakeNoCommit (p ∷ ps) = ((state : State) → IsClear p state) × MakeNoCommit ps

-- nothing clashes at one of them
none_clashes : (ps passed : List CallPoint) (p : CallPoint) (later : List CallPoint) → MakeNoCommit ps → ps ≡ passed ++ p ∷ later
    → (state : State) → IsClear p state
none_clashes [] passed p later none is = absurd (nothing_before passed p later is)
none_clashes (x ∷ xs) [] p later none is = let first : x ≡ p = cc (is) in subst (λ w. (state : State) → IsClear w state) first none.0
none_clashes (x ∷ xs) (a ∷ passed) p later none is = let rest : xs ≡ passed ++ p ∷ later = cc (is) in none_clashes xs passed p later none.1 rest

no_commit : (call : Call) (moment : ℕ) (f : Fixed) → MakesNoCommit call → MakeNoCommit (call_course call moment f)
no_commit (Names (naming.ListRepositories after amount)) moment f plain = (λ s. tt, tt)
no_commit (Names (naming.CreateRepository c)) moment f plain = absurd plain
no_commit (Names (naming.ListBranches c)) moment f plain = (λ s. tt, tt)
no_commit (Names (naming.CreateBranch c)) moment f plain = (λ s. refl, tt)
no_commit (Names (naming.GetBranch c)) moment f plain = (λ s. tt, tt)
no_commit (Names (naming.DeleteBranch c)) moment f plain = (λ s. refl, tt)
no_commit (Names (naming.ResetBranch c)) moment f plain = (λ s. refl, tt)
no_commit (Names (naming.ListTags c)) moment f plain = (λ s. tt, tt)
no_commit (Names (naming.CreateTag c)) moment f plain = (λ s. refl, tt)
no_commit (Names (naming.GetTag c)) moment f plain = (λ s. tt, tt)
no_commit (Names (naming.DeleteTag c)) moment f plain = (λ s. refl, tt)
no_commit (Objects (object.Upload u)) moment f plain = (λ s. refl, (λ s. tt, (λ s. refl, tt)))
no_commit (Objects (object.Link c)) moment f plain = (λ s. tt, (λ s. refl, tt))
no_commit (Objects (object.Delete c)) moment f plain = (λ s. tt, (λ s. refl, tt))
no_commit (Objects (object.Copy c)) moment f plain = (λ s. tt, (λ s. refl, tt))
no_commit (Objects (object.Read c)) moment f plain = (λ s. tt, tt)
no_commit (Objects (object.Stat c)) moment f plain = (λ s. tt, tt)
no_commit (Objects (object.List c)) moment f plain = (λ s. tt, tt)
no_commit (Heads (head.Commit c)) moment f plain = absurd plain
no_commit (Heads (head.Merge c)) moment f plain = absurd plain
no_commit (Heads (head.Revert c)) moment f plain = absurd plain
no_commit (Heads (head.CherryPick c)) moment f plain = absurd plain
no_commit (Heads (head.Log c)) moment f plain = (λ s. tt, tt)
no_commit (Heads (head.GetCommit repo id)) moment f plain = (λ s. tt, tt)
no_commit (Settings (GetProtection repo)) moment f plain = (λ s. tt, tt)
no_commit (Settings (SetProtection repo protection)) moment f plain = (λ s. refl, tt)
no_commit (Settings (GetHooks repo)) moment f plain = (λ s. tt, tt)
no_commit (Settings (SetHooks repo hooks)) moment f plain = (λ s. refl, tt)

-- ---- every call

-- A CALL THAT MAKES NO COMMIT HAS ONE VALUE
pub determined : (call : Call) (moment : ℕ) → MakesNoCommit call → IsDetermined lake_rules (record { asked = Asks call; moment = moment })
determined call moment plain = record {
  one_point = λ by f g passed p q later rest state one two a b.
      (alike_at call _ _ passed p q later rest (courses_alike call moment f g) one two).one state a b;
  not_both = λ by f g passed p q later rest state told one two a b.
      (alike_at call _ _ passed p q later rest (courses_alike call moment f g) one two).apart state told a b;
  one_refusal = λ by f g passed p q later rest state told other one two a b.
      (alike_at call _ _ passed p q later rest (courses_alike call moment f g) one two).same state
      (none_clashes _ passed p later (no_commit call moment f plain) one state) told other a b;
  no_front = λ f g next later is. no_front call moment f g next later is;
  one_answer = λ by met course state told other a b. one_answer call moment met course state told other a b;
}

-- the rules of the lake's calls, where nothing clashes with the commit of a point that is refused
abbrev pub clear_rules : Rules HistoryEntry State Operation CallRequest Fixed CallPoint CallMet CallReply
clear_rules = record lake_rules {
  refuses = λ by request point state told. IsClear point state × AskedRefused request.asked point state told;
}

-- BY THEM EACH CALL HAS ONE VALUE
pub clearly_determined : (call : Call) (moment : ℕ) → IsDetermined clear_rules (record { asked = Asks call; moment = moment })
clearly_determined call moment = record {
  one_point = λ by f g passed p q later rest state one two a b.
      (alike_at call _ _ passed p q later rest (courses_alike call moment f g) one two).one state a b;
  not_both = λ by f g passed p q later rest state told one two a b.
      (alike_at call _ _ passed p q later rest (courses_alike call moment f g) one two).apart state told a b.1;
  one_refusal = λ by f g passed p q later rest state told other one two a b.
      (alike_at call _ _ passed p q later rest (courses_alike call moment f g) one two).same state a.0 told other a.1 b.1;
  no_front = λ f g next later is. no_front call moment f g next later is;
  one_answer = λ by met course state told other a b. one_answer call moment met course state told other a b;
}

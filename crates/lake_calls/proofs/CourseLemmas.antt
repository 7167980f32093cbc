-- A whole course owes nothing, and one that makes any entry makes one at its last point.
use Rattle.std.proofs.Common.{◌≡◌, ◌≢◌, ℕ, Bool, true, false, List, [], ◌∷◌, ◌++◌, refl, ap, sym, ◌∙◌}
use Rattle.std.specs.Prelude.{◌⊎◌, is_some, Option, Some, None}
use mathlib.Core.Logic.{inl, inr}
use Rattle.call_placement.specs.Rules.{Caller}
use Rattle.call_placement.specs.Points.{entries_of}
use Rattle.lake_model.specs.declared.history.Operation.{Operation}
use Rattle.lake_calls.specs.Courses.{CallPoint, Fixed, made_by}
use Rattle.lake_calls.specs.DoneReplies.{owed_behind}
use Rattle.lake_calls.specs.LakeRules.{asked_course, lake_rules}
use Rattle.lake_calls.specs.Requests.{Asked, Asks, Malformed}
use Rattle.lake_calls.specs.declared.call.Call.TheVariants.{Names, Objects, Heads, Settings}
use Rattle.lake_calls.specs.declared.call.SettingCall.TheVariants.{GetProtection, SetProtection, GetHooks, SetHooks}
use Rattle.lake_calls.specs.declared.heads.HeadCall.TheVariants as head
use Rattle.lake_calls.specs.declared.names.NamingCall.TheVariants as naming
use Rattle.lake_calls.specs.declared.objects.ObjectCall.TheVariants as object

pub owes_nothing : (asked : Asked) (moment : ℕ) (fixed : Fixed) → owed_behind (asked_course asked moment fixed) ≡ None
owes_nothing (Asks (Names (naming.ListRepositories after amount))) moment fixed = refl
owes_nothing (Asks (Names (naming.CreateRepository c))) moment fixed = refl
owes_nothing (Asks (Names (naming.ListBranches c))) moment fixed = refl
owes_nothing (Asks (Names (naming.CreateBranch c))) moment fixed = refl
owes_nothing (Asks (Names (naming.GetBranch c))) moment fixed = refl
owes_nothing (Asks (Names (naming.DeleteBranch c))) moment fixed = refl
owes_nothing (Asks (Names (naming.ResetBranch c))) moment fixed = refl
owes_nothing (Asks (Names (naming.ListTags c))) moment fixed = refl
owes_nothing (Asks (Names (naming.CreateTag c))) moment fixed = refl
owes_nothing (Asks (Names (naming.GetTag c))) moment fixed = refl
owes_nothing (Asks (Names (naming.DeleteTag c))) moment fixed = refl
owes_nothing (Asks (Objects (object.Upload u))) moment fixed = refl
owes_nothing (Asks (Objects (object.Link c))) moment fixed = refl
owes_nothing (Asks (Objects (object.Delete c))) moment fixed = refl
owes_nothing (Asks (Objects (object.Copy c))) moment fixed = refl
owes_nothing (Asks (Objects (object.Read c))) moment fixed = refl
owes_nothing (Asks (Objects (object.Stat c))) moment fixed = refl
owes_nothing (Asks (Objects (object.List c))) moment fixed = refl
owes_nothing (Asks (Heads (head.Commit c))) moment fixed = refl
owes_nothing (Asks (Heads (head.Merge c))) moment fixed = refl
owes_nothing (Asks (Heads (head.Revert c))) moment fixed = refl
owes_nothing (Asks (Heads (head.CherryPick c))) moment fixed = refl
owes_nothing (Asks (Heads (head.Log c))) moment fixed = refl
owes_nothing (Asks (Heads (head.GetCommit repo id))) moment fixed = refl
owes_nothing (Asks (Settings (GetProtection repo))) moment fixed = refl
owes_nothing (Asks (Settings (SetProtection repo protection))) moment fixed = refl
owes_nothing (Asks (Settings (GetHooks repo))) moment fixed = refl
owes_nothing (Asks (Settings (SetHooks repo hooks))) moment fixed = refl
owes_nothing (Malformed refused) moment fixed = refl

-- whether the last of some points makes an operation
abbrev ends_making : List CallPoint → Bool
ends_making [] = false
ends_making (point ∷ []) = is_some (made_by point)
ends_making (point ∷ next ∷ later) = ends_making (next ∷ later)

ends_by : (front : List CallPoint) (last : CallPoint) → ends_making (front ++ last ∷ []) ≡ is_some (made_by last)
ends_by [] last = refl
ends_by (a ∷ []) last = refl
ends_by (a ∷ b ∷ front) last = ends_by (b ∷ front) last

some_made : (o : Option Operation) → is_some o ≡ true → o ≢ None
some_made (Some operation) is = λ none. absurd (cc (none))
some_made None is = absurd (cc (is))

-- what ends by an operation has one at its last point
makes : (course front : List CallPoint) (last : CallPoint) → ends_making course ≡ true → course ≡ front ++ last ∷ [] → made_by last ≢ None
makes course front last ends is = some_made (made_by last) (sym (ends_by front last) ∙ (ap ends_making (sym is) ∙ ends))

abbrev EndsSo : Asked → (moment : ℕ) → Fixed → Type 0
EndsSo asked moment fixed =
    (ends_making (asked_course asked moment fixed) ≡ true) ⊎ ((by : Caller) → entries_of lake_rules by (asked_course asked moment fixed) ≡ [])

-- each course ends by an operation, or makes none
ends_so : (asked : Asked) (moment : ℕ) (fixed : Fixed) → EndsSo asked moment fixed
ends_so (Asks (Names (naming.ListRepositories after amount))) moment fixed = inr (λ by. refl)
ends_so (Asks (Names (naming.CreateRepository c))) moment fixed = inl refl
ends_so (Asks (Names (naming.ListBranches c))) moment fixed = inr (λ by. refl)
ends_so (Asks (Names (naming.CreateBranch c))) moment fixed = inl refl
ends_so (Asks (Names (naming.GetBranch c))) moment fixed = inr (λ by. refl)
ends_so (Asks (Names (naming.DeleteBranch c))) moment fixed = inl refl
ends_so (Asks (Names (naming.ResetBranch c))) moment fixed = inl refl
ends_so (Asks (Names (naming.ListTags c))) moment fixed = inr (λ by. refl)
ends_so (Asks (Names (naming.CreateTag c))) moment fixed = inl refl
ends_so (Asks (Names (naming.GetTag c))) moment fixed = inr (λ by. refl)
ends_so (Asks (Names (naming.DeleteTag c))) moment fixed = inl refl
ends_so (Asks (Objects (object.Upload u))) moment fixed = inl refl
ends_so (Asks (Objects (object.Link c))) moment fixed = inl refl
ends_so (Asks (Objects (object.Delete c))) moment fixed = inl refl
ends_so (Asks (Objects (object.Copy c))) moment fixed = inl refl
ends_so (Asks (Objects (object.Read c))) moment fixed = inr (λ by. refl)
ends_so (Asks (Objects (object.Stat c))) moment fixed = inr (λ by. refl)
ends_so (Asks (Objects (object.List c))) moment fixed = inr (λ by. refl)
ends_so (Asks (Heads (head.Commit c))) moment fixed = inl refl
ends_so (Asks (Heads (head.Merge c))) moment fixed = inl refl
ends_so (Asks (Heads (head.Revert c))) moment fixed = inl refl
ends_so (Asks (Heads (head.CherryPick c))) moment fixed = inl refl
ends_so (Asks (Heads (head.Log c))) moment fixed = inr (λ by. refl)
ends_so (Asks (Heads (head.GetCommit repo id))) moment fixed = inr (λ by. refl)
ends_so (Asks (Settings (GetProtection repo))) moment fixed = inr (λ by. refl)
ends_so (Asks (Settings (SetProtection repo protection))) moment fixed = inl refl
ends_so (Asks (Settings (GetHooks repo))) moment fixed = inr (λ by. refl)
ends_so (Asks (Settings (SetHooks repo hooks))) moment fixed = inl refl
ends_so (Malformed refused) moment fixed = inr (λ by. refl)

either_ends : (asked : Asked) (moment : ℕ) (fixed : Fixed) (front : List CallPoint) (last : CallPoint) → EndsSo asked moment fixed
    → asked_course asked moment fixed ≡ front ++ last ∷ []
    → (made_by last ≢ None) ⊎ ((by : Caller) → entries_of lake_rules by (asked_course asked moment fixed) ≡ [])
either_ends asked moment fixed front last (inl ends) is = inl (makes (asked_course asked moment fixed) front last ends is)
either_ends asked moment fixed front last (inr none) is = inr none

pub last_makes : (asked : Asked) (moment : ℕ) (fixed : Fixed) (front : List CallPoint) (last : CallPoint)
    → asked_course asked moment fixed ≡ front ++ last ∷ []
    → (made_by last ≢ None) ⊎ ((by : Caller) → entries_of lake_rules by (asked_course asked moment fixed) ≡ [])
last_makes asked moment fixed front last is = either_ends asked moment fixed front last (ends_so asked moment fixed) is

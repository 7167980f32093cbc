-- A lake of one repository with one branch, and what entries make of it.
use Rattle.std.proofs.Common.{◌≡◌, ◌+◌, ℕ, List, [], ◌∷◌, ◌++◌, sym, ap, subst, ◌∙◌}
use Rattle.std.specs.Prelude.{Some}
use Rattle.std.specs.FinMap.{get, insert, empty}
use Rattle.lake_base.specs.Maps.{byte_order}
use Rattle.lake_model.specs.declared.history.HistoryEntry.{HistoryEntry}
use Rattle.lake_model.specs.State.{Branch, Repository, State, HasBranch}
use Rattle.lake_model.specs.Parts.{in_repository, in_branch}
use Rattle.lake_model.specs.History.{Allows, IsLegal, after, replay}
use Rattle.law_examples.specs.HistoryWords.{quickstart, main}
use Rattle.law_examples.proofs.BranchesLemmas.{get_one, in_named, in_one, on_branch, put_again, spread, the_branch, with_branches}
pub use Rattle.law_examples.proofs.BranchesLemmas.{change_one, get_one, put_again, repo_there}

-- the lake whose one repository has one branch
abbrev pub scene : State → Repository → Branch → State
scene s r b = spread s r (insert empty main b)

-- the repository of it
abbrev pub of_main : Repository → Branch → Repository
of_main r b = with_branches r (insert empty main b)

pub main_there : (b : Branch) → get (insert {R = byte_order} empty main b) main ≡ Some b
main_there b = get_one main b main

-- it has what its repository and its branch have
pub on_main : (P : Repository → Branch → Type 0) (s : State) (r : Repository) (b : Branch) → P (of_main r b) b → HasBranch (scene s r b) quickstart main P
on_main P s r b = on_branch s r (insert empty main b) main b (main_there b) P

pub the_main : (P : Repository → Branch → Type 0) (s : State) (r : Repository) (b : Branch) → HasBranch (scene s r b) quickstart main P → P (of_main r b) b
the_main P s r b = the_branch s r (insert empty main b) main b (main_there b) P

-- its repository after a change
pub in_quickstart : (f : Repository → Repository) (s : State) (r : Repository) (b : Branch)
    → in_repository quickstart f (scene s r b) ≡ record s { repositories = insert empty quickstart (f (of_main r b)) }
in_quickstart f s r b = in_one f s (of_main r b)

-- its branch after a change
pub in_main : (f : Branch → Branch) (s : State) (r : Repository) (b : Branch) → in_branch quickstart main f (scene s r b) ≡ scene s r (f b)
in_main f s r b = in_named s r (insert empty main b) main b (main_there b) f ∙ ap (spread s r) (put_again empty main b (f b))

-- one entry more
abbrev pub counted : State → State
counted s = record s { entries = s.entries + 1 }

-- what a branch has can't be what it hasn't
pub never_both : (P Q : Repository → Branch → Type 0) (state : State) (repo branch : List ℕ) → ((r : Repository) (b : Branch) → P r b → Q r b → ⊥)
    → HasBranch state repo branch P → HasBranch state repo branch Q → ⊥
never_both P Q state repo branch apart p q =
    let same_r : p.0 ≡ q.0 = cc (sym p.1 ∙ q.1) in
    let moved : get q.0.branches branch ≡ Some p.2.0 = subst (λ (r : Repository). get r.branches branch ≡ Some p.2.0) same_r p.2.1 in
    let same_b : p.2.0 ≡ q.2.0 = cc (sym moved ∙ q.2.1) in
    apart q.0 q.2.0 (subst (λ (b : Branch). P q.0 b) same_b (subst (λ (r : Repository). P r p.2.0) same_r p.2.2)) q.2.2

-- entries that are legal from a state on lead to another
pub record Leads (s : State) (entries : List HistoryEntry) (t : State) : Type 0 where
  pub legal : IsLegal s entries
  pub comes : replay s entries ≡ t

pub leads_one : {s : State} {entry : HistoryEntry} {t : State} → Allows s entry → after s entry ≡ t → Leads s (entry ∷ []) t
leads_one may is = record { legal = (may, tt); comes = is }

legal_both : (s t : State) (entries later : List HistoryEntry) → IsLegal s entries → replay s entries ≡ t → IsLegal t later → IsLegal s (entries ++ later)
legal_both s t [] later legal comes rest = subst (λ (x : State). IsLegal x later) (sym comes) rest
legal_both s t (entry ∷ entries) later legal comes rest = (legal.0, legal_both (after s entry) t entries later legal.1 comes rest)

pub replay_both : (s t : State) (entries later : List HistoryEntry) → replay s entries ≡ t → replay s (entries ++ later) ≡ replay t later
replay_both s t [] later comes = ap (λ (x : State). replay x later) comes
replay_both s t (entry ∷ entries) later comes = replay_both (after s entry) t entries later comes

pub leads_on : {s : State} {entries : List HistoryEntry} {t : State} {later : List HistoryEntry} {u : State} → Leads s entries t → Leads t later u
    → Leads s (entries ++ later) u
leads_on {s = s} {entries = entries} {t = t} {later = later} first second = record {
  legal = legal_both s t entries later first.legal first.comes second.legal;
  comes = replay_both s t entries later first.comes ∙ second.comes;
}

-- one more entry, which is legal or may not be
pub legal_more : {s : State} {entries : List HistoryEntry} {t : State} {entry : HistoryEntry} → Leads s entries t → Allows t entry
    → IsLegal s (entries ++ entry ∷ [])
legal_more {s = s} {entries = entries} {t = t} {entry = entry} first may = legal_both s t entries (entry ∷ []) first.legal first.comes (may, tt)

pub comes_more : {s : State} {entries : List HistoryEntry} {t : State} (entry : HistoryEntry) {u : State} → Leads s entries t → after t entry ≡ u
    → replay s (entries ++ entry ∷ []) ≡ u
comes_more {s = s} {entries = entries} {t = t} entry first is = replay_both s t entries (entry ∷ []) first.comes ∙ is

-- A lake of one repository with any branches, and what entries make of it.
use Rattle.std.proofs.Common.{◌≡◌, ℕ, Bool, true, false, cond, List, [], refl, sym, ap, subst, ◌∙◌}
use Rattle.std.specs.Prelude.{Option, Some, None, option_and_then, option_map}
use Rattle.std.specs.Option.{option_map_or, unwrap_or}
use Rattle.std.specs.FinMap.{get, insert, empty, get-insert, get-empty}
use Rattle.std.specs.Ordering.{eq_by_cmp}
use Rattle.std.specs.Cmp.Lexicographic.{nat_list_cmp_total}
use Rattle.lake_base.specs.Maps.{ByteMap, byte_order}
use Rattle.lake_base.specs.declared.digest.Digest.{Digest}
use Rattle.lake_values.proofs.KeyMapLemmas.{same}
use Rattle.lake_format.specs.Spelling.{commit_id}
use Rattle.lake_model.specs.State.{Branch, Repository, State, HasBranch, branch_of}
use Rattle.lake_model.specs.Parts.{changed_at, in_branch, in_repository}
use Rattle.lake_model.specs.Commits.{Draft, draft_on, record_of, with_commit, with_draft, with_head}
use Rattle.law_examples.specs.HistoryWords.{quickstart}

-- what a map of one name has
pub get_one : {X : Type 0} (name : List ℕ) (x : X) (q : List ℕ)
    → get (insert {R = byte_order} empty name x) q ≡ cond (eq_by_cmp byte_order q name) (Some x) None
get_one name x q = get-insert nat_list_cmp_total empty name x q ∙ ap (cond (eq_by_cmp byte_order q name) (Some x)) (get-empty byte_order q)

-- what is put twice under a name stands there as the second
put_over : {X : Type 0} (b : Bool) (x y old : Option X) → cond b y (cond b x old) ≡ cond b y old
put_over true x y old = refl
put_over false x y old = refl

pub put_again : {X : Type 0} (map : ByteMap X) (name : List ℕ) (x y : X) → insert (insert map name x) name y ≡ insert map name y
put_again map name x y = same _ _ (λ q.
    get-insert nat_list_cmp_total (insert map name x) name y q
    ∙ ap (cond (eq_by_cmp byte_order q name) (Some y)) (get-insert nat_list_cmp_total map name x q)
    ∙ put_over (eq_by_cmp byte_order q name) (Some x) (Some y) (get map q)
    ∙ sym (get-insert nat_list_cmp_total map name y q))

-- the map of one name after a change of what stands there
pub change_one : {X : Type 0} (name : List ℕ) (change : X → X) (x : X) → eq_by_cmp byte_order name name ≡ true
    → changed_at name change (insert empty name x) ≡ insert empty name (change x)
change_one name change x tie =
    let there : get (insert empty name x) name ≡ Some x = get_one name x name ∙ ap (λ b. cond b (Some x) None) tie in
    rw there (put_again empty name x (change x))

-- the lake whose one repository has these branches
abbrev pub with_branches : Repository → ByteMap Branch → Repository
with_branches r bs = record r { branches = bs }

abbrev pub spread : State → Repository → ByteMap Branch → State
spread s r bs = record s { repositories = insert empty quickstart (with_branches r bs) }

pub repo_there : (r : Repository) → get (insert {R = byte_order} empty quickstart r) quickstart ≡ Some r
repo_there r = get_one quickstart r quickstart

-- its repository after a change
pub in_one : (f : Repository → Repository) (s : State) (r : Repository)
    → in_repository quickstart f (record s { repositories = insert empty quickstart r }) ≡ record s { repositories = insert empty quickstart (f r) }
in_one f s r = ap (λ (m : ByteMap Repository). record s { repositories = m }) (change_one quickstart f r refl)

-- the id of a draft's commit, and the repository with it
module _ (s : State) (r : Repository) (draft : Draft) where
  abbrev pub drafted_id : Digest
  drafted_id = commit_id (record_of s.cut r.commits draft)

  abbrev pub with_drafted : Repository
  with_drafted = with_commit drafted_id (record_of s.cut r.commits draft) draft.objects r

module _ (s : State) (r : Repository) (bs : ByteMap Branch) (name : List ℕ) (b : Branch) (there : get bs name ≡ Some b) where
  -- what a branch of it has
  pub on_branch : (P : Repository → Branch → Type 0) → P (with_branches r bs) b → HasBranch (spread s r bs) quickstart name P
  on_branch P p = (with_branches r bs, repo_there (with_branches r bs), (b, there, p))

  pub the_branch : (P : Repository → Branch → Type 0) → HasBranch (spread s r bs) quickstart name P → P (with_branches r bs) b
  the_branch P has =
      let same_r : has.0 ≡ with_branches r bs = cc (sym has.1 ∙ repo_there (with_branches r bs)) in
      let moved : get bs name ≡ Some has.2.0 = subst (λ (x : Repository). get x.branches name ≡ Some has.2.0) same_r has.2.1 in
      let same_b : has.2.0 ≡ b = cc (sym moved ∙ there) in
      subst (λ (x : Branch). P (with_branches r bs) x) same_b (subst (λ (x : Repository). P x has.2.0) same_r has.2.2)

  -- its head
  pub head_in : unwrap_or (option_map (λ (x : Branch). x.head) (branch_of (spread s r bs) quickstart name)) (record { 0 = [] }) ≡ b.head
  head_in =
      ap (λ (o : Option Repository). unwrap_or (option_map (λ (x : Branch). x.head) (option_and_then (λ (x : Repository). get x.branches name) o))
      (record { 0 = [] })) (repo_there (with_branches r bs))
      ∙ ap (λ (o : Option Branch). unwrap_or (option_map (λ (x : Branch). x.head) o) (record { 0 = [] })) there

  -- a branch after a change
  pub in_named : (f : Branch → Branch) → in_branch quickstart name f (spread s r bs) ≡ spread s r (insert bs name (f b))
  in_named f =
      in_one (λ x. record x { branches = changed_at name f x.branches }) s (with_branches r bs)
      ∙ ap (λ (o : Option Branch). spread s r (option_map_or (λ (x : Branch). insert bs name (f x)) o bs)) there

  -- the branch when a draft has become its head
  pub in_draft : (draft : Repository → Branch → Draft)
      → in_repository quickstart (draft_on s.cut name draft) (spread s r bs)
      ≡ spread s (with_drafted s r (draft (with_branches r bs) b)) (insert bs name (with_head (drafted_id s r (draft (with_branches r bs) b)) b))
  in_draft draft =
      in_one (draft_on s.cut name draft) s (with_branches r bs)
      ∙ ap (λ (o : Option Branch). record s {
        repositories = insert empty quickstart
            (option_map_or (λ (x : Branch). with_draft s.cut name (draft (with_branches r bs) x) (with_branches r bs)) o (with_branches r bs));
      }) there
      ∙ ap (λ (o : Option Branch). spread s (with_drafted s r (draft (with_branches r bs) b))
      (option_map_or (λ (x : Branch). insert bs name (with_head (drafted_id s r (draft (with_branches r bs) b)) x)) o bs)) there

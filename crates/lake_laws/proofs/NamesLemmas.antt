-- What a repository names after an operation changed a part of it.
use Rattle.std.proofs.Common.{◌≡◌, ℕ, Bool, true, false, cond, List, sym, ap, subst, ◌∙◌, ◌⊎◌, inl, inr}
use Rattle.std.specs.Prelude.{Option, Some, IsSome, is_some}
use Rattle.std.specs.Option.{unwrap_or}
use Rattle.std.specs.FinMap.{empty, get, insert, remove, get-insert, get-empty}
use Rattle.std.specs.Ordering.{eq_by_cmp}
use Rattle.std.specs.Cmp.Lexicographic.{nat_list_cmp_total}
use Rattle.lake_base.specs.Maps.{ByteMap, byte_order}
use Rattle.lake_base.specs.declared.digest.Digest.{Digest}
use Rattle.lake_values.specs.Ancestry.{commit_of}
use Rattle.lake_values.specs.Commit.{CommitRecordValue}
use Rattle.lake_values.specs.KeyMap.{KeyMapValue}
use Rattle.lake_format.specs.Spelling.{commit_id}
use Rattle.lake_format.specs.declared.cut.Cut.{Cut}
use Rattle.lake_model.specs.State.{Branch, Notes, Repository, HasLiveCommit}
use Rattle.lake_model.specs.Branches.{clean_branch}
use Rattle.lake_model.specs.Commits.{Draft, bare_repository, first_draft, new_repository, record_of, with_commit, with_draft, with_head}
use Rattle.lake_model.specs.Naming.{IsCommitted, IsInMap, IsPut, IsUncommitted}
use Rattle.lake_model.specs.Parts.{changed_at}
use Rattle.lake_model.specs.Removal.{with_expired}
use Rattle.lake_laws.proofs.ChangeLemmas.{changed_cases, insert_cases, nothing_stands, remove_stood}
use Rattle.lake_laws.proofs.InMapLemmas.{in_nothing, put_nothing}

-- the changes of a branch put the number
abbrev pub Puts : Branch → ℕ → Type 0
Puts b number = IsPut b.sealed number ⊎ IsPut b.staged number

-- a repository names it
abbrev pub Names : Repository → ℕ → Type 0
Names r number = IsCommitted r number ⊎ IsUncommitted r number

-- one of these branches puts it
abbrev pub ArePutting : ByteMap Branch → ℕ → Type 0
ArePutting branches number = (name : List ℕ) × (b : Branch) × (get branches name ≡ Some b) × Puts b number

pub puts_clean : (id : Digest) (number : ℕ) → Puts (clean_branch id) number → ⊥
puts_clean id number (inl put) = put_nothing number put
puts_clean id number (inr put) = put_nothing number put

module _ (r : Repository) (number : ℕ) where
  -- other branches name what one of them puts
  pub names_with_branches : (branches : ByteMap Branch) → Names (record r { branches = branches }) number → IsCommitted r number ⊎ ArePutting branches number
  names_with_branches branches (inl c) = inl (record { id = c.id; live = c.live; names = c.names })
  names_with_branches branches (inr u) = inr (u.name, u.branch, u.stands, u.names)

  -- where a branch was changed: it was named, or the change of that branch puts it
  pub names_in_branch : (branch : List ℕ) (change : Branch → Branch) → Names (record r { branches = changed_at branch change r.branches }) number
      → Names r number ⊎ ((b : Branch) × (get r.branches branch ≡ Some b) × Puts (change b) number)
  names_in_branch branch change names =
      elim (names_with_branches (changed_at branch change r.branches) names) [
        | inl committed ↦ inl (inl committed)
        | inr putting ↦ elim (changed_cases branch change r.branches putting.0 putting.1 putting.2) [
          | inl stood ↦ inl (inr (record { name = putting.0; branch = putting.1; stands = stood; names = putting.3 }))
          | inr was ↦ inr (was.0, was.1, subst (λ b. Puts b number) was.3 putting.3)
        ]
      ]

  -- a new clean branch puts nothing
  pub names_with_clean : (branch : List ℕ) (id : Digest) → Names (record r { branches = insert r.branches branch (clean_branch id) }) number → Names r number
  names_with_clean branch id names =
      elim (names_with_branches (insert r.branches branch (clean_branch id)) names) [
        | inl committed ↦ inl committed
        | inr putting ↦ elim (insert_cases r.branches branch (clean_branch id) putting.0 putting.1 putting.2) [
          | inl put ↦ absurd (puts_clean id number (subst (λ b. Puts b number) put.1 putting.3))
          | inr stood ↦ inr (record { name = putting.0; branch = putting.1; stands = stood; names = putting.3 })
        ]
      ]

  -- with a branch less it names no more
  pub names_without_branch : (branch : List ℕ) → Names (record r { branches = remove r.branches branch }) number → Names r number
  names_without_branch branch names =
      elim (names_with_branches (remove r.branches branch) names) [
        | inl committed ↦ inl committed
        | inr putting ↦
            inr (record { name = putting.0; branch = putting.1; stands = remove_stood r.branches branch putting.0 putting.1 putting.2; names = putting.3 })
      ]

  -- tags and settings name nothing
  pub names_without : (tags : ByteMap Digest) (notes : Notes) → Names (record r { tags = tags; notes = notes }) number → Names r number
  names_without tags notes (inl c) = inl (record { id = c.id; live = c.live; names = c.names })
  names_without tags notes (inr u) = inr (record { name = u.name; branch = u.branch; stands = u.stands; names = u.names })

  unexpired : (b : Bool) (was : Option (Unit {0})) → is_some (cond b (Some tt) was) ≡ false → is_some was ≡ false
  unexpired true was h = absurd cc
  unexpired false was h = h

  live_before : (id old : Digest) → HasLiveCommit (with_expired id r) old → HasLiveCommit r old
  live_before id old live = (
    live.0,
    unexpired (eq_by_cmp byte_order old.0 id.0) (get r.expired old.0) (ap is_some (sym (get-insert nat_list_cmp_total r.expired id.0 tt old.0)) ∙ live.1),
  )

  -- with one more commit expired it names no more
  pub names_expired : (id : Digest) → Names (with_expired id r) number → Names r number
  names_expired id (inl c) = inl (record { id = c.id; live = live_before id c.id c.live; names = c.names })
  names_expired id (inr u) = inr (record { name = u.name; branch = u.branch; stands = u.stands; names = u.names })

  -- what one more commit names is in its map, or was committed
  pub committed_with : (id : Digest) (commit : CommitRecordValue) (map : KeyMapValue) → IsCommitted (with_commit id commit map r) number
      → IsInMap map number ⊎ IsCommitted r number
  committed_with id commit map c =
      by (eq_by_cmp byte_order c.id.0 id.0)
      (ap is_some (sym (get-insert nat_list_cmp_total r.commits id.0 commit c.id.0)) ∙ c.live.0)
      (subst (λ (o : Option KeyMapValue). IsInMap (unwrap_or o empty) number) (get-insert nat_list_cmp_total r.maps id.0 map c.id.0) c.names)
    where
      by : (b : Bool) → IsSome (cond b (Some commit) (commit_of r.commits c.id)) → IsInMap (unwrap_or (cond b (Some map) (get r.maps c.id.0)) empty) number
          → IsInMap map number ⊎ IsCommitted r number
      by true there names = inl names
      by false there names = inr (record { id = c.id; live = (there, c.live.1); names = names })

  -- what it names with a draft as a branch's head is in the draft's map, or it named it
  pub names_with_draft : (cut : Cut) (branch : List ℕ) (draft : Draft) → Names (with_draft cut branch draft r) number
      → IsInMap draft.objects number ⊎ Names r number
  names_with_draft cut branch draft (inl c) =
      let commit = record_of cut r.commits draft in
      elim (committed_with (commit_id commit) commit draft.objects (record { id = c.id; live = c.live; names = c.names })) [
        | inl new ↦ inl new
        | inr old ↦ inr (inl old)
      ]
  names_with_draft cut branch draft (inr u) =
      elim (names_in_branch branch (with_head (commit_id (record_of cut r.commits draft)))
      (inr (record { name = u.name; branch = u.branch; stands = u.stands; names = u.names }))) [
        | inl stood ↦ inr stood
        | inr was ↦ elim was.2 [
          | inl sealed ↦ absurd (put_nothing number sealed)
          | inr staged ↦ inr (inr (record { name = branch; branch = was.0; stands = was.1; names = inr staged }))
        ]
      ]

-- a repository before its first commit names nothing
bare_names : (date : ℕ) (branch : List ℕ) (number : ℕ) → IsCommitted (bare_repository date branch) number → ⊥
bare_names date branch number c = let none = get-empty {X = CommitRecordValue} byte_order c.id.0 in cc c.live.0

-- and a new one too
pub new_names : (cut : Cut) (date : ℕ) (branch : List ℕ) (number : ℕ) → Names (new_repository cut date branch) number → ⊥
new_names cut date branch number (inl c) =
    let commit = record_of cut empty (first_draft date) in
    elim (committed_with (bare_repository date branch) number (commit_id commit) commit empty (record { id = c.id; live = c.live; names = c.names })) [
      | inl new ↦ in_nothing number new
      | inr old ↦ bare_names date branch number old
    ]
new_names cut date branch number (inr u) =
    elim (insert_cases empty branch (clean_branch (commit_id (record_of cut empty (first_draft date)))) u.name u.branch u.stands) [
      | inl put ↦ puts_clean (commit_id (record_of cut empty (first_draft date))) number (subst (λ b. Puts b number) put.1 u.names)
      | inr stood ↦ nothing_stands u.name u.branch stood
    ]

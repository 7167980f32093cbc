-- Which commits the rules of retention keep: what it means, and then the list of them.
use Rattle.std.specs.Prelude.{◌≡◌, ◌≤◌, ◌-◌, ◌*◌, ◌⊎◌, ◌&&◌, ◌||◌, not, nat_le, ℕ, Bool, true, false, List, [], ◌∷◌, Option, Some, None, IsSome, if◌then◌else◌}
use Rattle.std.specs.List.{Contains, filter, list_any}
use Rattle.std.specs.Str.{bytes_eq}
use Rattle.lake_values.specs.Ancestry.{Graph, commit_of, ids, same_id, back, date, first_parent, walk, IsOnWalk}
use Rattle.lake_values.specs.Settings.{RulesValue}
use Rattle.lake_base.specs.declared.digest.Digest.{Digest}
use Rattle.lake_values.specs.declared.settings.BranchDays.{BranchDays}

-- so many days before now, in seconds, and 0 where that is below 0
abbrev pub cutoff : ℕ → ℕ → ℕ
cutoff now days = now - days * 86400

-- the days of the first rule of a branch's name
abbrev pub days_in : ℕ → List BranchDays → List ℕ → ℕ
days_in otherwise [] branch = otherwise
days_in otherwise (rule ∷ rules) branch = if bytes_eq rule.branch branch then rule.days else days_in otherwise rules branch

-- the days of a branch; the default's where no rule names it
abbrev pub days_of : RulesValue → List ℕ → ℕ
days_of rules branch = days_in rules.default_days rules.branches branch

-- it is the head of a branch
abbrev pub IsHead : List (List ℕ × Digest) → Digest → Type 0
IsHead heads id = (branch : List ℕ) × Contains heads (branch, id)

-- On the walk from a head it follows, directly and away from the head, a commit dated at or after the cutoff.
pub record IsFollower (graph : Graph) (head : Digest) (limit : ℕ) (id : Digest) : Type 0 where
  pub steps : ℕ
  pub later : Digest
  pub stands : back graph steps head ≡ Some later
  pub follows : first_parent graph later ≡ Some id
  pub dated : limit ≤ date graph later

-- it is a follower on some branch's walk, by that branch's cutoff
abbrev pub IsFollowed : Graph → List (List ℕ × Digest) → RulesValue → ℕ → Digest → Type 0
IsFollowed graph heads rules now id =
    (head : List ℕ × Digest) × Contains heads head × IsFollower graph head.1 (cutoff now (days_of rules head.0)) id

-- it lies on no branch's walk, and is itself dated at or after the default cutoff
pub record IsYoung (graph : Graph) (heads : List (List ℕ × Digest)) (rules : RulesValue) (now : ℕ) (id : Digest) : Type 0 where
  pub apart : (head : List ℕ × Digest) → Contains heads head → IsOnWalk graph head.1 id → ⊥
  pub dated : cutoff now rules.default_days ≤ date graph id

-- Of the commits, those are kept: by rules each that is a head, or tagged, or followed on a walk, or young
-- beside all walks; without rules all.
abbrev pub IsKeptBy : Graph → List (List ℕ × Digest) → List Digest → Option RulesValue → ℕ → Digest → Type 0
IsKeptBy graph heads tags None now id = Unit {0}
IsKeptBy graph heads tags (Some rules) now id =
    IsHead heads id ⊎ (Contains tags id ⊎ (IsFollowed graph heads rules now id ⊎ IsYoung graph heads rules now id))

-- it is a commit of the graph, and one of those that are kept
abbrev pub IsKept : Graph → List (List ℕ × Digest) → List Digest → Option RulesValue → ℕ → Digest → Type 0
IsKept graph heads tags rules now id = IsSome (commit_of graph id) × IsKeptBy graph heads tags rules now id

-- whether this is the id
abbrev pub is_id : Digest → Option Digest → Bool
is_id id None = false
is_id id (Some other) = same_id id other

-- whether it is the head of a branch
abbrev pub is_head : List (List ℕ × Digest) → Digest → Bool
is_head heads id = list_any (λ head. same_id id head.1) heads

-- whether the walk from a head has a commit dated at or after the limit with this first parent
abbrev pub is_follower : Graph → Digest → ℕ → Digest → Bool
is_follower graph head limit id =
    list_any (λ later. is_id id (first_parent graph later) && nat_le limit (date graph later)) (walk graph head)

-- whether some branch's walk has such a commit, by that branch's cutoff
abbrev pub is_followed : Graph → List (List ℕ × Digest) → RulesValue → ℕ → Digest → Bool
is_followed graph heads rules now id =
    list_any (λ head. is_follower graph head.1 (cutoff now (days_of rules head.0)) id) heads

-- whether it lies on no branch's walk, and is itself dated at or after the default cutoff
abbrev pub is_young : Graph → List (List ℕ × Digest) → RulesValue → ℕ → Digest → Bool
is_young graph heads rules now id =
    not (list_any (λ head. list_any (same_id id) (walk graph head.1)) heads)
    && nat_le (cutoff now rules.default_days) (date graph id)

-- whether a commit is kept: by rules as a head, tagged, followed or young; without rules always
abbrev pub is_kept : Graph → List (List ℕ × Digest) → List Digest → Option RulesValue → ℕ → Digest → Bool
is_kept graph heads tags None now id = true
is_kept graph heads tags (Some rules) now id =
    is_head heads id
    || (list_any (same_id id) tags || (is_followed graph heads rules now id || is_young graph heads rules now id))

-- the kept commits, each once, in order of id
unfoldable pub kept_ids : Graph → List (List ℕ × Digest) → List Digest → Option RulesValue → ℕ → List Digest
kept_ids graph heads tags rules now = filter (is_kept graph heads tags rules now) (ids graph)

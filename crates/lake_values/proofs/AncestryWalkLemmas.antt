-- The walk of first parents: its next step, its end, and how long it can be.
use Rattle.std.proofs.Common.{◌≡◌, ℕ, zero, suc, ◌+◌, ◌<◌, ◌≤◌, arith, List, [], ◌∷◌, ◌++◌, Option, Some, None, option_map, Bor, true, false, length}
use Rattle.std.proofs.Common.{length-append, append-nil, sym, ap, subst, refl, ◌∙◌, inl, inr, add-one, below_more}
use Rattle.std.proofs.lemmas.Bool.{cases_lt}
use Rattle.std.specs.List.{slice_get}
use Rattle.std.specs.List.{Contains}
use Rattle.std.specs.Option.{option_and_then, option_copied, option_to_list, IsSome, is_some}
use Rattle.std.proofs.lemmas.Option.{slice_get_past}
use Rattle.std.proofs.lemmas.List.Elements.{Contains-append_cases, Contains-append_left, Contains-append_right}
use Rattle.lake_values.specs.Ancestry.{Graph, commit_of, parents_in, parents, generation, date, due_generation, IsGraph, first_parent, back, IsOnWalk}
use Rattle.lake_values.specs.Ancestry.{walk_within, walk}
use Rattle.lake_values.specs.Commit.{CommitRecordValue}
use Rattle.lake_values.specs.Retention.{IsFollower}
use Rattle.lake_base.specs.declared.digest.Digest.{Digest}
use Rattle.lake_values.proofs.OrderLemmas.{Contains-nothing, Contains-first, first_or_later}
use Rattle.lake_values.proofs.AncestryLemmas.{due_some}

-- a commit that was found is there
pub there_where_found : (found : Option (Bor CommitRecordValue)) (o : Option CommitRecordValue) → option_copied found ≡ o → is_some found ≡ true → IsSome o
there_where_found (Some commit) o is some = ap is_some (sym is)
there_where_found None o is some = cc

-- where none was found, there is none
pub none_where_none : (found : Option (Bor CommitRecordValue)) (o : Option CommitRecordValue) → option_copied found ≡ o → is_some found ≡ false → o ≡ None
none_where_none None o is none = sym is
none_where_none (Some commit) o is none = cc

-- the start of a walk is where it starts
pub stands_first : (o : Option CommitRecordValue) (id at : Digest) → option_map (λ commit. id) o ≡ Some at → id ≡ at
stands_first None id at stands = cc
stands_first (Some commit) id at stands = cc

-- a walk starts at a commit
pub starts : (g : Graph) (id : Digest) → IsSome (commit_of g id) → back g 0 id ≡ Some id
unfolding back
starts g id some = by (commit_of g id) some
  where
    by : (o : Option CommitRecordValue) → IsSome o → option_map (λ commit. id) o ≡ Some id
    by (Some commit) there = refl
    by None there = cc

-- one step more of a walk is the first parent of where it stands
pub back_more : (g : Graph) (n : ℕ) (id at : Digest) → back g n id ≡ Some at → back g (suc n) id ≡ first_parent g at
unfolding back
back_more g n id at stands = ap (option_and_then (first_parent g)) stands

-- a walk that has ended goes no further
pub back_past : (g : Graph) (a n : ℕ) (id : Digest) → back g a id ≡ None → a ≤ n → back g n id ≡ None
unfolding back
back_past g a zero id ended least = let same : a ≡ 0 = omega arith in subst (λ (k : ℕ). back g k id ≡ None) same ended
back_past g a (suc n) id ended least =
    elim (cases_lt n a) [
      | inl more ↦ let same : a ≡ suc n = omega arith in subst (λ (k : ℕ). back g k id ≡ None) same ended
      | inr less ↦ ap (option_and_then (first_parent g)) (back_past g a n id ended less)
    ]

-- no walk starts at what is no commit
pub no_walk : (g : Graph) (id : Digest) → commit_of g id ≡ None → back g 0 id ≡ None
unfolding back
no_walk g id none = ap (option_map (λ commit. id)) none

-- the first of some parents is below what is due after them
below_due : (g : Graph) (ids : List Digest) (parent : Digest) → slice_get ids 0 ≡ Some parent → generation g parent + 1 ≤ due_generation g ids
below_due g [] parent first = cc
below_due g (id ∷ ids) parent first =
    let same : id ≡ parent = cc in
    subst (λ (p : Digest). generation g p + 1 ≤ due_generation g (id ∷ ids)) same (omega arith)

-- a commit with a first parent is in the graph
there : (g : Graph) (id parent : Digest) (o : Option CommitRecordValue) → commit_of g id ≡ o → first_parent g id ≡ Some parent → IsSome (commit_of g id)
unfolding parents
there g id parent None is first = let none : slice_get (parents_in None) 0 ≡ Some parent =
    subst (λ (o : Option CommitRecordValue). slice_get (parents_in o) 0 ≡ Some parent) is first in cc
there g id parent (Some commit) is first = subst (λ (o : Option CommitRecordValue). IsSome o) (sym is) refl

-- a first parent is of a lesser generation
pub parent_below : (g : Graph) (id parent : Digest) → IsGraph g → first_parent g id ≡ Some parent → generation g parent + 1 ≤ generation g id
parent_below g id parent graph first =
    let due = graph id (there g id parent (commit_of g id) refl first) in
    subst (λ (n : ℕ). generation g parent + 1 ≤ n) (sym due.counted) (below_due g (parents g id) parent first)

-- a walk takes no more steps than the head's generation
pub back_within : (g : Graph) (n : ℕ) (id at : Digest) → IsGraph g → back g n id ≡ Some at → n + generation g at ≤ generation g id
unfolding back
back_within g zero id at graph stands =
    subst (λ (other : Digest). 0 + generation g other ≤ generation g id) (stands_first (commit_of g id) id at stands) (omega arith)
back_within g (suc n) id at graph stands = by (back g n id) (λ later is. back_within g n id later graph is) stands
  where
    by : (o : Option Digest) → ((later : Digest) → o ≡ Some later → n + generation g later ≤ generation g id) → option_and_then (first_parent g) o ≡ Some at
        → suc n + generation g at ≤ generation g id
    by None within ends = cc
    by (Some later) within follows = omega (arith, within later refl, parent_below g later at graph follows)

-- the step that a loop takes
pub back_next : (g : Graph) (n : ℕ) (head at parent : Digest) → back g n head ≡ Some at → Some parent ≡ first_parent g at → back g (n + 1) head ≡ Some parent
back_next g n head at parent stands first = rw add-one (back_more g n head at stands ∙ sym first)

-- the walk ends where there is no first parent
pub back_ends : (g : Graph) (n : ℕ) (head at : Digest) → back g n head ≡ Some at → None ≡ first_parent g at → (steps : ℕ) → n < steps → back g steps head ≡ None
back_ends g n head at stands ended steps past = back_past g (suc n) steps head (back_more g n head at stands ∙ sym ended) past

-- what holds neither before a number, nor at it, nor past it, holds at none
pub nowhere : (P : ℕ → Type 0) (n : ℕ) → ((k : ℕ) → k < n → P k → ⊥) → (P n → ⊥) → ((k : ℕ) → n < k → P k → ⊥) → (k : ℕ) → P k → ⊥
nowhere P n before at past k here =
    elim (cases_lt k n) [
      | inl less ↦ before k less here
      | inr least ↦ elim (cases_lt n k) [
        | inl more ↦ past k more here
        | inr most ↦ let same : k ≡ n = omega arith in at (subst P same here)
      ]
    ]

-- it stands so many steps back
abbrev pub StandsAt : Graph → Digest → Digest → ℕ → Type 0
StandsAt g head id steps = back g steps head ≡ Some id

-- another commit doesn't stand there
stands_apart : (g : Graph) (n : ℕ) (head at id : Digest) → StandsAt g head at n → (at ≡ id → ⊥) → StandsAt g head id n → ⊥
stands_apart g n head at id stands apart here = let same : at ≡ id = cc in apart same

-- it stands at no fewer steps, nor at so many
pub stands_more : (g : Graph) (n : ℕ) (head at id : Digest) → StandsAt g head at n → ((k : ℕ) → k < n → StandsAt g head id k → ⊥) → (at ≡ id → ⊥)
    → (k : ℕ) → k < n + 1 → StandsAt g head id k → ⊥
stands_more g n head at id stands before apart = below_more (λ k. StandsAt g head id k → ⊥) n before (stands_apart g n head at id stands apart)

-- nothing is on a walk that doesn't start
pub off_no_walk : (g : Graph) (head id : Digest) → commit_of g head ≡ None → IsOnWalk g head id → ⊥
off_no_walk g head id none on =
    let ended : back g on.0 head ≡ None = back_past g 0 on.0 head (no_walk g head none) (omega arith) in
    let stands = on.1 in
    cc

-- where the walk ends, it isn't on it
pub off_ended_walk : (g : Graph) (n : ℕ) (head at id : Digest) → StandsAt g head at n → ((k : ℕ) → k < n → StandsAt g head id k → ⊥) → (at ≡ id → ⊥)
    → None ≡ first_parent g at → IsOnWalk g head id → ⊥
off_ended_walk g n head at id stands before apart ended on =
    nowhere (StandsAt g head id) n before (stands_apart g n head at id stands apart)
    (λ k past here. let none : back g k head ≡ None = back_ends g n head at stands ended k past in cc)
    on.0 on.1

-- after as many steps as the head's generation, it isn't on the walk
pub off_whole_walk : (g : Graph) (n : ℕ) (head at id : Digest) → IsGraph g → generation g head ≤ n → StandsAt g head at n
    → ((k : ℕ) → k < n → StandsAt g head id k → ⊥) → (at ≡ id → ⊥) → IsOnWalk g head id → ⊥
off_whole_walk g n head at id graph whole stands before apart on =
    nowhere (StandsAt g head id) n before (stands_apart g n head at id stands apart)
    (λ k past here. let within = back_within g k head id graph here in absurd (omega (arith, within)))
    on.0 on.1

-- so many steps back stands a commit that it follows, dated at or after the limit
abbrev pub FollowsAt : Graph → Digest → ℕ → Digest → ℕ → Type 0
FollowsAt g head limit id steps = (later : Digest) × (back g steps head ≡ Some later) × (first_parent g later ≡ Some id) × (limit ≤ date g later)

-- a follower follows at its steps
pub follower_at : (g : Graph) (head : Digest) (limit : ℕ) (id : Digest) (f : IsFollower g head limit id) → FollowsAt g head limit id f.steps
follower_at g head limit id f = (f.later, f.stands, f.follows, f.dated)

-- of a commit that stands there
pub follows_here : (g : Graph) (n : ℕ) (head at : Digest) (limit : ℕ) (id : Digest) → StandsAt g head at n → FollowsAt g head limit id n
    → (first_parent g at ≡ Some id) × (limit ≤ date g at)
follows_here g n head at limit id stands follows =
    let same : follows.0 ≡ at = let e : Some follows.0 ≡ Some at = sym follows.1 ∙ stands in cc in
    subst (λ (later : Digest). (first_parent g later ≡ Some id) × (limit ≤ date g later)) same (follows.2, follows.3)

-- it follows nothing on a walk that doesn't start
pub no_follower_started : (g : Graph) (head : Digest) (limit : ℕ) (id : Digest) → commit_of g head ≡ None → IsFollower g head limit id → ⊥
no_follower_started g head limit id none f =
    let ended : back g f.steps head ≡ None = back_past g 0 f.steps head (no_walk g head none) (omega arith) in
    let stands = f.stands in
    cc

-- where the walk ends, it follows no such commit
pub no_follower_ended : (g : Graph) (n : ℕ) (head at : Digest) (limit : ℕ) (id : Digest) → StandsAt g head at n
    → ((k : ℕ) → k < n → FollowsAt g head limit id k → ⊥)
    → None ≡ first_parent g at → IsFollower g head limit id → ⊥
no_follower_ended g n head at limit id stands before ended f =
    nowhere (FollowsAt g head limit id) n before
    (λ here. let none : None ≡ Some id = ended ∙ (follows_here g n head at limit id stands here).0 in cc)
    (λ k past here. let none : None ≡ Some here.0 = sym (back_ends g n head at stands ended k past) ∙ here.1 in cc)
    f.steps (follower_at g head limit id f)

-- it follows one at fewer steps than the head's generation
follows_below : (g : Graph) (n : ℕ) (head : Digest) (limit : ℕ) (id : Digest) → IsGraph g → FollowsAt g head limit id n → n < generation g head
follows_below g n head limit id graph follows =
    let within = back_within g n head follows.0 graph follows.1 in
    let below = parent_below g follows.0 id graph follows.2 in
    omega (arith, within, below)

-- after as many steps as the head's generation, it follows no such commit
pub no_follower_whole : (g : Graph) (n : ℕ) (head : Digest) (limit : ℕ) (id : Digest) → IsGraph g → generation g head ≤ n
    → ((k : ℕ) → k < n → FollowsAt g head limit id k → ⊥)
    → IsFollower g head limit id → ⊥
no_follower_whole g n head limit id graph whole before f =
    let at = follower_at g head limit id f in
    let below = follows_below g f.steps head limit id graph at in
    let least : f.steps < n = omega (arith, below, whole) in
    before f.steps least at

-- ---- the walk as a list

first_stands : (ids : List Digest) (id : Digest) → slice_get ids 0 ≡ Some id → Contains ids id
first_stands [] id e = cc
first_stands (x ∷ ids) id e = let same : x ≡ id = cc in subst (Contains (x ∷ ids)) same (Contains-first x ids)

-- what stands back from a commit of a graph is a commit
pub back_there : (g : Graph) (n : ℕ) (id at : Digest) → IsGraph g → back g n id ≡ Some at → IsSome (commit_of g at)
unfolding back
back_there g zero id at graph stands = by (commit_of g id) refl stands
  where
    by : (o : Option CommitRecordValue) → commit_of g id ≡ o → option_map (λ commit. id) o ≡ Some at → IsSome (commit_of g at)
    by None e stands = cc
    by (Some commit) e stands = let same : id ≡ at = cc in subst (λ d. IsSome (commit_of g d)) same (ap is_some e)
back_there g (suc n) id at graph stands = by (back g n id) stands
  where
    by : (o : Option Digest) → option_and_then (first_parent g) o ≡ Some at → IsSome (commit_of g at)
    by None ends = cc
    by (Some later) follows = (graph later (there g later at (commit_of g later) refl follows)).whole at (first_stands (parents g later) at follows)

option_holds : (o : Option Digest) (id : Digest) → Contains (option_to_list o) id → o ≡ Some id
option_holds None id within = absurd (Contains-nothing id within)
option_holds (Some x) id within = elim (first_or_later x id [] within) [
  | inl same ↦ ap Some same
  | inr later ↦ absurd (Contains-nothing id later)
]

option_has : (o : Option Digest) (id : Digest) → o ≡ Some id → Contains (option_to_list o) id
option_has None id e = cc
option_has (Some x) id e = let same : x ≡ id = cc in subst (Contains (x ∷ [])) same (Contains-first x [])

-- what stands on the walk stands so many steps back
pub within_from : (g : Graph) (n : ℕ) (head id : Digest) → Contains (walk_within n g head) id → (k : ℕ) × (back g k head ≡ Some id)
within_from g zero head id within = absurd (Contains-nothing id within)
within_from g (suc n) head id within = elim (Contains-append_cases (walk_within n g head) (option_to_list (back g n head)) id within) [
  | inl before ↦ within_from g n head id before
  | inr last ↦ (n, option_holds (back g n head) id last)
]

pub within_to : (g : Graph) (n k : ℕ) (head id : Digest) → k < n → back g k head ≡ Some id → Contains (walk_within n g head) id
within_to g zero k head id below stands = absurd (omega arith)
within_to g (suc n) k head id below stands = elim (cases_lt k n) [
  | inl less ↦ Contains-append_left (walk_within n g head) (option_to_list (back g n head)) id (within_to g n k head id less stands)
  | inr least ↦
      let same : k ≡ n = omega arith in
      Contains-append_right (walk_within n g head) (option_to_list (back g n head)) id
      (option_has (back g n head) id (subst (λ (m : ℕ). back g m head ≡ Some id) same stands))
]

pub walk_from : (g : Graph) (head id : Digest) → Contains (walk g head) id → IsOnWalk g head id
unfolding walk
walk_from g head id within = within_from g (generation g head) head id within

pub walk_to : (g : Graph) → IsGraph g → (head id : Digest) → IsOnWalk g head id → Contains (walk g head) id
unfolding walk
walk_to g graph head id on =
    let steps = back_within g on.0 head id graph on.1 in
    let due = (graph id (back_there g on.0 head id graph on.1)).counted in
    let some = due_some g (parents g id) in
    within_to g (generation g head) on.0 head id (omega (arith, steps, due, some)) on.1

-- ---- its places

-- no list of so many steps is longer
walk_short : (g : Graph) (n : ℕ) (head : Digest) → length (walk_within n g head) ≤ n
walk_short g zero head = omega arith
walk_short g (suc n) head =
    let rest = walk_short g n head in
    let both = length-append (walk_within n g head) (option_to_list (back g n head)) in
    let one = at_most_one (back g n head) in
    omega (arith, rest, both, one)
  where
    at_most_one : (o : Option Digest) → length (option_to_list o) ≤ 1
    at_most_one None = omega arith
    at_most_one (Some x) = omega arith

-- where the walk goes on, it has a commit for each step before
walk_long : (g : Graph) (n : ℕ) (head at : Digest) → back g n head ≡ Some at → length (walk_within n g head) ≡ n
unfolding back
walk_long g zero head at stands = refl
walk_long g (suc n) head at stands = by (back g n head) refl stands (λ later e. walk_long g n head later e)
  where
    by : (o : Option Digest) → back g n head ≡ o → option_and_then (first_parent g) o ≡ Some at
        → ((later : Digest) → back g n head ≡ Some later → length (walk_within n g head) ≡ n)
        → length (walk_within n g head ++ option_to_list (back g n head)) ≡ suc n
    by None e ends rest = cc
    by (Some later) e follows rest =
        let long = rest later e in
        let both = length-append (walk_within n g head) (option_to_list (back g n head)) in
        let one : length (option_to_list (back g n head)) ≡ 1 = ap (λ o. length (option_to_list o)) e in
        omega (arith, long, both, one)

get_before : (xs ys : List Digest) (k : ℕ) → k < length xs → slice_get (xs ++ ys) k ≡ slice_get xs k
get_before [] ys k lt = absurd (omega arith)
get_before (x ∷ xs) ys zero lt = refl
get_before (x ∷ xs) ys (suc k) lt = get_before xs ys k (omega arith)

get_last : (xs : List Digest) (x : Digest) (k : ℕ) → k ≡ length xs → slice_get (xs ++ x ∷ []) k ≡ Some x
get_last [] x zero e = refl
get_last [] x (suc k) e = absurd (omega arith)
get_last (y ∷ xs) x zero e = absurd (omega arith)
get_last (y ∷ xs) x (suc k) e = get_last xs x k (omega arith)

-- at each place stands the commit so many first parents back
walk_at : (g : Graph) (n k : ℕ) (head : Digest) → k < n → slice_get (walk_within n g head) k ≡ back g k head
walk_at g zero k head below = absurd (omega arith)
walk_at g (suc n) k head below = by (back g n head) refl (λ less. walk_at g n k head less)
  where
    by : (o : Option Digest) → back g n head ≡ o → (k < n → slice_get (walk_within n g head) k ≡ back g k head)
        → slice_get (walk_within n g head ++ option_to_list o) k ≡ back g k head
    by None e rest =
        ap (λ l. slice_get l k) (append-nil (walk_within n g head))
        ∙ elim (cases_lt k n) [
          | inl less ↦ rest less
          | inr least ↦
              let same : n ≡ k = omega arith in
              let short = walk_short g n head in
              slice_get_past (walk_within n g head) k (omega (arith, short, least)) ∙ sym e ∙ ap (λ m. back g m head) same
        ]
    by (Some at) e rest =
        let long = walk_long g n head at e in
        elim (cases_lt k n) [
          | inl less ↦ get_before (walk_within n g head) (at ∷ []) k (omega (arith, long, less)) ∙ rest less
          | inr least ↦
              let same : n ≡ k = omega arith in
              get_last (walk_within n g head) at k (omega (arith, long, same)) ∙ sym e ∙ ap (λ m. back g m head) same
        ]

-- nothing stands at as many steps back as the head's generation counts
walk_over : (g : Graph) → IsGraph g → (head : Digest) (n : ℕ) → generation g head ≤ n → back g n head ≡ None
walk_over g graph head n past = by (back g n head) refl
  where
    by : (o : Option Digest) → back g n head ≡ o → o ≡ None
    by None e = refl
    by (Some id) e =
        let steps = back_within g n head id graph e in
        let due = (graph id (back_there g n head id graph e)).counted in
        let some = due_some g (parents g id) in
        absurd (omega (arith, steps, due, some, past))

pub walk_places : (g : Graph) → IsGraph g → (head : Digest) (n : ℕ) → slice_get (walk g head) n ≡ back g n head
unfolding walk
walk_places g graph head n = elim (cases_lt n (generation g head)) [
  | inl less ↦ walk_at g (generation g head) n head less
  | inr least ↦
      let short = walk_short g (generation g head) head in
      slice_get_past (walk_within (generation g head) g head) n (omega (arith, short, least)) ∙ sym (walk_over g graph head n least)
]

-- Commits are put one after the other, and tokens are told of.
use Rattle.std.proofs.Common.{All, Global, subst, ◌≡◌, ◌<◌, ◌+◌, ◌||◌, ℕ, Bool, true, false, cond, List, [], ◌∷◌, ◌++◌, drop, get_or, length, map, Option, Some, refl, sym, ap, ◌∙◌, arith}
use Rattle.std.specs.Bool.{nat_eq}
use Rattle.std.specs.Ordering.{is_eq, nat_cmp, MatchOrdering}
use Rattle.std.specs.declared.cmp.Ordering.{Ordering}
use Rattle.std.specs.declared.sync.Arc.{Arc}
use Rattle.std.specs.declared.cmp.Ordering.TheVariants.{Less, Equal, Greater}
use Rattle.std.proofs.lemmas.Cmp.{ranked}
use Rattle.std.specs.List.{Contains}
use Rattle.std.proofs.lemmas.List.{drop_more, get_or-map, length-map}
use Rattle.std.proofs.lemmas.List.Elements.{Contains-get_or}
use Rattle.std.proofs.lemmas.Bool.Decides.{nat_tests}
use Rattle.meta_range.specs.declared.tree.Tree.{Tree}
use Rattle.meta_range.specs.Ranges.{TreeValue}
use Rattle.branch_record.specs.Record.{is_among}
use Rattle.core_state.specs.LakeStates.{LakeStateValue}
use Rattle.core_filling.specs.declared.commits.ReadCommit.{ReadCommit}
use Rattle.core_filling.specs.Filling.{commit_read, with_commits, with_read}

-- the last of the commits is put first
pub last_first : (rest : List ReadCommit) (read : ReadCommit) (l : LakeStateValue)
    → with_commits (map commit_read (rest ++ read ∷ [])) l ≡ with_commits (map commit_read rest) (with_read (commit_read read) l)
last_first [] read l = refl
last_first (c ∷ rest) read l = ap (with_read (commit_read c)) (last_first rest read l)

-- one token is another one, by order or by a test
same_test : (x t : ℕ) → is_eq (nat_cmp x t) ≡ nat_eq x t
same_test x t = by (nat_cmp x t) (ranked x t (nat_cmp x t) refl)
  where
    by : (r : Ordering) → MatchOrdering r (x < t) (x ≡ t) (t < x) → is_eq r ≡ nat_eq x t
    by Less below = grind (arith, nat_tests)
    by Equal same = grind (arith, nat_tests)
    by Greater above = grind (arith, nat_tests)

-- what is told of a token, after one was told of and others are to come
pub token_told : {A : Type 0} (x : ℕ) (rest : List ℕ) (t : ℕ) (place : A) (now before : Option A)
    → now ≡ cond (is_eq (nat_cmp x t)) (Some place) before
    → cond (is_among rest t) (Some place) now ≡ cond (is_among (x ∷ rest) t) (Some place) before
token_told {A} x rest t place now before is =
    ap (cond (is_among rest t) (Some place)) (is ∙ ap (λ b. cond b (Some place) before) (same_test x t)) ∙ by (is_among rest t) (nat_eq x t)
  where
    by : (a b : Bool) → cond a (Some place) (cond b (Some place) before) ≡ cond (b || a) (Some place) before
    by true true = refl
    by true false = refl
    by false true = refl
    by false false = refl

-- the same, where the tokens to come are those from a place on
pub told_on : {A : Type 0} (tokens : List ℕ) (at : ℕ) (t : ℕ) (place : A) (now before : Option A) → at < length tokens
    → now ≡ cond (is_eq (nat_cmp (get_or tokens at 0) t)) (Some place) before
    → cond (is_among (drop (at + 1) tokens) t) (Some place) now ≡ cond (is_among (drop at tokens) t) (Some place) before
told_on tokens at t place now before within is =
    token_told (get_or tokens at 0) (drop (at + 1) tokens) t place now before is
    ∙ ap (λ rest. cond (is_among rest t) (Some place) before) (sym (drop_more tokens at 0 within))

-- the tree that is shared
abbrev pub shared : Arc Tree Global → TreeValue
shared tree = tree.value

-- each of the commits is one of them
pub all_read : (reads : List ReadCommit) → All (λ read. Contains (map commit_read reads) (commit_read read)) reads
all_read reads k d within =
    let there = Contains-get_or (map commit_read reads) k (commit_read d) (omega (arith, length-map reads commit_read, within)) in
    subst (Contains (map commit_read reads)) (get_or-map commit_read reads k d (commit_read d) within) there

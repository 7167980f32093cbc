-- The counts, the tokens and the versions of a lake with a new head.
use Rattle.std.proofs.Common.{◌≡◌, ◌+◌, ◌||◌, ℕ, Bool, true, false, cond, List, [], refl, sym, ap, ◌∙◌, arith}
use Rattle.std.specs.Prelude.{Some, is_some}
use Rattle.std.specs.Bool.{nat_eq}
use Rattle.std.specs.Str.{bytes_eq}
use Rattle.std.specs.FinMap.{contains_key, empty, get, insert}
use Rattle.lake_base.specs.declared.digest.Digest.{Digest}
use Rattle.branch_record.specs.Record.{is_among}
use Rattle.branch_record.specs.Tokens.{TokenMap}
use Rattle.branch_record.proofs.TokensLemmas.{distinct_one, get_changed, kept, kept_empty}
use Rattle.lake_model.specs.Versions.{VersionsGiven, branch_version, settings_version, with_branch_version}
use Rattle.core_state.specs.BranchStates.{BranchStateValue}
use Rattle.core_state.specs.Counts.{AreCounted, AreFew, HasVersions}
use Rattle.core_state.specs.RepositoryStates.{RepositoryStateValue}
use Rattle.core_state.specs.LakeStates.{LakeStateValue}
use Rattle.core_changes.specs.FreshTokens.{AreTokensBelow, HasTokensBelow}
use Rattle.core_changes.proofs.ChangedLemmas.{all_inserted, none_inserted, same_there}
use Rattle.core_changes.proofs.CountLemmas.{AreVersionsOf, HasVersionsIn, branch_begins, lake_versions, version_elsewhere}
use Rattle.core_state.specs.NewCommits.{NewCommit, with_new_head}
use Rattle.core_changes.specs.LakeChanges.{after_new_head}
use Rattle.core_standing.proofs.KindLemmas.{with_head_version}
use Rattle.core_standing.proofs.PlaceLemmas.{Place, lake_now, repository_now}

-- ---- counts

-- they stay small: each rises by at most one
pub counts_stay : (l : LakeStateValue) (repo branch : List ℕ) (new : NewCommit) → AreFew l → AreCounted (after_new_head repo branch new l)
counts_stay l repo branch new few = record {
  references = omega arith;
  numbers = omega arith;
  versions = omega arith;
  tokens = omega arith;
}

-- ---- tokens

-- one of two, where it is the first alone
either : (test other : Bool) → (test || false) ≡ true → (test || other) ≡ true
either true other is = refl
either false other is = absurd cc

-- what stands after some tokens were emptied stood before
was_there : (tokens : TokenMap) (token : ℕ) (test : Bool) → is_some (cond test (kept empty) (get tokens token)) ≡ true
    → contains_key tokens token ≡ true
was_there tokens token true there = absurd (let none = ap is_some kept_empty in cc)
was_there tokens token false there = there

-- the tokens of a branch stay below the next one
head_below : (next version : ℕ) (id : Digest) (b : BranchStateValue) → HasTokensBelow next b
    → HasTokensBelow next (with_new_head version id b)
head_below next version id b below = record {
  distinct = distinct_one b.staging [] refl;
  named = λ token among. below.named token (either (nat_eq b.staging token) (is_among b.sealed token) among);
  used = λ token there.
      below.used token (was_there b.tokens token (is_among b.sealed token)
      (ap is_some (sym (get_changed (λ _. empty) b.tokens b.sealed token)) ∙ there));
}

module _ (l : LakeStateValue) (repo branch : List ℕ) (place : Place l repo branch) (new : NewCommit) where
  pub tokens_stay : AreTokensBelow l → AreTokensBelow (lake_now l repo branch place new)
  tokens_stay below = λ q r name b is there.
      all_inserted (λ q r. (name : List ℕ) (b : BranchStateValue) → get r.branches name ≡ Some b → HasTokensBelow l.next_token b)
      l.repositories repo (repository_now l repo branch place new)
      (λ q tie. all_inserted (λ n x. HasTokensBelow l.next_token x) place.r.branches branch (with_new_head l.next_version new.id place.b)
      (λ n same. head_below l.next_token l.next_version new.id place.b
      (below repo place.r branch place.b place.in_lake place.in_repository))
      (λ n x apart has. below repo place.r n x place.in_lake has))
      (λ q r apart stands n x has. below q r n x stands has)
      q r is name b there

  -- ---- versions

  module _ (given : VersionsGiven) (has : HasVersions given l) where
    -- the repository before its branch has the head, with its commits
    abbrev with_commits : RepositoryStateValue
    with_commits =
        record place.r { commits = insert place.r.commits new.id.0 new.content; trees = insert place.r.trees new.id.0 new.tree }

    -- of the repository that has the commit: the branch has the next version
    here : (q : List ℕ) → bytes_eq q repo ≡ true
        → HasVersionsIn (branch_version (with_branch_version repo branch given) q) (settings_version given q)
        (repository_now l repo branch place new)
    here q tie =
        let at : get l.repositories q ≡ Some place.r = same_there l.repositories repo q tie ∙ place.in_lake in
        branch_begins given repo branch q (settings_version given q) with_commits tie
        (record { branches = λ name b there. has.branches q place.r name b at there; settings = has.settings q place.r at })
        (with_new_head l.next_version new.id place.b) has.next

    each_rises : AreVersionsOf (branch_version (with_branch_version repo branch given)) (settings_version given)
        (lake_now l repo branch place new).repositories
    each_rises = record {
      each = λ q r is. all_inserted
          (λ q r. HasVersionsIn (branch_version (with_branch_version repo branch given) q) (settings_version given q) r)
          l.repositories repo (repository_now l repo branch place new) here
          (λ q r apart stands. record {
            branches = λ name b there. version_elsewhere given repo branch q name apart ∙ has.branches q r name b stands there;
            settings = has.settings q r stands;
          }) q r is;
      unset = λ q nothing. has.unset q (none_inserted l.repositories repo (repository_now l repo branch place new) q nothing);
    }

    pub versions_rise : HasVersions (with_head_version repo branch given) (lake_now l repo branch place new)
    versions_rise = lake_versions _ _ (ap (λ n. n + 1) has.next) (ap (λ n. n + 1) has.references) each_rises

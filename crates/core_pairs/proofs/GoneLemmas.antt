-- The pairs after a branch goes stand for the lake without it.
use Rattle.std.proofs.Common.{ℕ, List, ◌∷◌, IsSome, refl}
use Rattle.std.specs.FinMap.{remove}
use Rattle.lake_values.specs.declared.commit.ResetWhat.TheVariants.{All}
use Rattle.pair_format.specs.declared.key.OwnedKey.TheVariants as key
use Rattle.keeper.specs.Keepers.{KeptPairs, pairs_after}
use Rattle.core_state.specs.LakeStates.{LakeStateValue}
use Rattle.core_changes.specs.LakeChanges.{after_branch_delete}
use Rattle.core_puts.specs.Puts.{branch_at, delete_branch_puts, removals_of, removed_put}
use Rattle.core_pairs.specs.LakePairs.{AreTokensApart, StandFor}
use Rattle.core_pairs.proofs.ThingLemmas.{with_one}
use Rattle.core_pairs.proofs.CountsLemmas.{alike, changed_is, standing, things}
use Rattle.core_pairs.proofs.ChangeLemmas.{at_branch, branch_there, first_then, puts_of, spelled_branch}
use Rattle.core_pairs.proofs.RemovalLemmas.{stand_without, without}

pub follow_branch_delete : (pairs : KeptPairs) (l : LakeStateValue) (q name : List ℕ) → StandFor pairs l → AreTokensApart l → IsSome (branch_at q name l)
    → StandFor (pairs_after (delete_branch_puts q name l) pairs) (after_branch_delete q name l)
follow_branch_delete pairs l q name stand apart h =
    let there = branch_there l q name h in
    let b = there.b in let r = there.r in
    let all = things pairs l stand in
    let left = without l apart q r there.in_lake name b there.in_it in
    puts_of (λ b. removed_put (key.Branch q name) ∷ removals_of All b) (branch_at q name l) b (at_branch l q name r b there.in_lake there.in_it)
    pairs (after_branch_delete q name l)
    (first_then pairs (removed_put (key.Branch q name)) (removals_of All b) (after_branch_delete q name l)
    (standing _ (after_branch_delete q name l)
    (alike _ (with_one l q left) (after_branch_delete q name l)
    (record {
      repositories = changed_is l.repositories q (λ r. record r { branches = remove r.branches name }) r there.in_lake;
      gone = refl;
      numbers = refl;
      versions = refl;
      tokens = refl;
    })
    (stand_without l apart q r there.in_lake name b there.in_it pairs all (spelled_branch pairs l all q r there.in_lake name b there.in_it).named))))

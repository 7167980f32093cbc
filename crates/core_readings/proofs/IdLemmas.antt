-- What is read by the id of a commit.
use Rattle.std.proofs.Common.{◌≡◌, Bool, true, false, not, ◌&&◌, List, ℕ, Some, None, Option, refl, sym, ap, ◌∙◌}
use Rattle.std.specs.Prelude.{Ok, if◌then◌else◌}
use Rattle.std.specs.Option.{is_some, option_map_or}
use Rattle.std.specs.FinMap.{get}
use Rattle.lake_base.specs.Digest.{encode_lower}
use Rattle.lake_base.specs.declared.digest.Digest.{Digest}
use Rattle.lake_values.specs.Ancestry.{commit_of}
use Rattle.lake_values.specs.Commit.{CommitRecordValue}
use Rattle.lake_format.specs.declared.cut.Cut.{Cut}
use Rattle.lake_model.specs.declared.history.HistoryEntry.{HistoryEntry}
use Rattle.lake_model.specs.State.{HasCommit, HasRepository, Repository, State, map_of, now_map}
use Rattle.lake_model.specs.History.{IsLegal, replay}
use Rattle.lake_model.specs.Readings.{◌then◌, expression_map, map_at}
use Rattle.lake_model.specs.Resolving.{by_id, is_plain_branch, moved_target}
use Rattle.lake_model.specs.Soundness.{IsSound, IsSoundRepository}
use Rattle.lake_laws.proofs.BasesLemmas.{stays}
use Rattle.lake_laws.proofs.SoundnessLemmas.{IsSound-replay}
use Rattle.lake_laws.proofs.IdTextLemmas.{name_by_id, no_branch}

module _ (cut : Cut) (r : Repository) (sound : IsSoundRepository cut r) (id : Digest) (there : HasCommit r id) where
  module _ (at : Bool) where
    no_plain_branch : is_plain_branch r (by_id id at) ≡ false
    no_plain_branch = (λ i. not at && is_some (no_branch cut r sound id there i)) ∙ never at
      where
        never : (b : Bool) → (not b && false) ≡ false
        never true = refl
        never false = refl

    own_map : map_at r (by_id id at) id ≡ map_of r id
    own_map = ap (λ b. if b then option_map_or (now_map r) (get r.branches (encode_lower id.0)) (map_of r id) else map_of r id) no_plain_branch

    -- its own map
    pub map_by_id : expression_map r (by_id id at) ≡ Ok (map_of r id)
    map_by_id = ap (λ o. moved_target r (by_id id at) o then λ to. Ok (map_at r (by_id id at) to)) (name_by_id cut r sound id there) ∙ ap Ok own_map

-- and the same one after a legal history
module _ (state : State) (entries : List HistoryEntry) (repo : List ℕ) (r : Repository) (id : Digest) (at : Bool) (sound : IsSound state)
    (legal : IsLegal state entries) (is : get state.repositories repo ≡ Some r) where
  map_later : (c : CommitRecordValue) → commit_of r.commits id ≡ Some c
      → HasRepository (replay state entries) repo (λ s. expression_map s (by_id id at) ≡ expression_map r (by_id id at))
  map_later c has =
      let found = stays state entries repo r sound legal is id c has in
      let s = found.0 in
      let first = map_by_id state.cut r (sound.repositories repo r is) id (ap is_some has) at in
      let last = map_by_id (replay state entries).cut s ((IsSound-replay state entries sound legal).repositories repo s found.1) id (ap is_some found.2.0) at in
      (s, found.1, last ∙ ap Ok found.2.1 ∙ sym first)

  pub same_map_by_id : HasCommit r id → HasRepository (replay state entries) repo (λ s. expression_map s (by_id id at) ≡ expression_map r (by_id id at))
  same_map_by_id = by (commit_of r.commits id) refl
    where
      by : (o : Option CommitRecordValue) → commit_of r.commits id ≡ o → HasCommit r id
          → HasRepository (replay state entries) repo (λ s. expression_map s (by_id id at) ≡ expression_map r (by_id id at))
      by (Some c) has there = map_later c has
      by None has there = let none = ap is_some has in absurd cc

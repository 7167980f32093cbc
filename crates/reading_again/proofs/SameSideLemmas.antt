-- What stands in one of two lakes, for which the same pairs stand, stands in the other.
use Rattle.std.proofs.Common.{◌≡◌, ℕ, true, List, Some, IsSomeAnd, refl, sym, ap, subst, ◌∙◌}
use Rattle.std.specs.FinMap.{contains_key, get}
use Rattle.lake_base.specs.Maps.{HasAscendingKeys}
use Rattle.lake_base.specs.declared.digest.Digest.{Digest}
use Rattle.lake_values.specs.declared.entry.Change.{Change}
use Rattle.lake_values.specs.declared.settings.Note.{Note}
use Rattle.lake_values.specs.declared.settings.NoteName.{NoteName}
use Rattle.branch_record.specs.Record.{is_among}
use Rattle.branch_record.specs.Tokens.{changes_under}
use Rattle.lake_model.specs.NoteChanges.{note_at}
use Rattle.pair_format.specs.declared.pair.Pair.{Pair}
use Rattle.pair_format.specs.declared.stored.Stored.{Stored}
use Rattle.pair_format.specs.declared.stored.Stored.TheVariants as stored
use Rattle.keeper.specs.Keepers.{entries_of}
use Rattle.pair_trees.specs.SettingTexts.{IsTextOf}
use Rattle.pair_trees.specs.Things.{kept_of}
use Rattle.core_state.specs.BranchStates.{BranchStateValue, tokens_of}
use Rattle.core_state.specs.RepositoryStates.{RepositoryStateValue}
use Rattle.core_state.specs.LakeStates.{LakeStateValue}
use Rattle.core_puts.specs.Puts.{note_text}
use Rattle.core_pairs.specs.LakePairs.{AreTokensApart, IsFile, StandFor, StandsIn}
use Rattle.core_pairs.proofs.ThingLemmas.{HasChange, IsBranchThere, IsRecord, IsRepository, branch_closed, branch_opened, closed, opened}
use Rattle.opening_laws.proofs.LayerLemmas.{held}
use Rattle.opening_laws.proofs.PairLemmas.{some_is, stands_there, there_stands}
use Rattle.reading_again.specs.ReadableLakes.{HasTexts}

module _ (pairs : List Pair) (ascend : HasAscendingKeys (entries_of pairs)) (x y : LakeStateValue) (stand_x : StandFor (kept_of pairs) x)
    (stand_y : StandFor (kept_of pairs) y) (apart_y : AreTokensApart y) where
  pub moved : (s : Stored) → (IsFile s → ⊥) → StandsIn x s → StandsIn y s
  moved s plain h = there_stands pairs y ascend stand_y s plain (stands_there pairs x ascend stand_x s h)

  -- a repository
  pub record IsRepositoryAlike (repo : List ℕ) (r : RepositoryStateValue) : Type 0 where
    pub one : RepositoryStateValue
    pub in_lake : get y.repositories repo ≡ Some one
    pub alike : IsRepository r.created r.default_branch r.settings one

  pub repository_moved : (repo : List ℕ) (r : RepositoryStateValue) → get x.repositories repo ≡ Some r → IsRepositoryAlike repo r
  repository_moved repo r in_lake =
      let other = opened (get y.repositories repo) (IsRepository r.created r.default_branch r.settings)
      (moved (stored.Repository repo r.created r.default_branch r.settings) (λ file. file)
      (closed (get x.repositories repo) (IsRepository r.created r.default_branch r.settings) r in_lake (refl, (refl, refl)))) in
      record { one = other.one; in_lake = other.is; alike = other.holds }

  module _ (repo : List ℕ) (r s : RepositoryStateValue) (in_x : get x.repositories repo ≡ Some r) (in_y : get y.repositories repo ≡ Some s) where
    pub record IsBranchAlike (name : List ℕ) (b : BranchStateValue) : Type 0 where
      pub one : BranchStateValue
      pub in_it : get s.branches name ≡ Some one
      pub alike : IsRecord b.version b.head b.staging b.sealed one

    pub branch_moved : (name : List ℕ) (b : BranchStateValue) → get r.branches name ≡ Some b → IsBranchAlike name b
    branch_moved name b in_it =
        let other = branch_opened y repo name (IsRecord b.version b.head b.staging b.sealed)
        (moved (stored.Branch repo name b.version b.head b.staging b.sealed) (λ file. file)
        (branch_closed x repo name (IsRecord b.version b.head b.staging b.sealed) r b in_x in_it (refl, (refl, (refl, refl))))) in
        let home : other.r ≡ s = some_is (sym other.in_lake ∙ in_y) in
        record { one = other.b; in_it = subst (λ home. get home.branches name ≡ Some other.b) home other.in_it; alike = other.holds }

    -- a change under a token that the branch names stands there in the other branch too
    pub change_moved : (name : List ℕ) (b other : BranchStateValue) → get r.branches name ≡ Some b → get s.branches name ≡ Some other → (token : ℕ)
        → is_among (tokens_of other) token ≡ true → (path : List ℕ) (change : Change) → get (changes_under b.tokens token) path ≡ Some change
        → get (changes_under other.tokens token) path ≡ Some change
    change_moved name b other in_r in_s token names path change at =
        let h = moved (stored.Staged token path change) (λ file. file)
        (repo, (name, branch_closed x repo name (HasChange token path change) r b in_x in_r at)) in
        by h.0 h.1.0 (branch_opened y h.0 h.1.0 (HasChange token path change) h.1.1)
      where
        by : (home own : List ℕ) → IsBranchThere y home own (HasChange token path change) → get (changes_under other.tokens token) path ≡ Some change
        by home own z =
            let among = apart_y.named token home own
            (branch_closed y home own (λ b. contains_key b.tokens token ≡ true) z.r z.b z.in_lake z.in_it (held z.b.tokens token path change z.holds)) in
            let same = apart_y.apart token repo name home own
            (branch_closed y repo name (λ b. is_among (tokens_of b) token ≡ true) s other in_y in_s names) among in
            let place : z.r ≡ s = some_is (sym z.in_lake ∙ sym (ap (get y.repositories) same.0) ∙ in_y) in
            let one : z.b ≡ other =
            some_is (sym z.in_it ∙ ap (λ (home : RepositoryStateValue). get home.branches own) place ∙ sym (ap (get s.branches) same.1) ∙ in_s) in
            subst (λ (b : BranchStateValue). get (changes_under b.tokens token) path ≡ Some change) one z.holds

    pub tag_moved : (tag : List ℕ) (id : Digest) → get r.tags tag ≡ Some id → get s.tags tag ≡ Some id
    tag_moved tag id is =
        let other = opened (get y.repositories repo) (λ s. get s.tags tag ≡ Some id)
        (moved (stored.Tag repo tag id) (λ file. file) (closed (get x.repositories repo) (λ r. get r.tags tag ≡ Some id) r in_x is)) in
        subst (λ (s : RepositoryStateValue). get s.tags tag ≡ Some id) (some_is (sym other.is ∙ in_y)) other.holds

    pub note_moved : HasTexts x → HasTexts y → (name : NoteName) (note : Note) → note_at name r.notes ≡ Some note → note_at name s.notes ≡ Some note
    note_moved texts_x texts_y name note is =
        let other = opened (get y.repositories repo) (λ s. IsSomeAnd (note_at name s.notes) (λ n. note_text n ≡ note_text note))
        (moved (stored.Note repo name (note_text note)) (λ file. file)
        (closed (get x.repositories repo) (λ r. IsSomeAnd (note_at name r.notes) (λ n. note_text n ≡ note_text note)) r in_x
        (closed (note_at name r.notes) (λ n. note_text n ≡ note_text note) note is refl))) in
        let home : other.one ≡ s = some_is (sym other.is ∙ in_y) in
        let its = opened (note_at name s.notes) (λ n. note_text n ≡ note_text note)
        (subst (λ (s : RepositoryStateValue). IsSomeAnd (note_at name s.notes) (λ n. note_text n ≡ note_text note)) home other.holds) in
        let there = texts_y repo s name its.one in_y its.is in
        let here = texts_x repo r name note in_x is in
        let same = subst (λ t. IsTextOf name t its.one) its.holds there in
        its.is ∙ sym same.reads ∙ here.reads

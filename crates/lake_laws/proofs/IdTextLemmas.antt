-- The text of a commit's id, as an expression, leads to the commit.
use Rattle.std.proofs.Common.{◌≡◌, ℕ, Bool, true, false, cond, List, [], ◌∷◌, Some, None, Option, option_map, refl, sym, ap, subst, ◌∙◌, inl, inr}
use Rattle.std.proofs.Common.{◌++◌}
use Rattle.std.specs.Prelude.{Ok}
use Rattle.std.specs.Option.{IsSome, is_some, option_map_or, option_or}
use Rattle.std.specs.List.{Contains, find}
use Rattle.std.specs.Str.{bytes_eq}
use Rattle.std.specs.FinMap.{get}
use Rattle.std.proofs.lemmas.Slice.Eq.{bytes_eq-Decides}
use Rattle.hex.specs.Hex.{encode_lower}
use Rattle.lake_base.specs.Names.{digest_fault, is_like_id}
use Rattle.lake_base.specs.declared.digest.Digest.{Digest}
use Rattle.lake_values.specs.Ancestry.{Graph, commit_of, ids}
use Rattle.lake_values.specs.Commit.{CommitRecordValue}
use Rattle.lake_values.proofs.AncestryLemmas.{one_id}
use Rattle.lake_values.proofs.AncestryOrderLemmas.{ids_from, ids_to}
use Rattle.lake_values.proofs.OrderLemmas.{Contains-first, Contains-later, Contains-nothing, first_or_later}
use Rattle.lake_format.specs.Spelling.{IsDigest, commit_spelling}
use Rattle.lake_format.specs.declared.cut.Cut.{Cut}
use Rattle.lake_model.specs.declared.history.HistoryEntry.{HistoryEntry}
use Rattle.lake_model.specs.State.{Branch, HasCommit, HasRepository, Repository, State, map_of, now_map}
use Rattle.lake_model.specs.History.{IsLegal, replay}
use Rattle.lake_model.specs.Resolving.{by_id, commit_named, expression_target, is_plain_branch, moved_target, name_target}
use Rattle.lake_model.specs.Readings.{◌then◌, expression_map, map_at}
use Rattle.lake_model.specs.Soundness.{IsSound, IsSoundRepository}
use Rattle.lake_laws.specs.SameCommit.{HasSameCommit}
use Rattle.lake_laws.proofs.HexLemmas.{digest_reads, read_once, text_is_like_id}
use Rattle.lake_laws.proofs.HistoryLemmas.{legal_before}
use Rattle.lake_laws.proofs.KeptCommitLemmas.{commit_stays}
use Rattle.lake_laws.proofs.Sha256Lemmas.{is_digest}
use Rattle.lake_laws.proofs.SoundnessLemmas.{IsSound-replay}

-- ---- the first of a list that passes a test

module _ {X : Type 0} (test : X → Bool) where
  -- none passes
  pub find_nothing : (xs : List X) → ((x : X) → Contains xs x → test x ≡ true → ⊥) → find test xs ≡ None
  find_nothing [] fails = refl
  find_nothing (y ∷ ys) fails =
      elim (test y) as (λ b. test y ≡ b → cond b (Some y) (find test ys) ≡ None) [
        | true ↦ λ is. absurd (fails y (Contains-first y ys) is)
        | false ↦ λ is. find_nothing ys (λ x within. fails x (Contains-later y x ys within))
      ] refl

  -- one passes, and no other does
  pub find_only : (xs : List X) (x : X) → Contains xs x → test x ≡ true → ((y : X) → test y ≡ true → y ≡ x) → find test xs ≡ Some x
  find_only [] x within passes only = absurd (Contains-nothing x within)
  find_only (y ∷ ys) x within passes only =
      elim (test y) as (λ b. test y ≡ b → cond b (Some y) (find test ys) ≡ Some x) [
        | true ↦ λ is. ap Some (only y is)
        | false ↦ λ is. elim (first_or_later y x ys within) [
          | inl same ↦ let passed : test y ≡ true = ap test same ∙ passes in absurd cc
          | inr later ↦ find_only ys x later passes only
        ]
      ] refl

-- ---- names that read as digests

-- whether an id reads as the name
abbrev pub reads : List ℕ → Digest → Bool
reads name id = bytes_eq (encode_lower id.0) name

module _ (name : List ℕ) (id : Digest) (none : digest_fault name ≡ None) (text : name ≡ encode_lower id.0) where
  -- no other id reads so
  one_reads : (other : Digest) → reads name other ≡ true → other ≡ id
  one_reads other passes =
      let same = (bytes_eq-Decides (encode_lower other.0) name).0 passes in
      sym (one_id id other (read_once id.0 other.0 (ap digest_fault (sym text) ∙ none) (sym text ∙ sym same)))

  -- the commit is there
  pub named_some : (g : Graph) → IsSome (commit_of g id) → Some id ≡ find (reads name) (ids g)
  named_some g there =
      sym (find_only (reads name) (ids g) id (ids_to g id there) ((bytes_eq-Decides (encode_lower id.0) name).1 (sym text)) one_reads)

  -- it isn't
  pub named_none : (g : Graph) → (IsSome (commit_of g id) → ⊥) → None ≡ find (reads name) (ids g)
  named_none g nowhere =
      sym (find_nothing (reads name) (ids g) (λ other within passes.
      nowhere (subst (λ i. IsSome (commit_of g i)) (one_reads other passes) (ids_from g other within))))

-- ---- a commit of a sound repository

module _ (cut : Cut) (r : Repository) (sound : IsSoundRepository cut r) (id : Digest) (there : HasCommit r id) where
  digest : IsDigest id.0
  digest = by (commit_of r.commits id) refl
    where
      by : (o : Option CommitRecordValue) → commit_of r.commits id ≡ o → IsDigest id.0
      by (Some c) is = subst IsDigest (ap (λ (d : Digest). d.0) (sym (sound.ids id c is))) (is_digest (commit_spelling c))
      by None is = let none = ap is_some is in absurd cc

  -- no name of a branch and of a tag is like an id
  none_named : {X : Type 0} (o : Option X) → (IsSome o → is_like_id (encode_lower id.0) ≡ false) → o ≡ None
  none_named None plain = refl
  none_named (Some x) plain = let like = text_is_like_id id.0 digest in let unlike = plain refl in absurd cc

  pub no_branch : get r.branches (encode_lower id.0) ≡ None
  no_branch = none_named (get r.branches (encode_lower id.0)) (sound.plain_branches (encode_lower id.0))

  no_tag : get r.tags (encode_lower id.0) ≡ None
  no_tag = none_named (get r.tags (encode_lower id.0)) (sound.plain_tags (encode_lower id.0))

  -- its text leads to it, as a name
  pub name_by_id : name_target r (encode_lower id.0) ≡ Some id
  name_by_id =
      (λ i. option_or (option_map (λ (b : Branch). b.head) (no_branch i)) (option_or (no_tag i) (commit_named r (encode_lower id.0))))
      ∙ sym (named_some (encode_lower id.0) id (digest_reads id.0 digest) refl r.commits there)

  -- and as an expression
  pub target_by_id : (at : Bool) → expression_target r (by_id id at) ≡ Ok id
  target_by_id at = ap (moved_target r (by_id id at)) name_by_id

  -- it isn't read as a branch
  not_plain : (at : Bool) → is_plain_branch r (by_id id at) ≡ false
  not_plain true = refl
  not_plain false = ap is_some no_branch

  -- its map is what is read there
  pub map_by_id : (at : Bool) → expression_map r (by_id id at) ≡ Ok (map_of r id)
  map_by_id at =
      ap (λ target. target then λ i. Ok (map_at r (by_id id at) i)) (target_by_id at)
      ∙ ap (λ test. Ok (cond test (option_map_or (now_map r) (get r.branches (encode_lower id.0)) (map_of r id)) (map_of r id))) (not_plain at)

-- a commit is led to at each later position, and is the same one
pub target_stays : (state : State) (seen history more : List HistoryEntry) (repo : List ℕ) (r : Repository) (id : Digest) (at : Bool)
    → IsSound state → seen ≡ history ++ more → IsLegal state seen → get (replay state history).repositories repo ≡ Some r → HasCommit r id
    → HasRepository (replay state seen) repo (λ s. (expression_target s (by_id id at) ≡ Ok id) × HasSameCommit r id s)
target_stays state seen history more repo r id at sound is legal stands there =
    let last = commit_stays state seen history more is legal repo r stands id there in
    let then_sound = (IsSound-replay state seen sound legal).repositories repo last.0 last.1 in
    (last.0, last.1, (target_by_id (replay state seen).cut last.0 then_sound id last.2.there at, last.2))

-- so its map is what is read at each later position
pub map_stays : (state : State) (seen history more : List HistoryEntry) (repo : List ℕ) (r : Repository) (id : Digest) (at : Bool)
    → IsSound state → seen ≡ history ++ more → IsLegal state seen → get (replay state history).repositories repo ≡ Some r → HasCommit r id
    → HasRepository (replay state seen) repo (λ s. expression_map s (by_id id at) ≡ expression_map r (by_id id at))
map_stays state seen history more repo r id at sound is legal stands there =
    let last = commit_stays state seen history more is legal repo r stands id there in
    let first_sound = (IsSound-replay state history sound (legal_before state seen history more is legal)).repositories repo r stands in
    let last_sound = (IsSound-replay state seen sound legal).repositories repo last.0 last.1 in (
      last.0,
      last.1,
      map_by_id (replay state seen).cut last.0 last_sound id last.2.there at
          ∙ ap Ok last.2.map
          ∙ sym (map_by_id (replay state history).cut r first_sound id there at),
    )

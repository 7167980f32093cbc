-- The clashes of new bytes with those that a lake in memory keeps are those that its index finds.
use Rattle.std.proofs.Common.{◌≡◌, ℕ, List, [], ◌∷◌, ◌⊎◌, inl, inr, refl, sym, ap, subst, ◌∙◌}
use Rattle.std.specs.Prelude.{Option, Some, None, is_some, option_and_then, option_map, Result}
use Rattle.std.specs.FinMap.{get}
use Rattle.std.specs.List.{Contains}
use Rattle.std.specs.Option.{option_or}
use Rattle.byte_map.proofs.ValuesLemmas.{get_map_values}
use Rattle.lake_base.specs.declared.digest.Digest.{Digest}
use Rattle.lake_values.specs.Ancestry.{commit_of}
use Rattle.lake_values.specs.Commit.{CommitRecordValue}
use Rattle.lake_values.proofs.OrderLemmas.{Contains-first, Contains-later, Contains-nothing, first_or_later}
use Rattle.lake_format.specs.Cutting.{files}
use Rattle.lake_format.specs.Spelling.{commit_spelling, file_name}
use Rattle.lake_model.specs.declared.fault.StepFault.{StepFault}
use Rattle.lake_model.specs.declared.fault.StepFault.TheVariants.{NoMemory}
use Rattle.lake_model.specs.State.{Repository, map_of}
use Rattle.lake_model.specs.Commits.{AreKept, Draft, StandsBefore, bytes_of, record_of}
use Rattle.lake_model.specs.Refusals.{Clash, IsClash, IsClashOrNone, clash_fault}
use Rattle.lake_model.specs.Soundness.{IsSound}
use Rattle.core_state.specs.Index.{HasIndex, indexed_commit}
use Rattle.core_state.specs.RepositoryStates.{RepositoryStateValue, repository_of}
use Rattle.core_state.specs.LakeStates.{LakeStateValue, state_of}
use Rattle.core_causes.specs.Clashing.{AsksForBytes, TellsOrFails, first_clash, first_twins, indexed_clash, indexed_content, other_content, other_than}
use Rattle.core_causes.proofs.FaultLemmas.{fault_none, fault_or, mapped_none, or_none, or_nothing, or_some, other_none, other_some}
use Rattle.core_causes.proofs.TwinLemmas.{AreTwinsOrNone, stands_within, twins_answer}

-- ---- what is kept is found

-- bytes that are kept under a name
pub record IsKeptAs (l : LakeStateValue) (name : Digest) (kept : List ℕ) : Type 0 where
  pub are : AreKept (state_of l) kept
  pub named : name ≡ file_name kept

-- a clash of one of some new bytes with bytes that are kept
record IsClashOf (l : LakeStateValue) (news : List (List ℕ)) (clash : Clash) : Type 0 where
  pub is_new : Contains news clash.new
  pub kept : IsKeptAs l clash.name clash.kept
  pub name_of_new : clash.name ≡ file_name clash.new
  pub apart : clash.new ≡ clash.kept → ⊥

module _ (l : LakeStateValue) (sound : IsSound (state_of l)) (index : HasIndex l) where
  -- the commit that was found of an id
  commit_at : (id : Digest) (commit : CommitRecordValue) (repo : List ℕ) (o : Option RepositoryStateValue) → get l.repositories repo ≡ o
      → option_and_then (λ r. commit_of r.commits id) o ≡ Some commit → IsKeptAs l id (commit_spelling commit)
  commit_at id commit repo None at is = absurd cc
  commit_at id commit repo (Some r) at is =
      let there : get (state_of l).repositories repo ≡ Some (repository_of r) =
      get_map_values repository_of l.repositories repo ∙ ap (option_map repository_of) at in
      record {
        are = record { repo = repo; r = repository_of r; in_lake = there; id = id; commit = commit; in_graph = is; are = inl refl };
        named = (sound.repositories repo (repository_of r) there).ids id commit is;
      }

  commit_in : (id : Digest) (commit : CommitRecordValue) (home : Option (List ℕ))
      → option_and_then (λ repo. option_and_then (λ r. commit_of r.commits id) (get l.repositories repo)) home ≡ Some commit
      → IsKeptAs l id (commit_spelling commit)
  commit_in id commit None is = absurd cc
  commit_in id commit (Some repo) is = commit_at id commit repo (get l.repositories repo) refl is

  commit_is : (id : Digest) (kept : List ℕ) (o : Option CommitRecordValue) → indexed_commit l id ≡ o → option_map commit_spelling o ≡ Some kept
      → IsKeptAs l id kept
  commit_is id kept None at is = absurd cc
  commit_is id kept (Some commit) at is =
      let same : commit_spelling commit ≡ kept = cc in
      subst (IsKeptAs l id) same (commit_in id commit (get l.names.homes id.0) at)

  -- the file that was found under a name
  file_is : (name : Digest) (kept : List ℕ) → get l.names.files name.0 ≡ Some kept → IsKeptAs l name kept
  file_is name kept is =
      let bytes = index.named name.0 kept is in
      record { are = index.kept name.0 kept is; named = λ i. record { 0 = sym bytes i } }

  -- what was found under a name is kept, and is other than the new bytes
  pub other_kept : (name : Digest) (new kept : List ℕ) → other_content l name new ≡ Some kept
      → IsKeptAs l name kept × (new ≡ kept → ⊥)
  other_kept name new kept is =
      elim (or_some (other_than new (indexed_content l name)) (other_than new (get l.names.files name.0)) kept is) [
        | inl commit ↦ (let both = other_some new (indexed_content l name) kept commit in (commit_is name kept (indexed_commit l name) refl both.0, both.1))
        | inr file ↦ (let both = other_some new (get l.names.files name.0) kept file in (file_is name kept both.0, both.1))
      ]

  -- bytes that are kept in a repository in memory are found under their name, as a commit's or a file's
  found_in : (name : Digest) (kept : List ℕ) → name ≡ file_name kept → (repo : List ℕ) (r : RepositoryStateValue) → get l.repositories repo ≡ Some r
      → (id : Digest) (commit : CommitRecordValue) → commit_of r.commits id ≡ Some commit
      → (kept ≡ commit_spelling commit) ⊎ Contains (files l.cut (map_of (repository_of r) id)) kept
      → (indexed_content l name ≡ Some kept) ⊎ (get l.names.files name.0 ≡ Some kept)
  found_in name kept named repo r at id commit has (inl is) =
      let there : get (state_of l).repositories repo ≡ Some (repository_of r) =
      get_map_values repository_of l.repositories repo ∙ ap (option_map repository_of) at in
      let same : name ≡ id = named ∙ ap file_name is ∙ sym ((sound.repositories repo (repository_of r) there).ids id commit has) in
      inl (ap (indexed_content l) same ∙ index.commits repo r id commit at has ∙ ap Some (sym is))
  found_in name kept named repo r at id commit has (inr within) =
      inr (ap (λ (n : Digest). get l.names.files n.0) named ∙ index.files repo r id kept at (ap is_some has) within)

  found_at : (name : Digest) (kept : List ℕ) → name ≡ file_name kept → (k : AreKept (state_of l) kept)
      → (o : Option RepositoryStateValue) → get l.repositories k.repo ≡ o → option_map repository_of o ≡ Some k.r
      → (indexed_content l name ≡ Some kept) ⊎ (get l.names.files name.0 ≡ Some kept)
  found_at name kept named k None at is = absurd cc
  found_at name kept named k (Some r) at is =
      let same : k.r ≡ repository_of r = cc in
      found_in name kept named k.repo r at k.id k.commit
      (ap (λ (x : Repository). commit_of x.commits k.id) (sym same) ∙ k.in_graph)
      (subst (λ (x : Repository). (kept ≡ commit_spelling k.commit) ⊎ Contains (files l.cut (map_of x k.id)) kept) same k.are)

  -- where no other bytes are found under a name, those that are kept under it are these
  pub none_other : (name : Digest) (new kept : List ℕ) → other_content l name new ≡ None → IsKeptAs l name kept → new ≡ kept
  none_other name new kept none k =
      let both = or_none (other_than new (indexed_content l name)) (other_than new (get l.names.files name.0)) none in
      elim (found_at name kept k.named k.are (get l.repositories k.are.repo) refl
      (sym (get_map_values repository_of l.repositories k.are.repo) ∙ k.are.in_lake)) [
        | inl commit ↦ other_none new (indexed_content l name) kept both.0 commit
        | inr file ↦ other_none new (get l.names.files name.0) kept both.1 file
      ]

  -- ---- the first clash of some new bytes

  clash_is : (new : List ℕ) (later : List (List ℕ)) (clash : Clash) (o : Option (List ℕ)) → other_content l (file_name new) new ≡ o
      → option_map (λ kept. record { name = file_name new; kept = kept; new = new }) o ≡ Some clash → IsClashOf l (new ∷ later) clash
  clash_is new later clash None at is = absurd cc
  clash_is new later clash (Some kept) at is =
      let both = other_kept (file_name new) new kept at in
      let found : Clash = record { name = file_name new; kept = kept; new = new } in
      let same : found ≡ clash = cc in
      subst (IsClashOf l (new ∷ later)) same (record { is_new = Contains-first new later; kept = both.0; name_of_new = refl; apart = both.1 })

  first_some : (news : List (List ℕ)) (clash : Clash) → first_clash l news ≡ Some clash → IsClashOf l news clash
  first_some [] clash is = absurd cc
  first_some (new ∷ later) clash is = elim (or_some (indexed_clash l new) (first_clash l later) clash is) [
    | inl here ↦ clash_is new later clash (other_content l (file_name new) new) refl here
    | inr there ↦ (let k = first_some later clash there in
        record { is_new = Contains-later new clash.new later k.is_new; kept = k.kept; name_of_new = k.name_of_new; apart = k.apart })
  ]

  -- where there is none, kept bytes of the name of new ones are these
  first_none : (news : List (List ℕ)) → first_clash l news ≡ None → (new kept : List ℕ) → Contains news new → AreKept (state_of l) kept
      → file_name new ≡ file_name kept → new ≡ kept
  first_none [] none new kept within are name = absurd (Contains-nothing new within)
  first_none (first ∷ later) none new kept within are name =
      let both = or_none (indexed_clash l first) (first_clash l later) none in
      elim (first_or_later first new later within) [
        | inl here ↦ sym here ∙ none_other (file_name first) first kept (mapped_none _ (other_content l (file_name first) first) both.0)
            (record { are = are; named = ap file_name here ∙ name })
        | inr there ↦ first_none later both.1 new kept there are name
      ]

  -- the first clash of a new commit, or else the first of its map's own files, is one, or there is none
  module _ (r : Repository) (draft : Draft) (news : List (List ℕ)) (bytes : bytes_of l.cut r.commits draft ≡ news) where
    kept_clash : (clash : Clash) → IsClashOf l news clash → IsClash (state_of l) r draft clash
    kept_clash clash k = record {
      is_new = subst (λ b. Contains b clash.new) (sym bytes) k.is_new;
      is_kept = inl k.kept.are;
      name_of_new = k.name_of_new;
      name_of_kept = k.kept.named;
      apart = k.apart;
    }

    told : (o : Option Clash) → first_clash l news ≡ o → (p : Option Clash) → AreTwinsOrNone (files l.cut draft.objects) p
        → IsClashOrNone (state_of l) r draft (option_or o p)
    told (Some clash) is p twins = kept_clash clash (first_some news clash is)
    told None none (Some clash) twins = record {
      is_new = Contains-later (commit_spelling (record_of l.cut r.commits draft)) clash.new (files l.cut draft.objects)
          (stands_within (files l.cut draft.objects) clash.kept clash.new twins.stands).1;
      is_kept = inr twins.stands;
      name_of_new = twins.name_of_new;
      name_of_kept = twins.name_of_kept;
      apart = twins.apart;
    }
    told None none None apart = λ clash bad. bad.apart (elim bad.is_kept [
      | inl kept ↦ first_none news none clash.new clash.kept (subst (λ b. Contains b clash.new) bytes bad.is_new) kept
          (sym bad.name_of_new ∙ bad.name_of_kept)
      | inr stands ↦ apart clash.new clash.kept stands (sym bad.name_of_new ∙ bad.name_of_kept)
    ])

    pub any_answer : (twins : Option Clash) → AreTwinsOrNone (files l.cut draft.objects) twins
        → IsClashOrNone (state_of l) r draft (option_or (first_clash l news) twins)
    any_answer twins are = told (first_clash l news) refl twins are

    -- its map has no two files
    pub first_answer : ((one other : List ℕ) → StandsBefore (files l.cut draft.objects) one other → ⊥)
        → IsClashOrNone (state_of l) r draft (first_clash l news)
    first_answer apart =
        subst (λ o. IsClashOrNone (state_of l) r draft o) (or_nothing (first_clash l news))
        (any_answer None (λ new kept stands. absurd (apart kept new stands)))

-- ---- what the test of a new commit answers

module _ (l : LakeStateValue) (sound : IsSound (state_of l)) (index : HasIndex l) (content : List ℕ) (tree : List (List ℕ)) where
  abbrev pub new_clash : Option Clash
  new_clash = option_or (first_clash l (content ∷ tree)) (first_twins [] tree)

  pub new_answer : {X : Type 0} (r : Repository) (draft : Draft) → bytes_of l.cut r.commits draft ≡ content ∷ tree
      → (answer : Result X StepFault) → TellsOrFails (clash_fault new_clash) answer → AsksForBytes (state_of l) r draft answer
  new_answer r draft are answer tells =
      let own : tree ≡ files l.cut draft.objects = cc in
      record {
        clash = new_clash;
        there = any_answer l sound index r draft (content ∷ tree) are (first_twins [] tree)
            (subst (λ all. AreTwinsOrNone all (first_twins [] tree)) own (twins_answer tree));
        tells = tells;
      }

  -- the content clashes
  pub content_told : (fault : StepFault) → (fault ≡ NoMemory) ⊎ (clash_fault (indexed_clash l content) ≡ Some fault)
      → (fault ≡ NoMemory) ⊎ (clash_fault new_clash ≡ Some fault)
  content_told fault (inl memory) = inl memory
  content_told fault (inr is) =
      inr (fault_or (first_clash l (content ∷ tree)) (first_twins [] tree) fault (fault_or (indexed_clash l content) (first_clash l tree) fault is))

  module _ (free : clash_fault (indexed_clash l content) ≡ None) where
    after_content : first_clash l (content ∷ tree) ≡ first_clash l tree
    after_content = fault_none (indexed_clash l content) (first_clash l tree) free

    -- it doesn't, and a file of the tree does
    pub files_told : (fault : StepFault) → (fault ≡ NoMemory) ⊎ (clash_fault (first_clash l tree) ≡ Some fault)
        → (fault ≡ NoMemory) ⊎ (clash_fault new_clash ≡ Some fault)
    files_told fault (inl memory) = inl memory
    files_told fault (inr is) =
        inr (fault_or (first_clash l (content ∷ tree)) (first_twins [] tree) fault (ap clash_fault after_content ∙ is))

    -- neither does, and the tree's own files are told of
    pub twins_told : {X : Type 0} (answer : Result X StepFault) → clash_fault (first_clash l tree) ≡ None
        → TellsOrFails (clash_fault (first_twins [] tree)) answer → TellsOrFails (clash_fault new_clash) answer
    twins_told answer none tells =
        let same : new_clash ≡ first_twins [] tree =
        fault_none (first_clash l (content ∷ tree)) (first_twins [] tree) (ap clash_fault after_content ∙ none) in
        subst (λ clash. TellsOrFails (clash_fault clash) answer) (sym same) tells

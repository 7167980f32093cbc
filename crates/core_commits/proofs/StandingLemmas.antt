-- A new commit with which nothing clashes is the one of its id that stands, with its tree.
use Rattle.std.proofs.Common.{◌≡◌, ◌⊎◌, ℕ, true, List, inl, inr, refl, sym, ap, subst, ◌∙◌}
use Rattle.std.proofs.lemmas.Bool.{cases_Bool}
use Rattle.std.proofs.lemmas.Slice.Eq.{bytes_eq-Decides}
use Rattle.std.specs.Prelude.{Option, Some, None, IsSome, is_some, option_map}
use Rattle.std.specs.FinMap.{empty, get}
use Rattle.std.specs.List.{Contains}
use Rattle.std.specs.Option.{unwrap_or}
use Rattle.std.specs.Str.{bytes_eq}
use Rattle.lake_values.specs.Ancestry.{commit_of}
use Rattle.lake_values.specs.Commit.{CommitRecordValue}
use Rattle.lake_values.proofs.OrderLemmas.{Contains-first, Contains-later}
use Rattle.lake_format.specs.Cutting.{files, tree_id}
use Rattle.lake_format.specs.Spelling.{commit_spelling, file_name, IsSpelledCommit}
use Rattle.meta_range.specs.Files.{Clash}
use Rattle.meta_range.specs.Ranges.{TreeValue}
use Rattle.byte_map.proofs.ValuesLemmas.{get_map_values}
use Rattle.lake_model.specs.State.{map_of}
use Rattle.lake_model.specs.Commits.{AreKept, Draft, bytes_of, record_of}
use Rattle.lake_model.specs.Refusals.{IsClashOrNone}
use Rattle.lake_model.specs.Soundness.{IsSound, IsSoundRepository}
use Rattle.core_state.specs.Index.{HasIndex}
use Rattle.core_state.specs.LakeStates.{LakeStateValue, state_of}
use Rattle.core_state.specs.NewCommits.{NewCommit, commit_of_draft}
use Rattle.core_state.specs.RepositoryStates.{RepositoryStateValue, repository_of}

-- what the limits say of a commit's bytes
abbrev pub AreSpelledApart : Type 0
AreSpelledApart = (a b : CommitRecordValue) → IsSpelledCommit a → IsSpelledCommit b → commit_spelling a ≡ commit_spelling b → a ≡ b

module _ (l : LakeStateValue) (repo : List ℕ) (r : RepositoryStateValue) (draft : Draft) (new : NewCommit)
    (sound : IsSound (state_of l)) (index : HasIndex l) (at : get l.repositories repo ≡ Some r)
    (is : new ≡ commit_of_draft l.cut r.commits draft) (none : IsClashOrNone (state_of l) (repository_of r) draft None) where
  in_state : get (state_of l).repositories repo ≡ Some (repository_of r)
  in_state = get_map_values repository_of l.repositories repo ∙ ap (option_map repository_of) at

  sound_here : IsSoundRepository l.cut (repository_of r)
  sound_here = sound.repositories repo (repository_of r) in_state

  -- new bytes that share their name with kept ones are these
  same_bytes : (one kept : List ℕ) → Contains (bytes_of l.cut r.commits draft) one → AreKept (state_of l) kept
      → file_name one ≡ file_name kept → one ≡ kept
  same_bytes one kept within are name = elim (cases_Bool (bytes_eq one kept)) [
    | inl same ↦ (bytes_eq-Decides one kept).0 same
    | inr other ↦ absurd (none (record { name = file_name one; kept = kept; new = one }) (record {
      is_new = within;
      is_kept = inl are;
      name_of_new = refl;
      name_of_kept = name;
      apart = λ equal. absurd (let same : bytes_eq one kept ≡ true = (bytes_eq-Decides one kept).1 equal in cc);
    }))
  ]

  -- the commit of its id
  pub same_commit : AreSpelledApart → (old : CommitRecordValue) → commit_of r.commits new.id ≡ Some old
      → IsSpelledCommit old → IsSpelledCommit new.content → old ≡ new.content
  same_commit apart old there limits spelled =
      let id = ap (λ (n : NewCommit). n.id) is in
      let content = ap (λ (n : NewCommit). n.content) is in
      let name : file_name (commit_spelling (record_of l.cut r.commits draft)) ≡ file_name (commit_spelling old) =
      sym id ∙ sound_here.ids new.id old there in
      let same =
      same_bytes (commit_spelling (record_of l.cut r.commits draft)) (commit_spelling old) (Contains-first _ _)
      (record { repo = repo; r = repository_of r; in_lake = in_state; id = new.id; commit = old; in_graph = there; are = inl refl }) name in
      apart old new.content limits spelled (sym same ∙ ap commit_spelling (sym content))

  -- its tree
  pub same_tree : (old : CommitRecordValue) → commit_of r.commits new.id ≡ Some old → old ≡ new.content
      → (tree : TreeValue) → get r.trees new.id.0 ≡ Some tree
      → (tree_id l.cut tree.map ≡ tree_id l.cut draft.objects
      → (files l.cut tree.map ≡ files l.cut draft.objects) ⊎ Clash (files l.cut tree.map) (files l.cut draft.objects))
      → (tree.files ≡ new.tree.files → tree ≡ new.tree) → tree ≡ new.tree
  same_tree old there same tree found named known =
      let mapped : map_of (repository_of r) new.id ≡ tree.map = map_there tree found in
      let content = ap (λ (n : NewCommit). n.content) is in
      let one : tree_id l.cut tree.map ≡ tree_id l.cut draft.objects =
      ap (tree_id l.cut) (sym mapped) ∙ sym (sound_here.trees new.id old there)
      ∙ ap (λ (c : CommitRecordValue). c.meta_range) (same ∙ content) in
      let cut = index.trees repo r new.id tree at found in
      let due : new.tree.files ≡ files l.cut draft.objects = ap (λ (n : NewCommit). n.tree.files) is in
      elim (named one) [
        | inl equal ↦ known (cut ∙ equal ∙ sym due)
        | inr clash ↦ absurd (clash.apart (sym (same_bytes clash.other clash.file (Contains-later _ clash.other _ clash.there)
            (record {
              repo = repo;
              r = repository_of r;
              in_lake = in_state;
              id = new.id;
              commit = old;
              in_graph = there;
              are = inr (subst (λ m. Contains (files l.cut m) clash.file) (sym mapped) clash.here);
            }) (sym clash.name))))
      ]
    where
      map_there : (tree : TreeValue) → get r.trees new.id.0 ≡ Some tree → map_of (repository_of r) new.id ≡ tree.map
      map_there tree found =
          ap (λ o. unwrap_or o empty) (get_map_values (λ t. t.map) r.trees new.id.0 ∙ ap (option_map (λ t. t.map)) found)

  -- where there is no such commit there is no such tree
  pub no_tree : (o : Option TreeValue) → get r.trees new.id.0 ≡ o → commit_of r.commits new.id ≡ None → o ≡ None
  no_tree None found nothing = refl
  no_tree (Some tree) found nothing =
      absurd (let mapped : get (repository_of r).maps new.id.0 ≡ Some tree.map =
      get_map_values (λ t. t.map) r.trees new.id.0 ∙ ap (option_map (λ t. t.map)) found in
      let there = sound_here.maps new.id (subst IsSome (sym mapped) refl) in
      let gone = ap is_some nothing in cc)

  -- and there is one where there is the commit
  pub some_tree : (old : CommitRecordValue) → commit_of r.commits new.id ≡ Some old → get r.trees new.id.0 ≡ None → ⊥
  some_tree old there nothing =
      let mapped : get (repository_of r).maps new.id.0 ≡ None =
      get_map_values (λ t. t.map) r.trees new.id.0 ∙ ap (option_map (λ t. t.map)) nothing in
      let some = sound_here.mapped new.id (ap is_some there) in
      absurd (let gone = ap is_some mapped in cc)

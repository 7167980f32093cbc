-- The numbers that a lake names that was read from tied pairs: they were given out, and none of them is gone.
use Rattle.std.proofs.Common.{◌≡◌, ◌⊎◌, inl, inr, ℕ, ◌<◌, true, false, List, [], ◌∷◌, ◌++◌, Some, None, Ok, IfSome}
use Rattle.std.proofs.Common.{refl, sym, ap, subst, ◌∙◌}
use Rattle.std.specs.List.{Contains}
use Rattle.std.specs.Option.{option_map_or}
use Rattle.std.specs.Ordering.{nat_cmp}
use Rattle.std.specs.Result.{result_ok}
use Rattle.std.specs.FinMap.{contains_key, get, get-empty}
use Rattle.lake_base.specs.Maps.{HasAscendingKeys}
use Rattle.lake_values.specs.Ancestry.{commit_of}
use Rattle.lake_values.specs.Commit.{CommitRecordValue}
use Rattle.lake_values.specs.Entry.{EntryValue}
use Rattle.lake_values.specs.declared.entry.Change.{Change}
use Rattle.lake_format.specs.Spelling.{file_name}
use Rattle.lake_format.specs.declared.cut.Cut.{Cut}
use Rattle.range_file.specs.RangeReading.{range_from}
use Rattle.range_file.specs.Rows.{RowValue}
use Rattle.branch_record.specs.Record.{AreDistinct, is_among}
use Rattle.branch_record.specs.Tokens.{changes_under}
use Rattle.branch_record.proofs.TokensLemmas.{first_apart, rest_distinct}
use Rattle.byte_map.proofs.ValuesLemmas.{get_map_values}
use Rattle.lake_model.specs.Naming.{IsCommitted, IsNamed, IsPut, IsUncommitted}
use Rattle.lake_model.specs.Soundness.{IsSound, IsSoundRepository}
use Rattle.lake_model.specs.State.{Branch, Repository}
use Rattle.lake_model.specs.Uncommitted.{own_number, put_number}
use Rattle.pair_format.specs.declared.pair.Pair.{Pair}
use Rattle.pair_format.specs.declared.stored.Stored.TheVariants as stored
use Rattle.keeper.specs.Keepers.{entries_of}
use Rattle.pair_trees.specs.PairTrees.{IsReadRange, numbers_in, numbers_of}
use Rattle.pair_trees.specs.Things.{IsGivenNumber, IsGone, IsThere, Things, things_of}
use Rattle.pair_trees.proofs.ProvenanceLemmas.{range_there, row_there}
use Rattle.pair_ties.specs.PairTies.{AreTied as AreTiedPairs, IsHidden, IsTiedRange, IsTiedStaged}
use Rattle.core_state.specs.BranchStates.{BranchStateValue, branch_of, tokens_of}
use Rattle.core_state.specs.RepositoryStates.{RepositoryStateValue, repository_of}
use Rattle.core_state.specs.LakeStates.{LakeStateValue, state_of}
use Rattle.core_pairs.proofs.ThingLemmas.{HasChange, IsBranchThere, IsRecord, branch_closed, branch_opened}
use Rattle.opening_laws.specs.ReadLakes.{IsReadFrom}
use Rattle.opening_laws.proofs.GraphLemmas.{commit_stands}
use Rattle.opening_laws.proofs.KeyLemmas.{staged_of_key}
use Rattle.opening_laws.proofs.LayerLemmas.{among_those, before_it, behind, filtered, first_layered, held, in_front, in_middle}
use Rattle.opening_laws.proofs.PairLemmas.{limits, some_is, stands_there, there_stands, tied_there}
use Rattle.opening_laws.proofs.SoundRepositoryLemmas.{map_is, mapped_from, some_there, sound_repository, tree, tree_read}
use Rattle.opening_laws.proofs.TieLemmas.{branch_tie, change_stands, no_history, number_given, tie_of, tokens_apart}

no : true ≡ false → ⊥
no e = cc

nothing : {X : Type 0} {x : X} → Some x ≡ None → ⊥
nothing e = cc

-- an own number of a row of a range is one of those that its file names
pub number_in : (bytes : List ℕ) (rows : List RowValue) (path : List ℕ) (entry : EntryValue) (number : ℕ) → range_from bytes ≡ Ok rows
    → Contains rows (path, entry) → own_number entry.place ≡ Some number → Contains (numbers_in bytes) number
unfolding numbers_in
number_in bytes rows path entry number is has names =
    subst (λ r. Contains (option_map_or numbers_of (result_ok r) []) number) (sym is)
    (filtered (λ (row : RowValue). own_number row.1.place) (path, entry) number names rows has)

module _ (cut : Cut) (pairs : List Pair) (l : LakeStateValue) (ascend : HasAscendingKeys (entries_of pairs)) (tied : AreTiedPairs cut (things_of pairs))
    (read : IsReadFrom cut pairs l) where
  abbrev things : Things
  things = things_of pairs

  -- a number was given out, and isn't gone
  abbrev IsFine : ℕ → Type 0
  IsFine number = (number < l.next_number) × (contains_key l.gone number ≡ true → ⊥)

  gone_there : (number : ℕ) → contains_key l.gone number ≡ true → IsGone things number
  gone_there number is =
      record { thing = stored.Gone number; there = stands_there pairs l ascend read.stand (stored.Gone number) is; under = refl }

  gone_given : (number : ℕ) → contains_key l.gone number ≡ true → number < l.next_number
  gone_given number is = number_given cut pairs l ascend tied read number (tie_of cut pairs l ascend tied read (stored.Gone number) is).tie

  module _ (repo : List ℕ) (r : RepositoryStateValue) (in_lake : get l.repositories repo ≡ Some r) where
    -- ---- in commits

    module _ (number : ℕ) (is : IsCommitted (repository_of r) number) (commit : CommitRecordValue) (at : commit_of r.commits is.id ≡ Some commit) where
      committed_in : IsFine number
      committed_in =
          let known = limits pairs l ascend read.stand in
          let t = tree cut pairs l ascend tied read repo r in_lake is.id commit at in
          let reads = tree_read cut pairs l ascend tied read repo r in_lake is.id commit at in
          let stands = ap (λ m. get m is.names.path) (sym (map_is cut pairs l ascend tied read repo r in_lake is.id commit at)) ∙ is.names.stands in
          let row = row_there cut things known commit t reads is.names.path is.names.entry stands in
          let has = number_in row.0 row.1 is.names.path is.names.entry number row.3 row.4 is.names.names in
          let commit_is_there : IsThere things (stored.Commit repo is.id false commit) =
          subst (λ expired. IsThere things (stored.Commit repo is.id expired commit)) is.live.1
          (stands_there pairs l ascend read.stand (stored.Commit repo is.id (contains_key r.expired is.id.0) commit)
          (commit_stands pairs l ascend read.stand repo r in_lake is.id commit at)) in
          let range : IsReadRange cut things false (file_name row.0) row.0 = record {
            repo = repo;
            id = is.id;
            commit = commit;
            there = commit_is_there;
            tree = t;
            read = reads;
            among = row.2;
            named = refl;
          } in
          let tie : IsTiedRange cut things (file_name row.0) row.0 =
          (tied_there cut things tied (stored.Range (file_name row.0) row.0) (range_there cut things known commit t reads row.0 row.2)).tie in
          (number_given cut pairs l ascend tied read number (tie.given false number range has), λ gone. tie.apart number range has (gone_there number gone))

    committed : (number : ℕ) → IsCommitted (repository_of r) number → IsFine number
    committed number is = let commit = some_there (commit_of r.commits is.id) is.live.0 in committed_in number is commit.one commit.is

    -- ---- in changes

    module _ (branch : List ℕ) (b : BranchStateValue) (in_it : get r.branches branch ≡ Some b) where
      distinct : AreDistinct (tokens_of b)
      distinct = (branch_tie cut pairs l ascend tied read repo r in_lake branch b in_it).distinct

      -- a branch that names a token of this one is this one
      this_one : (token : ℕ) → is_among (tokens_of b) token ≡ true → (home name : List ℕ) (Q : BranchStateValue → Type 0)
          → (other : IsBranchThere l home name Q) → is_among (tokens_of other.b) token ≡ true → other.b ≡ b
      this_one token names home name Q other among =
          let same = (tokens_apart cut pairs l ascend tied read).apart token repo branch home name
          (branch_closed l repo branch (λ b. is_among (tokens_of b) token ≡ true) r b in_lake in_it names)
          (branch_closed l home name (λ b. is_among (tokens_of b) token ≡ true) other.r other.b other.in_lake other.in_it among) in
          let r_same : other.r ≡ r = some_is (sym other.in_lake ∙ sym (ap (get l.repositories) same.0) ∙ in_lake) in
          some_is (sym other.in_it ∙ ap (λ (x : RepositoryStateValue). get x.branches name) r_same ∙ sym (ap (get r.branches) same.1) ∙ in_it)

      -- a change under a token stands at a path under a newer one
      record IsOver (token : ℕ) (path : List ℕ) : Type 0 where
        newer : List ℕ
        older : List ℕ
        is : b.sealed ≡ newer ++ token ∷ older
        over : ℕ
        among : Contains newer over
        change : Change
        at : get (changes_under b.tokens over) path ≡ Some change

      -- where it is hidden, it is under one that this branch names
      over_it : (token : ℕ) (path : List ℕ) → is_among (tokens_of b) token ≡ true → IsHidden things token path → IsOver token path
      over_it token path names h =
          let home = branch_opened l h.repo h.branch (IsRecord h.version h.head h.staging (h.newer ++ token ∷ h.older))
          (there_stands pairs l ascend read.stand (stored.Branch h.repo h.branch h.version h.head h.staging (h.newer ++ token ∷ h.older))
          (λ file. file) h.there) in
          let sealed : home.b.sealed ≡ h.newer ++ token ∷ h.older = home.holds.1.1.1 in
          let own : home.b ≡ b =
          this_one token names h.repo h.branch (IsRecord h.version h.head h.staging (h.newer ++ token ∷ h.older)) home
          (among_those (tokens_of home.b) token
          (behind home.b.staging home.b.sealed token (subst (λ s. Contains s token) (sym sealed) (in_middle h.newer h.older token)))) in
          let own_sealed : b.sealed ≡ h.newer ++ token ∷ h.older = ap (λ (x : BranchStateValue). x.sealed) (sym own) ∙ sealed in
          let thing = staged_of_key h.changed.thing h.over path h.changed.under in
          let changed = there_stands pairs l ascend read.stand (stored.Staged h.over path thing.change) (λ file. file)
          (subst (IsThere things) thing.is h.changed.there) in
          let place = branch_opened l changed.0 changed.1.0 (HasChange h.over path thing.change) changed.1.1 in
          let here : place.b ≡ b =
          this_one h.over
          (among_those (tokens_of b) h.over
          (behind b.staging b.sealed h.over (subst (λ s. Contains s h.over) (sym own_sealed) (in_front h.newer h.older token h.over h.among))))
          changed.0 changed.1.0 (HasChange h.over path thing.change) place
          (read.named changed.0 place.r changed.1.0 place.b h.over place.in_lake place.in_it (held place.b.tokens h.over path thing.change place.holds)) in
          record {
            newer = h.newer;
            older = h.older;
            is = own_sealed;
            over = h.over;
            among = h.among;
            change = thing.change;
            at = subst (λ (x : BranchStateValue). get (changes_under x.tokens h.over) path ≡ Some thing.change) here place.holds;
          }

      module _ (token : ℕ) (path : List ℕ) (change : Change) (number : ℕ) (at : get (changes_under b.tokens token) path ≡ Some change)
          (names : put_number change ≡ Some number) where
        change_tie : IsTiedStaged things token path change
        change_tie =
            (tie_of cut pairs l ascend tied read (stored.Staged token path change)
            (change_stands cut pairs l ascend tied read repo r in_lake branch b in_it token path change at)).tie

        given : number < l.next_number
        given = number_given cut pairs l ascend tied read number (subst (λ o. IfSome o (λ n. IsGivenNumber things n)) names change_tie.given)

        -- a change whose number is gone is hidden
        over_gone : contains_key l.gone number ≡ true → IsOver token path
        over_gone gone =
            over_it token path
            (read.named repo r branch b token in_lake in_it (held b.tokens token path change at))
            (subst (λ o. IfSome o (λ n. IsGone things n → IsHidden things token path)) names change_tie.apart (gone_there number gone))

      staged : (number : ℕ) → IsPut (changes_under b.tokens b.staging) number → IsFine number
      staged number put = (
        given b.staging put.path put.change number put.stands put.names,
        λ gone. apart (over_gone b.staging put.path put.change number put.stands put.names gone),
      )
        where
          apart : IsOver b.staging put.path → ⊥
          apart over =
              no (sym (among_those b.sealed b.staging (subst (λ s. Contains s b.staging) (sym over.is) (in_middle over.newer over.older b.staging)))
              ∙ first_apart b.staging b.sealed distinct)

      sealed : (number : ℕ) → IsPut (branch_of b).sealed number → IsFine number
      sealed number put =
          let first = first_layered b.tokens b.sealed put.path put.change put.stands in (
            given first.token put.path put.change number first.at put.names,
            λ gone.
                let over = over_gone first.token put.path put.change number first.at put.names gone in
                let newer = before_it first.newer over.newer first.older over.older first.token over.over (sym first.is ∙ over.is)
                (subst AreDistinct first.is (rest_distinct b.staging b.sealed distinct)) over.among in
                nothing (sym over.at ∙ first.none over.over newer),
          )

    uncommitted : (number : ℕ) → IsUncommitted (repository_of r) number → IsFine number
    uncommitted number is =
        let from = mapped_from branch_of (get r.branches is.name) is.branch (sym (get_map_values branch_of r.branches is.name) ∙ is.stands) in
        by from.one from.is (subst (λ (x : Branch). IsPut x.sealed number ⊎ IsPut x.staged number) (sym from.same) is.names)
      where
        by : (b : BranchStateValue) → get r.branches is.name ≡ Some b → IsPut (branch_of b).sealed number ⊎ IsPut (branch_of b).staged number → IsFine number
        by b at (inl put) = sealed is.name b at number put
        by b at (inr put) = staged is.name b at number put

  -- ---- in the lake

  fine : (number : ℕ) → IsNamed (state_of l) number → IsFine number
  fine number (inl n) =
      let from = mapped_from repository_of (get l.repositories n.name) n.repository (sym (get_map_values repository_of l.repositories n.name) ∙ n.stands) in
      by n.name from.one from.is (subst (λ (x : Repository). IsCommitted x number ⊎ IsUncommitted x number) (sym from.same) n.names)
    where
      by : (name : List ℕ) (r : RepositoryStateValue) → get l.repositories name ≡ Some r
          → IsCommitted (repository_of r) number ⊎ IsUncommitted (repository_of r) number → IsFine number
      by name r at (inl is) = committed name r at number is
      by name r at (inr is) = uncommitted name r at number is
  fine number (inr some) =
      let none : get l.tickets number ≡ None = ap (λ t. get t number) (no_history cut pairs l ascend tied read).tickets ∙ get-empty nat_cmp number in
      let ticket = some_there (get l.tickets number) some in
      absurd (nothing (sym ticket.is ∙ none))

  pub sound : IsSound (state_of l)
  sound = record {
    repositories = λ name repository at.
        let from = mapped_from repository_of (get l.repositories name) repository (sym (get_map_values repository_of l.repositories name) ∙ at) in
        subst (IsSoundRepository l.cut) from.same (sound_repository cut pairs l ascend tied read name from.one from.is);
    named = λ number is. (fine number is).0;
    gone = λ number is. gone_given number is;
    apart = λ number is named. (fine number named).1 is;
  }

-- Tags, settings and changes under tokens join a lake that has its repositories and branches.
use Rattle.std.proofs.Common.{◌≡◌, ◌⊎◌, ◌||◌, inl, inr, ℕ, Bool, true, false, cond, List, ◌∷◌, Option, Some, None, IsSomeAnd, IfSome, refl, sym, ap, subst, ◌∙◌}
use Rattle.std.specs.Prelude.{is_some, option_and_then, option_map}
use Rattle.std.specs.Bool.{nat_eq}
use Rattle.std.specs.Option.{option_map_or}
use Rattle.std.specs.Ordering.{nat_cmp}
use Rattle.std.specs.FinMap.{contains_key, empty, get, insert, get-empty}
use Rattle.std.proofs.lemmas.Bool.{eqb-true}
use Rattle.serde_json.specs.Data.{Data}
use Rattle.lake_base.specs.Maps.{ByteMap}
use Rattle.lake_base.specs.declared.digest.Digest.{Digest}
use Rattle.lake_values.specs.KeyMap.{ChangesValue}
use Rattle.lake_values.specs.NoteNames.{note_name}
use Rattle.lake_values.specs.declared.entry.Change.{Change}
use Rattle.lake_values.specs.declared.settings.Note.{Note}
use Rattle.lake_values.specs.declared.settings.Note.TheVariants as setting
use Rattle.lake_values.specs.declared.settings.NoteName.{NoteName}
use Rattle.lake_values.specs.declared.settings.NoteName.TheVariants as name
use Rattle.lake_format.specs.declared.cut.Cut.{Cut}
use Rattle.branch_record.specs.Record.{is_among}
use Rattle.branch_record.specs.Tokens.{changes_under, with_change}
use Rattle.branch_record.proofs.TokensLemmas.{get_with, kept}
use Rattle.lake_model.specs.NoteChanges.{with_note}
use Rattle.pair_format.specs.declared.key.OwnedKey.TheVariants as key
use Rattle.pair_format.specs.declared.stored.Stored.{Stored}
use Rattle.pair_format.specs.declared.stored.Stored.TheVariants as stored
use Rattle.pair_format.specs.PairSpelling.{IsSpelledStored, key_of}
use Rattle.pair_trees.specs.SettingTexts.{IsKeptText, IsTextOf, data_of, setting_of}
use Rattle.pair_trees.specs.Things.{HasKey, IsThere, Things}
use Rattle.core_state.specs.BranchStates.{BranchStateValue, tokens_of}
use Rattle.core_state.specs.RepositoryStates.{RepositoryStateValue}
use Rattle.core_state.specs.LakeStates.{LakeStateValue}
use Rattle.core_puts.specs.Puts.{note_text}
use Rattle.core_filling.specs.Parts.{with_token_change}
use Rattle.core_pairs.specs.LakePairs.{AreTokensApart, HasBranchIn}
use Rattle.core_pairs.proofs.ApartLemmas.{branch_apart, repository_apart}
use Rattle.core_pairs.proofs.CountsLemmas.{changed_is}
use Rattle.core_pairs.proofs.RepositoryPutLemmas.{is_set, makes_note, makes_tag, with_notes, with_tags}
use Rattle.core_pairs.proofs.StagedLemmas.{makes_staged, own_names, with_staged}
use Rattle.core_pairs.proofs.ThingLemmas.{IsBranchThere, IsRecord, branch_closed, branch_opened, with_all, with_one}
use Rattle.opening_parts.specs.Filled.{branched_lake, lake_before}
use Rattle.opening_parts.specs.Fillings.{Holder, from_last, holder_in, setting_in, with_change_of, with_rest, with_setting, with_tag}
use Rattle.core_opening.proofs.BaseLemmas.{first_thing, is_base}
use Rattle.core_opening.proofs.BranchLemmas.{AreBare, Base, Branched, HasIt, is_branch, repository_in, shows_branched}
use Rattle.core_opening.proofs.HolderLemmas.{IsHolder, holder_of}
use Rattle.core_opening.proofs.ShowsLemmas.{And, IsFresh, Shows, apart_of, run, shows_more}
use Rattle.core_opening.proofs.TiesLemmas.{AreReadable, one_holder, same_thing, tie_of}

abbrev pub is_rest : Stored → Bool
is_rest (stored.Tag repo tag commit) = true
is_rest (stored.Note repo name text) = true
is_rest (stored.Staged token path change) = true
is_rest _ = false

-- ---- settings

-- the text that is kept of a setting is its own
text_of : (note : Note) (text : List ℕ) → IsKeptText note text → note_text note ≡ text
text_of (setting.Retention rules) text kept_so = absurd kept_so
text_of (setting.Protection patterns) text kept_so = kept_so
text_of (setting.Hooks rules) text kept_so = kept_so

map_protection : (o : Option (List (List ℕ))) (note : Note) → option_map setting.Protection o ≡ Some note → note_name note ≡ name.Protection
map_protection None note e = absurd cc
map_protection (Some patterns) note e = let same : setting.Protection patterns ≡ note = cc in ap note_name (sym same)

map_hooks : {X : Type 0} (f : X → Note) → ((x : X) → note_name (f x) ≡ name.Hooks) → (o : Option X) (note : Note) → option_map f o ≡ Some note
    → note_name note ≡ name.Hooks
map_hooks f named None note e = absurd cc
map_hooks f named (Some x) note e = let same : f x ≡ note = cc in ap note_name (sym same) ∙ named x

-- what is read as a setting of a name has it
name_of : (n : NoteName) (value : Data) (note : Note) → setting_of n value ≡ Some note → note_name note ≡ n
name_of name.Retention value note e = absurd cc
name_of name.Protection value note e = map_protection _ note e
name_of name.Hooks value note e = map_hooks setting.Hooks (λ x. refl) _ note e

name_read : (n : NoteName) (o : Option Data) (note : Note) → option_and_then (setting_of n) o ≡ Some note → note_name note ≡ n
name_read n None note e = absurd cc
name_read n (Some value) note e = name_of n value note e

module _ (cut : Cut) (things : Things) (are : AreReadable cut things) (counts : ℕ × ℕ × ℕ) where
  -- the repositories, the branches, the numbers that are gone and the counts stand
  abbrev pub Held : Stored → Type 0
  Held = Branched cut things are counts

  base_in : (E : Stored → Type 0) → ((s : Stored) → Held s → E s) → (s : Stored) → Base cut things are counts s → E s
  base_in E keeps s base = keeps s (inr base)

  abbrev before : LakeStateValue
  before = branched_lake cut counts things

  shows_before : Shows before Held
  shows_before = (shows_branched cut things are counts).0

  bare : AreBare before
  bare = (shows_branched cut things are counts).1

  -- ---- tokens at first

  -- a branch that stands is there
  branch_there : (E : Stored → Type 0) (l : LakeStateValue) → Shows l E → ((s : Stored) → E s → is_branch s ≡ true → IsThere things s)
      → (repo branch : List ℕ) (r : RepositoryStateValue) (b : BranchStateValue) → get l.repositories repo ≡ Some r → get r.branches branch ≡ Some b
      → IsThere things (stored.Branch repo branch b.version b.head b.staging b.sealed)
  branch_there E l shows there repo branch r b in_lake in_repository =
      there (stored.Branch repo branch b.version b.head b.staging b.sealed)
      (shows.only (stored.Branch repo branch b.version b.head b.staging b.sealed)
      (branch_closed l repo branch (IsRecord b.version b.head b.staging b.sealed) r b in_lake in_repository (refl, (refl, (refl, refl))))) refl

  held_there : (s : Stored) → Held s → is_branch s ≡ true → IsThere things s
  held_there s (inl (is, has)) of = has
  held_there s (inr (inl (is, has))) of = has
  held_there s (inr (inr same)) of =
      let none : is_branch (first_thing cut counts) ≡ true = subst (λ s. is_branch s ≡ true) (sym same) of in absurd cc

  apart_first : AreTokensApart before
  apart_first = record {
    apart = λ token repo branch other_repo other one two.
        let a = branch_opened before repo branch (λ b. is_among (tokens_of b) token ≡ true) one in
        let b = branch_opened before other_repo other (λ b. is_among (tokens_of b) token ≡ true) two in
        one_holder cut things are token repo branch a.b.version a.b.head a.b.staging a.b.sealed other_repo other b.b.version b.b.head b.b.staging b.b.sealed
        (branch_there Held before shows_before held_there repo branch a.r a.b a.in_lake a.in_it)
        (branch_there Held before shows_before held_there other_repo other b.r b.b b.in_lake b.in_it) a.holds b.holds;
    named = λ token repo branch uses.
        let a = branch_opened before repo branch (λ b. contains_key b.tokens token ≡ true) uses in
        let nothing = get-empty {X = ChangesValue} nat_cmp token in
        let uses_it : contains_key (empty {X = ChangesValue} {R = nat_cmp}) token ≡ true =
        subst (λ tokens. contains_key tokens token ≡ true) (bare repo a.r branch a.b a.in_lake a.in_it) a.holds in
        absurd cc;
  }

  -- ---- one that joins

  skips : (x : Stored) (l : LakeStateValue) → is_rest x ≡ false → with_rest (holder_in things) (Some x) l ≡ l
  skips (stored.Tag repo tag commit) l e = absurd cc
  skips (stored.Note repo n text) l e = absurd cc
  skips (stored.Staged token path change) l e = absurd cc
  skips x l e = refl

  module _ (E : Stored → Type 0) (l : LakeStateValue) (shows : Shows l E) (keeps : (s : Stored) → Held s → E s) (good : AreTokensApart l) where
    -- a repository that is there stands
    home_of : (repo : List ℕ) → HasKey things (key.Repository repo) → HasIt l repo
    home_of repo has = repository_in cut things are counts E l shows (base_in E keeps) repo has

    -- it has the same branches then
    same_branches : (repo : List ℕ) (h : HasIt l repo) (r : RepositoryStateValue) → r.branches ≡ h.r.branches → AreTokensApart (with_one l repo r)
    same_branches repo h r same =
        repository_apart l repo r
        (λ n. ap (λ (all : ByteMap BranchStateValue). get all n) same ∙ sym (ap (option_and_then (λ r. get r.branches n)) h.in_lake)) good

    joins_tag : (repo tag : List ℕ) (commit : Digest) → IsThere things (stored.Tag repo tag commit) → IsFresh E (key.Tag repo tag)
        → Shows (with_tag repo tag commit l) (And (stored.Tag repo tag commit) E) × AreTokensApart (with_tag repo tag commit l)
    joins_tag repo tag commit there fresh =
        let h = home_of repo (tie_of cut things are.tied (stored.Tag repo tag commit) there).tie.repository in
        let after = with_tags l repo h.r (insert h.r.tags tag commit) in
        let is : with_tag repo tag commit l ≡ with_one l repo after =
        ap (with_all l) (changed_is l.repositories repo (λ r. record r { tags = insert r.tags tag commit }) h.r h.in_lake) in
        subst (λ m. Shows m (And (stored.Tag repo tag commit) E) × AreTokensApart m) (sym is) (
          shows_more l repo (Some h.r) after (stored.Tag repo tag commit) E h.in_lake
              (makes_tag l repo h.r tag commit (are.limits (stored.Tag repo tag commit) there)) shows fresh,
          same_branches repo h after refl,
        )

    module _ (repo : List ℕ) (n : NoteName) (note : Note) (named : note_name note ≡ n)
        (spelled : IsSpelledStored (stored.Note repo n (note_text note))) (fresh : IsFresh E (key.Note repo n)) (h : HasIt l repo) where
      joins_setting : Shows (with_setting repo (Some note) l) (And (stored.Note repo n (note_text note)) E) × AreTokensApart (with_setting repo (Some note) l)
      joins_setting =
          let after = with_notes l repo h.r (with_note note h.r.notes) in
          let is : with_setting repo (Some note) l ≡ with_one l repo after =
          ap (with_all l) (changed_is l.repositories repo (λ r. record r { notes = with_note note r.notes }) h.r h.in_lake) in
          subst (λ m. Shows m (And (stored.Note repo n (note_text note)) E) × AreTokensApart m) (sym is) (
            shows_more l repo (Some h.r) after (stored.Note repo n (note_text note)) E h.in_lake
                (makes_note l repo h.r n (Some note) (with_note note h.r.notes) (is_set l repo h.r n (Some note) named) spelled.named spelled) shows fresh,
            same_branches repo h after refl,
          )

    joins_note : (repo : List ℕ) (n : NoteName) (text : List ℕ) → IsThere things (stored.Note repo n text) → IsFresh E (key.Note repo n)
        → Shows (with_setting repo (setting_in n text) l) (And (stored.Note repo n text) E) × AreTokensApart (with_setting repo (setting_in n text) l)
    joins_note repo n text there fresh =
        let tie = (tie_of cut things are.tied (stored.Note repo n text) there).tie in
        let note = tie.kept.0 in
        let is = tie.kept.1 in
        let own = text_of note text is.kept in
        let spelled = subst (λ t. IsSpelledStored (stored.Note repo n t)) (sym own) (are.limits (stored.Note repo n text) there) in
        subst (λ o. Shows (with_setting repo o l) (And (stored.Note repo n text) E) × AreTokensApart (with_setting repo o l)) (sym is.reads)
        (subst (λ t. Shows (with_setting repo (Some note) l) (And (stored.Note repo n t) E) × AreTokensApart (with_setting repo (Some note) l)) own
        (joins_setting repo n note (name_read n (data_of text) note is.reads) spelled fresh (home_of repo tie.repository)))

    module _ (token : ℕ) (path : List ℕ) (change : Change) (holder : IsHolder things token (holder_in things token))
        (spelled : IsSpelledStored (stored.Staged token path change)) (fresh : IsFresh E (key.Staged token path)) where
      its : IsBranchThere l holder.repo holder.branch (IsRecord holder.version holder.head holder.staging holder.sealed)
      its =
          branch_opened l holder.repo holder.branch (IsRecord holder.version holder.head holder.staging holder.sealed)
          (shows.stands (stored.Branch holder.repo holder.branch holder.version holder.head holder.staging holder.sealed)
          (keeps (stored.Branch holder.repo holder.branch holder.version holder.head holder.staging holder.sealed) (inl (refl, holder.there))))

      names_it : is_among (tokens_of its.b) token ≡ true
      names_it =
          ap (λ (t : ℕ). is_among (t ∷ its.b.sealed) token) its.holds.1.1.0
          ∙ ap (λ (ts : List ℕ). is_among (holder.staging ∷ ts) token) its.holds.1.1.1 ∙ holder.names_it

      abbrev now : BranchStateValue
      now = with_token_change token path change its.b

      abbrev after : RepositoryStateValue
      after = with_staged l good holder.repo its.r its.in_lake holder.branch its.b its.in_it token names_it path change

      is_after : with_change_of (holder_in things token) token path change l ≡ with_one l holder.repo after
      is_after =
          ap (λ o. with_change_of o token path change l) holder.told_so
          ∙ ap (with_all l) (changed_is l.repositories holder.repo
          (λ r. record r {
            branches = option_map_or (λ x. insert r.branches holder.branch (with_token_change token path change x))
                (get r.branches holder.branch) r.branches;
          })
          its.r its.in_lake)
          ∙ ap (λ (all : ByteMap BranchStateValue). with_one l holder.repo (record its.r { branches = all }))
          (changed_is its.r.branches holder.branch (with_token_change token path change) its.b its.in_it)

      used : (t : ℕ) → contains_key now.tokens t ≡ true → is_among (tokens_of now) t ≡ true
      unfolding with_change
      used t there = by (nat_eq t token) refl (ap is_some (sym (get_with its.b.tokens token _ t)) ∙ there)
        where
          by : (test : Bool) → nat_eq t token ≡ test
              → is_some (cond test (kept (insert (changes_under its.b.tokens token) path change)) (get its.b.tokens t)) ≡ true
              → is_among (tokens_of its.b) t ≡ true
          by true e h = subst (λ t. is_among (tokens_of its.b) t ≡ true) (sym (eqb-true t token e)) names_it
          by false e h = own_names l good holder.repo its.r its.in_lake holder.branch its.b its.in_it t h

      still_apart : AreTokensApart (with_one l holder.repo after)
      still_apart =
          branch_apart l holder.repo after its.r.branches holder.branch now refl
          (λ n. sym (ap (option_and_then (λ r. get r.branches n)) its.in_lake)) good (λ t. ⊥) (λ t none p n h. none)
          (λ t among. inl (branch_closed l holder.repo holder.branch (λ b. is_among (tokens_of b) t ≡ true) its.r its.b its.in_lake its.in_it among)) used

      joins_change : Shows (with_change_of (holder_in things token) token path change l) (And (stored.Staged token path change) E)
          × AreTokensApart (with_change_of (holder_in things token) token path change l)
      joins_change =
          subst (λ m. Shows m (And (stored.Staged token path change) E) × AreTokensApart m) (sym is_after) (
            shows_more l holder.repo (Some its.r) after (stored.Staged token path change) E its.in_lake
                (makes_staged l good holder.repo its.r its.in_lake holder.branch its.b its.in_it token names_it path change spelled) shows fresh,
            still_apart,
          )

  step : (x : Stored) (E : Stored → Type 0) (l : LakeStateValue) → IsThere things x → is_rest x ≡ true → Shows l E → ((s : Stored) → Held s → E s)
      → AreTokensApart l → IsFresh E (key_of x)
      → Shows (with_rest (holder_in things) (Some x) l) (And x E) × AreTokensApart (with_rest (holder_in things) (Some x) l)
  step (stored.Tag repo tag commit) E l there is shows keeps good fresh = joins_tag E l shows keeps good repo tag commit there fresh
  step (stored.Note repo n text) E l there is shows keeps good fresh = joins_note E l shows keeps good repo n text there fresh
  step (stored.Staged token path change) E l there is shows keeps good fresh =
      joins_change E l shows keeps good token path change
      (holder_of token things (tie_of cut things are.tied (stored.Staged token path change) there).tie.held)
      (are.limits (stored.Staged token path change) there) fresh
  step x E l there is shows keeps good fresh = absurd cc

  -- kinds of another key
  kind_held : (s : Stored) → Held s → (is_branch s ≡ true) ⊎ ((is_base s ≡ true) ⊎ (first_thing cut counts ≡ s))
  kind_held s (inl (is, has)) = inl is
  kind_held s (inr (inl (is, has))) = inr (inl is)
  kind_held s (inr (inr same)) = inr (inr same)

  apart : (x s : Stored) → is_rest x ≡ true → Held s → key_of s ≡ key_of x → ⊥
  apart x s is held e = by x s is (kind_held s held) e
    where
      by_first : (x : Stored) → is_rest x ≡ true → key.Counts ≡ key_of x → ⊥
      by_first (stored.Tag repo tag commit) is e = cc
      by_first (stored.Note repo n text) is e = cc
      by_first (stored.Staged token path change) is e = cc
      by_first x is e = cc

      by_branch : (x : Stored) → is_rest x ≡ true → (repo branch : List ℕ) → key.Branch repo branch ≡ key_of x → ⊥
      by_branch (stored.Tag repo tag commit) is p n e = cc
      by_branch (stored.Note repo m text) is p n e = cc
      by_branch (stored.Staged token path change) is p n e = cc
      by_branch x is p n e = cc

      by_repository : (x : Stored) → is_rest x ≡ true → (repo : List ℕ) → key.Repository repo ≡ key_of x → ⊥
      by_repository (stored.Tag repo tag commit) is p e = cc
      by_repository (stored.Note repo m text) is p e = cc
      by_repository (stored.Staged token path change) is p e = cc
      by_repository x is p e = cc

      by_gone : (x : Stored) → is_rest x ≡ true → (number : ℕ) → key.Gone number ≡ key_of x → ⊥
      by_gone (stored.Tag repo tag commit) is m e = cc
      by_gone (stored.Note repo n text) is m e = cc
      by_gone (stored.Staged token path change) is m e = cc
      by_gone x is m e = cc

      by : (x s : Stored) → is_rest x ≡ true → (is_branch s ≡ true) ⊎ ((is_base s ≡ true) ⊎ (first_thing cut counts ≡ s)) → key_of s ≡ key_of x → ⊥
      by x s is (inr (inr same)) e = by_first x is (ap key_of same ∙ e)
      by x (stored.Branch p n v h st se) is (inl of) e = by_branch x is p n e
      by x (stored.Repository p c d v) is (inr (inl of)) e = by_repository x is p e
      by x (stored.Gone number) is (inr (inl of)) e = by_gone x is number e
      by x s is (inl of) e = cc
      by x s is (inr (inl of)) e = cc

  -- what stands then: all but commits and files
  abbrev pub Plain : Stored → Type 0
  Plain s = ((is_rest s ≡ true) × IsThere things s) ⊎ Held s

  pub shows_plain : Shows (lake_before cut counts things) Plain × AreTokensApart (lake_before cut counts things)
  shows_plain =
      run (with_rest (holder_in things)) is_rest Held (IsThere things) AreTokensApart (λ l. refl) skips step apart before shows_before apart_first
      things (apart_of things are.one) (λ x has. has)

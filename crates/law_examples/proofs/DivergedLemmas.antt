-- The lakes in which `dev` is ahead of `main`, and in which the two diverged.
use Rattle.std.proofs.Common.{◌≡◌, ◌∷◌, [], Bool, true, false, cond, ℕ, List, refl, sym, ap, subst, ◌∙◌, inl, inr}
use Rattle.std.specs.Prelude.{Option, Some, None, is_some}
use Rattle.std.specs.Option.{unwrap_or}
use Rattle.std.specs.List.{Contains}
use Rattle.std.specs.FinMap.{get, insert, empty, get-insert, get-empty}
use Rattle.std.specs.Ordering.{eq_by_cmp}
use Rattle.std.specs.Cmp.Lexicographic.{nat_list_cmp_total}
use Rattle.lake_base.specs.Maps.{ByteMap, byte_order}
use Rattle.lake_base.specs.declared.digest.Digest.{Digest}
use Rattle.lake_values.specs.Ancestry.{Graph, commit_of}
use Rattle.lake_values.specs.Commit.{CommitRecordValue}
use Rattle.lake_values.specs.Entry.{EntryValue}
use Rattle.lake_values.specs.KeyMap.{KeyMapValue, apply, value_after}
use Rattle.lake_values.specs.declared.entry.Change.{Change}
use Rattle.lake_values.specs.declared.entry.Change.TheVariants.{Put}
use Rattle.lake_values.proofs.AncestryLemmas.{one_id}
use Rattle.lake_values.proofs.KeyMapLemmas.{get_apply, same}
use Rattle.lake_values.proofs.OrderLemmas.{Contains-first, Contains-later}
use Rattle.lake_model.specs.State.{Branch, HasCommit, Repository, State, map_of}
use Rattle.lake_model.specs.Branches.{clean_branch}
use Rattle.lake_model.specs.Commits.{Draft, first_draft, record_of}
use Rattle.lake_model.specs.Parts.{in_repository}
use Rattle.lake_model.specs.Removal.{AreDistinct, with_expired}
use Rattle.lake_model.specs.Uncommitted.{own_number}
use Rattle.lake_model.specs.History.{after, replay}
use Rattle.lake_model.specs.Soundness.{fresh}
use Rattle.law_examples.specs.HistoryWords.{quickstart, main, first, outside, head_of, a, b}
use Rattle.law_examples.specs.Picks.{larger_object}
use Rattle.law_examples.specs.Merges.{Fork, branch_entry, change_entries, dev, dev_head, diverged_lake, fork_entries, lake_of_dev, rival_lake, three_commits}
use Rattle.law_examples.proofs.SceneLemmas.{counted, get_one}
use Rattle.law_examples.proofs.EntriesLemmas.{first_repository}
use Rattle.law_examples.proofs.InsertsLemmas.{get_other, stood}
use Rattle.law_examples.proofs.MapsLemmas.{first_map, get_put}
use Rattle.law_examples.proofs.BranchesLemmas.{drafted_id, head_in, in_one, spread, with_branches, with_drafted}
use Rattle.law_examples.proofs.ChangesLemmas.{after_change, change_draft}
use Rattle.law_examples.proofs.ForksLemmas.{IsChild, IsFork, by_record, child_new, due_two, fork_more, kept}

-- one put makes the map of one entry of the empty map
put_said : (b : Bool) (entry : EntryValue) → value_after (cond b (Some (Put entry)) None) None ≡ cond b (Some entry) None
put_said true entry = refl
put_said false entry = refl

put_alone : (path : List ℕ) (entry : EntryValue) → apply (insert empty path (Put entry)) empty ≡ insert empty path entry
put_alone path entry = same _ _ (λ q.
    get_apply (insert empty path (Put entry)) empty q
    ∙ ap (λ (o : Option Change). value_after o (get {R = byte_order} empty q)) (get_one path (Put entry) q)
    ∙ ap (value_after (cond (eq_by_cmp byte_order q path) (Some (Put entry)) None)) (get-empty byte_order q)
    ∙ put_said (eq_by_cmp byte_order q path) entry
    ∙ sym (get_one path entry q))

-- three that are distinct differ in pairs
pub record Differ (x y z : Digest) : Type 0 where
  pub early : x ≡ y → ⊥
  pub late : y ≡ z → ⊥
  pub ends : x ≡ z → ⊥

in_pairs : (x y z : Digest) → AreDistinct (x ∷ y ∷ z ∷ []) → Differ x y z
in_pairs x y z distinct = record {
  early = λ is. distinct.0 (subst (λ (e : Digest). Contains (e ∷ z ∷ []) x) is (Contains-first x (z ∷ [])));
  late = λ is. distinct.1.0 (subst (λ (e : Digest). Contains (e ∷ []) y) is (Contains-first y []));
  ends = λ is. distinct.0 (Contains-later y x (z ∷ []) (subst (λ (e : Digest). Contains (e ∷ []) x) is (Contains-first x [])));
}

-- the map of a commit among these
abbrev pub map_in : ByteMap KeyMapValue → Digest → KeyMapValue
map_in maps id = unwrap_or (get maps id.0) empty

-- of these commits two have one parent, and these are the maps of the three
pub record HasFork (g : Graph) (maps : ByteMap KeyMapValue) (root one two : Digest) (path : List ℕ) (entry : EntryValue) : Type 0 where
  pub fork : IsFork g root
  pub of_one : IsChild g root one
  pub of_two : IsChild g root two
  pub differ : Differ root one two
  pub base : map_in maps root ≡ empty
  pub source : map_in maps one ≡ insert empty path entry
  pub dest : map_in maps two ≡ insert empty a outside

-- a lake in which `dev` has a commit of one entry, and `main` one of the outside object at `a`
pub record ForkLake (lake : State) (fork : Fork) (path : List ℕ) (entry : EntryValue) : Type 0 where
  pub s : State
  pub r : Repository
  pub bs : ByteMap Branch
  pub one : Digest
  pub two : Digest
  pub scene : lake ≡ spread s r bs
  pub main_there : get bs main ≡ Some (clean_branch two)
  pub dev_is : dev_head lake ≡ one
  pub main_is : head_of lake ≡ two
  pub running : s.stopped ≡ false
  pub count : s.entries ≡ 7
  pub free : r.notes.hooks ≡ None
  pub unexpired : r.expired ≡ empty
  pub forked : AreDistinct (three_commits fork.cut lake) → HasFork r.commits r.maps (first fork.cut) one two path entry
  pub of_three : (id : Digest) → HasCommit r id → Contains (three_commits fork.cut lake) id

-- such a lake where a commit of it is expired
pub expired_scene : (lake : State) (fork : Fork) (path : List ℕ) (entry : EntryValue) (at : ForkLake lake fork path entry) (id : Digest)
    → in_repository quickstart (with_expired id) lake ≡ spread at.s (with_expired id at.r) at.bs
expired_scene lake fork path entry at id = ap (in_repository quickstart (with_expired id)) at.scene ∙ in_one (with_expired id) at.s (with_branches at.r at.bs)

module _ (path : List ℕ) (entry : EntryValue) (outer : own_number entry.place ≡ None) (fork : Fork) where
  abbrev pub root : Digest
  root = first fork.cut

  abbrev pub r0 : Repository
  r0 = first_repository fork.cut

  abbrev pub s1 : State
  s1 = counted (fresh fork.cut)

  abbrev pub bs1 : ByteMap Branch
  bs1 = insert (insert empty main (clean_branch root)) dev (clean_branch root)

  pub branched : after (fresh fork.cut) (branch_entry fork.cut) ≡ spread s1 r0 bs1
  branched = ap counted (in_one (λ x. record x { branches = insert x.branches dev (clean_branch root) }) (fresh fork.cut) r0)

  -- the commit of `dev`
  abbrev dev_draft : Draft
  dev_draft = change_draft r0 root path entry fork.of_dev

  abbrev dev_record : CommitRecordValue
  dev_record = record_of fork.cut r0.commits dev_draft

  abbrev pub one : Digest
  one = drafted_id s1 r0 dev_draft

  abbrev pub r1 : Repository
  r1 = with_drafted s1 r0 dev_draft

  abbrev pub s2 : State
  s2 = counted (counted (counted s1))

  abbrev pub bs2 : ByteMap Branch
  bs2 = insert bs1 dev (clean_branch one)

  pub ahead : lake_of_dev path entry fork ≡ spread s2 r1 bs2
  ahead =
      ap (λ (l : State). replay l (change_entries dev path entry fork.of_dev)) branched
      ∙ after_change s1 r0 bs1 dev root (get_put (insert empty main (clean_branch root)) dev (clean_branch root)) path entry outer fork.of_dev

  pub main_ahead : get bs2 main ≡ Some (clean_branch root)
  main_ahead =
      get-insert nat_list_cmp_total bs1 dev (clean_branch one) main
      ∙ get-insert nat_list_cmp_total (insert empty main (clean_branch root)) dev (clean_branch root) main
      ∙ get_put empty main (clean_branch root)

  -- the commit of `main`
  abbrev main_draft : Draft
  main_draft = change_draft r1 root a outside fork.of_main

  abbrev main_record : CommitRecordValue
  main_record = record_of fork.cut r1.commits main_draft

  abbrev pub two : Digest
  two = drafted_id s2 r1 main_draft

  abbrev pub r2 : Repository
  r2 = with_drafted s2 r1 main_draft

  abbrev pub s3 : State
  s3 = counted (counted (counted s2))

  abbrev pub bs3 : ByteMap Branch
  bs3 = insert bs2 main (clean_branch two)

  both : replay (fresh fork.cut) (fork_entries path entry fork) ≡ spread s3 r2 bs3
  both =
      ap (λ (l : State). replay l (change_entries main a outside fork.of_main)) ahead ∙ after_change s2 r1 bs2 main root main_ahead a outside refl fork.of_main

  main_there : get bs3 main ≡ Some (clean_branch two)
  main_there = get_put bs2 main (clean_branch two)

  dev_there : get bs3 dev ≡ Some (clean_branch one)
  dev_there = get-insert nat_list_cmp_total bs2 main (clean_branch two) dev ∙ get_put bs1 dev (clean_branch one)

  -- the heads
  pub dev_ahead_is : dev_head (lake_of_dev path entry fork) ≡ one
  dev_ahead_is = ap dev_head ahead ∙ head_in s2 r1 bs2 dev (clean_branch one) (get_put bs1 dev (clean_branch one))

  dev_is : dev_head (replay (fresh fork.cut) (fork_entries path entry fork)) ≡ one
  dev_is = ap dev_head both ∙ head_in s3 r2 bs3 dev (clean_branch one) dev_there

  main_is : head_of (replay (fresh fork.cut) (fork_entries path entry fork)) ≡ two
  main_is = ap head_of both ∙ head_in s3 r2 bs3 main (clean_branch two) main_there

  -- the graph of the first commit
  root_alone : IsFork r0.commits root
  root_alone = record {
    root = by_record r0.commits root (record_of fork.cut empty (first_draft 0)) (get_put empty root.0 (record_of fork.cut empty (first_draft 0)));
    others = λ id there. elim (stood empty root.0 (record_of fork.cut empty (first_draft 0)) id.0 there) [
      | inl is ↦ inl (one_id id root is)
      | inr none ↦ absurd (cc (sym (ap is_some (get-empty {X = CommitRecordValue} byte_order id.0)) ∙ none))
    ];
  }

  absent_in_first : (id : Digest) → (root ≡ id → ⊥) → commit_of r0.commits id ≡ None
  absent_in_first id apart =
      get_other empty root.0 (record_of fork.cut empty (first_draft 0)) id.0 (λ is. apart (sym (one_id id root is))) ∙ get-empty byte_order id.0

  module _ (early : root ≡ one → ⊥) where
    pub fork_ahead : IsFork r1.commits root
    fork_ahead = fork_more r0.commits root root_alone one dev_record (absent_in_first one early) refl (due_two r0.commits root root_alone)

    pub child_ahead : IsChild r1.commits root one
    child_ahead = child_new r0.commits root root_alone one dev_record (absent_in_first one early) refl (due_two r0.commits root root_alone)

    pub base_ahead : map_of r1 root ≡ empty
    base_ahead = ap (λ (o : Option KeyMapValue). unwrap_or o empty) (get_other r0.maps one.0 dev_draft.objects root.0 (λ is. early (one_id root one is)))
        ∙ first_map fork.cut root

    pub source_ahead : map_of r1 one ≡ insert empty path entry
    source_ahead =
        ap (λ (o : Option KeyMapValue). unwrap_or o empty) (get_put r0.maps one.0 dev_draft.objects)
        ∙ ap (apply (insert empty path (Put entry))) (first_map fork.cut root)
        ∙ put_alone path entry

  module _ (apart : Differ root one two) where
    absent : commit_of r1.commits two ≡ None
    absent = get_other r0.commits one.0 dev_record two.0 (λ is. apart.late (sym (one_id two one is))) ∙ absent_in_first two apart.ends

    has_fork : HasFork r2.commits r2.maps root one two path entry
    has_fork = record {
      fork = fork_more r1.commits root (fork_ahead apart.early) two main_record absent refl (due_two r1.commits root (fork_ahead apart.early));
      of_one = kept r1.commits root (fork_ahead apart.early) two main_record absent one (root ∷ []) 2 (child_ahead apart.early);
      of_two = child_new r1.commits root (fork_ahead apart.early) two main_record absent refl (due_two r1.commits root (fork_ahead apart.early));
      differ = apart;
      base = ap (λ (o : Option KeyMapValue). unwrap_or o empty) (get_other r1.maps two.0 main_draft.objects root.0 (λ is. apart.ends (one_id root two is)))
          ∙ base_ahead apart.early;
      source = ap (λ (o : Option KeyMapValue). unwrap_or o empty) (get_other r1.maps two.0 main_draft.objects one.0 (λ is. apart.late (one_id one two is)))
          ∙ source_ahead apart.early;
      dest =
          ap (λ (o : Option KeyMapValue). unwrap_or o empty) (get_put r1.maps two.0 main_draft.objects)
          ∙ ap (apply (insert empty a (Put outside))) (base_ahead apart.early)
          ∙ put_alone a outside;
    }

  three_are : three_commits fork.cut (replay (fresh fork.cut) (fork_entries path entry fork)) ≡ root ∷ one ∷ two ∷ []
  three_are = ap (λ (d : Digest). root ∷ d ∷ head_of (replay (fresh fork.cut) (fork_entries path entry fork)) ∷ []) dev_is
      ∙ ap (λ (d : Digest). root ∷ one ∷ d ∷ []) main_is

  pub differ_of : AreDistinct (three_commits fork.cut (replay (fresh fork.cut) (fork_entries path entry fork))) → Differ root one two
  differ_of distinct = in_pairs root one two (subst (AreDistinct {X = Digest}) three_are distinct)

  forked : AreDistinct (three_commits fork.cut (replay (fresh fork.cut) (fork_entries path entry fork))) → HasFork r2.commits r2.maps root one two path entry
  forked distinct = has_fork (differ_of distinct)

  -- a commit of the repository is one of the three
  one_of_three : (id : Digest) → HasCommit r2 id → Contains (three_commits fork.cut (replay (fresh fork.cut) (fork_entries path entry fork))) id
  one_of_three id there = subst (λ (l : List Digest). Contains l id) (sym three_are) (elim (stood r1.commits two.0 main_record id.0 there) [
    | inl is ↦ subst (Contains (root ∷ one ∷ two ∷ [])) (sym (one_id id two is))
        (Contains-later root two (one ∷ two ∷ []) (Contains-later one two (two ∷ []) (Contains-first two [])))
    | inr old ↦ elim (stood r0.commits one.0 dev_record id.0 old) [
      | inl is ↦ subst (Contains (root ∷ one ∷ two ∷ [])) (sym (one_id id one is)) (Contains-later root one (one ∷ two ∷ []) (Contains-first one (two ∷ [])))
      | inr older ↦ elim (stood empty root.0 (record_of fork.cut empty (first_draft 0)) id.0 older) [
        | inl is ↦ subst (Contains (root ∷ one ∷ two ∷ [])) (sym (one_id id root is)) (Contains-first root (one ∷ two ∷ []))
        | inr none ↦ absurd (cc (sym (ap is_some (get-empty {X = CommitRecordValue} byte_order id.0)) ∙ none))
      ]
    ]
  ])

  pub both_lake : ForkLake (replay (fresh fork.cut) (fork_entries path entry fork)) fork path entry
  both_lake = record {
    s = s3;
    r = r2;
    bs = bs3;
    one = one;
    two = two;
    scene = both;
    main_there = main_there;
    dev_is = dev_is;
    main_is = main_is;
    running = refl;
    count = refl;
    free = refl;
    unexpired = refl;
    forked = forked;
    of_three = one_of_three;
  }

pub diverged : (fork : Fork) → ForkLake (diverged_lake fork) fork b outside
unfolding diverged_lake
diverged fork = both_lake b outside refl fork

pub rival : (fork : Fork) → ForkLake (rival_lake fork) fork a larger_object
unfolding rival_lake
rival fork = both_lake a larger_object refl fork

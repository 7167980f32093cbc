-- Why names are allowed and refused.
use Rattle.std.proofs.Common.{◌≡◌, ℕ, Bool, true, false, cond, List, refl, sym, ap, ◌∙◌, arith}
use Rattle.std.specs.Prelude.{Some, None, IsSome, is_some}
use Rattle.std.specs.FinMap.{get, insert, empty, get-empty}
use Rattle.std.specs.Ordering.{eq_by_cmp}
use Rattle.lake_base.specs.Maps.{ByteMap, byte_order}
use Rattle.lake_base.specs.declared.digest.Digest.{Digest}
use Rattle.lake_values.specs.Ancestry.{commit_of}
use Rattle.lake_values.specs.Commit.{CommitRecordValue}
use Rattle.lake_values.specs.declared.settings.NoteName.TheVariants as name
use Rattle.lake_format.specs.declared.cut.Cut.{Cut}
use Rattle.lake_model.specs.declared.history.Operation.TheVariants.{RepoCreate, BranchCreate, BranchDelete, TagCreate, TagDelete, Seal}
use Rattle.lake_model.specs.declared.history.SealFor.TheVariants as seal
use Rattle.lake_model.specs.State.{Branch, Repository, State, HasLiveCommit}
use Rattle.lake_model.specs.Branches.{IsUnprotected, MayBegin, MayName, clean_branch}
use Rattle.lake_model.specs.Commits.{IsAdmissible, bare_repository, first_draft, record_of}
use Rattle.lake_model.specs.History.{Allows, after}
use Rattle.lake_model.specs.Soundness.{fresh}
use Rattle.law_examples.specs.HistoryWords.{quickstart, main, first, entry_of, seal_entry}
use Rattle.law_examples.specs.RefusedLakes.{elsewhere, mail, one, two, like_id, ma_protected, protect_entry, branched_lake, tagged_lake, expired_lake}
use Rattle.law_examples.proofs.SceneLemmas.{of_main, counted, change_one, get_one, on_main, in_quickstart}
use Rattle.law_examples.proofs.EntriesLemmas.{first_repository, first_branch, may}
use Rattle.law_examples.proofs.MapsLemmas.{get_put}
use Rattle.lake_base.proofs.MapsLemmas.{same_key, tied}
use Rattle.lake_values.specs.Ancestry.{id_of}
use Rattle.law_examples.proofs.LakesLemmas.{on_quickstart, the_quickstart, allows_by, refuses_by, tagged, tagged_scene, expired, expired_scene, with_notes}
use Rattle.law_examples.proofs.LakesLemmas.{mail_matches}

-- names that differ
absent : {X : Type 0} (name : List ℕ) (x : X) (q : List ℕ) → eq_by_cmp byte_order q name ≡ false → get (insert {R = byte_order} empty name x) q ≡ None
absent name x q apart = get_one name x q ∙ ap (λ b. cond b (Some x) None) apart

module _ (cut : Cut) where
  abbrev r0 : Repository
  r0 = first_repository cut

  abbrev b0 : Branch
  b0 = first_branch cut

  pub seal_allowed : Allows (fresh cut) seal_entry
  seal_allowed = may (fresh cut) r0 b0 1 (Seal quickstart main seal.Commit) refl (omega arith) (on_main (λ r b. IsUnprotected r main) (fresh cut) r0 b0 refl)

  pub no_repository : Allows (fresh cut) (entry_of (Seal elsewhere main seal.Commit)) → ⊥
  no_repository may = let none = absent quickstart r0 elsewhere refl in absurd (cc (sym none ∙ may.possible.1))

  pub no_branch : Allows (fresh cut) (entry_of (Seal quickstart mail seal.Commit)) → ⊥
  no_branch may = let found = the_quickstart _ (fresh cut) r0 may.possible in let none = absent main b0 mail refl in absurd (cc (sym none ∙ found.1))

  first_there : IsSome (commit_of r0.commits (first cut))
  first_there = ap is_some (get_put empty (first cut).0 (record_of cut empty (first_draft 0)))

  first_live : HasLiveCommit r0 (first cut)
  first_live = (first_there, ap is_some (get-empty byte_order (first cut).0))

  same_first : (id : Digest) → IsSome (commit_of r0.commits id) → first cut ≡ id
  same_first id there =
      by (eq_by_cmp byte_order id.0 (first cut).0) refl (sym (ap is_some (get_one (first cut).0 (record_of cut empty (first_draft 0)) id.0)) ∙ there)
    where
      by : (b : Bool) → eq_by_cmp byte_order id.0 (first cut).0 ≡ b
          → is_some {T = CommitRecordValue} (cond b (Some (record_of cut empty (first_draft 0))) None) ≡ true → first cut ≡ id
      by true tie is = sym (ap id_of (same_key id.0 (first cut).0 (tied (byte_order id.0 (first cut).0) tie)))
      by false tie is = absurd cc

  pub branch_allowed : Allows (fresh cut) (entry_of (BranchCreate quickstart mail (first cut)))
  branch_allowed = may (fresh cut) r0 b0 1 (BranchCreate quickstart mail (first cut)) refl (omega arith)
      (on_quickstart (MayBegin mail (first cut)) (fresh cut) r0 (record { fresh = absent main b0 mail refl; plain = refl; live = first_live }))

  pub branch_without_commit : (id : Digest) → (first cut ≡ id → ⊥) → Allows (fresh cut) (entry_of (BranchCreate quickstart mail id)) → ⊥
  branch_without_commit id apart may = apart (same_first id (the_quickstart (MayBegin mail id) (fresh cut) r0 may.possible).live.0)

  pub tag_allowed : Allows (fresh cut) (entry_of (TagCreate quickstart one (first cut)))
  tag_allowed = may (fresh cut) r0 b0 1 (TagCreate quickstart one (first cut)) refl (omega arith)
      (on_quickstart (MayName one (first cut)) (fresh cut) r0 (record { fresh = get-empty byte_order one; plain = refl; live = first_live }))

  pub tag_without_commit : (id : Digest) → (first cut ≡ id → ⊥) → Allows (fresh cut) (entry_of (TagCreate quickstart one id)) → ⊥
  tag_without_commit id apart may = apart (same_first id (the_quickstart (MayName one id) (fresh cut) r0 may.possible).live.0)

  -- tags that are there, and that aren't
  pub second_tag : Allows (tagged_lake cut) (entry_of (TagCreate quickstart two (first cut)))
  second_tag = allows_by (entry_of (TagCreate quickstart two (first cut))) (tagged_scene cut)
      (may (counted (fresh cut)) (tagged cut) b0 1 (TagCreate quickstart two (first cut)) refl (omega arith)
      (on_quickstart (MayName two (first cut)) (counted (fresh cut)) (of_main (tagged cut) b0)
      (record { fresh = absent one (first cut) two refl; plain = refl; live = first_live })))

  pub same_tag : Allows (tagged_lake cut) (entry_of (TagCreate quickstart one (first cut))) → ⊥
  same_tag = refuses_by (entry_of (TagCreate quickstart one (first cut))) (tagged_scene cut) (λ may.
      let none = (the_quickstart (MayName one (first cut)) (counted (fresh cut)) (of_main (tagged cut) b0) may.possible).fresh in
      let there = get_one one (first cut) one in
      absurd (cc (sym none ∙ there)))

  pub tag_goes : Allows (tagged_lake cut) (entry_of (TagDelete quickstart one))
  tag_goes = allows_by (entry_of (TagDelete quickstart one)) (tagged_scene cut)
      (may (counted (fresh cut)) (tagged cut) b0 1 (TagDelete quickstart one) refl (omega arith)
      (on_quickstart (λ r. IsSome (get r.tags one)) (counted (fresh cut)) (of_main (tagged cut) b0) (ap is_some (get_one one (first cut) one))))

  pub no_tag : Allows (tagged_lake cut) (entry_of (TagDelete quickstart two)) → ⊥
  no_tag = refuses_by (entry_of (TagDelete quickstart two)) (tagged_scene cut) (λ may.
      let there = the_quickstart (λ r. IsSome (get r.tags two)) (counted (fresh cut)) (of_main (tagged cut) b0) may.possible in
      let none = ap is_some (absent one (first cut) two refl) in
      absurd (cc (sym none ∙ there)))

  -- the first commit, expired
  not_live : HasLiveCommit (of_main (expired cut) b0) (first cut) → ⊥
  not_live live = let gone = ap is_some (get_put {X = Unit {0}} empty (first cut).0 tt) in absurd (cc (sym gone ∙ live.1))

  pub branch_at_expired : Allows (expired_lake cut) (entry_of (BranchCreate quickstart mail (first cut))) → ⊥
  branch_at_expired = refuses_by (entry_of (BranchCreate quickstart mail (first cut))) (expired_scene cut) (λ may.
      not_live (the_quickstart (MayBegin mail (first cut)) (fresh cut) (of_main (expired cut) b0) may.possible).live)

  pub tag_at_expired : Allows (expired_lake cut) (entry_of (TagCreate quickstart one (first cut))) → ⊥
  tag_at_expired = refuses_by (entry_of (TagCreate quickstart one (first cut))) (expired_scene cut) (λ may.
      not_live (the_quickstart (MayName one (first cut)) (fresh cut) (of_main (expired cut) b0) may.possible).live)

  -- names that stand
  pub repository_allowed : IsAdmissible (fresh cut) (bare_repository 0 main) (first_draft 0) → Allows (fresh cut) (entry_of (RepoCreate elsewhere main 0))
  repository_allowed admissible = may (fresh cut) r0 b0 1 (RepoCreate elsewhere main 0) refl (omega arith)
      (record { fresh = absent quickstart r0 elsewhere refl; plain = refl; admissible = admissible })

  pub same_repository : Allows (fresh cut) (entry_of (RepoCreate quickstart main 0)) → ⊥
  same_repository may = let there = get_one quickstart r0 quickstart in absurd (cc (sym may.possible.fresh ∙ there))

  pub same_branch : Allows (fresh cut) (entry_of (BranchCreate quickstart main (first cut))) → ⊥
  same_branch may =
      let none = (the_quickstart (MayBegin main (first cut)) (fresh cut) r0 may.possible).fresh in
      let there = get_one main b0 main in
      absurd (cc (sym none ∙ there))

  -- names like ids
  pub repository_like_id : Allows (fresh cut) (entry_of (RepoCreate elsewhere like_id 0)) → ⊥
  repository_like_id may = let plain = may.possible.plain in absurd cc

  pub branch_like_id : Allows (fresh cut) (entry_of (BranchCreate quickstart like_id (first cut))) → ⊥
  branch_like_id may = let plain = (the_quickstart (MayBegin like_id (first cut)) (fresh cut) r0 may.possible).plain in absurd cc

  pub tag_like_id : Allows (fresh cut) (entry_of (TagCreate quickstart like_id (first cut))) → ⊥
  tag_like_id may = let plain = (the_quickstart (MayName like_id (first cut)) (fresh cut) r0 may.possible).plain in absurd cc

  -- two branches
  abbrev branched : Repository
  branched = record r0 { branches = insert (insert empty main b0) mail (clean_branch (first cut)) }

  abbrev two_branches : State
  two_branches = record (counted (fresh cut)) { repositories = insert empty quickstart branched }

  branched_scene : branched_lake cut ≡ two_branches
  branched_scene = ap counted (in_quickstart (λ r. record r { branches = insert r.branches mail (clean_branch (first cut)) }) (fresh cut) r0 b0)

  mail_there : get branched.branches mail ≡ Some (clean_branch (first cut))
  mail_there = get_put (insert empty main b0) mail (clean_branch (first cut))

  mails_apart : branched.default_branch ≡ mail → ⊥
  mails_apart is = let e = ap (λ (x : List ℕ). eq_by_cmp byte_order x mail) is in absurd cc

  pub mail_goes : Allows (branched_lake cut) (entry_of (BranchDelete quickstart mail))
  mail_goes = allows_by (entry_of (BranchDelete quickstart mail)) branched_scene (record {
    running = refl;
    room = omega arith;
    possible = on_quickstart _ (counted (fresh cut)) branched (clean_branch (first cut), mail_there, record { other = mails_apart; unprotected = refl });
  })

  pub main_stays : Allows (branched_lake cut) (entry_of (BranchDelete quickstart main)) → ⊥
  main_stays =
      refuses_by (entry_of (BranchDelete quickstart main)) branched_scene (λ may. (the_quickstart _ (counted (fresh cut)) branched may.possible).2.other refl)

  pub protected_stays : Allows (after (branched_lake cut) protect_entry) (entry_of (BranchDelete quickstart mail)) → ⊥
  protected_stays = refuses_by (entry_of (BranchDelete quickstart mail))
      (ap (λ (x : State). after x protect_entry) branched_scene
      ∙ ap (λ (m : ByteMap Repository). record (counted (counted (fresh cut))) { repositories = m })
      (change_one quickstart (with_notes ma_protected name.Protection) branched refl))
      (λ may.
      let free = (the_quickstart _ (counted (counted (fresh cut))) (with_notes ma_protected name.Protection branched) may.possible).2.unprotected in
      absurd (cc (sym mail_matches ∙ free)))

-- Which commits of a scene can expire, where all are old.
use Rattle.std.proofs.Common.{◌≡◌, ◌∷◌, [], ℕ, List, refl, sym, ap, subst, ◌∙◌, arith, map, ◌⊎◌, inl, inr}
use Rattle.std.specs.Prelude.{Some, IsSome, is_some}
use Rattle.std.specs.FinMap.{entries, get, insert, empty, get-empty}
use Rattle.std.specs.List.{Contains}
use Rattle.std.proofs.lemmas.List.Elements.{Contains-push_cases, Contains-append_cases}
use Rattle.lake_base.specs.Maps.{ByteMap, byte_order}
use Rattle.lake_base.specs.declared.digest.Digest.{Digest}
use Rattle.lake_values.specs.Ancestry.{Graph}
use Rattle.lake_values.specs.Retention.{IsKeptBy}
use Rattle.lake_values.specs.Settings.{RulesValue}
use Rattle.lake_values.specs.declared.settings.NoteName.TheVariants as name
use Rattle.lake_model.specs.declared.history.RepositoryCommit.{RepositoryCommit}
use Rattle.lake_model.specs.State.{Branch, Repository, State, HasLiveCommit}
use Rattle.lake_model.specs.NoteChanges.{notes_after}
use Rattle.lake_model.specs.Parts.{in_repository}
use Rattle.lake_model.specs.Removal.{IsExpirable, IsKeptIn, heads_of, tagged_of, with_expired}
use Rattle.lake_model.specs.History.{after}
use Rattle.law_examples.specs.RefusedLakes.{one_day}
use Rattle.law_examples.specs.HistoryWords.{quickstart, main}
use Rattle.law_examples.specs.Days.{commit, expire_entry}
use Rattle.law_examples.proofs.SceneLemmas.{scene, of_main, counted, repo_there, in_quickstart}
use Rattle.law_examples.proofs.NamingLemmas.{only_one}
use Rattle.law_examples.proofs.GraphsLemmas.{AreDatedBy, entries_one, entries_empty}
use Rattle.law_examples.proofs.InsertsLemmas.{stood}

-- a list of one has that one alone
pub only_element : {X : Type 0} (v x : X) → Contains (v ∷ []) x → v ≡ x
only_element v x has = elim (Contains-push_cases [] v x has) [ inl none ↦ absurd (omega (arith, none.1)) | inr is ↦ is ]

-- commits are kept for a day
abbrev rules : RulesValue
rules = record { default_days = 1; branches = [] }

-- where all commits are dated before the cutoff, one that is kept is the head
kept_is_head : (graph : Graph) (head id : Digest) → AreDatedBy 1100000 graph → IsKeptBy graph ((main, head) ∷ []) [] (Some rules) 1300000 id → head ≡ id
kept_is_head graph head id dated (inl is) = ap (λ (p : List ℕ × Digest). p.1) (only_element (main, head) (is.0, id) is.1)
kept_is_head graph head id dated (inr (inl tagged)) = absurd (omega (arith, tagged.1))
kept_is_head graph head id dated (inr (inr (inl followed))) = let old = dated followed.2.later in let new = followed.2.dated in absurd (omega (arith, old, new))
kept_is_head graph head id dated (inr (inr (inr young))) = let old = dated id in let new = young.dated in absurd (omega (arith, old, new))

-- a repository that keeps commits for a day
abbrev pub keeping : Repository → Repository
keeping r = record r { notes = notes_after name.Retention (Some one_day) r.notes }

module _ (r : Repository) (b : Branch) (untagged : r.tags ≡ empty) where
  abbrev here : Repository
  here = of_main (keeping r) b

  heads : heads_of here ≡ (main, b.head) ∷ []
  heads = ap (map (λ (x : List ℕ × Branch). (x.0, x.1.head))) (entries_one main b)

  tags : tagged_of here ≡ []
  tags = ap (λ (m : ByteMap Digest). map (λ (tag : List ℕ × Digest). tag.1) (entries m)) untagged ∙ ap (map (λ (tag : List ℕ × Digest). tag.1)) entries_empty

  only_head_kept : AreDatedBy 1100000 r.commits → (id : Digest) → IsKeptIn here 1300000 id → b.head ≡ id
  only_head_kept dated id kept =
      kept_is_head r.commits b.head id dated
      (subst (λ (x : List Digest). IsKeptBy r.commits ((main, b.head) ∷ []) x (Some rules) 1300000 id) tags
      (subst (λ (x : List (List ℕ × Digest)). IsKeptBy r.commits x (tagged_of here) (Some rules) 1300000 id) heads kept))

  pub head_kept : IsKeptIn here 1300000 b.head
  head_kept =
      subst (λ (x : List (List ℕ × Digest)). IsKeptBy r.commits x (tagged_of here) (Some rules) 1300000 b.head) (sym heads) (inl (main, (0, omega arith, refl)))

-- the head can't expire
pub head_stays : (s : State) (r : Repository) (b : Branch) → r.tags ≡ empty → IsExpirable (scene s (keeping r) b) 1300000 (commit b.head) → ⊥
head_stays s r b untagged can =
    let same : can.repository ≡ of_main (keeping r) b = only_one quickstart (of_main (keeping r) b) quickstart can.repository can.stands in
    let unkept : IsKeptIn (of_main (keeping r) b) 1300000 b.head → ⊥ = subst (λ (x : Repository). IsKeptIn x 1300000 b.head → ⊥) same can.unkept in
    unkept (head_kept r b untagged)

module _ (s : State) (r : Repository) (b : Branch) (untagged : r.tags ≡ empty) (dated : AreDatedBy 1100000 r.commits) (early late : Digest)
    (live_early : HasLiveCommit r early) (live_late : HasLiveCommit r late)
    (only : (id : Digest) → HasLiveCommit r id → (id ≡ early) ⊎ ((id ≡ late) ⊎ (id ≡ b.head)))
    (apart_early : early ≡ b.head → ⊥) (apart_late : late ≡ b.head → ⊥) where
  expirable : (id : Digest) → HasLiveCommit r id → (id ≡ b.head → ⊥) → IsExpirable (scene s (keeping r) b) 1300000 (commit id)
  expirable id live apart = record {
    repository = of_main (keeping r) b;
    stands = repo_there (of_main (keeping r) b);
    live = live;
    unkept = λ kept. apart (sym (only_head_kept r b untagged dated id kept));
  }

  pub listed_expirable : (one : RepositoryCommit) → Contains (commit late ∷ commit early ∷ []) one → IsExpirable (scene s (keeping r) b) 1300000 one
  listed_expirable one has = elim (Contains-append_cases (commit late ∷ []) (commit early ∷ []) one has) [
    | inl first ↦ subst (IsExpirable (scene s (keeping r) b) 1300000) (only_element (commit late) one first) (expirable late live_late apart_late)
    | inr second ↦ subst (IsExpirable (scene s (keeping r) b) 1300000) (only_element (commit early) one second) (expirable early live_early apart_early)
  ]

  the_commit : (one : RepositoryCommit) (id : Digest) → one.repo ≡ quickstart → one.commit ≡ id → commit id ≡ one
  the_commit one id repo is =
      ap (λ (x : Digest). record { repo = quickstart; commit = x }) (sym is) ∙ ap (λ (x : List ℕ). record { repo = x; commit = one.commit }) (sym repo)

  in_quickstart_alone : (one : RepositoryCommit) → IsSome (get (insert {R = byte_order} empty quickstart (of_main (keeping r) b)) one.repo)
      → one.repo ≡ quickstart
  in_quickstart_alone one there = elim (stood empty quickstart (of_main (keeping r) b) one.repo there) [
    | inl is ↦ is
    | inr in_empty ↦ absurd (cc (sym (ap is_some (get-empty {X = Repository} byte_order one.repo)) ∙ in_empty))
  ]

  pub expirable_listed : (one : RepositoryCommit) → IsExpirable (scene s (keeping r) b) 1300000 one → Contains (commit late ∷ commit early ∷ []) one
  expirable_listed one can =
      let same : can.repository ≡ of_main (keeping r) b = only_one quickstart (of_main (keeping r) b) one.repo can.repository can.stands in
      let repo = in_quickstart_alone one (ap is_some can.stands) in
      let live : HasLiveCommit r one.commit = subst (λ (x : Repository). HasLiveCommit x one.commit) same can.live in
      let unkept : IsKeptIn (of_main (keeping r) b) 1300000 one.commit → ⊥ = subst (λ (x : Repository). IsKeptIn x 1300000 one.commit → ⊥) same can.unkept in
      elim (only one.commit live) [
        | inl is ↦ subst (Contains (commit late ∷ commit early ∷ [])) (the_commit one early repo is) (1, omega arith, refl)
        | inr others ↦ elim others [
          | inl is ↦ subst (Contains (commit late ∷ commit early ∷ [])) (the_commit one late repo is) (0, omega arith, refl)
          | inr is ↦ absurd (unkept (subst (IsKeptIn (of_main (keeping r) b) 1300000) (sym is) (head_kept r b untagged)))
        ]
      ]

-- the scene after two commits expired
pub after_expiring : (s : State) (r : Repository) (b : Branch) (early late : Digest)
    → after (scene s r b) (expire_entry (commit late ∷ commit early ∷ [])) ≡ scene (counted s) (with_expired early (with_expired late r)) b
after_expiring s r b early late =
    ap counted (ap (in_repository quickstart (with_expired early)) (in_quickstart (with_expired late) s r b)
    ∙ in_quickstart (with_expired early) s (with_expired late r) b)

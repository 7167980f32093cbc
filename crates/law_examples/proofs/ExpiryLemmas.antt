-- The whole history, and other lists of commits that are to expire.
use Rattle.std.proofs.Common.{◌≡◌, ◌∷◌, [], true, false, List, refl, sym, ap, subst, ◌∙◌, arith, inl, inr}
use Rattle.std.specs.Prelude.{is_some}
use Rattle.std.specs.List.{Contains}
use Rattle.lake_base.specs.declared.digest.Digest.{Digest}
use Rattle.lake_format.specs.declared.cut.Cut.{Cut}
use Rattle.lake_model.specs.declared.history.Operation.TheVariants.{Condemn, Expire}
use Rattle.lake_model.specs.declared.history.RepositoryCommit.{RepositoryCommit}
use Rattle.lake_model.specs.State.{HasLiveCommit, Repository, State, is_expired}
use Rattle.lake_model.specs.History.{Allows, IsLegal, after}
use Rattle.lake_model.specs.Naming.{IsGarbage, IsNamed}
use Rattle.lake_model.specs.Removal.{IsExpirable, IsKeptIn, MayExpire}
use Rattle.lake_model.specs.Soundness.{fresh}
use Rattle.law_examples.specs.HistoryWords.{quickstart, first, IsCommitAdmissible}
use Rattle.law_examples.specs.Days.{AreApart, commit, condemn_entry, two_days, expire_entry, first_commit, lake_of_days, lake_after, lake_before_first}
use Rattle.law_examples.specs.Days.{lake_before_second, older_commits, said_at, second_commit}
use Rattle.law_examples.proofs.SceneLemmas.{scene, of_main, counted, Leads, leads_one, leads_on}
use Rattle.law_examples.proofs.EntriesLemmas.{may}
use Rattle.law_examples.proofs.MapsLemmas.{get_put}
use Rattle.law_examples.proofs.NamingLemmas.{only_one}
use Rattle.law_examples.proofs.KeepingLemmas.{after_expiring, expirable_listed, head_kept, head_stays, keeping, listed_expirable, only_element}
use Rattle.law_examples.proofs.DaysLemmas.{end, first_is, first_legal, lake_end, last, later_course, one, r2, second_is, second_legal, two}
use Rattle.law_examples.proofs.EndLemmas.{dated, left, live_first, live_one, one_named, only, only_two, three_named, two_named, zero_garbage, zero_named}

module _ (cut : Cut) (digest : Digest) where
  abbrev at_end : State
  at_end = scene (end cut digest) (keeping (r2 cut digest)) (last cut digest)

  abbrev expired_end : State
  expired_end = scene (counted (end cut digest)) (left cut digest) (last cut digest)

  -- the two older commits, with the first day's by its id
  abbrev listed : Digest → List RepositoryCommit
  listed id = commit id ∷ commit (first cut) ∷ []

  after_older : after at_end (expire_entry (older_commits cut digest)) ≡ expired_end
  after_older =
      ap (λ (id : Digest). after at_end (expire_entry (listed id))) (first_is cut digest)
      ∙ after_expiring (end cut digest) (keeping (r2 cut digest)) (last cut digest) (first cut) (one cut digest)

  after_is : lake_after cut digest ≡ expired_end
  after_is = ap (λ (l : State). after l (expire_entry (older_commits cut digest))) (lake_end cut digest) ∙ after_older

  pub garbage : IsGarbage (lake_after cut digest) 0
  garbage = subst (λ (l : State). IsGarbage l 0) (sym after_is) (zero_garbage cut digest)

  pub named_by_seal : IsNamed (lake_after cut digest) 2
  named_by_seal = subst (λ (l : State). IsNamed l 2) (sym after_is) (two_named cut digest)

  pub named_by_ticket : IsNamed (lake_after cut digest) 3
  named_by_ticket = subst (λ (l : State). IsNamed l 3) (sym after_is) (three_named cut digest)

  pub twice : Allows (lake_of_days cut digest) (expire_entry (commit (first_commit cut digest) ∷ commit (first cut) ∷ commit (first cut) ∷ [])) → ⊥
  twice allowed = allowed.possible.distinct.1.0 (0, omega arith, refl)

  pub not_head : Allows (lake_of_days cut digest)
      (expire_entry (commit (first_commit cut digest) ∷ commit (first cut) ∷ commit (second_commit cut digest) ∷ [])) → ⊥
  not_head allowed =
      let can : IsExpirable (lake_of_days cut digest) 1300000 (commit (second_commit cut digest)) =
      (allowed.possible.all (commit (second_commit cut digest))).0 (2, omega arith, refl) in
      head_stays (end cut digest) (r2 cut digest) (last cut digest) refl
      (subst (λ (id : Digest). IsExpirable at_end 1300000 (commit id)) (second_is cut digest)
      (subst (λ (l : State). IsExpirable l 1300000 (commit (second_commit cut digest))) (lake_end cut digest) can))

  -- what is no commit can't expire
  pub not_other : (id : Digest) → (first cut ≡ id → ⊥) → (first_commit cut digest ≡ id → ⊥) → (second_commit cut digest ≡ id → ⊥)
      → Allows (lake_of_days cut digest) (expire_entry (commit (first_commit cut digest) ∷ commit (first cut) ∷ commit id ∷ [])) → ⊥
  not_other id not_first not_one not_two allowed =
      let can : IsExpirable at_end 1300000 (commit id) =
      subst (λ (l : State). IsExpirable l 1300000 (commit id)) (lake_end cut digest) ((allowed.possible.all (commit id)).0 (2, omega arith, refl)) in
      let same : can.repository ≡ of_main (keeping (r2 cut digest)) (last cut digest) =
      only_one quickstart (of_main (keeping (r2 cut digest)) (last cut digest)) quickstart can.repository can.stands in
      let live : HasLiveCommit (keeping (r2 cut digest)) id = subst (λ (r : Repository). HasLiveCommit r id) same can.live in
      elim (only cut digest id live) [
        | inl is ↦ not_first (sym is)
        | inr others ↦ elim others [
          | inl is ↦ not_one (first_is cut digest ∙ sym is)
          | inr is ↦ not_two (second_is cut digest ∙ sym is)
        ]
      ]

  -- what is expired can't expire again
  pub not_again : Allows (lake_after cut digest) (expire_entry (commit (first cut) ∷ [])) → ⊥
  not_again allowed =
      let can : IsExpirable expired_end 1300000 (commit (first cut)) =
      subst (λ (l : State). IsExpirable l 1300000 (commit (first cut))) after_is ((allowed.possible.all (commit (first cut))).0 (0, omega arith, refl)) in
      let same : can.repository ≡ of_main (left cut digest) (last cut digest) =
      only_one quickstart (of_main (left cut digest) (last cut digest)) quickstart can.repository can.stands in
      let kept : is_expired (left cut digest) (first cut) ≡ false = subst (λ (r : Repository). is_expired r (first cut) ≡ false) same can.live.1 in
      let lost : is_expired (left cut digest) (first cut) ≡ true = ap is_some (get_put _ (first cut).0 tt) in
      absurd (cc (sym kept ∙ lost))

  -- and the head is kept
  head_left : (one_of : RepositoryCommit) → IsExpirable expired_end 1300000 one_of → ⊥
  head_left one_of can =
      let same : can.repository ≡ of_main (left cut digest) (last cut digest) =
      only_one quickstart (of_main (left cut digest) (last cut digest)) one_of.repo can.repository can.stands in
      let live : HasLiveCommit (left cut digest) one_of.commit = subst (λ (r : Repository). HasLiveCommit r one_of.commit) same can.live in
      let unkept : IsKeptIn (of_main (left cut digest) (last cut digest)) 1300000 one_of.commit → ⊥ =
      subst (λ (r : Repository). IsKeptIn r 1300000 one_of.commit → ⊥) same can.unkept in
      unkept (subst (IsKeptIn (of_main (left cut digest) (last cut digest)) 1300000) (sym (only_two cut digest one_of.commit live))
      (head_kept (r2 cut digest) (last cut digest) refl))

  pub none_left : Allows (lake_after cut digest) (expire_entry [])
  none_left = subst (λ (l : State). Allows l (expire_entry [])) (sym after_is)
      (may (counted (end cut digest)) (left cut digest) (last cut digest) 1 (Expire 1300000 []) refl (omega arith) (record {
        distinct = tt;
        all = λ one_of. (λ has. absurd (omega (arith, has.1)), λ can. absurd (head_left one_of can));
      }))

  condemning_course : Leads expired_end (condemn_entry ∷ []) (after expired_end condemn_entry)
  condemning_course = leads_one
      (may (counted (end cut digest)) (left cut digest) (last cut digest) 1 (Condemn (0 ∷ [])) refl (omega arith) (record {
        distinct = (λ has. absurd (omega (arith, has.1)), tt);
        garbage = λ number has. subst (IsGarbage expired_end) (only_element 0 number has) (zero_garbage cut digest);
      }))
      refl

  module _ (apart : AreApart cut digest) where
    early : first cut ≡ one cut digest → ⊥
    early is = apart.early (is ∙ sym (first_is cut digest))

    late : one cut digest ≡ two cut digest → ⊥
    late is = apart.late (first_is cut digest ∙ (is ∙ sym (second_is cut digest)))

    ends : first cut ≡ two cut digest → ⊥
    ends is = apart.ends (is ∙ sym (second_is cut digest))

    pub named_before : IsNamed (lake_of_days cut digest) 0
    named_before = subst (λ (l : State). IsNamed l 0) (sym (lake_end cut digest)) (zero_named cut digest late)

    pub named_by_head : IsNamed (lake_after cut digest) 1
    named_by_head = subst (λ (l : State). IsNamed l 1) (sym after_is) (one_named cut digest ends late)

    can_expire : (one_of : RepositoryCommit) → Contains (listed (one cut digest)) one_of → IsExpirable at_end 1300000 one_of
    can_expire = listed_expirable (end cut digest) (r2 cut digest) (last cut digest) refl (dated cut digest) (first cut) (one cut digest)
        (live_first cut digest) (live_one cut digest) (only cut digest) ends late

    may_expire : MayExpire at_end 1300000 (listed (one cut digest))
    may_expire = record {
      distinct = (
        λ has. early (ap (λ (c : RepositoryCommit). c.commit) (only_element (commit (first cut)) (commit (one cut digest)) has)),
        (λ has. absurd (omega (arith, has.1)), tt),
      );
      all = λ one_of. (
        can_expire one_of,
        expirable_listed (end cut digest) (r2 cut digest) (last cut digest) refl (dated cut digest) (first cut) (one cut digest)
            (live_first cut digest) (live_one cut digest) (only cut digest) ends late one_of,
      );
    }

    end_allows : Allows at_end (expire_entry (older_commits cut digest))
    end_allows = subst (λ (id : Digest). Allows at_end (expire_entry (listed id))) (sym (first_is cut digest))
        (may (end cut digest) (keeping (r2 cut digest)) (last cut digest) 1 (Expire 1300000 (listed (one cut digest))) refl (omega arith) may_expire)

    pub allowed : Allows (lake_of_days cut digest) (expire_entry (older_commits cut digest))
    allowed = subst (λ (l : State). Allows l (expire_entry (older_commits cut digest))) (sym (lake_end cut digest)) end_allows

    pub one_left : Allows (lake_of_days cut digest) (expire_entry (commit (first_commit cut digest) ∷ [])) → ⊥
    one_left allows =
        let can : IsExpirable (lake_of_days cut digest) 1300000 (commit (first cut)) = subst (λ (l : State). IsExpirable l 1300000 (commit (first cut)))
        (sym (lake_end cut digest)) (can_expire (commit (first cut)) (1, omega arith, refl)) in
        apart.early (sym (ap (λ (c : RepositoryCommit). c.commit)
        (only_element (commit (first_commit cut digest)) (commit (first cut)) ((allows.possible.all (commit (first cut))).1 can))))

    pub legal : IsCommitAdmissible (lake_before_first cut digest) (said_at 1000000) → IsCommitAdmissible (lake_before_second cut digest) (said_at 1100000)
        → IsLegal (fresh cut) (two_days cut digest)
    legal first_admissible second_admissible =
        (leads_on (first_legal cut digest first_admissible) (leads_on (second_legal cut digest second_admissible)
        (leads_on (later_course cut digest) (leads_on (leads_one end_allows after_older) condemning_course)))).legal

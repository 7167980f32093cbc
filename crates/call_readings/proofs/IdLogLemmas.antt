-- The log of a commit's id begins with the commit.
use Rattle.std.proofs.Common.{◌≡◌, ◌<◌, inl, inr, ℕ, zero, suc, false, List, [], ◌∷◌, take, Option, Some, None, Result, Ok, Err, refl, sym, ap, subst}
use Rattle.std.proofs.Common.{◌∙◌, arith}
use Rattle.std.specs.Prelude.{is_some, IsSome, option_map}
use Rattle.std.specs.FinMap.{get}
use Rattle.std.specs.List.{Contains}
use Rattle.std.specs.List.Sorted.{IsStrictlySortedBy}
use Rattle.std.specs.Option.{option_map_or, option_or}
use Rattle.std.specs.Ordering.{is_lt, nat_cmp, ordering_then}
use Rattle.std.specs.declared.cmp.Ordering.{Ordering}
use Rattle.std.specs.declared.cmp.Ordering.TheVariants.{Less, Equal, Greater}
use Rattle.std.proofs.lemmas.Cmp.{ranked}
use Rattle.lake_base.specs.Digest.{encode_lower}
use Rattle.lake_base.specs.Names.{is_like_id}
use Rattle.lake_base.specs.declared.digest.Digest.{Digest}
use Rattle.lake_values.specs.Ancestry.{Graph, IsAncestor, IsGraph, Reaches, commit_of, generation, id_order, log_order}
use Rattle.lake_values.specs.Commit.{CommitRecordValue}
use Rattle.lake_values.specs.Log.{log_after, log_page}
use Rattle.lake_values.proofs.AncestryLemmas.{reached_lesser}
use Rattle.lake_values.proofs.AncestryOrderLemmas.{log_total, not_before_itself}
use Rattle.lake_values.proofs.LogLemmas.{in_log_from, in_log_to, log_after_ascends}
use Rattle.lake_values.proofs.OrderLemmas.{Contains-first, Contains-nothing, below_later, first_or_later}
use Rattle.lake_format.specs.Spelling.{IsDigest}
use Rattle.lake_format.specs.declared.cut.Cut.{Cut}
use Rattle.lake_model.specs.declared.fault.Reference.TheVariants.{Expression}
use Rattle.lake_model.specs.declared.fault.StepFault.{StepFault}
use Rattle.lake_model.specs.declared.fault.StepFault.TheVariants.{NoRef, NoRepo}
use Rattle.lake_model.specs.State.{Branch, Repository, State}
use Rattle.lake_model.specs.Readings.{LogReply, commits_in, known_commit, log_page_reply, log_reply, ◌then◌}
use Rattle.lake_model.specs.Resolving.{by_id, commit_named, expression_target, moved_target}
use Rattle.lake_model.specs.Soundness.{IsSound, IsSoundRepository}
use Rattle.lake_laws.proofs.HexLemmas.{digest_reads, text_is_like_id}
use Rattle.lake_laws.proofs.IdTextLemmas.{named_none, target_by_id}
use Rattle.lake_calls.specs.CallReadings.{commit_reading, known_commit as known}
use Rattle.lake_calls.specs.declared.reply.Done.{Done}
use Rattle.lake_calls.specs.declared.reply.Done.TheVariants as done
use Rattle.call_readings.specs.StepOutcomes.{first_commit}

-- ---- a commit comes first of its ancestors

-- a lesser generation doesn't come before a greater one
not_before : (a b : ℕ) (o : Ordering) → b < a → ordering_then (nat_cmp a b) o ≡ Less → ⊥
not_before a b o lesser is = by (nat_cmp a b) refl
  where
    by : (r : Ordering) → r ≡ nat_cmp a b → ⊥
    by Less same = let below : a < b = ranked a b Less same in absurd (omega (arith, below, lesser))
    by Equal same = let level : a ≡ b = ranked a b Equal same in absurd (omega (arith, level, lesser))
    by Greater same = let no : Greater ≡ Less = ap (λ r. ordering_then r o) same ∙ is in absurd cc

module _ (g : Graph) (graph : IsGraph g) (id : Digest) (there : IsSome (commit_of g id)) where
  itself : IsAncestor g id id
  unfolding Reaches
  itself = (there, (0, refl))

  no_other : (y : Digest) → IsAncestor g y id → log_order g y id ≡ Less → ⊥
  unfolding Reaches
  no_other y ancestor first = by ancestor.1.0 ancestor.1.1
    where
      by : (n : ℕ) → Reaches g n id y → ⊥
      by zero same =
          let less = ap is_lt (subst (λ d. log_order g d id ≡ Less) (sym same) first) in
          let no = sym less ∙ not_before_itself g id in absurd cc
      by (suc n) reached =
          absurd (not_before (generation g id) (generation g y) (id_order y id) (reached_lesser g graph (suc n) id y (omega arith) reached) first)

  begins : (xs : List Digest) → log_after g id None None ≡ xs → Contains xs id → (rest : List Digest) × (xs ≡ id ∷ rest)
  begins [] is within = absurd (Contains-nothing id within)
  begins (y ∷ ys) is within = elim (first_or_later y id ys within) [
    | inl same ↦ (ys, ap (λ x. x ∷ ys) same)
    | inr later ↦
        let ascend = subst (IsStrictlySortedBy (log_order g)) is (log_after_ascends g id None None) in
        let y_in = in_log_from g graph id None None y (subst (λ l. Contains l y) (sym is) (Contains-first y ys)) in
        absurd (no_other y y_in.ancestor (below_later (log_total g) y id ys ascend later))
  ]

  -- a page of one commit is the commit
  pub first_page : (log_page g id None None 1).ids ≡ id ∷ []
  unfolding log_page
  first_page =
      let within = in_log_to g graph id None None id (record { ancestor = itself; later = tt; dated = tt }) in
      let first = begins (log_after g id None None) refl within in
      ap (take 1) first.1

-- ---- the text of an id that no commit has

module _ (cut : Cut) (r : Repository) (sound : IsSoundRepository cut r) (id : Digest) (digest : IsDigest id.0) where
  none_like : {X : Type 0} (o : Option X) → (IsSome o → is_like_id (encode_lower id.0) ≡ false) → o ≡ None
  none_like None plain = refl
  none_like (Some x) plain = let like = text_is_like_id id.0 digest in let unlike = plain refl in absurd cc

  nowhere : (IsSome (commit_of r.commits id) → ⊥) → expression_target r (by_id id false) ≡ Err (NoRef Expression)
  nowhere none =
      let no_branch = none_like (get r.branches (encode_lower id.0)) (sound.plain_branches (encode_lower id.0)) in
      let no_tag = none_like (get r.tags (encode_lower id.0)) (sound.plain_tags (encode_lower id.0)) in
      let no_commit = named_none (encode_lower id.0) id (digest_reads id.0 digest) refl r.commits none in
      ap (moved_target r (by_id id false))
      ((λ i. option_or (option_map (λ (b : Branch). b.head) (no_branch i)) (option_or (no_tag i) (commit_named r (encode_lower id.0)))) ∙ sym no_commit)

  abbrev Reply : Type 0
  Reply = Result Done StepFault

  -- what is told of the commit, by what the text of its id leads to
  abbrev told_by : State → Result Digest StepFault → Reply
  told_by s target =
      (target then λ name. known_commit r None then λ other. target then λ i. Ok (log_page_reply s r (log_page r.commits i other None 1)))
      then λ (log : LogReply). first_commit log.commits

  pub commit_told : (s : State) (found : Option CommitRecordValue) → commit_of r.commits id ≡ found
      → told_by s (expression_target r (by_id id false))
      ≡ option_map_or (λ commit. Ok (done.Commit (known (id, commit)))) found (Err (NoRef Expression))
  commit_told s (Some commit) is =
      ap (told_by s) (target_by_id cut r sound id (ap is_some is) false)
      ∙ ap (λ ids. first_commit (commits_in r ids)) (first_page r.commits sound.graph id (ap is_some is))
      ∙ ap (λ o. first_commit (option_map_or (λ c. (id, c) ∷ []) o [])) is
  commit_told s None is = ap (told_by s) (nowhere (λ some. let no = sym (ap is_some is) ∙ some in cc))

-- THE COMMIT OF AN ID IS THE FIRST OF ITS LOG, in a sound state.
pub commit_by_log : (s : State) (repo : List ℕ) (id : Digest) → IsDigest id.0 → IsSound s
    → (log_reply s repo (by_id id false) None None 1 then λ log. first_commit log.commits) ≡ commit_reading repo id s
commit_by_log s repo id digest sound = by (get s.repositories repo) refl
  where
    by : (found : Option Repository) → get s.repositories repo ≡ found
        → (option_map_or (λ r. expression_target r (by_id id false) then λ name. known_commit r None then λ other. expression_target r (by_id id false)
        then λ i. Ok (log_page_reply s r (log_page r.commits i other None 1))) found (Err NoRepo)
        then λ (log : LogReply). first_commit log.commits)
        ≡ option_map_or (λ r. option_map_or (λ commit. Ok (done.Commit (known (id, commit)))) (commit_of r.commits id) (Err (NoRef Expression)))
        found (Err NoRepo)
    by (Some r) is = commit_told s.cut r (sound.repositories repo r is) id digest s (commit_of r.commits id) refl
    by None is = refl

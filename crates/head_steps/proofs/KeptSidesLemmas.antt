-- The commits that a call resolved stay commits of the repository, in each lake that its seat may find.
use Rattle.std.proofs.Common.{◌≡◌, ◌++◌, ℕ, zero, suc, Bool, true, false, List, length, nat_lt, Option, Some, None, Result, Ok, Err, refl, sym, ap, subst, ◌∙◌}
use Rattle.std.proofs.Common.{append_assoc}
use Rattle.std.specs.Prelude.{if◌then◌else◌, slice_get}
use Rattle.std.specs.FinMap.{get}
use Rattle.std.specs.Option.{option_map_or}
use Rattle.lake_base.specs.declared.digest.Digest.{Digest}
use Rattle.lake_values.specs.Ancestry.{parents}
use Rattle.commit_graph.specs.Expressions.{RefExprValue}
use Rattle.lake_model.specs.declared.fault.StepFault.{StepFault}
use Rattle.lake_model.specs.declared.fault.StepFault.TheVariants as step
use Rattle.lake_model.specs.declared.history.HistoryEntry.{HistoryEntry}
use Rattle.lake_model.specs.declared.reply.Point.{Point}
use Rattle.lake_model.specs.declared.reply.Sides.TheVariants.{Merge, Pick}
use Rattle.lake_model.specs.History.{IsLegal, replay}
use Rattle.lake_model.specs.Readings.{point_of, resolve_reply, ◌then◌}
use Rattle.lake_model.specs.Resolving.{expression_target}
use Rattle.lake_model.specs.Soundness.{IsSound}
use Rattle.lake_model.specs.State.{HasCommit, HasRepository, Repository, State}
use Rattle.lake_laws.specs.SameCommit.{HasSameCommit}
use Rattle.lake_laws.proofs.KeptCommitLemmas.{expression_stays, parent_stays}
use Rattle.lake_laws.proofs.LookupLemmas.{one_value}
use Rattle.core_puts.specs.KeeperViews.{KeeperView}
use Rattle.core_readings.specs.Preparations.{HasSides}
use Rattle.core_state.specs.declared.lake.LakeState.{LakeState}
use Rattle.core_state.specs.LakeStates.{lake_value, state_of}
use Rattle.lake_core.specs.declared.standing.LakeOrigin.{LakeOrigin}
use Rattle.lake_core.specs.Lakes.{LakeValue, state}
use Rattle.shared_lake.specs.SeatSteps.{Finds, LakeSeat, origin_of}
use Rattle.lake_calls.specs.CallRefusals.{chosen_parent, nth_parent}
use Rattle.lake_calls.specs.declared.reply.Refusal.{Refusal}
use Rattle.lake_calls.specs.declared.reply.MissingParent.TheVariants.{OfNumber}
use Rattle.lake_calls.specs.declared.reply.Refusal.TheVariants.{NeedsParentNumber, NoParent}
use Rattle.flow_steps.specs.FlowSeats.{GoesOn, opened_state, state_at}

-- ---- the parent of a number

abbrev chosen : Refusal → Option Digest → Result Digest Refusal
chosen refused o = option_map_or Ok o (Err refused)

found_ok : (o : Option Digest) (refused : Refusal) (parent : Digest) → chosen refused o ≡ Ok parent → o ≡ Some parent
found_ok (Some one) refused parent is = cc
found_ok None refused parent is = absurd cc

by_place : (ids : List Digest) (number : ℕ) (refused : Refusal) (parent : Digest) → chosen refused (nth_parent ids number) ≡ Ok parent
    → (place : ℕ) × (slice_get ids place ≡ Some parent)
by_place ids zero refused parent is = absurd (let none : None ≡ Some parent = found_ok None refused parent is in cc)
by_place ids (suc number) refused parent is = (number, found_ok (slice_get ids number) refused parent is)

by_only : (ids : List Digest) (several : Bool) (parent : Digest)
    → (if several then Err NeedsParentNumber else chosen (NoParent (OfNumber 1)) (nth_parent ids 1)) ≡ Ok parent
    → (place : ℕ) × (slice_get ids place ≡ Some parent)
by_only ids true parent is = absurd cc
by_only ids false parent is = by_place ids 1 (NoParent (OfNumber 1)) parent is

chosen_at : (ids : List Digest) (number : Option ℕ) (parent : Digest) → chosen_parent ids number ≡ Ok parent → (place : ℕ) × (slice_get ids place ≡ Some parent)
chosen_at ids (Some number) parent is = by_place ids number (NoParent (OfNumber number)) parent is
chosen_at ids None parent is = by_only ids (nat_lt 1 (length ids)) parent is

-- ---- in a history

-- the repository in which an expression leads to a point
pub record ResolvedIn (state : State) (repo : List ℕ) (e : RefExprValue) (point : Point) : Type 0 where
  pub r : Repository
  pub at : get state.repositories repo ≡ Some r
  pub leads : expression_target r e ≡ Ok point.commit
  pub has_parents : parents r.commits point.commit ≡ point.parents

abbrev pointed : Point → Result Point StepFault
pointed point = Ok point

by_target : (state : State) (r : Repository) (e : RefExprValue) (point : Point) (target : Result Digest StepFault) → expression_target r e ≡ target
    → target then (λ id. Ok (point_of state r e id)) ≡ pointed point
    → (expression_target r e ≡ Ok point.commit) × (parents r.commits point.commit ≡ point.parents)
by_target state r e point (Ok id) leads is =
    let same : point_of state r e id ≡ point = cc (is) in
    let commit : id ≡ point.commit = ap (λ (p : Point). p.commit) same in
    (leads ∙ ap Ok commit, ap (parents r.commits) (sym commit) ∙ ap (λ (p : Point). p.parents) same)
by_target state r e point (Err fault) leads is = absurd cc

by_found : (state : State) (repo : List ℕ) (e : RefExprValue) (point : Point) (found : Option Repository) → get state.repositories repo ≡ found
    → option_map_or (λ (r : Repository). expression_target r e then λ id. Ok (point_of state r e id)) found (Err step.NoRepo) ≡ pointed point
    → ResolvedIn state repo e point
by_found state repo e point (Some r) at is =
    let both = by_target state r e point (expression_target r e) refl is in
    record { r = r; at = at; leads = both.0; has_parents = both.1 }
by_found state repo e point None at is = absurd cc

pub resolved_in : (state : State) (repo : List ℕ) (e : RefExprValue) (point : Point) → resolve_reply state repo e ≡ Ok point → ResolvedIn state repo e point
resolved_in state repo e point is = by_found state repo e point (get state.repositories repo) refl is

module _ (opened : State) (seen history more : List HistoryEntry) (sound : IsSound opened) (whole : seen ≡ history ++ more) (legal : IsLegal opened seen)
    (repo : List ℕ) (e : RefExprValue) (point : Point) (resolved : resolve_reply (replay opened history) repo e ≡ Ok point) where
  abbrev there : ResolvedIn (replay opened history) repo e point
  there = resolved_in (replay opened history) repo e point resolved

  stays_there : (r : Repository) (id : Digest) → HasRepository (replay opened seen) repo (HasSameCommit r id) → (s : Repository)
      → get (replay opened seen).repositories repo ≡ Some s → HasCommit s id
  stays_there r id stays s at = subst (λ q. HasCommit q id) (one_value (get (replay opened seen).repositories repo) stays.0 s stays.1 at) stays.2.there

  pub source_stays : (s : Repository) → get (replay opened seen).repositories repo ≡ Some s → HasCommit s point.commit
  source_stays = stays_there there.r point.commit (expression_stays opened seen history more whole legal repo there.r there.at sound e point.commit there.leads)

  pub chosen_stays : (number : Option ℕ) (parent : Digest) → chosen_parent point.parents number ≡ Ok parent
      → (s : Repository) → get (replay opened seen).repositories repo ≡ Some s → HasCommit s parent
  chosen_stays number parent is =
      let at = chosen_at point.parents number parent is in
      stays_there there.r parent
      (parent_stays opened seen history more whole legal repo there.r there.at sound point.commit parent at.0
      (ap (λ ids. slice_get ids at.0) there.has_parents ∙ at.1))

-- ---- in each lake that the seat may find

module _ {K : Type 0} (view : KeeperView K) (origin : LakeOrigin) (call : ℕ) (mid now : LakeSeat) (goes : GoesOn origin call mid now) (found : LakeValue K)
    (finds : Finds view now found) (repo : List ℕ) (e : RefExprValue) (point : Point)
    (resolved : resolve_reply (state_at origin mid.seen) repo e ≡ Ok point) where
  same_opened : found.opened ≡ origin.opened
  same_opened =
      let both : Some (origin_of view found) ≡ Some origin = sym finds.origin ∙ ap (λ (s : LakeSeat). s.origin) goes.seat ∙ goes.from in
      let one : origin_of view found ≡ origin = cc (both) in
      ap (λ (o : LakeOrigin). o.opened) one

  legal : IsLegal (opened_state origin) found.history
  legal = subst (λ (o : LakeState). IsLegal (state_of (lake_value o)) found.history) same_opened finds.holds.stands.legal

  whole : found.history ≡ mid.seen ++ (goes.added ++ finds.others)
  whole = finds.begins ∙ ap (λ xs. xs ++ finds.others) goes.seen ∙ append_assoc mid.seen goes.added finds.others

  as_state : (P : State → Type 0) → P (state_at origin found.history) → P (state found)
  as_state P p = subst (λ (o : LakeState). P (replay (state_of (lake_value o)) found.history)) (sym same_opened) p

  pub merged_there : HasSides (state found) repo (Merge point.commit)
  merged_there = as_state (λ s. HasSides s repo (Merge point.commit))
      (source_stays (opened_state origin) found.history mid.seen (goes.added ++ finds.others) goes.sound whole legal repo e point resolved)

  abbrev Picked : Digest → Digest → Type 0
  Picked base source = HasSides (state found) repo (Pick base source)

  pub picked_there : (number : Option ℕ) (parent : Digest) → chosen_parent point.parents number ≡ Ok parent
      → Picked parent point.commit × Picked point.commit parent
  picked_there number parent is =
      let source = source_stays (opened_state origin) found.history mid.seen (goes.added ++ finds.others) goes.sound whole legal repo e point resolved in
      let over = chosen_stays (opened_state origin) found.history mid.seen (goes.added ++ finds.others) goes.sound whole legal repo e point resolved
      number parent is in (
        as_state (λ s. HasSides s repo (Pick parent point.commit)) (λ r at. (over r at, source r at)),
        as_state (λ s. HasSides s repo (Pick point.commit parent)) (λ r at. (source r at, over r at)),
      )

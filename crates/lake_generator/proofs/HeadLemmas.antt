-- What is handed out of main's head.
use Rattle.std.proofs.Common.{◌≡◌, ◌++◌, ℕ, List, Some, None, Result, Ok, Err, refl, sym, ap, subst, ◌∙◌, append-nil}
use Rattle.std.specs.Prelude.{codes}
use Rattle.std.specs.FinMap.{get, len}
use Rattle.std.specs.Option.{option_map_or}
use Rattle.lake_base.specs.declared.digest.Digest.{Digest}
use Rattle.lake_format.specs.Cutting.{tree_id}
use Rattle.lake_model.specs.declared.fault.Reference.TheVariants.{Named}
use Rattle.lake_model.specs.declared.fault.StepFault.{StepFault}
use Rattle.lake_model.specs.declared.fault.StepFault.TheVariants as step
use Rattle.lake_model.specs.declared.history.HistoryEntry.{HistoryEntry}
use Rattle.lake_model.specs.History.{replay}
use Rattle.lake_model.specs.Preparing.{PreparedValue, preparation, prepare_reply}
use Rattle.lake_model.specs.Refusals.{Gives}
use Rattle.lake_model.specs.Soundness.{fresh}
use Rattle.lake_model.specs.State.{Branch, Repository, State, head_map}
use Rattle.lake_model.specs.Versions.{VersionsGiven}
use Rattle.core_puts.specs.KeeperViews.{KeeperView}
use Rattle.lake_core.specs.Lakes.{LakeValue, state, versions}
use Rattle.shared_lake.specs.SeatSteps.{Finds, IsRead, LakeSeat, origin_of}
use Rattle.flow_steps.specs.FlowSeats.{opened_state}
use Rattle.fresh_lakes.specs.FreshLakes.{usual_cut}
use Rattle.lake_generator.specs.MainHead.{HasMain, IsMainMap, StandsAtMain}

-- ---- what a lone seat reads

-- the lake that a lone seat finds has the history that it has seen
found_seen : {K : Type 0} (view : KeeperView K) (seat : LakeSeat) (found : LakeValue K) → StandsAtMain seat → Finds view seat found
    → found.history ≡ seat.seen
found_seen view seat found stands finds =
    finds.begins ∙ ap (λ (others : List HistoryEntry). seat.seen ++ others) (finds.alone stands.alone) ∙ append-nil seat.seen

-- so a reading leaves it as it is
pub seat_stays : {K : Type 0} (view : KeeperView K) (old new : LakeSeat) (Answers : LakeValue K → Type 0) → StandsAtMain old
    → IsRead view old new Answers → new ≡ old
seat_stays view old new Answers stands read =
    read.seat ∙ ap (λ (seen : List HistoryEntry). record old { seen = seen; mine = old.mine }) (found_seen view old read.found stands read.finds)

-- an answer of the lake that a lone seat finds is one of what it has seen
found_at : {K : Type 0} (view : KeeperView K) (old new : LakeSeat) (Answers : State → VersionsGiven → Type 0) → StandsAtMain old
    → IsRead view old new (λ l. Answers (state l) (versions l)) → (given : VersionsGiven) × Answers (replay (fresh usual_cut) old.seen) given
found_at view old new Answers stands read =
    let history : read.found.history ≡ old.seen = found_seen view old read.found stands read.finds in
    let told : Some (origin_of view read.found) ≡ Some stands.origin = sym read.finds.origin ∙ stands.from in
    let one : origin_of view read.found ≡ stands.origin = cc in
    let opened = ap opened_state one ∙ stands.opened in
    (versions read.found, subst (λ s. Answers s (versions read.found)) (λ i. replay (opened i) (history i)) read.answer)

-- ---- what a commit of main is made from

-- it is handed out, unless memory ran out
reply_is : (at : State) (given : VersionsGiven) (r : Repository) (b : Branch) → get at.repositories (codes "quickstart") ≡ Some r
    → get r.branches (codes "main") ≡ Some b
    → prepare_reply at given (codes "quickstart") (codes "main") None ≡ Ok (preparation at given (codes "quickstart") (codes "main") None r b)
reply_is at given r b there head =
    let q = codes "quickstart" in
    let m = codes "main" in
    let on : Repository → Result PreparedValue StepFault =
    λ r. option_map_or (λ b. Ok (preparation at given q m None r b)) (get r.branches m) (Err (step.NoRef Named)) in
    ap (λ found. option_map_or on found (Err step.NoRepo)) there
    ∙ ap (λ found. option_map_or (λ b. Ok (preparation at given q m None r b)) found (Err (step.NoRef Named))) head

prepared_there : (at : State) (given : VersionsGiven) (p : PreparedValue) → HasMain at (λ r b. Unit {0})
    → Gives (Ok p) (prepare_reply at given (codes "quickstart") (codes "main") None)
    → HasMain at (λ r b. (p.objects ≡ head_map r b) × (p.cut ≡ at.cut))
prepared_there at given p (r, there, (b, head, u)) gives =
    let told = gives ∙ reply_is at given r b there head in
    let same : p ≡ preparation at given (codes "quickstart") (codes "main") None r b = cc in
    (r, there, (b, head, (ap (λ (x : PreparedValue). x.objects) same, ap (λ (x : PreparedValue). x.cut) same)))

told_map : (at : State) (p : PreparedValue) (paths : ℕ) (id : Digest) → HasMain at (λ r b. (p.objects ≡ head_map r b) × (p.cut ≡ at.cut))
    → paths ≡ len p.objects → id ≡ tree_id p.cut p.objects → IsMainMap at paths id
told_map at p paths id (r, there, (b, head, (objects, cut))) paths_is id_is =
    (r, there, (b, head, (paths_is ∙ ap len objects, id_is ∙ (λ i. tree_id (cut i) (objects i)))))

only_memory : {X : Type 0} (fault : StepFault) (reply : Result X StepFault) (x : X) → reply ≡ Ok x → Gives (Err fault) reply → fault ≡ step.NoMemory
only_memory step.NoMemory reply x is gives = refl
only_memory _ reply x is gives = absurd cc

only_memory_there : (at : State) (given : VersionsGiven) (fault : StepFault) → HasMain at (λ r b. Unit {0})
    → Gives {X = PreparedValue} (Err fault) (prepare_reply at given (codes "quickstart") (codes "main") None) → fault ≡ step.NoMemory
only_memory_there at given fault (r, there, (b, head, u)) gives =
    only_memory fault (prepare_reply at given (codes "quickstart") (codes "main") None)
    (preparation at given (codes "quickstart") (codes "main") None r b) (reply_is at given r b there head) gives

module _ {K : Type 0} (view : KeeperView K) (old new : LakeSeat) (repo branch : List ℕ) (repo_is : repo ≡ codes "quickstart")
    (branch_is : branch ≡ codes "main") (stands : StandsAtMain old) where
  -- what is refused is for want of memory
  pub starved : (fault : StepFault) → IsRead view old new (λ l. Gives {X = PreparedValue} (Err fault) (prepare_reply (state l) (versions l) repo branch None))
      → fault ≡ step.NoMemory
  starved fault read =
      let found = found_at view old new (λ s given. Gives {X = PreparedValue} (Err fault) (prepare_reply s given repo branch None)) stands read in
      let at = replay (fresh usual_cut) old.seen in
      only_memory_there at found.0 fault stands.main
      (subst (λ q. Gives {X = PreparedValue} (Err fault) (prepare_reply at found.0 q (codes "main") None)) repo_is
      (subst (λ m. Gives {X = PreparedValue} (Err fault) (prepare_reply at found.0 repo m None)) branch_is found.1))

  -- and what is handed out has the map of main's head
  pub main_of : (p : PreparedValue) (paths : ℕ) (id : Digest) → IsRead view old new (λ l. Gives (Ok p) (prepare_reply (state l) (versions l) repo branch None))
      → paths ≡ len p.objects → id ≡ tree_id p.cut p.objects → IsMainMap (replay (fresh usual_cut) old.seen) paths id
  main_of p paths id read paths_is id_is =
      let found = found_at view old new (λ s given. Gives (Ok p) (prepare_reply s given repo branch None)) stands read in
      let at = replay (fresh usual_cut) old.seen in
      told_map at p paths id (prepared_there at found.0 p stands.main
      (subst (λ q. Gives (Ok p) (prepare_reply at found.0 q (codes "main") None)) repo_is
      (subst (λ m. Gives (Ok p) (prepare_reply at found.0 repo m None)) branch_is found.1))) paths_is id_is

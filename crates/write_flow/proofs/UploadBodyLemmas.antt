-- What a store of objects holds behind an upload.
use Rattle.std.proofs.Common.{◌≡◌, ◌<◌, inl, inr, ℕ, Bool, true, false, List, [], ◌∷◌, ◌++◌, Option, Some, None, Result, Ok, Err, refl, sym, ap, subst, ◌∙◌}
use Rattle.std.proofs.Common.{arith, eqb-true, append_assoc}
use Rattle.std.specs.Cmp.{nat_cmp_total, eq_by_cmp_equiv, unsigned_tied}
use Rattle.std.specs.FinMap.{get, get-insert, get-remove, insert, remove}
use Rattle.std.specs.Ordering.{eq_by_cmp, nat_cmp}
use Rattle.std.specs.Prelude.{All, IfSome, cond, is_some}
use Rattle.std.proofs.lemmas.List.{append-nil, append_cancel_left}
use Rattle.std.proofs.lemmas.List.Elements.{All-contains, All-pop}
use Rattle.lake_values.specs.Entry.{EntryValue}
use Rattle.lake_values.specs.declared.entry.Change.TheVariants.{Put}
use Rattle.lake_model.specs.declared.history.HistoryEntry.{HistoryEntry}
use Rattle.lake_model.specs.Uncommitted.{put_number}
use Rattle.block_store.specs.Blocks.{HeldObjects, MayHavePut}
use Rattle.lake_core.specs.declared.standing.LakeOrigin.{LakeOrigin}
use Rattle.shared_lake.specs.SeatSteps.{LakeSeat}
use Rattle.call_placement.specs.Points.{Came}
use Rattle.call_placement.specs.Sessions.{caller}
use Rattle.lake_calls.specs.Calls.{UploadCall}
use Rattle.lake_calls.specs.CallExceptions.{Counts}
use Rattle.lake_calls.specs.Courses.{upload_entry}
use Rattle.lake_calls.specs.HeldBodies.{FitsState}
use Rattle.lake_calls.specs.LakeRules.{lake_rules}
use Rattle.lake_calls.specs.declared.call.Call.TheVariants.{Objects}
use Rattle.lake_calls.specs.declared.objects.ObjectCall.TheVariants as object
use Rattle.flow_steps.specs.declared.answer.FlowAnswer.{FlowAnswer}
use Rattle.flow_steps.specs.FlowAnswers.{BlockCounts, asked_at}
use Rattle.flow_steps.specs.FlowSeats.{GoesOn, state_at}
use Rattle.body_laws.specs.BodiesKept.{KeepsFitting}
use Rattle.body_laws.specs.BodyChanges.{HoldsUploads}
use Rattle.body_laws.proofs.FlowBodyLemmas.{fits_behind, none_of_both}
use Rattle.write_flow.specs.declared.answer.Done.{Done}
use Rattle.write_flow.specs.declared.answer.FlowFault.{FlowFault}
use Rattle.write_flow.specs.declared.answer.FlowFault.TheVariants.{BlockFault, NoMemory}
use Rattle.write_flow.specs.Uploads.{BodyStored, HasUploaded, HoldsPut, IsUploadAnswer, WithNumber, WithoutNumber}
use Rattle.write_flow.proofs.UploadStageLemmas.{Stages, StagesOnly, both_only, ends_only, stored_only, taken_only}

-- a store that failed tells what it holds still
pub failed_put : (number : ℕ) (body : List ℕ) (held held_now : Option HeldObjects)
    → IfSome held (λ objects. IfSome held_now (MayHavePut number body objects)) → is_some held_now ≡ is_some held
    → HoldsPut number body held held_now (Err BlockFault)
failed_put number body None held_now may told = tt
failed_put number body (Some objects) (Some now) may told = (now, refl, may)
failed_put number body (Some objects) None may told = absurd cc

-- a lower number is another one
apart_by : (other number : ℕ) (tie : Bool) → eq_by_cmp nat_cmp other number ≡ tie → other < number → tie ≡ false
apart_by other number true is below = let same : other ≡ number = eqb-true other number (sym (unsigned_tied other number) ∙ is) in absurd (omega arith)
apart_by other number false is below = refl

module _ (number : ℕ) (body : List ℕ) (objects now : HeldObjects) where
  -- what is held under a lower number is as it was
  abbrev Below : Type 0
  Below = (other : ℕ) → other < number → get now other ≡ get objects other

  put_below : now ≡ insert objects number body → Below
  put_below is other below =
      ap (λ (m : HeldObjects). get m other) is ∙ get-insert nat_cmp_total objects number body other
      ∙ ap (λ t. cond t (Some body) (get objects other)) (apart_by other number (eq_by_cmp nat_cmp other number) refl below)

  removed_below : now ≡ remove objects number → Below
  removed_below is other below =
      ap (λ (m : HeldObjects). get m other) is ∙ get-remove nat_cmp_total objects number other
      ∙ ap (λ t. cond t None (get objects other)) (apart_by other number (eq_by_cmp nat_cmp other number) refl below)

  it_is : {other : HeldObjects} → Some now ≡ Some other → now ≡ other
  it_is is = cc (is)

  pub held_below : (stored : Result EntryValue FlowFault) → HoldsPut number body (Some objects) (Some now) stored → Below
  held_below (Ok entry) holds = put_below (it_is holds)
  held_below (Err BlockFault) holds = elim (holds.2) [
    | inl removed ↦ removed_below (it_is holds.1 ∙ removed)
    | inr put ↦ put_below (it_is holds.1 ∙ put)
  ]
  held_below (Err NoMemory) holds = elim holds [
    | inl same ↦ (λ other below. ap (λ (m : HeldObjects). get m other) (it_is same))
    | inr put ↦ put_below (it_is put)
  ]
  held_below (Err fault) holds = put_below (it_is holds)

  -- the body of what was staged
  pub held_there : (stored : Result EntryValue FlowFault) → HoldsPut number body (Some objects) (Some now) stored → (told : EntryValue)
      → stored ≡ Ok told → get now number ≡ Some body
  held_there (Ok entry) holds told is =
      ap (λ (m : HeldObjects). get m number) (it_is holds) ∙ get-insert nat_cmp_total objects number body number
      ∙ ap (λ t. cond t (Some body) (get objects number)) ((eq_by_cmp_equiv nat_cmp_total).refl number)
  held_there (Err fault) holds told is = absurd cc

-- a store that told what it held tells it behind the upload
tells_put : (number : ℕ) (body : List ℕ) (objects : HeldObjects) (held_now : Option HeldObjects) (stored : Result EntryValue FlowFault)
    → HoldsPut number body (Some objects) held_now stored → (now : HeldObjects) × (held_now ≡ Some now)
tells_put number body objects held_now (Ok entry) holds = (_, holds)
tells_put number body objects held_now (Err BlockFault) holds = (holds.0, holds.1)
tells_put number body objects held_now (Err NoMemory) holds = elim holds [ inl same ↦ (objects, same) | inr put ↦ (_, put) ]
tells_put number body objects held_now (Err fault) holds = (_, holds)

-- a step of a seat that is alone finds what the seat had seen
found_alone : (origin : LakeOrigin) (call : ℕ) (old new : LakeSeat) (found : List HistoryEntry) (entry : HistoryEntry) → GoesOn origin call old new
    → old.alone ≡ true → Came lake_rules (caller old.number call) old.seen found → new.seen ≡ found ++ entry ∷ [] → found ≡ old.seen
found_alone origin call old new found entry goes alone came is =
    let same : goes.added ≡ came.0 ++ entry ∷ [] =
    append_cancel_left old.seen goes.added (came.0 ++ entry ∷ [])
    (sym goes.seen ∙ is ∙ ap (λ w. w ++ entry ∷ []) came.2 ∙ append_assoc old.seen came.0 (entry ∷ [])) in
    let own = All-pop (λ (e : HistoryEntry). e.by.seat ≡ old.number) goes.added came.0 (Some entry) same (goes.alone alone) in
    came.2 ∙ ap (λ w. old.seen ++ w) (none_of_both old.number came.0 came.1 own.0) ∙ append-nil old.seen

module _ (u : UploadCall) (moment call : ℕ) (faults : Counts) (old new : LakeSeat) (paused pauses : Option ℕ) (versions : List ℕ)
    (answer : FlowAnswer Done FlowFault) where
  abbrev Uploaded : (held held_now : Option HeldObjects) → Type 0
  Uploaded held held_now = HasUploaded u moment call faults held held_now old new paused pauses versions answer

  tells_still : (objects : HeldObjects) (held_now : Option HeldObjects) → Uploaded (Some objects) held_now → (now : HeldObjects) × (held_now ≡ Some now)
  tells_still objects held_now (WithoutNumber fault made same none kept is) = (objects, kept)
  tells_still objects held_now (WithNumber number given behind stored made was holds ends) = tells_put number u.body objects held_now stored holds

  module _ (objects now : HeldObjects) where
    -- what it staged has its body
    abbrev Bodied : ℕ → Type 0
    Bodied number = get now number ≡ Some u.body

    uploads_only : Uploaded (Some objects) (Some now) → StagesOnly old.number Bodied old.seen new.seen
    uploads_only (WithoutNumber fault made same none kept is) = taken_only old.number Bodied u.repo u.branch call old new (Err fault) refl made
    uploads_only (WithNumber number given behind stored made was holds ends) =
        let first : given.number ≡ old.number = ap (λ (s : LakeSeat). s.number) made.goes.seat in
        let second : behind.number ≡ given.number = behind_number was in
        both_only old.number Bodied old.seen given.seen new.seen (taken_only old.number Bodied u.repo u.branch call old given (Ok number) refl made)
        (both_only old.number Bodied given.seen behind.seen new.seen
        (stored_only old.number Bodied u.repo u.branch u.path (upload_entry u moment number) call given behind first faults paused pauses versions stored
        (λ told is staged puts. put_there told is staged puts) was)
        (ends_only old.number Bodied call number behind new stored answer (second ∙ first) ends))
      where
        behind_number : BodyStored u.repo u.branch u.path (upload_entry u moment number) call faults given behind paused pauses versions stored
            → behind.number ≡ given.number
        behind_number was = elim was [
          | inl blocked ↦ ap (λ (s : LakeSeat). s.number) blocked.0
          | inr (inl starving) ↦ ap (λ (s : LakeSeat). s.number) starving.0
          | inr (inr tried) ↦ ap (λ (s : LakeSeat). s.number) tried.0.goes.seat
        ]

        put_there : (told : EntryValue) → stored ≡ Ok told → (staged : ℕ) → put_number (Put (upload_entry u moment number)) ≡ Some staged → Bodied staged
        put_there told is staged puts =
            let same : number ≡ staged = cc (puts) in
            subst Bodied same (held_there number u.body objects now stored holds told is)

    -- what was held under the numbers that were given out is held
    keeps_given : (origin : LakeOrigin) → old.alone ≡ true → old.origin ≡ Some origin → Uploaded (Some objects) (Some now)
        → (other : ℕ) → other < (state_at origin old.seen).next_number → get now other ≡ get objects other
    keeps_given origin alone from (WithoutNumber fault made same none kept is) other below =
        let it : now ≡ objects = cc (kept) in ap (λ (m : HeldObjects). get m other) it
    keeps_given origin alone from (WithNumber number given behind stored made was holds ends) other below =
        held_below number u.body objects now stored holds other (subst (λ n. other < n) (sym fresh) below)
      where
        same_origin : made.origin ≡ origin
        same_origin = let both : Some made.origin ≡ Some origin = sym made.goes.from ∙ from in cc (both)

        fresh : number ≡ (state_at origin old.seen).next_number
        fresh =
            made.ends.2.makes.0
            ∙ ap (λ es. (state_at made.origin es).next_number)
            (found_alone made.origin call old given made.ends.1 _ made.goes alone made.ends.2.came made.ends.3)
            ∙ ap (λ (o : LakeOrigin). (state_at o old.seen).next_number) same_origin

-- so bodies that fit stay so
pub upload_fits : (u : UploadCall) (moment call : ℕ) (blocks : BlockCounts) (held held_now : Option HeldObjects) (old new : LakeSeat)
    (paused pauses : Option ℕ) (answer : FlowAnswer Done FlowFault) → IsUploadAnswer u moment call blocks held held_now old new paused pauses answer
    → KeepsFitting old new held held_now
upload_fits u moment call blocks held held_now old new paused pauses answer is origin objects alone from holds fits =
    let now = tells_still u moment call blocks.faults old new paused pauses is.versions answer objects held_now
    (subst (λ h. HasUploaded u moment call blocks.faults h held_now old new paused pauses is.versions answer) holds is.went) in
    (now.0, now.1, fit now.0 now.1)
  where
    went : (now : HeldObjects) → held_now ≡ Some now
        → HasUploaded u moment call blocks.faults (Some objects) (Some now) old new paused pauses is.versions answer
    went now tells = subst (λ h. HasUploaded u moment call blocks.faults (Some objects) h old new paused pauses is.versions answer) tells
        (subst (λ h. HasUploaded u moment call blocks.faults h held_now old new paused pauses is.versions answer) holds is.went)

    uploads : (now : HeldObjects) → held_now ≡ Some now → HoldsUploads (asked_at (Objects (object.Upload u)) moment) is.answers.flow.goes.added (get now)
    uploads now tells other number asked staged =
        let only = uploads_only u moment call blocks.faults old new paused pauses is.versions answer objects now (went now tells) in
        let goes = is.answers.flow.goes in
        let same : only.0 ≡ goes.added = append_cancel_left old.seen only.0 goes.added (sym only.1 ∙ goes.seen) in
        let all = subst (All (Stages old.number (λ n. get now n ≡ Some u.body))) same only.2 in
        let one : u ≡ other = cc (asked) in
        All-contains (Stages old.number (λ n. get now n ≡ Some u.body)) goes.added staged.entry all staged.among
        (All-contains (λ (e : HistoryEntry). e.by.seat ≡ old.number) goes.added staged.entry (goes.alone alone) staged.among)
        number staged.stages
        ∙ ap (λ (v : UploadCall). Some v.body) one

    fit : (now : HeldObjects) → held_now ≡ Some now → FitsState (state_at origin new.seen) (get now)
    fit now tells = fits_behind old new call (asked_at (Objects (object.Upload u)) moment) is.answers.met is.answers.told answer.position answer.edge
        is.answers.flow origin objects now alone from fits
        (keeps_given u moment call blocks.faults old new paused pauses is.versions answer objects now origin alone from (went now tells)) (uploads now tells)

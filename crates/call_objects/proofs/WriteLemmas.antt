-- A call that a flow of a change answered is answered.
use Rattle.std.proofs.Common.{◌≡◌, inl, ℕ, List, Option, Some, None, Result, Ok, Err, sym, ap, subst, ◌∙◌}
use Rattle.lake_values.specs.Entry.{EntryValue}
use Rattle.block_store.specs.Blocks.{HeldObjects}
use Rattle.read_flow.specs.FlowWords.{BlockCounts, FlowAnswer, KeepsFitting, LakeSeat, still}
use Rattle.lake_calls.specs.Calls.{UploadCall}
use Rattle.lake_calls.specs.CallRefusals.{names_of}
use Rattle.lake_calls.specs.Courses.{upload_entry}
use Rattle.lake_calls.specs.declared.call.Call.{Call}
use Rattle.lake_calls.specs.declared.reply.CallReply.{CallReply}
use Rattle.lake_calls.specs.declared.reply.CallReply.TheVariants as reply
use Rattle.lake_calls.specs.declared.reply.Done.{Done as DoneReply}
use Rattle.lake_calls.specs.declared.reply.Done.TheVariants as done
use Rattle.read_flow.specs.WrittenWords.{Done, FlowFault, IsAnswer, IsCopyTold, IsOutcomeTold, IsUploadTold}
use Rattle.read_flow.specs.ObjectReads.{counted_between}
use Rattle.call_readings.specs.declared.answers.Answered.{Answered}
use Rattle.call_objects.specs.declared.writes.Stands.{Stands}
use Rattle.call_objects.specs.declared.writes.Stands.TheVariants.{Uploaded, Linked, Copied}
use Rattle.call_objects.specs.AnsweredCalls.{IsCallAnswered}
use Rattle.call_objects.specs.ToldFlows.{IsChangeReplied, IsObjectReplied, IsOutcomeReplied, stood}
use Rattle.call_objects.proofs.AnsweredLemmas.{IsOtherCall, ToldOrStarved, other_answered}
use Rattle.call_objects.proofs.ToldLemmas.{refusal_told}

-- what is told of a change without an entry is one reply
abbrev pub IsWithoutEntry : DoneReply → Option EntryValue → DoneReply → Type 0
IsWithoutEntry what entry told = (entry ≡ None) × (told ≡ what)

-- a store of objects that is as it was counted nothing
pub still_counted : {A : Type 0} (old new : A) (faults misses missed : A → ℕ) → new ≡ old
    → counted_between (faults old) (misses old) (faults new) (misses new) (missed new) ≡ still (faults old) (misses old) (missed old)
still_counted old new faults misses missed same = ap (λ x. counted_between (faults old) (misses old) (faults x) (misses x) (missed x)) same

-- what is told of an object that stands at a path is one reply
stands_so : (path : List ℕ) (stands : Stands) (found : Option EntryValue) (entry : EntryValue) (what : DoneReply) (told : CallReply) → found ≡ Some entry
    → what ≡ stood stands (record { path = path; entry = entry }) → IsObjectReplied path stands found told → ToldOrStarved (reply.Done what) told
stands_so path stands found entry what told is so replied =
    let reply_of : told ≡ reply.Done (stood stands (record { path = path; entry = entry })) = subst (λ o. IsObjectReplied path stands o told) is replied in
    inl (reply_of ∙ ap reply.Done (sym so))

-- what is told of an object that a flow put at a path, by the entry that stands there
abbrev pub IsStanding : (path : List ℕ) → Stands → Option EntryValue → DoneReply → Type 0
IsStanding path stands found told =
    (entry : EntryValue) × (found ≡ Some entry) × (told ≡ stood stands (record { path = path; entry = entry }))

pub upload_stands : (u : UploadCall) (moment : ℕ) (path : List ℕ) → path ≡ u.path → (found : Option EntryValue) (told : DoneReply)
    → IsUploadTold u moment found told → IsStanding path Uploaded found told
upload_stands u moment path same found told tells =
    let entry = upload_entry u moment tells.0 in
    (entry, tells.1, tells.2 ∙ ap (λ p. done.Uploaded (record { path = p; entry = entry })) (sym same))

pub link_stands : (at path : List ℕ) (entry : EntryValue) → path ≡ at → (found : Option EntryValue) (told : DoneReply)
    → (found ≡ Some entry) × (told ≡ done.Linked (record { path = at; entry = entry })) → IsStanding path Linked found told
link_stands at path entry same found told tells =
    (entry, tells.0, tells.1 ∙ ap (λ p. done.Linked (record { path = p; entry = entry })) (sym same))

pub copy_stands : (at path : List ℕ) → path ≡ at → (found : Option EntryValue) (told : DoneReply) → IsCopyTold at found told
    → IsStanding path Copied found told
copy_stands at path same found told tells =
    (tells.0, tells.1, tells.2 ∙ ap (λ p. done.Copied (record { path = p; entry = tells.0 })) (sym same))

module _ (old new : LakeSeat) (number : ℕ) (call : Call) (moment : ℕ) (Tells : Option EntryValue → DoneReply → Type 0) (blocks : BlockCounts) (changed : ℕ)
    (flowed : FlowAnswer Done FlowFault) (is : IsAnswer old new number call moment Tells blocks changed flowed) (counted : BlockCounts)
    (same : counted ≡ blocks) (held held_now : Option HeldObjects) (fitting : KeepsFitting old new held held_now) (turn : new.turn ≡ old.turn)
    (other : IsOtherCall call) (told : CallReply) where
  abbrev replied : Answered
  replied = record { reply = told; position = flowed.position; edge = flowed.edge }

  abbrev IsAnswered : Type 0
  IsAnswered = IsCallAnswered old new number call moment counted held held_now replied

  module _ (Replies : Done → CallReply → Type 0)
      (agree : (made : Done) (what : DoneReply) → Tells made.entry what → Replies made told → ToldOrStarved (reply.Done what) told) where
    by_outcome : (outcome : Result Done FlowFault) → IsOutcomeTold (names_of call) flowed.position Tells outcome is.told
        → IsOutcomeReplied (names_of call) Replies outcome told → ToldOrStarved is.told told
    by_outcome (Ok made) tells replies = subst (λ t. ToldOrStarved t told) (sym tells.3) (agree made tells.1 tells.2 replies)
    by_outcome (Err fault) tells replies = refusal_told (names_of call) fault is.told told tells replies

    answered_so : IsOutcomeReplied (names_of call) Replies flowed.outcome told → IsAnswered
    answered_so replies =
        subst (λ b. IsCallAnswered old new number call moment b held held_now replied) (sym same)
        (other_answered old new number call moment blocks held held_now replied is.met is.told is.flow (by_outcome flowed.outcome is.tells replies)
        is.faults is.misses is.missed_last is.counts fitting other turn)

  -- a change that is told without an entry
  pub change_answered : (what : DoneReply) → ((entry : Option EntryValue) (told_of : DoneReply) → Tells entry told_of → told_of ≡ what)
      → IsOutcomeReplied (names_of call) (IsChangeReplied what) flowed.outcome told → IsAnswered
  change_answered what one =
      answered_so (IsChangeReplied what) (λ made told_of tells replies. inl (replies ∙ ap reply.Done (sym (one made.entry told_of tells))))

  -- one that puts an object at a path
  pub object_answered : (path : List ℕ) (stands : Stands) → ((found : Option EntryValue) (told_of : DoneReply) → Tells found told_of
      → IsStanding path stands found told_of)
      → IsOutcomeReplied (names_of call) (λ (made : Done) told_of. IsObjectReplied path stands made.entry told_of) flowed.outcome told → IsAnswered
  object_answered path stands one =
      answered_so (λ (made : Done) told_of. IsObjectReplied path stands made.entry told_of)
      (λ made told_of tells replies. let put = one made.entry told_of tells in
      stands_so path stands made.entry put.0 told_of told put.1 put.2 replies)

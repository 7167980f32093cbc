-- What a served commit, merge, revert or cherry-pick leaves.
use Rattle.std.proofs.Common.{◌≡◌, ◌≢◌, ℕ, true, List, [], ◌∷◌, ◌++◌, refl, sym, ◌∙◌}
use Rattle.lake_model.specs.declared.history.HistoryEntry.{HistoryEntry}
use Rattle.lake_model.specs.State.{State}
use Rattle.call_placement.specs.Rules.{Caller}
use Rattle.call_placement.specs.Served.{IsServed}
use Rattle.lake_calls.specs.CallExceptions.{CallMet}
use Rattle.lake_calls.specs.Calls.{CommitCall, MergeCall, PickCall}
use Rattle.lake_calls.specs.Courses.{CallPoint, Fixed, ResolvesParent, ResolvesSource, head_course}
use Rattle.lake_calls.specs.DoneReplies.{is_reply_done}
use Rattle.lake_calls.specs.LakeRules.{lake_rules}
use Rattle.lake_calls.specs.declared.call.Call.TheVariants.{Heads}
use Rattle.lake_calls.specs.declared.heads.HeadCall.{HeadCall}
use Rattle.lake_calls.specs.declared.heads.HeadCall.TheVariants as head
use Rattle.lake_calls.specs.declared.reply.CallReply.{CallReply}
use Rattle.lake_calls.specs.declared.reply.CallReply.TheVariants as reply
use Rattle.lake_calls.specs.declared.reply.Refusal.{Refusal}
use Rattle.lake_calls.specs.declared.reply.Refusal.TheVariants as refusal
use Rattle.commit_laws.specs.OwnSeals.{AskedHead, ComesBehindSeal, HasFailed, HasNotMade, HasOwnSeal, HasTwoPoints}
use Rattle.commit_laws.specs.OwnSeals.{commit_head, head_request, merge_head, pick_head, revert_head}
use Rattle.commit_laws.proofs.BehindLemmas.{AllEarly, behind_left, early_read, parent_early, source_early}
use Rattle.commit_laws.proofs.EndingLemmas.{done_points, failed_left, refused_left}
use Rattle.commit_laws.proofs.PointLemmas.{Far, how_far, points_of}

-- ---- the course of each call

-- a course has the points of a new head behind readings that are refused early
pub record MakesHead (call : HeadCall) (moment : ℕ) (fixed : Fixed) (made : AskedHead) : Type 0 where
  pub reads : List CallPoint
  pub early : AllEarly (Heads call) reads
  pub course : head_course call moment fixed ≡ reads ++ points_of made

pub makes_commit : (c : CommitCall) (moment : ℕ) (fixed : Fixed) → MakesHead (head.Commit c) moment fixed (commit_head c moment)
makes_commit c moment fixed = record { reads = []; early = tt; course = refl }

pub makes_merge : (c : MergeCall) (moment : ℕ) (fixed : Fixed) → MakesHead (head.Merge c) moment fixed (merge_head c moment fixed.commit)
makes_merge c moment fixed =
    record { reads = ResolvesSource fixed.commit ∷ []; early = source_early (Heads (head.Merge c)) fixed.commit; course = refl }

pub makes_revert : (c : PickCall) (moment : ℕ) (fixed : Fixed) → MakesHead (head.Revert c) moment fixed (revert_head c moment fixed.commit fixed.parent)
makes_revert c moment fixed = record {
  reads = ResolvesParent fixed.commit fixed.parent fixed.message ∷ [];
  early = parent_early (Heads (head.Revert c)) fixed.commit fixed.parent fixed.message;
  course = refl;
}

pub makes_pick : (c : PickCall) (moment : ℕ) (fixed : Fixed)
    → MakesHead (head.CherryPick c) moment fixed (pick_head c moment fixed.commit fixed.parent fixed.message)
makes_pick c moment fixed = record {
  reads = ResolvesParent fixed.commit fixed.parent fixed.message ∷ [];
  early = parent_early (Heads (head.CherryPick c)) fixed.commit fixed.parent fixed.message;
  course = refl;
}

-- ---- what is left

module _ (opened : State) (by : Caller) (before after : List HistoryEntry) (call : HeadCall) (moment : ℕ) (met : CallMet) (position next_edge : ℕ) where
  module _ (told : CallReply) (served : IsServed lake_rules opened by before after (head_request call moment) met told position next_edge)
      (made : AskedHead) (makes : MakesHead call moment served.fixed made) where
    so_far : Far made served.passed served.left
    so_far = how_far made makes.reads served.passed served.left (early_read (Heads call) makes.reads makes.early) (sym makes.course ∙ served.course)

    -- a call that is done
    pub done_head : is_reply_done told ≡ true → HasTwoPoints by before after made position next_edge
    done_head done =
        done_points opened by (Heads call) moment met before made after served.later position next_edge served.apart
        (head_course call moment served.fixed) served.passed served.left served.seen served.next told
        so_far served.points served.ended done served.whole

  module _ (cause : Refusal)
      (served : IsServed lake_rules opened by before after (head_request call moment) met (reply.Refused cause) position next_edge)
      (made : AskedHead) (makes : MakesHead call moment served.fixed made) where
    -- one that is refused
    pub refused_head : cause ≢ refusal.StoreFault → HasNotMade by before after made position next_edge
    refused_head other =
        refused_left opened by (Heads call) moment met before made after served.later position next_edge served.apart
        (head_course call moment served.fixed) served.passed served.left served.seen served.next cause
        (so_far (reply.Refused cause) served made makes) served.points served.ended other served.whole

    -- and by what comes only behind its seal
    pub behind_head : ComesBehindSeal cause → HasOwnSeal by before after made [] position next_edge
    behind_head behind =
        behind_left opened by (Heads call) moment met before made after served.later position next_edge served.apart
        makes.reads (head_course call moment served.fixed) served.passed served.left served.seen served.next cause
        makes.early (sym makes.course ∙ served.course) served.points served.ended behind served.whole

  module _ (served : IsServed lake_rules opened by before after (head_request call moment) met (reply.Refused refusal.StoreFault) position next_edge)
      (made : AskedHead) (makes : MakesHead call moment served.fixed made) where
    -- one at which the store failed
    pub failed_head : HasFailed by before after made position next_edge
    failed_head =
        failed_left opened by (Heads call) moment met before made after served.later position next_edge served.apart
        (head_course call moment served.fixed) served.passed served.left served.seen served.next
        (so_far (reply.Refused refusal.StoreFault) served made makes) served.points served.ended served.whole

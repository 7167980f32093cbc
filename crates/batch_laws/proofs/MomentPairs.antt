-- Runs at one moment take the same readings of the clock.
use Rattle.std.proofs.Common.{◌≡◌, inl, inr, ℕ, List, [], ◌∷◌, All, sym, subst, ◌∙◌}
use Rattle.std.proofs.lemmas.List.Elements.{All-head, All-tail}
use Rattle.lake_batch.specs.CommandWords.{CommandView}
use Rattle.lake_batch.specs.BatchViews.{BatchView}
use Rattle.lake_batch.specs.Batches.{AreAtMoment, IsTimed}
use Rattle.program_words.specs.declared.batch.Timing.{Timing}
use Rattle.program_words.specs.declared.batch.Timing.TheVariants.{At}
use Rattle.seat_laws.specs.LikeMoments.{Agree}
use Rattle.batch_laws.specs.LikeRuns.{HaveOneClock, Takes, TookAlike}

-- readings of one moment
abbrev AreOf : (moment : ℕ) → List ℕ → Type 0
AreOf moment readings = All (λ reading. reading ≡ moment) readings

still : (moment : ℕ) (taken others : List ℕ) → AreOf moment taken → AreOf moment others → Agree taken others
still moment [] others one other = tt
still moment (m ∷ taken) [] one other = tt
still moment (m ∷ taken) (n ∷ others) one other = (
  All-head (λ reading. reading ≡ moment) m taken one ∙ sym (All-head (λ reading. reading ≡ moment) n others other),
  still moment taken others (All-tail (λ reading. reading ≡ moment) m taken one) (All-tail (λ reading. reading ≡ moment) n others other),
)

takes_of : (moment : ℕ) (begin end : CommandView) (at : AreAtMoment moment begin end) → Takes begin end at.taken
takes_of moment begin end at = record { before = moment ∷ []; begins = at.begins; ends = at.ends }

-- TWO RUNS AT ONE MOMENT TOOK THE SAME READINGS, and tell them
pub one_moment : (moment : ℕ) (begin end other_begin other_end : CommandView) → AreAtMoment moment begin end → AreAtMoment moment other_begin other_end
    → TookAlike begin end other_begin other_end
one_moment moment begin end other_begin other_end at other_at = record {
  taken = at.taken;
  other_taken = other_at.taken;
  takes = takes_of moment begin end at;
  other_takes = takes_of moment other_begin other_end other_at;
  agree = still moment at.taken other_at.taken at.still other_at.still;
}

-- so did two runs of one clock
pub one_clock : (timing other_timing : Timing) (before after other_before other_after : BatchView) (begin end other_begin other_end : CommandView)
    → IsTimed timing before after begin end → IsTimed other_timing other_before other_after other_begin other_end
    → HaveOneClock timing other_timing begin end other_begin other_end → TookAlike begin end other_begin other_end
one_clock timing other_timing before after other_before other_after begin end other_begin other_end timed other_timed (inl (moment, is, other_is)) =
    let at : IsTimed (At moment) before after begin end = subst (λ (t : Timing). IsTimed t before after begin end) is timed in
    let other_at : IsTimed (At moment) other_before other_after other_begin other_end =
    subst (λ (t : Timing). IsTimed t other_before other_after other_begin other_end) other_is other_timed in
    one_moment moment begin end other_begin other_end at.1 other_at.1
one_clock timing other_timing before after other_before other_after begin end other_begin other_end timed other_timed (inr alike) = alike

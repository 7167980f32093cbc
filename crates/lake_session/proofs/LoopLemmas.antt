-- Turns of a session, one after the other.
use Rattle.std.proofs.Common.{◌≡◌, ◌+◌, ◌<◌, ℕ, List, [], ◌∷◌, ◌++◌, length, Some, None, refl, sym, ap, subst, ◌∙◌, arith, length-append}
use Rattle.lake_session.specs.declared.report.End.{End}
use Rattle.lake_session.specs.declared.report.End.TheVariants as end
use Rattle.lake_session.specs.declared.report.Placed.{Placed}
use Rattle.lake_session.specs.declared.report.SessionReport.{SessionReport}
use Rattle.lake_session.specs.SessionTurns.{IsTurn, Tally}
use Rattle.lake_session.specs.SessionViews.{SessionView}
use Rattle.lake_session.specs.WholeSessions.{IsSession}
use Rattle.lake_session.proofs.EndLemmas.{ends_at_limit, ends_behind}
use Rattle.lake_session.proofs.SoFarLemmas.{AreUnderWay, SoFar, begins, one_further}

-- at first nothing was served, and nothing is held
pub way_begins : (at : SessionView) (held : List ℕ) (placed : List Placed) (edge : ℕ) → held ≡ [] → placed ≡ [] → edge ≡ length at.seat.seen
    → AreUnderWay 0 at at (record { placed = placed; edge = edge; held = held })
way_begins at held placed edge held_is placed_is edge_is = (
  [],
  refl,
  subst (λ h. SoFar at at (record { placed = placed; edge = edge; held = h }) []) (sym held_is)
      (subst (λ p. SoFar at at (record { placed = p; edge = edge; held = [] }) []) (sym placed_is)
      (subst (λ e. SoFar at at (record { placed = []; edge = e; held = [] }) []) (sym edge_is) (begins at))),
)

-- a turn more
pub way_goes_on : (number : ℕ) (old now next : SessionView) (tally tally_next : Tally) → AreUnderWay number old now tally
    → IsTurn (number + 1) now next tally tally_next None → AreUnderWay (number + 1) old next tally_next
way_goes_on number old now next tally tally_next way turn =
    let item = turn.came.0 in (
      way.0 ++ item ∷ [],
      omega (arith, way.1, length-append way.0 (item ∷ [])),
      one_further (number + 1) old now next tally tally_next way.0 item (ap (λ n. n + 1) way.1) way.2 turn.came.1 turn.came.2
          (turn.read_faults, turn.write_faults),
    )

-- the report of a session that ended so
abbrev pub report_of : (from to : ℕ) → List Placed → End → SessionReport
report_of from to placed ended = record { from = from; to = to; placed = placed; end = ended }

-- a turn ended it
pub way_ends : (number : ℕ) (old now next : SessionView) (tally tally_next : Tally) (ended : End) (from : ℕ) (report : SessionReport)
    → AreUnderWay number old now tally → number < 10000 → IsTurn (number + 1) now next tally tally_next (Some ended)
    → from ≡ length old.seat.seen → report ≡ report_of from (length next.seat.seen) tally_next.placed ended → IsSession old next report
way_ends number old now next tally tally_next ended from report way few turn from_is is =
    subst (IsSession old next) (sym is)
    (ends_behind (number + 1) old now next tally tally_next way.0 (omega (arith, few)) (ap (λ n. n + 1) way.1) way.2
    (report_of from (length next.seat.seen) tally_next.placed ended) refl from_is refl turn)

-- or there were 10,000
pub way_is_full : (number : ℕ) (old now : SessionView) (tally : Tally) (from : ℕ) (report : SessionReport)
    → AreUnderWay number old now tally → number ≡ 10000 → from ≡ length old.seat.seen
    → report ≡ report_of from (length now.seat.seen) tally.placed end.RequestLimit → IsSession old now report
way_is_full number old now tally from report way all from_is is =
    subst (IsSession old now) (sym is)
    (ends_at_limit old now tally way.0 (report_of from (length now.seat.seen) tally.placed end.RequestLimit) (sym way.1 ∙ all) way.2 refl refl
    from_is refl)

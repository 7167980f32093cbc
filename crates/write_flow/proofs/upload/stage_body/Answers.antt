use Rattle.std.proofs.Common.{◌≡◌, ℕ, List, length, subst}
use Rattle.lake_values.specs.Entry.{EntryValue}
use Rattle.lake_values.specs.declared.entry.Place.TheVariants.{Own}
use Rattle.write_flow.specs.Uploads.{BodyTried, body_entry}
use Rattle.write_flow.proofs.TicketFlowLemmas.{body_tried}
use Rattle.write_flow.proofs.upload.stage_body.Goals as goal

pub returns : goal.returns
returns g c =
    let entry : EntryValue = record {
      place = Own c.args.number c.of.result;
      size = length c.args.body.now;
      mtime = c.args.now;
      content_type = c.in-Ok.content_type;
      metadata = c.new.result;
    } in
    let same : entry ≡ body_entry c.args.number c.args.body.now c.args.now c.args.content_type.now = λ i. record {
      place = Own c.args.number (record { 0 = c.of.ensures i });
      size = length c.args.body.now;
      mtime = c.args.now;
      content_type = c.in-Ok.ensures.equal i;
      metadata = c.new.ensures i;
    } in
    let tried = body_tried c.args.target.now.repo.now c.args.target.now.branch.now c.args.target.now.path.now entry c.args.call c.args.seat.now
    c.attempts-outcome.new.seat _ _ c.attempts-outcome.result c.entry_told.result c.entry_told.ensures c.attempts-outcome.ensures in
    subst (λ e. (versions : List ℕ) × BodyTried c.args.target.now.repo.now c.args.target.now.branch.now c.args.target.now.path.now e c.args.call
    c.args.seat.now c.attempts-outcome.new.seat (g.P.Pause.calls c.args.pause.now) (g.P.Pause.calls c.attempts-outcome.new.pause) versions
    c.entry_told.result) same tried

use Rattle.std.proofs.Common.{◌≡◌, rules}
use Rattle.std.proofs.lemmas.Result.{on_ok_weaker}
use Rattle.http_wire.proofs.FrontLemmas.{shows_written, wrote_as}
use Rattle.http_wire.proofs.parts.show.Goals as goal

pub returns-clause-shown : goal.returns-clause-shown
returns-clause-shown g c =
    let same : c.as_slice.result.now ≡ c.args.pending.now.items = search rules in
    on_ok_weaker c.write_all-2.result (λ wrote. shows_written _ _ _ c.args.pending.now.items c.args.text.now c.clear.new.self.items
    c.clear.ensures (wrote_as _ _ _ _ same c.in_ok-write_all.ensures.all) wrote) c.write_all-2.ensures.all

use Rattle.std.proofs.Common.{◌∙◌, ap, sym, None}
use Rattle.std.specs.FinMap.{contains_key, insert}
use Rattle.byte_map.specs.Values.{some_values}
use Rattle.core_changes.proofs.PlacesLemmas.{contains_put, kept_put, room_put}
use Rattle.core_changes.proofs.places.make_place.Goals as goal

pub returns-clause-same : goal.returns-clause-same
returns-clause-same g c =
    let m = c.args.places.now in
    let bytes = g.K.ByteKey.bytes in
    ap (some_values (λ place. place)) (c.in_ok-insert.ensures.inserted ∙ ap (λ k. insert m (bytes k) None) c.in_ok-copy.ensures.equal)
    ∙ room_put m (bytes c.args.name.now) (sym c.contains_key.ensures ∙ c.if-contains_key.false)

pub returns-clause-place : goal.returns-clause-place
returns-clause-place g c =
    let m = c.args.places.now in
    let bytes = g.K.ByteKey.bytes in
    ap (λ n. contains_key n (bytes c.args.name.now)) (c.in_ok-insert.ensures.inserted ∙ ap (λ k. insert m (bytes k) None) c.in_ok-copy.ensures.equal)
    ∙ contains_put m (bytes c.args.name.now) None

pub returns-clause-kept : goal.returns-clause-kept
returns-clause-kept g c other there =
    let m = c.args.places.now in
    let bytes = g.K.ByteKey.bytes in
    ap (λ n. contains_key n other) (c.in_ok-insert.ensures.inserted ∙ ap (λ k. insert m (bytes k) None) c.in_ok-copy.ensures.equal)
    ∙ kept_put m (bytes c.args.name.now) None other there

use Rattle.std.proofs.Common.{◌≡◌}
use Rattle.std.specs.List.{find}
use Rattle.std.specs.Str.{bytes_eq}
use Rattle.form_urlencoded.specs.Form.{decode, raw_pairs}
use Rattle.form_urlencoded.specs.Parse.{raw_pairs_left}
use Rattle.api_routes.proofs.query.value_at.Given as goal

-- the first pair of the name among those that are left is the first among all
abbrev pub invariant-loop-name : goal.invariant-loop-name
invariant-loop-name l =
    (goal.iterator-loop-name).can_next l.pairs × (goal.iterator-loop-name).is_finite l.pairs
    × (find (λ pair. bytes_eq (decode pair.0) l.key) (raw_pairs_left l.pairs) ≡ find (λ pair. bytes_eq (decode pair.0) l.key) (raw_pairs l.query))

-- The bytes so far, and those of the segments that are left.
use Rattle.std.proofs.Common.{◌≡◌, ◌++◌, ℕ, List, drop, map, Bor}
use Rattle.std.specs.List.{flat_map}
use Rattle.lakectl_sent.specs.SentMessages.{behind_slash, path_text}
use Rattle.lakectl_sent.proofs.path.path_text.Given as goal

abbrev pub invariant-loop-segment : goal.invariant-loop-segment
invariant-loop-segment l =
    l.out.items ++ flat_map behind_slash (map (λ (s : Bor (List ℕ)). s.now) (drop l.segment-index l.segments))
    ≡ path_text (map (λ (s : Bor (List ℕ)). s.now) l.fn.segments)

use Rattle.std.proofs.Common.{◌++◌, ℕ, List, map, ap, ◌∙◌, Bor, codes}
use Rattle.std.specs.List.{flat_map}
use Rattle.lakectl_sent.specs.SentMessages.{behind_slash}
use Rattle.lakectl_sent.proofs.LoopLemmas.{seen_step, seen_done}
use Rattle.lakectl_sent.proofs.path.path_text.Goals as goal

pub loop-segment-init : goal.loop-segment-init
loop-segment-init c =
    ap (λ (l : List ℕ). l ++ flat_map behind_slash (map (λ (s : Bor (List ℕ)). s.now) c.args.segments.now))
    (c.in_ok-extend_from_slice.ensures.items ∙ ap (λ (l : List ℕ). l ++ codes "/api/v1/repositories") c.new-out.ensures.items)

pub loop-segment-preserved : goal.loop-segment-preserved
loop-segment-preserved c =
    seen_step (λ (s : Bor (List ℕ)). s.now) behind_slash c.args.segments.now c.loop-segment.segment-index _ c.loop-segment.out.items _ _
    c.loop-segment-test.true
    c.in_ok-push_segment.ensures c.loop-segment.invariant

pub returns : goal.returns
returns c =
    seen_done (λ (s : Bor (List ℕ)). s.now) behind_slash c.args.segments.now c.loop-segment.segment-index c.loop-segment.out.items _ c.loop-segment-test.false
    c.loop-segment.invariant

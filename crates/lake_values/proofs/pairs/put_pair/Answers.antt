use Rattle.std.proofs.Common.{◌≤◌, ◌<◌, length, ap, sym, set, subst, ◌∙◌, inl, inr}
use Rattle.lake_base.specs.Maps.{IsAt, IsGap}
use Rattle.lake_values.specs.Pairs.{ArePairs}
use Rattle.lake_base.proofs.MapsLemmas.{ascend_from, put_at, put_gap}
use Rattle.lake_values.proofs.PairsLemmas.{put_pairs, room_at, found_at, no_room, room_left}
use Rattle.lake_values.proofs.pairs.put_pair.Goals as goal

pub place-requires : goal.place-requires
place-requires c = rw c.as_slice.ensures.value (ascend_from _ c.requires.pairs.ascending)

pub returns-in-Ok-clause-set : goal.returns-in-Ok-clause-set
returns-in-Ok-clause-set c =
    let old = c.args.pairs.now.items in
    let sorted = ascend_from old c.requires.pairs.ascending in
    let is : IsAt old c.args.key c.in-Ok.at = rw (← c.as_slice.ensures.value) c.in-Ok.ensures in (
      room_at c.args.key old c.in-Ok.at c.replace-old.result sorted is,
      ap (set old c.in-Ok.at) c.replace-old.ensures.after ∙ sym (put_at old c.args.key c.args.value c.in-Ok.at sorted is),
    )

pub returns-in-Ok-clause-pairs : goal.returns-in-Ok-clause-pairs
returns-in-Ok-clause-pairs c =
    let old = c.args.pairs.now.items in
    let sorted = ascend_from old c.requires.pairs.ascending in
    let is : IsAt old c.args.key c.in-Ok.at = rw (← c.as_slice.ensures.value) c.in-Ok.ensures in
    subst ArePairs (sym (returns-in-Ok-clause-set c).1)
    (put_pairs c.args.key c.args.value old c.requires.pairs c.requires.pair (inl (found_at c.args.key old c.in-Ok.at c.replace-old.result sorted is)))

pub returns-then-as_slice-ge-PAIRS_LIMIT-clause-set : goal.returns-then-as_slice-ge-PAIRS_LIMIT-clause-set
returns-then-as_slice-ge-PAIRS_LIMIT-clause-set c =
    let old = c.args.pairs.now.items in
    let gap : IsGap old c.args.key c.in-Err.at = rw (← c.as_slice.ensures.value) c.in-Err.ensures in
    no_room c.args.key old c.in-Err.at gap (subst (λ l. 64 ≤ length l) c.as_slice-in-Err.ensures.value c.if-as_slice-ge-PAIRS_LIMIT.true)

pub returns-in_ok-insert-in-Err-clause-set : goal.returns-in_ok-insert-in-Err-clause-set
returns-in_ok-insert-in-Err-clause-set c =
    let old = c.args.pairs.now.items in
    let gap : IsGap old c.args.key c.in-Err.at = rw (← c.as_slice.ensures.value) c.in-Err.ensures in (
      room_left c.args.key old c.in-Err.at gap (subst (λ l. length l < 64) c.as_slice-in-Err.ensures.value c.if-as_slice-ge-PAIRS_LIMIT.false),
      c.in_ok-insert-in-Err.ensures.items ∙ sym (put_gap old c.args.key c.args.value c.in-Err.at gap),
    )

pub returns-in_ok-insert-in-Err-clause-pairs : goal.returns-in_ok-insert-in-Err-clause-pairs
returns-in_ok-insert-in-Err-clause-pairs c =
    let old = c.args.pairs.now.items in
    subst ArePairs (sym (returns-in_ok-insert-in-Err-clause-set c).1)
    (put_pairs c.args.key c.args.value old c.requires.pairs c.requires.pair
    (inr (subst (λ l. length l < 64) c.as_slice-in-Err.ensures.value c.if-as_slice-ge-PAIRS_LIMIT.false)))

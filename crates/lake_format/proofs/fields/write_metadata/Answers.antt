use Rattle.std.proofs.Common.{◌≡◌, true, length, ◌∙◌, refl, ap, get_or, arith}
use Rattle.std.specs.Int.{w16, to_be_bytes}
use Rattle.std.specs.Str.{is_utf8}
use Rattle.lake_base.proofs.ListLemmas.{all_more}
use Rattle.lake_format.proofs.WritingLemmas.{pair_room, pair_more}
use Rattle.lake_format.proofs.fields.write_metadata.Goals as goal

pub write_text-requires-clause-room : goal.write_text-requires-clause-room
write_text-requires-clause-room c =
    (pair_room c.loop-key.out c.loop-key.out c.loop-key.out c.args.pairs.now c.loop-key.key-index c.loop-key-item.result c.as_bytes.result.now
    c.loop-key-item.result.1
    (omega (arith, ap length c.as_slice-pairs.ensures.pairs)) (c.loop-key-item.is ∙ ap (λ all. get_or all c.loop-key.key-index c.loop-key-item.result)
    c.as_slice-pairs.ensures.pairs) (c.as_bytes.ensures.value ∙ c.as_str.ensures.bytes) refl c.loop-key.invariant.room).for_key

pub write_text-requires-in-loop-key-clause-room : goal.write_text-requires-in-loop-key-clause-room
write_text-requires-in-loop-key-clause-room c =
    (pair_room c.loop-key.out c.write_text.new.out c.loop-key.out c.args.pairs.now c.loop-key.key-index c.loop-key-item.result c.as_bytes.result.now
    c.as_bytes-in-loop-key.result.now
    (omega (arith, ap length c.as_slice-pairs.ensures.pairs)) (c.loop-key-item.is
    ∙ ap (λ all. get_or all c.loop-key.key-index c.loop-key-item.result) c.as_slice-pairs.ensures.pairs) (c.as_bytes.ensures.value ∙ c.as_str.ensures.bytes)
    (c.as_bytes-in-loop-key.ensures.value ∙ c.as_str-in-loop-key.ensures.bytes) c.loop-key.invariant.room).for_value c.write_text.ensures

pub loop-key-preserved : goal.loop-key-preserved
loop-key-preserved c =
    let pairs = c.args.pairs.now in
    let key = c.as_bytes.ensures.value ∙ c.as_str.ensures.bytes in
    let text = c.as_bytes-in-loop-key.ensures.value ∙ c.as_str-in-loop-key.ensures.bytes in
    record {
      written = pair_more c.args.out.now c.loop-key.out c.write_text.new.out c.write_text-in-loop-key.new.out (to_be_bytes w16 (length pairs)) pairs
          c.loop-key.key-index c.loop-key-item.result
          c.as_bytes.result.now c.as_bytes-in-loop-key.result.now (omega (arith, ap length c.as_slice-pairs.ensures.pairs))
          (c.loop-key-item.is ∙ ap (λ all. get_or all c.loop-key.key-index c.loop-key-item.result) c.as_slice-pairs.ensures.pairs) key text
          c.loop-key.invariant.written c.write_text.ensures c.write_text-in-loop-key.ensures;
      room = (pair_room c.loop-key.out c.write_text.new.out c.write_text-in-loop-key.new.out pairs c.loop-key.key-index c.loop-key-item.result
          c.as_bytes.result.now c.as_bytes-in-loop-key.result.now
          (omega (arith, ap length c.as_slice-pairs.ensures.pairs)) (c.loop-key-item.is ∙ ap (λ all. get_or all c.loop-key.key-index c.loop-key-item.result)
          c.as_slice-pairs.ensures.pairs) key text c.loop-key.invariant.room).for_others c.write_text.ensures c.write_text-in-loop-key.ensures;
      utf8 = all_more (λ pair. (is_utf8 pair.0 ≡ true) × (is_utf8 pair.1 ≡ true))
          pairs c.loop-key.key-index c.loop-key-item.result (omega (arith, ap length c.as_slice-pairs.ensures.pairs))
          (c.loop-key-item.is ∙ ap (λ all. get_or all c.loop-key.key-index c.loop-key-item.result) c.as_slice-pairs.ensures.pairs) c.loop-key.invariant.utf8
          (c.as_str.ensures.utf8, c.as_str-in-loop-key.ensures.utf8);
    }

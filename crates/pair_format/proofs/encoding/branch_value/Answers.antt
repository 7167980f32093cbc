use Rattle.std.proofs.Common.{◌∙◌}
use Rattle.std.specs.Int.{w64, to_be_bytes}
use Rattle.pair_format.specs.PairSpelling.{tokens_spelling}
use Rattle.pair_format.proofs.EncodingLemmas.{four}
use Rattle.pair_format.proofs.encoding.branch_value.Goals as goal

pub returns-clause-spelled : goal.returns-clause-spelled
returns-clause-spelled c =
    c.of.ensures
    ∙ four (to_be_bytes w64 c.args.version) c.args.head.now.0 (to_be_bytes w64 c.args.staging) (tokens_spelling c.args.sealed.now)
    c.new-out.result.items c.put_u64.new.out.items c.put_digest.new.out.items c.put_u64-2.new.out.items c.put_tokens.new.out.items
    c.new-out.ensures.items c.in_ok-put_u64.ensures.spelled c.in_ok-put_digest.ensures.spelled c.in_ok-put_u64-2.ensures.spelled
    c.in_ok-put_tokens.ensures.spelled

use Rattle.std.proofs.Common.{◌≡◌, subst, arith}
use Rattle.std.specs.Prelude.{IfOk}
use Rattle.meta_range.specs.Files.{file_of}
use Rattle.meta_range.proofs.FileLemmas.{range_file_at}
use Rattle.meta_range.proofs.RangesLemmas.{ranges_count}
use Rattle.meta_range.proofs.tree.Tree.file.Goals as goal

pub metarange_bytes-requires : goal.metarange_bytes-requires
metarange_bytes-requires c = ranges_count c.ranges-then-place-eq0.result.now c.ranges-then-place-eq0.ensures.valid

pub returns : goal.returns
returns c =
    let is =
    range_file_at c.args.self.now c.ranges-2.result.now c.ranges-2.ensures.ranges c.args.place c.index-ranges-place.result
    (omega (arith, c.if-place-eq0.false)) c.requires c.index-ranges-place.is in
    subst (λ bytes. IfOk c.file.result (λ file. file ≡ file_of bytes)) is c.file.ensures

use Rattle.std.proofs.Common.{[], ◌∷◌, ap, ◌∙◌, ◌++◌, length}
use Rattle.std.specs.Int.{w16, w64, to_be_bytes}
use Rattle.std.specs.List.{flat_map}
use Rattle.lake_format.specs.Spelling.{commit_spelling, short_text, long_text, pairs_spelling}
use Rattle.commit_graph.proofs.ReadingLemmas.{eight}
use Rattle.commit_graph.proofs.encoding.commit_bytes.Goals as goal

pub returns-clause-spelled : goal.returns-clause-spelled
unfolding commit_spelling
returns-clause-spelled c =
    let m = c.commit.inside in
    let committer = c.as_bytes.ensures.value ∙ c.as_str.ensures.bytes in
    let message = c.as_bytes-2.ensures.value ∙ c.as_str-2.ensures.bytes in
    eight (1 ∷ []) m.meta_range.0 (to_be_bytes w64 m.generation) (to_be_bytes w64 m.date) (to_be_bytes w16 (length m.parents))
    (flat_map (λ parent. parent.0) m.parents)
    (short_text m.committer) (long_text m.message) (pairs_spelling m.metadata)
    c.put_metadata.new.out.items c.push.new.self.items c.put_digest.new.out.items c.put_u64.new.out.items c.put_u64-2.new.out.items
    c.put_parents.new.out.items c.put_text.new.out.items c.put_long_text.new.out.items
    (c.in_ok-push.ensures.items ∙ ap (λ b. b ++ 1 ∷ []) c.in_ok-out.ensures.items)
    c.in_ok-put_digest.ensures.spelled
    c.in_ok-put_u64.ensures.spelled
    c.in_ok-put_u64-2.ensures.spelled
    (c.in_ok-put_parents.ensures.spelled
    ∙ ap (λ p. c.put_u64-2.new.out.items ++ (to_be_bytes w16 (length p) ++ flat_map (λ parent. parent.0) p)) c.as_slice.ensures)
    (c.in_ok-put_text.ensures.spelled ∙ ap (λ t. c.put_parents.new.out.items ++ short_text t) committer)
    (c.in_ok-put_long_text.ensures.spelled ∙ ap (λ t. c.put_text.new.out.items ++ long_text t) message)
    c.in_ok-put_metadata.ensures.spelled
    ∙ ap commit_spelling c.commit.view_is

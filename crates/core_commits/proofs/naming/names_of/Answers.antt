use Rattle.std.proofs.Common.{◌≡◌, ◌<◌, ◌+◌, Vec, Global, map, take, length, sym, ap, subst, ◌∙◌, arith}
use Rattle.std.proofs.Math.Seq.{take-length}
use Rattle.meta_range.specs.Files.{file_at, file_of}
use Rattle.meta_range.specs.Ranges.{TreeValue}
use Rattle.lake_format.specs.Spelling.{file_name}
use Rattle.core_state.specs.FilePlaces.{FilePlaceValue}
use Rattle.core_commits.specs.declared.naming.NamedFile.{NamedFile}
use Rattle.core_commits.specs.CommitNames.{AreFilesOf, IsFileOf, named_file}
use Rattle.core_commits.proofs.NamingLemmas.{each_more, named_more}
use Rattle.core_commits.proofs.PlacesLeftLemmas.{file_of_tree, place_at}
use Rattle.core_commits.proofs.naming.names_of.Goals as goal
use Rattle.core_commits.proofs.naming.names_of.Goals.{else-loop-place-test, then-loop-place-test+in_ok-clone+in_ok-push+else-place-place-end}

pub loop-place-preserved : goal.loop-place-preserved
loop-place-preserved c =
    let files = c.args.tree.now.value.files in
    let place = c.loop-place.place in
    let count : length files ≡ c.range_count-place-end.result + 1 =
    ap (λ (t : TreeValue). length t.files) (sym c.deref.ensures) ∙ c.range_count-place-end.ensures in
    let tree = c.args.tree.now.value in
    let within : place < length files = omega (arith, count, c.loop-place-test.true) in
    let name = c.file_name.ensures ∙ ap (λ (t : TreeValue). file_name (file_at t.files place)) c.deref-in-loop-place.ensures in
    let of = c.of.ensures ∙ ap (λ (t : TreeValue). place_at t place) c.in_ok-clone.ensures.cases in
    record {
      named =
          ap (map named_file) c.in_ok-push.ensures.items
          ∙ named_more files c.loop-place.files.items (record { name = c.file_name.result; place = c.of.result }) place within name
          (ap (λ (p : FilePlaceValue). p.bytes) of) c.loop-place.invariant.named;
      kinds =
          subst (AreFilesOf tree) (sym c.in_ok-push.ensures.items)
          (each_more (IsFileOf tree) c.loop-place.files.items (record { name = c.file_name.result; place = c.of.result }) c.loop-place.invariant.kinds
          (file_of_tree tree place within c.file_name.result c.of.result name of));
    }

pub returns-clause-names : goal.returns-clause-names
returns-clause-names c =
    let files = c.args.tree.now.value.files in
    let place = c.loop-place.place in
    let count : length files ≡ c.range_count-place-end.result + 1 =
    ap (λ (t : TreeValue). length t.files) (sym c.deref.ensures) ∙ c.range_count-place-end.ensures in
    elim c.loop-place-test.branch [
      | else-loop-place-test w ↦ absurd (omega (arith, w.loop-place-test.false, c.loop-place.auto.place-end))
      | then-loop-place-test+in_ok-clone+in_ok-push+else-place-place-end w ↦
          let last : length files ≡ place + 1 = omega arith in
          record {
            home = c.in_ok-home.ensures.equal;
            files =
                ap (λ (v : Vec NamedFile Global). map named_file v.items) w.files-is ∙ ap (map named_file) w.in_ok-push.ensures.items
                ∙ named_more files c.loop-place.files.items (record { name = w.file_name.result; place = w.of.result }) place (omega (arith, last))
                (w.file_name.ensures ∙ ap (λ (t : TreeValue). file_name (file_at t.files place)) w.deref-in-loop-place.ensures)
                (ap (λ (p : FilePlaceValue). p.bytes) w.of.ensures ∙ ap (λ (t : TreeValue). file_at t.files place) w.in_ok-clone.ensures.cases)
                c.loop-place.invariant.named
                ∙ ap (λ n. map file_of (take n files)) (sym last) ∙ ap (map file_of) (take-length files);
          }
    ]

pub returns-clause-kinds : goal.returns-clause-kinds
returns-clause-kinds c =
    let tree = c.args.tree.now.value in
    let files = tree.files in
    let place = c.loop-place.place in
    let count : length files ≡ c.range_count-place-end.result + 1 =
    ap (λ (t : TreeValue). length t.files) (sym c.deref.ensures) ∙ c.range_count-place-end.ensures in
    elim c.loop-place-test.branch [
      | else-loop-place-test w ↦ absurd (omega (arith, w.loop-place-test.false, c.loop-place.auto.place-end))
      | then-loop-place-test+in_ok-clone+in_ok-push+else-place-place-end w ↦
          let within : place < length files = omega (arith, count, w.loop-place-test.true) in
          let name = w.file_name.ensures ∙ ap (λ (t : TreeValue). file_name (file_at t.files place)) w.deref-in-loop-place.ensures in
          let of = w.of.ensures ∙ ap (λ (t : TreeValue). place_at t place) w.in_ok-clone.ensures.cases in
          subst (AreFilesOf tree) (sym (ap (λ (v : Vec NamedFile Global). v.items) w.files-is ∙ w.in_ok-push.ensures.items))
          (each_more (IsFileOf tree) c.loop-place.files.items (record { name = w.file_name.result; place = w.of.result }) c.loop-place.invariant.kinds
          (file_of_tree tree place within w.file_name.result w.of.result name of))
    ]

use Rattle.std.proofs.Common.{◌≡◌, map, take}
use Rattle.meta_range.specs.Files.{file_of}
use Rattle.core_commits.specs.CommitNames.{AreFilesOf, named_file}
use Rattle.core_commits.proofs.naming.names_of.Given as goal

-- the files so far are named, and of the kinds that they have in the tree
abbrev pub invariant-loop-place : goal.invariant-loop-place
invariant-loop-place l = record {
  named : map named_file l.files.items ≡ map file_of (take l.place l.tree.value.files);
  kinds : AreFilesOf l.tree.value l.files.items;
}

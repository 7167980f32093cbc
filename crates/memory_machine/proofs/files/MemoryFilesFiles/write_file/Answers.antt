use Rattle.std.proofs.Common.{◌≡◌, Bool, true, false, sym, ap, ◌∙◌}
use Rattle.memory_machine.specs.FilesInMemory.{is_refused}
use Rattle.memory_machine.proofs.files.MemoryFilesFiles.write_file.Goals as goal

-- a test that came out both ways
not_both : {A : Type 0} {b : Bool} {x y : A} → b ≡ true → b ≡ false → x ≡ y
not_both is isn = cc

pub returns-then-contains-clause-sure : goal.returns-then-contains-clause-sure
returns-then-contains-clause-sure c =
    rw (← c.self.view_is)
    (λ free. not_both (sym c.contains.ensures.value ∙ c.if-contains.true) (ap (is_refused c.args.name.now) c.deref.ensures.value ∙ free))

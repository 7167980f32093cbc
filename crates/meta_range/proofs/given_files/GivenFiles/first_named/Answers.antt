use Rattle.std.proofs.Common.{None, Some, ap, ◌∙◌}
use Rattle.std.specs.List.{slice_get}
use Rattle.meta_range.specs.Files.{given_name}
use Rattle.meta_range.proofs.NamesLemmas.{lent_at, named_at}
use Rattle.meta_range.proofs.given_files.GivenFiles.first_named.Goals as goal

pub returns-in-Some : goal.returns-in-Some
returns-in-Some c =
    let here = lent_at c.deref.result.now c.in-Some.at.now c.get-in-Some.result c.get-in-Some.ensures.lookup in
    rw (← c.self.view_is) (here ∙ ap (λ files. slice_get files c.in-Some.at.now) c.deref.ensures.value
    ∙ named_at given_name c.self.inside.places.entries c.self.inside.files.items c.args.name.now (Some c.in-Some.at.now) c.self.invariant
    c.in-Some.ensures.value)

pub returns-in-None : goal.returns-in-None
returns-in-None c = rw (← c.self.view_is)
    (named_at given_name c.self.inside.places.entries c.self.inside.files.items c.args.name.now None c.self.invariant c.in-None.ensures.value)

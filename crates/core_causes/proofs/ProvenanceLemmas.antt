-- Files that are found by their names.
use Rattle.std.proofs.Common.{◌≡◌, Some, sym, ap, ◌∙◌}
use Rattle.std.specs.FinMap.{get}
use Rattle.lake_base.specs.declared.digest.Digest.{Digest}
use Rattle.core_state.specs.LakeStates.{LakeStateValue}
use Rattle.meta_range.specs.Provenance.{HasKnownTrio}
use Rattle.meta_range.specs.declared.provenance.Provenance.{Provenance}
use Rattle.meta_range.specs.declared.provenance.Provenance.TheVariants.{Changed, Merged, Unknown}
use Rattle.core_causes.specs.Clashing.{AreFound}

-- those of one name are one
pub trio_known : (l : LakeStateValue) (provenance : Provenance) → AreFound l provenance → HasKnownTrio provenance
trio_known l (Changed old changes) found = tt
trio_known l (Merged base source dest) found = λ file other one two same.
    let both : Some file ≡ Some other = sym (found file one) ∙ ap (λ (name : Digest). get l.names.files name.0) same ∙ found other two in
    cc
trio_known l Unknown found = tt

use Rattle.body_laws.proofs.FitLemmas.{fits_after, fits_along, fits_kept, fits_over, kept_given}
use Rattle.body_laws.proofs.kept.law_of_kept_bodies.Goals as goal

pub returns-clause-after : goal.returns-clause-after
returns-clause-after c = fits_after

pub returns-clause-history : goal.returns-clause-history
returns-clause-history c = fits_along

pub returns-clause-put : goal.returns-clause-put
returns-clause-put c = fits_kept

pub returns-clause-given_out : goal.returns-clause-given_out
returns-clause-given_out c = kept_given

pub returns-clause-over : goal.returns-clause-over
returns-clause-over c = fits_over

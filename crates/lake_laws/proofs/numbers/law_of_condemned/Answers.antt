use Rattle.lake_laws.proofs.LiveLemmas.{garbage_condemned, garbage_later}
use Rattle.lake_laws.proofs.numbers.law_of_condemned.Goals as goal

pub returns-clause-before : goal.returns-clause-before
returns-clause-before c state seen before later by numbers number is legal listed =
    garbage_condemned state seen before by numbers number later is legal listed

pub returns-clause-unnamed : goal.returns-clause-unnamed
returns-clause-unnamed c state seen before later by numbers number is legal listed =
    (garbage_condemned state seen before by numbers number later is legal listed).unnamed

pub returns-clause-later : goal.returns-clause-later
returns-clause-later c state seen before between later by numbers number sound is legal listed =
    garbage_later state seen before by numbers number between later sound is legal listed

pub returns-clause-unnamed_later : goal.returns-clause-unnamed_later
returns-clause-unnamed_later c state seen before between later by numbers number sound is legal listed =
    (garbage_later state seen before by numbers number between later sound is legal listed).unnamed

use Rattle.filming.proofs.PlaceLaws.{latest, nowhere}
use Rattle.filming.proofs.laws.places_are_latest.Goals as goal

pub returns-clause-latest : goal.returns-clause-latest
returns-clause-latest c = latest

pub returns-clause-none : goal.returns-clause-none
returns-clause-none c = nowhere

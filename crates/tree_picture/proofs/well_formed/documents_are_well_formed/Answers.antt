use Rattle.tree_picture.proofs.Documents.{well_formed}
use Rattle.tree_picture.proofs.well_formed.documents_are_well_formed.Goals as goal

pub returns : goal.returns
returns c = well_formed

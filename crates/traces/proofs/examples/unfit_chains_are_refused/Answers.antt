use Rattle.traces.proofs.FittedExamples.{put_over_removal_unfit, put_outside_unfit, base_over_base_unfit, first_held_unfit, marked_base_unfit, unnamed_split_unfit}
use Rattle.traces.proofs.examples.unfit_chains_are_refused.Goals as goal

pub returns-clause-removed : goal.returns-clause-removed
returns-clause-removed c = put_over_removal_unfit

pub returns-clause-outside : goal.returns-clause-outside
returns-clause-outside c = put_outside_unfit

pub returns-clause-base : goal.returns-clause-base
returns-clause-base c = base_over_base_unfit

pub returns-clause-held : goal.returns-clause-held
returns-clause-held c = first_held_unfit

pub returns-clause-marked : goal.returns-clause-marked
returns-clause-marked c = marked_base_unfit

pub returns-clause-unnamed : goal.returns-clause-unnamed
returns-clause-unnamed c = unnamed_split_unfit

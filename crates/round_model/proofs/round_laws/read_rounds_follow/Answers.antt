use Rattle.round_model.proofs.Reading.{follows_from, spends_from}
use Rattle.round_model.proofs.round_laws.read_rounds_follow.Goals as goal

pub returns : goal.returns
returns c = record {
  follows = λ old new told result k r shows fits responds. follows_from old new told result responds k r shows fits;
  spends = λ reserve kept old new told result k r shows fits responds. spends_from old new told result responds reserve kept k r shows fits;
}

use Rattle.map_laws.proofs.RealTime.{reads_later, replies_in_order}
use Rattle.map_laws.proofs.later_calls.later_calls_see_the_key.Goals as goal

pub returns : goal.returns
returns c = record {
  replies = λ old first command budget given is later new asked comes same same_later history more told done key two.
      replies_in_order old first command budget given same is later new asked comes history more told same_later done key two;
  reads = λ old first key value budget given is later new comes same same_later history more told done two full.
      reads_later old first key value budget given same is later new comes history more told same_later done two full;
}

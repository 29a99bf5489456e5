use Rattle.map_laws.proofs.OwnKeys.{own_replies, own_replies_since}
use Rattle.map_laws.proofs.key_laws.own_keys.Goals as goal

pub returns : goal.returns
returns c = record { whole = own_replies; since = own_replies_since }

use Rattle.map_laws.proofs.ReadBack.{last_replies, read_back, seat_reads_back}
use Rattle.map_laws.proofs.key_laws.own_reads.Goals as goal

pub returns : goal.returns
returns c = record { last = last_replies; set = read_back; seat = seat_reads_back }

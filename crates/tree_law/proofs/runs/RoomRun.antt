-- Each step of the run without room is allowed.
use Rattle.tree_law.proofs.Words.{[], refl, None, List, ◌++◌, inr, ◌∷◌, ℕ, ◌≡◌, Bool, arith, ◌+◌, ◌==◌, ◌*◌, lit<, eqb-true, bit_at, if◌then◌else◌, Number, RowBits, MayReply}
use Rattle.tree_law.proofs.Words.{LacksRoom, IsDisciplined, knows, Knowledge, IsWordOf, memory_of, Entry, Step, all_below-at, small, insert_a, takes_rows, enters}
use Rattle.bw_model.specs.declared.command.Reply.TheVariants as reply
use Rattle.tree_law.specs.NoRoom.{no_room}
use Rattle.tree_law.proofs.runs.Standing.{◌▸◌, disciplined}

-- what the actor knows before its last steps, and when it leaves
abbrev before : List Entry
before = enters 0 insert_a ++ takes_rows 62 2

abbrev at_last : Knowledge
at_last = knows (before ++ Step 0 (RowBits 0) (Number 0) None ∷ []) 0

none_free : IsWordOf (memory_of small before).free_rows 0 0
none_free =
    let free : ℕ → Bool = (memory_of small before).free_rows in
    record {
      fits = lit< tt;
      says = λ i lt. eqb-true (bit_at 0 i) (if free (64 * 0 + i) then 1 else 0) (all_below-at (λ i. bit_at 0 i == (if free (64 * 0 + i) then 1 else 0)) 64 refl i lt);
    }

lacks : LacksRoom small at_last
lacks = inr (λ word least lt. let zero : word ≡ 0 = omega arith in rw zero)

full : MayReply small 0 at_last reply.Full
full = record { command = insert_a; going = refl; justified = inr (inr (inr (inr (record { is = refl; writes = refl; unlinked = refl; lacks = lacks })))) }

pub no_room_disciplined : IsDisciplined small no_room
no_room_disciplined = disciplined [] no_room refl refl ((refl, lit< tt, refl) ▸ (0, none_free, refl) ▸ (refl, full) ▸ tt)

use Rattle.std.proofs.Common.{refl}
use Rattle.epochs.specs.Words.{AreBitsOf, IsFirstWord}
use Rattle.epochs.proofs.Fronts.{bits_front, handed_kept, none_front, without_front, word_front}
use Rattle.epochs.proofs.Leaving.{hands_on}
use Rattle.epochs.proofs.list.LimboList.next_word.Goals as goal

pub returns-in_err-word : goal.returns-in_err-word
returns-in_err-word g c =
    rw (c.from_residual.ensures, ← c.self.view_is)
    (record { none = none_front c.self.inside.compared c.self.inside.entries.entries c.self.invariant.others (rw c.as_slice.ensures at c.in_err-word.ensures); rest = refl })

pub invariant_of-self : goal.invariant_of-self
invariant_of-self g c = handed_kept _ _ c.in_ok-word.word _ _ _ c.self.invariant c.hand_on-self-inside.ensures.rest c.hand_on-self-inside.ensures.left

pub returns : goal.returns
returns g c =
    let entries = c.self.inside.entries.entries in
    let first : IsFirstWord entries c.in_ok-word.word = word_front c.self.inside.compared entries c.self.invariant.others c.in_ok-word.word (rw c.as_slice.ensures at c.in_ok-word.ensures) in
    let bits : AreBitsOf entries c.in_ok-word.word c.bits_of-bits.result = bits_front c.self.inside.compared entries c.self.invariant.others c.in_ok-word.word
    c.bits_of-bits.result (rw c.as_slice.ensures at c.bits_of-bits.ensures) in
    rw (← c.self.view_is, c.hand_on-self-inside.ensures.rest, without_front c.self.inside.compared entries c.self.invariant.others c.in_ok-word.word)
    (hands_on _ c.self.invariant.list c.in_ok-word.word c.bits_of-bits.result first bits)

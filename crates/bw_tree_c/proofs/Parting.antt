-- Whoever has a part of a caller's authors may call too.
use Rattle.std.proofs.Common.{◌+◌, ℕ, List, None, Some, arith, refl, subst}
use Rattle.std.specs.Prelude.{Option}
use Rattle.call_log.specs.declared.log.Authors.{Authors}
use Rattle.call_log.specs.declared.log.Authors.TheVariants.{AllFrom, One}
use Rattle.call_log.specs.declared.log.Event.{Event}
use Rattle.call_log.specs.Logs.{HasAuthor}
use Rattle.bw_tree_c.specs.Handles.{HasNothingOut, HasSeenLog, IsReceipt, MayCall, MayCallOn, opened_in}
use Rattle.bw_tree_c.specs.declared.handle.shared.Shared.{Shared}
use Rattle.bw_tree_c.specs.declared.handle.slots.Inside.{Inside}
use Rattle.bw_tree_c.specs.declared.receipt.Receipt.{Receipt}
use Rattle.bw_tree_c.proofs.Stopping.{same_authors, same_log}

fewer_out : (opened : List Inside) (authors some : Authors) (log : List (Event Inside)) → ((a : ℕ) → HasAuthor some a → HasAuthor authors a)
    → HasNothingOut opened authors log → HasNothingOut opened some log
fewer_out opened authors some log are nothing a n x has is = nothing a n x (are a has) is

module _ (shared : Shared) (n : ℕ) (log : List (Event Inside)) (since it : Receipt) (may : MayCall shared since) (had : HasSeenLog shared (AllFrom n) log since) where
  nothing_now : HasNothingOut (opened_in shared) (AllFrom n) log
  nothing_now = subst (λ a. HasNothingOut (opened_in shared) a log) (same_authors shared may.authors (AllFrom n) may.log log since may.seen had)
      (subst (HasNothingOut (opened_in shared) may.authors) (same_log shared may.authors (AllFrom n) may.log log since may.seen had) may.nothing)

  pub one_calls : HasSeenLog shared (One n) log it → MayCall shared it
  one_calls has = record {
    authors = One n;
    log = log;
    author = n;
    seen = has;
    writes = refl;
    nothing = fewer_out (opened_in shared) (AllFrom n) (One n) log (λ a e. omega (arith, e)) nothing_now;
  }

  pub others_call : HasSeenLog shared (AllFrom (n + 1)) log it → MayCall shared it
  others_call has = record {
    authors = AllFrom (n + 1);
    log = log;
    author = n + 1;
    seen = has;
    writes = refl;
    nothing = fewer_out (opened_in shared) (AllFrom n) (AllFrom (n + 1)) log (λ a e. omega (arith, e)) nothing_now;
  }

pub one_may : (kept : Option Shared) (n : ℕ) (log : List (Event Inside)) (since it : Receipt) → MayCallOn kept since → IsReceipt kept (AllFrom n) log since
    → IsReceipt kept (One n) log it → MayCallOn kept it
one_may None n log since it may had has = tt
one_may (Some shared) n log since it may had has = one_calls shared n log since it may had has

pub others_may : (kept : Option Shared) (n : ℕ) (log : List (Event Inside)) (since it : Receipt) → MayCallOn kept since → IsReceipt kept (AllFrom n) log since
    → IsReceipt kept (AllFrom (n + 1)) log it → MayCallOn kept it
others_may None n log since it may had has = tt
others_may (Some shared) n log since it may had has = others_call shared n log since it may had has

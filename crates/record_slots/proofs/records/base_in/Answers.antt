use Rattle.std.proofs.Common.{false, sym, subst}
use Rattle.base_page.specs.Rules.{IsRuled}
use Rattle.record_slots.proofs.PageParts.{no_base, only_right}
use Rattle.record_slots.proofs.records.base_in.Goals as goal

pub returns-in_default : goal.returns-in_default
returns-in_default c =
    let row = c.args.row in
    let are = c.read_items.ensures.read c.if-not-read_items.false in
    no_base row c.args.words.now c.read_items.new.items.items are (λ right is ruled. c.in_default.ensures ruled.is_page.ordered) c.requires.kind

pub returns-then-not-keeps_rules : goal.returns-then-not-keeps_rules
returns-then-not-keeps_rules c =
    let row = c.args.row in
    let are = c.read_items.ensures.read c.if-not-read_items.false in
    no_base row c.args.words.now c.read_items.new.items.items are (λ right is ruled.
    let same = only_right row.page right c.right_in-right.result is c.right_in-right.ensures in
    let yes = c.keeps_rules.ensures.1
    (subst IsRuled (λ i. record { level = row.level; low = row.first; high = row.second; right = same i; removed = false; items = sym c.in-Some.ensures.0 i }) ruled)
    in
    let no = c.if-not-keeps_rules.true in
    cc) c.requires.kind

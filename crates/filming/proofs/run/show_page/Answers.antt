use Rattle.std.proofs.Common.{refl}
use Rattle.byte_streams.proofs.Showing.{shows_then}
use Rattle.filming.proofs.run.show_page.Goals as goal

pub returns : goal.returns
returns g c =
    let filmed = c.film_turns-whole.ensures in (
      _,
      (
        filmed.4,
        record {
          opened = c.args.core;
          empty = c.requires.fresh;
          opened_at = refl;
          taken = filmed.0;
          others = filmed.1;
          left = filmed.2;
          are = filmed.5;
          log = filmed.3;
          filmed = filmed.6;
          all = filmed.8;
        },
        refl,
      ),
      shows_then c.show_head.ensures (shows_then filmed.7 (shows_then c.show_last_frame.ensures c.show_tail.ensures)),
    )

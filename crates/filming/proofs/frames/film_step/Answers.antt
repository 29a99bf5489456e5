use Rattle.std.proofs.Common.{◌≡◌, ℕ, List, ap, refl, ◌∙◌}
use Rattle.std.specs.Prelude.{option_copied}
use Rattle.tree_picture.specs.Elements.{document_text}
use Rattle.traces.specs.trace.Trace.{command_of}
use Rattle.filming.specs.Pages.{frame_text}
use Rattle.filming.specs.Places.{place_text}
use Rattle.filming.proofs.frames.film_step.Goals as goal

pub returns : goal.returns
returns g c =
    let after = c.in-Some-after_of.after in
    let picture = after.picture in
    let document = document_text picture.width picture.height picture.title picture.description picture.shapes.items in
    let log = c.add_update.new.log.items in
    let event = c.in-Ok-turn.event in
    let command = command_of c.args.core.now.entries c.args.actor in
    let asked : option_copied c.as_ref.result ≡ command = c.as_ref.ensures.value ∙ c.in-Some.ensures in
    let asked_again : option_copied c.as_ref-2.result ≡ command = c.as_ref-2.ensures.value ∙ c.in-Some.ensures in
    let text = λ (found reason : List ℕ).
    frame_text c.args.number c.told-words.result found reason c.in-Ok.before.items (place_text log command event) document after.pairs.items log in (
      event,
      text c.found_words-found.result c.lock_reason.result.now,
      c.in-Ok-turn.ensures.ok,
      (
        record {
          words = c.told-words.result;
          picture = document;
          pairs_before = c.in-Ok.before.items;
          pairs_after = after.pairs.items;
          listed_before = c.in-Ok.ensures.ok;
          listed_after = c.in-Some-after_of.ensures.pairs;
          shown = record {
            width = picture.width;
            height = picture.height;
            title = picture.title;
            description = picture.description;
            shapes = picture.shapes.items;
            shown = c.in-Some-after_of.ensures.picture;
            spells = refl;
            well_formed = c.documents_are_well_formed.ensures picture.width picture.height picture.title picture.description picture.shapes.items;
          };
          spells = λ i. text (c.found_words-found.ensures i) (c.lock_reason.ensures i);
        },
        rw asked at c.in-Ok-add_update.ensures,
      ),
      rw (c.as_slice.ensures, c.as_slice-2.ensures, c.as_slice-3.ensures.value, c.as_slice-4.ensures.value, asked_again) at c.show_frame.ensures,
    )

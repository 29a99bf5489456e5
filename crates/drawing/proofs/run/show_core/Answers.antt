use Rattle.std.proofs.Common.{refl}
use Rattle.tree_picture.specs.Elements.{document_text}
use Rattle.drawing.proofs.run.show_core.Goals as goal

pub returns-in-Ok : goal.returns-in-Ok
returns-in-Ok g c =
    let picture = c.in-Ok.picture in (
      document_text picture.width picture.height picture.title picture.description picture.shapes.items,
      record {
        width = picture.width;
        height = picture.height;
        title = picture.title;
        description = picture.description;
        shapes = picture.shapes.items;
        shown = c.in-Ok.ensures;
        spells = refl;
        well_formed =
            c.documents_are_well_formed.ensures picture.width picture.height picture.title picture.description picture.shapes.items;
      },
      c.show_document.ensures,
    )

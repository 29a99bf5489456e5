-- What is drawn of a tree, and what a run that draws it writes.
use Rattle.std.specs.Prelude.{◌≡◌, ℕ, ◌⊎◌, ◌↔◌, List, [], Bool, true, false, not, Option, Some, None}
use Rattle.std.specs.Io.KnownBytes.{Consumes}
use Rattle.tree_limits.specs.declared.limits.Limits.{Limits}
use Rattle.traces.specs.trace.Trace.{memory_of}
use Rattle.tree_picture.specs.Scenes.{Scene, IsSceneOf}
use Rattle.shell_lines.specs.declared.request.Language.TheVariants.{Weave}
use Rattle.tree_picture.specs.declared.shape.Shape.{Shape}
use Rattle.tree_picture.specs.Cells.{AreActors, cells_from}
use Rattle.tree_picture.specs.Document.{IsWellFormed}
use Rattle.tree_picture.specs.Elements.{document_text}
use Rattle.tree_picture.specs.Layout.{AreLaidOut}
use Rattle.tree_picture.specs.Marks.{AreMarked}
use Rattle.tree_picture.specs.Pages.{boxes_of, cells_of, marks_of, pids_of, ranges_of, records_of, slots_of, stands_of}
use Rattle.tree_picture.specs.Pids.{all_pids}
use Rattle.tree_picture.specs.Ranges.{all_ranges}
use Rattle.tree_picture.specs.RecordLines.{all_records}
use Rattle.tree_picture.specs.Stands.{all_stands, stands_in}
use Rattle.tree_picture.specs.Touches.{touched_in, touched_slots}
use Rattle.bw_model.specs.declared.step.Step.{Step as StepOf}
use Rattle.deltas.specs.declared.record.Record.{Record}
use Rattle.op_machine.specs.machine.Actors.{Actor}
use Rattle.bw_shell.specs.declared.refusal.Refusal.TheVariants.{Memory, NotOpened}
use Rattle.bw_shell.specs.declared.refusal.RefusedLine.{RefusedLine}
use Rattle.byte_streams.specs.Output.{Writes}
use Rattle.bw_shell.specs.Text.{lone_refusal_text, refused_text}
use Rattle.bw_shell.specs.Turns.{Trace, IsOneMap, opening_trace}
use Rattle.bw_shell.specs.Weave.{IsTranscriptFrom}

-- The slots among the shapes are exactly those of the memory after the trace that aren't 0, each with what it has, in their order, and marked
-- as read or as changed exactly where the last step did that. The pages among the shapes are
-- exactly those of the side chains of that memory, level by level from the root's level down, each from left to right, and each has its range in words, and is
-- marked by how it stands to the level above. At each stand exactly the actors whose operation read its slot last, each with the row that its next step reads. The
-- cells are those of the actors: of each the epoch that it has announced, and all that it has in limbo. All records of the pages, and the items of bases and
-- merges, have their lines in words, in that order, each drawn as one that
-- counts where no newer record of its chain names its key, else as one that was taken away. Their boxes lie in a sheet of this width and height, each later one to
-- the right or below. The texts of each box end in it (`PageBox`).
pub record IsShown (trace : Trace) (wanted : List (Option (StepOf Record))) (width height : ℕ) (shapes : List Shape) : Type 0 where
  pub scene : Scene
  pub stands : IsSceneOf trace.limits (memory_of trace.limits trace.entries) scene
  pub pages : pids_of shapes ≡ all_pids scene.levels
  pub ranges : ranges_of shapes ≡ all_ranges scene.levels
  pub records : records_of shapes ≡ all_records scene.levels
  pub standing : stands_of shapes ≡ all_stands (stands_in trace.limits trace.entries wanted) scene.levels
  pub slots : slots_of shapes ≡ touched_slots (touched_in trace.entries) scene.slots
  pub actors : List Actor
  pub are : AreActors trace.limits trace.entries wanted actors
  pub cells : cells_of shapes ≡ cells_from (memory_of trace.limits trace.entries) 0 actors
  pub marks : AreMarked scene.root [] scene.levels (marks_of shapes)
  pub laid : AreLaidOut width height (boxes_of shapes)

-- The text is a well-formed document of that width and height, of some name and description, and of such shapes.
pub record IsPictureOf (trace : Trace) (wanted : List (Option (StepOf Record))) (text : List ℕ) : Type 0 where
  pub width : ℕ
  pub height : ℕ
  pub title : List ℕ
  pub description : List ℕ
  pub shapes : List Shape
  pub shown : IsShown trace wanted width height shapes
  pub spells : text ≡ document_text width height title description shapes
  pub well_formed : IsWellFormed text

-- the picture, where it is drawn; else that there was no memory for it
abbrev pub IsDrawn : Trace → List (Option (StepOf Record)) → List ℕ → Bool → Type 0
IsDrawn trace wanted text true = IsPictureOf trace wanted text
IsDrawn trace wanted text false = text ≡ lone_refusal_text Memory

-- What is written of lines that were run, and whether that is a picture: the refused line alone, if a line was refused; nothing, after
-- a failed read; else the tree is drawn as it stands.
abbrev pub IsDrawnBehind : Option RefusedLine → Bool → Trace → List (Option (StepOf Record)) → List ℕ → Bool → Type 0
IsDrawnBehind (Some line) read_failed trace wanted text drawn = (text ≡ refused_text line.number line.refusal) × (drawn ≡ false)
IsDrawnBehind None true trace wanted text drawn = (text ≡ []) × (drawn ≡ false)
IsDrawnBehind None false trace wanted text drawn = IsDrawn trace wanted text drawn

-- What is written for what was read, and whether that is a picture.
abbrev pub IsDrawingOf : Limits → Option (List ℕ) → List ℕ → Bool → List ℕ → Bool → Type 0
IsDrawingOf limits left taken read_failed text drawn =
    -- no core could be opened
    ((taken ≡ []) × (read_failed ≡ false) × (text ≡ lone_refusal_text NotOpened) × (drawn ≡ false))
    -- the lines were run as `weave` runs them, by turns that took effect one at a time, on one ordered map; what they print is not written
    ⊎ ((after : Trace) × (wanted : List (Option (StepOf Record))) × (printed : List ℕ) × (refused : Option RefusedLine)
    × IsTranscriptFrom Weave (opening_trace limits) left taken read_failed after printed refused false × IsOneMap after
    × IsDrawnBehind refused read_failed after wanted text drawn)

-- The whole run: what is taken from the reader, the text for it, whether that is a picture, and how much of it was written. The status
-- is 0 exactly where a whole picture was.
pub record IsWholeDrawing (limits : Limits) (in_old in_new : Option (List ℕ)) (read_failed : Bool) (out_old out_new : Option (List ℕ)) (write_failed : Bool) (status : ℕ) : Type 0 where
  pub taken : List ℕ
  pub text : List ℕ
  pub drawn : Bool
  pub reads : Consumes in_old in_new taken
  pub tells : IsDrawingOf limits in_new taken read_failed text drawn
  pub writes : Writes out_old out_new text (not write_failed)
  pub status_is : (status ≡ 0) ↔ ((drawn ≡ true) × (write_failed ≡ false))
  pub status_else : (status ≡ 0) ⊎ (status ≡ 1)

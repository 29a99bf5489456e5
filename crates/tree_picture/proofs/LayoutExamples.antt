-- Boxes, heights and items, worked out.
use Rattle.std.proofs.Common.{◌≡◌, ℕ, List, [], ◌∷◌, ◌++◌, Bool, true, false, arith, codes, inl, inr, refl}
use Rattle.std.specs.Global.{Global}
use Rattle.std.specs.Prelude.{Vec, decimal}
use Rattle.traces.specs.chain.Examples.{index_chain, leaf_chain, put_leaf, split_leaf}
use Rattle.traces.specs.chain.SideChain.{LivePage}
use Rattle.tree_picture.specs.declared.colour.Colour.TheVariants.{Ink, Paper}
use Rattle.tree_picture.specs.declared.shape.Mark.TheVariants.{Held}
use Rattle.tree_picture.specs.declared.shape.PageBox.{PageBox}
use Rattle.tree_picture.specs.declared.shape.Rectangle.{Rectangle}
use Rattle.tree_picture.specs.declared.shape.Shape.TheVariants.{Page, Box}
use Rattle.tree_picture.specs.declared.stands.Stand.{Stand}
use Rattle.tree_picture.specs.Layout.{IsBefore, IsOnSheet}
use Rattle.tree_picture.specs.Pages.{boxes_of}
use Rattle.tree_picture.specs.RecordLines.{RecordLine, page_records}
use Rattle.tree_picture.specs.Texts.{EndInBox}
use Rattle.tree_picture.specs.Sizes.{page_height}
use Rattle.tree_picture.proofs.Ranges.{ends_in_box}

abbrev box : ℕ → ℕ → ℕ → ℕ → Rectangle
box x y width height = record { x = x; y = y; width = width; height = height; fill = Paper; edge = Ink; thick = false }

-- a page, the one to its right, and one under them
abbrev left : Rectangle
left = box 30 118 236 99

abbrev right : Rectangle
right = box 306 118 236 78

abbrev under : Rectangle
under = box 168 301 236 78

abbrev page : Vec Stand Global → (pid : ℕ) (r : Rectangle) → EndInBox r.width pid Held (codes "from a to b") → PageBox
page stands pid r inside = record { pid = pid; rectangle = r; mark = Held; range = codes "from a to b"; stands = stands; inside = inside }

seven_ends : EndInBox 236 7 Held (codes "from a to b")
seven_ends = ends_in_box 7 Held (codes "from a to b") (omega arith) (omega arith)

three_ends : EndInBox 236 3 Held (codes "from a to b")
three_ends = ends_in_box 3 Held (codes "from a to b") (omega arith) (omega arith)

boxes_are : (stands : Vec Stand Global) → boxes_of (Box (box 0 0 1000 440) ∷ Page (page stands 7 left seven_ends) ∷ Box right ∷ Page (page stands 3 under three_ends) ∷ []) ≡ left ∷ under ∷ []
boxes_are stands = refl

beside : IsBefore left right
beside = inl (refl, omega arith)

below : IsBefore left under
below = inr (omega arith)

-- no box stands before itself, none before one that it overlaps, and none before the one to its left
not_itself : IsBefore left left → ⊥
not_itself (inl (same, beside)) = omega (arith, beside)
not_itself (inr under) = omega (arith, under)

not_overlapped : IsBefore left (box 265 118 236 78) → ⊥
not_overlapped (inl (same, beside)) = omega (arith, beside)
not_overlapped (inr under) = omega (arith, under)

not_back : IsBefore right left → ⊥
not_back (inl (same, beside)) = omega (arith, beside)
not_back (inr under) = omega (arith, under)

inside : IsOnSheet 542 217 left
inside = record { wide = omega arith; high = omega arith; right = omega arith; bottom = omega arith }

-- the sheet is a pixel too narrow, or the mark begins where the box ends
not_narrow : IsOnSheet 265 217 left → ⊥
not_narrow within = let right = within.right in omega (arith, right)

not_without_room : IsOnSheet 542 217 (box 30 118 166 99) → ⊥
not_without_room within = let wide = within.wide in omega (arith, wide)

-- an empty base under a put; one with two items under a split, and under five deltas
abbrev small : LivePage
small = record { pid = 1; chain = put_leaf }

abbrev middle : LivePage
middle = record { pid = 2; chain = split_leaf }

abbrev large : LivePage
large = record { pid = 3; chain = leaf_chain }

small_is : page_height small ≡ 99
small_is = refl

middle_is : page_height middle ≡ 129
middle_is = refl

large_is : page_height large ≡ 231
large_is = refl

abbrev line : List ℕ → Bool → RecordLine
line words counts = record { words = words; counts = counts }

-- the merge's item counts, and both of the base are taken away: the one is deleted, the other was split off, and then came back by the merge
records_are : page_records large
    ≡ line (codes "remove") true ∷ line (codes "delete k08") true ∷ line (codes "put k07 = v07") true ∷ line (codes "merge from k09 to the end") true
    ∷ line (codes "k09 = w09") true ∷ line (codes "split k09 to PID " ++ decimal 2) true ∷ line (codes "base, items: " ++ decimal 2) true ∷ line (codes "k08 = v08") false
    ∷ line (codes "k09 = v09") false ∷ []
records_are = refl

-- a term takes the place of an unterm there, which took that of a hold, which took that of an older term
terms_are : page_records (record { pid = 4; chain = index_chain })
    ≡ line (codes "term k09 to PID " ++ decimal 3) true ∷ line (codes "unterm k09 to PID " ++ decimal 2) false
    ∷ line (codes "hold k09 to PID " ++ decimal 2) false ∷ line (codes "term k09 to PID " ++ decimal 2) false
    ∷ line (codes "base, items: " ++ decimal 1) true ∷ line (codes "(lowest) to PID " ++ decimal 1 ++ []) true ∷ []
terms_are = refl

-- a range of 40 characters would end behind the box
not_at_length : EndInBox 236 7 Held (codes "from 0123456789.. to 0123456789.. and on") → ⊥
not_at_length ends = let ranged = ends.ranged in omega (arith, ranged)

-- The shapes of units: their boxes, with letters, numbers and marks.
use Rattle.std.specs.Prelude.{ℕ, ◌+◌, ◌-◌, ◌*◌, ◌/◌, ◌++◌, Bool, true, false, nat_lt, nat_le, List, [], ◌∷◌, length, Option, None, Some, codes, decimal, if◌then◌else◌}
use Rattle.std.specs.List.{concat}
use Rattle.stream_svg.specs.declared.geometry.Rect.{Rect}
use Rattle.stream_svg.specs.declared.letters.Letter.{Letter}
use Rattle.stream_svg.specs.declared.unit.EditMark.{EditMark}
use Rattle.stream_svg.specs.declared.unit.UnitKind.{UnitKind}
use Rattle.stream_svg.specs.Letters.{class_of, first_class, letters_of, sign_of}
use Rattle.stream_svg.specs.Texts.{texts_of}

-- the middle of a box, from left to right
abbrev pub middle_of : Rect → ℕ
middle_of box = box.x + box.width / 2

-- the width of the part of a box that one of so many slice types takes
abbrev pub part_width : Rect → ℕ → ℕ
part_width box parts = box.width / parts

-- the left edge of the part at a place
abbrev pub part_left : Rect → ℕ → ℕ → ℕ
part_left box parts place = box.x + part_width box parts * place

-- a rectangle of this class, at this left edge and of this width, over the height of a box
abbrev pub rect_text : List ℕ → ℕ → ℕ → Rect → List ℕ
rect_text class left width box = concat (
    codes "<rect class=\"" ∷ class ∷ codes "\" x=\"" ∷ decimal left ∷ codes "\" y=\"" ∷ decimal box.y
    ∷ codes "\" width=\"" ∷ decimal width ∷ codes "\" height=\"" ∷ decimal box.height ∷ codes "\" rx=\"3\"/>" ∷ [])

-- the fill of a slice type at a place of so many
abbrev pub fill_text : Rect → ℕ → ℕ → Letter → List ℕ
fill_text box parts place letter =
    rect_text (codes "box " ++ class_of letter) (part_left box parts place) (part_width box parts) box

-- the fills of a box: its slice types side by side
abbrev pub fills_text : Rect → UnitKind → List ℕ
fills_text box kind = texts_of (fill_text box (length (letters_of kind))) (letters_of kind)

-- the letter of a slice type at a place of so many
abbrev pub letter_text : Rect → ℕ → ℕ → Letter → List ℕ
letter_text box parts place letter = concat (
    codes "<text class=\"m t on-" ∷ class_of letter ∷ codes "\" x=\"" ∷ decimal (part_left box parts place + part_width box parts / 2)
    ∷ codes "\" y=\"" ∷ decimal (box.y + 14) ∷ codes "\">" ∷ sign_of letter ∷ codes "</text>" ∷ [])

-- the letters of a box
abbrev pub letters_text : Rect → UnitKind → List ℕ
letters_text box kind = texts_of (letter_text box (length (letters_of kind))) (letters_of kind)

-- how wide a number is, in pixels
abbrev pub width_of : ℕ → ℕ
width_of number =
    if nat_lt number 10 then 8 else if nat_lt number 100 then 14 else if nat_lt number 1000 then 20
    else if nat_lt number 10000 then 26 else 32

-- a number in a box, upright
abbrev pub upright_text : Rect → List ℕ → ℕ → ℕ → List ℕ
upright_text box class number down = concat (
    codes "<text class=\"m s on-" ∷ class ∷ codes "\" x=\"" ∷ decimal (middle_of box) ∷ codes "\" y=\"" ∷ decimal (box.y + down)
    ∷ codes "\">" ∷ decimal number ∷ codes "</text>" ∷ [])

-- a number in a box, from below
abbrev pub turned_text : Rect → List ℕ → ℕ → ℕ → List ℕ
turned_text box class number down = concat (
    codes "<text class=\"m s on-" ∷ class ∷ codes "\" transform=\"translate(" ∷ decimal (middle_of box + 4) ∷ codes " "
    ∷ decimal (box.y + down - 3) ∷ codes ") rotate(-90)\">" ∷ decimal number ∷ codes "</text>" ∷ [])

-- a number in a box, at this height below its upper edge: upright where it isn't too wide
abbrev pub number_text : Rect → UnitKind → ℕ → ℕ → List ℕ
number_text box kind number down =
    if nat_le (width_of number) box.width then upright_text box (first_class (letters_of kind)) number down
    else turned_text box (first_class (letters_of kind)) number down

-- the hatching of a box, where edits were made
abbrev pub hatch_text : Rect → Option EditMark → List ℕ
hatch_text box None = []
hatch_text box (Some mark) = rect_text (codes "hatch") box.x box.width box

-- the disc and the diamond of a box
abbrev pub disc_text : Rect → List ℕ
disc_text box = concat (
    codes "<circle class=\"disc\" cx=\"" ∷ decimal (middle_of box) ∷ codes "\" cy=\"" ∷ decimal (box.y + box.height - 7)
    ∷ codes "\" r=\"3\"/><path class=\"diamond\" d=\"M" ∷ decimal (middle_of box) ∷ codes " " ∷ decimal (box.y + box.height - 7 - 4)
    ∷ codes "l4 4l-4 4l-4 -4z\"/>" ∷ [])

-- they are there where edits were made
abbrev pub picture_text : Rect → Option EditMark → List ℕ
picture_text box None = []
picture_text box (Some mark) = disc_text box

-- the ? above a box
abbrev pub ask_text : Rect → List ℕ
ask_text box = concat (
    codes "<text class=\"m t ask\" x=\"" ∷ decimal (box.x + 4) ∷ codes "\" y=\"" ∷ decimal (box.y - 3) ∷ codes "\">?</text>" ∷ [])

-- the dashed outline of a box, with it
abbrev pub outline_text : Rect → List ℕ
outline_text box = rect_text (codes "doubt") box.x box.width box ++ ask_text box

-- they are there where the unit is in doubt
abbrev pub doubt_text : Rect → Bool → List ℕ
doubt_text box false = []
doubt_text box true = outline_text box

-- The two rows of a drawing, and the names of faults.
use Rattle.std.specs.Prelude.{ℕ, ◌+◌, ◌-◌, Bool, true, false, nat_lt, Option, None, Some, List, [], ◌∷◌, ◌++◌, codes, decimal, slice_get, if◌then◌else◌, is_some}
use Rattle.std.specs.List.{concat, zip}
use Rattle.unit_outcomes.specs.Names.{name_of}
use Rattle.stream_svg.specs.declared.writing.Caption.{Caption}
use Rattle.stream_svg.specs.declared.geometry.Rect.{Rect}
use Rattle.stream_svg.specs.declared.grid.Grid.{Grid}
use Rattle.stream_svg.specs.declared.output_row.OutputUnit.{OutputUnit}
use Rattle.stream_svg.specs.declared.unit.DrawnUnit.{DrawnUnit}
use Rattle.stream_svg.specs.declared.unit.UnitKind.{UnitKind}
use Rattle.stream_svg.specs.declared.unit.UnitKind.TheVariants as kinds
use Rattle.stream_svg.specs.Arcs.{arcs_text}
use Rattle.stream_svg.specs.Boxes.{output_box, stream_box}
use Rattle.stream_svg.specs.Captions.{lines_of}
use Rattle.stream_svg.specs.Documents.{classes_of, opening_of}
use Rattle.stream_svg.specs.Shapes.{doubt_text, fills_text, hatch_text, letters_text, middle_of, number_text, picture_text}
use Rattle.stream_svg.specs.Texts.{texts_of}

-- how far below the upper edge of a box of the stream's row its id stands
abbrev pub id_height : DrawnUnit → ℕ
id_height unit = if is_some unit.mark then 28 else 33

-- the box of a unit of the stream's row, with its id
abbrev pub box_text : Rect → DrawnUnit → List ℕ
box_text box unit =
    fills_text box unit.kind ++ (hatch_text box unit.mark ++ (letters_text box unit.kind
    ++ (doubt_text box unit.in_doubt ++ (number_text box unit.kind unit.id (id_height unit)
    ++ (picture_text box unit.mark ++ codes "</g>\n")))))

-- the shapes of a unit of the stream's row, after its title: its arcs, and its box
abbrev pub shapes_text : Grid → List DrawnUnit → ℕ → DrawnUnit → List ℕ
shapes_text grid units place unit =
    arcs_text grid units place unit.references.items ++ box_text (stream_box grid place) unit

-- a unit of the stream's row, with what is said of it
abbrev pub unit_text : Grid → List DrawnUnit → ℕ → DrawnUnit × Caption → List ℕ
unit_text grid units place (unit, caption) =
    opening_of unit.mark (lines_of caption) ++ shapes_text grid units place unit

-- the stream's row
abbrev pub units_text : Grid → List DrawnUnit → List Caption → List ℕ
units_text grid units captions = texts_of (unit_text grid units) (zip units captions)

-- the name of a fault, or that there is no picture, below a box
abbrev pub reason_text : Rect → List ℕ → List ℕ → List ℕ
reason_text box class reason = concat (
    codes "<text class=\"" ∷ class ∷ codes "\" transform=\"translate(" ∷ decimal (middle_of box - 4) ∷ codes " "
    ∷ decimal (box.y + box.height + 8) ∷ codes ") rotate(90)\">" ∷ reason ∷ codes "</text>" ∷ [])

-- of what a unit is drawn as
abbrev pub reason_of : Rect → UnitKind → List ℕ
reason_of box (kinds.Picture picture) = []
reason_of box (kinds.Fault fault) = reason_text box (codes "why") (name_of fault)
reason_of box kinds.Empty = reason_text box (codes "why none") (codes "no picture")

-- the names of all faults, and which units have no picture
abbrev pub reasons_text : Grid → List DrawnUnit → List ℕ
reasons_text grid units = texts_of (λ place unit. reason_of (stream_box grid place) unit.kind) units

-- how a picture of the second row is opened, with its position
abbrev pub title_text : DrawnUnit → ℕ → List ℕ
title_text unit position = concat (
    codes "<g class=\"" ∷ classes_of unit.mark ∷ codes "\"><title>unit " ∷ decimal unit.id ∷ codes " position "
    ∷ decimal position ∷ codes "</title>" ∷ [])

-- a picture of the second row, with its position
abbrev pub shown_text : Rect → DrawnUnit → ℕ → List ℕ
shown_text box unit position =
    title_text unit position
    ++ (fills_text box unit.kind ++ (hatch_text box unit.mark ++ (doubt_text box unit.in_doubt
    ++ (number_text box unit.kind position 21 ++ codes "</g>\n"))))

-- what a slot of the second row shows of a unit at this position
abbrev pub slot_text : Grid → ℕ → DrawnUnit → ℕ → List ℕ
slot_text grid slot unit position =
    if nat_lt slot grid.units then shown_text (output_box grid slot) unit position else []

-- what it shows: the unit of its place, if there is one
abbrev pub shown_unit : Grid → ℕ → OutputUnit → Option DrawnUnit → List ℕ
shown_unit grid slot shown None = []
shown_unit grid slot shown (Some unit) = slot_text grid slot unit shown.position

-- the second row
abbrev pub output_text : Grid → List DrawnUnit → List OutputUnit → List ℕ
output_text grid units row = texts_of (λ slot shown. shown_unit grid slot shown (slice_get units shown.place)) row

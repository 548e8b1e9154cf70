-- The whole document of a drawing.
use Rattle.std.specs.Prelude.{ℕ, ◌+◌, ◌*◌, max, Bool, true, false, List, [], ◌∷◌, ◌++◌, length, codes, decimal}
use Rattle.std.specs.List.{concat, list_any}
use Rattle.stream_svg.specs.declared.writing.Caption.{Caption}
use Rattle.stream_svg.specs.declared.grid.Grid.{Grid}
use Rattle.stream_svg.specs.declared.grid.TheConstants.{FOOT, LEAST_WIDTH, LEFT, OUTPUT_HEIGHT, RIGHT}
use Rattle.stream_svg.specs.declared.layout.Layout.{Layout}
use Rattle.stream_svg.specs.declared.style.TheConstants.{DOUBT_LEGEND, EDITS_LEGEND, LEGEND, LEGEND_END, STYLE}
use Rattle.stream_svg.specs.declared.unit.DrawnUnit.{DrawnUnit}
use Rattle.stream_svg.specs.Boxes.{output_top, stream_top}
use Rattle.stream_svg.specs.Lines.{begins_text, output_begins_text, ways_text}
use Rattle.stream_svg.specs.Rows.{output_text, reasons_text, units_text}

-- the width and the height of a drawing
abbrev pub width_of : Grid → ℕ
width_of grid = max LEAST_WIDTH (LEFT + grid.units * grid.pitch + RIGHT)

abbrev pub height_of : Grid → ℕ
height_of grid = output_top grid + OUTPUT_HEIGHT + FOOT

-- the name of a drawing: which units it shows of so many
abbrev pub name_text : List DrawnUnit → ℕ → List ℕ
name_text [] total = concat (codes "H.264 stream of " ∷ decimal total ∷ codes " units: none is shown" ∷ [])
name_text (first ∷ units) total = concat (
    codes "H.264 stream of " ∷ decimal total ∷ codes " units: " ∷ decimal (length (first ∷ units)) ∷ codes " from unit "
    ∷ decimal first.id ∷ codes " on" ∷ [])

-- a text where it is wanted
abbrev pub where_wanted : Bool → List ℕ → List ℕ
where_wanted true text = text
where_wanted false text = []

-- whether a unit is in doubt
abbrev pub is_any_in_doubt : List DrawnUnit → Bool
is_any_in_doubt units = list_any (λ unit. unit.in_doubt) units

-- how a document is opened
abbrev pub svg_text : Grid → List ℕ
svg_text grid = concat (
    codes "<svg xmlns=\"http://www.w3.org/2000/svg\" width=\"" ∷ decimal (width_of grid) ∷ codes "\" height=\""
    ∷ decimal (height_of grid) ∷ codes "\" viewBox=\"0 0 " ∷ decimal (width_of grid) ∷ codes " "
    ∷ decimal (height_of grid) ∷ codes "\" role=\"img\" aria-label=\"" ∷ [])

-- the names of the rows
abbrev pub rows_text : Grid → List ℕ
rows_text grid = concat (
    codes "<text class=\"note\" x=\"8\" y=\"" ∷ decimal (stream_top grid + 26)
    ∷ codes "\">stream</text><text class=\"note\" x=\"8\" y=\"" ∷ decimal (output_top grid + 21) ∷ codes "\">output</text>\n" ∷ [])

-- what stands before the first unit of a document: its name, the style sheet and the legend
abbrev pub head_text : Grid → List DrawnUnit → ℕ → Bool → List ℕ
head_text grid units total edited =
    svg_text grid ++ (name_text units total ++ (codes "\">\n<title>" ++ (name_text units total ++ (codes "</title>\n"
    ++ (STYLE.now ++ (LEGEND.now ++ (where_wanted edited EDITS_LEGEND.now ++ (where_wanted (is_any_in_doubt units) DOUBT_LEGEND.now
    ++ (LEGEND_END.now ++ rows_text grid)))))))))

-- what stands there besides: where periods begin, and the ways between the rows
abbrev pub beginning_text : Layout → List DrawnUnit → ℕ → Bool → List ℕ
beginning_text layout units total edited =
    head_text layout.grid units total edited
    ++ (begins_text layout.grid units ++ (output_begins_text layout.grid layout.output.items
    ++ (ways_text layout.grid layout.output.items ++ codes "\n")))

-- what stands after the last unit of the stream's row
abbrev pub end_text : Layout → List DrawnUnit → List ℕ
end_text layout units =
    reasons_text layout.grid units
    ++ (codes "\n" ++ (output_text layout.grid units layout.output.items ++ codes "</svg>\n"))

-- the document of these units, laid out so, each with what is said of it, of a stream of so many
-- units; with the legend of edits where some were made
abbrev pub document_text : Layout → List DrawnUnit → List Caption → ℕ → Bool → List ℕ
document_text layout units captions total edited =
    beginning_text layout units total edited ++ (units_text layout.grid units captions ++ end_text layout units)

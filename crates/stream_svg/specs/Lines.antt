-- The lines of a drawing: ways between the rows, and where periods begin.
use Rattle.std.specs.Prelude.{ℕ, ◌+◌, ◌-◌, ◌==◌, ◌&&◌, not, nat_lt, Bool, true, false, Option, Some, None, List, [], ◌∷◌, ◌++◌, codes, decimal, slice_get, if◌then◌else◌}
use Rattle.std.specs.List.{concat}
use Rattle.stream_svg.specs.declared.geometry.Rect.{Rect}
use Rattle.stream_svg.specs.declared.grid.Grid.{Grid}
use Rattle.stream_svg.specs.declared.grid.TheConstants.{HEAD}
use Rattle.stream_svg.specs.declared.output_row.OutputUnit.{OutputUnit}
use Rattle.stream_svg.specs.declared.unit.DrawnUnit.{DrawnUnit}
use Rattle.stream_svg.specs.Boxes.{output_box, stream_box}
use Rattle.stream_svg.specs.OutputRow.{begins_period}
use Rattle.stream_svg.specs.Shapes.{middle_of}
use Rattle.stream_svg.specs.Texts.{texts_of}

-- that a period begins with a box, from one height to another
abbrev pub begin_text : Rect → ℕ → ℕ → List ℕ
begin_text box top end = concat (
    codes "<path class=\"begin\" d=\"M" ∷ decimal (box.x - 2) ∷ codes " " ∷ decimal top ∷ codes "V" ∷ decimal end
    ∷ codes "\"/>" ∷ [])

-- that one begins with a unit of the stream's row: from the arcs of list 1 to those of list 0
abbrev pub begin_at : Grid → ℕ → DrawnUnit → List ℕ
begin_at grid place unit =
    if begins_period unit.kind then
    (let box = stream_box grid place in begin_text box HEAD (box.y + box.height + grid.below))
    else []

-- the period of what a slot of the second row shows; 0 where it shows nothing
abbrev pub period_of : Option OutputUnit → ℕ
period_of None = 0
period_of (Some shown) = shown.period

-- the period of the picture before a slot; 0 before the first
abbrev pub period_before : List OutputUnit → ℕ → ℕ
period_before row slot = if slot == 0 then 0 else period_of (slice_get row (slot - 1))

-- that one begins with a picture of the second row: its period isn't that of the picture before it
abbrev pub output_begin_at : Grid → List OutputUnit → ℕ → OutputUnit → List ℕ
output_begin_at grid row slot shown =
    if not (shown.period == period_before row slot) && nat_lt slot grid.units then
    (let box = output_box grid slot in begin_text box (box.y - 8) (box.y + box.height + 8))
    else []

-- the way from a box of the stream's row to one of the second row, which turns at this height
abbrev pub way_text : Rect → Rect → ℕ → List ℕ
way_text from to turn = concat (
    codes "<path class=\"way\" d=\"M" ∷ decimal (middle_of from) ∷ codes " " ∷ decimal (from.y + from.height)
    ∷ codes "V" ∷ decimal turn ∷ codes "L" ∷ decimal (middle_of to) ∷ codes " " ∷ decimal to.y ∷ codes "\"/>" ∷ [])

-- the way to a picture of the second row from its unit
abbrev pub way_at : Grid → ℕ → OutputUnit → List ℕ
way_at grid slot shown =
    if nat_lt slot grid.units && nat_lt shown.place grid.units then
    (let from = stream_box grid shown.place in way_text from (output_box grid slot) (from.y + from.height + grid.below))
    else []

-- where periods begin in the stream's row
abbrev pub begins_text : Grid → List DrawnUnit → List ℕ
begins_text grid units = texts_of (begin_at grid) units

-- where they begin in the second row
abbrev pub output_begins_text : Grid → List OutputUnit → List ℕ
output_begins_text grid row = texts_of (output_begin_at grid row) row

-- the ways to all pictures of the second row
abbrev pub ways_text : Grid → List OutputUnit → List ℕ
ways_text grid row = texts_of (way_at grid) row

-- Where the boxes of a drawing lie, and when two share no point.
use Rattle.std.specs.Prelude.{ℕ, ◌+◌, ◌-◌, ◌*◌, ◌<◌, ◌≤◌, ◌^◌}
use Rattle.stream_svg.specs.declared.geometry.Rect.{Rect}
use Rattle.stream_svg.specs.declared.grid.Grid.{Grid}
use Rattle.stream_svg.specs.declared.grid.TheConstants.{LEFT, HEAD, GAP, STREAM_HEIGHT, OUTPUT_HEIGHT, CROSSING}

-- the upper edge of the stream's row, below the arcs of list 1
abbrev pub stream_top : Grid → ℕ
stream_top grid = HEAD + grid.above

-- the upper edge of the second row, below the arcs of list 0 and the lines between the rows
abbrev pub output_top : Grid → ℕ
output_top grid = HEAD + grid.above + STREAM_HEIGHT + grid.below + CROSSING

-- the box at a place of the stream's row
abbrev pub stream_box : Grid → ℕ → Rect
stream_box grid place = record {
  x = LEFT + place * grid.pitch;
  y = stream_top grid;
  width = grid.pitch - GAP;
  height = STREAM_HEIGHT;
}

-- the box at a place of the second row
abbrev pub output_box : Grid → ℕ → Rect
output_box grid place = record {
  x = LEFT + place * grid.pitch;
  y = output_top grid;
  width = grid.pitch - GAP;
  height = OUTPUT_HEIGHT;
}

-- a box of a drawing, as far as sums over it fit
abbrev pub IsSmall : Rect → Type 0
IsSmall box = (box.x < 2 ^ 20) × (box.y < 2 ^ 10) × (box.width < 2 ^ 10) × (box.height < 2 ^ 10)

-- the point lies in the box
abbrev pub Holds : Rect → ℕ → ℕ → Type 0
Holds box x y = (box.x ≤ x) × (x < box.x + box.width) × (box.y ≤ y) × (y < box.y + box.height)

-- no point lies in both boxes
abbrev pub AreApart : Rect → Rect → Type 0
AreApart one other = (x y : ℕ) → Holds one x y → Holds other x y → ⊥

-- The layout of units in a drawing.
use Rattle.std.specs.Prelude.{◌≡◌, List, length, IsPermutation}
use Rattle.std.specs.List.Sorted.{IsSortedBy}
use Rattle.stream_svg.specs.OutputRow.{is_before, shown_units}
use Rattle.stream_svg.specs.declared.layout.Layout.{Layout}
use Rattle.stream_svg.specs.declared.unit.DrawnUnit.{DrawnUnit}

-- a layout of units: its second row has all pictures, each once, in output order
pub record IsLaidOut (units : List DrawnUnit) (layout : Layout) : Type 0 where
  pub units_are : layout.grid.units ≡ length units
  pub all : IsPermutation (shown_units units) layout.output.items
  pub order : IsSortedBy is_before layout.output.items

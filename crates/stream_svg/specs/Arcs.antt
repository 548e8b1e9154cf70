-- Where the arc of a reference lies.
use Rattle.std.specs.Prelude.{◌≡◌, ℕ, ◌+◌, ◌-◌, ◌*◌, ◌/◌, ◌<◌, ◌≤◌, ◌==◌, nat_lt, nat_le, Bool, true, false, is_some, Option, Some, None, List, [], ◌∷◌, ◌++◌, codes, decimal, position, if◌then◌else◌}
use Rattle.std.specs.List.{concat}
use Rattle.stream_svg.specs.declared.arc.Arc.{Arc}
use Rattle.stream_svg.specs.declared.geometry.Point.{Point}
use Rattle.stream_svg.specs.declared.geometry.Rect.{Rect}
use Rattle.stream_svg.specs.declared.grid.Grid.{Grid}
use Rattle.stream_svg.specs.declared.grid.TheConstants.{LEFT}
use Rattle.stream_svg.specs.declared.unit.DrawnUnit.{DrawnUnit}
use Rattle.stream_svg.specs.declared.unit.DrawnReference.{DrawnReference}
use Rattle.stream_svg.specs.declared.unit.RefList.{RefList}
use Rattle.stream_svg.specs.declared.unit.RefList.TheVariants as lists
use Rattle.stream_svg.specs.Boxes.{stream_box}
use Rattle.stream_svg.specs.Texts.{texts_of}

-- the place of the first unit with this id, if one is drawn
abbrev pub place_of : List DrawnUnit → ℕ → Option ℕ
place_of units id = position (λ unit. unit.id == id) units

-- the edge of a box at which the arcs of a list end: the lower one for list 0, the upper one for list 1
abbrev pub edge_of : RefList → Rect → ℕ
edge_of lists.Zero box = box.y + box.height
edge_of lists.One box = box.y

-- the point lies on that edge
pub record IsAtEdge (list : RefList) (box : Rect) (point : Point) : Type 0 where
  pub right_of : box.x ≤ point.x
  pub left_of : point.x ≤ box.x + box.width
  pub on_edge : point.y ≡ edge_of list box

-- the point lies at the box of the unit that is referred to, or left of all boxes where that isn't drawn
abbrev pub EndsAt : Grid → RefList → Option ℕ → Point → Type 0
EndsAt grid list (Some place) point = IsAtEdge list (stream_box grid place) point
EndsAt grid list None point = point.x < LEFT

-- where arcs begin at the box of the unit that refers: left of the middle
abbrev pub begin_of : RefList → Rect → Point
begin_of list box = record { x = box.x + box.width / 2 - box.width / 5; y = edge_of list box }

-- where they end at the box of the frame's unit: right of the middle
abbrev pub aim_of : RefList → Rect → Point
aim_of list box = record { x = box.x + box.width / 2 + box.width / 5; y = edge_of list box }

-- how many places lie between two, with one of them
abbrev pub span_of : ℕ → Option ℕ → ℕ
span_of place None = place
span_of place (Some target) = if nat_le target place then place - target else target - place

-- how far the control points of an arc lie from its row
abbrev pub depth_of : ℕ → ℕ
depth_of span = if nat_lt span 27 then 14 + 5 * span else 150

-- how far an arc reaches from a point of its row
abbrev pub reach_of : RefList → ℕ → ℕ → ℕ
reach_of lists.Zero y depth = y + depth * 3 / 4
reach_of lists.One y depth = y - depth * 3 / 4

-- where an arc ends; a stub ends at this height
abbrev pub end_of : Grid → RefList → Option ℕ → ℕ → Point
end_of grid list None height = record { x = 46; y = height }
end_of grid list (Some target) height = aim_of list (stream_box grid target)

-- the arc from the unit at a place to a frame of which the place is known, if it is drawn
abbrev pub arc_to : Grid → ℕ → DrawnReference → Option ℕ → Arc
arc_to grid place reference target =
    let from = begin_of reference.list (stream_box grid place) in
    let depth = depth_of (span_of place target) in
    record {
      reference = reference;
      from = from;
      to = end_of grid reference.list target (reach_of reference.list from.y depth);
      is_whole = is_some target;
      depth = depth;
    }

-- the arc from the unit at a place to a frame that one of its lists names
abbrev pub arc_of : Grid → List DrawnUnit → ℕ → DrawnReference → Arc
arc_of grid units place reference = arc_to grid place reference (place_of units reference.frame)

-- the number of a list
abbrev pub list_digit : RefList → List ℕ
list_digit lists.Zero = codes "0"
list_digit lists.One = codes "1"

-- the class of an arc to a long-term frame
abbrev pub far_word : Bool → List ℕ
far_word true = codes " far"
far_word false = []

-- how an arc is opened: with its list, and whether its frame is a long-term one, and where it begins
abbrev pub path_text : Arc → List ℕ
path_text arc = concat (
    codes "<path class=\"l" ∷ list_digit arc.reference.list ∷ far_word arc.reference.long_term ∷ codes "\" d=\"M"
    ∷ decimal arc.from.x ∷ codes " " ∷ decimal arc.from.y ∷ [])

-- the height of the control points of an arc
abbrev pub turn_of : RefList → ℕ → ℕ → ℕ
turn_of lists.Zero y depth = y + depth
turn_of lists.One y depth = y - depth

-- the curve of a stub
abbrev pub bend_text : Arc → List ℕ
bend_text arc = concat (
    codes "Q" ∷ decimal arc.from.x ∷ codes " " ∷ decimal arc.to.y ∷ codes " " ∷ decimal arc.to.x ∷ codes " "
    ∷ decimal arc.to.y ∷ codes "\"/>" ∷ [])

-- an arc of which the frame's unit isn't drawn
abbrev pub stub_text : Arc → List ℕ
stub_text arc = path_text arc ++ bend_text arc

-- the curve of an arc, whose control points lie at this height
abbrev pub curve_text : Arc → ℕ → List ℕ
curve_text arc turn = concat (
    codes "C" ∷ decimal arc.from.x ∷ codes " " ∷ decimal turn ∷ codes " " ∷ decimal arc.to.x ∷ codes " " ∷ decimal turn
    ∷ codes " " ∷ decimal arc.to.x ∷ codes " " ∷ decimal arc.to.y ∷ codes "\"/>" ∷ [])

-- the dot at its end
abbrev pub dot_text : Arc → List ℕ
dot_text arc = concat (
    codes "<circle class=\"d" ∷ list_digit arc.reference.list ∷ codes "\" cx=\"" ∷ decimal arc.to.x ∷ codes "\" cy=\""
    ∷ decimal arc.to.y ∷ codes "\" r=\"2\"/>" ∷ [])

-- an arc of which it is, with a dot at its end
abbrev pub whole_text : Arc → ℕ → List ℕ
whole_text arc turn = path_text arc ++ (curve_text arc turn ++ dot_text arc)

-- an arc
abbrev pub arc_text : Arc → List ℕ
arc_text arc =
    if arc.is_whole then whole_text arc (turn_of arc.reference.list arc.from.y arc.depth) else stub_text arc

-- the arcs from the unit at a place, of these references
abbrev pub arcs_text : Grid → List DrawnUnit → ℕ → List DrawnReference → List ℕ
arcs_text grid units place references = texts_of (λ at reference. arc_text (arc_of grid units place reference)) references

-- The inverse zig-zag scan: where the entries of a list stand in its block (ITU-T H.264, 8.5.6 and 8.5.7, Figures 8-8 and 8-9).
-- A place is its number in raster order: row by row, and from left to right.
use Rattle.std.specs.Prelude.{ℕ, ◌+◌, ◌*◌, ◌/◌, ◌%◌, ◌==◌, Bool, List, map, nat_lt, slice_index, count_by, ◌&&◌, ◌||◌, if◌then◌else◌}
use Rattle.std.specs.List.{range_with_len}

-- the places of a block of this width
abbrev pub places : ℕ → List ℕ
places width = range_with_len 0 (width * width)

-- the row that a place is in, from 0 on
abbrev pub row : ℕ → ℕ → ℕ
row width place = place / width

-- the diagonal that a place is on, from the upper left corner on: its row plus its column
abbrev pub diagonal : ℕ → ℕ → ℕ
diagonal width place = row width place + place % width

-- Whether a place is scanned before another: diagonal by diagonal, the odd ones downwards and the even ones upwards.
abbrev pub is_before : ℕ → ℕ → ℕ → Bool
is_before width a b =
    nat_lt (diagonal width a) (diagonal width b)
    || (diagonal width a == diagonal width b
    && (if diagonal width b % 2 == 1 then nat_lt (row width a) (row width b) else nat_lt (row width b) (row width a)))

-- the number of the entry at a place: how many places are scanned before it
abbrev pub entry_number : ℕ → ℕ → ℕ
entry_number width place = count_by (λ before. is_before width before place) (places width)

-- a list as a block in raster order
abbrev pub raster : ℕ → List ℕ → List ℕ
raster width list = map (λ place. slice_index list (entry_number width place)) (places width)

-- The steps by which the scales of a list follow from its deltas (ITU-T H.264, 7.3.2.1.1.1).
use Rattle.std.specs.Prelude.{ℕ, List, Option, ℤ, pos, nat_lt, ◌+ℤ◌, unsigned_abs, if◌then◌else◌}
use Rattle.std.specs.Int.{int_rem_euclid}
use Rattle.std.specs.List.{fold}

-- a list as it was read: its deltas; nothing where its present flag is 0
abbrev pub Deltas : Type 0
Deltas = Option (List ℤ)

-- nextScale after a delta
abbrev pub scale_after : ℕ → ℤ → ℕ
scale_after last delta = unsigned_abs (int_rem_euclid (pos last +ℤ delta) (pos 256))

-- nextScale after these deltas: 8 at first, and 0 where the list is over
abbrev pub next_scale : List ℤ → ℕ
next_scale deltas = fold scale_after 8 deltas

-- how many entries list number j has: 4x4 in lists 0 to 5, 8x8 after them
abbrev pub list_size : ℕ → ℕ
list_size j = if nat_lt j 6 then 16 else 64

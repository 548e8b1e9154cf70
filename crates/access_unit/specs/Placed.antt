-- Where the slices of an access unit stand.
use Rattle.std.specs.Prelude.{◌≡◌, ℕ, ◌≤◌, List, drop, length}
use Rattle.std.specs.List.{filter}
use Rattle.annexb.specs.NalUnit.{is_slice}
use Rattle.access_unit.specs.declared.placed.Slices.{Slices}
use Rattle.access_unit.specs.declared.placed.Slices.TheVariants.{From, Apart}

-- the slices that stand so, among these NAL units or by themselves
abbrev pub slices_among : List (List ℕ) → Slices → List (List ℕ)
slices_among nals (From first) = drop first nals
slices_among nals (Apart slices) = slices.value.items

-- how many NAL units stand before the first slice, where they say so
abbrev pub first_of : Slices → ℕ
first_of (From first) = first
first_of (Apart slices) = 0

-- they are the slices of these NAL units
pub record ArePlaced (nals : List (List ℕ)) (slices : Slices) : Type 0 where
  pub slices_are : slices_among nals slices ≡ filter is_slice nals
  pub within : first_of slices ≤ length nals

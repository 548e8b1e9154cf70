-- Marks on numbers, and which numbers a sweep marks.
use Rattle.std.specs.Prelude.{ℕ, Bool, true, false, cond, List, [], ◌∷◌, slice_index_or, slice_set, Option, Some, None}
use Rattle.decode_jobs.specs.Built.{Slot}

-- whether the number is marked
abbrev pub is_marked : List Bool → ℕ → Bool
is_marked marks number = slice_index_or marks number false

-- the marks with one number marked
abbrev pub marked : List Bool → ℕ → List Bool
marked marks number = slice_set marks number true

-- the marks with these numbers marked
abbrev pub all_marked : List Bool → List ℕ → List Bool
all_marked marks [] = marks
all_marked marks (number ∷ numbers) = all_marked (marked marks number) numbers

-- the marks with what the entries name marked
abbrev pub named_marked : List Bool → List (Option ℕ) → List Bool
named_marked marks [] = marks
named_marked marks (None ∷ entries) = named_marked marks entries
named_marked marks (Some number ∷ entries) = named_marked (marked marks number) entries

-- the marks with what a slot names marked, where the slot itself is
abbrev pub passed_on : {W : Type 0} → List Bool → Slot W → List Bool
passed_on marks slot = cond (is_marked marks slot.0) (named_marked marks slot.1.entries) marks

-- the marks passed on by the slots, the last one first
abbrev pub all_passed_on : {W : Type 0} → List Bool → List (Slot W) → List Bool
all_passed_on marks [] = marks
all_passed_on marks (slot ∷ slots) = passed_on (all_passed_on marks slots) slot

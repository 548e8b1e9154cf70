-- The names of statuses, of faults and of reasons why bytes are left out, by their numbers.
use Rattle.std.specs.Prelude.{◌≡◌, ◌==◌, ℕ, List, [], ◌∷◌, codes, Option, None, Some, if◌then◌else◌}
use Rattle.c_calls.specs.Filling.{Fills}
use Rattle.c_calls.specs.Statuses.{no_such_name}

-- a number and its name
abbrev pub Row : Type 0
Row = ℕ × List ℕ

-- the name of a number in a table
abbrev pub name_in : List Row → ℕ → Option (List ℕ)
name_in [] number = None
name_in ((other, name) ∷ rows) number = if other == number then Some name else name_in rows number

-- the names of refusals, and of what isn't refused
abbrev pub refusals : List Row
refusals =
    (0, codes "Done")
    ∷ (1, codes "Split")
    ∷ (2, codes "UnitType")
    ∷ (3, codes "ForbiddenBit")
    ∷ (4, codes "Sps")
    ∷ (5, codes "Pps")
    ∷ (6, codes "Switching")
    ∷ (7, codes "MixedIdr")
    ∷ (8, codes "IdrNotIntra")
    ∷ (9, codes "IdrNotReference")
    ∷ (10, codes "MixedReference")
    ∷ (11, codes "UnitOrder")
    ∷ (13, codes "TwoPictures")
    ∷ (14, codes "TooLarge")
    ∷ (15, codes "Memory")
    ∷ (16, codes "NoSuchUnit")
    ∷ (17, codes "StreamFull")
    ∷ (18, codes "IdsSpent")
    ∷ (20, codes "EmptyGroup")
    ∷ (21, codes "GroupTooLarge")
    ∷ []

-- the names of what only this interface answers
abbrev pub answers : List Row
answers =
    (100, codes "NoSession")
    ∷ (101, codes "IsOpen")
    ∷ (102, codes "CacheRange")
    ∷ (103, codes "TooSmall")
    ∷ (104, codes "NoSuchPlace")
    ∷ (105, codes "NoSuchJob")
    ∷ (106, codes "NoSuchSlice")
    ∷ (107, codes "NotValid")
    ∷ (108, codes "NothingDue")
    ∷ (109, codes "JobsSpent")
    ∷ (110, codes "Stale")
    ∷ (111, codes "NotHeld")
    ∷ (112, codes "Pending")
    ∷ (113, codes "HasFault")
    ∷ (114, codes "NoPicture")
    ∷ (115, codes "NotAnEdit")
    ∷ (116, codes "NoWeights")
    ∷ (117, codes "NoSuchName")
    ∷ (118, codes "SeveralSlices")
    ∷ []

-- a name, or another where there is none
abbrev pub name_or : Option (List ℕ) → Option (List ℕ) → Option (List ℕ)
name_or (Some name) other = Some name
name_or None other = other

-- the name of a status
abbrev pub name_of_status : ℕ → Option (List ℕ)
name_of_status number = name_or (name_in refusals number) (name_in answers number)

-- the names of faults
abbrev pub faults : List Row
faults =
    (1, codes "MissingPps")
    ∷ (2, codes "MissingSps")
    ∷ (3, codes "HeaderCut")
    ∷ (4, codes "HeaderValue")
    ∷ (5, codes "Redundant")
    ∷ (6, codes "SliceOrder")
    ∷ (7, codes "SliceMismatch")
    ∷ (8, codes "NoIdr")
    ∷ (9, codes "SpsChange")
    ∷ (10, codes "IdrFrameNum")
    ∷ (11, codes "FrameNumGap")
    ∷ (12, codes "FrameNumRepeat")
    ∷ (13, codes "OrderRange")
    ∷ (14, codes "OrderTie")
    ∷ (15, codes "NoReference")
    ∷ (16, codes "BadModification")
    ∷ (17, codes "BadMarking")
    ∷ (18, codes "TooManyReferences")
    ∷ []

-- the names of reasons why bytes are left out of a text that is mended
abbrev pub whys : List Row
whys =
    (1, codes "NotNalUnit")
    ∷ (2, codes "Empty")
    ∷ (3, codes "ForbiddenBytes")
    ∷ (4, codes "ForbiddenBit")
    ∷ (5, codes "UnitType")
    ∷ (6, codes "UnreadSps")
    ∷ (7, codes "UnreadPps")
    ∷ (8, codes "Switching")
    ∷ (9, codes "IdrNotIntra")
    ∷ (10, codes "IdrNotReference")
    ∷ (11, codes "TooLarge")
    ∷ []

-- the name of a number is written into a buffer, if it has one
abbrev pub FillsName : Option (List ℕ) → ℕ → List ℕ → List ℕ → ℕ → ℕ → Type 0
FillsName (Some name) status old new was needed = Fills name status old new needed
FillsName None status old new was needed = (status ≡ no_such_name) × (new ≡ old) × (needed ≡ was)

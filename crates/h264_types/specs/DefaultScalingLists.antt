-- The default scaling lists (ITU-T H.264, Tables 7-2 to 7-4), each in the order of its entries.
use Rattle.std.specs.Prelude.{ℕ, ◌==◌, List, [], ◌∷◌, nat_lt, if◌then◌else◌}

-- Default_4x4_Intra and Default_4x4_Inter (Table 7-3)
abbrev pub default_4x4_intra : List ℕ
default_4x4_intra = 6 ∷ 13 ∷ 13 ∷ 20 ∷ 20 ∷ 20 ∷ 28 ∷ 28 ∷ 28 ∷ 28 ∷ 32 ∷ 32 ∷ 32 ∷ 37 ∷ 37 ∷ 42 ∷ []

abbrev pub default_4x4_inter : List ℕ
default_4x4_inter = 10 ∷ 14 ∷ 14 ∷ 20 ∷ 20 ∷ 20 ∷ 24 ∷ 24 ∷ 24 ∷ 24 ∷ 27 ∷ 27 ∷ 27 ∷ 30 ∷ 30 ∷ 34 ∷ []

-- Default_8x8_Intra and Default_8x8_Inter (Table 7-4)
abbrev pub default_8x8_intra : List ℕ
default_8x8_intra =
    6 ∷ 10 ∷ 10 ∷ 13 ∷ 11 ∷ 13 ∷ 16 ∷ 16 ∷ 16 ∷ 16 ∷ 18 ∷ 18 ∷ 18 ∷ 18 ∷ 18 ∷ 23
    ∷ 23 ∷ 23 ∷ 23 ∷ 23 ∷ 23 ∷ 25 ∷ 25 ∷ 25 ∷ 25 ∷ 25 ∷ 25 ∷ 25 ∷ 27 ∷ 27 ∷ 27 ∷ 27
    ∷ 27 ∷ 27 ∷ 27 ∷ 27 ∷ 29 ∷ 29 ∷ 29 ∷ 29 ∷ 29 ∷ 29 ∷ 29 ∷ 31 ∷ 31 ∷ 31 ∷ 31 ∷ 31
    ∷ 31 ∷ 33 ∷ 33 ∷ 33 ∷ 33 ∷ 33 ∷ 36 ∷ 36 ∷ 36 ∷ 36 ∷ 38 ∷ 38 ∷ 38 ∷ 40 ∷ 40 ∷ 42
    ∷ []

abbrev pub default_8x8_inter : List ℕ
default_8x8_inter =
    9 ∷ 13 ∷ 13 ∷ 15 ∷ 13 ∷ 15 ∷ 17 ∷ 17 ∷ 17 ∷ 17 ∷ 19 ∷ 19 ∷ 19 ∷ 19 ∷ 19 ∷ 21
    ∷ 21 ∷ 21 ∷ 21 ∷ 21 ∷ 21 ∷ 22 ∷ 22 ∷ 22 ∷ 22 ∷ 22 ∷ 22 ∷ 22 ∷ 24 ∷ 24 ∷ 24 ∷ 24
    ∷ 24 ∷ 24 ∷ 24 ∷ 24 ∷ 25 ∷ 25 ∷ 25 ∷ 25 ∷ 25 ∷ 25 ∷ 25 ∷ 27 ∷ 27 ∷ 27 ∷ 27 ∷ 27
    ∷ 27 ∷ 28 ∷ 28 ∷ 28 ∷ 28 ∷ 28 ∷ 30 ∷ 30 ∷ 30 ∷ 30 ∷ 32 ∷ 32 ∷ 32 ∷ 33 ∷ 33 ∷ 35
    ∷ []

-- the default of list number j (Table 7-2)
abbrev pub default_list : ℕ → List ℕ
default_list j =
    if nat_lt j 3 then default_4x4_intra
    else if nat_lt j 6 then default_4x4_inter
    else if j == 6 then default_8x8_intra
    else default_8x8_inter

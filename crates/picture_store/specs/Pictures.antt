-- The pictures that a store has: each one that landed and hasn't gone back to the host.
use Rattle.std.specs.Prelude.{◌≡◌, List, [], ◌∷◌, ◌++◌, All, Contains, IsPermutation}
use Rattle.decode_jobs.specs.declared.input.Reference.{Reference}

-- the pictures that are held, and those that are cached, each in the order of their keys; and those
-- that are released: neither held nor cached any more, they haven't gone back yet
pub record Pictures (P : Type 0) : Type 0 where
  pub held : List P
  pub cached : List P
  pub released : List P

module _ {P : Type 0} where
  -- none
  abbrev pub no_pictures : Pictures P
  no_pictures = record { held = []; cached = []; released = [] }

  -- all of them
  abbrev pub all_of : Pictures P → List P
  all_of pictures = (pictures.held ++ pictures.cached) ++ pictures.released

  -- the picture of each reference is held
  abbrev pub ReferToHeld : Pictures P → List (Reference P) → Type 0
  ReferToHeld pictures references = All (λ reference. Contains pictures.held reference.picture) references

  -- these hold one picture more
  abbrev pub HoldMore : Pictures P → P → Pictures P → Type 0
  HoldMore less picture more =
      IsPermutation (picture ∷ less.held) more.held × (more.cached ≡ less.cached) × (more.released ≡ less.released)

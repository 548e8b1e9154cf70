-- The pictures that an input refers to, by the keys that are known.
use Rattle.std.specs.Prelude.{ℕ, List, map, Option, option_and_then}
use Rattle.h264_controls.specs.declared.request.Request.{Request}
use Rattle.decode_jobs.specs.Inputs.{InputValue}
use Rattle.decode_jobs.specs.Keys.{Key, named_by_all}
use Rattle.decode_jobs.specs.Made.{AreOfEntries, pictures_named}
use Rattle.picture_keys.specs.Known.{Known, key_at}

-- the keys that are known of the units that requests name, entry by entry
abbrev pub keys_named : Known → List Request → List (Option Key)
keys_named known requests = map (λ unit. option_and_then (key_at known) unit) (named_by_all requests)

module _ {P : Type 0} (IsOf : Key → P → Type 0) where
  -- at each entry of the lists of an input's requests stands a picture of the key that is known of
  -- the unit named
  abbrev pub ShowsKnown : Known → InputValue P → Type 0
  ShowsKnown known input = AreOfEntries IsOf (pictures_named input) (keys_named known input.requests)

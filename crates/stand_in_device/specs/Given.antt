-- What the work on a slice is given.
use Rattle.std.specs.Prelude.{ℕ, List}
use Rattle.stand_in_device.specs.declared.m2m_queues.slice_decoder.Target.{Target}

-- the controls of a slice, its bytes, the timestamp of its frame, and where it goes
pub record Given (C : Type 0) : Type 0 where
  pub controls : C
  pub bytes : List ℕ
  pub timestamp : ℕ
  pub target : Target

-- what is given, from its parts
abbrev pub given : {C : Type 0} → C → List ℕ → ℕ → Target → Given C
given controls bytes timestamp target =
    record { controls = controls; bytes = bytes; timestamp = timestamp; target = target }

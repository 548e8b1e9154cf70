-- Where no CAPTURE buffer is for a slice.
use Rattle.std.proofs.Common.{◌≡◌, ◌==◌, ℕ, Bool, true, false, Option, None, Some, is_some, refl, if◌then◌else◌}
use Rattle.stand_in_device.specs.declared.m2m_queues.slice_decoder.Target.{Target}
use Rattle.stand_in_device.specs.declared.m2m_queues.buffers.Buffer.{Buffer}
use Rattle.stand_in_device.specs.Runs.{another, begin, target_by}

-- where a held buffer is for no slice and not for another frame either, the test of its timestamp has failed twice
none_by : (same : Bool) (target : Target) (buffer : Buffer) (queued : Option Buffer) → (if same then Some target else begin queued) ≡ None → is_some (if same then None else Some buffer) ≡ false → (queued ≡ None) × (Some buffer ≡ None)
none_by true target buffer queued p q = cc
none_by false target buffer queued p q = cc

-- a slice for which there is no CAPTURE buffer, while none is held for another frame, finds none held and none queued
pub none_held_or_queued : (held queued : Option Buffer) (timestamp : ℕ) → target_by held queued timestamp ≡ None → is_some (another held timestamp) ≡ false → (queued ≡ None) × (held ≡ None)
none_held_or_queued None None timestamp p q = (refl, refl)
none_held_or_queued None (Some buffer) timestamp p q = cc
none_held_or_queued (Some buffer) queued timestamp p q =
    none_by (buffer.timestamp == timestamp) (record { capture = buffer.index; begins = false }) buffer queued p q

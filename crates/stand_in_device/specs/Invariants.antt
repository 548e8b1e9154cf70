-- What the type of the queues keeps of its fields.
use Rattle.std.specs.Prelude.{◌≡◌, ℕ, ◌==◌, ◌≤◌, ◌&&◌, true, List, count_by, if◌then◌else◌}
use Rattle.slab.specs.Slab.{Slab, get, slab_len}
use Rattle.stand_in_device.specs.declared.m2m_queues.requests.QueueRequest.{QueueRequest}
use Rattle.stand_in_device.specs.Machine.{is_queued, has_output, has_controls}

module _ {C : Type 0} where
  -- there is room for each request; each queued one stands in the order, once, and has controls and a buffer
  pub record IsSound (requests : Slab (QueueRequest C)) (order : List ℕ) : Type 0 where
    pub few : slab_len requests ≤ 64
    pub room : 64 ≤ requests.capacity
    pub each : (id : ℕ) → count_by (λ other. other == id) order ≡ (if is_queued (get requests id) then 1 else 0)
    pub whole : (id : ℕ) → is_queued (get requests id) ≡ true → (has_output (get requests id) && has_controls (get requests id)) ≡ true

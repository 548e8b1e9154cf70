-- What `?` answers where the slice_digest runs out of memory.
use Rattle.std.proofs.Common.{◌≡◌, Result, Ok, Err, ap, IsErrAnd}
use Rattle.stand_in_device.specs.declared.m2m_queues.fault.QueueFault.{QueueFault}
use Rattle.stand_in_device.specs.declared.m2m_queues.fault.QueueFault.TheVariants.{Memory}
use Rattle.stand_in_device.specs.declared.m2m_queues.slice_decoder.RunOne.{RunOne}

-- a refusal for memory is that one
pub refused_memory : (answer : Result RunOne QueueFault) → IsErrAnd answer (λ fault. fault ≡ Memory) → answer ≡ Err Memory
refused_memory (Ok done) h = absurd h
refused_memory (Err fault) h = ap Err h

-- The numbers of the faults.
use Rattle.std.specs.Prelude.{ℕ}
use Rattle.stand_in_device.specs.declared.m2m_queues.fault.QueueFault.{QueueFault}
use Rattle.stand_in_device.specs.declared.m2m_queues.fault.QueueFault.TheVariants.{Busy, NoEntry, Invalid, Again, NoSlot, Memory}

-- the number that stands for a fault
abbrev pub number_of : QueueFault → ℕ
number_of Busy = 1
number_of NoEntry = 2
number_of Invalid = 3
number_of Again = 4
number_of NoSlot = 5
number_of Memory = 6

pub mod NalUnit
pub mod EmulationPrevention
pub mod ByteStream
pub mod Faults
pub mod SplitFault
pub mod AccessUnits
pub mod Search

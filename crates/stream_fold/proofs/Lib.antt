pub mod Chains
pub mod MarkedFrames
pub mod SliceHeaders
pub mod IntraSlices
pub mod ReadSlices
pub mod Gathered
pub mod Requests
pub mod KnownUnits
pub mod NamedUnits
pub mod Plans
pub mod Decodable
pub mod AlikeKeys
pub mod AlikeSteps
pub mod Agreement
pub mod LaterUnits
mod Fronts
pub mod Changed
pub mod Folds
mod Going
mod Storage
mod Anew
mod Thinned
mod Committed
mod Reaching
mod Range
mod InFront
mod Digests
mod Placed
mod Ranges

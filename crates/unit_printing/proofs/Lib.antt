pub mod RequestLines
pub mod DpbTexts
pub mod Appending
pub mod FrameTexts
pub mod PictureLines
mod FoldSteps
mod SaidLines
mod SeenIds
pub mod Ends

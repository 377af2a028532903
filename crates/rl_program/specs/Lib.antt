-- to be believed, in reading order
pub mod Replay
pub mod Headline
pub mod RunHeadline
pub mod ReadBack
pub mod Command
pub mod RunAnswer
pub mod CheckAnswer
pub mod Answer
pub mod laws

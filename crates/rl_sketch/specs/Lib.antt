-- to be believed, in reading order
pub mod Sketch
pub mod SketchReading

pub mod OneByOne
pub mod Running
mod WholeRun
mod MadeLaws

pub mod StopLaws
pub mod PageLaws

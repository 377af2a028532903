pub mod OpeningLaws
pub mod VolumeLaws

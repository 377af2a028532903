pub mod WayOnLaws

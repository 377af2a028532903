pub mod RowLaws
pub mod CallingLaws
pub mod CallerLaws
pub mod RunLaws
pub mod EndLaws
pub mod ToldLaws
pub mod EntriesFit
pub mod ReportLaws

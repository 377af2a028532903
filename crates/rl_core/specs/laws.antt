pub mod RankLaws
pub mod OpsBridge
pub mod JournalLaws
pub mod Filling
pub mod TouchLaws
pub mod AskLaws
